-- Where all stands that is on the disks, nothing but the machine keeps a farm from opening.
use Rattle.std.proofs.Common.{◌≡◌, ◌≢◌, ◌⊎◌, ℕ, List, length, refl, subst, inl, inr}
use Rattle.std.specs.Global.{Vec}
use Rattle.durable_model.specs.declared.disk.Disk as disks
use Rattle.durable_pair.specs.declared.pair.Pair as pairs
use Rattle.lang_base.specs.declared.program.Program.{Program}
use Rattle.rtl_language.specs.Function.{FunctionData}
use Rattle.paxos_core_world.specs.Quorum.{Sizes}
use Rattle.acceptor_log_form.specs.declared.errors.LogError.{LogError}
use Rattle.acceptor_log_form.specs.declared.errors.LogError.TheVariants as journal
use Rattle.farm_nodes_open_numbers.specs.declared.fault.RoomFault.{RoomFault}
use Rattle.farm_nodes_open_nodes.specs.FarmNodesOpenSeatsRefused.{IsRoomUnopened}
use Rattle.farm_nodes_open_nodes.specs.OpenFault.{OpenFault}
use Rattle.farm_nodes_open_nodes.specs.OpenFault.TheVariants.{NoMemory, Journal, Refused, Room}
use Rattle.farm_nodes_open_nodes.specs.Refused.{OfJournals, TellsJournal, TellsOffer, TellsRoom}
use Rattle.farm_nodes_crash.specs.Machine.{IsOfMachine, OpensButForMachine}
use Rattle.farm_nodes_crash.specs.Stand.{JournalsStand, OffersStand, RecordsStand, RoomsStand}

one_of_two : (fault : LogError) → (fault ≢ journal.NoMemory → fault ≢ journal.Device → ⊥) → (fault ≡ journal.NoMemory) ⊎ (fault ≡ journal.Device)
one_of_two journal.NoMemory never = inl refl
one_of_two journal.Device never = inr refl
one_of_two journal.NotAJournal never = absurd (never (λ e. absurd (cc)) (λ e. absurd (cc)))
one_of_two journal.BadRecord never = absurd (never (λ e. absurd (cc)) (λ e. absurd (cc)))
one_of_two journal.OtherSource never = absurd (never (λ e. absurd (cc)) (λ e. absurd (cc)))
one_of_two journal.Stopped never = absurd (never (λ e. absurd (cc)) (λ e. absurd (cc)))
one_of_two journal.Full never = absurd (never (λ e. absurd (cc)) (λ e. absurd (cc)))

module _ {D : Type 0} (disk : disks.Ghosts D) (pair : pairs.Ghosts D) (q : Sizes) (digest : List ℕ) (program : Program FunctionData) (given : List D)
    (journals : JournalsStand disk pair q digest (length program.functions) given) (records : RecordsStand disk pair q digest (length program.functions) given)
    (offers : OffersStand disk pair q digest (length program.functions) given) (rooms : RoomsStand disk pair q digest (length program.functions) given) where
  of_machine : (back : Vec D) (fault : OpenFault) → TellsJournal disk pair q digest given program (back, fault)
      → TellsOffer disk pair q digest given program (back, fault) → TellsRoom disk pair q digest given program (back, fault) → IsOfMachine fault
  of_machine back NoMemory journal offer room = tt
  of_machine back (Journal node fault) journal offer room =
      elim (journal node fault refl) [
        | inl refused ↦ one_of_two fault (journals node fault refused)
        | inr bad ↦ absurd (records node bad.1)
      ]
  of_machine back (Refused node) journal offer room = offers node (offer node refl)
  of_machine back (Room number fault) journal offer room = λ is.
      rooms number (subst (λ (f : RoomFault). OfJournals disk pair q digest given (λ opened. IsRoomUnopened (length program.functions) opened q number f)) is
      (room number fault refl))

  pub but_for_machine : OpensButForMachine disk pair q digest program given
  but_for_machine told journal offer room = of_machine told.0 told.1 journal offer room
