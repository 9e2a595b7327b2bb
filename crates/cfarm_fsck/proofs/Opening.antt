-- Why a folder does not open.
use Rattle.std.proofs.Common.{◌≡◌, ℕ, List, length, refl, sym, subst, inl, inr}
use Rattle.std.specs.Global.{Vec}
use Rattle.lang_base.specs.declared.program.Program.{Program}
use Rattle.rtl_language.specs.declared.function.Function.{Function}
use Rattle.paxos_core_world.specs.Quorum.{Sizes}
use Rattle.acceptor_log_form.specs.declared.record.Record.{Record}
use Rattle.acceptor_log_form.specs.declared.errors.LogError.{LogError}
use Rattle.acceptor_log_form.specs.declared.errors.LogError.TheVariants as log
use Rattle.farm_nodes_open_seats.specs.RoomFault.{RoomFault}
use Rattle.farm_nodes_open_seats.specs.Refused.{HasBadRecord, HasRefusedOffer, IsRoomUnopened}
use Rattle.farm_nodes_open_seats.specs.declared.fault.OpenFault.{OpenFault}
use Rattle.farm_nodes_open_seats.specs.declared.fault.OpenFault.TheVariants.{NoMemory, Journal, Refused, Room}
use Rattle.cfarm_fsck_journals.specs.declared.files.NodeFiles.{NodeFiles}
use Rattle.cfarm_fsck.specs.Folder.{AreJournalsIn, IsNoOther, IsOfRefusedFile}
use Rattle.cfarm_fsck.specs.Told.{IsFaultOf}

module _ (q : Sizes) (digest : List ℕ) (program : Program Function) (files : List NodeFiles) where
  -- a journal is refused
  pub journals_refused : (it : OpenFault) → IsOfRefusedFile q digest files it → IsNoOther it
      → IsFaultOf q digest program files it
  journals_refused NoMemory journal others = tt
  journals_refused (Journal node fault) journal others = inl (journal node fault refl)
  journals_refused (Refused node) journal others = absurd (others.0 node refl)
  journals_refused (Room room fault) journal others = absurd (others.1 room fault refl)

  -- what stands in them is, or a room
  pub rooms_refused : (functions : ℕ) (view journals : List (ℕ × Vec Record)) (it : OpenFault) → functions ≡ length program.functions → view ≡ journals
      → AreJournalsIn q digest files journals
      → ((node : ℕ) (fault : LogError) → it ≡ Journal node fault → (fault ≡ log.BadRecord) × HasBadRecord functions view node)
      → ((node : ℕ) → it ≡ Refused node → HasRefusedOffer functions view node)
      → ((room : ℕ) (fault : RoomFault) → it ≡ Room room fault → IsRoomUnopened functions view q room fault)
      → IsFaultOf q digest program files it
  rooms_refused functions view journals NoMemory count same listed bad refused unopened = tt
  rooms_refused functions view journals (Journal node fault) count same listed bad refused unopened =
      let found = bad node fault refl in
      inr (
        found.0,
        (
          journals,
          listed,
          subst (λ (js : List (ℕ × Vec Record)). HasBadRecord (length program.functions) js node) same
              (subst (λ (n : ℕ). HasBadRecord n view node) count found.1),
        ),
      )
  rooms_refused functions view journals (Refused node) count same listed bad refused unopened = (
    journals,
    listed,
    subst (λ (js : List (ℕ × Vec Record)). HasRefusedOffer (length program.functions) js node) same
        (subst (λ (n : ℕ). HasRefusedOffer n view node) count (refused node refl)),
  )
  rooms_refused functions view journals (Room room fault) count same listed bad refused unopened = (
    journals,
    listed,
    subst (λ (js : List (ℕ × Vec Record)). IsRoomUnopened (length program.functions) js q room fault) same
        (subst (λ (n : ℕ). IsRoomUnopened n view q room fault) count (unopened room fault refl)),
  )
