-- The first journal that is refused is told.
use Rattle.std.proofs.Common.{◌≡◌, ◌≢◌, ℕ, List, Option, Some, None, refl, subst}
use Rattle.std.specs.Global.{Vec}
use Rattle.durable_model.specs.declared.disk.Disk as disks
use Rattle.durable_pair.specs.declared.pair.Pair as pairs
use Rattle.paxos_core_world.specs.Quorum.{Sizes}
use Rattle.acceptor_log_form.specs.declared.errors.LogError.{LogError}
use Rattle.acceptor_log_form.specs.declared.errors.LogError.TheVariants as log
use Rattle.acceptor_log_form.specs.declared.record.Record.{Record}
use Rattle.acceptor_log.specs.declared.log.Log.{Log}
use Rattle.farm_nodes_open_journals.specs.Journals.{IsRefusedAt}
use Rattle.farm_nodes_open_seats.specs.declared.fault.OpenFault.TheVariants.{Journal}
use Rattle.farm_nodes_open_seats.specs.Faults.{fault_of_journal}
use Rattle.farm_nodes_open_seats.proofs.Told.{IsJournals, journals_fault}
use Rattle.farm_nodes_open_nodes.specs.Refused.{IsRefusedJournal}

-- the journal that is told is refused, and those in front of it are open
module _ {D : Type 0} (disk : disks.Ghosts D) (pair : pairs.Ghosts D) (q : Sizes) (digest : List ℕ) (given : List D) (node : ℕ) (fault : LogError) (opened : List (Log D × Vec Record)) (behind : List D) where
  here : (back : Option D) → IsRefusedAt disk pair q digest given node fault opened back behind → fault ≢ log.NoMemory → IsRefusedJournal disk pair q digest given node fault
  here None refused memory = absurd (memory (refused.none refl).0)
  here (Some b) refused memory =
      let some = refused.some b refl in
      record { journals = opened; front = refused.front; on = some.0; back = b; stands = some.1; refused = some.2 }

  pub refused_journal : (back : Option D) → IsRefusedAt disk pair q digest given node fault opened back behind → (i : ℕ) (e : LogError) → fault_of_journal node fault ≡ Journal i e → IsRefusedJournal disk pair q digest given i e
  refused_journal back refused i e told =
      let is : IsJournals node fault i e = journals_fault node fault i e told in
      let at : IsRefusedJournal disk pair q digest given node fault = here back refused is.no_memory in
      subst (λ (x : LogError). IsRefusedJournal disk pair q digest given i x) is.fault_is (subst (λ (n : ℕ). IsRefusedJournal disk pair q digest given n fault) is.node_is at)
