-- The pairs of disks that come back where a farm is not opened.
use Rattle.std.specs.Prelude.{◌≡◌, ◌≤◌, ◌+◌, ◌⊎◌, ◌++◌, ℕ, List, length, map, option_to_list, vec_capacity}
use Rattle.std.specs.Global.{Vec}
use Rattle.std.specs.Vec.Iter.{into_iter_items}
use Rattle.durable_model.specs.declared.disk.Disk as disks
use Rattle.durable_pair.specs.declared.pair.Pair as pairs
use Rattle.paxos_core_world.specs.Quorum.{Sizes}
use Rattle.acceptor_log_form.specs.declared.errors.LogError.{LogError}
use Rattle.acceptor_log_form.specs.declared.record.Record.{Record}
use Rattle.acceptor_log.specs.declared.log.Log.{Log}
use Rattle.farm_nodes_open_journals.specs.Journals.{header_of, IsOpened, IsRefused}
use Rattle.farm_nodes_open_journals.specs.declared.refused.RefusedPair.{RefusedPair}
use Rattle.farm_nodes_open_seats.specs.Nodes.{AreMade}

module _ {D : Type 0} (disk : disks.Ghosts D) (pair : pairs.Ghosts D) (q : Sizes) (digest : List ℕ) where
  -- it is the journal of node i on the pair that was given
  abbrev pub IsJournalOn : ℕ → D → Log D → Type 0
  IsJournalOn i given log = (rs : List Record) × IsOpened disk pair (header_of q digest i) given log rs

  -- they are the journals of all nodes, each on its pair
  abbrev pub AreJournalsOn : List D → List (Log D) → Type 0
  AreJournalsOn given logs = AreMade IsJournalOn given (length given) logs

  -- It is the pair as it was given; or as it was left by its journal, which was opened or refused.
  abbrev pub IsBack : ℕ → D → D → Type 0
  IsBack i given back =
      (back ≡ given) ⊎ ((log : Log D) × IsJournalOn i given log × (log.disk ≡ back))
      ⊎ ((fault : LogError) × IsRefused disk pair (header_of q digest i) given back fault)

  -- so it is of all pairs
  abbrev pub AllComeBack : List D → List D → Type 0
  AllComeBack given backs = AreMade IsBack given (length given) backs

module _ {D : Type 0} where
  -- all pairs behind these, where one is refused: the disks of the journals in front of it, itself, and those behind it
  abbrev pub with_all_of : List D → RefusedPair D → List D
  with_all_of back refused = ((back ++ map (λ (j : Log D × Vec Record). j.0.disk) refused.opened.items) ++ option_to_list refused.pair)
      ++ into_iter_items refused.behind

  -- they fit there
  abbrev pub HasCapacityForAll : Vec D → RefusedPair D → Type 0
  HasCapacityForAll back refused = length back.items + length refused.opened.items + length (option_to_list refused.pair)
      + length (into_iter_items refused.behind) ≤ vec_capacity back
