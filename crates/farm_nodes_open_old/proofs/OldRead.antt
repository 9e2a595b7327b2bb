-- The old disk is synced and read: both disks are as they were.
use Rattle.std.proofs.Common.{◌≡◌, ℕ, List, [], sym, ◌∙◌, subst}
use Rattle.std.specs.Prelude.{◌↔◌}
use Rattle.durable_model_writes.specs.declared.call.Call.TheVariants.{Synced, Left}
use Rattle.durable_model.specs.Honest.{Elapses}
use Rattle.durable_model.specs.Moments.{LeavesOnly, started, goes_on}
use Rattle.durable_model.specs.declared.disk.Disk as disks
use Rattle.durable_pair.specs.declared.pair.Pair as pairs
use Rattle.durable_pair.specs.Images.{Images, Both}
use Rattle.durable_pair.specs.Does.{Does}
use Rattle.farm_nodes_open_old.specs.OnPairs.{IsSame}

pub both_ways : {A B C : Type 0} → (C ↔ B) → (B ↔ A) → C ↔ A
both_ways second first = (λ c. first.0 (second.0 c), λ a. second.1 (first.1 a))

module _ {P : Type 0} (disk : disks.Ghosts P) (pair : pairs.Ghosts P) where
  pub same_left : (p q : P) → Does disk.moment pair.both_since (Both pair.new_may pair.old_may) pair.old_seen pair.old_may disk.seen pair.new_may Left [] p q
      → IsSame disk pair p q
  same_left p q does = record {
    new_same = does.other_same;
    old_same = does.sees;
    new_left = λ c left. (does.other_left c).0 left;
    old_left = λ d left. does.left d left;
  }

  pub same_synced : (p q : P) → pair.old_may p (pair.old_seen p)
      → Does disk.moment pair.both_since (Both pair.new_may pair.old_may) pair.old_seen pair.old_may disk.seen pair.new_may Synced [] p q
      → IsSame disk pair p q
  same_synced p q here does = record {
    new_same = does.other_same;
    old_same = does.sees;
    new_left = λ c left. (does.other_left c).0 left;
    old_left = λ d left. subst (pair.old_may p) (sym (does.left d left)) here;
  }

  pub same_over : (p q r : P) → IsSame disk pair p q → IsSame disk pair q r → IsSame disk pair p r
  same_over p q r first second = record {
    new_same = second.new_same ∙ first.new_same;
    old_same = second.old_same ∙ first.old_same;
    new_left = λ c left. first.new_left c (second.new_left c left);
    old_left = λ d left. first.old_left d (second.old_left d left);
  }

  pub run_by : (p q : P) → ((im : Images) → pair.both_since p (disk.moment p) im → Both pair.new_may pair.old_may p im) → IsSame disk pair p q
      → Elapses disk.moment pair.both_since (Both pair.new_may pair.old_may) p q → LeavesOnly disk.moment pair.both_since p q (Both pair.new_may pair.old_may p)
  run_by p q only same time =
      goes_on disk.moment pair.both_since p p q (Both pair.new_may pair.old_may p) (Both pair.new_may pair.old_may)
      (started disk.moment pair.both_since p (Both pair.new_may pair.old_may p) only) time
      (λ im now. (same.new_left im.0 now.0, same.old_left im.1 now.1))

  pub run_then : (p q r : P) → LeavesOnly disk.moment pair.both_since p q (Both pair.new_may pair.old_may p) → IsSame disk pair p r
      → Elapses disk.moment pair.both_since (Both pair.new_may pair.old_may) q r → LeavesOnly disk.moment pair.both_since p r (Both pair.new_may pair.old_may p)
  run_then p q r run same time =
      goes_on disk.moment pair.both_since p q r (Both pair.new_may pair.old_may p) (Both pair.new_may pair.old_may) run time
      (λ im now. (same.new_left im.0 now.0, same.old_left im.1 now.1))
