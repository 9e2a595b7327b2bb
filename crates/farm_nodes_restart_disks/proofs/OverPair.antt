-- A node comes back over the new disk of a pair, once the old one was read.
use Rattle.std.proofs.Common.{◌≡◌, ◌≢◌, inl, ℕ, List, Option, Result, Err, refl, sym, ◌∙◌, subst}
use Rattle.durable_model.specs.Honest.{Unchanged}
use Rattle.durable_model.specs.Moments.{LeavesOnly}
use Rattle.durable_model.specs.declared.disk.Disk as disks
use Rattle.durable_pair.specs.declared.pair.Pair as pairs
use Rattle.durable_pair.specs.Images.{Images, IsSpent, Shows, Both}
use Rattle.acceptor_log_form.specs.declared.errors.LogError.{LogError}
use Rattle.acceptor_log_form.specs.declared.errors.LogError.TheVariants as log
use Rattle.farm_nodes_restart_node.specs.Back.{CountsFailures}
use Rattle.farm_nodes_restart_seat.specs.declared.fault.RestartFault.{RestartFault}
use Rattle.farm_nodes_restart_seat.specs.Refusals.{restart_fault}
use Rattle.farm_nodes_restart_disks.specs.Cause.{HasCauseBefore}
use Rattle.farm_nodes_open_old.specs.OnPairs.{MayShow, IsSame, IsShown, IsUntouched}
use Rattle.farm_nodes_open_old.proofs.Shows.{shows_then}

module _ {P : Type 0} (disk : disks.Ghosts P) (pair : pairs.Ghosts P) (p m : P) (same : IsSame disk pair p m) (spent : IsSpent (pair.old_seen p)) (honest : disk.is_honest m)
    (only_new : (p : P) (c : List ℕ) → disk.is_honest p → disk.may_leave p c → pair.new_may p c) where
  pub is_shown : (n : P) → Unchanged disk.seen disk.may_leave m n → IsShown disk pair p n
  is_shown n un = record {
    same = un.same ∙ same.new_same;
    nothing_new = λ c left. same.new_left c (only_new m c honest (un.nothing_new c left));
  }

  pub is_untouched : (n : P) → Unchanged disk.seen disk.may_leave m n → IsSpent (pair.old_seen n) → IsUntouched disk pair p n
  is_untouched n un now = record {
    new_same = un.same ∙ same.new_same;
    old_same = λ counts. absurd (counts spent);
    spent = λ was. now;
  }

  pub moments_over : (shown : (p : P) (t : ℕ) (im : Images) (c : List ℕ) → pair.both_since p t im → Shows im c → disk.left_since p t c)
      (of_both : (p : P) (t : ℕ) (c : List ℕ) → disk.left_since p t c → (im : Images) × pair.both_since p t im × Shows im c)
      → pair.old_may p (pair.old_seen p) → LeavesOnly disk.moment pair.both_since p m (Both pair.new_may pair.old_may p)
      → (n : P) → LeavesOnly disk.moment disk.left_since m n (disk.may_leave m) → LeavesOnly disk.moment disk.left_since p n (MayShow disk pair p)
  moments_over shown of_both here first n second =
      shows_then disk pair shown of_both p m first n second
      (λ c left. ((c, pair.old_seen p), (same.new_left c (only_new m c honest left), here), inl (spent, refl)))

-- where nothing was written
pub same_untouched : {P : Type 0} (disk : disks.Ghosts P) (pair : pairs.Ghosts P) (p m : P) → IsSame disk pair p m → IsUntouched disk pair p m
same_untouched disk pair p m same = record {
  new_same = same.new_same;
  old_same = λ counts. same.old_same;
  spent = λ spent. subst IsSpent (sym same.old_same) spent;
}

-- where nothing failed before
pub counts_from : (before mid now : ℕ) (told : Option RestartFault) → mid ≡ before → CountsFailures mid now told → CountsFailures before now told
counts_from before mid now told same counted = subst (λ (n : ℕ). CountsFailures n now told) same counted

-- why the old disk was not read
pub early : (old : List ℕ) (e : LogError) → (e ≢ log.Device → e ≡ log.NoMemory) → HasCauseBefore old (restart_fault e)
early old log.NoMemory only = tt
early old log.Device only = inl refl
early old log.NotAJournal only = let bad = only (λ same. absurd (cc)) in absurd (cc)
early old log.BadRecord only = let bad = only (λ same. absurd (cc)) in absurd (cc)
early old log.OtherSource only = let bad = only (λ same. absurd (cc)) in absurd (cc)
early old log.Stopped only = let bad = only (λ same. absurd (cc)) in absurd (cc)
early old log.Full only = let bad = only (λ same. absurd (cc)) in absurd (cc)

pub one_fault : {T E : Type 0} {x y : E} → ◌≡◌ {A = Result T E} (Err x) (Err y) → x ≡ y
one_fault same = cc
