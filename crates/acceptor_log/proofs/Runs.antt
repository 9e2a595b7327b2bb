-- What results of calls say, and what runs of calls leave.
use Rattle.std.proofs.Common.{Result, Ok, Err, ℕ, ◌≤◌, List, ⊎_elim, inl, inr}
use Rattle.std.specs.Result.{OnOk}
use Rattle.durable_model.specs.Moments.{LeavesOnly}

-- of a success two facts make one
pub both_ok : {T E P Q R : Type 0} (r : Result T E) → OnOk r P → OnOk r Q → (P → Q → R) → OnOk r R
both_ok (Ok x) p q join = join p q
both_ok (Err e) p q join = tt

-- a run after which less is said
pub weaker : {D I : Type 0} {moment : D → ℕ} {left_since : D → ℕ → I → Type 0} {old new : D} {P Q : I → Type 0}
    → LeavesOnly moment left_since old new P → ((c : I) → P c → Q c) → LeavesOnly moment left_since old new Q
weaker run says = record {
  later = run.later;
  each = λ c left. says c (run.each c left);
  before = λ t c le left. ⊎_elim (λ past. inl past) (λ has. inr (says c has)) (run.before t c le left);
}

-- what a crash at the end of a run leaves, where this moment counts as one of those since an earlier one
pub at_end : {D : Type 0} {moment : D → ℕ} {left_since : D → ℕ → List ℕ → Type 0} {old new : D} {P : List ℕ → Type 0}
    → (may_leave : D → List ℕ → Type 0)
    → ((t : ℕ) (c : List ℕ) → t ≤ moment new → may_leave new c → left_since new t c)
    → LeavesOnly moment left_since old new P → (c : List ℕ) → may_leave new c → P c
at_end {moment = moment} {old = old} may_leave counts run c left = run.each c (counts (moment old) c run.later left)
