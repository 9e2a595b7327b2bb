-- Time goes on over a call of a disk in memory.
use Rattle.std.proofs.Common.{◌≡◌, ◌⊎◌, ℕ, ◌≤◌, List, [], ◌∷◌, ◌++◌, length, sym, ap, subst, arith, inl, inr}
use Rattle.durable_model_writes.specs.declared.call.Call.{Call}
use Rattle.durable_model.specs.declared.memory.MemoryDisk.{MemoryDisk}
use Rattle.durable_model.specs.Honest.{Elapses}
use Rattle.durable_model_writes.specs.History.{MayLeave, LeftSince}
use Rattle.durable_model.specs.Memory.{history, memory_moment, memory_may_leave, memory_left_since, Notes}

-- a moment before the last call, or this one
split_since : (first : List ℕ) (last : Call × List ℕ) (all later earlier : List (Call × List ℕ)) (t : ℕ) (c : List ℕ)
    → last ∷ all ≡ later ++ earlier → t ≤ length earlier → MayLeave earlier first c
    → LeftSince all first t c ⊎ MayLeave (last ∷ all) first c
split_since first last all [] earlier t c whole since left = inr (subst (λ h. MayLeave h first c) (sym whole) left)
split_since first last all (x ∷ later) earlier t c whole since left =
    inl (record { later = later; earlier = earlier; whole = cc; since = since; left = left })

since_more : (first : List ℕ) (last : Call × List ℕ) (all : List (Call × List ℕ)) (t : ℕ) (c : List ℕ)
    → LeftSince all first t c → LeftSince (last ∷ all) first t c
since_more first last all t c left = record {
  later = last ∷ left.later;
  earlier = left.earlier;
  whole = ap (λ h. last ∷ h) left.whole;
  since = left.since;
  left = left.left;
}

pub noted_elapses : (old new : MemoryDisk) (call : Call) (bytes : List ℕ) → Notes call bytes old new
    → Elapses memory_moment memory_left_since memory_may_leave old new
noted_elapses old new call bytes notes =
    let last : Call × List ℕ = (call, bytes) in
    let all = history old in
    let first = old.first.items in
    record {
      later = omega (arith, ap length notes.history_is);
      nothing_else = λ t c le left.
          let before : LeftSince (last ∷ all) first t c =
          subst (λ h. LeftSince h first t c) notes.history_is (subst (λ f. LeftSince (history new) f t c) notes.first_is left) in
          elim (split_since first last all before.later before.earlier t c before.whole before.since before.left) [
            | inl past ↦ inl past
            | inr now ↦ inr (subst (λ f. MayLeave (history new) f c) (sym notes.first_is) (subst (λ h. MayLeave h first c) (sym notes.history_is) now))
          ];
      keeps = λ t c le left.
          subst (λ f. LeftSince (history new) f t c) (sym notes.first_is)
          (subst (λ h. LeftSince h first t c) (sym notes.history_is) (since_more first last all t c left));
    }
