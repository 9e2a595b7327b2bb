-- What a call on the new disk of a pair in memory does to the pair as one disk.
use Rattle.std.proofs.Common.{◌≡◌, ◌⊎◌, ℕ, List, [], length, inl, inr, refl, sym, ◌∙◌, subst}
use Rattle.std.specs.Prelude.{◌↔◌}
use Rattle.durable_model_writes.specs.declared.call.Call.{Call}
use Rattle.durable_model_writes.specs.declared.call.Call.TheVariants.{Wrote, Tore, Synced, Left}
use Rattle.durable_model_writes.specs.Writes.{Torn, torn_nothing}
use Rattle.durable_model_writes.specs.History.{MayLeaveAfter}
use Rattle.durable_model.specs.Honest.{Only, NothingNew, Follows, Unchanged, Elapses}
use Rattle.durable_model.specs.Memory.{left_as_kept}
use Rattle.durable_pair_memory.specs.declared.memory.MemoryPair.{MemoryPair}
use Rattle.durable_pair_memory.specs.InMemory.{seen_new, may_leave_new, pair_moment, shown_since, may_show, OldIsSpent, DoesNew, shown_is_new, new_is_shown}

module _ (old new : MemoryPair) (call : Call) (bytes : List ℕ) (does : DoesNew call bytes old new) where
  pub as_honest : OldIsSpent new ↔ OldIsSpent old
  as_honest = (λ spent d left. spent d ((does.other_left d).1 left), λ spent d left. spent d ((does.other_left d).0 left))

  pub as_time : Elapses pair_moment shown_since may_show old new
  as_time = record {
    later = does.time.later;
    nothing_else = λ t c le left. elim (does.time.nothing_else t left.0 le left.1) [
      | inl past ↦ inl (left.0, past, left.2)
      | inr now ↦ inr (left.0, now, left.2)
    ];
    keeps = λ t c le left. (left.0, does.time.keeps t left.0 le left.1, left.2);
  }

  follows : (at n : ℕ) → ((c : List ℕ) → MayLeaveAfter call bytes (may_leave_new old) (seen_new old) c → (d : List ℕ) × may_leave_new old d × Torn at n d c)
      → OldIsSpent old → Follows (Torn at n) (may_show old) (may_show new)
  follows at n tears spent c left =
      let was = tears c (does.left c (shown_is_new new c (as_honest.1 spent) left)) in
      (was.0, new_is_shown old was.0 spent was.1, was.2)

  nothing_shown : NothingNew (may_leave_new old) (may_leave_new new) → NothingNew (may_show old) (may_show new)
  nothing_shown nothing c left = (left.0, (nothing left.0.0 left.1.0, (does.other_left left.0.1).0 left.1.1), left.2)

pub wrote_follows : (old new : MemoryPair) (at n : ℕ) (bytes : List ℕ) → n ≡ length bytes → DoesNew (Wrote at n) bytes old new
    → OldIsSpent old → Follows (Torn at n) (may_show old) (may_show new)
wrote_follows old new at n bytes long does =
    follows old new (Wrote at n) bytes does at n (λ c left. (left.0, left.1, subst (λ (k : ℕ). Torn at k left.0 c) (sym long) left.2))

pub tore_follows : (old new : MemoryPair) (at n : ℕ) → DoesNew (Tore at n) [] old new → OldIsSpent old → Follows (Torn at n) (may_show old) (may_show new)
tore_follows old new at n does = follows old new (Tore at n) [] does at n (λ c left. left)

pub left_unchanged : (old new : MemoryPair) → DoesNew Left [] old new → Unchanged seen_new may_show old new
left_unchanged old new does = record { same = does.sees; nothing_new = nothing_shown old new Left [] does does.left }

pub synced_unchanged : (old new : MemoryPair) → DoesNew Synced [] old new → Unchanged seen_new may_show old new
synced_unchanged old new does = record {
  same = does.sees;
  nothing_new = nothing_shown old new Synced [] does (λ c left. subst (may_leave_new old) (sym (does.left c left)) (left_as_kept old.fresh));
}

pub synced_only : (old new : MemoryPair) → DoesNew Synced [] old new → OldIsSpent old → Only (seen_new new) (may_show new)
synced_only old new does spent c left =
    does.left c (shown_is_new new c ((as_honest old new Synced [] does).1 spent) left) ∙ sym does.sees

pub left_follows : (old new : MemoryPair) (at n : ℕ) → DoesNew Left [] old new → OldIsSpent old → Follows (Torn at n) (may_show old) (may_show new)
left_follows old new at n does = follows old new Left [] does at n (λ c left. (c, left, torn_nothing c at n))
