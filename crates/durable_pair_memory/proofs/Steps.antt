-- What a call that was noted on both disks does to each.
use Rattle.std.proofs.Common.{◌≡◌, ◌⊎◌, ℕ, ◌≤◌, List, [], ◌∷◌, length, refl, sym, ◌∙◌, ap, subst, arith, inl, inr}
use Rattle.std.specs.Prelude.{◌↔◌, ⊤}
use Rattle.durable_model_writes.specs.declared.call.Call.{Call}
use Rattle.durable_model_writes.specs.declared.call.Call.TheVariants.{Wrote, Tore, Synced, Left}
use Rattle.durable_model_writes.specs.Writes.{overwritten, Torn, torn_nothing, torn_overwritten}
use Rattle.durable_model_writes.specs.History.{noted, after, seen_after, MayLeaveAfter, MayLeave}
use Rattle.durable_model.specs.declared.memory.MemoryDisk.{MemoryDisk}
use Rattle.durable_model.specs.Honest.{Elapses}
use Rattle.durable_model.specs.Memory.{history, seen_by_memory, memory_may_leave, Notes, StandsAs}
use Rattle.durable_pair_memory.specs.declared.memory.MemoryPair.{MemoryPair}
use Rattle.durable_pair.specs.Images.{Images}
use Rattle.durable_pair.specs.Does.{Sees, Does}
use Rattle.durable_pair_memory.specs.Lockstep.{Calls, CutSince}
use Rattle.durable_pair_memory.specs.InMemory.{seen_new, seen_old, may_leave_new, may_leave_old, may_leave_both, pair_moment, left_of_both_since, DoesNew, DoesOld, Steps, NotesNothing, Moves}
use Rattle.durable_pair_memory.proofs.Cuts.{cut_before, cut_more, cut_of, may_of}

sees_after : (call : Call) (bytes seen : List ℕ) → Sees call bytes seen (after call bytes seen)
sees_after (Wrote at n) bytes seen = refl
sees_after (Tore at n) bytes seen = torn_nothing seen at n
sees_after Synced bytes seen = refl
sees_after Left bytes seen = refl

module _ (call : Call) (bytes : List ℕ) (old new : MemoryDisk) (notes : Notes call bytes old new) where
  seen_is : seen_by_memory new ≡ after call bytes (seen_by_memory old)
  seen_is =
      new.kept ∙ ap (λ (f : List ℕ). seen_after (history new) f) notes.first_is
      ∙ ap (λ (h : Calls). seen_after h old.first.items) notes.history_is
      ∙ ap (λ (s : List ℕ). after call bytes s) (sym old.kept)

  note_sees : Sees call bytes (seen_by_memory old) (seen_by_memory new)
  note_sees = subst (λ (s : List ℕ). Sees call bytes (seen_by_memory old) s) (sym seen_is) (sees_after call bytes (seen_by_memory old))

  note_leaves : (c : List ℕ) → memory_may_leave new c → MayLeaveAfter call bytes (memory_may_leave old) (seen_by_memory old) c
  note_leaves c left =
      subst (λ (s : List ℕ). MayLeaveAfter call bytes (memory_may_leave old) s c) (sym old.kept)
      (may_of (history new) ((call, bytes) ∷ history old) new.first.items old.first.items c notes.history_is notes.first_is left)

-- beside a call on the other disk this one is as it was
module _ (old new : MemoryDisk) (notes : Notes Left [] old new) where
  beside_left : (c : List ℕ) → memory_may_leave new c ↔ memory_may_leave old c
  beside_left c = (
    λ left. may_of (history new) ((Left, []) ∷ history old) new.first.items old.first.items c notes.history_is notes.first_is left,
    λ left. may_of ((Left, []) ∷ history old) (history new) old.first.items new.first.items c (sym notes.history_is) (sym notes.first_is) left,
  )

-- time goes on
module _ (old new : MemoryPair) (call other : Call) (bytes written : List ℕ) (one : Notes call bytes old.fresh new.fresh) (two : Notes other written old.former new.former) where
  noted_time : Elapses pair_moment left_of_both_since may_leave_both old new
  noted_time =
      let x : Call × List ℕ = (call, bytes) in
      let y : Call × List ℕ = (other, written) in
      let f = old.fresh.first.items in
      let d = old.former.first.items in
      let h = history old.fresh in
      let g = history old.former in
      record {
        later = omega (arith, ap length one.history_is);
        nothing_else = λ t im le cut.
            let moved : CutSince (x ∷ h) (y ∷ g) f d t im =
            cut_of (history new.fresh) (x ∷ h) (history new.former) (y ∷ g) new.fresh.first.items f new.former.first.items d t im one.history_is two.history_is one.first_is two.first_is cut in
            elim (cut_before f d x y h g t im moved old.lockstep) [
              | inl past ↦ inl past
              | inr now ↦ inr (
                may_of (x ∷ h) (history new.fresh) f new.fresh.first.items im.0 (sym one.history_is) (sym one.first_is) now.0,
                may_of (y ∷ g) (history new.former) d new.former.first.items im.1 (sym two.history_is) (sym two.first_is) now.1,
              )
            ];
        keeps = λ t im le cut.
            cut_of (x ∷ h) (history new.fresh) (y ∷ g) (history new.former) f new.fresh.first.items d new.former.first.items t im
            (sym one.history_is) (sym two.history_is) (sym one.first_is) (sym two.first_is) (cut_more f d x y h g t im cut);
      }

module _ (old new : MemoryPair) (call : Call) (bytes : List ℕ) where
  pub new_steps : Steps call bytes old.fresh old.former new.fresh new.former → DoesNew call bytes old new
  new_steps steps = record {
    sees = note_sees call bytes old.fresh new.fresh steps.notes;
    left = note_leaves call bytes old.fresh new.fresh steps.notes;
    other_same = seen_is Left [] old.former new.former steps.beside;
    other_left = beside_left old.former new.former steps.beside;
    time = noted_time old new call Left bytes [] steps.notes steps.beside;
  }

  pub old_steps : Steps call bytes old.former old.fresh new.former new.fresh → DoesOld call bytes old new
  old_steps steps = record {
    sees = note_sees call bytes old.former new.former steps.notes;
    left = note_leaves call bytes old.former new.former steps.notes;
    other_same = seen_is Left [] old.fresh new.fresh steps.beside;
    other_left = beside_left old.fresh new.fresh steps.beside;
    time = noted_time old new Left call [] bytes steps.beside steps.notes;
  }

-- where nothing was noted
history_same : (old new : MemoryDisk) → StandsAs old new → history new ≡ history old
history_same old new same = λ i. noted (same.calls_are i) (same.written_are i) []

stands_left : (old new : MemoryDisk) → StandsAs old new → (c : List ℕ) → memory_may_leave new c ↔ memory_may_leave old c
stands_left old new same c = (
  λ left. may_of (history new) (history old) new.first.items old.first.items c (history_same old new same) same.first_is left,
  λ left. may_of (history old) (history new) old.first.items new.first.items c (sym (history_same old new same)) (sym same.first_is) left,
)

stays_time : (old new : MemoryPair) → StandsAs old.fresh new.fresh → StandsAs old.former new.former → Elapses pair_moment left_of_both_since may_leave_both old new
stays_time old new one two =
    let h = history_same old.fresh new.fresh one in
    let g = history_same old.former new.former two in
    record {
      later = omega (arith, ap length h);
      nothing_else = λ t im le cut. inl (cut_of (history new.fresh) (history old.fresh) (history new.former) (history old.former) new.fresh.first.items old.fresh.first.items new.former.first.items old.former.first.items t im h g one.first_is two.first_is cut);
      keeps = λ t im le cut. cut_of (history old.fresh) (history new.fresh) (history old.former) (history new.former) old.fresh.first.items new.fresh.first.items old.former.first.items new.former.first.items t im (sym h) (sym g) (sym one.first_is) (sym two.first_is) cut;
    }

-- a call that leaves all as it is, or one that failed
abbrev IsIdle : Call → Type 0
IsIdle (Wrote at n) = ⊥
IsIdle (Tore at n) = ⊤
IsIdle Synced = ⊥
IsIdle Left = ⊤

idle_sees : (call : Call) (seen : List ℕ) → IsIdle call → Sees call [] seen seen
idle_sees (Wrote at n) seen idle = absurd idle
idle_sees (Tore at n) seen idle = torn_nothing seen at n
idle_sees Synced seen idle = absurd idle
idle_sees Left seen idle = refl

idle_leaves : (call : Call) (may : List ℕ → Type 0) (seen c : List ℕ) → IsIdle call → may c → MayLeaveAfter call [] may seen c
idle_leaves (Wrote at n) may seen c idle left = absurd idle
idle_leaves (Tore at n) may seen c idle left = (c, left, torn_nothing c at n)
idle_leaves Synced may seen c idle left = absurd idle
idle_leaves Left may seen c idle left = left

module _ (old new : MemoryPair) (call : Call) (idle : IsIdle call) where
  new_stays : NotesNothing old.fresh old.former new.fresh new.former → DoesNew call [] old new
  new_stays stays = record {
    sees = subst (λ (s : List ℕ). Sees call [] (seen_new old) s) (sym stays.same.bytes_are) (idle_sees call (seen_new old) idle);
    left = λ c left. idle_leaves call (may_leave_new old) (seen_new old) c idle ((stands_left old.fresh new.fresh stays.same c).0 left);
    other_same = stays.beside_same.bytes_are;
    other_left = stands_left old.former new.former stays.beside_same;
    time = stays_time old new stays.same stays.beside_same;
  }

  old_stays : NotesNothing old.former old.fresh new.former new.fresh → DoesOld call [] old new
  old_stays stays = record {
    sees = subst (λ (s : List ℕ). Sees call [] (seen_old old) s) (sym stays.same.bytes_are) (idle_sees call (seen_old old) idle);
    left = λ c left. idle_leaves call (may_leave_old old) (seen_old old) c idle ((stands_left old.former new.former stays.same c).0 left);
    other_same = stays.beside_same.bytes_are;
    other_left = stands_left old.fresh new.fresh stays.beside_same;
    time = stays_time old new stays.beside_same stays.same;
  }

  new_moves : Moves call [] old.fresh old.former new.fresh new.former → DoesNew call [] old new
  new_moves (inl steps) = new_steps old new call [] steps
  new_moves (inr stays) = new_stays stays

  old_moves : Moves call [] old.former old.fresh new.former new.fresh → DoesOld call [] old new
  old_moves (inl steps) = old_steps old new call [] steps
  old_moves (inr stays) = old_stays stays

module _ (old new : MemoryPair) where
  pub new_left : Moves Left [] old.fresh old.former new.fresh new.former → DoesNew Left [] old new
  new_left = new_moves old new Left tt

  pub new_tore : (at n : ℕ) → Moves (Tore at n) [] old.fresh old.former new.fresh new.former → DoesNew (Tore at n) [] old new
  new_tore at n = new_moves old new (Tore at n) tt

  pub new_unwritten : NotesNothing old.fresh old.former new.fresh new.former → DoesNew Left [] old new
  new_unwritten = new_stays old new Left tt

  pub old_left : Moves Left [] old.former old.fresh new.former new.fresh → DoesOld Left [] old new
  old_left = old_moves old new Left tt

  pub old_tore : (at n : ℕ) → Moves (Tore at n) [] old.former old.fresh new.former new.fresh → DoesOld (Tore at n) [] old new
  old_tore at n = old_moves old new (Tore at n) tt

  pub old_unwritten : NotesNothing old.former old.fresh new.former new.fresh → DoesOld Left [] old new
  old_unwritten = old_stays old new Left tt

-- lists that were in lockstep are so once a call more is noted on both, or none
pub steps_lockstep : (call : Call) (bytes : List ℕ) (this other this_now other_now : MemoryDisk) → length (history this) ≡ length (history other)
    → Steps call bytes this other this_now other_now → length (history this_now) ≡ length (history other_now)
steps_lockstep call bytes this other this_now other_now same steps =
    omega (arith, same, ap length steps.notes.history_is, ap length steps.beside.history_is)

pub stays_lockstep : (this other this_now other_now : MemoryDisk) → length (history this) ≡ length (history other)
    → NotesNothing this other this_now other_now → length (history this_now) ≡ length (history other_now)
stays_lockstep this other this_now other_now same stays =
    omega (arith, same, ap length (history_same this this_now stays.same), ap length (history_same other other_now stays.beside_same))

pub moves_lockstep : (call : Call) (bytes : List ℕ) (this other this_now other_now : MemoryDisk) → length (history this) ≡ length (history other)
    → Moves call bytes this other this_now other_now → length (history this_now) ≡ length (history other_now)
moves_lockstep call bytes this other this_now other_now same (inl steps) = steps_lockstep call bytes this other this_now other_now same steps
moves_lockstep call bytes this other this_now other_now same (inr stays) = stays_lockstep this other this_now other_now same stays
