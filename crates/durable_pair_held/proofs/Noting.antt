-- What a call that was noted does to both files.
use Rattle.std.proofs.Common.{◌≡◌, ◌⊎◌, ◌≤◌, ℕ, List, [], ◌∷◌, ◌++◌, length, refl, sym, ◌∙◌, ap, subst, arith, inl, inr}
use Rattle.std.specs.Prelude.{reverse}
use Rattle.std.proofs.lemmas.List.{reverse-append}
use Rattle.durable_model_writes.specs.declared.call.Call.{Call}
use Rattle.durable_model_writes.specs.declared.call.Call.TheVariants.{Wrote, Tore, Synced, Left}
use Rattle.durable_model_writes.specs.Writes.{overwritten, Torn, torn_nothing, torn_overwritten}
use Rattle.durable_model_writes.specs.History as history
use Rattle.durable_model.specs.Honest.{Elapses}
use Rattle.durable_pair.specs.Images.{Images}
use Rattle.durable_pair.specs.Does.{Sees}
use Rattle.durable_pair_held.specs.declared.noted.Step.{Step}
use Rattle.durable_pair_held.specs.declared.noted.Step.TheVariants.{Write, Sync}
use Rattle.durable_pair_held.specs.declared.noted.Noted.{Noted}
use Rattle.durable_pair_held.specs.declared.noted.Noted.TheVariants.{New, Old}
use Rattle.durable_pair_held.specs.Past.{Content, before, back, IsLeftBehind, of_new, of_old, Past, more_new, more_old, PutsOver, seen_new, seen_old, may_leave_new, may_leave_old, may_leave_both, moment, LeftSince, DoesNew, DoesOld, both_as_kept}
use Rattle.durable_pair_held.proofs.Undone.{written_before}

module _ (p : Past) (step : Step) (f : Content) where
  -- a moment before the last step, or this one: of the new file
  module _ (was : before step f ≡ p.new) (t : ℕ) (im : Images) where
    new_cut : (later earlier : List Noted) → New step ∷ p.notes ≡ later ++ earlier → t ≤ length earlier
        → IsLeftBehind (of_new earlier) (back (of_new later) f) im.0 → IsLeftBehind (of_old earlier) (back (of_old later) p.old) im.1
        → LeftSince p t im ⊎ may_leave_both (more_new step f p) im
    new_cut [] earlier whole since left old_left = inr (
      subst (λ (notes : List Noted). IsLeftBehind (of_new notes) f im.0) (sym whole) left,
      subst (λ (notes : List Noted). IsLeftBehind (of_old notes) p.old im.1) (sym whole) old_left,
    )
    new_cut (note ∷ later) earlier whole since left old_left =
        let last : New step ≡ note = cc in
        let rest : p.notes ≡ later ++ earlier = cc in
        inl (record {
          later = later;
          earlier = earlier;
          whole = rest;
          since = since;
          left = subst (λ (c : Content). IsLeftBehind (of_new earlier) (back (of_new later) c) im.0) was
              (subst (λ (x : Noted). IsLeftBehind (of_new earlier) (back (of_new (x ∷ later)) f) im.0) (sym last) left);
          old_left = subst (λ (x : Noted). IsLeftBehind (of_old earlier) (back (of_old (x ∷ later)) p.old) im.1) (sym last) old_left;
        })

    new_more : LeftSince p t im → LeftSince (more_new step f p) t im
    new_more cut = record {
      later = New step ∷ cut.later;
      earlier = cut.earlier;
      whole = ap (λ (notes : List Noted). New step ∷ notes) cut.whole;
      since = cut.since;
      left = subst (λ (c : Content). IsLeftBehind (of_new cut.earlier) (back (of_new cut.later) c) im.0) (sym was) cut.left;
      old_left = cut.old_left;
    }

  -- the same of the old one
  module _ (was : before step f ≡ p.old) (t : ℕ) (im : Images) where
    old_cut : (later earlier : List Noted) → Old step ∷ p.notes ≡ later ++ earlier → t ≤ length earlier
        → IsLeftBehind (of_new earlier) (back (of_new later) p.new) im.0 → IsLeftBehind (of_old earlier) (back (of_old later) f) im.1
        → LeftSince p t im ⊎ may_leave_both (more_old step f p) im
    old_cut [] earlier whole since left old_left = inr (
      subst (λ (notes : List Noted). IsLeftBehind (of_new notes) p.new im.0) (sym whole) left,
      subst (λ (notes : List Noted). IsLeftBehind (of_old notes) f im.1) (sym whole) old_left,
    )
    old_cut (note ∷ later) earlier whole since left old_left =
        let last : Old step ≡ note = cc in
        let rest : p.notes ≡ later ++ earlier = cc in
        inl (record {
          later = later;
          earlier = earlier;
          whole = rest;
          since = since;
          left = subst (λ (x : Noted). IsLeftBehind (of_new earlier) (back (of_new (x ∷ later)) p.new) im.0) (sym last) left;
          old_left = subst (λ (c : Content). IsLeftBehind (of_old earlier) (back (of_old later) c) im.1) was
              (subst (λ (x : Noted). IsLeftBehind (of_old earlier) (back (of_old (x ∷ later)) f) im.1) (sym last) old_left);
        })

    old_more : LeftSince p t im → LeftSince (more_old step f p) t im
    old_more cut = record {
      later = Old step ∷ cut.later;
      earlier = cut.earlier;
      whole = ap (λ (notes : List Noted). Old step ∷ notes) cut.whole;
      since = cut.since;
      left = cut.left;
      old_left = subst (λ (c : Content). IsLeftBehind (of_old cut.earlier) (back (of_old cut.later) c) im.1) (sym was) cut.old_left;
    }

  -- what a step does, where its call sees and leaves so
  module _ (call : Call) (bytes : List ℕ) where
    pub new_does : before step f ≡ p.new → Sees call bytes (seen_new p) f.0
        → ((c : List ℕ) → IsLeftBehind (step ∷ of_new p.notes) f c → history.MayLeaveAfter call bytes (may_leave_new p) (seen_new p) c)
        → DoesNew call bytes p (more_new step f p)
    new_does was sees leaves = record {
      sees = sees;
      left = leaves;
      other_same = refl;
      other_left = λ c. (λ left. left, λ left. left);
      time = record {
        later = omega arith;
        nothing_else = λ t im le cut. new_cut was t im cut.later cut.earlier cut.whole cut.since cut.left cut.old_left;
        keeps = λ t im le cut. new_more was t im cut;
      };
    }

    pub old_does : before step f ≡ p.old → Sees call bytes (seen_old p) f.0
        → ((c : List ℕ) → IsLeftBehind (step ∷ of_old p.notes) f c → history.MayLeaveAfter call bytes (may_leave_old p) (seen_old p) c)
        → DoesOld call bytes p (more_old step f p)
    old_does was sees leaves = record {
      sees = sees;
      left = leaves;
      other_same = refl;
      other_left = λ c. (λ left. left, λ left. left);
      time = record {
        later = omega arith;
        nothing_else = λ t im le cut. old_cut was t im cut.later cut.earlier cut.whole cut.since cut.left cut.old_left;
        keeps = λ t im le cut. old_more was t im cut;
      };
    }

-- what a write leaves, done or torn
wrote_leaves : (steps : List Step) (f was : Content) (step : Step) (at : ℕ) (bytes : List ℕ) (len : ℕ) → step ≡ Write at (length bytes) len → before step f ≡ was
    → f.0 ≡ overwritten was.0 at bytes → IsLeftBehind steps was was.0 → (c : List ℕ) → IsLeftBehind (step ∷ steps) f c
    → history.MayLeaveAfter (Wrote at (length bytes)) bytes (IsLeftBehind steps was) was.0 c
wrote_leaves steps f was step at bytes len is undone now here c left =
    let undo : before (Write at (length bytes) len) f ≡ was = ap (λ (s : Step). before s f) (sym is) ∙ undone in
    elim (subst (λ (s : Step). IsLeftBehind (s ∷ steps) f c) is left) [
      | inl done ↦ (was.0, here, subst (Torn at (length bytes) was.0) (sym (done ∙ now)) (torn_overwritten was.0 at bytes))
      | inr torn ↦ (torn.0, subst (λ (g : Content). IsLeftBehind steps g torn.0) undo torn.1, torn.2)
    ]

module _ (p q : Past) (step : Step) (f : Content) (at : ℕ) (bytes : List ℕ) where
  pub new_wrote : q ≡ more_new step f p → PutsOver at bytes p.new.0 p.new.1 step f.0 f.1 → DoesNew (Wrote at (length bytes)) bytes p q
  new_wrote is over =
      let was = written_before at bytes p.new.0 p.new.1 step f.0 f.1 over in
      subst (λ (r : Past). DoesNew (Wrote at (length bytes)) bytes p r) (sym is) (new_does p step f (Wrote at (length bytes)) bytes was over.file_is
      (wrote_leaves (of_new p.notes) f p.new step at bytes (length p.new.0) over.step_is was over.file_is (both_as_kept p).0))

  pub old_wrote : q ≡ more_old step f p → PutsOver at bytes p.old.0 p.old.1 step f.0 f.1 → DoesOld (Wrote at (length bytes)) bytes p q
  old_wrote is over =
      let was = written_before at bytes p.old.0 p.old.1 step f.0 f.1 over in
      subst (λ (r : Past). DoesOld (Wrote at (length bytes)) bytes p r) (sym is) (old_does p step f (Wrote at (length bytes)) bytes was over.file_is
      (wrote_leaves (of_old p.notes) f p.old step at bytes (length p.old.0) over.step_is was over.file_is (both_as_kept p).1))

module _ (p q : Past) where
  pub new_synced : q ≡ more_new Sync p.new p → DoesNew Synced [] p q
  new_synced is = subst (λ (r : Past). DoesNew Synced [] p r) (sym is) (new_does p Sync p.new Synced [] refl refl (λ c left. left))

  pub old_synced : q ≡ more_old Sync p.old p → DoesOld Synced [] p q
  old_synced is = subst (λ (r : Past). DoesOld Synced [] p r) (sym is) (old_does p Sync p.old Synced [] refl refl (λ c left. left))

-- the last note stands first
pub last_first : (notes more now : List Noted) (note : Noted) → more ≡ notes → now ≡ more ++ note ∷ [] → reverse now ≡ note ∷ reverse notes
last_first notes more now note same pushed =
    ap reverse (pushed ∙ ap (λ (l : List Noted). l ++ note ∷ []) same) ∙ reverse-append notes (note ∷ [])

-- where nothing was noted
still : (p : Past) → Elapses moment LeftSince may_leave_both p p
still p = record { later = omega arith; nothing_else = λ t im le cut. inl cut; keeps = λ t im le cut. cut }

module _ (p q : Past) (same : q ≡ p) where
  pub new_stands : DoesNew Left [] p q
  new_stands = subst (λ (r : Past). DoesNew Left [] p r) (sym same)
      (record { sees = refl; left = λ c left. left; other_same = refl; other_left = λ c. (λ left. left, λ left. left); time = still p })

  pub old_stands : DoesOld Left [] p q
  old_stands = subst (λ (r : Past). DoesOld Left [] p r) (sym same)
      (record { sees = refl; left = λ c left. left; other_same = refl; other_left = λ c. (λ left. left, λ left. left); time = still p })

  -- a write that found no space tore nothing
  pub new_tore_none : (at n : ℕ) → DoesNew (Tore at n) [] p q
  new_tore_none at n = subst (λ (r : Past). DoesNew (Tore at n) [] p r) (sym same) (record {
    sees = torn_nothing (seen_new p) at n;
    left = λ c left. (c, left, torn_nothing c at n);
    other_same = refl;
    other_left = λ c. (λ left. left, λ left. left);
    time = still p;
  })

  pub old_tore_none : (at n : ℕ) → DoesOld (Tore at n) [] p q
  old_tore_none at n = subst (λ (r : Past). DoesOld (Tore at n) [] p r) (sym same) (record {
    sees = torn_nothing (seen_old p) at n;
    left = λ c left. (c, left, torn_nothing c at n);
    other_same = refl;
    other_left = λ c. (λ left. left, λ left. left);
    time = still p;
  })

-- a write that was done is one of those that may be left where it failed
module _ (p q : Past) (at : ℕ) (bytes : List ℕ) where
  pub new_wrote_tore : DoesNew (Wrote at (length bytes)) bytes p q → DoesNew (Tore at (length bytes)) [] p q
  new_wrote_tore does = record {
    sees = subst (Torn at (length bytes) (seen_new p)) (sym does.sees) (torn_overwritten (seen_new p) at bytes);
    left = does.left;
    other_same = does.other_same;
    other_left = does.other_left;
    time = does.time;
  }

  pub old_wrote_tore : DoesOld (Wrote at (length bytes)) bytes p q → DoesOld (Tore at (length bytes)) [] p q
  old_wrote_tore does = record {
    sees = subst (Torn at (length bytes) (seen_old p)) (sym does.sees) (torn_overwritten (seen_old p) at bytes);
    left = does.left;
    other_same = does.other_same;
    other_left = does.other_left;
    time = does.time;
  }
