-- A Cminor program shows, at each bound, what the C program shows that it was made of, where that does not go wrong.
use Rattle.std.proofs.Common.{◌≡◌, ◌≢◌, ℕ, [], map, Some, None, refl, sym, ap, ◌∙◌}
use Rattle.std.specs.Prelude.{slice_get}
use Rattle.lang_base.specs.declared.shown.Shown.TheVariants.{Ended, Wrong}
use Rattle.lang_base.specs.Behaviour.{Behaviour}
use Rattle.lang_base.specs.Keeps.{Keeps}
use Rattle.lang_base.proofs.Beginnings.{IsBeginningOf-same}
use Rattle.c_program.specs.Trees.{ProgramTree}
use Rattle.c_program.specs.Meaning as C
use Rattle.cminor_syntax.specs.Meaning as M
use Rattle.cminor_lowering.specs.Programs.{low, low_named, HasMain}
use Rattle.cminor_lowering.proofs.Sees.{Shares}
use Rattle.cminor_lowering.proofs.Follows.{FollowsCall}
use Rattle.cminor_lowering.proofs.Functions.{function_follows}
use Rattle.cminor_lowering.proofs.Levels.{levels_follow}
use Rattle.cminor_lowering.proofs.Globals.{globals_same}

shown_follows : (o : C.Outcome) (m : M.Outcome) → FollowsCall o m → (C.shown o).shown ≢ Wrong → M.shown m ≡ C.shown o
shown_follows (C.Falls s) m f right = absurd (right refl)
shown_follows (C.Breaks s) m f right = absurd (right refl)
shown_follows (C.Continues s) m f right = absurd (right refl)
shown_follows (C.Returns None s) m f right = absurd (right refl)
shown_follows (C.Returns (Some w) s) m f right = ap M.shown f.1 ∙ ap (λ output. record { shown = Ended w; output = output }) f.2.output
shown_follows (C.RunsOut printed) m f right = ap M.shown f
shown_follows (C.Fails printed) m f right = absurd (right refl)

pub runs_follow : (p : ProgramTree) → HasMain p → (n : ℕ) → (C.crun p n).shown ≢ Wrong → M.run (low p) n ≡ C.crun p n
runs_follow p main n right =
    let fs = p.functions in
    let shares : Shares (C.start p.globals) (M.start (low p)) = record { globals = globals_same p.globals; output = refl } in
    let f = function_follows (C.level fs n) (M.level (map low_named fs) n) (levels_follow fs n) fs p.main [] (C.start p.globals) (M.start (low p)) shares in
    let m = M.enters (M.level (map low_named fs) n) (slice_get (map low_named fs) p.main) [] (M.start (low p)) in
    ap (λ number. M.shown (M.enters (M.level (map low_named fs) n) (slice_get (map low_named fs) number) [] (M.start (low p)))) main
    ∙ shown_follows (C.enters (C.level fs n) (slice_get fs p.main) [] (C.start p.globals)) m f right

-- a run that shows the same at each bound keeps the meaning
same_keeps : (a b : Behaviour) → ((n : ℕ) → (a n).shown ≢ Wrong → b n ≡ a n) → Keeps a b
same_keeps a b same never = record {
  safe = λ n wrong. never n (sym (ap (λ x. x.shown) (is n)) ∙ wrong);
  no_more = λ n. (n, IsBeginningOf-same _ _ (ap (λ x. x.output) (is n)));
  ends = λ output result. ((λ e. (e.0, is e.0 ∙ e.1)), (λ e. (e.0, sym (is e.0) ∙ e.1)));
  no_less = λ m. (m, IsBeginningOf-same _ _ (sym (ap (λ x. x.output) (is m))));
}
  where
    is : (n : ℕ) → b n ≡ a n
    is n = same n (never n)

pub lowered_keeps : (p : ProgramTree) → HasMain p → Keeps (C.crun p) (M.run (low p))
lowered_keeps p main = same_keeps (C.crun p) (M.run (low p)) (runs_follow p main)
