-- A pass that matches each node wherever its facts hold keeps the meaning of whole programs.
use Rattle.std.proofs.Common.{◌≡◌, ℕ, suc, List, [], ◌∷◌, length, Option, Some, None, cond, ◌&&◌, refl, sym, ap, ◌∙◌, subst}
use Rattle.std.specs.Prelude.{slice_get, ◌==◌, codes, replicate}
use Rattle.std.specs.Str.{bytes_eq}
use Rattle.std.proofs.lemmas.List.{length-replicate}
use Rattle.lang_base.specs.Keeps.{Keeps}
use Rattle.lang_base.specs.Machine.{showing, shows}
use Rattle.lang_base.specs.declared.program.Global.{Global}
use Rattle.lang_base.specs.declared.program.Named.{Named}
use Rattle.lang_base.specs.declared.program.Program.{Program}
use Rattle.lang_base.specs.Soundness.{Accepted, AcceptedInTurn}
use Rattle.lang_base.proofs.Simulation.{keeps-matches}
use Rattle.rtl_language.specs.MachineFrames.{main_number}
use Rattle.rtl_language.specs.Data.{Data}
use Rattle.rtl_language.specs.Function.{FunctionData}
use Rattle.rtl_language.specs.Frames.{State, printed}
use Rattle.rtl_language.specs.Meaning.{function_step, next, takes_none, begins, run}
use Rattle.rtl_language.specs.Growth.{grows}
use Rattle.rtl_passes.specs.Facts.{IsStepwise, Pair, AreAlike}
use Rattle.rtl_passes.proofs.Simulation.{pair_of, matches}

module _ {C : Type 0} (Accepts : FunctionData → FunctionData → C → Type 0) (Holds : C → ℕ → Data → Type 0) (stepwise : IsStepwise Accepts Holds) where
  -- main has the same number in both
  main_number_same : (fs gs : List (Named FunctionData)) → AcceptedInTurn Accepts fs gs → main_number takes_none fs ≡ main_number takes_none gs
  main_number_same [] [] accepted = refl
  main_number_same [] (g ∷ gs) accepted = absurd accepted
  main_number_same (f ∷ fs) [] accepted = absurd accepted
  main_number_same (f ∷ fs) (g ∷ gs) accepted =
      let shape = stepwise.shape f.function g.function accepted.0.1.0 accepted.0.1.1 in
      let takes : takes_none f.function ≡ takes_none g.function = ap (λ ps. length ps == 0) (sym shape.parameters) in
      ap (λ n. cond (bytes_eq n (codes "main") && takes_none f.function) 0 (suc (main_number takes_none fs))) accepted.0.0
      ∙ ap (λ b. cond (bytes_eq g.name (codes "main") && b) 0 (suc (main_number takes_none fs))) takes
      ∙ ap (λ n. cond (bytes_eq g.name (codes "main") && takes_none g.function) 0 (suc n)) (main_number_same fs gs accepted.1)

  -- where main is, both programs begin alike
  main_starts : (globals : List Global) (fs gs : List (Named FunctionData)) → AcceptedInTurn Accepts fs gs → (number : ℕ) (p : Pair Accepts fs gs number) → Keeps (λ n. shows (next fs) printed n (begins globals number (Some p.source))) (λ n. shows (next gs) printed n (begins globals number (Some p.target)))
  main_starts globals fs gs accepted number p =
      let shape = stepwise.shape p.source.function p.target.function p.certificate p.accepted in
      let s : State = begins globals number (Some p.source) in
      let t : State = begins globals number (Some p.target) in
      let same : t ≡ s = λ i. record { function = number; place = shape.entry i; here = record s.here { registers = replicate (shape.registers i) None }; callers = [] } in
      let alike : AreAlike Accepts Holds fs gs s t =
      record {
        same = same;
        stands = record {
          pair = p;
          counted = length-replicate p.source.function.registers None;
          holds = stepwise.entry p.source.function p.target.function p.certificate p.accepted s.here;
          callers = tt;
        };
      } in
      keeps-matches (next fs) printed (next gs) printed (AreAlike Accepts Holds fs gs) (matches Accepts Holds stepwise fs gs accepted) (grows gs) s t alike

  starts : (globals : List Global) (fs gs : List (Named FunctionData)) → AcceptedInTurn Accepts fs gs → (number : ℕ) (o : Option (Named FunctionData)) → slice_get fs number ≡ o → Keeps (λ n. shows (next fs) printed n (begins globals number o)) (λ n. shows (next gs) printed n (begins globals number (slice_get gs number)))
  starts globals fs gs accepted number None e =
      λ never. absurd (never 1 (ap (λ x. (showing (function_step fs (begins globals number None) x) (shows (next fs) printed 0) []).shown) e))
  starts globals fs gs accepted number (Some f) e =
      let found = pair_of Accepts Holds stepwise fs gs accepted number f e in
      let p = found.0 in
      let both = main_starts globals fs gs accepted number p in
      subst (λ x. Keeps (λ n. shows (next fs) printed n (begins globals number (Some f))) (λ n. shows (next gs) printed n (begins globals number x))) (sym p.is_target)
      (subst (λ x. Keeps (λ n. shows (next fs) printed n (begins globals number (Some x))) (λ n. shows (next gs) printed n (begins globals number (Some p.target)))) found.1 both)

  pub stepwise_keeps : (p q : Program FunctionData) → Accepted Accepts p q → Keeps (run p) (run q)
  stepwise_keeps p q accepted =
      let number = main_number takes_none p.functions in
      let both = starts p.globals p.functions q.functions accepted.functions number (slice_get p.functions number) refl in
      let at_same : Keeps (run p) (λ n. shows (next q.functions) printed n (begins p.globals (main_number takes_none q.functions) (slice_get q.functions (main_number takes_none q.functions)))) =
      subst (λ k. Keeps (run p) (λ n. shows (next q.functions) printed n (begins p.globals k (slice_get q.functions k)))) (main_number_same p.functions q.functions accepted.functions) both in
      subst (λ globals. Keeps (run p) (λ n. shows (next q.functions) printed n (begins globals (main_number takes_none q.functions) (slice_get q.functions (main_number takes_none q.functions))))) accepted.globals at_same
