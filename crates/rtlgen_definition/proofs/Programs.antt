-- The RTL program of a Cminor program keeps its meaning.
use Rattle.std.proofs.Common.{◌≡◌, ◌≢◌, ℕ, suc, ◌==◌, ◌≤◌, Bool, true, false, ◌&&◌, cond, List, [], ◌∷◌, length, map, Option, Some, None, refl, sym, ap, ◌∙◌, subst, arith}
use Rattle.std.specs.Prelude.{slice_get, codes, replicate}
use Rattle.std.specs.Str.{bytes_eq}
use Rattle.std.proofs.lemmas.Bool.{eqb-true}
use Rattle.lang_base.specs.declared.shown.Shown.TheVariants.{Ended, Wrong}
use Rattle.lang_base.specs.Behaviour.{Shows}
use Rattle.lang_base.specs.Keeps.{Keeps}
use Rattle.lang_base.specs.Machine.{showing, shows}
use Rattle.lang_base.specs.declared.program.Named.{Named}
use Rattle.lang_base.specs.declared.program.Program.{Program}
use Rattle.lang_base.proofs.Simulation.{keeps-follows}
use Rattle.cminor_syntax.specs.Frames.{main_number, cells_of}
use Rattle.rtl_acts.specs.Data.{Data}
use Rattle.rtl_language.specs.Function.{FunctionData}
use Rattle.rtl_language.specs.Frames.{State, printed, with_arguments}
use Rattle.rtl_language.specs.Meaning.{takes_none, next}
use Rattle.rtl_language.specs.Meaning as R
use Rattle.rtl_language.specs.Growth.{runs_on}
use Rattle.cminor_syntax.specs.Trees.{FunctionTree}
use Rattle.cminor_syntax.specs.Meaning as M
use Rattle.rtlgen_definition.specs.Gen.{gen_function, gen_named, gen}
use Rattle.rtlgen_definition.proofs.Grounds.{Sees}
use Rattle.rtlgen_definition.proofs.Outcomes.{CallArrives}
use Rattle.rtlgen_definition.proofs.Functions.{AllInRange, ground, begins_sees, body_arrives, in_range, is_found, is_there, length-numbers, levels_arrive}

-- main is shown at some bound from this one on as this
abbrev Shown : List (Named FunctionData) → (bound : ℕ) → State → Shows → Type 0
Shown functions bound u x = (j : ℕ) × (bound ≤ j) × (x ≡ shows (next functions) printed j u)

-- ---- what is shown of main

shown_arrives : (functions : List (Named FunctionData)) (bound : ℕ) (u : State) (o : M.Outcome) → CallArrives functions [] bound u o → (M.shown o).shown ≢ Wrong → Shown functions bound u (M.shown o)
shown_arrives functions bound u (M.Falls s) h right = absurd (right refl)
shown_arrives functions bound u (M.Exits n s) h right = absurd (right refl)
shown_arrives functions bound u (M.Returns None s) h right = absurd (right refl)
shown_arrives functions bound u (M.Returns (Some w) s) h right =
    let j = h.comes.by (suc bound) in
    let ends : shows (next functions) printed (suc bound) h.last ≡ record { shown = Ended w; output = s.output } =
    ap (λ x. showing x (shows (next functions) printed bound) (printed h.last)) h.step ∙ ap (λ l. record { shown = Ended w; output = l }) h.output in
    (j.0, omega (arith, j.1), sym (j.2 ∙ ends))
shown_arrives functions bound u (M.RunsOut output) h right = (h.steps, h.many, sym h.shown)
shown_arrives functions bound u (M.Fails output) h right = absurd (right refl)

-- ---- both find the same main

counts_none : (f : FunctionTree) → (0 == f.parameters) ≡ true → takes_none (gen_function f) ≡ true
counts_none f e =
    let none : length (gen_function f).parameters ≡ 0 = length-numbers 0 f.parameters ∙ sym (eqb-true 0 f.parameters e) in
    ap (λ n. n == 0) none

same_main : (fs : List (Named FunctionTree)) (named : Named FunctionTree) → slice_get fs (main_number (λ f. true) fs) ≡ Some named → (0 == named.function.parameters) ≡ true →
    main_number takes_none (map gen_named fs) ≡ main_number (λ f. true) fs
same_main [] named e none = refl
same_main (f ∷ fs) named e none = at (bytes_eq f.name (codes "main")) (main_number (λ f. true) fs) (main_number takes_none (map gen_named fs)) e (λ found. same_main fs named found none)
  where
    at : (z : Bool) (m m' : ℕ) → slice_get (f ∷ fs) (cond (z && true) 0 (suc m)) ≡ Some named → (slice_get fs m ≡ Some named → m' ≡ m) →
        cond (z && takes_none (gen_function f.function)) 0 (suc m') ≡ cond (z && true) 0 (suc m)
    at true m m' found later =
        let is : named ≡ f = cc in
        ap (λ b. cond b 0 (suc m')) (counts_none f.function (ap (λ (n : Named FunctionTree). 0 == n.function.parameters) (sym is) ∙ none))
    at false m m' found later = ap suc (later found)

-- ---- whole programs

no_arguments : (parameters : List ℕ) (registers : List (Option ℕ)) → with_arguments parameters [] registers ≡ registers
no_arguments [] registers = refl
no_arguments (r ∷ rs) registers = refl

module _ (p : Program FunctionTree) (fit : AllInRange p.functions) where
  abbrev functions : List (Named FunctionData)
  functions = map gen_named p.functions

  main_arrives : (n number : ℕ) (f : Named FunctionTree) → slice_get p.functions number ≡ Some f → (0 == f.function.parameters) ≡ true →
      CallArrives functions [] n (R.begins p.globals number (slice_get functions number)) (M.exec (M.level p.functions n) f.function.body (M.begins f.function [] (M.start p)))
  main_arrives n number f found none =
      let level = levels_arrive p.functions fit n in
      let g = f.function in
      let fits = in_range p.functions fit number f found in
      let there = is_there p.functions number f [] found in
      let count : 0 ≡ g.parameters = eqb-true 0 g.parameters none in
      let with : List (Option ℕ) → Data = λ registers. record { registers = registers; globals = map cells_of p.globals; output = [] } in
      let registers : List (Option ℕ) = replicate (gen_function g).registers None in
      let sees : Sees (ground number g []) (M.begins g [] (M.start p)) (with registers) =
      subst (λ l. Sees (ground number g []) (M.begins g [] (M.start p)) (with l)) (no_arguments (gen_function g).parameters registers)
      (begins_sees number g [] [] (M.start p) (map cells_of p.globals) [] fits.within count refl refl) in
      subst (λ x. CallArrives functions [] n (R.begins p.globals number x) (M.exec (M.level p.functions n) g.body (M.begins g [] (M.start p)))) (sym (is_found p.functions number f found))
      (body_arrives functions n level.0 level.1 (M.level p.functions n) level.2 number g [] there fits (M.begins g [] (M.start p)) (with registers) sees)

  -- main's outcome, where it takes no parameters
  abbrev outcome : ℕ → Named FunctionTree → Bool → M.Outcome
  outcome n f z = cond z (M.exec (M.level p.functions n) f.function.body (M.begins f.function [] (M.start p))) (M.Fails [])

  shown_at : (n number : ℕ) → main_number (λ f. true) p.functions ≡ number → (x : Option (Named FunctionTree)) → slice_get p.functions number ≡ x →
      (M.shown (M.enters (M.level p.functions n) x [] (M.start p))).shown ≢ Wrong →
      Shown functions n (R.start (gen p)) (M.shown (M.enters (M.level p.functions n) x [] (M.start p)))
  shown_at n number is None found right = absurd (right refl)
  shown_at n number is (Some f) found right = at (0 == f.function.parameters) refl right
    where
      at : (z : Bool) → (0 == f.function.parameters) ≡ z → (M.shown (outcome n f z)).shown ≢ Wrong → Shown functions n (R.start (gen p)) (M.shown (outcome n f z))
      at false none right = absurd (right refl)
      at true none right =
          let same = same_main p.functions f (ap (slice_get p.functions) is ∙ found) none ∙ is in
          subst (λ m. Shown functions n (R.begins p.globals m (slice_get functions m)) (M.shown (outcome n f true))) (sym same)
          (shown_arrives functions n (R.begins p.globals number (slice_get functions number)) (outcome n f true) (main_arrives n number f found none) right)

  pub generated_keeps : Keeps (M.run p) (R.run (gen p))
  generated_keeps = keeps-follows (M.run p) (R.run (gen p)) (runs_on (gen p)) (λ never. record {
    at = λ n.
        let number = main_number (λ f. true) p.functions in
        shown_at n number refl (slice_get p.functions number) refl (never n);
  })
