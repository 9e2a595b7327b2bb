-- The programs of the outputs in between, each accepted for the one before it.
use Rattle.std.proofs.Common.{◌≡◌, ℕ, List, [], ◌∷◌, ◌++◌, Option, Some, None, All, sym, ap, ◌∙◌, subst, refl}
use Rattle.std.specs.Prelude.{IfSome}
use Rattle.std.proofs.lemmas.List.Elements.{All-nil, All-cons}
use Rattle.offers.specs.declared.parts.Parts.{Parts}
use Rattle.lang_base.specs.declared.program.Named as code
use Rattle.lang_base.specs.Behaviour.{Behaviour}
use Rattle.lang_base.specs.Keeps.{Keeps}
use Rattle.lang_base.specs.declared.program.Global.{Global}
use Rattle.lang_base.specs.declared.program.Program.{Program}
use Rattle.lang_base.specs.Soundness.{AllFit, Accepted, AcceptedInTurn}
use Rattle.lang_base.proofs.Composition.{keeps-composes}
use Rattle.linker.specs.declared.chain.Chain.{Chain}
use Rattle.linker.specs.declared.chain.Named.{Named}
use Rattle.linker.specs.Chains.{IsChain, HasChain, AllChained, made_of, all_made_of, names_of}
use Rattle.linker.specs.Linked.{IsEnd, AreLinked}
use Rattle.linker.specs.Valid.{AreAccepted, AreFit, EachChain}
use Rattle.linker.proofs.Fronts.{has_chain}

module _ {A1 A2 A3 A4 A5 C1 C2 C3 C4 : Type 0} where
  -- the functions are the inputs of their first offers
  begins_with : (f : code.Named A1) (chain : Option (Chain (Parts A1 A2 C1) (Parts A2 A3 C2) (Parts A3 A4 C3) (Parts A4 A5 C4))) (end : A5) (rest : List (code.Named A1)) → IsEnd f.function chain end
      → f ∷ rest ≡ made_of (λ c. c.first.now.input) f.name chain ++ rest
  begins_with f None end rest is = absurd is
  begins_with f (Some chain) end rest is = ap (λ g. record { name = f.name; function = g } ∷ rest) (sym is.chained.first)

  pub inputs : (functions : List (code.Named A1)) (named : List (Named (Parts A1 A2 C1) (Parts A2 A3 C2) (Parts A3 A4 C3) (Parts A4 A5 C4))) (all_made : List (code.Named A5)) → AreLinked functions named all_made
      → functions ≡ all_made_of (λ c. c.first.now.input) functions named
  inputs [] [] [] are = refl
  inputs [] [] (g ∷ all_made) are = refl
  inputs [] (y ∷ named) all_made are = absurd are
  inputs (x ∷ functions) [] all_made are = absurd are
  inputs (x ∷ functions) (y ∷ named) [] are = absurd are
  inputs (x ∷ functions) (y ∷ named) (g ∷ all_made) are =
      ap (λ rest. x ∷ rest) (inputs functions named all_made are.1) ∙ begins_with x y.chain g.function _ are.0.end

  -- what is made are the outputs of the fourth offers
  ends_with : (f : code.Named A1) (chain : Option (Chain (Parts A1 A2 C1) (Parts A2 A3 C2) (Parts A3 A4 C3) (Parts A4 A5 C4))) (made : code.Named A5) (rest : List (code.Named A5)) → made.name ≡ f.name → IsEnd f.function chain made.function
      → made ∷ rest ≡ made_of (λ c. c.fourth.now.output) f.name chain ++ rest
  ends_with f None made rest e is = absurd is
  ends_with f (Some chain) made rest e is = λ i. record { name = e i; function = is.same i } ∷ rest

  pub outputs : (functions : List (code.Named A1)) (named : List (Named (Parts A1 A2 C1) (Parts A2 A3 C2) (Parts A3 A4 C3) (Parts A4 A5 C4))) (all_made : List (code.Named A5)) → AreLinked functions named all_made
      → all_made ≡ all_made_of (λ c. c.fourth.now.output) functions named
  outputs [] [] [] are = refl
  outputs [] [] (g ∷ all_made) are = absurd are
  outputs [] (y ∷ named) all_made are = absurd are
  outputs (x ∷ functions) [] all_made are = absurd are
  outputs (x ∷ functions) (y ∷ named) [] are = absurd are
  outputs (x ∷ functions) (y ∷ named) (g ∷ all_made) are =
      ap (λ rest. g ∷ rest) (outputs functions named all_made are.1) ∙ ends_with x y.chain g _ are.0.name are.0.end

  pub same_names : (functions : List (code.Named A1)) (named : List (Named (Parts A1 A2 C1) (Parts A2 A3 C2) (Parts A3 A4 C3) (Parts A4 A5 C4))) (all_made : List (code.Named A5)) → AreLinked functions named all_made
      → names_of all_made ≡ names_of functions
  same_names [] [] [] are = refl
  same_names [] [] (g ∷ all_made) are = absurd are
  same_names [] (y ∷ named) all_made are = absurd are
  same_names (x ∷ functions) [] all_made are = absurd are
  same_names (x ∷ functions) (y ∷ named) [] are = absurd are
  same_names (x ∷ functions) (y ∷ named) (g ∷ all_made) are =
      λ i. are.0.name i ∷ same_names functions named all_made are.1 i

  -- what is linked is chained
  pub chained : (functions : List (code.Named A1)) (named : List (Named (Parts A1 A2 C1) (Parts A2 A3 C2) (Parts A3 A4 C3) (Parts A4 A5 C4))) (all_made : List (code.Named A5)) → AreLinked functions named all_made
      → AllChained functions named
  chained [] [] all_made are = tt
  chained [] (y ∷ named) all_made are = absurd are
  chained (x ∷ functions) [] all_made are = absurd are
  chained (x ∷ functions) (y ∷ named) [] are = absurd are
  chained (x ∷ functions) (y ∷ named) (g ∷ all_made) are =
      (has_chain x.function y.chain g.function are.0.end, chained functions named all_made are.1)

  -- what holds of a part of each such chain holds of all these parts
  module _ (Is : Chain (Parts A1 A2 C1) (Parts A2 A3 C2) (Parts A3 A4 C3) (Parts A4 A5 C4) → Type 0) {F : Type 0} (part : Chain (Parts A1 A2 C1) (Parts A2 A3 C2) (Parts A3 A4 C3) (Parts A4 A5 C4) → F) (Fits : F → Type 0) (fit : (c : Chain (Parts A1 A2 C1) (Parts A2 A3 C2) (Parts A3 A4 C3) (Parts A4 A5 C4)) → Is c → Fits (part c)) where
    one_fits : (name : List ℕ) (chain : Option (Chain (Parts A1 A2 C1) (Parts A2 A3 C2) (Parts A3 A4 C3) (Parts A4 A5 C4))) (rest : List (code.Named F)) → IfSome chain Is
        → All (λ g. Fits g.function) rest → All (λ g. Fits g.function) (made_of part name chain ++ rest)
    one_fits name None rest is all = all
    one_fits name (Some chain) rest is all = All-cons (λ g. Fits g.function) (record { name = name; function = part chain }) rest (fit chain is) all

    pub all_fit : (functions : List (code.Named A1)) (named : List (Named (Parts A1 A2 C1) (Parts A2 A3 C2) (Parts A3 A4 C3) (Parts A4 A5 C4))) → EachChain Is named
        → All (λ g. Fits g.function) (all_made_of part functions named)
    all_fit [] named each = All-nil _
    all_fit (x ∷ functions) [] each = All-nil _
    all_fit (x ∷ functions) (y ∷ named) each = one_fits x.name y.chain _ each.0 (all_fit functions named each.1)

  -- where one part of each such chain that goes on from its function is accepted for another, so are the programs of these parts
  module _ (Is : Chain (Parts A1 A2 C1) (Parts A2 A3 C2) (Parts A3 A4 C3) (Parts A4 A5 C4) → Type 0) {F G C : Type 0} (part : Chain (Parts A1 A2 C1) (Parts A2 A3 C2) (Parts A3 A4 C3) (Parts A4 A5 C4) → F) (next : Chain (Parts A1 A2 C1) (Parts A2 A3 C2) (Parts A3 A4 C3) (Parts A4 A5 C4) → G) (Accepts : F → G → C → Type 0)
      (accept : (f : A1) (c : Chain (Parts A1 A2 C1) (Parts A2 A3 C2) (Parts A3 A4 C3) (Parts A4 A5 C4)) → IsChain f c → Is c → (k : C) × Accepts (part c) (next c) k) where
    one_accepted : (f : A1) (name : List ℕ) (chain : Option (Chain (Parts A1 A2 C1) (Parts A2 A3 C2) (Parts A3 A4 C3) (Parts A4 A5 C4))) (rest : List (code.Named F)) (rest' : List (code.Named G)) → HasChain f chain → IfSome chain Is
        → AcceptedInTurn Accepts rest rest' → AcceptedInTurn Accepts (made_of part name chain ++ rest) (made_of next name chain ++ rest')
    one_accepted f name None rest rest' goes is all = absurd goes
    one_accepted f name (Some chain) rest rest' goes is all = ((refl, accept f chain goes is), all)

    pub all_accepted : (functions : List (code.Named A1)) (named : List (Named (Parts A1 A2 C1) (Parts A2 A3 C2) (Parts A3 A4 C3) (Parts A4 A5 C4))) → AllChained functions named → EachChain Is named
        → AcceptedInTurn Accepts (all_made_of part functions named) (all_made_of next functions named)
    all_accepted [] named go each = tt
    all_accepted (x ∷ functions) [] go each = absurd go
    all_accepted (x ∷ functions) (y ∷ named) go each = one_accepted x.function x.name y.chain _ _ go.0 each.0 (all_accepted functions named go.1 each.1)

-- a pass from the functions of one language to those of another keeps the meaning of what it accepts
abbrev pub IsSound : {F G C : Type 0} → (F → Type 0) → (G → Type 0) → (F → G → C → Type 0) → (Program F → Behaviour) → (Program G → Behaviour) → Type 0
IsSound {F} {G} FitsF FitsG Accepts run run' = (p : Program F) (q : Program G) → AllFit FitsF p → AllFit FitsG q → Accepted Accepts p q → Keeps (run p) (run' q)

module _ {A1 A2 A3 A4 A5 C1 C2 C3 C4 : Type 0} (Fits1 : A1 → Type 0) (Fits2 : A2 → Type 0) (Fits3 : A3 → Type 0) (Fits4 : A4 → Type 0) (Fits5 : A5 → Type 0)
    (Accepts1 : A1 → A2 → C1 → Type 0) (Accepts2 : A2 → A3 → C2 → Type 0) (Accepts3 : A3 → A4 → C3 → Type 0) (Accepts4 : A4 → A5 → C4 → Type 0)
    (run1 : Program A1 → Behaviour) (run2 : Program A2 → Behaviour) (run3 : Program A3 → Behaviour) (run4 : Program A4 → Behaviour) (run5 : Program A5 → Behaviour)
    (sound1 : IsSound Fits1 Fits2 Accepts1 run1 run2) (sound2 : IsSound Fits2 Fits3 Accepts2 run2 run3) (sound3 : IsSound Fits3 Fits4 Accepts3 run3 run4) (sound4 : IsSound Fits4 Fits5 Accepts4 run4 run5) where
  abbrev Fit : Chain (Parts A1 A2 C1) (Parts A2 A3 C2) (Parts A3 A4 C3) (Parts A4 A5 C4) → Type 0
  Fit chain = AreFit Fits1 Fits2 Fits3 Fits4 Fits5 chain

  abbrev Passed : Chain (Parts A1 A2 C1) (Parts A2 A3 C2) (Parts A3 A4 C3) (Parts A4 A5 C4) → Type 0
  Passed chain = AreAccepted Accepts1 Accepts2 Accepts3 Accepts4 chain

  module _ (globals : List Global) (functions : List (code.Named A1)) (named : List (Named (Parts A1 A2 C1) (Parts A2 A3 C2) (Parts A3 A4 C3) (Parts A4 A5 C4))) (all_made : List (code.Named A5)) (are : AreLinked functions named all_made)
      (fit : EachChain Fit named) (accepted : EachChain Passed named) where
    abbrev between : {F : Type 0} → (Chain (Parts A1 A2 C1) (Parts A2 A3 C2) (Parts A3 A4 C3) (Parts A4 A5 C4) → F) → Program F
    between part = record { globals = globals; functions = all_made_of part functions named }

    go : AllChained functions named
    go = chained functions named all_made are

    first : Keeps (run1 (between (λ c. c.first.now.input))) (run2 (between (λ c. c.first.now.output)))
    first = sound1 _ _
        (all_fit Fit (λ c. c.first.now.input) Fits1 (λ c v. v.first.0) functions named fit)
        (all_fit Fit (λ c. c.first.now.output) Fits2 (λ c v. v.first.1) functions named fit)
        (record { globals = refl; functions = all_accepted Passed (λ c. c.first.now.input) (λ c. c.first.now.output) Accepts1 (λ f c is v. (c.first.now.certificate, v.first)) functions named go accepted })

    second : Keeps (run2 (between (λ c. c.first.now.output))) (run3 (between (λ c. c.second.now.output)))
    second = sound2 _ _
        (all_fit Fit (λ c. c.first.now.output) Fits2 (λ c v. v.first.1) functions named fit)
        (all_fit Fit (λ c. c.second.now.output) Fits3 (λ c v. v.second.1) functions named fit)
        (record {
          globals = refl;
          functions = all_accepted Passed (λ c. c.first.now.output) (λ c. c.second.now.output) Accepts2
              (λ f c is v. (c.second.now.certificate, subst (λ i. Accepts2 i c.second.now.output c.second.now.certificate) is.second v.second)) functions named go accepted;
        })

    third : Keeps (run3 (between (λ c. c.second.now.output))) (run4 (between (λ c. c.third.now.output)))
    third = sound3 _ _
        (all_fit Fit (λ c. c.second.now.output) Fits3 (λ c v. v.second.1) functions named fit)
        (all_fit Fit (λ c. c.third.now.output) Fits4 (λ c v. v.third.1) functions named fit)
        (record {
          globals = refl;
          functions = all_accepted Passed (λ c. c.second.now.output) (λ c. c.third.now.output) Accepts3
              (λ f c is v. (c.third.now.certificate, subst (λ i. Accepts3 i c.third.now.output c.third.now.certificate) is.third v.third)) functions named go accepted;
        })

    fourth : Keeps (run4 (between (λ c. c.third.now.output))) (run5 (between (λ c. c.fourth.now.output)))
    fourth = sound4 _ _
        (all_fit Fit (λ c. c.third.now.output) Fits4 (λ c v. v.third.1) functions named fit)
        (all_fit Fit (λ c. c.fourth.now.output) Fits5 (λ c v. v.fourth.1) functions named fit)
        (record {
          globals = refl;
          functions = all_accepted Passed (λ c. c.third.now.output) (λ c. c.fourth.now.output) Accepts4
              (λ f c is v. (c.fourth.now.certificate, subst (λ i. Accepts4 i c.fourth.now.output c.fourth.now.certificate) is.fourth v.fourth)) functions named go accepted;
        })

    -- from the first inputs to the last outputs
    pub linked_keeps : Keeps (run1 (record { globals = globals; functions = functions })) (run5 (record { globals = globals; functions = all_made }))
    linked_keeps =
        let all = keeps-composes _ _ _ first (keeps-composes _ _ _ second (keeps-composes _ _ _ third fourth)) in
        let from : Keeps (run1 (record { globals = globals; functions = functions })) (run5 (between (λ c. c.fourth.now.output))) =
        subst (λ fs. Keeps (run1 (record { globals = globals; functions = fs })) (run5 (between (λ c. c.fourth.now.output)))) (sym (inputs functions named all_made are)) all in
        subst (λ fs. Keeps (run1 (record { globals = globals; functions = functions })) (run5 (record { globals = globals; functions = fs }))) (sym (outputs functions named all_made are)) from
