-- The programs of the functions in between, each accepted for the one before it.
use Rattle.std.proofs.Common.{◌≡◌, List, [], ◌∷◌, All, refl, ap, subst}
use Rattle.std.specs.List.{AllByRecursion}
use Rattle.std.proofs.lemmas.List.Elements.{All-nil, All-cons}
use Rattle.lang_base.specs.Keeps.{Keeps}
use Rattle.lang_base.specs.Soundness.{AcceptedInTurn, KeepsAll}
use Rattle.lang_base.specs.declared.program.Named.{Named}
use Rattle.lang_base.specs.declared.program.Program.{Program}
use Rattle.lang_base.proofs.Composition.{keeps-composes}
use Rattle.rtl_language.specs.Function as rtl
use Rattle.rtl_language.specs.Meaning as rtl_meaning
use Rattle.ltl.specs.Function as ltl
use Rattle.ltl.specs.Meaning as ltl_meaning
use Rattle.linear_language.specs.Function as linear
use Rattle.linear_language.specs.Meaning as linear_meaning
use Rattle.constprop_check_rules.specs.Rules.{IsPropagated}
use Rattle.cse_check_rules.specs.Rules.{IsEliminated}
use Rattle.bundle_reading.specs.Allocated.{IsAllocated}
use Rattle.linearize_check_proof.specs.Rules.{IsLaidOut}
use Rattle.bundle_reading.specs.Offers.{Offers}
use Rattle.bundle_reading.specs.Offered.{ends_of, linked_offers}
use Rattle.bundle_reading.specs.declared.four.Four.{Four}
use Rattle.bundle_reading.specs.Read.{offers_in, offers_of}
use Rattle.bundle_offers.specs.Standing.{AllStand, Stand}
use Rattle.cfarm_verify_comparing.specs.Ranges.{AreInRange}

-- a function of each function's offers, under its name
abbrev parts_of : {F : Type 0} → (Offers → F) → List (Named rtl.FunctionData) → List Offers → List (Named F)
parts_of part [] offers = []
parts_of part (f ∷ functions) [] = []
parts_of part (f ∷ functions) (o ∷ offers) = record { name = f.name; function = part o } ∷ parts_of part functions offers

-- the first inputs are the functions
inputs : (functions : List (Named rtl.FunctionData)) (offers : List Offers) → AllStand functions offers → parts_of (λ o. o.constants.input) functions offers ≡ functions
inputs [] offers stand = refl
inputs (f ∷ functions) [] stand = absurd stand
inputs (f ∷ functions) (o ∷ offers) stand = λ i. record { name = f.name; function = stand.0.first.0 i } ∷ inputs functions offers stand.1 i

-- the last outputs are what the offers come to
outputs : (functions : List (Named rtl.FunctionData)) (offers : List Offers) → parts_of (λ o. o.order.output) functions offers ≡ ends_of functions offers
outputs [] offers = refl
outputs (f ∷ functions) [] = refl
outputs (f ∷ functions) (o ∷ offers) = ap (λ rest. record { name = f.name; function = o.order.output } ∷ rest) (outputs functions offers)

module _ {F : Type 0} (part : Offers → F) (Fits : F → Type 0) (fit : (o : Offers) → AreInRange o → Fits (part o)) where
  all_fit : (functions : List (Named rtl.FunctionData)) (offers : List Offers) → AllByRecursion AreInRange offers → All (λ g. Fits g.function) (parts_of part functions offers)
  all_fit [] offers are = All-nil _
  all_fit (f ∷ functions) [] are = All-nil _
  all_fit (f ∷ functions) (o ∷ offers) are =
      All-cons (λ g. Fits g.function) (record { name = f.name; function = part o }) (parts_of part functions offers) (fit o are.0) (all_fit functions offers are.1)

module _ {F G C : Type 0} (part : Offers → F) (next : Offers → G) (Accepts : F → G → C → Type 0) (accept : (f : rtl.FunctionData) (o : Offers) → Stand f o → (k : C) × Accepts (part o) (next o) k) where
  all_accepted : (functions : List (Named rtl.FunctionData)) (offers : List Offers) → AllStand functions offers
      → AcceptedInTurn Accepts (parts_of part functions offers) (parts_of next functions offers)
  all_accepted [] offers stand = tt
  all_accepted (f ∷ functions) [] stand = absurd stand
  all_accepted (f ∷ functions) (o ∷ offers) stand = ((refl, accept f.function o stand.0), all_accepted functions offers stand.1)

module _ (begun : Program rtl.FunctionData) (offers : List Offers) (stand : AllStand begun.functions offers) (are : AllByRecursion AreInRange offers) where
  abbrev between : {F : Type 0} → (Offers → F) → Program F
  between part = record { globals = begun.globals; functions = parts_of part begun.functions offers }

  first : KeepsAll rtl.IsFunction rtl.IsFunction IsPropagated rtl_meaning.run rtl_meaning.run
      → Keeps (rtl_meaning.run (between (λ o. o.constants.input))) (rtl_meaning.run (between (λ o. o.constants.output)))
  first sound = sound _ _
      (all_fit (λ o. o.constants.input) rtl.IsFunction (λ o is. is.first) begun.functions offers are)
      (all_fit (λ o. o.constants.output) rtl.IsFunction (λ o is. is.second) begun.functions offers are)
      (record { globals = refl; functions = all_accepted (λ o. o.constants.input) (λ o. o.constants.output) IsPropagated (λ f o is. (o.constants.certificate, is.first.1)) begun.functions offers stand })

  second : KeepsAll rtl.IsFunction rtl.IsFunction IsEliminated rtl_meaning.run rtl_meaning.run
      → Keeps (rtl_meaning.run (between (λ o. o.constants.output))) (rtl_meaning.run (between (λ o. o.expressions.output)))
  second sound = sound _ _
      (all_fit (λ o. o.constants.output) rtl.IsFunction (λ o is. is.second) begun.functions offers are)
      (all_fit (λ o. o.expressions.output) rtl.IsFunction (λ o is. is.third) begun.functions offers are)
      (record {
        globals = refl;
        functions = all_accepted (λ o. o.constants.output) (λ o. o.expressions.output) IsEliminated
            (λ f o is. (o.expressions.certificate, subst (λ i. IsEliminated i o.expressions.output o.expressions.certificate) is.second.0 is.second.1)) begun.functions offers stand;
      })

  third : KeepsAll rtl.IsFunction ltl.IsFunction IsAllocated rtl_meaning.run ltl_meaning.run
      → Keeps (rtl_meaning.run (between (λ o. o.expressions.output))) (ltl_meaning.run (between (λ o. o.allocation.output)))
  third sound = sound _ _
      (all_fit (λ o. o.expressions.output) rtl.IsFunction (λ o is. is.third) begun.functions offers are)
      (all_fit (λ o. o.allocation.output) ltl.IsFunction (λ o is. is.fourth) begun.functions offers are)
      (record {
        globals = refl;
        functions = all_accepted (λ o. o.expressions.output) (λ o. o.allocation.output) IsAllocated
            (λ f o is. (o.allocation.certificate, subst (λ i. IsAllocated i o.allocation.output o.allocation.certificate) is.third.0 is.third.1)) begun.functions offers stand;
      })

  fourth : KeepsAll ltl.IsFunction linear.IsFunction IsLaidOut ltl_meaning.run linear_meaning.run
      → Keeps (ltl_meaning.run (between (λ o. o.allocation.output))) (linear_meaning.run (between (λ o. o.order.output)))
  fourth sound = sound _ _
      (all_fit (λ o. o.allocation.output) ltl.IsFunction (λ o is. is.fourth) begun.functions offers are)
      (all_fit (λ o. o.order.output) linear.IsFunction (λ o is. is.last) begun.functions offers are)
      (record {
        globals = refl;
        functions = all_accepted (λ o. o.allocation.output) (λ o. o.order.output) IsLaidOut
            (λ f o is. (o.order.certificate, subst (λ i. IsLaidOut i o.order.output o.order.certificate) is.fourth.0 is.fourth.1)) begun.functions offers stand;
      })

  -- from the first inputs to the last outputs
  pub keeps_by : KeepsAll rtl.IsFunction rtl.IsFunction IsPropagated rtl_meaning.run rtl_meaning.run
      → KeepsAll rtl.IsFunction rtl.IsFunction IsEliminated rtl_meaning.run rtl_meaning.run
      → KeepsAll rtl.IsFunction ltl.IsFunction IsAllocated rtl_meaning.run ltl_meaning.run
      → KeepsAll ltl.IsFunction linear.IsFunction IsLaidOut ltl_meaning.run linear_meaning.run
      → Keeps (rtl_meaning.run begun) (linear_meaning.run (linked_offers begun offers))
  keeps_by one two three four =
      let all = keeps-composes _ _ _ (first one) (keeps-composes _ _ _ (second two) (keeps-composes _ _ _ (third three) (fourth four))) in
      let from : Keeps (rtl_meaning.run begun) (linear_meaning.run (between (λ o. o.order.output))) =
      subst (λ fs. Keeps (rtl_meaning.run (record { globals = begun.globals; functions = fs })) (linear_meaning.run (between (λ o. o.order.output)))) (inputs begun.functions offers stand) all in
      subst (λ fs. Keeps (rtl_meaning.run begun) (linear_meaning.run (record { globals = begun.globals; functions = fs }))) (outputs begun.functions offers) from

-- what is said of parts is said of the offers
pub as_offers : (fours : List Four) → AllByRecursion (λ four. AreInRange (offers_of four)) fours → AllByRecursion AreInRange (offers_in fours)
as_offers [] are = tt
as_offers (four ∷ fours) are = (are.0, as_offers fours are.1)
