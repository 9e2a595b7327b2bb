-- What is found of the text's own RTL is said of the text.
use Rattle.std.proofs.Common.{◌≡◌, ℕ, zero, suc, List, [], ◌∷◌, All, sym, ap, ◌∙◌, subst, arith}
use Rattle.std.specs.List.{AllByRecursion}
use Rattle.std.proofs.lemmas.List.Elements.{recursion_from_All}
use Rattle.lang_base.specs.declared.program.Named.{Named}
use Rattle.lang_base.specs.declared.program.Program.{Program}
use Rattle.c_syntax.specs.Trees.{UnitTree}
use Rattle.c_program.specs.Trees.{ProgramTree}
use Rattle.c_checker_rules.specs.Units.{program_of}
use Rattle.c_texts.specs.Accepted.{IsAccepted}
use Rattle.cminor_lowering.specs.Programs.{low}
use Rattle.cminor_syntax.specs.Trees.{FunctionTree}
use Rattle.rtlgen.specs.Refused.{HasFewNodes, IsFirstTooLarge}
use Rattle.rtlgen_definition.specs.Gen.{gen}
use Rattle.rtl_language.specs.Function.{FunctionData}
use Rattle.bundle_offers.specs.declared.fault.PassNumber.{PassNumber}
use Rattle.farm_nodes_source.specs.Refused.{IsOnlyTooLarge}
use Rattle.farm_nodes_source.specs.declared.fault.SourceFault.{SourceFault}
use Rattle.farm_nodes_source.specs.declared.fault.SourceFault.TheVariants as source
use Rattle.cfarm_judge.specs.Judged.{IsNotJudged}
use Rattle.cfarm_judge.specs.Under.{HasNone, IsUnder}
use Rattle.cfarm_judge.proofs.Bytes.{passed_wants}
use Rattle.cfarm_judge.proofs.Under.{none_under, one_under}
use Rattle.cfarm_judge.specs.Passes.{IsPassedAt}
use Rattle.cfarm_judge.specs.Told.{HasSmallFunctions, begun_of, IsJudged, IsOfText, IsUnjudged, IsWant}
use Rattle.cfarm_judge.specs.declared.error.JudgeError.{JudgeError}
use Rattle.cfarm_judge.specs.declared.error.JudgeError.TheVariants as judge

module _ (text name offer : List ℕ) (u : UnitTree) (is : IsAccepted text u) (tree : ProgramTree) (of : tree ≡ program_of u)
    (few : All HasFewNodes (low tree).functions) (begun : Program FunctionData) (made : begun ≡ gen (low tree)) where
  begins : begun.functions ≡ begun_of u
  begins = ap (λ p. p.functions) (made ∙ ap (λ t. gen (low t)) of)

  small : HasSmallFunctions u
  small = subst (λ t. All HasFewNodes (low t).functions) of few

  pub text_has_none : HasNone begun.functions name → IsUnjudged text name offer judge.NoFunction
  text_has_none none = (u, is, small, subst (λ fs. HasNone fs name) begins none)

  of_text : (f : FunctionData) → IsUnder begun.functions name f → IsOfText text name offer f
  of_text f named = record { tree = u; accepted = is; few = small; named = subst (λ fs. IsUnder fs name f) begins named }

  pub judged_by : (f : FunctionData) (pass : PassNumber) → IsUnder begun.functions name f → IsPassedAt f offer pass → IsJudged text name offer pass
  judged_by f pass named passed = record { function = f; of_text = of_text f named; passed = passed }

  pub unjudged_by : (f : FunctionData) (e : JudgeError) → IsUnder begun.functions name f → IsNotJudged f offer e → IsUnjudged text name offer e
  unjudged_by f judge.NoMemory named told = tt
  unjudged_by f (judge.Source fault) named told = absurd told
  unjudged_by f judge.NoFunction named told = absurd told
  unjudged_by f (judge.Form fault) named told = (f, of_text f named, told)
  unjudged_by f judge.Unchained named told = (f, of_text f named, told)
  unjudged_by f (judge.Refused pass fault) named told = (f, of_text f named, told)
  unjudged_by f judge.Write named told = absurd told

few_first : (fs : List (Named FunctionTree)) (i : ℕ) → AllByRecursion HasFewNodes fs → IsFirstTooLarge fs i → ⊥
few_first [] i few first = first
few_first (f ∷ fs) zero few first = let some = few.0 in omega (arith, some, first)
few_first (f ∷ fs) (suc i) few first = few_first fs i few.1 first.1

-- An offer that is accepted is refused only for want of memory.
module _ (text name offer : List ℕ) (k : PassNumber) (is : IsJudged text name offer k) where
  pub source_wants : (fault : SourceFault) → IsOnlyTooLarge is.of_text.tree fault → IsWant (judge.Source fault)
  source_wants source.NoMemory told = tt
  source_wants (source.Text fault) told = told
  source_wants (source.TooManyNodes name) told =
      let fs = (low (program_of is.of_text.tree)).functions in absurd (few_first fs told.function (recursion_from_All HasFewNodes fs is.of_text.few) told.first)

  module _ (tree : ProgramTree) (of : tree ≡ program_of is.of_text.tree) (begun : Program FunctionData) (made : begun ≡ gen (low tree)) where
    begins_so : begun_of is.of_text.tree ≡ begun.functions
    begins_so = sym (ap (λ p. p.functions) (made ∙ ap (λ t. gen (low t)) of))

    named : IsUnder begun.functions name is.function
    named = subst (λ fs. IsUnder fs name is.function) begins_so is.of_text.named

    pub not_none : HasNone begun.functions name → IsWant judge.NoFunction
    not_none none = none_under begun.functions name named.0 is.function none named.1

    pub judged_wants : (f : FunctionData) (e : JudgeError) → IsUnder begun.functions name f → IsNotJudged f offer e → IsWant e
    judged_wants f e under told =
        let same = one_under begun.functions name under.0 named.0 f is.function under.1 named.1 in
        passed_wants is.function offer k is.passed e (subst (λ g. IsNotJudged g offer e) same told)
