-- What the refusal of a program of RTL says of the program of Cminor that it was translated from.
use Rattle.std.proofs.Common.{◌≡◌, ℕ, zero, suc, List, [], ◌∷◌, map, refl, sym, ap, ◌∙◌, subst, arith}
use Rattle.std.specs.Prelude.{All}
use Rattle.lang_base.specs.declared.program.Named as code
use Rattle.lang_base.specs.declared.program.Program.{Program}
use Rattle.cminor_syntax.specs.Trees.{FunctionTree}
use Rattle.rtlgen_definition.specs.Gen.{gen, gen_named}
use Rattle.rtlgen.specs.Refused as translation
use Rattle.rtlgen.specs.declared.errors.GenError.{GenError}
use Rattle.rtlgen.specs.declared.errors.GenError.TheVariants as gen_error
use Rattle.offers.specs.declared.parts.Parts.{Parts}
use Rattle.rtl_language.specs.Function.{FunctionData}
use Rattle.linker.specs.declared.chain.Named.{Named}
use Rattle.linker.specs.declared.errors.LinkError.{LinkError}
use Rattle.linker.specs.declared.errors.LinkError.TheVariants.{NoMemory, TooManyNodes, Missing, Unchained, Names}
use Rattle.linker.specs.Chains.{names_of, Refusal}
use Rattle.linker.specs.Refused.{IsRefused, HasNoTranslation, refusal_to_translate}

-- the translation keeps the names
pub names_translated : (functions : List (code.Named FunctionTree)) → names_of (map gen_named functions) ≡ names_of functions
names_translated [] = refl
names_translated (f ∷ functions) = ap (λ names. f.name ∷ names) (names_translated functions)

-- what the translation refuses has no translation
pub not_translated : (program : Program FunctionTree) (e : GenError) → translation.IsRefused program.functions e → HasNoTranslation program (refusal_to_translate e)
not_translated program gen_error.NoMemory told = tt
not_translated program (gen_error.TooManyNodes i) told = told

module _ {A2 A3 A4 A5 C1 C2 C3 C4 : Type 0} where
  refused_translated : (program : Program FunctionTree) (named : List (Named (Parts FunctionData A2 C1) (Parts A2 A3 C2) (Parts A3 A4 C3) (Parts A4 A5 C4))) (e : LinkError)
      → Refusal (gen program).functions named e → IsRefused program named e
  refused_translated program named NoMemory told = tt
  refused_translated program named (TooManyNodes i) told = absurd told
  refused_translated program named Names told = λ same. told (same ∙ sym (names_translated program.functions))
  refused_translated program named (Missing i) told = told
  refused_translated program named (Unchained i) told = told

  pub refused_along : (program : Program FunctionTree) (translated : Program FunctionData) (named : List (Named (Parts FunctionData A2 C1) (Parts A2 A3 C2) (Parts A3 A4 C3) (Parts A4 A5 C4))) (e : LinkError)
      → translated ≡ gen program → Refusal translated.functions named e → IsRefused program named e
  refused_along program translated named e same told = refused_translated program named e (subst (λ p. Refusal p.functions named e) same told)

  -- what has no translation is not linked
  pub untranslated : (program : Program FunctionTree) (named : List (Named (Parts FunctionData A2 C1) (Parts A2 A3 C2) (Parts A3 A4 C3) (Parts A4 A5 C4))) (e : LinkError)
      → HasNoTranslation program e → IsRefused program named e
  untranslated program named NoMemory told = tt
  untranslated program named Names told = absurd told
  untranslated program named (TooManyNodes i) told = told
  untranslated program named (Missing i) told = absurd told
  untranslated program named (Unchained i) told = absurd told

-- where no function needs too many nodes, none is told
none_too_large : (functions : List (code.Named FunctionTree)) (i : ℕ) → All translation.HasFewNodes functions → translation.IsFirstTooLarge functions i → ⊥
none_too_large [] i few told = told
none_too_large (f ∷ functions) zero few told = let have = few zero f (omega arith) in absurd (omega (arith, have, told))
none_too_large (f ∷ functions) (suc i) few told = none_too_large functions i (λ k d below. few (suc k) d (omega (arith, below))) told.1

-- so the translation refuses memory alone
pub few_translate : (program : Program FunctionTree) (e : LinkError) → All translation.HasFewNodes program.functions → HasNoTranslation program e → e ≡ NoMemory
few_translate program NoMemory few told = refl
few_translate program Names few told = absurd told
few_translate program (TooManyNodes i) few told = absurd (none_too_large program.functions i few told)
few_translate program (Missing i) few told = absurd told
few_translate program (Unchained i) few told = absurd told
