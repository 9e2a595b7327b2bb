-- The offers of a pass begin with its byte, and no other pass's do.
use Rattle.std.proofs.Common.{◌≡◌, ◌≢◌, ℕ, List, [], ◌∷◌, ◌++◌, get_or, refl, sym, ap, subst, ◌∙◌, arith}
use Rattle.lang_base.specs.declared.errors.FormError.{FormError}
use Rattle.lang_base.specs.declared.errors.FormError.TheVariants as form
use Rattle.lang_base.specs.declared.fault.Fault.{Fault}
use Rattle.rtl_language.specs.Function.{FunctionData}
use Rattle.bundle_offers.specs.declared.fault.PassNumber.{PassNumber}
use Rattle.bundle_offers.specs.declared.fault.PassNumber.TheVariants.{First, Second, Third, Fourth}
use Rattle.cfarm_judge.specs.Bytes.{BeginsFor, BeginsNoOffer, IsNoOffer}
use Rattle.cfarm_judge.specs.Judged.{IsNotJudged}
use Rattle.cfarm_judge.specs.Passes.{AcceptsAt, byte_of, FitsAt, IsNotPassedAt, IsPassedAt, PartsAt, text_at, WantedAt}
use Rattle.cfarm_judge.specs.Passing.{HasNoParts}
use Rattle.cfarm_judge.specs.Told.{IsWant}
use Rattle.cfarm_judge.specs.declared.error.JudgeError.{JudgeError}
use Rattle.cfarm_judge.specs.declared.error.JudgeError.TheVariants as judge

-- two passes have two first bytes
one_pass : (j k : PassNumber) → byte_of j ≡ byte_of k → j ≡ k
one_pass First First e = refl
one_pass First Second e = absurd (omega (arith, e))
one_pass First Third e = absurd (omega (arith, e))
one_pass First Fourth e = absurd (omega (arith, e))
one_pass Second First e = absurd (omega (arith, e))
one_pass Second Second e = refl
one_pass Second Third e = absurd (omega (arith, e))
one_pass Second Fourth e = absurd (omega (arith, e))
one_pass Third First e = absurd (omega (arith, e))
one_pass Third Second e = absurd (omega (arith, e))
one_pass Third Third e = refl
one_pass Third Fourth e = absurd (omega (arith, e))
one_pass Fourth First e = absurd (omega (arith, e))
one_pass Fourth Second e = absurd (omega (arith, e))
one_pass Fourth Third e = absurd (omega (arith, e))
one_pass Fourth Fourth e = refl

-- the first of the bytes of an offer
first_of_text : (j : PassNumber) (parts : PartsAt j) (more : List ℕ) → get_or (text_at j parts ++ more) 0 0 ≡ byte_of j
first_of_text First parts more = refl
first_of_text Second parts more = refl
first_of_text Third parts more = refl
first_of_text Fourth parts more = refl

first_is : (j : PassNumber) (parts : PartsAt j) → get_or (text_at j parts) 0 0 ≡ byte_of j
first_is First parts = refl
first_is Second parts = refl
first_is Third parts = refl
first_is Fourth parts = refl

begun_with : (bytes : List ℕ) (k : PassNumber) → BeginsFor bytes k → get_or bytes 0 0 ≡ byte_of k
begun_with [] k begins = absurd begins
begun_with (first ∷ rest) k begins = begins

not_empty : (bytes : List ℕ) (k : PassNumber) → BeginsFor bytes k → bytes ≡ [] → ⊥
not_empty [] k begins e = begins
not_empty (first ∷ rest) k begins e = cc

-- Bytes that begin as a pass's offers do, and are none of it.
module _ (bytes : List ℕ) (k : PassNumber) (begins : BeginsFor bytes k) (f : FunctionData) where
  abbrev HasNoneOf : PassNumber → FormError → Type 0
  HasNoneOf j fault = HasNoParts (FitsAt j) (text_at j) bytes fault

  no_offer : (fault : FormError) → HasNoneOf k fault → IsNoOffer bytes fault
  no_offer fault none = record {
    none = λ j parts fits e.
        let same : k ≡ j = one_pass k j (sym (begun_with bytes k begins) ∙ ap (λ l. get_or l 0 0) e ∙ first_is j parts) in
        (subst (λ i. HasNoneOf i fault) same none).none parts fits e;
    empty = λ e. absurd (not_empty bytes k begins e);
    tag = λ first rest e other. absurd (other k (sym (ap (λ l. get_or l 0 0) e) ∙ begun_with bytes k begins));
    behind = λ j parts first rest fits e.
        let same : k ≡ j = one_pass k j (sym (begun_with bytes k begins) ∙ ap (λ l. get_or l 0 0) e ∙ first_of_text j parts (first ∷ rest)) in
        (subst (λ i. HasNoneOf i fault) same none).behind parts first rest fits e;
  }

  first_alone : (j : PassNumber) → IsNotPassedAt f bytes j judge.Unchained → IsNotPassedAt f bytes First judge.Unchained
  first_alone First told = told
  first_alone Second told = absurd (told.unwanted tt)
  first_alone Third told = absurd (told.unwanted tt)
  first_alone Fourth told = absurd (told.unwanted tt)

  pub not_judged : (e : JudgeError) → IsNotPassedAt f bytes k e → IsNotJudged f bytes e
  not_judged judge.NoMemory told = tt
  not_judged (judge.Source fault) told = absurd told
  not_judged judge.NoFunction told = absurd told
  not_judged (judge.Form fault) told = λ different. no_offer fault (told different)
  not_judged judge.Unchained told = first_alone k told
  not_judged (judge.Refused pass fault) told = subst (λ i. IsNotPassedAt f bytes i (judge.Refused pass fault)) (sym told.0) told
  not_judged judge.Write told = absurd told

no_text : (bytes : List ℕ) (j : PassNumber) (parts : PartsAt j) → bytes ≡ [] → bytes ≡ text_at j parts → ⊥
no_text bytes First parts e e' = cc
no_text bytes Second parts e e' = cc
no_text bytes Third parts e e' = cc
no_text bytes Fourth parts e e' = cc

no_more : (bytes : List ℕ) (j : PassNumber) (parts : PartsAt j) (more : List ℕ) → bytes ≡ [] → bytes ≡ text_at j parts ++ more → ⊥
no_more bytes First parts more e e' = cc
no_more bytes Second parts more e e' = cc
no_more bytes Third parts more e e' = cc
no_more bytes Fourth parts more e e' = cc

-- bytes that begin as no pass's offers do
pub not_begun : (bytes : List ℕ) (fault : FormError) → BeginsNoOffer bytes fault → IsNoOffer bytes fault
not_begun [] fault none = record {
  none = λ j parts fits e. no_text [] j parts refl e;
  empty = λ e. none;
  tag = λ first rest e other. absurd cc;
  behind = λ j parts first rest fits e. absurd (no_more [] j parts (first ∷ rest) refl e);
}
not_begun (b ∷ bytes) fault none = record {
  none = λ j parts fits e. none.1 j (ap (λ l. get_or l 0 0) e ∙ first_is j parts);
  empty = λ e. absurd cc;
  tag = λ first rest e other. none.0;
  behind = λ j parts first rest fits e. absurd (none.1 j (ap (λ l. get_or l 0 0) e ∙ first_of_text j parts (first ∷ rest)));
}

-- Bytes that a pass accepts are refused only for want of memory.
module _ (f : FunctionData) (bytes : List ℕ) (k : PassNumber) (is : IsPassedAt f bytes k) where
  same_pass : (j : PassNumber) (parts : PartsAt j) → bytes ≡ text_at j parts → k ≡ j
  same_pass j parts e =
      one_pass k j (sym (first_is k is.parts) ∙ ap (λ l. get_or l 0 0) (sym is.spelled.text) ∙ ap (λ l. get_or l 0 0) e ∙ first_is j parts)

  passed_by : (j : PassNumber) (parts : PartsAt j) → bytes ≡ text_at j parts → IsPassedAt f bytes j
  passed_by j parts e = subst (λ i. IsPassedAt f bytes i) (same_pass j parts e) is

  unwanted : IsNotPassedAt f bytes First judge.Unchained → ⊥
  unwanted told =
      let here = passed_by First told.parts told.spelled.text in
      told.unwanted (subst (λ o. WantedAt f First o) (here.spelled.only told.parts told.spelled.fits told.spelled.text) here.wanted)

  unaccepted : (j : PassNumber) (fault : Fault) → IsNotPassedAt f bytes j (judge.Refused j fault) → ⊥
  unaccepted j fault told =
      let here = passed_by j told.1.parts told.1.spelled.text in
      told.1.refused (subst (λ o. AcceptsAt j o) (here.spelled.only told.1.parts told.1.spelled.fits told.1.spelled.text) here.accepted)

  form_wants : (fault : FormError) → (fault ≢ form.NoMemory → IsNoOffer bytes fault) → fault ≡ form.NoMemory
  form_wants form.NoMemory told = refl
  form_wants form.Short told = absurd ((told (λ e. absurd (cc e))).none k is.parts is.spelled.fits is.spelled.text)
  form_wants form.BadTag told = absurd ((told (λ e. absurd (cc e))).none k is.parts is.spelled.fits is.spelled.text)
  form_wants form.NotCanonical told = absurd ((told (λ e. absurd (cc e))).none k is.parts is.spelled.fits is.spelled.text)
  form_wants form.TooLarge told = absurd ((told (λ e. absurd (cc e))).none k is.parts is.spelled.fits is.spelled.text)

  pub passed_wants : (e : JudgeError) → IsNotJudged f bytes e → IsWant e
  passed_wants judge.NoMemory told = tt
  passed_wants (judge.Source fault) told = absurd told
  passed_wants judge.NoFunction told = absurd told
  passed_wants (judge.Form fault) told = form_wants fault told
  passed_wants judge.Unchained told = absurd (unwanted told)
  passed_wants (judge.Refused j fault) told = absurd (unaccepted j fault told)
  passed_wants judge.Write told = absurd told
