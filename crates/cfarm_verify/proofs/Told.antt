-- What is told of the parts of a check is told of the whole.
use Rattle.std.proofs.Common.{◌≡◌, ℕ, List, length, sym, ap, ◌∙◌, subst}
use Rattle.std.proofs.lemmas.List.{length-map}
use Rattle.lang_base.specs.declared.program.Named.{Named}
use Rattle.lang_base.specs.declared.program.Program.{Program}
use Rattle.rtl_language.specs.Function as rtl
use Rattle.linear_language.specs.Function as linear
use Rattle.linker.specs.Chains.{names_of}
use Rattle.chains.specs.declared.offering.Offers.{Offers}
use Rattle.chains.specs.Offered.{linked_offers}
use Rattle.bundle_reading.specs.Read.{offers_in, offers_of}
use Rattle.bundle_offers.specs.Standing.{AllStand, IsFirstFault}
use Rattle.bundle_reading.specs.declared.four.Four.{Four}
use Rattle.bundle_offers.specs.declared.fault.OfferFault.{OfferFault}
use Rattle.cfarm_verify.specs.Checked.{AreOfText, IsFaulty, IsNamedFault, IsNamedOther, IsOther, IsUnchecked}
use Rattle.cfarm_verify_comparing.specs.Compared.{IsFirstOther}
use Rattle.cfarm_verify.specs.declared.error.VerifyError.{VerifyError}
use Rattle.cfarm_verify.specs.declared.error.VerifyError.TheVariants as verify

pub named_other : (begun : Program rtl.FunctionData) (p : Program linear.FunctionData) (offers : List Offers) (i : ℕ) (e : VerifyError)
    → IsFirstOther (linked_offers begun offers).functions p.functions i → IsNamedOther (names_of begun.functions) i e → IsOther begun p offers e
named_other begun p offers i verify.NoMemory first told = tt
named_other begun p offers i (verify.OtherFunction name) first told = (i, first, told)
named_other begun p offers i (verify.Source fault) first told = absurd told
named_other begun p offers i (verify.Program fault) first told = absurd told
named_other begun p offers i (verify.Bundle fault) first told = absurd told
named_other begun p offers i verify.OtherSource first told = absurd told
named_other begun p offers i verify.ProgramNames first told = absurd told
named_other begun p offers i verify.BundleNames first told = absurd told
named_other begun p offers i (verify.Offer fault name) first told = absurd told
named_other begun p offers i verify.OtherGlobals first told = absurd told
named_other begun p offers i verify.Write first told = absurd told

pub named_fault : (functions : List (Named rtl.FunctionData)) (offers : List Offers) (i : ℕ) (fault : OfferFault) (e : VerifyError)
    → IsFirstFault functions offers i fault → IsNamedFault (names_of functions) i fault e → IsFaulty functions offers e
named_fault functions offers i fault verify.NoMemory first told = tt
named_fault functions offers i fault (verify.Offer other name) first told =
    (i, subst (λ f. IsFirstFault functions offers i f) (sym told.0) first, told.1)
named_fault functions offers i fault (verify.Source other) first told = absurd told
named_fault functions offers i fault (verify.Program other) first told = absurd told
named_fault functions offers i fault (verify.Bundle other) first told = absurd told
named_fault functions offers i fault verify.OtherSource first told = absurd told
named_fault functions offers i fault verify.ProgramNames first told = absurd told
named_fault functions offers i fault verify.BundleNames first told = absurd told
named_fault functions offers i fault (verify.OtherFunction name) first told = absurd told
named_fault functions offers i fault verify.OtherGlobals first told = absurd told
named_fault functions offers i fault verify.Write first told = absurd told

module _ (hash : List ℕ) (begun : Program rtl.FunctionData) (p : Program linear.FunctionData) (digest : List ℕ) (offers : List Offers) (are : AreOfText hash begun p digest offers) where
  pub faulty_unchecked : (e : VerifyError) → IsFaulty begun.functions offers e → IsUnchecked hash begun p digest offers e
  faulty_unchecked verify.NoMemory told = tt
  faulty_unchecked (verify.Offer fault name) told = (are, told)
  faulty_unchecked (verify.Source other) told = absurd told
  faulty_unchecked (verify.Program other) told = absurd told
  faulty_unchecked (verify.Bundle other) told = absurd told
  faulty_unchecked verify.OtherSource told = absurd told
  faulty_unchecked verify.ProgramNames told = absurd told
  faulty_unchecked verify.BundleNames told = absurd told
  faulty_unchecked (verify.OtherFunction name) told = absurd told
  faulty_unchecked verify.OtherGlobals told = absurd told
  faulty_unchecked verify.Write told = absurd told

  pub other_unchecked : (e : VerifyError) → AllStand begun.functions offers → IsOther begun p offers e → IsUnchecked hash begun p digest offers e
  other_unchecked verify.NoMemory stand told = tt
  other_unchecked (verify.OtherFunction name) stand told = (are, stand, told)
  other_unchecked verify.OtherGlobals stand told = (are, stand, told)
  other_unchecked (verify.Source other) stand told = absurd told
  other_unchecked (verify.Program other) stand told = absurd told
  other_unchecked (verify.Bundle other) stand told = absurd told
  other_unchecked verify.OtherSource stand told = absurd told
  other_unchecked verify.ProgramNames stand told = absurd told
  other_unchecked verify.BundleNames stand told = absurd told
  other_unchecked (verify.Offer fault name) stand told = absurd told
  other_unchecked verify.Write stand told = absurd told

-- what was compared
pub of_text : (hash : List ℕ) (begun : Program rtl.FunctionData) (p : Program linear.FunctionData) (digest : List ℕ) (fours : List Four)
    (fs : List (Named rtl.FunctionData)) (gs : List (Named linear.FunctionData)) → fs ≡ begun.functions → gs ≡ p.functions
    → digest ≡ hash → names_of gs ≡ names_of fs → length fours ≡ length begun.functions → AreOfText hash begun p digest (offers_in fours)
of_text hash begun p digest fours fs gs begins ends text names many = record {
  text = text;
  names = ap (λ l. names_of l) (sym ends) ∙ names ∙ ap (λ l. names_of l) begins;
  many = length-map fours offers_of ∙ many;
}
