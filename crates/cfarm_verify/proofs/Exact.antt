-- A program that is verified is refused only for want of memory.
use Rattle.std.proofs.Common.{◌≡◌, ◌≢◌, ℕ, zero, suc, List, [], ◌∷◌, ◌++◌, length, get_or, drop, map, refl, sym, ap, ◌∙◌, subst, arith}
use Rattle.std.specs.List.{AllByRecursion}
use Rattle.std.proofs.lemmas.List.Elements.{recursion_from_All}
use Rattle.sha2.specs.Sha256.{sha256}
use Rattle.lang_base.specs.declared.errors.FormError.{FormError}
use Rattle.lang_base.specs.declared.errors.FormError.TheVariants as form
use Rattle.lang_base.specs.declared.program.Named.{Named}
use Rattle.lang_base.specs.declared.program.Program.{Program}
use Rattle.lang.specs.Form.{IsProgram, program_text}
use Rattle.c_program.specs.Trees.{ProgramTree}
use Rattle.c_checker_rules.specs.Units.{program_of}
use Rattle.cminor_lowering.specs.Programs.{low}
use Rattle.cminor_syntax.specs.Trees.{FunctionTree}
use Rattle.cfarm_verify_reading.specs.Refused.{IsFirstTooLarge}
use Rattle.rtlgen_definition.specs.Gen.{gen, gen_named}
use Rattle.rtl_language.specs.Function as rtl
use Rattle.linear_language.specs.Function as linear
use Rattle.linear_language.specs.Spelling.{spelling}
use Rattle.farm_nodes_source.specs.Refused.{IsOnlyTooLarge}
use Rattle.farm_nodes_source.specs.declared.fault.SourceFault.{SourceFault}
use Rattle.farm_nodes_source.specs.declared.fault.SourceFault.TheVariants as source
use Rattle.chains.specs.declared.offering.Offers.{Offers}
use Rattle.chains.specs.Accepted.{AreAccepted}
use Rattle.chains.specs.Offered.{AllGoOn, linked_offers}
use Rattle.bundle_reading.specs.Texts.{HasNoBundle, HasOneBundle, IsBundleOf, OffersFit}
use Rattle.bundle_offers.proofs.Standings.{as_many, ends_names, no_fault, they_stand}
use Rattle.cfarm_verify.specs.Checked.{AreChecked, IsUnchecked}
use Rattle.cfarm_verify_comparing.specs.Compared.{IsFirstOther}
use Rattle.cfarm_verify_reading.specs.Spelled.{IsNoProgram, IsSpelled}
use Rattle.cfarm_verify.specs.Told.{IsVerified, IsWant, rtl_of}
use Rattle.cfarm_verify.specs.declared.error.VerifyError.{VerifyError}
use Rattle.cfarm_verify.specs.declared.error.VerifyError.TheVariants as verify

same_no_other : (fs gs : List (Named linear.FunctionData)) (i : ℕ) → gs ≡ fs → IsFirstOther fs gs i → ⊥
same_no_other [] gs i e is = is
same_no_other (f ∷ fs) [] i e is = is
same_no_other (f ∷ fs) (g ∷ gs) zero e is = is (ap (λ l. (get_or l 0 f).function) e)
same_no_other (f ∷ fs) (g ∷ gs) (suc i) e is = same_no_other fs gs i (ap (drop 1) e) is.1

module _ (hash : List ℕ) (begun : Program rtl.FunctionData) (p : Program linear.FunctionData) (digest : List ℕ) (offers : List Offers)
    (are : AreChecked hash begun p digest offers) where
  checked_wants : (e : VerifyError) → IsUnchecked hash begun p digest offers e → IsWant e
  checked_wants verify.NoMemory told = tt
  checked_wants (verify.Source fault) told = absurd told
  checked_wants (verify.Program fault) told = absurd told
  checked_wants (verify.Bundle fault) told = absurd told
  checked_wants verify.OtherSource told = absurd (told are.of_text.text)
  checked_wants verify.ProgramNames told = absurd (told.1 are.of_text.names)
  checked_wants verify.BundleNames told = absurd (told.2 are.of_text.many)
  checked_wants (verify.Offer fault name) told = no_fault begun.functions offers told.1.0 fault are.stand told.1.1
  checked_wants (verify.OtherFunction name) told =
      absurd (same_no_other (linked_offers begun offers).functions p.functions told.2.0 (ap (λ q. q.functions) are.is) told.2.1)
  checked_wants verify.OtherGlobals told = absurd (told.2.1 (ap (λ q. q.globals) are.is))
  checked_wants verify.Write told = absurd told

-- offers that have a spelling go on from functions of few nodes
few_nodes : (fs : List (Named FunctionTree)) (offers : List Offers) (i : ℕ) → AllGoOn (map gen_named fs) offers → AllByRecursion OffersFit offers → IsFirstTooLarge fs i → ⊥
few_nodes [] offers i on fit told = told
few_nodes (f ∷ fs) [] i on fit told = on
few_nodes (f ∷ fs) (o ∷ offers) zero on fit told =
    let same = ap (λ g. length g.nodes) on.0.constants in
    let few = fit.0.constants.input.nodes in
    absurd (omega (arith, told, few, same))
few_nodes (f ∷ fs) (o ∷ offers) (suc i) on fit told = few_nodes fs offers i on.1 fit.1 told.1

abbrev HasOneProgram : Type 0
HasOneProgram =
    (p q : Program linear.FunctionData) (x y : List ℕ) → IsProgram linear.IsFunction p → IsProgram linear.IsFunction q
    → program_text 4 spelling p ++ x ≡ program_text 4 spelling q ++ y → (p ≡ q) × (x ≡ y)

same_program : HasOneProgram → (bytes : List ℕ) (p q : Program linear.FunctionData) → IsSpelled bytes p → IsSpelled bytes q → p ≡ q
same_program one bytes p q is are = (one p q [] [] is.fits are.fits (ap (λ l. l ++ []) (sym is.text ∙ are.text))).0

is_memory : (fault : FormError) → (fault ≢ form.NoMemory → ⊥) → fault ≡ form.NoMemory
is_memory form.NoMemory told = refl
is_memory form.Short told = absurd (told (λ e. absurd (cc e)))
is_memory form.BadTag told = absurd (told (λ e. absurd (cc e)))
is_memory form.NotCanonical told = absurd (told (λ e. absurd (cc e)))
is_memory form.TooLarge told = absurd (told (λ e. absurd (cc e)))

module _ (text program bundle : List ℕ) (n : ℕ) (is : IsVerified text program bundle n) where
  pub source_wants : (fault : SourceFault) → IsOnlyTooLarge is.tree fault → IsWant (verify.Source fault)
  source_wants source.NoMemory told = tt
  source_wants (source.Text fault) told = told
  source_wants (source.TooManyNodes name) told = absurd (few_nodes (low (program_of is.tree)).functions is.offers told.function is.chained is.bundled.fit told.first)

  pub program_wants : (fault : FormError) → (fault ≢ form.NoMemory → IsNoProgram program) → IsWant (verify.Program fault)
  program_wants fault told = is_memory fault (λ other. told other (linked_offers (rtl_of is.tree) is.offers) is.spelled)

  pub bundle_wants : (fault : FormError) → (fault ≢ form.NoMemory → HasNoBundle bundle) → IsWant (verify.Bundle fault)
  bundle_wants fault told = is_memory fault (λ other. told other (sha256 text) is.offers is.bundled)

  -- its own RTL, digest and offers are checked
  its_own : AreChecked (sha256 text) (rtl_of is.tree) (linked_offers (rtl_of is.tree) is.offers) (sha256 text) is.offers
  its_own = record {
    of_text = record {
      text = refl;
      names = ends_names (rtl_of is.tree).functions is.offers is.chained;
      many = as_many (rtl_of is.tree).functions is.offers is.chained;
    };
    stand = they_stand (rtl_of is.tree).functions is.offers is.chained (recursion_from_All AreAccepted is.offers is.passed);
    is = refl;
  }

  pub unchecked_wants : (tree : ProgramTree) → tree ≡ program_of is.tree → (begun : Program rtl.FunctionData) → begun ≡ gen (low tree)
      → HasOneProgram → (p : Program linear.FunctionData) → IsSpelled program p
      → HasOneBundle → (digest : List ℕ) (offers : List Offers) → IsBundleOf bundle digest offers
      → (hash : List ℕ) → hash ≡ sha256 text → (held : List ℕ) → held ≡ digest → (e : VerifyError) → IsUnchecked hash begun p held offers e → IsWant e
  unchecked_wants tree of begun made one p spelled alone digest offers bundled hash hashed held held_is e told =
      let of_text = subst (λ h. IsUnchecked h begun p digest offers e) hashed (subst (λ d. IsUnchecked hash begun p d offers e) held_is told) in
      let begins : begun ≡ rtl_of is.tree = made ∙ ap (λ t. gen (low t)) of in
      let linked : p ≡ linked_offers (rtl_of is.tree) is.offers = same_program one program p _ spelled is.spelled in
      let same = alone bundle digest (sha256 text) offers is.offers bundled is.bundled in
      let own : AreChecked (sha256 text) begun p digest offers =
      subst (λ b. AreChecked (sha256 text) b p digest offers) (sym begins)
      (subst (λ q. AreChecked (sha256 text) (rtl_of is.tree) q digest offers) (sym linked)
      (subst (λ d. AreChecked (sha256 text) (rtl_of is.tree) (linked_offers (rtl_of is.tree) is.offers) d offers) (sym same.0)
      (subst (λ os. AreChecked (sha256 text) (rtl_of is.tree) (linked_offers (rtl_of is.tree) is.offers) (sha256 text) os) (sym same.1) its_own))) in
      checked_wants (sha256 text) begun p digest offers own e of_text
