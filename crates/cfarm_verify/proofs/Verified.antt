-- What is found of the text's own RTL is said of the text.
use Rattle.std.proofs.Common.{◌≡◌, ℕ, List, length, ap, ◌∙◌, subst}
use Rattle.sha2.specs.Sha256.{sha256}
use Rattle.lang_base.specs.Keeps.{Keeps}
use Rattle.lang_base.specs.declared.program.Program.{Program}
use Rattle.c_syntax.specs.Trees.{UnitTree}
use Rattle.c_program.specs.Meaning.{crun}
use Rattle.c_program.specs.Trees.{ProgramTree}
use Rattle.c_checker_rules.specs.Units.{program_of}
use Rattle.c_texts.specs.Accepted.{IsAccepted}
use Rattle.cminor_lowering.specs.Programs.{low}
use Rattle.rtlgen_definition.specs.Gen.{gen}
use Rattle.rtl_language.specs.Function as rtl
use Rattle.linear_language.specs.Function as linear
use Rattle.linear_language.specs.Meaning.{run}
use Rattle.chains.specs.declared.offering.Offers.{Offers}
use Rattle.bundle_reading.specs.Texts.{IsBundleOf}
use Rattle.bundle_offers.proofs.Standings.{accepted, all_accepted, go_on}
use Rattle.cfarm_verify.specs.Checked.{AreChecked, IsUnchecked}
use Rattle.cfarm_verify_reading.specs.Spelled.{IsSpelled}
use Rattle.cfarm_verify.specs.Told.{HasSmallFunctions, IsUnverified, IsVerified, rtl_of}
use Rattle.cfarm_verify.specs.declared.error.VerifyError.{VerifyError}
use Rattle.cfarm_verify.specs.declared.error.VerifyError.TheVariants as verify

module _ (text program bundle : List ℕ) (u : UnitTree) (is : IsAccepted text u) (tree : ProgramTree) (of : tree ≡ program_of u)
    (begun : Program rtl.FunctionData) (made : begun ≡ gen (low tree)) (small : HasSmallFunctions u) (p : Program linear.FunctionData) (spelled : IsSpelled program p)
    (digest : List ℕ) (offers : List Offers) (bundled : IsBundleOf bundle digest offers)
    (hash : List ℕ) (hashed : hash ≡ sha256 text) (held : List ℕ) (same : held ≡ digest) where
  begins : begun ≡ rtl_of u
  begins = made ∙ ap (λ t. gen (low t)) of

  pub verified_by : (n : ℕ) → n ≡ length offers → AreChecked hash begun p held offers → Keeps (crun tree) (run p) → IsVerified text program bundle n
  verified_by n count checked keeps =
      let of_text = subst (λ h. AreChecked h begun p digest offers) hashed (subst (λ d. AreChecked hash begun p d offers) same checked) in
      let are = subst (λ b. AreChecked (sha256 text) b p digest offers) begins of_text in
      record {
        tree = u;
        accepted = is;
        offers = offers;
        bundled = subst (λ d. IsBundleOf bundle d offers) are.of_text.text bundled;
        chained = go_on (rtl_of u).functions offers are.stand;
        passed = all_accepted offers (accepted (rtl_of u).functions offers are.stand);
        spelled = subst (λ q. IsSpelled program q) are.is spelled;
        keeps = subst (λ q. Keeps (crun (program_of u)) (run q)) are.is (subst (λ t. Keeps (crun t) (run p)) of keeps);
        count = count;
      }

  abbrev Said : VerifyError → Type 0
  Said e = IsUnchecked (sha256 text) (rtl_of u) p digest offers e

  told_of : (e : VerifyError) → Said e → IsUnverified text program bundle e
  told_of verify.NoMemory told = tt
  told_of (verify.Source fault) told = absurd told
  told_of (verify.Program fault) told = absurd told
  told_of (verify.Bundle fault) told = absurd told
  told_of verify.OtherSource told = (record { tree = u; accepted = is; small = small; linear = p; spelled = spelled; digest = digest; offers = offers; bundled = bundled }, told)
  told_of verify.ProgramNames told = (record { tree = u; accepted = is; small = small; linear = p; spelled = spelled; digest = digest; offers = offers; bundled = bundled }, told)
  told_of verify.BundleNames told = (record { tree = u; accepted = is; small = small; linear = p; spelled = spelled; digest = digest; offers = offers; bundled = bundled }, told)
  told_of (verify.Offer fault name) told = (record { tree = u; accepted = is; small = small; linear = p; spelled = spelled; digest = digest; offers = offers; bundled = bundled }, told)
  told_of (verify.OtherFunction name) told = (record { tree = u; accepted = is; small = small; linear = p; spelled = spelled; digest = digest; offers = offers; bundled = bundled }, told)
  told_of verify.OtherGlobals told = (record { tree = u; accepted = is; small = small; linear = p; spelled = spelled; digest = digest; offers = offers; bundled = bundled }, told)
  told_of verify.Write told = absurd told

  pub unverified_by : (e : VerifyError) → IsUnchecked hash begun p held offers e → IsUnverified text program bundle e
  unverified_by e told =
      let of_text = subst (λ h. IsUnchecked h begun p digest offers e) hashed (subst (λ d. IsUnchecked hash begun p d offers e) same told) in
      told_of e (subst (λ b. IsUnchecked (sha256 text) b p digest offers e) begins of_text)
