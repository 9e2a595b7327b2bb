-- The function behind a text, which is one.
use Rattle.std.proofs.Common.{◌≡◌, ℕ, List, Option, Some, None, refl, sym, ap, subst, ◌∙◌}
use Rattle.std.specs.Prelude.{IfSome, option_map}
use Rattle.lang_base.specs.declared.language.Language as language
use Rattle.lang_base.specs.declared.pass.Pass as pass
use Rattle.offers.specs.declared.parts.Parts.{Parts}
use Rattle.offers.specs.Reading.{AreOnlyParts, IsNoText}
use Rattle.offers.specs.Text.{text_of, PartsFit}
use Rattle.cfarm_fsck_linking.specs.Steps.{Begins, IsAnswered, IsEnd, IsOf, IsStep}

-- what is lent is seen
pub seen_some : {X I : Type 0} (see : X → I) (P : I → Type 0) (o : Option X) → IfSome o (λ x. P (see x)) → IfSome (option_map see o) P
seen_some see P None held = tt
seen_some see P (Some x) held = held

pub lent_some : {X I : Type 0} (see : X → I) (P : I → Type 0) (o : Option X) → IfSome (option_map see o) P → IfSome o (λ x. P (see x))
lent_some see P None held = tt
lent_some see P (Some x) held = held

module _ {P A B C I O : Type 0} (from : language.Ghosts A I) (to : language.Ghosts B O) (by : pass.Ghosts P A B C I O) (start : Option I) where
  -- no text is known
  pub none_known : IsAnswered from to by start None (Some None)
  none_known = (refl, λ other is. is)

  -- it is the text of no parts
  pub no_parts : (text : List ℕ) → IsNoText from to by text → IsAnswered from to by start (Some text) None
  no_parts text none end step = none step.0 step.1.fits step.1.spelled

  module _ (text : List ℕ) (parts : Parts I O C) (fits : PartsFit from.fits to.fits by.cert_fits parts) (spelled : text ≡ text_of from to by parts)
      (only : AreOnlyParts from to by text parts) where
    -- they do not go on
    pub not_behind : (Begins start parts → ⊥) → IsAnswered from to by start (Some text) None
    not_behind broken end step =
        broken (subst (λ (offer : Parts I O C). Begins start offer) (sym (only step.0 step.1.fits step.1.spelled)) step.1.begins)

    -- they do
    pub is_behind : (end : O) → Begins start parts → end ≡ parts.output → IsAnswered from to by start (Some text) (Some (Some end))
    is_behind end begins is = (
      (parts, record { fits = fits; spelled = spelled; begins = begins }, ap Some is),
      λ other step. step.2 ∙ ap (λ (offer : Parts I O C). Some offer.output) (sym (only step.0 step.1.fits step.1.spelled)) ∙ ap Some (sym is),
    )
