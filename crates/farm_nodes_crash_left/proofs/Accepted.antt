-- Each offer that is read of such records is one that its pass accepts, since no other offer has its text.
use Rattle.std.proofs.Common.{◌≡◌, ℕ, List, [], ◌++◌, Some, map, sym, ap, subst, ◌∙◌, inl, inr}
use Rattle.std.specs.Prelude.{slice_get}
use Rattle.lang_base.specs.declared.language.Language as language
use Rattle.lang_base.specs.declared.pass.Pass as pass
use Rattle.rtl_language.specs.contracts.language.RtlLanguage.TheImpl as rtl_language
use Rattle.ltl.specs.contracts.language.LtlLanguage.TheImpl as ltl_language
use Rattle.linear_language.specs.contracts.language.LinearLanguage.TheImpl as linear_language
use Rattle.constprop_check.specs.contracts.pass.ConstPropPass.TheImpl as constants
use Rattle.cse_check.specs.contracts.pass.CsePass.TheImpl as expressions
use Rattle.alloc_check.specs.contracts.pass.AllocPass.TheImpl as allocation
use Rattle.linearize_check.specs.contracts.pass.LinearizePass.TheImpl as order
use Rattle.acceptor_log_form.specs.declared.record.Record.{Record}
use Rattle.offers.specs.Fronts.{HasOneText}
use Rattle.offers.specs.Text.{text_of, PartsFit}
use Rattle.offers.specs.declared.parts.Parts.{Parts}
use Rattle.farm_nodes_turn_offer.specs.Pending.{IsOfferText}
use Rattle.farm_nodes_turn_passes.specs.declared.which.Which.{Which}
use Rattle.farm_nodes_turn_passes.specs.declared.which.Which.TheVariants.{Constants, Expressions, Allocation, Order}
use Rattle.farm_nodes_open_stored.specs.Checked.{HasRefused}
use Rattle.farm_nodes_open_stored.specs.FarmNodesOpenOffersStored.{Stored}
use Rattle.farm_nodes_open_stored.specs.Known.{HasUnaccepted}
use Rattle.farm_nodes_open_stored.specs.Read.{AllStored, AreStored}
use Rattle.farm_nodes_open_stored.specs.Stored.{IsStored}
use Rattle.farm_nodes_open_stored.specs.Written.{all_written}
use Rattle.farm_nodes_open_nodes.proofs.Lists.{all_at, at_map, map_at}
use Rattle.farm_nodes_crash_left.proofs.Offers.{AreOf, HasText, has_at}

-- no two offers of the pass share a text
abbrev pub HaveOwnTexts : {P A B C I O : Type 0} → language.Ghosts A I → language.Ghosts B O → pass.Ghosts P A B C I O → Type 0
HaveOwnTexts from to by = HasOneText (PartsFit from.fits to.fits by.cert_fits) (text_of from to by)

-- so it is of each of the four passes
pub record AllHaveOwnTexts : Type 0 where
  pub constants : HaveOwnTexts rtl_language.ghosts rtl_language.ghosts constants.ghosts
  pub expressions : HaveOwnTexts rtl_language.ghosts rtl_language.ghosts expressions.ghosts
  pub allocation : HaveOwnTexts rtl_language.ghosts ltl_language.ghosts allocation.ghosts
  pub order : HaveOwnTexts ltl_language.ghosts linear_language.ghosts order.ghosts

module _ {P A B C I O : Type 0} (from : language.Ghosts A I) (to : language.Ghosts B O) (by : pass.Ghosts P A B C I O) (which : Which) (rs : List Record)
    (are : AreOf rs) (texts : (text : List ℕ) → HasText which text → (x : Parts I O C) × IsOfferText from to by text x) (own : HaveOwnTexts from to by)
    (stored : Stored (Parts I O C)) (is : IsStored from to by which rs stored) where
  text_at : (at : ℕ) (x : Parts I O C) → slice_get stored.parts.items at ≡ Some x → HasText which (text_of from to by x)
  text_at at x stands =
      let here : slice_get (map (λ (y : ℕ × List ℕ). y.1) (all_written which rs)) at ≡ Some (text_of from to by x) =
      ap (λ (l : List (List ℕ)). slice_get l at) (sym is.texts) ∙ at_map (text_of from to by) stored.parts.items at x stands in
      let y = map_at (λ (y : ℕ × List ℕ). y.1) (all_written which rs) at (text_of from to by x) here in
      subst (λ (t : List ℕ). HasText which t) y.2 (has_at which rs are at y.0.0 y.0.1 y.1)

  fits_at : (at : ℕ) (x : Parts I O C) → slice_get stored.parts.items at ≡ Some x → PartsFit from.fits to.fits by.cert_fits x
  fits_at at x stands = all_at (PartsFit from.fits to.fits by.cert_fits) stored.parts.items at x is.fit stands

  none_unaccepted : HasUnaccepted by.accepts stored.parts.items → ⊥
  none_unaccepted h =
      let one = texts (text_of from to by h.parts) (text_at h.at h.parts h.stands) in
      let same : one.0 ≡ h.parts =
      (own one.0 h.parts [] [] one.1.fits (fits_at h.at h.parts h.stands) (ap (λ (t : List ℕ). t ++ []) (sym one.1.text))).0 in
      h.refused (subst (λ (x : Parts I O C). by.accepts x.input x.output x.certificate) same one.1.accepted)

pub none_refused : AllHaveOwnTexts → (rs : List Record) → AreOf rs → (all : AllStored) → AreStored rs all → HasRefused all → ⊥
none_refused own rs are all is (inl h) =
    none_unaccepted rtl_language.ghosts rtl_language.ghosts constants.ghosts Constants rs are (λ text x. x) own.constants all.constants is.constants h
none_refused own rs are all is (inr (inl h)) =
    none_unaccepted rtl_language.ghosts rtl_language.ghosts expressions.ghosts Expressions rs are (λ text x. x) own.expressions all.expressions is.expressions h
none_refused own rs are all is (inr (inr (inl h))) =
    none_unaccepted rtl_language.ghosts ltl_language.ghosts allocation.ghosts Allocation rs are (λ text x. x) own.allocation all.allocation is.allocation h
none_refused own rs are all is (inr (inr (inr h))) =
    none_unaccepted ltl_language.ghosts linear_language.ghosts order.ghosts Order rs are (λ text x. x) own.order all.order is.order h
