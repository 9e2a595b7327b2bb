-- Offers gathered from records, one record after another.
use Rattle.std.proofs.Common.{◌≡◌, ℕ, ◌+◌, ◌≤◌, List, [], ◌∷◌, ◌++◌, length, take, map, Some, sym, ap, ◌∙◌}
use Rattle.std.specs.Prelude.{slice_get}
use Rattle.std.proofs.lemmas.List.{map_push, take_all}
use Rattle.std.proofs.lemmas.List.Elements.{All-push, All-same}
use Rattle.lang_base.specs.declared.language.Language as language
use Rattle.lang_base.specs.declared.pass.Pass as pass
use Rattle.acceptor_log_form.specs.declared.record.Record.{Record}
use Rattle.offers.specs.declared.parts.Parts.{Parts}
use Rattle.offers.specs.Text.{text_of, PartsFit}
use Rattle.farm_nodes_turn_passes.specs.declared.which.Which.{Which}
use Rattle.farm_nodes_open_offers.specs.declared.storing.Stored.{Stored}
use Rattle.farm_nodes_open_offers.specs.Written.{written, all_written}
use Rattle.farm_nodes_open_offers.specs.Stored.{IsStored}
use Rattle.farm_nodes_open_offers.proofs.Walks.{written_one}

module _ {P A B C I O : Type 0} (from : language.Ghosts A I) (to : language.Ghosts B O) (by : pass.Ghosts P A B C I O) (which : Which) (rs : List Record) (i : ℕ) where
  abbrev pub Fit : Parts I O C → Type 0
  Fit x = PartsFit from.fits to.fits by.cert_fits x

  pub one_more : (r : Record) (room : ℕ) (text : List ℕ) (x : Parts I O C) (stored more : Stored (Parts I O C)) → slice_get rs i ≡ Some r → written which r ≡ Some (room, text) → text ≡ text_of from to by x → Fit x → more.rooms.items ≡ stored.rooms.items ++ room ∷ [] → more.parts.items ≡ stored.parts.items ++ x ∷ [] → IsStored from to by which (take i rs) stored → IsStored from to by which (take (i + 1) rs) more
  one_more r room text x stored more got one spelled fits rooms_are parts_are is =
      let before = all_written which (take i rs) in
      let after : all_written which (take (i + 1) rs) ≡ before ++ (room, text) ∷ [] = written_one which rs i r (room, text) got one in
      record {
        rooms =
            rooms_are ∙ ap (λ l. l ++ room ∷ []) is.rooms
            ∙ sym (map_push (λ (it : ℕ × List ℕ). it.0) before (room, text)) ∙ ap (map (λ (it : ℕ × List ℕ). it.0)) (sym after);
        texts =
            ap (map (text_of from to by)) parts_are ∙ map_push (text_of from to by) stored.parts.items x
            ∙ ap (λ l. l ++ text_of from to by x ∷ []) is.texts ∙ ap (λ t. map (λ (it : ℕ × List ℕ). it.1) before ++ t ∷ []) (sym spelled)
            ∙ sym (map_push (λ (it : ℕ × List ℕ). it.1) before (room, text)) ∙ ap (map (λ (it : ℕ × List ℕ). it.1)) (sym after);
        fit = All-same Fit more.parts.items (stored.parts.items ++ x ∷ []) parts_are (All-push Fit stored.parts.items x is.fit fits);
      }

  -- those of all records, where the walk has come to the end
  pub of_all : (stored : Stored (Parts I O C)) → length rs ≤ i → IsStored from to by which (take i rs) stored → IsStored from to by which rs stored
  of_all stored end is = record {
    rooms = is.rooms ∙ ap (λ l. map (λ (it : ℕ × List ℕ). it.0) (all_written which l)) (take_all i rs end);
    texts = is.texts ∙ ap (λ l. map (λ (it : ℕ × List ℕ). it.1) (all_written which l)) (take_all i rs end);
    fit = is.fit;
  }
