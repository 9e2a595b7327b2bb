-- Why a hint that is made so stands in the table.
use Rattle.std.specs.Prelude.{◌≡◌, ℕ, ◌==◌, Bool, false, true, List, [], length, Some, Result, IfOk, String, string_bytes}
use Rattle.std.proofs.Common.{refl, ap, inl, inr, subst, sym, ◌∙◌}
use Rattle.std.proofs.lemmas.Result.{IfOk-weaker}
use Rattle.c_places.specs.Places.{place_of}
use Rattle.c_places.specs.declared.place.Place.{Place}
use Rattle.c_hints_words.specs.Standing.{IsDeclaredAt, StandsAt}
use Rattle.c_hints_words.specs.declared.before.Before.{Before}
use Rattle.c_hints.specs.Hints.{IsHint, IsHintOf, IsSaid, byte_order_text, character_text, has_byte_order, quoted, syntax_text}
use Rattle.c_hints.specs.Limits.{limit_hint}
use Rattle.c_hints.specs.Names.{behind_text, count_text, library_hint, library_text, near_text, second_text, undeclared_text}
use Rattle.c_hints.specs.Numbers.{byte_hint, number_hint}

-- nothing is a hint
pub unsaid : (text : List ℕ) (number : ℕ) (found hint : List ℕ) → hint ≡ [] → IsHintOf text number found hint
unsaid text number found hint none = inl none

module _ {Z E : Type 0} (text found : List ℕ) (r : Result (String Z) E) where
  -- where there is memory, that is said
  abbrev Says : List ℕ → Type 0
  Says words = IfOk r (λ hint. string_bytes hint ≡ words)

  -- and it is a hint of a fault of this number
  abbrev Hints : ℕ → Type 0
  Hints number = IfOk r (λ hint. IsHintOf text number found (string_bytes hint))

  by_row : (number : ℕ) (words : List ℕ) → ((hint : List ℕ) → hint ≡ words → IsSaid text number found hint) → Says words → Hints number
  by_row number words row says = IfOk-weaker r (λ hint. string_bytes hint ≡ words) (λ hint. IsHintOf text number found (string_bytes hint)) (λ hint e. inr (row (string_bytes hint) e)) says

  pub byte_order_said : has_byte_order text ≡ true → Says byte_order_text → Hints 201
  byte_order_said has = by_row 201 byte_order_text (λ hint e. IsSaid.of_byte_order refl has e)

  pub byte_said : (behind words : List ℕ) → words ≡ byte_hint found behind → Says (quoted found words) → Hints 201
  byte_said behind words is = by_row 201 (quoted found words) (λ hint e. IsSaid.of_byte refl behind (e ∙ ap (quoted found) is))

  pub number_said : (words : List ℕ) → words ≡ number_hint found → Says (quoted found words) → Hints 203
  number_said words is = by_row 203 (quoted found words) (λ hint e. IsSaid.of_number refl (e ∙ ap (quoted found) is))

  pub character_said : Says character_text → Hints 204
  character_said = by_row 204 character_text (λ hint e. IsSaid.of_character refl e)

  pub token_said : (statement : List ℕ) (on_new_line : Bool) (before : Before) → Says (syntax_text found statement on_new_line before) → Hints 210
  token_said statement on_new_line before =
      by_row 210 (syntax_text found statement on_new_line before) (λ hint e. IsSaid.of_token refl statement on_new_line before e)

  pub library_said : (words : List ℕ) → words ≡ library_hint found → Says (library_text found words) → Hints 220
  library_said words is = by_row 220 (library_text found words) (λ hint e. IsSaid.of_library refl (e ∙ ap (library_text found) is))

  pub near_said : (at : ℕ) (near : List ℕ) → StandsAt text at near → Says (near_text found near) → Hints 220
  near_said at near stands = by_row 220 (near_text found near) (λ hint e. IsSaid.of_near refl at near stands e)

  pub behind_said : (at line : ℕ) → StandsAt text at found → line ≡ (place_of text at).line → Says (behind_text found line) → Hints 220
  behind_said at line stands is = by_row 220 (behind_text found line) (λ hint e. IsSaid.of_behind refl at stands (e ∙ ap (behind_text found) is))

  pub undeclared_said : Says (undeclared_text found) → Hints 220
  undeclared_said = by_row 220 (undeclared_text found) (λ hint e. IsSaid.of_undeclared refl e)

  pub second_said : (at line : ℕ) → StandsAt text at found → line ≡ (place_of text at).line → Says (second_text found line) → Hints 221
  second_said at line stands is = by_row 221 (second_text found line) (λ hint e. IsSaid.of_second refl at stands (e ∙ ap (second_text found) is))

  pub count_said : (wanted given : ℕ) → Says (count_text found wanted given) → Hints 222
  count_said wanted given = by_row 222 (count_text found wanted given) (λ hint e. IsSaid.of_count refl wanted given e)

  pub limit_said : (behind : List ℕ) (before : Before) (words : List ℕ) → words ≡ limit_hint found behind before → Says (quoted found words) → Hints 228
  limit_said behind before words is = by_row 228 (quoted found words) (λ hint e. IsSaid.of_limit refl behind before (e ∙ ap (quoted found) is))

  -- what was found stands at the offset
  pub hinted : (at number n : ℕ) → number ≡ n → StandsAt text at found → Hints n → IfOk r (λ hint. IsHint text at number (string_bytes hint))
  hinted at number n is stands hints =
      IfOk-weaker r (λ hint. IsHintOf text n found (string_bytes hint)) (λ hint. IsHint text at number (string_bytes hint)) (λ hint h. (found, stands, subst (λ m. IsHintOf text m found (string_bytes hint)) (sym is) h)) hints

pub unhinted : (text found : List ℕ) (at number : ℕ) (hint : List ℕ) → StandsAt text at found → hint ≡ [] → IsHint text at number hint
unhinted text found at number hint stands none = (found, stands, inl none)

pub declared_there : (text found : List ℕ) (at first : ℕ) (place : Place) → (length found == 0) ≡ false → StandsAt text at found → StandsAt text first found
    → place ≡ place_of text first → IsDeclaredAt text at (Some place)
declared_there text found at first place some here there is = (found, first, some, here, there, is)
