-- Moves are read back from their words, and their words are in range.
use Rattle.std.proofs.Common.{◌≡◌, ℕ, ◌≤◌, ◌^◌, List, [], ◌∷◌, ◌++◌, refl, sym, ap, ◌∙◌}
use Rattle.std.specs.List.{AllByRecursion, flat_map}
use Rattle.std.proofs.lemmas.List.{append_assoc, append-nil}
use Rattle.locations.specs.declared.location.Location.{Location}
use Rattle.locations.specs.declared.location.Location.TheVariants.{InRegister, InSlot}
use Rattle.locations.specs.declared.location.Move.{Move}
use Rattle.machine.specs.Fits.{MovesFit, MoveFits}
use Rattle.text_keys.specs.declared.key.Key.{Key}
use Rattle.text_keys.specs.declared.key.Key.TheVariants as key
use Rattle.text_keys.specs.declared.word.Word.{Word}
use Rattle.text_keys.specs.declared.word.Word.TheVariants.{Lettered, Named}
use Rattle.text_keys.specs.Words.{WordFits}
use Rattle.text_keys.proofs.Lines.{all-append, spaced-append}
use Rattle.text_common.specs.Acts.{location_word}
use Rattle.text_common.proofs.Read.{location_of, location_again, location_fits}
use Rattle.text_keys.specs.Lines.{spaced, spaced_word}
use Rattle.text_ltl.specs.Shown.{move_words, shown_move, shown_moves}

-- the words of moves in brackets
abbrev pub moves_words : List Move → List Word
moves_words [] = []
moves_words (m ∷ ms) = Named key.Opens ∷ (flat_map move_words (m ∷ ms) ++ Named key.Closes ∷ [])

steps_text : (ms : List Move) → flat_map shown_move ms ≡ spaced (flat_map move_words ms)
steps_text [] = refl
steps_text (m ∷ ms) = ap (λ t. shown_move m ++ t) (steps_text ms) ∙ sym (spaced-append (move_words m) (flat_map move_words ms))

-- their text is that of the words
pub moves_text : (ms : List Move) → shown_moves ms ≡ spaced (moves_words ms)
moves_text [] = refl
moves_text (m ∷ ms) =
    let steps = flat_map move_words (m ∷ ms) in
    let closes = spaced_word (Named key.Closes) in
    ap (λ t. spaced_word (Named key.Opens) ++ t) (ap (λ t. t ++ closes) (steps_text (m ∷ ms)) ∙ ap (λ t. spaced steps ++ t) (sym (append-nil closes)) ∙ sym (spaced-append steps (Named key.Closes ∷ [])))

-- the moves up to a key
abbrev steps_in : List Word → List Move
steps_in (Lettered l t ∷ e ∷ s ∷ ws) = record { target = location_of (Lettered l t); source = location_of s } ∷ steps_in ws
steps_in _ = []

-- the words behind that key
abbrev behind_steps : List Word → List Word
behind_steps (Lettered l t ∷ e ∷ s ∷ ws) = behind_steps ws
behind_steps (Named k ∷ ws) = ws
behind_steps ws = ws

abbrev opened : Key → List Word → List Move
opened key.Opens ws = steps_in ws
opened _ ws = []

abbrev closed : Key → List Word → List Word
closed key.Opens ws = behind_steps ws
closed k ws = Named k ∷ ws

-- the moves in brackets that the words begin with, if they do
abbrev pub moves_of : List Word → List Move
moves_of (Named k ∷ ws) = opened k ws
moves_of ws = []

-- the words behind them
abbrev pub behind_moves : List Word → List Word
behind_moves (Named k ∷ ws) = closed k ws
behind_moves ws = ws

step_in : (t s : Location) (ws : List Word) → steps_in (location_word t ∷ Named key.Is ∷ location_word s ∷ ws) ≡ record { target = t; source = s } ∷ steps_in ws
step_in (InRegister r) s ws = ap (λ l. record { target = InRegister r; source = l } ∷ steps_in ws) (location_again s)
step_in (InSlot n) s ws = ap (λ l. record { target = InSlot n; source = l } ∷ steps_in ws) (location_again s)

behind_step : (t s : Location) (ws : List Word) → behind_steps (location_word t ∷ Named key.Is ∷ location_word s ∷ ws) ≡ behind_steps ws
behind_step (InRegister r) s ws = refl
behind_step (InSlot n) s ws = refl

steps_again : (ms : List Move) (ws : List Word) → steps_in (flat_map move_words ms ++ Named key.Closes ∷ ws) ≡ ms
steps_again [] ws = refl
steps_again (m ∷ ms) ws = step_in m.target m.source (flat_map move_words ms ++ Named key.Closes ∷ ws) ∙ ap (λ l. m ∷ l) (steps_again ms ws)

behind_again : (ms : List Move) (ws : List Word) → behind_steps (flat_map move_words ms ++ Named key.Closes ∷ ws) ≡ ws
behind_again [] ws = refl
behind_again (m ∷ ms) ws = behind_step m.target m.source (flat_map move_words ms ++ Named key.Closes ∷ ws) ∙ behind_again ms ws

-- words that begin with no bracket
pub record Plain (ws : List Word) : Type 0 where
  pub none : moves_of ws ≡ []
  pub same : behind_moves ws ≡ ws

pub moves_again : (ms : List Move) (ws : List Word) → Plain ws → moves_of (moves_words ms ++ ws) ≡ ms
moves_again [] ws plain = plain.none
moves_again (m ∷ ms) ws plain = ap steps_in (append_assoc (flat_map move_words (m ∷ ms)) (Named key.Closes ∷ []) ws) ∙ steps_again (m ∷ ms) ws

pub behind_moves_again : (ms : List Move) (ws : List Word) → Plain ws → behind_moves (moves_words ms ++ ws) ≡ ws
behind_moves_again [] ws plain = plain.same
behind_moves_again (m ∷ ms) ws plain = ap behind_steps (append_assoc (flat_map move_words (m ∷ ms)) (Named key.Closes ∷ []) ws) ∙ behind_again (m ∷ ms) ws

-- ---- in range

steps_fit : (slots : ℕ) → slots ≤ 2 ^ 16 → (ms : List Move) → AllByRecursion (MoveFits slots) ms → AllByRecursion WordFits (flat_map move_words ms)
steps_fit slots few [] fits = tt
steps_fit slots few (m ∷ ms) fits = (location_fits slots few m.target fits.0.target, (tt, (location_fits slots few m.source fits.0.source, steps_fit slots few ms fits.1)))

pub moves_fit : (slots : ℕ) → slots ≤ 2 ^ 16 → (ms : List Move) → MovesFit slots ms → AllByRecursion WordFits (moves_words ms)
moves_fit slots few [] fits = tt
moves_fit slots few (m ∷ ms) fits = (tt, all-append (flat_map move_words (m ∷ ms)) (Named key.Closes ∷ []) (steps_fit slots few (m ∷ ms) fits.each) (tt, tt))
