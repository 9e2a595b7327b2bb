-- Lines of words.
use Rattle.std.specs.Prelude.{ℕ, List, [], ◌∷◌}
use Rattle.std.specs.List.{flat_map}
use Rattle.text_keys.specs.declared.word.Word.{Word}
use Rattle.text_keys.specs.Words.{word_text}

-- a word behind a blank
abbrev pub spaced_word : Word → List ℕ
spaced_word w = 32 ∷ word_text w

-- each word behind a blank
abbrev pub spaced : List Word → List ℕ
spaced ws = flat_map spaced_word ws

-- the same of what has a word
abbrev pub spaced_each : {A : Type 0} → (A → Word) → List A → List ℕ
spaced_each word xs = flat_map (λ x. spaced_word (word x)) xs

-- the end of a line
abbrev pub line_end : List ℕ
line_end = 10 ∷ []
