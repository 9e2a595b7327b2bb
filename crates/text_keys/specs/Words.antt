-- The words of a text.
use Rattle.std.specs.Prelude.{ℕ, ◌<◌, ◌^◌, Bool, nat_lt, List, ◌∷◌, decimal, Option, Some, None, []}
use Rattle.text_keys.specs.declared.key.Key.TheVariants.{Is}
use Rattle.text_keys.specs.declared.word.Letter.{Letter}
use Rattle.text_keys.specs.declared.word.Letter.TheVariants.{Register, Slot, Global, Function, Variable}
use Rattle.text_keys.specs.declared.word.Word.{Word}
use Rattle.text_keys.specs.declared.word.Word.TheVariants.{Lettered, Number, Named}
use Rattle.text_keys.specs.Keys.{key_text}

-- r, s, g, f, v
abbrev pub letter_byte : Letter → ℕ
letter_byte Register = 114
letter_byte Slot = 115
letter_byte Global = 103
letter_byte Function = 102
letter_byte Variable = 118

abbrev pub word_text : Word → List ℕ
word_text (Lettered letter n) = letter_byte letter ∷ decimal n
word_text (Number n) = decimal n
word_text (Named key) = key_text key

-- a byte that a word may have: no blank and no line feed
abbrev pub is_printed : ℕ → Bool
is_printed b = nat_lt 32 b

-- the number of a word, where it has one, is one of 64 bits
abbrev pub WordFits : Word → Type 0
WordFits (Lettered letter n) = n < 2 ^ 64
WordFits (Number n) = n < 2 ^ 64
WordFits (Named key) = Unit {0}

-- the words before what is done: where the result goes
abbrev pub target_words : {A : Type 0} → (A → Word) → Option A → List Word
target_words word None = []
target_words word (Some target) = word target ∷ Named Is ∷ []
