-- At which offset of a text it is refused.
use Rattle.std.specs.Prelude.{◌≡◌, ℕ, List}
use Rattle.c_lexer.specs.declared.errors.LexError.{LexError}
use Rattle.c_lexer.specs.declared.errors.LexError.TheVariants.{NoMemory, BadByte, OpenComment, LiteralRange, BadChar}
use Rattle.c_lexer_lexemes.specs.Faults.{IsBadByte, IsOpenComment, IsBadNumber, IsBadCharacter}

-- At this offset the text, from there on, is refused so.
abbrev pub IsFaultAt : ℕ → List ℕ → LexError → Type 0
IsFaultAt offset text NoMemory = ⊥
IsFaultAt offset text (BadByte at) = (at ≡ offset) × IsBadByte text
IsFaultAt offset text (OpenComment at) = (at ≡ offset) × IsOpenComment text
IsFaultAt offset text (LiteralRange at) = (at ≡ offset) × IsBadNumber text
IsFaultAt offset text (BadChar at) = (at ≡ offset) × IsBadCharacter text
