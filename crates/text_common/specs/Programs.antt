-- The texts of globals and of whole programs.
use Rattle.std.specs.Prelude.{◌≡◌, ℕ, List, [], ◌∷◌, ◌++◌, codes, decimal, map}
use Rattle.std.specs.List.{flat_map}
use Rattle.lang_base.specs.declared.program.Global.{Global}
use Rattle.lang_base.specs.declared.program.Named.{Named}
use Rattle.lang_base.specs.declared.program.Program.{Program}
use Rattle.lang.specs.Form.{IsProgram}
use Rattle.text_keys.specs.declared.word.Word.{Word}
use Rattle.text_keys.specs.declared.word.Word.TheVariants.{Number}
use Rattle.text_keys.specs.Lines.{spaced, line_end}
use Rattle.text_keys.specs.Numbered.{numbered_text}

-- a number as a word
abbrev pub number_word : ℕ → Word
number_word w = Number w

-- the listed words, where there are any
abbrev pub shown_words : List ℕ → List ℕ
shown_words [] = []
shown_words (w ∷ ws) = codes " =" ++ spaced (map number_word (w ∷ ws))

-- `CELLS] = WORD WORD ..`
abbrev pub shown_cells : Global → List ℕ
shown_cells g = decimal g.cells ++ (codes "]" ++ (shown_words g.first_words ++ line_end))

-- `global gN[CELLS] = WORD WORD ..`
abbrev pub shown_global : ℕ → Global → List ℕ
shown_global n g = codes "global g" ++ (decimal n ++ (codes "[" ++ shown_cells g))

-- a line for each global, and the functions
abbrev pub shown_rest : {A : Type 0} → (A → List ℕ) → List Global → List A → List ℕ
shown_rest text globals functions = numbered_text shown_global 0 globals ++ flat_map text functions

-- the title, and the rest
abbrev pub shown_program : {F : Type 0} → List ℕ → (Named F → List ℕ) → Program F → List ℕ
shown_program title text p = title ++ shown_rest text p.globals p.functions

-- programs with one text are one program
abbrev pub AreTold : {F : Type 0} → (F → Type 0) → (Program F → List ℕ) → Type 0
AreTold {F} Fits text = (p q : Program F) → IsProgram Fits p → IsProgram Fits q → text p ≡ text q → p ≡ q
