-- The text of a function: its first line, and what stands below it.
use Rattle.std.specs.Prelude.{ℕ, List, ◌++◌}
use Rattle.lang_base.specs.declared.program.Named.{Named}
use Rattle.text_keys.specs.declared.word.Word.{Word}
use Rattle.text_keys.specs.Lines.{spaced, line_end}
use Rattle.text_keys.specs.Names.{named_head}

-- `function NAME(PARAMETERS)`, words that tell its size, and the text below
abbrev pub shown_function : {F A : Type 0} → (A → Word) → (F → List A) → (F → List Word) → (F → List ℕ) → Named F → List ℕ
shown_function word parameters sizes below f = named_head word f.name (parameters f.function) ++ (spaced (sizes f.function) ++ (line_end ++ below f.function))
