-- The text of a program of Linear, one instruction a line.
use Rattle.std.specs.Prelude.{ℕ, List, [], ◌∷◌, ◌++◌, Option, codes, map}
use Rattle.std.specs.List.{flat_map}
use Rattle.lang_base.specs.declared.program.Named.{Named}
use Rattle.lang_base.specs.declared.program.Program.{Program}
use Rattle.locations.specs.declared.location.Location.{Location}
use Rattle.linear_language.specs.Function.{FunctionData}
use Rattle.linear_language.specs.declared.instruction.Instruction.{Instruction}
use Rattle.linear_language.specs.declared.instruction.Instruction.TheVariants.{Do, Copy, Call, Branch, Return, Label, Goto}
use Rattle.machine.specs.declared.test.Test.{Test}
use Rattle.text_keys.specs.declared.key.Key.TheVariants as key
use Rattle.text_keys.specs.declared.word.Letter.TheVariants as letter
use Rattle.text_keys.specs.declared.word.Word.{Word}
use Rattle.text_keys.specs.declared.word.Word.TheVariants as word
use Rattle.text_keys.specs.Lines.{spaced, line_end}
use Rattle.text_keys.specs.Words.{target_words}
use Rattle.text_common.specs.Acts.{location_word, test_words, value_words, act_left, act_right}
use Rattle.text_common.specs.Functions.{shown_function}
use Rattle.text_common.specs.Programs.{shown_program}

-- where what an instruction gives goes, and "="
abbrev pub left : Instruction → List Word
left (Do act) = act_left act
left (Copy step) = location_word step.target ∷ word.Named key.Is ∷ []
left (Call function arguments target) = target_words location_word target
left (Branch test label) = []
left (Return value) = []
left (Label label) = []
left (Goto label) = []

abbrev pub call_words : ℕ → List Location → List Word
call_words function arguments = word.Named key.Call ∷ word.Lettered letter.Function function ∷ map location_word arguments

-- what a branch asks
abbrev pub branch_words : Test → List Word
branch_words test = word.Named key.If ∷ test_words test

-- a return, and what it gives
abbrev pub return_words : Option ℕ → List Word
return_words value = word.Named key.Return ∷ value_words value

-- what it does
abbrev pub right : Instruction → List Word
right (Do act) = act_right act
right (Copy step) = word.Named key.Move ∷ location_word step.source ∷ []
right (Call function arguments target) = call_words function arguments
right (Branch test label) = branch_words test
right (Return value) = return_words value
right (Label label) = word.Named key.Label ∷ word.Number label ∷ []
right (Goto label) = word.Named key.Goto ∷ word.Number label ∷ []

-- where a branch goes on
abbrev pub behind : Instruction → List Word
behind (Do act) = []
behind (Copy step) = []
behind (Call function arguments target) = []
behind (Branch test label) = word.Named key.Goto ∷ word.Number label ∷ []
behind (Return value) = []
behind (Label label) = []
behind (Goto label) = []

-- the line of an instruction
abbrev pub shown_instruction : Instruction → List ℕ
shown_instruction i = codes " " ++ (spaced (left i) ++ (spaced (right i) ++ (spaced (behind i) ++ line_end)))

abbrev pub shown_code : FunctionData → List ℕ
shown_code f = flat_map shown_instruction f.code

-- how many slots a function has
abbrev pub size_words : FunctionData → List Word
size_words f = word.Named key.Slots ∷ word.Number f.slots ∷ []

-- `function NAME(PARAMETERS) slots N`, and the lines of its code
abbrev pub shown_named : Named FunctionData → List ℕ
shown_named f = shown_function location_word (λ g. g.parameters) size_words shown_code f

-- a function under a name
abbrev pub shown_under : List ℕ → FunctionData → List ℕ
shown_under name f = shown_named (record { name = name; function = f })

abbrev pub shown_linear : Program FunctionData → List ℕ
shown_linear p = shown_program (codes "linear\n") shown_named p
