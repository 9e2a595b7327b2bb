-- The text of a program of RTL, one node a line.
use Rattle.std.specs.Prelude.{ℕ, List, [], ◌∷◌, ◌++◌, codes, decimal, map}
use Rattle.lang_base.specs.declared.program.Named.{Named}
use Rattle.lang_base.specs.declared.program.Program.{Program}
use Rattle.rtl_language.specs.Function.{FunctionData}
use Rattle.rtl_language.specs.declared.instruction.Instruction.{Instruction}
use Rattle.rtl_language.specs.declared.instruction.Instruction.TheVariants.{Do, Call, Branch, Return}
use Rattle.text_keys.specs.declared.key.Key.TheVariants as key
use Rattle.text_keys.specs.declared.word.Letter.TheVariants as letter
use Rattle.text_keys.specs.declared.word.Word.{Word}
use Rattle.text_keys.specs.declared.word.Word.TheVariants as word
use Rattle.text_keys.specs.Lines.{spaced, line_end}
use Rattle.text_keys.specs.Numbered.{numbered_text}
use Rattle.text_keys.specs.Words.{target_words}
use Rattle.text_common.specs.Functions.{shown_function}
use Rattle.text_common.specs.Programs.{shown_program}
use Rattle.text_rtl.specs.Acts.{register_word, test_words, value_words, act_target, act_right}

-- where what a node gives goes, and "="
abbrev pub left : Instruction → List Word
left (Do act successor) = target_words register_word (act_target act)
left (Call function arguments target successor) = target_words register_word target
left (Branch test taken other) = []
left (Return value) = []

abbrev pub call_words : ℕ → List ℕ → List Word
call_words function arguments = word.Named key.Call ∷ word.Lettered letter.Function function ∷ map register_word arguments

-- what it does
abbrev pub right : Instruction → List Word
right (Do act successor) = act_right act
right (Call function arguments target successor) = call_words function arguments
right (Branch test taken other) = word.Named key.If ∷ test_words test
right (Return value) = word.Named key.Return ∷ value_words value

-- where it goes on
abbrev pub behind : Instruction → List Word
behind (Do act successor) = word.Named key.Then ∷ word.Number successor ∷ []
behind (Call function arguments target successor) = word.Named key.Then ∷ word.Number successor ∷ []
behind (Branch test taken other) = word.Named key.Then ∷ word.Number taken ∷ word.Number other ∷ []
behind (Return value) = []

-- the line of a node: its number, what it does, and where it goes on
abbrev pub shown_node : ℕ → Instruction → List ℕ
shown_node n i = codes "  " ++ (decimal n ++ (spaced (left i) ++ (spaced (right i) ++ (spaced (behind i) ++ line_end))))

abbrev pub shown_nodes : FunctionData → List ℕ
shown_nodes f = numbered_text shown_node 0 f.nodes

-- how many registers a function has, and where it begins
abbrev pub size_words : FunctionData → List Word
size_words f = word.Named key.Registers ∷ word.Number f.registers ∷ word.Named key.Entry ∷ word.Number f.entry ∷ []

-- `function NAME(PARAMETERS) registers N entry E`, and the lines of its nodes
abbrev pub shown_named : Named FunctionData → List ℕ
shown_named f = shown_function register_word (λ g. g.parameters) size_words shown_nodes f

-- a function under a name
abbrev pub shown_under : List ℕ → FunctionData → List ℕ
shown_under name f = shown_named (record { name = name; function = f })

abbrev pub shown_rtl : Program FunctionData → List ℕ
shown_rtl p = shown_program (codes "rtl\n") shown_named p
