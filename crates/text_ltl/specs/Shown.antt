-- The text of a program of LTL, one block a line.
use Rattle.std.specs.Prelude.{ℕ, List, [], ◌∷◌, ◌++◌, Option, Some, None, codes, decimal, map}
use Rattle.std.specs.List.{flat_map}
use Rattle.lang_base.specs.declared.program.Named.{Named}
use Rattle.lang_base.specs.declared.program.Program.{Program}
use Rattle.locations.specs.declared.location.Location.{Location}
use Rattle.locations.specs.declared.location.Move.{Move}
use Rattle.machine.specs.declared.act.Act.{Act}
use Rattle.ltl.specs.Function.{FunctionData, after_of}
use Rattle.ltl.specs.declared.block.Block.{Block}
use Rattle.ltl.specs.declared.block.Body.{Body}
use Rattle.ltl.specs.declared.block.Body.TheVariants.{Go, Call, Branch, Return}
use Rattle.text_keys.specs.declared.key.Key.TheVariants as key
use Rattle.text_keys.specs.declared.word.Letter.TheVariants as letter
use Rattle.text_keys.specs.declared.word.Word.{Word}
use Rattle.text_keys.specs.declared.word.Word.TheVariants as word
use Rattle.text_keys.specs.Lines.{spaced, spaced_word, line_end}
use Rattle.text_keys.specs.Numbered.{numbered_text}
use Rattle.text_keys.specs.Words.{target_words}
use Rattle.text_common.specs.Acts.{location_word, test_words, value_words, act_left, act_right}
use Rattle.text_common.specs.Functions.{shown_function}
use Rattle.text_common.specs.Programs.{shown_program}

-- `r1 = s3`
abbrev pub move_words : Move → List Word
move_words m = location_word m.target ∷ word.Named key.Is ∷ location_word m.source ∷ []

abbrev pub shown_move : Move → List ℕ
shown_move m = spaced (move_words m)

-- moves between brackets
abbrev pub shown_between : List Move → List ℕ
shown_between ms = spaced_word (word.Named key.Opens) ++ (flat_map shown_move ms ++ spaced_word (word.Named key.Closes))

-- the same, where there are any
abbrev pub shown_moves : List Move → List ℕ
shown_moves [] = []
shown_moves (m ∷ ms) = shown_between (m ∷ ms)

-- where what an instruction gives goes, and "="
abbrev pub maybe_left : Option Act → List Word
maybe_left None = []
maybe_left (Some act) = act_left act

abbrev pub body_left : Body → List Word
body_left (Go act after successor) = maybe_left act
body_left (Call function arguments target after successor) = target_words location_word target
body_left (Branch test taken other) = []
body_left (Return value) = []

abbrev pub call_words : ℕ → List Location → List Word
call_words function arguments = word.Named key.Call ∷ word.Lettered letter.Function function ∷ map location_word arguments

-- what an instruction does
abbrev pub maybe_right : Option Act → List Word
maybe_right None = word.Named key.Nothing ∷ []
maybe_right (Some act) = act_right act

abbrev pub body_right : Body → List Word
body_right (Go act after successor) = maybe_right act
body_right (Call function arguments target after successor) = call_words function arguments
body_right (Branch test taken other) = word.Named key.If ∷ test_words test
body_right (Return value) = word.Named key.Return ∷ value_words value

-- where it goes on
abbrev pub behind : Body → List Word
behind (Go act after successor) = word.Named key.Then ∷ word.Number successor ∷ []
behind (Call function arguments target after successor) = word.Named key.Then ∷ word.Number successor ∷ []
behind (Branch test taken other) = word.Named key.Then ∷ word.Number taken ∷ word.Number other ∷ []
behind (Return value) = []

-- its last moves, and where it goes on
abbrev pub shown_behind : Body → List ℕ
shown_behind b = shown_moves (after_of b) ++ (spaced (behind b) ++ line_end)

-- what it does, and what stands behind that
abbrev pub shown_body : Body → List ℕ
shown_body b = spaced (body_left b) ++ (spaced (body_right b) ++ shown_behind b)

-- the line of a block: its number, its first moves, what it does, its last moves and where it goes on
abbrev pub shown_block : ℕ → Block → List ℕ
shown_block n b = codes "  " ++ (decimal n ++ (shown_moves b.before ++ shown_body b.body))

abbrev pub shown_blocks : FunctionData → List ℕ
shown_blocks f = numbered_text shown_block 0 f.blocks

-- how many slots a function has, and where it begins
abbrev pub size_words : FunctionData → List Word
size_words f = word.Named key.Slots ∷ word.Number f.slots ∷ word.Named key.Entry ∷ word.Number f.entry ∷ []

-- `function NAME(PARAMETERS) slots N entry E`, and the lines of its blocks
abbrev pub shown_named : Named FunctionData → List ℕ
shown_named f = shown_function location_word (λ g. g.parameters) size_words shown_blocks f

-- a function under a name
abbrev pub shown_under : List ℕ → FunctionData → List ℕ
shown_under name f = shown_named (record { name = name; function = f })

abbrev pub shown_ltl : Program FunctionData → List ℕ
shown_ltl p = shown_program (codes "ltl\n") shown_named p
