-- The text of a program.
use Rattle.std.specs.Prelude.{ℕ, ◌-◌, ◌*◌, ◌==◌, List, [], ◌++◌, length, codes, decimal, if◌then◌else◌, Option, Some, None}
use Rattle.std.specs.List.{flat_map}
use Rattle.lang_base.specs.declared.program.Global.{Global}
use Rattle.lang_base.specs.declared.program.Named.{Named}
use Rattle.lang_base.specs.declared.program.Program.{Program}
use Rattle.x86_syntax.specs.declared.function.Function.{Function}
use Rattle.native_text_doors.specs.Doors.{door_text, main_door_text}
use Rattle.native_text_doors.specs.Fixed.{labelled, line_end, enter_text, put_text, flush_text, ends_text, data_text, note_text}
use Rattle.native_text.specs.Lines.{lines}
use Rattle.native_text.specs.Operands.{Here}
use Rattle.text_keys.specs.Numbered.{numbered_text}
use Rattle.native_text.specs.Words.{signed_text}

-- a function: its name, and the lines of its code
abbrev pub function_text : Here → Named Function → List ℕ
function_text here f = labelled (codes "f." ++ f.name) ++ flat_map (lines here) f.function.code

-- functions, each with its number
abbrev pub functions_text : List (Named Function) → List (Named Function) → List ℕ
functions_text all fs = numbered_text (λ number. function_text (record { functions = all; number = number })) 0 fs

-- a global: its first words, and as many cells of 0 as it has beside them
abbrev pub word_line : ℕ → List ℕ
word_line w = codes " .long " ++ (signed_text w ++ line_end)

abbrev pub zeros_line : ℕ → List ℕ
zeros_line cells = codes " .zero " ++ (decimal (4 * cells) ++ line_end)

-- an assembler warns of none
abbrev pub zeros_text : ℕ → List ℕ
zeros_text cells = if cells == 0 then [] else zeros_line cells

abbrev pub variable_text : ℕ → Global → List ℕ
variable_text number g =
    labelled (codes "g." ++ decimal number) ++ (flat_map word_line g.first_words ++ zeros_text (g.cells - length g.first_words))

-- main's doorway; or one of each function, under a prefix
abbrev pub doors_text : List (Named Function) → Option (List ℕ) → List ℕ
doors_text fs None = main_door_text fs
doors_text fs (Some prefix) = flat_map (door_text prefix) fs

-- what follows the functions
abbrev pub routines_text : List ℕ
routines_text = enter_text ++ (put_text ++ (flush_text ++ (ends_text ++ data_text)))

-- the whole text, for main, or for a prefix under which C calls the functions
abbrev pub native_text : Program Function → Option (List ℕ) → List ℕ
native_text p prefix =
    doors_text p.functions prefix ++ (functions_text p.functions p.functions
    ++ (routines_text ++ (numbered_text variable_text 0 p.globals ++ note_text)))
