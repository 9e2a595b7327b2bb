-- The doorways: what C calls. A doorway keeps C's registers, brings arguments past the fourth to cells, enters, and calls.
use Rattle.std.specs.Prelude.{ℕ, zero, suc, ◌-◌, ◌*◌, ◌==◌, ◌&&◌, Bool, List, [], ◌∷◌, ◌++◌, codes, decimal, nat_lt, if◌then◌else◌}
use Rattle.std.specs.List.{list_any, flat_map}
use Rattle.std.specs.Str.{bytes_eq}
use Rattle.lang_base.specs.declared.program.Named.{Named}
use Rattle.x86_syntax.specs.declared.function.Function.{Function}
use Rattle.native_text_doors.specs.Fixed.{kept_text, back_text, main_text, result_text, labelled, line_end}

-- a text so many times
abbrev pub repeated : ℕ → List ℕ → List ℕ
repeated zero text = []
repeated (suc n) text = repeated n text ++ text

abbrev pub text_if : Bool → List ℕ → List ℕ
text_if condition text = if condition then text else []

-- C has argument n at 8n behind what a doorway keeps, and so has it each before, as each is put on the stack
abbrev pub stacked_text : ℕ → List ℕ
stacked_text n = codes " pushq " ++ (decimal (8 * n) ++ (codes "(%rsp)" ++ line_end))

-- the arguments past the fourth of so many, the last first: C has the fifth and the sixth in registers
abbrev pub arguments_text : ℕ → List ℕ
arguments_text n =
    repeated (n - 6) (stacked_text n)
    ++ (text_if (nat_lt 5 n) (codes " pushq %r9" ++ line_end) ++ text_if (nat_lt 4 n) (codes " pushq %r8" ++ line_end))

-- they are taken off
abbrev pub dropped_text : ℕ → List ℕ
dropped_text n = text_if (nat_lt 4 n) (codes " addq $" ++ (decimal (8 * (n - 4)) ++ (codes ", %rsp" ++ line_end)))

abbrev pub call_text : List ℕ → List ℕ
call_text name = codes " call f." ++ (name ++ line_end)

abbrev pub enters_text : List ℕ
enters_text = codes " call .Lenter" ++ line_end

-- a name that the linker sees
abbrev pub global_line : List ℕ → List ℕ
global_line name = codes " .globl " ++ (name ++ line_end)

-- and its place
abbrev pub seen_text : List ℕ → List ℕ
seen_text name = global_line name ++ labelled name

-- a function with so many parameters is called behind what a doorway keeps
abbrev pub called_text : List ℕ → ℕ → List ℕ
called_text name n = arguments_text n ++ (enters_text ++ (call_text name ++ dropped_text n))

-- the doorway of a function, under a prefix
abbrev pub door_text : List ℕ → Named Function → List ℕ
door_text prefix f =
    seen_text (prefix ++ f.name) ++ (kept_text ++ (called_text f.name f.function.parameters ++ back_text))

-- a function where a program can begin
abbrev pub is_main : Named Function → Bool
is_main f = bytes_eq f.name (codes "main") && f.function.parameters == 0

-- main's doorway: a program without main goes wrong
abbrev pub begins_text : Bool → List ℕ
begins_text has_main = if has_main then call_text (codes "main") else codes " jmp .Lwrong" ++ line_end

abbrev pub main_door_text : List (Named Function) → List ℕ
main_door_text fs =
    main_text ++ (kept_text ++ (enters_text ++ (begins_text (list_any is_main fs) ++ (result_text ++ back_text))))
