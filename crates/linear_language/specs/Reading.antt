-- How a function of Linear is read.
use Rattle.std.specs.Prelude.{ℕ, Bool, true, not, List, [], ◌∷◌, Option, Some, None, nat_eq}
use Rattle.std.specs.Int.{w16, w32}
use Rattle.std.specs.List.{list_any}
use Rattle.lang_base.specs.declared.errors.FormError.TheVariants.{NotCanonical}
use Rattle.lang_base.specs.Reading.{Reading, number, made, tested, both, counted, Table, follow, coded, tagged}
use Rattle.locations.specs.declared.location.Location.{Location}
use Rattle.machine.specs.Reading.{one_move, call, asked, value, act, frame}
use Rattle.linear_language.specs.declared.instruction.Instruction.{Instruction}
use Rattle.linear_language.specs.declared.instruction.Instruction.TheVariants.{Do, Copy, Call, Branch, Return, Label, Goto}
use Rattle.linear_language.specs.Function.{FunctionData}
use Rattle.linear_language.specs.Labels.{label_of, labels_of}
use Rattle.linear_language.specs.Spelling.{tag}

-- what a call names
unfoldable pub calling : ℕ → Reading Instruction
calling slots bytes = made (λ p. Call p.0 p.1.0 p.1.1) (call slots) bytes

-- what follows the codes that are not those of plain instructions, among so many slots
abbrev pub instructions : ℕ → Table Instruction
instructions slots =
    (2, made (λ step. Copy step) (one_move slots)) ∷
    (6, calling slots) ∷
    (8, made (λ p. Branch p.0 p.1) (both asked (λ t. number w16))) ∷
    (9, made (λ value. Return value) value) ∷
    (10, made (λ label. Label label) (number w16)) ∷
    (11, made (λ label. Goto label) (number w16)) ∷ []

-- the other codes are those of plain instructions
abbrev pub plain : ℕ → Reading Instruction
plain code bytes = made (λ a. Do a) (act code) bytes

unfoldable pub instruction : ℕ → Reading Instruction
instruction slots bytes = coded (follow (instructions slots) plain) bytes

-- whether a label stands among these
abbrev pub stands : ℕ → List ℕ → Bool
stands l ls = list_any (λ k. nat_eq k l) ls

-- no label, or one that does not stand among these
abbrev pub is_new : Option ℕ → List ℕ → Bool
is_new None ls = true
is_new (Some l) ls = not (stands l ls)

-- an instruction behind others: no label that stands before
unfoldable pub placed : ℕ → List Instruction → Reading Instruction
placed slots before bytes = tested (λ i. is_new (label_of i) (labels_of before)) NotCanonical (instruction slots) bytes

unfoldable pub code : ℕ → Reading (List Instruction)
code slots bytes = counted (number w32) (placed slots) bytes

-- what stands behind the tag
unfoldable pub parts : Reading ((List Location × ℕ) × List Instruction)
parts bytes = both frame (λ f. code f.1) bytes

unfoldable pub function : Reading FunctionData
function bytes = tagged tag (made (λ p. record { parameters = p.0.0; slots = p.0.1; code = p.1 }) parts) bytes
