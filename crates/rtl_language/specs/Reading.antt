-- How a function of RTL is read.
use Rattle.std.specs.Prelude.{ℕ, List, [], ◌∷◌}
use Rattle.lang_helpers.specs.Graphs.{node, graph_of}
use Rattle.lang_helpers.specs.Limits.{function_number}
use Rattle.lang_base.specs.Reading.{Reading, byte, made, both, more, counted, Table, follow, coded, tagged}
use Rattle.rtl_acts.specs.Reading.{register, target, asked, act, frame}
use Rattle.rtl_language.specs.declared.instruction.Instruction.{Instruction}
use Rattle.rtl_language.specs.declared.instruction.Instruction.TheVariants.{Do, Call, Branch, Return}
use Rattle.rtl_language.specs.Function.{FunctionData}
use Rattle.rtl_language.specs.Spelling.{tag}

unfoldable pub call_arguments : ℕ → Reading (List ℕ)
call_arguments registers bytes = counted byte (λ before. register registers) bytes

-- a function, its arguments, where the result goes, and the successor
unfoldable pub call : ℕ → ℕ → Reading Instruction
call registers nodes bytes = made (λ p. Call p.0 p.1.0 p.1.1.0 p.1.1.1) (both function_number (λ f. both (call_arguments registers) (λ arguments. both (target registers) (λ t. node nodes)))) bytes

-- a test, and where it goes on
unfoldable pub branch : ℕ → ℕ → Reading Instruction
branch registers nodes bytes = made (λ p. Branch p.0 p.1.0 p.1.1) (both (asked registers) (λ t. both (node nodes) (λ taken. node nodes))) bytes

-- what follows the codes that are not those of plain instructions, among so many registers and nodes
abbrev pub instructions : ℕ → ℕ → Table Instruction
instructions registers nodes =
    (6, call registers nodes) ∷
    (8, branch registers nodes) ∷
    (9, made (λ value. Return value) (target registers)) ∷ []

-- the other codes are those of plain instructions
unfoldable pub plain : ℕ → ℕ → ℕ → Reading Instruction
plain registers nodes code bytes = made (λ p. Do p.0 p.1) (both (act registers code) (λ a. node nodes)) bytes

unfoldable pub instruction : ℕ → ℕ → Reading Instruction
instruction registers nodes bytes = coded (follow (instructions registers nodes) (plain registers nodes)) bytes

-- as many instructions as there are nodes
unfoldable pub nodes : ℕ → ℕ → Reading (List Instruction)
nodes registers count bytes = more (λ before. instruction registers count) [] count bytes

-- the entry and the nodes
unfoldable pub graph : ℕ → Reading (ℕ × List Instruction)
graph registers bytes = graph_of (nodes registers) bytes

-- what stands behind the tag
unfoldable pub parts : Reading ((List ℕ × ℕ) × (ℕ × List Instruction))
parts bytes = both frame (λ f. graph f.1) bytes

unfoldable pub function : Reading FunctionData
function bytes = tagged tag (made (λ p. record { parameters = p.0.0; registers = p.0.1; entry = p.1.0; nodes = p.1.1 }) parts) bytes
