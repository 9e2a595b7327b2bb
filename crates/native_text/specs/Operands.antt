-- What an instruction is done to.
use Rattle.std.specs.Prelude.{ℕ, ◌*◌, List, [], ◌++◌, Option, Some, None, codes, decimal, slice_get}
use Rattle.lang_base.specs.declared.program.Named.{Named}
use Rattle.x86_syntax.specs.declared.function.Function.{Function}
use Rattle.x86_syntax.specs.declared.register.Register.{Register}
use Rattle.native_text.specs.declared.operand.Operand.{Operand}
use Rattle.native_text.specs.declared.operand.Operand.TheVariants as o
use Rattle.native_text.specs.Words.{name_of, wide_name_of, signed_text}

-- where an instruction stands: the program's functions, and the number of its own
pub record Here : Type 0 where
  pub functions : List (Named Function)
  pub number : ℕ

-- the name of a function, if it is there
abbrev pub named : Option (Named Function) → List ℕ
named None = []
named (Some f) = f.name

-- a label of the function
abbrev pub place_text : Here → ℕ → List ℕ
place_text here label = codes ".L" ++ (decimal here.number ++ (codes "." ++ decimal label))

-- the distance of a global from the first
abbrev pub global_text : ℕ → List ℕ
global_text g = codes "g." ++ (decimal g ++ codes "-.Lglobals")

-- a cell of it, by a register and by its number
abbrev pub indexed_text : ℕ → Register → List ℕ
indexed_text g i = global_text g ++ (codes "(%r14," ++ (wide_name_of i ++ codes ",4)"))

abbrev pub at_text : ℕ → ℕ → List ℕ
at_text g w = global_text g ++ (codes "+" ++ (decimal (4 * w) ++ codes "(%r14)"))

-- a register, a word, a cell of the stack, the bytes of so many cells, cells of globals, a label, a function; ecx's and eax's low byte, the
-- top of the stack and its limit; and what stands in the fixed text
abbrev pub operand_text : Here → Operand → List ℕ
operand_text here (o.Of r) = name_of r
operand_text here (o.Word w) = codes "$" ++ signed_text w
operand_text here (o.Cell k) = decimal (8 * k) ++ codes "(%rsp)"
operand_text here (o.Cells n) = codes "$" ++ decimal (8 * n)
operand_text here (o.Indexed g i) = indexed_text g i
operand_text here (o.At g w) = at_text g w
operand_text here (o.Place label) = place_text here label
operand_text here (o.Called f) = codes "f." ++ named (slice_get here.functions f)
operand_text here o.Count = codes "%cl"
operand_text here o.Low = codes "%al"
operand_text here o.Top = codes "%rsp"
operand_text here o.Limit = codes "%r15"
operand_text here o.Wrong = codes ".Lwrong"
operand_text here o.Full = codes ".Lfull"
operand_text here o.Printer = codes ".Lput"
