-- The lines of each instruction (NATIVE.md has the same table in words).
use Rattle.std.specs.Prelude.{ℕ, List, ◌++◌, codes}
use Rattle.x86_syntax.specs.declared.condition.Condition.TheVariants.{Below}
use Rattle.x86_syntax.specs.declared.instruction.Instruction.{Instruction}
use Rattle.x86_syntax.specs.declared.instruction.Instruction.TheVariants.{Label, Skip, Copy, Set, Take, Keep, Do, DoWith, Turn, Shift, ShiftBy, Extend, Divide, DivideU, Compare, CompareWith, Flag, Jump, JumpIf, Stop, StopIf, Load, Store, LoadAt, StoreAt, Call, Return, Room, Grow, Shrink, Put}
use Rattle.native_text.specs.declared.operand.Operand.{Operand}
use Rattle.native_text.specs.declared.operand.Operand.TheVariants.{Of, Word, Cell, Cells, Indexed, At, Place, Called, Count, Low, Top, Limit, Wrong, Full, Printer}
use Rattle.native_text.specs.declared.words.Verb.{Verb}
use Rattle.native_text.specs.declared.words.Verb.TheVariants.{Remark, Moves, Does, Turns, Shifts, Extends, Divides, DividesUnsigned, Compares, Sets, Widens, Jumps, JumpsIf, Calls, Returns, ComparesWide, SubtractsWide, AddsWide}
use Rattle.native_text_doors.specs.Fixed.{labelled, line_end}
use Rattle.native_text.specs.Operands.{Here, operand_text, place_text}
use Rattle.native_text.specs.Words.{verb_text}

-- a line with no operand, with one, and with two: a blank stands before it
abbrev pub plain : Verb → List ℕ
plain verb = codes " " ++ (verb_text verb ++ line_end)

abbrev pub one : Here → Verb → Operand → List ℕ
one here verb a = codes " " ++ (verb_text verb ++ (codes " " ++ (operand_text here a ++ line_end)))

abbrev pub two : Here → Verb → Operand → Operand → List ℕ
two here verb a b = codes " " ++ (verb_text verb ++ (codes " " ++ (operand_text here a ++ (codes ", " ++ (operand_text here b ++ line_end)))))

-- the source comes first, then what is changed
abbrev pub lines : Here → Instruction → List ℕ
lines here (Label label) = labelled (place_text here label)
lines here Skip = plain Remark
lines here (Copy target source) = two here Moves (Of source) (Of target)
lines here (Set target word) = two here Moves (Word word) (Of target)
lines here (Take target cell) = two here Moves (Cell cell) (Of target)
lines here (Keep cell source) = two here Moves (Of source) (Cell cell)
lines here (Do op target source) = two here (Does op) (Of source) (Of target)
lines here (DoWith op target word) = two here (Does op) (Word word) (Of target)
lines here (Turn op target) = one here (Turns op) (Of target)
lines here (Shift op target count) = two here (Shifts op) (Word count) (Of target)
lines here (ShiftBy op target) = two here (Shifts op) Count (Of target)
lines here Extend = plain Extends
lines here (Divide divisor) = one here Divides (Of divisor)
lines here (DivideU divisor) = one here DividesUnsigned (Of divisor)
lines here (Compare left right) = two here Compares (Of right) (Of left)
lines here (CompareWith left word) = two here Compares (Word word) (Of left)
lines here (Flag condition target) = one here (Sets condition) Low ++ two here Widens Low (Of target)
lines here (Jump label) = one here Jumps (Place label)
lines here (JumpIf condition label) = one here (JumpsIf condition) (Place label)
lines here Stop = one here Jumps Wrong
lines here (StopIf condition) = one here (JumpsIf condition) Wrong
lines here (Load target global index) = two here Moves (Indexed global index) (Of target)
lines here (Store global index source) = two here Moves (Of source) (Indexed global index)
lines here (LoadAt target global cell) = two here Moves (At global cell) (Of target)
lines here (StoreAt global cell source) = two here Moves (Of source) (At global cell)
lines here (Call function) = one here Calls (Called function)
lines here Return = plain Returns
lines here Room = two here ComparesWide Limit Top ++ one here (JumpsIf Below) Full
lines here (Grow count) = two here SubtractsWide (Cells count) Top
lines here (Shrink count) = two here AddsWide (Cells count) Top
lines here Put = one here Calls Printer
