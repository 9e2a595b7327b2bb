-- The words in each block have 32 bits, where those that are known have.
use Rattle.std.proofs.Common.{◌≡◌, ℕ, ◌+◌, ◌-◌, ◌^◌, ◌<◌, Bool, true, false, List, [], ◌∷◌, length, Option, Some, None, refl, lit<, arith}
use Rattle.std.specs.Prelude.{if◌then◌else◌, ◌==◌, ◌&&◌, ◌||◌, not, nat_lt}
use Rattle.std.proofs.lemmas.Nat.{pow_below}
use Rattle.ints.specs.declared.conditions.Cond.{Cond}
use Rattle.ints.specs.declared.conditions.Cond.TheVariants.{Nz, Eq, Ne, LtS, LtU, LeS, LeU}
use Rattle.locations.specs.declared.location.Location.{Location}
use Rattle.machine.specs.Fits.{ActFits}
use Rattle.machine.specs.declared.act.Act.{Act}
use Rattle.machine.specs.declared.act.Act.TheVariants.{Constant, Operate, Load, Store, Put}
use Rattle.machine.specs.declared.arguments.Arguments.{Arguments}
use Rattle.machine.specs.declared.arguments.Arguments.TheVariants.{One, Two}
use Rattle.linear_language.specs.declared.instruction.Instruction.{Instruction}
use Rattle.linear_language.specs.declared.instruction.Instruction.TheVariants as l
use Rattle.linear_language.specs.Function.{InstructionFits}
use Rattle.x86_syntax.specs.declared.condition.Condition.{Condition}
use Rattle.x86_syntax.specs.declared.instruction.Instruction.{Instruction as Native}
use Rattle.x86_syntax.specs.declared.operators.Operator.{Operator}
use Rattle.x86_syntax.specs.declared.operators.Operator.TheVariants.{Add, Sub, Mul, And, Or, Xor}
use Rattle.x86_syntax.specs.declared.operators.Shifting.{Shifting}
use Rattle.native_lowering_definition.specs.Blocks.{Around, prints, acts, gets, calls_as, arity_of, cells_in, has_label, jumps, jumps_if, tests, branches, saves, restores, result, leaves, block, grows, opening}
use Rattle.native_lowering_definition.specs.Facts.{Facts, known, answered}
use Rattle.native_lowering_definition.specs.Frames.{Frame, size_of, saved_cell}
use Rattle.native_lowering_definition.specs.Kinds.{Kind, Turns, Makes, Shifts, Divides, Compares, AsksZero, kind_of}
use Rattle.native_lowering_definition.specs.Operating.{copy, makes_in_second, multiplies_with, makes_with, makes, shifts_tested, shifts, divisor_tested_signed, divisor, divides_by_ecx, divides_unsigned_by_power, divides_signed_by_power, divides_by_power, divides_by, divides, compare, operates}
use Rattle.native_lowering_definition.specs.Powers.{exponent, power_known}
use Rattle.native_lowering_definition.specs.Reaching.{loads, stores}
use Rattle.native_lowering_definition.proofs.Powers.{power_is}
use Rattle.native_lowering_ranges.specs.Range.{AreWords}
use Rattle.native_lowering_ranges.proofs.Words.{IsWord}
use Rattle.native_lowering_safe_words.specs.Narrow.{IsNarrow, AreNarrow}
use Rattle.native_lowering_safe_words.proofs.Moves.{narrow_both, narrow_if, narrow_copy, narrow_puts, narrow_moves, narrow_passes, narrow_receives}

-- ---- operators

narrow_second : (op : Operator) (d a : ℕ) → AreNarrow (makes_in_second op d a)
narrow_second Add d a = (tt, tt)
narrow_second Sub d a = (tt, (tt, (tt, tt)))
narrow_second Mul d a = (tt, tt)
narrow_second And d a = (tt, tt)
narrow_second Or d a = (tt, tt)
narrow_second Xor d a = (tt, tt)

narrow_multiplies : (o : Option ℕ) (d w : ℕ) → ((k : ℕ) → o ≡ Some k → k < 32) → w < 2 ^ 32 → IsNarrow (multiplies_with o d w)
narrow_multiplies None d w low small = small
narrow_multiplies (Some k) d w low small = omega (arith, low k refl)

narrow_makes_with : (op : Operator) (d w : ℕ) → w < 2 ^ 32 → IsNarrow (makes_with op d w)
narrow_makes_with Add d w small = small
narrow_makes_with Sub d w small = small
narrow_makes_with Mul d w small = narrow_multiplies (exponent w) d w (λ k e. (power_is (Some w) false k e).below) small
narrow_makes_with And d w small = small
narrow_makes_with Or d w small = small
narrow_makes_with Xor d w small = small

narrow_makes : (op : Operator) (d a b : ℕ) (w : Option ℕ) → IsWord w → AreNarrow (makes op d a b w)
narrow_makes op d a b (Some w) small = narrow_both (copy d a) _ (narrow_copy d a) (narrow_makes_with op d w (small w refl), tt)
narrow_makes op d a b None small = narrow_if (b == d && not (a == b)) _ _ (narrow_second op d a) (narrow_both (copy d a) _ (narrow_copy d a) (tt, tt))

narrow_shifts_tested : (op : Shifting) (d a b : ℕ) → AreNarrow (shifts_tested op d a b)
narrow_shifts_tested op d a b = (tt, (tt, (tt, (tt, (tt, (tt, tt))))))

narrow_shifts : (op : Shifting) (d a b : ℕ) (w : Option ℕ) → IsWord w → AreNarrow (shifts op d a b w)
narrow_shifts op d a b None small = narrow_shifts_tested op d a b
narrow_shifts op d a b (Some w) small = narrow_if (nat_lt w 32) _ _ (narrow_both (copy d a) _ (narrow_copy d a) (small w refl, tt)) (narrow_shifts_tested op d a b)

narrow_tested : (a b : ℕ) → AreNarrow (divisor_tested_signed a b)
narrow_tested a b = (tt, (tt, (tt, (lit< tt, (tt, (tt, (tt, (tt, (tt, tt)))))))))

narrow_divisor : (signed : Bool) (a b : ℕ) (w : Option ℕ) → IsWord w → AreNarrow (divisor signed a b w)
narrow_divisor false a b None small = (tt, (tt, (tt, tt)))
narrow_divisor false a b (Some w) small = narrow_if (w == 0) _ _ (tt, (tt, (tt, tt))) (small w refl, tt)
narrow_divisor true a b None small = narrow_tested a b
narrow_divisor true a b (Some w) small = narrow_if (w == 0 || w == 2 ^ 32 - 1) _ _ (narrow_tested a b) (small w refl, tt)

narrow_by_ecx : (signed : Bool) (a : ℕ) → AreNarrow (divides_by_ecx signed a)
narrow_by_ecx true a = (tt, (tt, (tt, tt)))
narrow_by_ecx false a = (tt, (lit< tt, (tt, tt)))

narrow_unsigned : (quotient : Bool) (d a k : ℕ) → k < 32 → AreNarrow (divides_unsigned_by_power quotient d a k)
narrow_unsigned true d a k small = narrow_both (copy d a) _ (narrow_copy d a) (omega (arith, small), tt)
narrow_unsigned false d a k small = narrow_both (copy d a) _ (narrow_copy d a) (omega (arith, pow_below k 32 small), tt)

narrow_signed : (quotient : Bool) (d a k : ℕ) → k < 32 → AreNarrow (divides_signed_by_power quotient d a k)
narrow_signed true d a k small = (tt, (tt, (omega (arith, pow_below k 32 small), (tt, (omega (arith, small), (tt, tt))))))
narrow_signed false d a k small =
    let mask : 2 ^ k - 1 < 2 ^ 32 = omega (arith, pow_below k 32 small) in
    (tt, (tt, (mask, (tt, (mask, (tt, (tt, tt)))))))

narrow_by_power : (signed quotient : Bool) (d a k : ℕ) → k < 32 → AreNarrow (divides_by_power signed quotient d a k)
narrow_by_power true quotient d a k small = narrow_signed quotient d a k small
narrow_by_power false quotient d a k small = narrow_unsigned quotient d a k small

narrow_divides_by : (o : Option ℕ) (signed quotient : Bool) (d a b : ℕ) (w : Option ℕ) → ((k : ℕ) → o ≡ Some k → k < 32) → IsWord w → AreNarrow (divides_by o signed quotient d a b w)
narrow_divides_by (Some k) signed quotient d a b w low small = narrow_by_power signed quotient d a k (low k refl)
narrow_divides_by None signed quotient d a b w low small =
    narrow_both (divisor signed a b w) _ (narrow_divisor signed a b w small) (narrow_both (divides_by_ecx signed a) _ (narrow_by_ecx signed a) (tt, tt))

narrow_divides : (signed quotient : Bool) (d a b : ℕ) (w : Option ℕ) → IsWord w → AreNarrow (divides signed quotient d a b w)
narrow_divides signed quotient d a b w small = narrow_divides_by (power_known w signed) signed quotient d a b w (λ k e. (power_is w signed k e).below) small

narrow_compare : (a b : ℕ) (w : Option ℕ) → IsNarrow (compare a b w)
narrow_compare a b None = tt
narrow_compare a b (Some w) = tt

narrow_operates : (kind : Kind) (d : ℕ) (arguments : Arguments) (facts : Facts) → AreWords facts.words → AreNarrow (operates kind d arguments facts)
narrow_operates (Turns op) d (One a) facts words = narrow_both (copy d a) _ (narrow_copy d a) (tt, tt)
narrow_operates (Turns op) d (Two a b) facts words = (tt, tt)
narrow_operates (Makes op) d (One a) facts words = (tt, tt)
narrow_operates (Makes op) d (Two a b) facts words = narrow_makes op d a b (known b facts) (words b)
narrow_operates (Shifts op) d (One a) facts words = (tt, tt)
narrow_operates (Shifts op) d (Two a b) facts words = narrow_shifts op d a b (known b facts) (words b)
narrow_operates (Divides signed quotient) d (One a) facts words = (tt, tt)
narrow_operates (Divides signed quotient) d (Two a b) facts words = narrow_divides signed quotient d a b (known b facts) (words b)
narrow_operates (Compares condition) d (One a) facts words = (tt, tt)
narrow_operates (Compares condition) d (Two a b) facts words = (narrow_compare a b (known b facts), (tt, tt))
narrow_operates AsksZero d (One a) facts words = (tt, (tt, tt))
narrow_operates AsksZero d (Two a b) facts words = (tt, tt)

-- ---- globals and printing

narrow_loads : (target global index : ℕ) (cells w : Option ℕ) → AreNarrow (loads target global index cells w)
narrow_loads target global index None w = (tt, tt)
narrow_loads target global index (Some cells) None = (tt, (tt, (tt, tt)))
narrow_loads target global index (Some cells) (Some w) = narrow_if (nat_lt w cells) _ _ (tt, tt) (tt, (tt, (tt, tt)))

narrow_stores : (global index source : ℕ) (cells w : Option ℕ) → AreNarrow (stores global index source cells w)
narrow_stores global index source None w = (tt, tt)
narrow_stores global index source (Some cells) None = (tt, (tt, (tt, tt)))
narrow_stores global index source (Some cells) (Some w) = narrow_if (nat_lt w cells) _ _ (tt, tt) (tt, (tt, (tt, tt)))

narrow_prints : (target : Option ℕ) → AreNarrow (prints target)
narrow_prints None = (tt, tt)
narrow_prints (Some r) = (tt, (tt, tt))

narrow_acts : (around : Around) (facts : Facts) (act : Act) → ActFits act → AreWords facts.words → AreNarrow (acts around facts act)
narrow_acts around facts (Constant target word) fits words = (fits.1, tt)
narrow_acts around facts (Operate op target arguments) fits words = narrow_operates (kind_of op) target arguments facts words
narrow_acts around facts (Load target global index) fits words = narrow_loads target global index (cells_in around global) (known index facts)
narrow_acts around facts (Store global index source) fits words = narrow_stores global index source (cells_in around global) (known index facts)
narrow_acts around facts (Put source target) fits words = (tt, narrow_prints target)

-- ---- calls, jumps, returns

narrow_gets : (frame : Frame) (target : Option Location) → AreNarrow (gets frame target)
narrow_gets frame None = tt
narrow_gets frame (Some l) = narrow_puts frame l _

narrow_calls : (frame : Frame) (function : ℕ) (arguments : List Location) (target : Option Location) (arity : Option ℕ) → AreNarrow (calls_as frame function arguments target arity)
narrow_calls frame function arguments target None = (tt, tt)
narrow_calls frame function arguments target (Some arity) =
    narrow_if (length arguments == arity) _ _ (narrow_both _ _ (narrow_passes frame arguments) (tt, narrow_gets frame target)) (tt, tt)

either : (b : Bool) (x y : Native) → IsNarrow x → IsNarrow y → IsNarrow (if b then x else y)
either true x y first second = first
either false x y first second = second

narrow_jumps : (around : Around) (label : ℕ) → IsNarrow (jumps around label)
narrow_jumps around label = either (has_label around label) _ _ tt tt

narrow_jumps_if : (around : Around) (condition : Condition) (label : ℕ) → IsNarrow (jumps_if around condition label)
narrow_jumps_if around condition label = either (has_label around label) _ _ tt tt

narrow_tests : (around : Around) (facts : Facts) (condition : Cond) (arguments : Arguments) (label : ℕ) → AreNarrow (tests around facts condition arguments label)
narrow_tests around facts Nz (One r) label = (tt, (narrow_jumps_if around _ label, tt))
narrow_tests around facts Nz (Two a b) label = (tt, tt)
narrow_tests around facts Eq (One r) label = (tt, tt)
narrow_tests around facts Eq (Two a b) label = (narrow_compare a b (known b facts), (narrow_jumps_if around _ label, tt))
narrow_tests around facts Ne (One r) label = (tt, tt)
narrow_tests around facts Ne (Two a b) label = (narrow_compare a b (known b facts), (narrow_jumps_if around _ label, tt))
narrow_tests around facts LtS (One r) label = (tt, tt)
narrow_tests around facts LtS (Two a b) label = (narrow_compare a b (known b facts), (narrow_jumps_if around _ label, tt))
narrow_tests around facts LtU (One r) label = (tt, tt)
narrow_tests around facts LtU (Two a b) label = (narrow_compare a b (known b facts), (narrow_jumps_if around _ label, tt))
narrow_tests around facts LeS (One r) label = (tt, tt)
narrow_tests around facts LeS (Two a b) label = (narrow_compare a b (known b facts), (narrow_jumps_if around _ label, tt))
narrow_tests around facts LeU (One r) label = (tt, tt)
narrow_tests around facts LeU (Two a b) label = (narrow_compare a b (known b facts), (narrow_jumps_if around _ label, tt))

narrow_branches : (around : Around) (facts : Facts) (condition : Cond) (arguments : Arguments) (label : ℕ) (answer : Option Condition)
    → AreNarrow (branches around facts condition arguments label answer)
narrow_branches around facts condition arguments label None = narrow_tests around facts condition arguments label
narrow_branches around facts condition arguments label (Some answer) = (narrow_jumps_if around answer label, tt)

narrow_saves : (cell : ℕ) (rs : List ℕ) → AreNarrow (saves cell rs)
narrow_saves cell [] = tt
narrow_saves cell (r ∷ rs) = (tt, narrow_saves (cell + 1) rs)

narrow_restores : (cell : ℕ) (rs : List ℕ) → AreNarrow (restores cell rs)
narrow_restores cell [] = tt
narrow_restores cell (r ∷ rs) = (tt, narrow_restores (cell + 1) rs)

narrow_result : (value : Option ℕ) → AreNarrow (result value)
narrow_result None = tt
narrow_result (Some r) = (tt, tt)

narrow_leaves : (frame : Frame) (value : Option ℕ) → AreNarrow (leaves frame value)
narrow_leaves frame value =
    narrow_both (result value) _ (narrow_result value) (narrow_both (restores (saved_cell frame) frame.saved) _ (narrow_restores _ frame.saved) (tt, (tt, tt)))

-- ---- all blocks

pub narrow_block : (around : Around) (facts : Facts) (slots : ℕ) (i : Instruction) → InstructionFits slots i → AreWords facts.words → AreNarrow (block around facts i)
narrow_block around facts slots (l.Do act) fits words = narrow_acts around facts act fits words
narrow_block around facts slots (l.Copy step) fits words = narrow_moves around.frame step.target step.source
narrow_block around facts slots (l.Call function arguments target) fits words = narrow_calls around.frame function arguments target (arity_of around function)
narrow_block around facts slots (l.Branch test label) fits words = narrow_branches around facts test.condition test.arguments label (answered test facts)
narrow_block around facts slots (l.Return value) fits words = narrow_leaves around.frame value
narrow_block around facts slots (l.Label label) fits words = (tt, tt)
narrow_block around facts slots (l.Goto label) fits words = (narrow_jumps around label, tt)

narrow_grows : (size : ℕ) → AreNarrow (grows size)
narrow_grows size = narrow_if (size == 0) _ _ tt (tt, tt)

pub narrow_opening : (frame : Frame) (parameters : List Location) → AreNarrow (opening frame parameters)
narrow_opening frame parameters = (
  tt,
  narrow_both (grows (size_of frame)) _ (narrow_grows (size_of frame))
      (narrow_both (saves (saved_cell frame) frame.saved) _ (narrow_saves _ frame.saved) (narrow_receives frame parameters)),
)
