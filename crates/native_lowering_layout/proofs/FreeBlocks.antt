-- No block but that of a label has a label.
use Rattle.std.proofs.Common.{◌≡◌, ℕ, ◌+◌, ◌-◌, ◌^◌, Bool, true, false, List, [], ◌∷◌, length, Option, Some, None, refl}
use Rattle.std.specs.Prelude.{if◌then◌else◌, ◌==◌, ◌&&◌, ◌||◌, not, nat_lt}
use Rattle.ints.specs.declared.conditions.Cond.{Cond}
use Rattle.ints.specs.declared.conditions.Cond.TheVariants.{Nz, Eq, Ne, LtS, LtU, LeS, LeU}
use Rattle.locations.specs.declared.location.Location.{Location}
use Rattle.machine.specs.declared.act.Act.{Act}
use Rattle.machine.specs.declared.act.Act.TheVariants.{Constant, Operate, Load, Store, Put}
use Rattle.machine.specs.declared.arguments.Arguments.{Arguments}
use Rattle.machine.specs.declared.arguments.Arguments.TheVariants.{One, Two}
use Rattle.linear_language.specs.declared.instruction.Instruction.{Instruction}
use Rattle.linear_language.specs.declared.instruction.Instruction.TheVariants as l
use Rattle.linear_language.specs.Labels.{label_of as linear_label_of}
use Rattle.x86_syntax.specs.Labels.{label_of}
use Rattle.x86_syntax.specs.declared.condition.Condition.{Condition}
use Rattle.x86_syntax.specs.declared.instruction.Instruction.{Instruction as Native}
use Rattle.x86_syntax.specs.declared.operators.Operator.{Operator}
use Rattle.x86_syntax.specs.declared.operators.Operator.TheVariants.{Add, Sub, Mul, And, Or, Xor}
use Rattle.x86_syntax.specs.declared.operators.Shifting.{Shifting}
use Rattle.native_lowering_definition.specs.Blocks.{Around, prints, acts, gets, calls_as, arity_of, cells_in, has_label, jumps, jumps_if, tests, branches, saves, restores, result, leaves, block, grows, opening}
use Rattle.native_lowering_definition.specs.Facts.{Facts, known, answered}
use Rattle.native_lowering_definition.specs.Frames.{Frame, size_of, saved_cell}
use Rattle.native_lowering_definition.specs.Kinds.{Kind, Turns, Makes, Shifts, Divides, Compares, AsksZero, kind_of}
use Rattle.native_lowering_definition.specs.Operating.{copy, makes_in_second, multiplies_with, makes_with, makes, shifts_tested, shifts, divisor, divides_by_ecx, divides_unsigned_by_power, divides_signed_by_power, divides_by_power, divides_by, divides, compare, operates}
use Rattle.native_lowering_definition.specs.Powers.{exponent, power_known}
use Rattle.native_lowering_definition.specs.Reaching.{loads, stores}
use Rattle.native_lowering_layout.proofs.Free.{IsFree, free_both, free_if, free_copy, free_puts, free_moves, free_passes, free_receives}

-- ---- operators

free_second : (op : Operator) (d a : ℕ) → IsFree (makes_in_second op d a)
unfolding label_of
free_second Add d a = (refl, tt)
free_second Sub d a = (refl, (refl, (refl, tt)))
free_second Mul d a = (refl, tt)
free_second And d a = (refl, tt)
free_second Or d a = (refl, tt)
free_second Xor d a = (refl, tt)

none_multiplies : (o : Option ℕ) (d w : ℕ) → label_of (multiplies_with o d w) ≡ None
unfolding label_of
none_multiplies None d w = refl
none_multiplies (Some k) d w = refl

none_makes_with : (op : Operator) (d w : ℕ) → label_of (makes_with op d w) ≡ None
unfolding label_of
none_makes_with Add d w = refl
none_makes_with Sub d w = refl
none_makes_with Mul d w = none_multiplies (exponent w) d w
none_makes_with And d w = refl
none_makes_with Or d w = refl
none_makes_with Xor d w = refl

free_makes : (op : Operator) (d a b : ℕ) (w : Option ℕ) → IsFree (makes op d a b w)
unfolding label_of
free_makes op d a b (Some w) = free_both (copy d a) _ (free_copy d a) (none_makes_with op d w, tt)
free_makes op d a b None = free_if (b == d && not (a == b)) _ _ (free_second op d a) (free_both (copy d a) _ (free_copy d a) (refl, tt))

free_shifts_tested : (op : Shifting) (d a b : ℕ) → IsFree (shifts_tested op d a b)
unfolding label_of
free_shifts_tested op d a b = (refl, (refl, (refl, (refl, (refl, (refl, tt))))))

free_shifts : (op : Shifting) (d a b : ℕ) (w : Option ℕ) → IsFree (shifts op d a b w)
unfolding label_of
free_shifts op d a b None = free_shifts_tested op d a b
free_shifts op d a b (Some w) = free_if (nat_lt w 32) _ _ (free_both (copy d a) _ (free_copy d a) (refl, tt)) (free_shifts_tested op d a b)

free_divisor : (signed : Bool) (a b : ℕ) (w : Option ℕ) → IsFree (divisor signed a b w)
unfolding label_of
free_divisor false a b None = (refl, (refl, (refl, tt)))
free_divisor false a b (Some w) = free_if (w == 0) _ _ (refl, (refl, (refl, tt))) (refl, tt)
free_divisor true a b None = (refl, (refl, (refl, (refl, (refl, (refl, (refl, (refl, (refl, tt)))))))))
free_divisor true a b (Some w) = free_if (w == 0 || w == 2 ^ 32 - 1) _ _ (refl, (refl, (refl, (refl, (refl, (refl, (refl, (refl, (refl, tt))))))))) (refl, tt)

free_by_ecx : (signed : Bool) (a : ℕ) → IsFree (divides_by_ecx signed a)
unfolding label_of
free_by_ecx true a = (refl, (refl, (refl, tt)))
free_by_ecx false a = (refl, (refl, (refl, tt)))

free_unsigned : (quotient : Bool) (d a k : ℕ) → IsFree (divides_unsigned_by_power quotient d a k)
unfolding label_of
free_unsigned true d a k = free_both (copy d a) _ (free_copy d a) (refl, tt)
free_unsigned false d a k = free_both (copy d a) _ (free_copy d a) (refl, tt)

free_signed : (quotient : Bool) (d a k : ℕ) → IsFree (divides_signed_by_power quotient d a k)
unfolding label_of
free_signed true d a k = (refl, (refl, (refl, (refl, (refl, (refl, tt))))))
free_signed false d a k = (refl, (refl, (refl, (refl, (refl, (refl, (refl, tt)))))))

free_by_power : (signed quotient : Bool) (d a k : ℕ) → IsFree (divides_by_power signed quotient d a k)
free_by_power true quotient d a k = free_signed quotient d a k
free_by_power false quotient d a k = free_unsigned quotient d a k

free_divides_by : (o : Option ℕ) (signed quotient : Bool) (d a b : ℕ) (w : Option ℕ) → IsFree (divides_by o signed quotient d a b w)
unfolding label_of
free_divides_by (Some k) signed quotient d a b w = free_by_power signed quotient d a k
free_divides_by None signed quotient d a b w =
    free_both (divisor signed a b w) _ (free_divisor signed a b w) (free_both (divides_by_ecx signed a) _ (free_by_ecx signed a) (refl, tt))

free_divides : (signed quotient : Bool) (d a b : ℕ) (w : Option ℕ) → IsFree (divides signed quotient d a b w)
free_divides signed quotient d a b w = free_divides_by (power_known w signed) signed quotient d a b w

none_compare : (a b : ℕ) (w : Option ℕ) → label_of (compare a b w) ≡ None
unfolding label_of
none_compare a b None = refl
none_compare a b (Some w) = refl

free_operates : (kind : Kind) (d : ℕ) (arguments : Arguments) (facts : Facts) → IsFree (operates kind d arguments facts)
unfolding label_of
free_operates (Turns op) d (One a) facts = free_both (copy d a) _ (free_copy d a) (refl, tt)
free_operates (Turns op) d (Two a b) facts = (refl, tt)
free_operates (Makes op) d (One a) facts = (refl, tt)
free_operates (Makes op) d (Two a b) facts = free_makes op d a b (known b facts)
free_operates (Shifts op) d (One a) facts = (refl, tt)
free_operates (Shifts op) d (Two a b) facts = free_shifts op d a b (known b facts)
free_operates (Divides signed quotient) d (One a) facts = (refl, tt)
free_operates (Divides signed quotient) d (Two a b) facts = free_divides signed quotient d a b (known b facts)
free_operates (Compares condition) d (One a) facts = (refl, tt)
free_operates (Compares condition) d (Two a b) facts = (none_compare a b (known b facts), (refl, tt))
free_operates AsksZero d (One a) facts = (refl, (refl, tt))
free_operates AsksZero d (Two a b) facts = (refl, tt)

-- ---- globals and printing

free_loads : (target global index : ℕ) (cells w : Option ℕ) → IsFree (loads target global index cells w)
unfolding label_of
free_loads target global index None w = (refl, tt)
free_loads target global index (Some cells) None = (refl, (refl, (refl, tt)))
free_loads target global index (Some cells) (Some w) = free_if (nat_lt w cells) _ _ (refl, tt) (refl, (refl, (refl, tt)))

free_stores : (global index source : ℕ) (cells w : Option ℕ) → IsFree (stores global index source cells w)
unfolding label_of
free_stores global index source None w = (refl, tt)
free_stores global index source (Some cells) None = (refl, (refl, (refl, tt)))
free_stores global index source (Some cells) (Some w) = free_if (nat_lt w cells) _ _ (refl, tt) (refl, (refl, (refl, tt)))

free_prints : (target : Option ℕ) → IsFree (prints target)
unfolding label_of
free_prints None = (refl, tt)
free_prints (Some r) = (refl, (refl, tt))

free_acts : (around : Around) (facts : Facts) (act : Act) → IsFree (acts around facts act)
unfolding label_of
free_acts around facts (Constant target word) = (refl, tt)
free_acts around facts (Operate op target arguments) = free_operates (kind_of op) target arguments facts
free_acts around facts (Load target global index) = free_loads target global index (cells_in around global) (known index facts)
free_acts around facts (Store global index source) = free_stores global index source (cells_in around global) (known index facts)
free_acts around facts (Put source target) = (refl, free_prints target)

-- ---- calls, jumps, returns

free_gets : (frame : Frame) (target : Option Location) → IsFree (gets frame target)
free_gets frame None = tt
free_gets frame (Some l) = free_puts frame l _

free_calls : (frame : Frame) (function : ℕ) (arguments : List Location) (target : Option Location) (arity : Option ℕ) → IsFree (calls_as frame function arguments target arity)
unfolding label_of
free_calls frame function arguments target None = (refl, tt)
free_calls frame function arguments target (Some arity) =
    free_if (length arguments == arity) _ _ (free_both _ _ (free_passes frame arguments) (refl, free_gets frame target)) (refl, tt)

none_if : (b : Bool) (x y : Native) → label_of x ≡ None → label_of y ≡ None → label_of (if b then x else y) ≡ None
none_if true x y e f = e
none_if false x y e f = f

none_jumps : (around : Around) (label : ℕ) → label_of (jumps around label) ≡ None
unfolding label_of
none_jumps around label = none_if (has_label around label) _ _ refl refl

none_jumps_if : (around : Around) (condition : Condition) (label : ℕ) → label_of (jumps_if around condition label) ≡ None
unfolding label_of
none_jumps_if around condition label = none_if (has_label around label) _ _ refl refl

free_tests : (around : Around) (facts : Facts) (condition : Cond) (arguments : Arguments) (label : ℕ) → IsFree (tests around facts condition arguments label)
unfolding label_of
free_tests around facts Nz (One r) label = (refl, (none_jumps_if around _ label, tt))
free_tests around facts Nz (Two a b) label = (refl, tt)
free_tests around facts Eq (One r) label = (refl, tt)
free_tests around facts Eq (Two a b) label = (none_compare a b (known b facts), (none_jumps_if around _ label, tt))
free_tests around facts Ne (One r) label = (refl, tt)
free_tests around facts Ne (Two a b) label = (none_compare a b (known b facts), (none_jumps_if around _ label, tt))
free_tests around facts LtS (One r) label = (refl, tt)
free_tests around facts LtS (Two a b) label = (none_compare a b (known b facts), (none_jumps_if around _ label, tt))
free_tests around facts LtU (One r) label = (refl, tt)
free_tests around facts LtU (Two a b) label = (none_compare a b (known b facts), (none_jumps_if around _ label, tt))
free_tests around facts LeS (One r) label = (refl, tt)
free_tests around facts LeS (Two a b) label = (none_compare a b (known b facts), (none_jumps_if around _ label, tt))
free_tests around facts LeU (One r) label = (refl, tt)
free_tests around facts LeU (Two a b) label = (none_compare a b (known b facts), (none_jumps_if around _ label, tt))

free_branches : (around : Around) (facts : Facts) (condition : Cond) (arguments : Arguments) (label : ℕ) (answer : Option Condition)
    → IsFree (branches around facts condition arguments label answer)
free_branches around facts condition arguments label None = free_tests around facts condition arguments label
free_branches around facts condition arguments label (Some answer) = (none_jumps_if around answer label, tt)

free_saves : (cell : ℕ) (rs : List ℕ) → IsFree (saves cell rs)
unfolding label_of
free_saves cell [] = tt
free_saves cell (r ∷ rs) = (refl, free_saves (cell + 1) rs)

free_restores : (cell : ℕ) (rs : List ℕ) → IsFree (restores cell rs)
unfolding label_of
free_restores cell [] = tt
free_restores cell (r ∷ rs) = (refl, free_restores (cell + 1) rs)

free_result : (value : Option ℕ) → IsFree (result value)
unfolding label_of
free_result None = tt
free_result (Some r) = (refl, tt)

free_leaves : (frame : Frame) (value : Option ℕ) → IsFree (leaves frame value)
unfolding label_of
free_leaves frame value =
    free_both (result value) _ (free_result value) (free_both (restores (saved_cell frame) frame.saved) _ (free_restores _ frame.saved) (refl, (refl, tt)))

-- ---- all blocks

pub free_block : (around : Around) (facts : Facts) (i : Instruction) → linear_label_of i ≡ None → IsFree (block around facts i)
free_block around facts (l.Do act) none = free_acts around facts act
free_block around facts (l.Copy step) none = free_moves around.frame step.target step.source
free_block around facts (l.Call function arguments target) none = free_calls around.frame function arguments target (arity_of around function)
free_block around facts (l.Branch test label) none = free_branches around facts test.condition test.arguments label (answered test facts)
free_block around facts (l.Return value) none = free_leaves around.frame value
free_block around facts (l.Label label) none = cc
free_block around facts (l.Goto label) none = (none_jumps around label, tt)

free_grows : (size : ℕ) → IsFree (grows size)
unfolding label_of
free_grows size = free_if (size == 0) _ _ tt (refl, tt)

pub free_opening : (frame : Frame) (parameters : List Location) → IsFree (opening frame parameters)
unfolding label_of
free_opening frame parameters = (
  refl,
  free_both (grows (size_of frame)) _ (free_grows (size_of frame))
      (free_both (saves (saved_cell frame) frame.saved) _ (free_saves _ frame.saved) (free_receives frame parameters)),
)
