-- A negative and a complement.
use Rattle.std.proofs.Common.{◌≡◌, ℕ, ◌+◌, ◌<◌, List, [], ◌∷◌, ◌++◌, length, Option, Some, None, refl, sym, ap, ◌∙◌, arith}
use Rattle.std.specs.Prelude.{slice_get, slice_index, slice_set}
use Rattle.ints.specs.declared.operators.Op.{Op}
use Rattle.lang_base.specs.declared.program.Program.{Program}
use Rattle.locations.specs.declared.location.Location.TheVariants.{InRegister}
use Rattle.machine.specs.Data.{value_at}
use Rattle.machine.specs.Frames.{State}
use Rattle.machine.specs.declared.act.Act.TheVariants.{Operate}
use Rattle.machine.specs.declared.arguments.Arguments.TheVariants.{One}
use Rattle.linear_language.specs.declared.instruction.Instruction.TheVariants as l
use Rattle.linear_language.specs.Function.{FunctionData}
use Rattle.x86_syntax.specs.declared.instruction.Instruction.TheVariants.{Turn}
use Rattle.x86_syntax.specs.declared.operators.Turning.{Turning}
use Rattle.x86_syntax.specs.declared.operators.Turning.TheVariants.{Neg, Not}
use Rattle.x86_state.specs.State.{State as Native, Goes}
use Rattle.x86_state.specs.Tables.{turned}
use Rattle.native_lowering_definition.specs.Facts.{flag_left, left}
use Rattle.native_lowering_definition.specs.Kinds.{Turns, kind_of}
use Rattle.native_lowering_definition.specs.Layout.{facts_in}
use Rattle.native_lowering_definition.specs.Lowering.{lowered, code_of}
use Rattle.native_lowering_definition.specs.Locations.{register_of}
use Rattle.native_lowering_definition.specs.Operating.{copy, turns, operates}
use Rattle.native_lowering_relation.specs.Related.{Related}
use Rattle.native_lowering_relation.proofs.Agreeing.{agree_at, word_is}
use Rattle.native_lowering_runs.specs.Reaching.{Reaches}
use Rattle.native_lowering_runs.proofs.Registers.{number_is}
use Rattle.native_lowering_operators.proofs.Copying.{left_as, LeavesIt, straight_copy, count_copy, copy_walks}
use Rattle.native_lowering_operators.proofs.Scratched.{not_scratched}
use Rattle.native_lowering_operators.proofs.Written.{written_here, writes_reaches}

-- `not` keeps the flags
abbrev turn_flags : Turning → Option (ℕ × ℕ) → Option (ℕ × ℕ)
turn_flags Neg flags = None
turn_flags Not flags = flags

module _ (p : Program FunctionData) (room : Option ℕ) (s : State) (t : Native) (related : Related p s t) where
  turn_leaves : (op : Turning) (d x : ℕ) → d < 8
      → LeavesIt (lowered p).functions room (code_of p related.named.function) t d d x (turned op x) (turn_flags op t.flags) (Turn op (register_of d))
  turn_leaves Neg d x near = λ v here others flags.
      λ i. Goes (record v { place = v.place + 1; registers = slice_set v.registers (number_is d near i) (turned Neg ((ap (slice_index v.registers) (number_is d near) ∙ here) i)); flags = None })
  turn_leaves Not d x near = λ v here others flags.
      λ i. Goes (record v { place = v.place + 1; registers = slice_set v.registers (number_is d near i) (turned Not ((ap (slice_index v.registers) (number_is d near) ∙ here) i)); flags = flags i })

  pub turns_reaches : (o : Op) (op : Turning) (d a x : ℕ) → kind_of o ≡ Turns op → slice_get related.named.function.code s.place ≡ Some (l.Do (Operate o d (One a)))
      → d < 8 → a < 8 → value_at (InRegister a) s.here ≡ Some x → Reaches p room (record s { place = s.place + 1; here = written_here p room s t related d (turned op x) }) t
  turns_reaches o op d a x kind at near near' defined =
      let f = related.named.function in
      let facts = facts_in f s.place in
      let here = word_is (value_at (InRegister a) s.here) (slice_index t.registers a) x (agree_at s.here.registers t.registers a related.holds.agree) defined in
      writes_reaches p room s t related (l.Do (Operate o d (One a))) (turns op d a) (length (copy d a)) d (turned op x) None (turn_flags op t.flags) t.registers (record {
        at = at;
        is_it = ap (λ k. operates k d (One a) facts) kind;
        count = count_copy d a (Turn op (register_of d));
        target = refl;
        leaves = ap (λ k. left d (flag_left k (One a) d facts) facts) kind;
        straight = straight_copy d a (Turn op (register_of d));
        scratch = not_scratched f s.here.registers s.here.slots related.held t.registers related.holds;
        answers = tt;
        walk = copy_walks (lowered p).functions room (code_of p f) t d a x (turned op x) (turn_flags op t.flags) (Turn op (register_of d)) near' near related.holds.thirteen here
            (turn_leaves op d x near);
      })
