-- Operators of one word.
use Rattle.std.proofs.Common.{◌≡◌, ℕ, ◌+◌, ◌<◌, ◌^◌, [], ◌∷◌, Option, Some, refl, sym, subst, ◌∙◌, arith}
use Rattle.std.specs.Prelude.{slice_get}
use Rattle.ints.specs.Codes.{argument_count_of}
use Rattle.ints.specs.MachineTable.{machine_table}
use Rattle.ints.specs.declared.operators.Op.{Op}
use Rattle.ints.specs.declared.operators.Op.TheVariants.{NegS, NegU, Not, IsZero, AddS, AddU, SubS, SubU, MulS, MulU, DivS, DivU, ModS, ModU, And, Or, Xor, ShlS, ShlU, ShrS, ShrU, Eq, Ne, LtS, LtU, LeS, LeU}
use Rattle.lang_base.specs.declared.program.Program.{Program}
use Rattle.locations.specs.declared.location.Location.TheVariants.{InRegister}
use Rattle.machine.specs.Data.{value_at}
use Rattle.machine.specs.Frames.{State}
use Rattle.machine.specs.declared.act.Act.TheVariants.{Operate}
use Rattle.machine.specs.declared.arguments.Arguments.TheVariants.{One}
use Rattle.linear_language.specs.declared.instruction.Instruction.TheVariants as l
use Rattle.linear_language.specs.Function.{FunctionData}
use Rattle.x86_syntax.specs.declared.operators.Turning.TheVariants as turn
use Rattle.x86_state.specs.State.{State as Native}
use Rattle.native_lowering_numbers.proofs.Asked.{zero_asks}
use Rattle.native_lowering_numbers.proofs.Wrapped.{neg_signed, neg_unsigned, not_word}
use Rattle.native_lowering_relation.specs.Related.{Related}
use Rattle.native_lowering_checked.proofs.Unchecked.{Reaches, asks_zero_reaches, turns_reaches, written_here}

pub gives : (o : Option ℕ) (v w : ℕ) → o ≡ Some v → o ≡ Some w → v ≡ w
gives o v w e g = let both : Some v ≡ Some w = sym e ∙ g in cc

module _ (p : Program FunctionData) (room : Option ℕ) (s : State) (t : Native) (related : Related p s t) where
  abbrev To : ℕ → ℕ → Type 0
  To d w = Reaches p room (record s { place = s.place + 1; here = written_here p room s t related d w }) t

  pub operate_one : (op : Op) (d a x w : ℕ) → slice_get related.named.function.code s.place ≡ Some (l.Do (Operate op d (One a))) → d < 8 → a < 8
      → value_at (InRegister a) s.here ≡ Some x → x < 2 ^ 32 → argument_count_of op ≡ 1 → machine_table op (x ∷ []) ≡ Some w → To d w
  unfolding argument_count_of
  operate_one NegS d a x w at near near' defined small one e = subst (To d) (gives _ _ w (neg_signed x small) e) (turns_reaches p room s t related NegS turn.Neg d a x refl at near near' defined)
  operate_one NegU d a x w at near near' defined small one e = subst (To d) (gives _ _ w (neg_unsigned x small) e) (turns_reaches p room s t related NegU turn.Neg d a x refl at near near' defined)
  operate_one Not d a x w at near near' defined small one e = subst (To d) (gives _ _ w (not_word x small) e) (turns_reaches p room s t related Not turn.Not d a x refl at near near' defined)
  operate_one IsZero d a x w at near near' defined small one e = subst (To d) (gives _ _ w (zero_asks x) e) (asks_zero_reaches p room s t related IsZero d a x refl at near near' defined)
  operate_one AddS d a x w at near near' defined small one e = absurd (omega (arith, one))
  operate_one AddU d a x w at near near' defined small one e = absurd (omega (arith, one))
  operate_one SubS d a x w at near near' defined small one e = absurd (omega (arith, one))
  operate_one SubU d a x w at near near' defined small one e = absurd (omega (arith, one))
  operate_one MulS d a x w at near near' defined small one e = absurd (omega (arith, one))
  operate_one MulU d a x w at near near' defined small one e = absurd (omega (arith, one))
  operate_one DivS d a x w at near near' defined small one e = absurd (omega (arith, one))
  operate_one DivU d a x w at near near' defined small one e = absurd (omega (arith, one))
  operate_one ModS d a x w at near near' defined small one e = absurd (omega (arith, one))
  operate_one ModU d a x w at near near' defined small one e = absurd (omega (arith, one))
  operate_one And d a x w at near near' defined small one e = absurd (omega (arith, one))
  operate_one Or d a x w at near near' defined small one e = absurd (omega (arith, one))
  operate_one Xor d a x w at near near' defined small one e = absurd (omega (arith, one))
  operate_one ShlS d a x w at near near' defined small one e = absurd (omega (arith, one))
  operate_one ShlU d a x w at near near' defined small one e = absurd (omega (arith, one))
  operate_one ShrS d a x w at near near' defined small one e = absurd (omega (arith, one))
  operate_one ShrU d a x w at near near' defined small one e = absurd (omega (arith, one))
  operate_one Eq d a x w at near near' defined small one e = absurd (omega (arith, one))
  operate_one Ne d a x w at near near' defined small one e = absurd (omega (arith, one))
  operate_one LtS d a x w at near near' defined small one e = absurd (omega (arith, one))
  operate_one LtU d a x w at near near' defined small one e = absurd (omega (arith, one))
  operate_one LeS d a x w at near near' defined small one e = absurd (omega (arith, one))
  operate_one LeU d a x w at near near' defined small one e = absurd (omega (arith, one))
