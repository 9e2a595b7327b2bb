-- Operators of two words.
use Rattle.std.proofs.Common.{◌≡◌, ℕ, ◌+◌, ◌/◌, ◌%◌, ◌<◌, ◌^◌, Bool, true, false, [], ◌∷◌, Option, Some, None, refl, sym, subst, ◌∙◌, arith}
use Rattle.std.specs.Prelude.{slice_get, nat_eq, nat_le, int_div, int_rem}
use Rattle.ints.specs.Codes.{argument_count_of}
use Rattle.ints.specs.MachineTable.{machine_table}
use Rattle.ints.specs.Words.{signed, wrapped, flag}
use Rattle.ints.specs.declared.operators.Op.{Op}
use Rattle.ints.specs.declared.operators.Op.TheVariants.{NegS, NegU, Not, IsZero, AddS, AddU, SubS, SubU, MulS, MulU, DivS, DivU, ModS, ModU, And, Or, Xor, ShlS, ShlU, ShrS, ShrU, Eq, Ne, LtS, LtU, LeS, LeU}
use Rattle.lang_base.specs.declared.program.Program.{Program}
use Rattle.locations.specs.declared.location.Location.TheVariants.{InRegister}
use Rattle.machine.specs.Data.{value_at}
use Rattle.machine.specs.Frames.{State}
use Rattle.machine.specs.declared.act.Act.TheVariants.{Operate}
use Rattle.machine.specs.declared.arguments.Arguments.TheVariants.{Two}
use Rattle.linear_language.specs.declared.instruction.Instruction.TheVariants as l
use Rattle.linear_language.specs.Function.{FunctionData}
use Rattle.x86_syntax.specs.declared.condition.Condition.{Condition}
use Rattle.x86_syntax.specs.declared.condition.Condition.TheVariants as c
use Rattle.x86_syntax.specs.declared.operators.Operator.{Operator}
use Rattle.x86_syntax.specs.declared.operators.Operator.TheVariants as o
use Rattle.x86_syntax.specs.declared.operators.Shifting.{Shifting}
use Rattle.x86_syntax.specs.declared.operators.Shifting.TheVariants.{Shl, Shr, Sar}
use Rattle.x86_state.specs.State.{State as Native}
use Rattle.x86_state.specs.Tables.{operated, shifted, condition_table}
use Rattle.native_lowering_definition.specs.Kinds.{Makes, Shifts, Divides, Compares, kind_of}
use Rattle.native_lowering_numbers.proofs.Asked.{eq_asks, ne_asks, less_asks, below_asks, less_or_equal_asks, below_or_equal_asks}
use Rattle.native_lowering_numbers.proofs.Quotients.{tested, unsigned_quotient, quotient_of, rest_of, no_quotient, no_rest, signed_quotient_of, signed_rest_of, no_signed_quotient, no_signed_rest, quotient_too_large, rest_too_large, both_answer}
use Rattle.native_lowering_numbers.proofs.Shifts.{left_signed, left_unsigned, right_signed, right_unsigned, left_none, right_none, signed_right_none}
use Rattle.native_lowering_numbers.proofs.Wrapped.{add_signed, add_unsigned, sub_signed, sub_unsigned, mul_signed, mul_unsigned, and_words, or_words, xor_words}
use Rattle.native_lowering_relation.specs.Related.{Related}
use Rattle.native_lowering_checked.proofs.Unchecked.{Reaches, compares_reaches, makes_reaches, written_here}
use Rattle.native_lowering_checked.proofs.Dividing.{wanted, divides_reaches}
use Rattle.native_lowering_checked.proofs.Shifting.{shifts_reaches}
use Rattle.native_lowering_acts.proofs.One.{gives}

-- where there is an answer a test has passed
passed : (b : Bool) (v : Option ℕ) (w : ℕ) → v ≡ Some w → (b ≡ true → v ≡ None) → b ≡ false
passed true v w e none = let no : None ≡ Some w = sym (none refl) ∙ e in cc
passed false v w e none = refl

none_shifted : (op : Shifting) (x y : ℕ) → nat_le 32 y ≡ true → shifted op x y ≡ None
none_shifted Shl x y many = left_none x y many
none_shifted Shr x y many = right_none x y many
none_shifted Sar x y many = signed_right_none x y many

module _ (p : Program FunctionData) (room : Option ℕ) (s : State) (t : Native) (related : Related p s t) (d a b x y w : ℕ) (near : d < 8) (near' : a < 8) (near'' : b < 8)
    (left_is : value_at (InRegister a) s.here ≡ Some x) (right_is : value_at (InRegister b) s.here ≡ Some y) (small : x < 2 ^ 32) (small' : y < 2 ^ 32) where
  abbrev To : ℕ → Type 0
  To v = Reaches p room (record s { place = s.place + 1; here = written_here p room s t related d v }) t

  abbrev At : Op → Type 0
  At op = slice_get related.named.function.code s.place ≡ Some (l.Do (Operate op d (Two a b)))

  made : (op : Op) (k : Operator) → At op → kind_of op ≡ Makes k → machine_table op (x ∷ y ∷ []) ≡ Some (operated k x y) → machine_table op (x ∷ y ∷ []) ≡ Some w → To w
  made op k at kind is e = subst To (gives _ _ w is e) (makes_reaches p room s t related op k d a b x y kind at near near' near'' left_is right_is small)

  compared : (op : Op) (k : Condition) → At op → kind_of op ≡ Compares k → machine_table op (x ∷ y ∷ []) ≡ Some (flag (condition_table k x y)) → machine_table op (x ∷ y ∷ []) ≡ Some w → To w
  compared op k at kind is e = subst To (gives _ _ w is e) (compares_reaches p room s t related op k d a b x y kind at near near' near'' left_is right_is)

  turned : (op : Op) (k : Shifting) → At op → kind_of op ≡ Shifts k → machine_table op (x ∷ y ∷ []) ≡ shifted k x y → machine_table op (x ∷ y ∷ []) ≡ Some w → To w
  turned op k at kind is e =
      let result : shifted k x y ≡ Some w = sym is ∙ e in
      shifts_reaches p room s t related op k d a b x y w kind at near near' near'' left_is right_is (passed (nat_le 32 y) (shifted k x y) w result (none_shifted k x y)) result

  unsigned : (op : Op) (wants : Bool) (v : ℕ) → At op → kind_of op ≡ Divides false wants → (nat_eq y 0 ≡ true → machine_table op (x ∷ y ∷ []) ≡ None)
      → (nat_eq y 0 ≡ false → machine_table op (x ∷ y ∷ []) ≡ Some v) → v ≡ wanted wants (x / y, x % y) → machine_table op (x ∷ y ∷ []) ≡ Some w → To w
  unsigned op wants v at kind none is same e =
      let some = passed (nat_eq y 0) (machine_table op (x ∷ y ∷ [])) w e none in
      subst To (sym same ∙ gives _ _ w (is some) e)
      (divides_reaches p room s t related op false wants d a b x y (x / y, x % y) kind at near near' near'' left_is right_is (unsigned_quotient x y some) some tt small)

  abbrev signed_pair : ℕ × ℕ
  signed_pair = (wrapped (int_div (signed x) (signed y)), wrapped (int_rem (signed x) (signed y)))

  signed_one : (op : Op) (wants : Bool) (v : ℕ) → At op → kind_of op ≡ Divides true wants → (nat_eq y 0 ≡ true → machine_table op (x ∷ y ∷ []) ≡ None)
      → (nat_eq (tested x y) 0 ≡ true → machine_table op (x ∷ y ∷ []) ≡ None)
      → (nat_eq y 0 ≡ false → nat_eq (tested x y) 0 ≡ false → machine_table op (x ∷ y ∷ []) ≡ Some v) → v ≡ wanted wants signed_pair → machine_table op (x ∷ y ∷ []) ≡ Some w → To w
  signed_one op wants v at kind none large is same e =
      let some = passed (nat_eq y 0) (machine_table op (x ∷ y ∷ [])) w e none in
      let fits = passed (nat_eq (tested x y) 0) (machine_table op (x ∷ y ∷ [])) w e large in
      subst To (sym same ∙ gives _ _ w (is some fits) e)
      (divides_reaches p room s t related op true wants d a b x y signed_pair kind at near near' near'' left_is right_is (both_answer x y small small' some fits) some fits small)

  pub operate_two : (op : Op) → At op → argument_count_of op ≡ 2 → machine_table op (x ∷ y ∷ []) ≡ Some w → To w
  unfolding argument_count_of
  operate_two NegS at two e = absurd (omega (arith, two))
  operate_two NegU at two e = absurd (omega (arith, two))
  operate_two Not at two e = absurd (omega (arith, two))
  operate_two IsZero at two e = absurd (omega (arith, two))
  operate_two AddS at two e = made AddS o.Add at refl (add_signed x y small small') e
  operate_two AddU at two e = made AddU o.Add at refl (add_unsigned x y small small') e
  operate_two SubS at two e = made SubS o.Sub at refl (sub_signed x y small small') e
  operate_two SubU at two e = made SubU o.Sub at refl (sub_unsigned x y small small') e
  operate_two MulS at two e = made MulS o.Mul at refl (mul_signed x y small small') e
  operate_two MulU at two e = made MulU o.Mul at refl (mul_unsigned x y small small') e
  operate_two DivS at two e = signed_one DivS true signed_pair.0 at refl (no_signed_quotient x y small small') (quotient_too_large x y small small') (signed_quotient_of x y small small') refl e
  operate_two DivU at two e = unsigned DivU true (x / y) at refl (no_quotient x y) (quotient_of x y) refl e
  operate_two ModS at two e = signed_one ModS false signed_pair.1 at refl (no_signed_rest x y small small') (rest_too_large x y small small') (signed_rest_of x y small small') refl e
  operate_two ModU at two e = unsigned ModU false (x % y) at refl (no_rest x y) (rest_of x y) refl e
  operate_two And at two e = made And o.And at refl (and_words x y small small') e
  operate_two Or at two e = made Or o.Or at refl (or_words x y small small') e
  operate_two Xor at two e = made Xor o.Xor at refl (xor_words x y small small') e
  operate_two ShlS at two e = turned ShlS Shl at refl (left_signed x y small) e
  operate_two ShlU at two e = turned ShlU Shl at refl (left_unsigned x y) e
  operate_two ShrS at two e = turned ShrS Sar at refl (right_signed x y) e
  operate_two ShrU at two e = turned ShrU Shr at refl (right_unsigned x y) e
  operate_two Eq at two e = compared Eq c.Equal at refl (eq_asks x y) e
  operate_two Ne at two e = compared Ne c.NotEqual at refl (ne_asks x y) e
  operate_two LtS at two e = compared LtS c.Less at refl (less_asks x y) e
  operate_two LtU at two e = compared LtU c.Below at refl (below_asks x y) e
  operate_two LeS at two e = compared LeS c.LessOrEqual at refl (less_or_equal_asks x y) e
  operate_two LeU at two e = compared LeU c.BelowOrEqual at refl (below_or_equal_asks x y) e
