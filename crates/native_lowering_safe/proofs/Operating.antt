-- Operators that the machine's table has no answer for: native code stops.
use Rattle.std.proofs.Common.{◌≡◌, ℕ, ◌/◌, ◌%◌, ◌<◌, ◌^◌, Bool, true, false, [], ◌∷◌, Option, Some, None, refl, sym, ◌∙◌, arith}
use Rattle.std.specs.Prelude.{slice_get, slice_index, nat_eq, nat_le, int_div, int_rem, if◌then◌else◌}
use Rattle.ints.specs.Codes.{argument_count_of}
use Rattle.ints.specs.MachineTable.{machine_table}
use Rattle.ints.specs.Words.{signed, wrapped}
use Rattle.ints.specs.declared.operators.Op.{Op}
use Rattle.ints.specs.declared.operators.Op.TheVariants.{NegS, NegU, Not, IsZero, AddS, AddU, SubS, SubU, MulS, MulU, DivS, DivU, ModS, ModU, And, Or, Xor, ShlS, ShlU, ShrS, ShrU, Eq, Ne, LtS, LtU, LeS, LeU}
use Rattle.lang_base.specs.declared.program.Program.{Program}
use Rattle.machine.specs.Frames.{State}
use Rattle.machine.specs.declared.act.Act.TheVariants.{Operate}
use Rattle.machine.specs.declared.arguments.Arguments.TheVariants.{Two}
use Rattle.linear_language.specs.declared.instruction.Instruction.TheVariants as l
use Rattle.linear_language.specs.Function.{FunctionData}
use Rattle.x86_syntax.specs.declared.operators.Shifting.{Shifting}
use Rattle.x86_syntax.specs.declared.operators.Shifting.TheVariants.{Shl, Shr, Sar}
use Rattle.x86_state.specs.State.{State as Native}
use Rattle.native_lowering_definition.specs.Kinds.{Shifts, Divides, kind_of}
use Rattle.native_lowering_definition.specs.Lowering.{lowered}
use Rattle.native_lowering_numbers.proofs.Quotients.{tested, quotient_of, rest_of, signed_quotient_of, signed_rest_of}
use Rattle.native_lowering_relation.specs.Related.{Related}
use Rattle.native_lowering_safe_stops.specs.Halting.{Halts, AreDefined}
use Rattle.native_lowering_safe_stops.proofs.Dividing.{signed_stops, unsigned_stops}
use Rattle.native_lowering_safe_stops.proofs.Shifting.{shift_stops}

-- there is an answer
pub some_none : {A : Type 0} (P : Type 0) (x : A) → Some x ≡ None → P
some_none P x e = absurd (no e)
  where
    no : Some x ≡ None → ⊥
    no e = cc

-- where there is none a test has told
told : (b : Bool) (v : Option ℕ) (w : ℕ) → v ≡ None → (b ≡ false → v ≡ Some w) → b ≡ true
told true v w e some = refl
told false v w e some = some_none (false ≡ true) w (sym (some refl) ∙ e)

-- each operator of one word has an answer
pub one_answers : (P : Type 0) (op : Op) (x : ℕ) → argument_count_of op ≡ 1 → machine_table op (x ∷ []) ≡ None → P
unfolding argument_count_of machine_table
one_answers P NegS x one e = some_none P _ e
one_answers P NegU x one e = some_none P _ e
one_answers P Not x one e = some_none P _ e
one_answers P IsZero x one e = some_none P _ e
one_answers P AddS x one e = absurd (omega (arith, one))
one_answers P AddU x one e = absurd (omega (arith, one))
one_answers P SubS x one e = absurd (omega (arith, one))
one_answers P SubU x one e = absurd (omega (arith, one))
one_answers P MulS x one e = absurd (omega (arith, one))
one_answers P MulU x one e = absurd (omega (arith, one))
one_answers P DivS x one e = absurd (omega (arith, one))
one_answers P DivU x one e = absurd (omega (arith, one))
one_answers P ModS x one e = absurd (omega (arith, one))
one_answers P ModU x one e = absurd (omega (arith, one))
one_answers P And x one e = absurd (omega (arith, one))
one_answers P Or x one e = absurd (omega (arith, one))
one_answers P Xor x one e = absurd (omega (arith, one))
one_answers P ShlS x one e = absurd (omega (arith, one))
one_answers P ShlU x one e = absurd (omega (arith, one))
one_answers P ShrS x one e = absurd (omega (arith, one))
one_answers P ShrU x one e = absurd (omega (arith, one))
one_answers P Eq x one e = absurd (omega (arith, one))
one_answers P Ne x one e = absurd (omega (arith, one))
one_answers P LtS x one e = absurd (omega (arith, one))
one_answers P LtU x one e = absurd (omega (arith, one))
one_answers P LeS x one e = absurd (omega (arith, one))
one_answers P LeU x one e = absurd (omega (arith, one))

module _ (y : ℕ) where
  -- below 32 a shift has one
  many : (v : ℕ) → (if nat_le 32 y then None else Some v) ≡ None → nat_le 32 y ≡ true
  many v e = by (nat_le 32 y) e
    where
      by : (b : Bool) → (if b then None else Some v) ≡ None → b ≡ true
      by true e = refl
      by false e = some_none (false ≡ true) v e

module _ (p : Program FunctionData) (s : State) (t : Native) (related : Related p s t) (defined : AreDefined s.here t.registers) (d a b : ℕ) (near : a < 8) (near' : b < 8)
    (small : slice_index t.registers a < 2 ^ 32) (small' : slice_index t.registers b < 2 ^ 32) where
  abbrev x : ℕ
  x = slice_index t.registers a

  abbrev y : ℕ
  y = slice_index t.registers b

  abbrev Over : Type 0
  Over = Halts (lowered p).functions t

  abbrev At : Op → Type 0
  At op = slice_get related.named.function.code s.place ≡ Some (l.Do (Operate op d (Two a b)))

  shifts : (op : Op) (k : Shifting) → At op → kind_of op ≡ Shifts k → nat_le 32 y ≡ true → Over
  shifts op k at kind e = shift_stops p s t related defined op k d a b kind at near' e

  unsigned : (op : Op) (wants : Bool) (w : ℕ) → At op → kind_of op ≡ Divides false wants → (nat_eq y 0 ≡ false → machine_table op (x ∷ y ∷ []) ≡ Some w) → machine_table op (x ∷ y ∷ []) ≡ None → Over
  unsigned op wants w at kind answers e =
      unsigned_stops p s t related defined op wants d a b kind at near' (told (nat_eq y 0) (machine_table op (x ∷ y ∷ [])) w e answers)

  signed_one : (op : Op) (wants : Bool) (w : ℕ) → At op → kind_of op ≡ Divides true wants
      → (nat_eq y 0 ≡ false → nat_eq (tested x y) 0 ≡ false → machine_table op (x ∷ y ∷ []) ≡ Some w) → machine_table op (x ∷ y ∷ []) ≡ None → Over
  signed_one op wants w at kind answers e =
      signed_stops p s t related defined op wants d a b kind at near near' small' (λ some. told (nat_eq (tested x y) 0) (machine_table op (x ∷ y ∷ [])) w e (answers some))

  pub two_stops : (op : Op) → At op → argument_count_of op ≡ 2 → machine_table op (x ∷ y ∷ []) ≡ None → Over
  unfolding argument_count_of machine_table
  two_stops NegS at two e = absurd (omega (arith, two))
  two_stops NegU at two e = absurd (omega (arith, two))
  two_stops Not at two e = absurd (omega (arith, two))
  two_stops IsZero at two e = absurd (omega (arith, two))
  two_stops AddS at two e = some_none Over _ e
  two_stops AddU at two e = some_none Over _ e
  two_stops SubS at two e = some_none Over _ e
  two_stops SubU at two e = some_none Over _ e
  two_stops MulS at two e = some_none Over _ e
  two_stops MulU at two e = some_none Over _ e
  two_stops DivS at two e = signed_one DivS true (wrapped (int_div (signed x) (signed y))) at refl (signed_quotient_of x y small small') e
  two_stops DivU at two e = unsigned DivU true (x / y) at refl (quotient_of x y) e
  two_stops ModS at two e = signed_one ModS false (wrapped (int_rem (signed x) (signed y))) at refl (signed_rest_of x y small small') e
  two_stops ModU at two e = unsigned ModU false (x % y) at refl (rest_of x y) e
  two_stops And at two e = some_none Over _ e
  two_stops Or at two e = some_none Over _ e
  two_stops Xor at two e = some_none Over _ e
  two_stops ShlS at two e = shifts ShlS Shl at refl (many y _ e)
  two_stops ShlU at two e = shifts ShlU Shl at refl (many y _ e)
  two_stops ShrS at two e = shifts ShrS Sar at refl (many y _ e)
  two_stops ShrU at two e = shifts ShrU Shr at refl (many y _ e)
  two_stops Eq at two e = some_none Over _ e
  two_stops Ne at two e = some_none Over _ e
  two_stops LtS at two e = some_none Over _ e
  two_stops LtU at two e = some_none Over _ e
  two_stops LeS at two e = some_none Over _ e
  two_stops LeU at two e = some_none Over _ e
