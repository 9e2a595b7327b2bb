-- A shift by 32 or more stops.
use Rattle.std.proofs.Common.{◌≡◌, ℕ, ◌<◌, Bool, true, false, [], ◌∷◌, ◌++◌, Option, Some, None, refl, ap, ◌∙◌, arith}
use Rattle.std.specs.Prelude.{slice_get, slice_index, nat_lt, nat_le, if◌then◌else◌}
use Rattle.std.proofs.lemmas.Bool.{ltb-true, leb-true}
use Rattle.ints.specs.declared.operators.Op.{Op}
use Rattle.lang_base.specs.declared.program.Program.{Program}
use Rattle.locations.specs.declared.location.Location.TheVariants.{InRegister}
use Rattle.machine.specs.Data.{value_at}
use Rattle.machine.specs.Frames.{State}
use Rattle.machine.specs.declared.act.Act.TheVariants.{Operate}
use Rattle.machine.specs.declared.arguments.Arguments.TheVariants.{Two}
use Rattle.linear_language.specs.declared.instruction.Instruction.TheVariants as l
use Rattle.linear_language.specs.Function.{FunctionData}
use Rattle.x86_syntax.specs.declared.condition.Condition.TheVariants.{AboveOrEqual}
use Rattle.x86_syntax.specs.declared.instruction.Instruction.TheVariants as n
use Rattle.x86_syntax.specs.declared.operators.Shifting.{Shifting}
use Rattle.x86_syntax.specs.declared.register.Register.TheVariants.{Eax, Ecx}
use Rattle.x86_state.specs.State.{State as Native}
use Rattle.native_lowering_definition.specs.Facts.{Facts, known}
use Rattle.native_lowering_definition.specs.Kinds.{Shifts, kind_of}
use Rattle.native_lowering_definition.specs.Layout.{facts_in}
use Rattle.native_lowering_definition.specs.Locations.{register_of}
use Rattle.native_lowering_definition.specs.Lowering.{lowered}
use Rattle.native_lowering_definition.specs.Operating.{copy, shifts, shifts_tested, operates}
use Rattle.native_lowering_numbers.proofs.Shifts.{count_asks}
use Rattle.native_lowering_relation.specs.Related.{Related}
use Rattle.native_lowering_relation.proofs.Knowing.{knows_at, knows_word}
use Rattle.native_lowering_checked.proofs.Passing.{same_word}
use Rattle.native_lowering_safe_stops.specs.Halting.{Halts, AreDefined}
use Rattle.native_lowering_safe_stops.proofs.Stopping.{test_stops}

module _ (p : Program FunctionData) (s : State) (t : Native) (related : Related p s t) (defined : AreDefined s.here t.registers) where
  abbrev facts : Facts
  facts = facts_in related.named.function s.place

  -- a word that is known is the register's
  pub known_word : (r w : ℕ) → r < 8 → known r facts ≡ Some w → slice_index t.registers r ≡ w
  known_word r w near e =
      same_word (value_at (InRegister r) s.here) (slice_index t.registers r) w (defined r near)
      (knows_word (known r facts) (value_at (InRegister r) s.here) w (knows_at facts.words s.here.registers r related.known.known) e)

  tested : (op : Shifting) (d a b : ℕ) (k : Option ℕ) → b < 8 → nat_le 32 (slice_index t.registers b) ≡ true → known b facts ≡ k → shifts op d a b k ≡ shifts_tested op d a b
  tested op d a b None near many e = refl
  tested op d a b (Some w) near many e = by (nat_lt w 32) refl
    where
      by : (c : Bool) → nat_lt w 32 ≡ c → shifts op d a b (Some w) ≡ shifts_tested op d a b
      by false told = ap (λ c. if c then copy d a ++ n.Shift op (register_of d) w ∷ [] else shifts_tested op d a b) told
      by true told = absurd (omega (arith, ltb-true w 32 told, leb-true 32 (slice_index t.registers b) many, known_word b w near e))

  pub shift_stops : (o : Op) (op : Shifting) (d a b : ℕ) → kind_of o ≡ Shifts op → slice_get related.named.function.code s.place ≡ Some (l.Do (Operate o d (Two a b))) → b < 8
      → nat_le 32 (slice_index t.registers b) ≡ true → Halts (lowered p).functions t
  shift_stops o op d a b kind at near many =
      test_stops p s t related (l.Do (Operate o d (Two a b))) b 32 AboveOrEqual
      (n.Copy Ecx (register_of b) ∷ n.Copy Eax (register_of a) ∷ n.ShiftBy op Eax ∷ n.Copy (register_of d) Eax ∷ []) at
      (ap (λ k. operates k d (Two a b) facts) kind ∙ tested op d a b (known b facts) near many refl) near
      (count_asks (slice_index t.registers b) 32 ∙ many)
