-- A comparison whose answer is wanted as a word.
use Rattle.std.proofs.Common.{◌≡◌, ℕ, ◌+◌, ◌<◌, Bool, true, false, not, List, [], ◌∷◌, length, Option, Some, None, refl, sym, ap, ◌∙◌, arith}
use Rattle.std.specs.Prelude.{slice_get, slice_index, slice_set, nat_eq}
use Rattle.std.proofs.lemmas.List.{get_or-set_same, length-set}
use Rattle.ints.specs.Words.{flag}
use Rattle.ints.specs.declared.operators.Op.{Op}
use Rattle.lang_base.specs.declared.program.Program.{Program}
use Rattle.locations.specs.declared.location.Location.TheVariants.{InRegister}
use Rattle.machine.specs.Data.{value_at}
use Rattle.machine.specs.Frames.{State}
use Rattle.machine.specs.declared.act.Act.TheVariants.{Operate}
use Rattle.machine.specs.declared.arguments.Arguments.{Arguments}
use Rattle.machine.specs.declared.arguments.Arguments.TheVariants.{One, Two}
use Rattle.linear_language.specs.declared.instruction.Instruction.TheVariants as l
use Rattle.linear_language.specs.Function.{FunctionData}
use Rattle.x86_syntax.specs.Registers.{number_of}
use Rattle.x86_syntax.specs.declared.condition.Condition.{Condition}
use Rattle.x86_syntax.specs.declared.condition.Condition.TheVariants.{Equal}
use Rattle.x86_syntax.specs.declared.instruction.Instruction.{Instruction}
use Rattle.x86_syntax.specs.declared.instruction.Instruction.TheVariants.{CompareWith, Flag}
use Rattle.x86_syntax.specs.declared.register.Register.TheVariants.{Eax}
use Rattle.x86_state.specs.State.{State as Native, Goes, word}
use Rattle.x86_state.specs.Tables.{condition_table, with_low_byte}
use Rattle.x86.specs.Meaning.{instruction_step}
use Rattle.native_lowering_definition.specs.Facts.{known, flag_left, left}
use Rattle.native_lowering_definition.specs.Kinds.{Kind, Compares, AsksZero, kind_of}
use Rattle.native_lowering_definition.specs.Layout.{facts_in}
use Rattle.native_lowering_definition.specs.Lowering.{lowered, code_of}
use Rattle.native_lowering_definition.specs.Locations.{register_of}
use Rattle.native_lowering_definition.specs.Operating.{compare, operates}
use Rattle.native_lowering_relation.specs.Related.{Related}
use Rattle.native_lowering_walks.specs.Walks.{then as onward, walks, GoesBelow}
use Rattle.native_lowering_walks.proofs.Straight.{compare_with_below}
use Rattle.native_lowering_runs.specs.Reaching.{Reaches}
use Rattle.native_lowering_runs.proofs.Registers.{number_is}
use Rattle.native_lowering_moves.proofs.Branches.{compare_straight, compare_goes, defined_word, with_compared}
use Rattle.native_lowering_operators.proofs.Scratched.{not_scratched, one_scratched}
use Rattle.native_lowering_operators.proofs.Written.{written_here, left_with, writes_reaches}

flag_not_zero : (b : Bool) → b ≡ not (nat_eq (flag b) 0)
flag_not_zero true = refl
flag_not_zero false = refl

module _ (p : Program FunctionData) (room : Option ℕ) (s : State) (t : Native) (related : Related p s t) where
  -- eax once a flag has gone through it
  abbrev through : Condition → ℕ → ℕ → List ℕ
  through condition x y = slice_set t.registers 8 (with_low_byte (word Eax t) (flag (condition_table condition x y)))

  flag_goes : (condition : Condition) (d x y : ℕ) → d < 8
      → instruction_step (lowered p).functions room (code_of p related.named.function) (with_compared p room s t related x y) (Some (Flag condition (register_of d)))
      ≡ Goes (left_with p room s t related 2 (Some (x, y)) (through condition x y) d (flag (condition_table condition x y)))
  unfolding number_of
  flag_goes condition d x y near =
      let two : t.place + 1 + 1 ≡ t.place + 2 = omega arith in
      λ i. Goes (record t { place = two i; flags = Some (x, y); registers = slice_set (through condition x y) (number_is d near i) (flag (condition_table condition x y)) })

  -- a comparison, which leaves these to be asked of, and the flag
  asked_reaches : (o : Op) (arguments : Arguments) (condition : Condition) (first : Instruction) (d x y : ℕ)
      → slice_get related.named.function.code s.place ≡ Some (l.Do (Operate o d arguments)) → d < 8
      → operates (kind_of o) d arguments (facts_in related.named.function s.place) ≡ first ∷ Flag condition (register_of d) ∷ []
      → flag_left (kind_of o) arguments d (facts_in related.named.function s.place) ≡ Some (d, condition) → GoesBelow first
      → instruction_step (lowered p).functions room (code_of p related.named.function) t (Some first) ≡ Goes (with_compared p room s t related x y)
      → Reaches p room (record s { place = s.place + 1; here = written_here p room s t related d (flag (condition_table condition x y)) }) t
  asked_reaches o arguments condition first d x y at near is_it behind below goes =
      let f = related.named.function in
      let w = flag (condition_table condition x y) in
      let words = through condition x y in
      writes_reaches p room s t related (l.Do (Operate o d arguments)) (first ∷ Flag condition (register_of d) ∷ []) 1 d w (Some (d, condition)) (Some (x, y)) words (record {
        at = at;
        is_it = is_it;
        count = refl;
        target = refl;
        leaves = ap (λ k. left d k (facts_in f s.place)) behind;
        straight = (below, tt);
        scratch = one_scratched f s.here.registers s.here.slots related.held t.registers t.registers 8 (with_low_byte (word Eax t) w) (omega arith)
            (not_scratched f s.here.registers s.here.slots related.held t.registers related.holds);
        answers = flag_not_zero (condition_table condition x y)
            ∙ ap (λ n. not (nat_eq n 0)) (sym (get_or-set_same words d w 0 (omega (arith, near, related.holds.thirteen, length-set t.registers 8 (with_low_byte (word Eax t) w)))));
        walk = ap (λ z. onward z (walks (lowered p).functions room (code_of p f) (Flag condition (register_of d) ∷ []))) goes
            ∙ ap (λ z. onward z (walks (lowered p).functions room (code_of p f) [])) (flag_goes condition d x y near);
      })

  pub compares_reaches : (o : Op) (condition : Condition) (d a b x y : ℕ) → kind_of o ≡ Compares condition
      → slice_get related.named.function.code s.place ≡ Some (l.Do (Operate o d (Two a b))) → d < 8 → a < 8 → b < 8
      → value_at (InRegister a) s.here ≡ Some x → value_at (InRegister b) s.here ≡ Some y
      → Reaches p room (record s { place = s.place + 1; here = written_here p room s t related d (flag (condition_table condition x y)) }) t
  compares_reaches o condition d a b x y kind at near near' near'' left_is right_is =
      let facts = facts_in related.named.function s.place in
      asked_reaches o (Two a b) condition (compare a b (known b facts)) d x y at near
      (ap (λ k. operates k d (Two a b) facts) kind) (ap (λ k. flag_left k (Two a b) d facts) kind) (compare_straight a b (known b facts))
      (compare_goes p room s t related a b x y (known b facts) right_is refl (defined_word p room s t related a x near' left_is) (defined_word p room s t related b y near'' right_is))

  pub asks_zero_reaches : (o : Op) (d a x : ℕ) → kind_of o ≡ AsksZero → slice_get related.named.function.code s.place ≡ Some (l.Do (Operate o d (One a)))
      → d < 8 → a < 8 → value_at (InRegister a) s.here ≡ Some x
      → Reaches p room (record s { place = s.place + 1; here = written_here p room s t related d (flag (condition_table Equal x 0)) }) t
  asks_zero_reaches o d a x kind at near near' defined =
      let facts = facts_in related.named.function s.place in
      asked_reaches o (One a) Equal (CompareWith (register_of a) 0) d x 0 at near
      (ap (λ k. operates k d (One a) facts) kind) (ap (λ k. flag_left k (One a) d facts) kind) (compare_with_below (register_of a) 0)
      (ap (λ n. Goes (with_compared p room s t related n 0)) (defined_word p room s t related a x near' defined))
