-- A jump to a label that is missing stops where it is taken, and a call of a function that is missing or takes another number of arguments.
use Rattle.std.proofs.Common.{◌≡◌, ℕ, ◌+◌, ◌<◌, Bool, true, false, List, [], ◌∷◌, ◌++◌, length, Option, Some, None, refl, sym, ap, ◌∙◌}
use Rattle.std.specs.Prelude.{slice_get, slice_index, nat_eq, not, if◌then◌else◌, ◌==◌}
use Rattle.std.specs.Option.{option_map, is_some}
use Rattle.std.proofs.lemmas.Bool.{eqb-true}
use Rattle.ints.specs.CondTable.{cond_table}
use Rattle.ints.specs.Conditions.{cond_argument_count_of}
use Rattle.ints.specs.declared.conditions.Cond.{Cond}
use Rattle.ints.specs.declared.conditions.Cond.TheVariants.{Nz, Eq, Ne, LtS, LtU, LeS, LeU}
use Rattle.lang_base.specs.declared.program.Named.{Named}
use Rattle.lang_base.specs.declared.program.Program.{Program}
use Rattle.locations.specs.declared.location.Location.{Location}
use Rattle.machine.specs.Fits.{ArgumentsFit}
use Rattle.machine.specs.Frames.{State}
use Rattle.machine.specs.declared.arguments.Arguments.{Arguments}
use Rattle.machine.specs.declared.arguments.Arguments.TheVariants.{One, Two}
use Rattle.linear_language.specs.Labels.{place_of}
use Rattle.linear_language.specs.declared.instruction.Instruction.TheVariants as l
use Rattle.linear_language.specs.Function.{FunctionData}
use Rattle.x86_syntax.specs.declared.condition.Condition.{Condition}
use Rattle.x86_syntax.specs.declared.condition.Condition.TheVariants.{NotEqual}
use Rattle.x86_syntax.specs.declared.instruction.Instruction.{Instruction as NativeInstruction}
use Rattle.x86_syntax.specs.declared.instruction.Instruction.TheVariants.{CompareWith, Call, Jump, JumpIf, Stop, StopIf}
use Rattle.x86_state.specs.State.{State as Native, Step, Goes, Stops}
use Rattle.x86_state.specs.Tables.{condition_table}
use Rattle.x86.specs.Meaning.{instruction_step}
use Rattle.native_lowering_definition.specs.Blocks.{Around, branches, calls_as, gets, jumps_if}
use Rattle.native_lowering_definition.specs.Facts.{Facts, known, answer_of, answered_for, condition_if}
use Rattle.native_lowering_definition.specs.Frames.{frame_of}
use Rattle.native_lowering_definition.specs.Kinds.{condition_of}
use Rattle.native_lowering_definition.specs.Layout.{facts_in}
use Rattle.native_lowering_definition.specs.Locations.{register_of}
use Rattle.native_lowering_definition.specs.Lowering.{around_of, code_of, lowered}
use Rattle.native_lowering_definition.specs.Moving.{passes}
use Rattle.native_lowering_definition.specs.Operating.{compare}
use Rattle.native_lowering_numbers.proofs.Asked.{not_zero_branches}
use Rattle.native_lowering_relation.specs.Knowing.{Answers}
use Rattle.native_lowering_relation.specs.Related.{Related}
use Rattle.native_lowering_walks.specs.Walks.{then as onward, walks, GoesBelow}
use Rattle.native_lowering_walks.proofs.Straight.{compare_with_below}
use Rattle.native_lowering_runs.proofs.Registers.{word_is_at}
use Rattle.native_lowering_moves.proofs.Asking.{asks, asks_one, tests_two, two_not_known}
use Rattle.native_lowering_moves.proofs.Branches.{compare_straight}
use Rattle.native_lowering_safe_stops.specs.Halting.{Halts, AreDefined}
use Rattle.native_lowering_safe_stops.proofs.Shifting.{known_word}
use Rattle.native_lowering_safe_stops.proofs.Stopping.{stops_at, block_stops, stop_stops}

module _ (p : Program FunctionData) (s : State) (t : Native) (related : Related p s t) where
  abbrev f : FunctionData
  f = related.named.function

  abbrev around : Around
  around = around_of p f

  abbrev facts : Facts
  facts = facts_in f s.place

  abbrev step_at : Native → Option NativeInstruction → Step
  step_at = instruction_step (lowered p).functions None (code_of p f)

  -- ---- jumps

  pub goto_stops : (label : ℕ) → slice_get f.code s.place ≡ Some (l.Goto label) → place_of label f.code ≡ None → Halts (lowered p).functions t
  goto_stops label at missing =
      stop_stops p s t related (l.Goto label) at (ap (λ b. (if b then Jump label else Stop) ∷ []) (ap is_some missing))

  jump_stops : (condition : Condition) (label : ℕ) (v : Native) (x y : ℕ) → place_of label f.code ≡ None → v.flags ≡ Some (x, y) → condition_table condition x y ≡ true
      → step_at v (Some (jumps_if around condition label)) ≡ Stops
  jump_stops condition label v x y missing flags holds =
      ap (λ b. step_at v (Some (if b then JumpIf condition label else StopIf condition))) (ap is_some missing)
      ∙ stops_at (lowered p).functions None (code_of p f) v condition x y flags holds

  -- ---- calls

  pub call_stops : (callee : ℕ) (arguments : List Location) (target : Option Location) (o : Option (Named FunctionData)) → slice_get f.code s.place ≡ Some (l.Call callee arguments target)
      → slice_get p.functions callee ≡ o → ((g : Named FunctionData) → o ≡ Some g → (length arguments == length g.function.parameters) ≡ false) → Halts (lowered p).functions t
  call_stops callee arguments target None at there other =
      stop_stops p s t related (l.Call callee arguments target) at
      (ap (λ q. calls_as (frame_of f) callee arguments target (option_map (λ (g : Named FunctionData). length g.function.parameters) q)) there)
  call_stops callee arguments target (Some g) at there other =
      stop_stops p s t related (l.Call callee arguments target) at
      (ap (λ q. calls_as (frame_of f) callee arguments target (option_map (λ (g : Named FunctionData). length g.function.parameters) q)) there
      ∙ ap (λ b. if b then passes (frame_of f) arguments ++ Call callee ∷ gets (frame_of f) target else Stop ∷ []) (other g refl))

  -- ---- branches

  module _ (defined : AreDefined s.here t.registers) where
    abbrev with_compared : ℕ → ℕ → Native
    with_compared x y = record t { place = t.place + 1; flags = Some (x, y) }

    -- a comparison and a jump
    compared_stops : (c : Cond) (arguments : Arguments) (condition : Condition) (label x y : ℕ) (first : NativeInstruction) → slice_get f.code s.place ≡ Some (l.Branch (record { condition = c; arguments = arguments }) label)
        → place_of label f.code ≡ None → branches around facts c arguments label (answered_for c arguments facts) ≡ first ∷ jumps_if around condition label ∷ [] → GoesBelow first
        → step_at t (Some first) ≡ Goes (with_compared x y) → condition_table condition x y ≡ true → Halts (lowered p).functions t
    compared_stops c arguments condition label x y first at missing is_it below goes holds =
        block_stops p s t related (l.Branch (record { condition = c; arguments = arguments }) label) (first ∷ jumps_if around condition label ∷ []) [] at is_it (below, tt)
        (ap (λ z. onward z (walks (lowered p).functions None (code_of p f) (jumps_if around condition label ∷ []))) goes
        ∙ ap (λ z. onward z (walks (lowered p).functions None (code_of p f) [])) (jump_stops condition label (with_compared x y) x y missing refl holds))

    compare_goes : (a b : ℕ) (k : Option ℕ) → a < 8 → b < 8 → known b facts ≡ k → step_at t (Some (compare a b k)) ≡ Goes (with_compared (slice_index t.registers a) (slice_index t.registers b))
    compare_goes a b None near near' e = λ i. Goes (with_compared (word_is_at a t.registers near i) (word_is_at b t.registers near' i))
    compare_goes a b (Some w) near near' e = λ i. Goes (with_compared (word_is_at a t.registers near i) (sym (known_word p s t related defined b w near' e) i))

    two_stops : (c : Cond) (a b label : ℕ) → slice_get f.code s.place ≡ Some (l.Branch (record { condition = c; arguments = Two a b }) label) → place_of label f.code ≡ None
        → cond_argument_count_of c ≡ 2 → a < 8 → b < 8 → cond_table c (slice_index t.registers a ∷ slice_index t.registers b ∷ []) ≡ true → Halts (lowered p).functions t
    two_stops c a b label at missing two near near' held =
        let x = slice_index t.registers a in
        let y = slice_index t.registers b in
        compared_stops c (Two a b) (condition_of c) label x y (compare a b (known b facts)) at missing
        (ap (branches around facts c (Two a b) label) (two_not_known c a b facts) ∙ tests_two around facts c a b label two)
        (compare_straight a b (known b facts)) (compare_goes a b (known b facts) near near' refl) (sym (asks c x y two) ∙ held)

    nz : (x : ℕ) → cond_table Nz (x ∷ []) ≡ true → not (nat_eq x 0) ≡ true
    unfolding cond_table
    nz x held = held

    not_known : (r label : ℕ) → slice_get f.code s.place ≡ Some (l.Branch (record { condition = Nz; arguments = One r }) label) → place_of label f.code ≡ None → r < 8
        → cond_table Nz (slice_index t.registers r ∷ []) ≡ true → answered_for Nz (One r) facts ≡ None → Halts (lowered p).functions t
    not_known r label at missing near held none =
        let x = slice_index t.registers r in
        compared_stops Nz (One r) NotEqual label x 0 (CompareWith (register_of r) 0) at missing
        (ap (branches around facts Nz (One r) label) none) (compare_with_below (register_of r) 0)
        (ap (λ k. Goes (with_compared k 0)) (word_is_at r t.registers near)) (sym (not_zero_branches x) ∙ held)

    -- the flags tell already
    flag_stops : (r label : ℕ) (o : Option (ℕ × Condition)) (flags : Option (ℕ × ℕ)) → slice_get f.code s.place ≡ Some (l.Branch (record { condition = Nz; arguments = One r }) label) → place_of label f.code ≡ None → r < 8
        → cond_table Nz (slice_index t.registers r ∷ []) ≡ true → facts.flag ≡ o → t.flags ≡ flags → Answers o flags t.registers → Halts (lowered p).functions t
    flag_stops r label None flags at missing near held e g answers = not_known r label at missing near held (ap (answer_of r) e)
    flag_stops r label (Some q) None at missing near held e g answers = absurd answers
    flag_stops r label (Some q) (Some w) at missing near held e g answers = by (nat_eq q.0 r) refl
      where
        by : (b : Bool) → nat_eq q.0 r ≡ b → Halts (lowered p).functions t
        by false apart = not_known r label at missing near held (ap (answer_of r) e ∙ ap (λ b. condition_if b q.1) apart)
        by true same =
            let it : answered_for Nz (One r) facts ≡ Some q.1 = ap (answer_of r) e ∙ ap (λ b. condition_if b q.1) same in
            block_stops p s t related (l.Branch (record { condition = Nz; arguments = One r }) label) (jumps_if around q.1 label ∷ []) [] at (ap (branches around facts Nz (One r) label) it) tt
            (ap (λ z. onward z (walks (lowered p).functions None (code_of p f) []))
            (jump_stops q.1 label t w.0 w.1 missing g (answers ∙ ap (λ k. not (nat_eq (slice_index t.registers k) 0)) (eqb-true q.0 r same) ∙ nz (slice_index t.registers r) held)))

    one_stops : (c : Cond) (r label : ℕ) → c ≡ Nz → slice_get f.code s.place ≡ Some (l.Branch (record { condition = c; arguments = One r }) label) → place_of label f.code ≡ None → r < 8
        → cond_table c (slice_index t.registers r ∷ []) ≡ true → Halts (lowered p).functions t
    one_stops Nz r label is_nz at missing near held = flag_stops r label facts.flag t.flags at missing near held refl refl related.known.answers
    one_stops Eq r label is_nz at missing near held = cc
    one_stops Ne r label is_nz at missing near held = cc
    one_stops LtS r label is_nz at missing near held = cc
    one_stops LtU r label is_nz at missing near held = cc
    one_stops LeS r label is_nz at missing near held = cc
    one_stops LeU r label is_nz at missing near held = cc

    -- the words that a test is of
    abbrev pub asked_words : Arguments → List ℕ
    asked_words (One r) = slice_index t.registers r ∷ []
    asked_words (Two a b) = slice_index t.registers a ∷ slice_index t.registers b ∷ []

    pub branch_stops : (c : Cond) (arguments : Arguments) (label : ℕ) → slice_get f.code s.place ≡ Some (l.Branch (record { condition = c; arguments = arguments }) label) → place_of label f.code ≡ None
        → ArgumentsFit (cond_argument_count_of c) arguments → cond_table c (asked_words arguments) ≡ true → Halts (lowered p).functions t
    branch_stops c (One r) label at missing fits held = one_stops c r label (asks_one c fits.0) at missing fits.1 held
    branch_stops c (Two a b) label at missing fits held = two_stops c a b label at missing fits.0 fits.1 fits.2 held
