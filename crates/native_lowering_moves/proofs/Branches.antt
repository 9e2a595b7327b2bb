-- A branch is a comparison and a jump, or a jump alone where the flags tell already.
use Rattle.std.proofs.Common.{◌≡◌, ℕ, suc, ◌+◌, ◌<◌, Bool, true, false, not, [], ◌∷◌, length, Option, Some, None, refl, sym, ap, subst, ◌∙◌, arith}
use Rattle.std.specs.Prelude.{slice_get, slice_index, nat_eq}
use Rattle.std.specs.Option.{option_map}
use Rattle.std.proofs.lemmas.Bool.{eqb-true}
use Rattle.ints.specs.CondTable.{cond_table}
use Rattle.ints.specs.Conditions.{cond_argument_count_of}
use Rattle.ints.specs.declared.conditions.Cond.{Cond}
use Rattle.ints.specs.declared.conditions.Cond.TheVariants.{Nz, Eq, Ne, LtS, LtU, LeS, LeU}
use Rattle.lang_base.specs.declared.program.Program.{Program}
use Rattle.locations.specs.declared.location.Location.TheVariants.{InRegister}
use Rattle.machine.specs.Acts.{holds}
use Rattle.machine.specs.Data.{value_at}
use Rattle.machine.specs.Fits.{TestFits, ArgumentsFit}
use Rattle.machine.specs.Frames.{State}
use Rattle.machine.specs.declared.arguments.Arguments.{Arguments}
use Rattle.machine.specs.declared.arguments.Arguments.TheVariants.{One, Two}
use Rattle.machine.specs.declared.test.Test.{Test}
use Rattle.linear_language.specs.declared.instruction.Instruction.TheVariants as l
use Rattle.linear_language.specs.Function.{FunctionData}
use Rattle.linear_language.specs.Labels.{place_of}
use Rattle.x86_syntax.specs.declared.condition.Condition.{Condition}
use Rattle.x86_syntax.specs.declared.condition.Condition.TheVariants.{NotEqual}
use Rattle.x86_syntax.specs.declared.instruction.Instruction.{Instruction as NativeInstruction}
use Rattle.x86_syntax.specs.declared.instruction.Instruction.TheVariants.{CompareWith}
use Rattle.x86_state.specs.State.{State as Native, Step, Goes, word}
use Rattle.x86_state.specs.Tables.{condition_table}
use Rattle.x86.specs.Meaning.{instruction_step}
use Rattle.native_lowering_definition.specs.Blocks.{block, branches, jumps_if}
use Rattle.native_lowering_definition.specs.Facts.{Facts, known, answered_for, answer_of, condition_if, after_test}
use Rattle.native_lowering_definition.specs.Frames.{frame_of}
use Rattle.native_lowering_definition.specs.Kinds.{condition_of}
use Rattle.native_lowering_definition.specs.Layout.{facts_in, place_in}
use Rattle.native_lowering_definition.specs.Lowering.{around_of, lowered, code_of}
use Rattle.native_lowering_definition.specs.Locations.{register_of}
use Rattle.native_lowering_definition.specs.Operating.{Block, compare}
use Rattle.native_lowering_numbers.proofs.Asked.{not_zero_branches}
use Rattle.native_lowering_relation.specs.Knowing.{Answers, IsSo}
use Rattle.native_lowering_relation.specs.Related.{Related}
use Rattle.native_lowering_relation.proofs.Agreeing.{agree_at, word_is}
use Rattle.native_lowering_relation.proofs.Knowing.{knows_at, knows_word, so_without}
use Rattle.native_lowering_walks.specs.Walks.{then as onward, steps, walks, GoesBelow}
use Rattle.native_lowering_walks.proofs.Straight.{compare_below, compare_with_below}
use Rattle.native_lowering_runs.specs.Reaching.{Reaches}
use Rattle.native_lowering_runs.proofs.Below.{goes_below, goes_to_label}
use Rattle.native_lowering_runs.proofs.Blocks.{block_runs}
use Rattle.native_lowering_runs.proofs.Places.{branch_names}
use Rattle.native_lowering_runs.proofs.Registers.{word_is_at}
use Rattle.native_lowering_runs.proofs.Saved.{or_same}
use Rattle.native_lowering_moves.proofs.Asking.{one_word, two_words, asks, tests_two, two_not_known, asks_one}
use Rattle.native_lowering_moves.proofs.Jumps.{taken_goes, below_goes}

pub compare_straight : (a b : ℕ) (o : Option ℕ) → GoesBelow (compare a b o)
compare_straight a b None = compare_below (register_of a) (register_of b)
compare_straight a b (Some w) = compare_with_below (register_of a) w

module _ (p : Program FunctionData) (room : Option ℕ) (s : State) (t : Native) (related : Related p s t) where
  abbrev f : FunctionData
  f = related.named.function

  abbrev facts : Facts
  facts = facts_in f s.place

  abbrev steps_on : Native → Option NativeInstruction → Step
  steps_on = instruction_step (lowered p).functions room (code_of p f)

  -- the state once these were compared
  abbrev pub with_compared : ℕ → ℕ → Native
  with_compared x y = record t { place = t.place + 1; flags = Some (x, y) }

  -- a defined word is in its register
  pub defined_word : (r x : ℕ) → r < 8 → value_at (InRegister r) s.here ≡ Some x → word (register_of r) t ≡ x
  defined_word r x near e = word_is_at r t.registers near ∙ word_is (value_at (InRegister r) s.here) (slice_index t.registers r) x (agree_at s.here.registers t.registers r related.holds.agree) e

  pub compare_goes : (a b x y : ℕ) (o : Option ℕ) → (value_at (InRegister b) s.here ≡ Some y) → known b facts ≡ o → word (register_of a) t ≡ x → word (register_of b) t ≡ y
      → steps_on t (Some (compare a b o)) ≡ Goes (with_compared x y)
  compare_goes a b x y None defined e left right = λ i. Goes (with_compared (left i) (right i))
  compare_goes a b x y (Some w) defined e left right =
      let so : value_at (InRegister b) s.here ≡ Some w = knows_word (known b facts) (value_at (InRegister b) s.here) w (knows_at facts.words s.here.registers b related.known.known) e in
      let same : w ≡ y = cc in
      λ i. Goes (with_compared (left i) (same i))

  -- ---- where the branch leads

  abbrev Leads : Bool → ℕ → ℕ → Type 0
  Leads true label m = place_of label f.code ≡ Some m
  Leads false label m = m ≡ s.place + 1

  abbrev To : ℕ → Type 0
  To m = Reaches p room (record s { place = m; here = s.here }) t

  -- the steps are done, and the flags tell of something
  abbrev behind : Option (ℕ × ℕ) → ℕ → Native
  behind flags place = record t { place = place; flags = flags }

  taken_reaches : (test : Test) (label m more : ℕ) (flags : Option (ℕ × ℕ)) → slice_get f.code s.place ≡ Some (l.Branch test label) → place_of label f.code ≡ Some m
      → steps (lowered p).functions room (suc more) t ≡ Goes (behind flags (place_in p f m)) → To m
  taken_reaches test label m more flags at there go = record {
    more = more;
    to = behind flags (place_in p f m);
    go = go;
    related = goes_to_label p s t related (l.Branch test label) label m (behind flags (place_in p f m)) at (branch_names test label) there refl;
  }

  below_reaches : (test : Test) (label more : ℕ) (b : Block) (flags : Option (ℕ × ℕ)) → slice_get f.code s.place ≡ Some (l.Branch test label)
      → block (around_of p f) facts (l.Branch test label) ≡ b → length b ≡ suc more
      → IsSo (after_test (answered_for test.condition test.arguments facts) facts) s.here.registers flags t.registers
      → steps (lowered p).functions room (suc more) t ≡ Goes (behind flags (t.place + suc more)) → To (s.place + 1)
  below_reaches test label more b flags at is_it count known go = record {
    more = more;
    to = behind flags (t.place + suc more);
    go = go;
    related = goes_below p s t related (l.Branch test label) b s.here (behind flags (t.place + suc more)) related.held (record {
      at = at;
      is_it = is_it;
      function = refl;
      place = ap (λ n. t.place + n) (sym count);
      globals = related.globals;
      output = related.output;
      stands = related.stands;
      saved = refl;
      holds = related.holds;
      known = known;
      kept = or_same (frame_of f).saved t.registers t.registers refl;
    });
  }

  there : slice_get p.functions t.function ≡ Some related.named
  there = ap (slice_get p.functions) related.function ∙ related.there

  -- ---- a comparison and a jump

  compared_reaches : (test : Test) (condition : Condition) (a b x y label m : ℕ) (o : Option ℕ) (first : NativeInstruction) (answer : Bool)
      → slice_get f.code s.place ≡ Some (l.Branch test label) → answered_for test.condition test.arguments facts ≡ None
      → block (around_of p f) facts (l.Branch test label) ≡ first ∷ jumps_if (around_of p f) condition label ∷ []
      → GoesBelow first → steps_on t (Some first) ≡ Goes (with_compared x y) → condition_table condition x y ≡ answer → Leads answer label m → To m
  compared_reaches test condition a b x y label m o first true at unknown is_it below goes holds leads =
      let blk = first ∷ jumps_if (around_of p f) condition label ∷ [] in
      let u = with_compared x y in
      taken_reaches test label m 1 (Some (x, y)) at leads
      (block_runs p related.named room s.place (l.Branch test label) blk t (Goes (behind (Some (x, y)) (place_in p f m))) there at related.place is_it (below, tt)
      (ap (λ z. onward z (walks (lowered p).functions room (code_of p f) (jumps_if (around_of p f) condition label ∷ []))) goes
      ∙ ap (λ z. onward z (walks (lowered p).functions room (code_of p f) [])) (taken_goes p room f condition label m u (ap (λ z. Some z) holds) leads)))
  compared_reaches test condition a b x y label m o first false at unknown is_it below goes holds leads =
      let blk = first ∷ jumps_if (around_of p f) condition label ∷ [] in
      let u = with_compared x y in
      subst To (sym leads)
      (below_reaches test label 1 blk (Some (x, y)) at is_it refl
      (subst (λ z. IsSo (after_test z facts) s.here.registers (Some (x, y)) t.registers) (sym unknown)
      (so_without facts s.here.registers t.flags (Some (x, y)) t.registers t.registers related.known))
      (block_runs p related.named room s.place (l.Branch test label) blk t (Goes (behind (Some (x, y)) (t.place + 2))) there at related.place is_it (below, tt)
      (ap (λ z. onward z (walks (lowered p).functions room (code_of p f) (jumps_if (around_of p f) condition label ∷ []))) goes
      ∙ ap (λ z. onward z (walks (lowered p).functions room (code_of p f) [])) (below_goes p room f condition label u (ap (λ z. Some z) holds))
      ∙ ap (λ n. Goes (behind (Some (x, y)) n)) (omega arith))))

  -- ---- a jump alone

  known_reaches : (test : Test) (condition : Condition) (label m : ℕ) (q : ℕ × ℕ) (answer : Bool)
      → slice_get f.code s.place ≡ Some (l.Branch test label) → answered_for test.condition test.arguments facts ≡ Some condition
      → block (around_of p f) facts (l.Branch test label) ≡ jumps_if (around_of p f) condition label ∷ []
      → t.flags ≡ Some q → condition_table condition q.0 q.1 ≡ answer → Leads answer label m → To m
  known_reaches test condition label m q true at answered_it is_it flags holds leads =
      taken_reaches test label m 0 t.flags at leads
      (block_runs p related.named room s.place (l.Branch test label) (jumps_if (around_of p f) condition label ∷ []) t (Goes (behind t.flags (place_in p f m))) there at related.place is_it tt
      (ap (λ z. onward z (walks (lowered p).functions room (code_of p f) [])) (taken_goes p room f condition label m t
      (ap (option_map (λ (r : ℕ × ℕ). condition_table condition r.0 r.1)) flags ∙ ap (λ z. Some z) holds) leads)))
  known_reaches test condition label m q false at answered_it is_it flags holds leads =
      subst To (sym leads)
      (below_reaches test label 0 (jumps_if (around_of p f) condition label ∷ []) t.flags at is_it refl
      (subst (λ z. IsSo (after_test z facts) s.here.registers t.flags t.registers) (sym answered_it) related.known)
      (block_runs p related.named room s.place (l.Branch test label) (jumps_if (around_of p f) condition label ∷ []) t (Goes (behind t.flags (t.place + 1))) there at related.place is_it tt
      (ap (λ z. onward z (walks (lowered p).functions room (code_of p f) [])) (below_goes p room f condition label t
      (ap (option_map (λ (r : ℕ × ℕ). condition_table condition r.0 r.1)) flags ∙ ap (λ z. Some z) holds)))))

  -- ---- of two words, of one

  two_reaches : (c : Cond) (a b label m : ℕ) (answer : Bool) → slice_get f.code s.place ≡ Some (l.Branch (record { condition = c; arguments = Two a b }) label)
      → cond_argument_count_of c ≡ 2 → a < 8 → b < 8 → holds (record { condition = c; arguments = Two a b }) s.here ≡ Some answer → Leads answer label m → To m
  two_reaches c a b label m answer at two near near' held leads =
      let words = two_words c (value_at (InRegister a) s.here) (value_at (InRegister b) s.here) answer held in
      let x = words.0 in
      let y = words.1 in
      let none = two_not_known c a b facts in
      compared_reaches (record { condition = c; arguments = Two a b }) (condition_of c) a b x y label m (known b facts) (compare a b (known b facts)) answer at none
      (ap (branches (around_of p f) facts c (Two a b) label) none ∙ tests_two (around_of p f) facts c a b label two)
      (compare_straight a b (known b facts))
      (compare_goes a b x y (known b facts) words.3 refl (defined_word a x near words.2) (defined_word b y near' words.3))
      (sym (asks c x y two) ∙ words.4) leads

  nz : (x : ℕ) (answer : Bool) → cond_table Nz (x ∷ []) ≡ answer → not (nat_eq x 0) ≡ answer
  unfolding cond_table
  nz x answer e = e

  not_known : (r x label m : ℕ) (answer : Bool) → slice_get f.code s.place ≡ Some (l.Branch (record { condition = Nz; arguments = One r }) label)
      → r < 8 → value_at (InRegister r) s.here ≡ Some x → cond_table Nz (x ∷ []) ≡ answer → Leads answer label m → answered_for Nz (One r) facts ≡ None → To m
  not_known r x label m answer at near defined asks_it leads none =
      compared_reaches (record { condition = Nz; arguments = One r }) NotEqual r r x 0 label m None (CompareWith (register_of r) 0) answer at none
      (ap (branches (around_of p f) facts Nz (One r) label) none) (compare_with_below (register_of r) 0)
      (ap (λ n. Goes (with_compared n 0)) (defined_word r x near defined))
      (sym (not_zero_branches x) ∙ asks_it) leads

  -- the flags tell already whether the register is not 0
  flag_reaches : (r x label m : ℕ) (answer : Bool) (o : Option (ℕ × Condition)) (flags : Option (ℕ × ℕ)) → slice_get f.code s.place ≡ Some (l.Branch (record { condition = Nz; arguments = One r }) label)
      → r < 8 → value_at (InRegister r) s.here ≡ Some x → cond_table Nz (x ∷ []) ≡ answer → Leads answer label m → facts.flag ≡ o → t.flags ≡ flags → Answers o flags t.registers → To m
  flag_reaches r x label m answer None flags at near defined asks_it leads e g answers = not_known r x label m answer at near defined asks_it leads (ap (answer_of r) e)
  flag_reaches r x label m answer (Some q) None at near defined asks_it leads e g answers = absurd answers
  flag_reaches r x label m answer (Some q) (Some w) at near defined asks_it leads e g answers = by (nat_eq q.0 r) refl
    where
      by : (b : Bool) → nat_eq q.0 r ≡ b → To m
      by false apart = not_known r x label m answer at near defined asks_it leads (ap (answer_of r) e ∙ ap (λ b. condition_if b q.1) apart)
      by true same =
          let it : answered_for Nz (One r) facts ≡ Some q.1 = ap (answer_of r) e ∙ ap (λ b. condition_if b q.1) same in
          let here : q.0 ≡ r = eqb-true q.0 r same in
          let value : slice_index t.registers r ≡ x = sym (word_is_at r t.registers near) ∙ defined_word r x near defined in
          known_reaches (record { condition = Nz; arguments = One r }) q.1 label m w answer at it (ap (branches (around_of p f) facts Nz (One r) label) it) g
          (answers ∙ ap (λ n. not (nat_eq (slice_index t.registers n) 0)) here ∙ ap (λ n. not (nat_eq n 0)) value ∙ nz x answer asks_it) leads

  one_reaches : (c : Cond) (r label m : ℕ) (answer : Bool) → c ≡ Nz → slice_get f.code s.place ≡ Some (l.Branch (record { condition = c; arguments = One r }) label)
      → r < 8 → holds (record { condition = c; arguments = One r }) s.here ≡ Some answer → Leads answer label m → To m
  one_reaches Nz r label m answer is_nz at near held leads =
      let word = one_word Nz (value_at (InRegister r) s.here) answer held in
      flag_reaches r word.0 label m answer facts.flag t.flags at near word.1 word.2 leads refl refl related.known.answers
  one_reaches Eq r label m answer is_nz at near held leads = cc
  one_reaches Ne r label m answer is_nz at near held leads = cc
  one_reaches LtS r label m answer is_nz at near held leads = cc
  one_reaches LtU r label m answer is_nz at near held leads = cc
  one_reaches LeS r label m answer is_nz at near held leads = cc
  one_reaches LeU r label m answer is_nz at near held leads = cc

  with_arguments : (c : Cond) (arguments : Arguments) (label m : ℕ) (answer : Bool) → slice_get f.code s.place ≡ Some (l.Branch (record { condition = c; arguments = arguments }) label)
      → ArgumentsFit (cond_argument_count_of c) arguments → holds (record { condition = c; arguments = arguments }) s.here ≡ Some answer → Leads answer label m → To m
  with_arguments c (One r) label m answer at fits held leads = one_reaches c r label m answer (asks_one c fits.0) at fits.1 held leads
  with_arguments c (Two a b) label m answer at fits held leads = two_reaches c a b label m answer at fits.0 fits.1 fits.2 held leads

  pub branch_reaches : (test : Test) (label m : ℕ) (answer : Bool) → slice_get f.code s.place ≡ Some (l.Branch test label) → TestFits test → holds test s.here ≡ Some answer → Leads answer label m → To m
  branch_reaches test label m answer at fits held leads = with_arguments test.condition test.arguments label m answer at fits held leads
