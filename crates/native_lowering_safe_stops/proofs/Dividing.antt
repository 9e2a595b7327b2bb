-- A division that the machine's table has no answer for stops.
use Rattle.std.proofs.Common.{◌≡◌, ℕ, ◌+◌, ◌-◌, ◌<◌, ◌^◌, Bool, true, false, List, [], ◌∷◌, ◌++◌, length, Option, Some, None, refl, sym, ap, ◌∙◌, arith}
use Rattle.std.specs.Prelude.{slice_get, slice_index, slice_set, nat_eq, bit_xor, if◌then◌else◌, ◌==◌, ◌||◌}
use Rattle.std.proofs.lemmas.Bool.{eqb-true, eq-eqb, or_left, or_right}
use Rattle.std.proofs.lemmas.List.{get_or-set_same, get_or-set_other, length-set}
use Rattle.std.proofs.lemmas.Nat.{le_or_r}
use Rattle.ints.specs.declared.operators.Op.{Op}
use Rattle.lang_base.specs.declared.program.Program.{Program}
use Rattle.machine.specs.Frames.{State}
use Rattle.machine.specs.declared.act.Act.TheVariants.{Operate}
use Rattle.machine.specs.declared.arguments.Arguments.TheVariants.{Two}
use Rattle.linear_language.specs.declared.instruction.Instruction.TheVariants as l
use Rattle.linear_language.specs.Function.{FunctionData}
use Rattle.x86_syntax.specs.Registers.{number_of}
use Rattle.x86_syntax.specs.declared.condition.Condition.TheVariants.{Equal}
use Rattle.x86_syntax.specs.declared.instruction.Instruction.TheVariants as n
use Rattle.x86_syntax.specs.declared.operators.Operator.TheVariants as o
use Rattle.x86_syntax.specs.declared.operators.Turning.TheVariants as turn
use Rattle.x86_syntax.specs.declared.register.Register.TheVariants.{Ecx, Edx}
use Rattle.x86_state.specs.State.{State as Native, Stops}
use Rattle.x86_state.specs.Tables.{condition_table, operated, turned, flags_of}
use Rattle.native_lowering_definition.specs.Facts.{Facts, known}
use Rattle.native_lowering_definition.specs.Kinds.{Divides, kind_of}
use Rattle.native_lowering_definition.specs.Layout.{facts_in}
use Rattle.native_lowering_definition.specs.Locations.{register_of}
use Rattle.native_lowering_definition.specs.Lowering.{code_of, lowered}
use Rattle.native_lowering_definition.specs.Operating.{Block, divisor, divides_by_ecx, divided_in, divides_by, operates}
use Rattle.native_lowering_definition.specs.Powers.{power_known}
use Rattle.native_lowering_definition.proofs.Powers.{none_at_zero, none_signed}
use Rattle.native_lowering_numbers.proofs.Quotients.{tested}
use Rattle.native_lowering_relation.specs.Related.{Related}
use Rattle.native_lowering_walks.specs.Walks.{then as onward, walks}
use Rattle.native_lowering_walks.proofs.Straight.{compare_with_below, stop_if_below, copy_below, do_with_below, turn_below, do_below}
use Rattle.native_lowering_runs.proofs.Registers.{number_is}
use Rattle.native_lowering_checked.proofs.Passing.{goes_past}
use Rattle.native_lowering_safe_stops.specs.Halting.{Halts, AreDefined}
use Rattle.native_lowering_safe_stops.proofs.Shifting.{known_word}
use Rattle.native_lowering_safe_stops.proofs.Stopping.{stops_at, block_stops, test_stops}

equal_is : (x y : ℕ) → condition_table Equal x y ≡ nat_eq x y
unfolding condition_table
equal_is x y = refl

module _ (p : Program FunctionData) (s : State) (t : Native) (related : Related p s t) (defined : AreDefined s.here t.registers) where
  abbrev f : FunctionData
  f = related.named.function

  abbrev facts : Facts
  facts = facts_in f s.place

  abbrev word_at : ℕ → ℕ
  word_at r = slice_index t.registers r

  -- the choice where the divisor is known
  abbrev tells : Bool → ℕ → Bool
  tells true w = w == 0 || w == 2 ^ 32 - 1
  tells false w = w == 0

  choice : (signed : Bool) (a b w : ℕ) → divisor signed a b (Some w) ≡ (if tells signed w then divisor signed a b None else n.Set Ecx w ∷ [])
  choice true a b w = refl
  choice false a b w = refl

  -- it is tested where the divisor is one that a test is for
  is_tested : (signed : Bool) (a b : ℕ) (k : Option ℕ) → b < 8 → tells signed (word_at b) ≡ true → known b facts ≡ k → divisor signed a b k ≡ divisor signed a b None
  is_tested signed a b None near told e = refl
  is_tested signed a b (Some w) near told e =
      choice signed a b w
      ∙ ap (λ c. if c then divisor signed a b None else n.Set Ecx w ∷ []) (ap (tells signed) (sym (known_word p s t related defined b w near e)) ∙ told)

  -- and then it is no power of two
  no_power : (signed : Bool) (b : ℕ) (k : Option ℕ) → b < 8 → tells signed (word_at b) ≡ true → known b facts ≡ k → power_known k signed ≡ None
  no_power signed b None near told e = refl
  no_power true b (Some w) near told e = none_signed w (ap (tells true) (sym (known_word p s t related defined b w near e)) ∙ told)
  no_power false b (Some w) near told e = none_at_zero w (ap (tells false) (sym (known_word p s t related defined b w near e)) ∙ told)

  abbrev the_rest : Bool → Bool → ℕ → ℕ → Block
  the_rest signed quotient d a = divides_by_ecx signed a ++ n.Copy (register_of d) (divided_in quotient) ∷ []

  abbrev At : Op → ℕ → ℕ → ℕ → Type 0
  At op d a b = slice_get f.code s.place ≡ Some (l.Do (Operate op d (Two a b)))

  block_is : (op : Op) (signed quotient : Bool) (d a b : ℕ) → kind_of op ≡ Divides signed quotient → b < 8 → tells signed (word_at b) ≡ true
      → operates (kind_of op) d (Two a b) facts ≡ divisor signed a b None ++ the_rest signed quotient d a
  block_is op signed quotient d a b kind near told =
      ap (λ k. operates k d (Two a b) facts) kind
      ∙ ap (λ o. divides_by o signed quotient d a b (known b facts)) (no_power signed b (known b facts) near told refl)
      ∙ ap (λ (b : Block). b ++ the_rest signed quotient d a) (is_tested signed a b (known b facts) near told refl)

  -- by 0
  zero_stops : (op : Op) (signed quotient : Bool) (d a b : ℕ) → kind_of op ≡ Divides signed quotient → At op d a b → b < 8 → nat_eq (word_at b) 0 ≡ true → Halts (lowered p).functions t
  zero_stops op false quotient d a b kind at near none =
      test_stops p s t related (l.Do (Operate op d (Two a b))) b 0 Equal (n.Copy Ecx (register_of b) ∷ the_rest false quotient d a) at
      (block_is op false quotient d a b kind near none) near (equal_is (word_at b) 0 ∙ none)
  zero_stops op true quotient d a b kind at near none =
      test_stops p s t related (l.Do (Operate op d (Two a b))) b 0 Equal
      (n.Copy Ecx (register_of a) ∷ n.DoWith o.Xor Ecx (2 ^ 31) ∷ n.Copy Edx (register_of b) ∷ n.Turn turn.Not Edx ∷ n.Do o.Or Ecx Edx ∷ n.StopIf Equal ∷ n.Copy Ecx (register_of b) ∷ the_rest true quotient d a)
      at (block_is op true quotient d a b kind near (or_left (word_at b == 0) (word_at b == 2 ^ 32 - 1) none)) near (equal_is (word_at b) 0 ∙ none)

  pub unsigned_stops : (op : Op) (quotient : Bool) (d a b : ℕ) → kind_of op ≡ Divides false quotient → At op d a b → b < 8 → nat_eq (word_at b) 0 ≡ true → Halts (lowered p).functions t
  unsigned_stops op quotient d a b kind at near none = zero_stops op false quotient d a b kind at near none

  -- ---- the least `int` by -1

  minus_one : (x y : ℕ) → y < 2 ^ 32 → nat_eq (tested x y) 0 ≡ true → y ≡ 2 ^ 32 - 1
  minus_one x y small e =
      let none : tested x y ≡ 0 = eqb-true (tested x y) 0 e in
      omega (arith, le_or_r (bit_xor x (2 ^ 31)) (2 ^ 32 - 1 - y), none, small)

  -- the instructions up to the second test
  abbrev first : ℕ → ℕ → Block
  first a b =
      n.CompareWith (register_of b) 0 ∷ n.StopIf Equal ∷ n.Copy Ecx (register_of a) ∷ n.DoWith o.Xor Ecx (2 ^ 31)
      ∷ n.Copy Edx (register_of b) ∷ n.Turn turn.Not Edx ∷ n.Do o.Or Ecx Edx ∷ n.StopIf Equal ∷ []

  abbrev behind_test : ℕ → ℕ → Block
  behind_test a b = n.Copy Ecx (register_of a) ∷ n.DoWith o.Xor Ecx (2 ^ 31) ∷ n.Copy Edx (register_of b) ∷ n.Turn turn.Not Edx ∷ n.Do o.Or Ecx Edx ∷ n.StopIf Equal ∷ []

  -- the registers on the way
  abbrev xored : ℕ → List ℕ
  xored x = slice_set (slice_set t.registers 9 x) 9 (operated o.Xor x (2 ^ 31))

  abbrev complemented : ℕ → ℕ → List ℕ
  complemented x y = slice_set (slice_set (xored x) 10 y) 10 (turned turn.Not y)

  least_walks : (a b x y : ℕ) → b < 8 → slice_index t.registers (number_of (register_of a)) ≡ x → word_at b ≡ y → nat_eq y 0 ≡ false → nat_eq (tested x y) 0 ≡ true
      → walks (lowered p).functions None (code_of p f) (first a b) t ≡ Stops
  unfolding number_of condition_table operated turned flags_of
  least_walks a b x y near a_is b_word some least =
      let code = code_of p f in
      let fs = (lowered p).functions in
      let full1 : length (slice_set t.registers 9 x) ≡ 13 = length-set t.registers 9 x ∙ related.holds.thirteen in
      let full2 : length (xored x) ≡ 13 = length-set (slice_set t.registers 9 x) 9 (operated o.Xor x (2 ^ 31)) ∙ full1 in
      let full3 : length (slice_set (xored x) 10 y) ≡ 13 = length-set (xored x) 10 y ∙ full2 in
      let b_is : slice_index t.registers (number_of (register_of b)) ≡ y = ap (slice_index t.registers) (number_is b near) ∙ b_word in
      let ecx_x : slice_index (slice_set t.registers 9 x) 9 ≡ x = get_or-set_same t.registers 9 x 0 (omega (arith, related.holds.thirteen)) in
      let b_again : slice_index (xored x) (number_of (register_of b)) ≡ y =
      ap (slice_index (xored x)) (number_is b near)
      ∙ get_or-set_other (slice_set t.registers 9 x) 9 b (operated o.Xor x (2 ^ 31)) 0 (λ e. omega (arith, e, near))
      ∙ get_or-set_other t.registers 9 b x 0 (λ e. omega (arith, e, near)) ∙ b_word in
      let edx_y : slice_index (slice_set (xored x) 10 y) 10 ≡ y = get_or-set_same (xored x) 10 y 0 (omega (arith, full2)) in
      let edx_not : slice_index (complemented x y) 10 ≡ turned turn.Not y = get_or-set_same (slice_set (xored x) 10 y) 10 (turned turn.Not y) 0 (omega (arith, full3)) in
      let ecx_xor : slice_index (complemented x y) 9 ≡ operated o.Xor x (2 ^ 31) =
      get_or-set_other (slice_set (xored x) 10 y) 10 9 (turned turn.Not y) 0 (λ e. omega (arith, e))
      ∙ get_or-set_other (xored x) 10 9 y 0 (λ e. omega (arith, e))
      ∙ get_or-set_same (slice_set t.registers 9 x) 9 (operated o.Xor x (2 ^ 31)) 0 (omega (arith, full1)) in
      let or_is : operated o.Or (slice_index (complemented x y) 9) (slice_index (complemented x y) 10) ≡ tested x y = λ i. operated o.Or (ecx_xor i) (edx_not i) in
      ap (λ k. walks fs None code (n.StopIf Equal ∷ behind_test a b) (record t { place = t.place + 1; flags = Some (k, 0) })) b_is
      ∙ ap (λ z. onward z (walks fs None code (behind_test a b))) (goes_past fs None code (record t { place = t.place + 1; flags = Some (y, 0) }) Equal y 0 refl some)
      ∙ ap (λ k. walks fs None code (n.DoWith o.Xor Ecx (2 ^ 31) ∷ n.Copy Edx (register_of b) ∷ n.Turn turn.Not Edx ∷ n.Do o.Or Ecx Edx ∷ n.StopIf Equal ∷ [])
      (record t { place = t.place + 1 + 1 + 1; registers = slice_set t.registers 9 k; flags = Some (y, 0) })) a_is
      ∙ ap (λ k. walks fs None code (n.Copy Edx (register_of b) ∷ n.Turn turn.Not Edx ∷ n.Do o.Or Ecx Edx ∷ n.StopIf Equal ∷ [])
      (record t { place = t.place + 1 + 1 + 1 + 1; registers = slice_set (slice_set t.registers 9 x) 9 (operated o.Xor k (2 ^ 31)); flags = Some (operated o.Xor k (2 ^ 31), 0) })) ecx_x
      ∙ ap (λ k. walks fs None code (n.Turn turn.Not Edx ∷ n.Do o.Or Ecx Edx ∷ n.StopIf Equal ∷ [])
      (record t { place = t.place + 1 + 1 + 1 + 1 + 1; registers = slice_set (xored x) 10 k; flags = Some (operated o.Xor x (2 ^ 31), 0) })) b_again
      ∙ ap (λ k. walks fs None code (n.Do o.Or Ecx Edx ∷ n.StopIf Equal ∷ [])
      (record t { place = t.place + 1 + 1 + 1 + 1 + 1 + 1; registers = slice_set (slice_set (xored x) 10 y) 10 (turned turn.Not k); flags = Some (operated o.Xor x (2 ^ 31), 0) })) edx_y
      ∙ ap (λ k. walks fs None code (n.StopIf Equal ∷ [])
      (record t { place = t.place + 1 + 1 + 1 + 1 + 1 + 1 + 1; registers = slice_set (complemented x y) 9 k; flags = Some (k, 0) })) or_is
      ∙ ap (λ z. onward z (walks fs None code []))
      (stops_at fs None code (record t { place = t.place + 1 + 1 + 1 + 1 + 1 + 1 + 1; registers = slice_set (complemented x y) 9 (tested x y); flags = Some (tested x y, 0) }) Equal (tested x y) 0 refl least)

  least_stops : (op : Op) (quotient : Bool) (d a b : ℕ) → kind_of op ≡ Divides true quotient → At op d a b → a < 8 → b < 8 → word_at b < 2 ^ 32
      → nat_eq (word_at b) 0 ≡ false → nat_eq (tested (word_at a) (word_at b)) 0 ≡ true → Halts (lowered p).functions t
  least_stops op quotient d a b kind at near near' small some least =
      let told = or_right (word_at b == 0) (word_at b == 2 ^ 32 - 1) (eq-eqb (word_at b) (2 ^ 32 - 1) (minus_one (word_at a) (word_at b) small least)) in
      block_stops p s t related (l.Do (Operate op d (Two a b))) (first a b) (n.Copy Ecx (register_of b) ∷ the_rest true quotient d a) at (block_is op true quotient d a b kind near' told) (
        compare_with_below (register_of b) 0,
        (
          stop_if_below Equal,
          (
            copy_below Ecx (register_of a),
            (do_with_below o.Xor Ecx (2 ^ 31), (copy_below Edx (register_of b), (turn_below turn.Not Edx, (do_below o.Or Ecx Edx, tt)))),
          ),
        ),
      )
      (least_walks a b (word_at a) (word_at b) near' (ap (slice_index t.registers) (number_is a near)) refl some least)

  pub signed_stops : (op : Op) (quotient : Bool) (d a b : ℕ) → kind_of op ≡ Divides true quotient → At op d a b → a < 8 → b < 8 → word_at b < 2 ^ 32
      → (nat_eq (word_at b) 0 ≡ false → nat_eq (tested (word_at a) (word_at b)) 0 ≡ true) → Halts (lowered p).functions t
  signed_stops op quotient d a b kind at near near' small least = by (nat_eq (word_at b) 0) refl
    where
      by : (c : Bool) → nat_eq (word_at b) 0 ≡ c → Halts (lowered p).functions t
      by true none = zero_stops op true quotient d a b kind at near' none
      by false some = least_stops op quotient d a b kind at near near' small some (least some)
