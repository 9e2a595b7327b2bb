-- A shift by less than 32.
use Rattle.std.proofs.Common.{◌≡◌, ℕ, suc, ◌+◌, ◌<◌, Bool, true, false, List, [], ◌∷◌, ◌++◌, length, Option, Some, None, refl, sym, ap, ◌∙◌, arith}
use Rattle.std.specs.Prelude.{slice_get, slice_index, slice_set, nat_lt, nat_le, if◌then◌else◌}
use Rattle.std.specs.Option.{option_map}
use Rattle.std.proofs.lemmas.List.{get_or-set_same, get_or-set_other, length-set}
use Rattle.ints.specs.declared.operators.Op.{Op}
use Rattle.lang_base.specs.declared.program.Program.{Program}
use Rattle.locations.specs.declared.location.Location.TheVariants.{InRegister}
use Rattle.machine.specs.Data.{value_at}
use Rattle.machine.specs.Frames.{State}
use Rattle.machine.specs.declared.act.Act.TheVariants.{Operate}
use Rattle.machine.specs.declared.arguments.Arguments.TheVariants.{Two}
use Rattle.linear_language.specs.declared.instruction.Instruction.TheVariants as l
use Rattle.linear_language.specs.Function.{FunctionData}
use Rattle.x86_syntax.specs.Registers.{number_of}
use Rattle.x86_syntax.specs.declared.condition.Condition.TheVariants.{AboveOrEqual}
use Rattle.x86_syntax.specs.declared.instruction.Instruction.TheVariants as n
use Rattle.x86_syntax.specs.declared.operators.Shifting.{Shifting}
use Rattle.x86_syntax.specs.declared.register.Register.TheVariants.{Eax, Ecx}
use Rattle.x86_state.specs.State.{State as Native, Goes, does, word, put, with_flags}
use Rattle.x86_state.specs.Tables.{shifted}
use Rattle.native_lowering_definition.specs.Facts.{Facts, known, flag_left, left}
use Rattle.native_lowering_definition.specs.Kinds.{Shifts, kind_of}
use Rattle.native_lowering_definition.specs.Layout.{facts_in}
use Rattle.native_lowering_definition.specs.Lowering.{lowered, code_of}
use Rattle.native_lowering_definition.specs.Locations.{register_of}
use Rattle.native_lowering_definition.specs.Operating.{Block, copy, shifts, shifts_tested, operates}
use Rattle.native_lowering_numbers.proofs.Shifts.{count_asks}
use Rattle.native_lowering_relation.specs.Related.{Related}
use Rattle.native_lowering_relation.proofs.Agreeing.{agree_at, word_is}
use Rattle.native_lowering_relation.proofs.Knowing.{knows_at, knows_word}
use Rattle.native_lowering_walks.specs.Walks.{then as onward, walks, GoStraight}
use Rattle.native_lowering_walks.proofs.Straight.{compare_with_below, stop_if_below, copy_below, shift_by_below}
use Rattle.native_lowering_runs.specs.Reaching.{Reaches}
use Rattle.native_lowering_runs.proofs.Registers.{number_is}
use Rattle.native_lowering_moves.proofs.Branches.{defined_word}
use Rattle.native_lowering_operators.proofs.Copying.{LeavesIt, straight_copy, count_copy, copy_walks}
use Rattle.native_lowering_operators.proofs.Scratched.{not_scratched, one_scratched}
use Rattle.native_lowering_operators.proofs.Written.{Scratch, written_here, left_with, writes_reaches}
use Rattle.native_lowering_checked.proofs.Passing.{same_word, goes_past}

module _ (p : Program FunctionData) (room : Option ℕ) (s : State) (t : Native) (related : Related p s t) where
  abbrev f : FunctionData
  f = related.named.function

  abbrev facts : Facts
  facts = facts_in f s.place

  abbrev To : ℕ → ℕ → Type 0
  To d r = Reaches p room (record s { place = s.place + 1; here = written_here p room s t related d r }) t

  -- a block whose walk is known
  made : (o : Op) (op : Shifting) (d a b more r : ℕ) (blk : Block) (words : List ℕ) → kind_of o ≡ Shifts op → slice_get f.code s.place ≡ Some (l.Do (Operate o d (Two a b)))
      → shifts op d a b (known b facts) ≡ blk → length blk ≡ suc more → GoStraight blk → Scratch p room s t related words
      → walks (lowered p).functions room (code_of p f) blk t ≡ Goes (left_with p room s t related (suc more) None words d r) → To d r
  made o op d a b more r blk words kind at is_it count straight scratch walk =
      writes_reaches p room s t related (l.Do (Operate o d (Two a b))) blk more d r None None words (record {
        at = at;
        is_it = ap (λ k. operates k d (Two a b) facts) kind ∙ is_it;
        count = count;
        target = refl;
        leaves = ap (λ k. left d (flag_left k (Two a b) d facts) facts) kind;
        straight = straight;
        scratch = scratch;
        answers = tt;
        walk = walk;
      })

  unchanged : Scratch p room s t related t.registers
  unchanged = not_scratched f s.here.registers s.here.slots related.held t.registers related.holds

  word_here : (r x : ℕ) → value_at (InRegister r) s.here ≡ Some x → slice_index t.registers r ≡ x
  word_here r x defined = word_is (value_at (InRegister r) s.here) (slice_index t.registers r) x (agree_at s.here.registers t.registers r related.holds.agree) defined

  -- by a count that is known
  shift_leaves : (op : Shifting) (d x count r : ℕ) → d < 8 → shifted op x count ≡ Some r → LeavesIt (lowered p).functions room (code_of p f) t d d x r None (n.Shift op (register_of d) count)
  shift_leaves op d x count r near result = λ v here others flags.
      let left_word : word (register_of d) v ≡ x = ap (slice_index v.registers) (number_is d near) ∙ here in
      ap (λ k. does (option_map (λ w. with_flags None (put (register_of d) w v)) (shifted op k count))) left_word
      ∙ ap (λ q. does (option_map (λ w. with_flags None (put (register_of d) w v)) q)) result
      ∙ (λ i. Goes (record v { place = v.place + 1; registers = slice_set v.registers (number_is d near i) r; flags = None }))

  -- the count in ecx, the word in eax
  abbrev moved_in : ℕ → ℕ → List ℕ
  moved_in x y = slice_set (slice_set t.registers 9 y) 8 x

  abbrev behind_test : Shifting → ℕ → ℕ → ℕ → Block
  behind_test op d a b = n.Copy Ecx (register_of b) ∷ n.Copy Eax (register_of a) ∷ n.ShiftBy op Eax ∷ n.Copy (register_of d) Eax ∷ []

  tested_walks : (op : Shifting) (d a b x y r : ℕ) → d < 8 → a < 8 → b < 8 → value_at (InRegister a) s.here ≡ Some x → value_at (InRegister b) s.here ≡ Some y → nat_le 32 y ≡ false → shifted op x y ≡ Some r
      → walks (lowered p).functions room (code_of p f) (shifts_tested op d a b) t ≡ Goes (left_with p room s t related 6 None (slice_set (moved_in x y) 8 r) d r)
  unfolding number_of
  tested_walks op d a b x y r near near' near'' left_is right_is few result =
      let count_is = defined_word p room s t related b y near'' right_is in
      let u = record t { place = t.place + 1; flags = Some (y, 32) } in
      let ecx = slice_set t.registers 9 y in
      let a_word : slice_index ecx (number_of (register_of a)) ≡ x =
      ap (slice_index ecx) (number_is a near') ∙ get_or-set_other t.registers 9 a y 0 (λ e. omega (arith, e, near')) ∙ word_here a x left_is in
      let full : length ecx ≡ 13 = length-set t.registers 9 y ∙ related.holds.thirteen in
      let in_eax : slice_index (moved_in x y) 8 ≡ x = get_or-set_same ecx 8 x 0 (omega (arith, full)) in
      let in_ecx : slice_index (moved_in x y) 9 ≡ y =
      get_or-set_other ecx 8 9 x 0 (λ e. omega (arith, e)) ∙ get_or-set_same t.registers 9 y 0 (omega (arith, related.holds.thirteen)) in
      let both_are : shifted op (slice_index (moved_in x y) 8) (slice_index (moved_in x y) 9) ≡ Some r = (λ i. shifted op (in_eax i) (in_ecx i)) ∙ result in
      let v = record t { place = t.place + 1 + 1 + 1 + 1; registers = moved_in x y; flags = Some (y, 32) } in
      let last : slice_index (slice_set (moved_in x y) 8 r) 8 ≡ r = get_or-set_same (moved_in x y) 8 r 0 (omega (arith, length-set ecx 8 x, full)) in
      let six : t.place + 1 + 1 + 1 + 1 + 1 + 1 ≡ t.place + 6 = omega arith in
      ap (λ k. walks (lowered p).functions room (code_of p f) (n.StopIf AboveOrEqual ∷ (behind_test op d a b)) (record t { place = t.place + 1; flags = Some (k, 32) })) count_is
      ∙ ap (λ z. onward z (walks (lowered p).functions room (code_of p f) (behind_test op d a b))) (goes_past (lowered p).functions room (code_of p f) u AboveOrEqual y 32 refl (count_asks y 32 ∙ few))
      ∙ ap (λ k. walks (lowered p).functions room (code_of p f) (n.Copy Eax (register_of a) ∷ n.ShiftBy op Eax ∷ n.Copy (register_of d) Eax ∷ [])
      (record t { place = t.place + 1 + 1 + 1; registers = slice_set t.registers 9 k; flags = Some (y, 32) })) count_is
      ∙ ap (λ k. walks (lowered p).functions room (code_of p f) (n.ShiftBy op Eax ∷ n.Copy (register_of d) Eax ∷ [])
      (record t { place = t.place + 1 + 1 + 1 + 1; registers = slice_set ecx 8 k; flags = Some (y, 32) })) a_word
      ∙ ap (λ q. onward (does (option_map (λ w. with_flags None (put Eax w v)) q)) (walks (lowered p).functions room (code_of p f) (n.Copy (register_of d) Eax ∷ []))) both_are
      ∙ (λ i. Goes (record t { place = six i; registers = slice_set (slice_set (moved_in x y) 8 r) (number_is d near i) (last i); flags = None }))

  tested : (o : Op) (op : Shifting) (d a b x y r : ℕ) → kind_of o ≡ Shifts op → slice_get f.code s.place ≡ Some (l.Do (Operate o d (Two a b))) → d < 8 → a < 8 → b < 8
      → value_at (InRegister a) s.here ≡ Some x → value_at (InRegister b) s.here ≡ Some y → nat_le 32 y ≡ false → shifted op x y ≡ Some r
      → shifts op d a b (known b facts) ≡ shifts_tested op d a b → To d r
  tested o op d a b x y r kind at near near' near'' left_is right_is few result is_it =
      made o op d a b 5 r (shifts_tested op d a b) (slice_set (moved_in x y) 8 r) kind at is_it refl
      (compare_with_below (register_of b) 32, (stop_if_below AboveOrEqual, (copy_below Ecx (register_of b), (copy_below Eax (register_of a), (shift_by_below op Eax, tt)))))
      (more (moved_in x y) 8 r (omega arith) (more (slice_set t.registers 9 y) 8 x (omega arith) (more t.registers 9 y (omega arith) unchanged)))
      (tested_walks op d a b x y r near near' near'' left_is right_is few result)
    where
      more : (words' : List ℕ) (k w : ℕ) → 8 < suc k → Scratch p room s t related words' → Scratch p room s t related (slice_set words' k w)
      more words' k w high so = one_scratched f s.here.registers s.here.slots related.held t.registers words' k w (omega (arith, high)) so

  with_known : (o : Op) (op : Shifting) (d a b x y r : ℕ) (k : Option ℕ) → kind_of o ≡ Shifts op → slice_get f.code s.place ≡ Some (l.Do (Operate o d (Two a b))) → d < 8 → a < 8 → b < 8
      → value_at (InRegister a) s.here ≡ Some x → value_at (InRegister b) s.here ≡ Some y → nat_le 32 y ≡ false → shifted op x y ≡ Some r → known b facts ≡ k → To d r
  with_known o op d a b x y r None kind at near near' near'' left_is right_is few result e =
      tested o op d a b x y r kind at near near' near'' left_is right_is few result (ap (shifts op d a b) e)
  with_known o op d a b x y r (Some w) kind at near near' near'' left_is right_is few result e = by (nat_lt w 32) refl
    where
      so : value_at (InRegister b) s.here ≡ Some w
      so = knows_word (known b facts) (value_at (InRegister b) s.here) w (knows_at facts.words s.here.registers b related.known.known) e

      choice : (c : Bool) → nat_lt w 32 ≡ c → shifts op d a b (known b facts) ≡ (if c then copy d a ++ n.Shift op (register_of d) w ∷ [] else shifts_tested op d a b)
      choice c told = ap (shifts op d a b) e ∙ ap (λ z. if z then copy d a ++ n.Shift op (register_of d) w ∷ [] else shifts_tested op d a b) told

      by : (c : Bool) → nat_lt w 32 ≡ c → To d r
      by false out = tested o op d a b x y r kind at near near' near'' left_is right_is few result (choice false out)
      by true inside =
          let same : y ≡ w = same_word (value_at (InRegister b) s.here) y w right_is so in
          made o op d a b (length (copy d a)) r (copy d a ++ n.Shift op (register_of d) w ∷ []) t.registers kind at (choice true inside)
          (count_copy d a (n.Shift op (register_of d) w)) (straight_copy d a (n.Shift op (register_of d) w)) unchanged
          (copy_walks (lowered p).functions room (code_of p f) t d a x r None (n.Shift op (register_of d) w) near' near related.holds.thirteen (word_here a x left_is)
          (shift_leaves op d x w r near (ap (shifted op x) (sym same) ∙ result)))

  pub shifts_reaches : (o : Op) (op : Shifting) (d a b x y r : ℕ) → kind_of o ≡ Shifts op → slice_get f.code s.place ≡ Some (l.Do (Operate o d (Two a b))) → d < 8 → a < 8 → b < 8
      → value_at (InRegister a) s.here ≡ Some x → value_at (InRegister b) s.here ≡ Some y → nat_le 32 y ≡ false → shifted op x y ≡ Some r → To d r
  shifts_reaches o op d a b x y r kind at near near' near'' left_is right_is few result =
      with_known o op d a b x y r (known b facts) kind at near near' near'' left_is right_is few result refl
