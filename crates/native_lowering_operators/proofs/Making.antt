-- What is made of two words.
use Rattle.std.proofs.Common.{◌≡◌, ◌≢◌, ℕ, zero, suc, ◌+◌, ◌<◌, Bool, true, false, not, ◌&&◌, List, [], ◌∷◌, ◌++◌, length, Option, Some, None, refl, sym, ap, subst, ◌∙◌, pos, ◌*ℤ◌, ◌^◌, arith}
use Rattle.std.specs.Prelude.{slice_get, slice_index, slice_set, nat_eq, if◌then◌else◌}
use Rattle.std.specs.Option.{option_map}
use lib.IntN.{*ℤ_comm}
use Rattle.std.proofs.lemmas.Bool.{eqb-true, eq-eqb, false≢true}
use Rattle.std.proofs.lemmas.Int.{ints}
use Rattle.std.proofs.lemmas.List.{get_or-set_same, get_or-set_other, length-set}
use Rattle.std.proofs.lemmas.Nat.{and_comm, or_comm, xor_comm}
use Rattle.ints.specs.Words.{signed, wrapped}
use Rattle.ints.specs.declared.operators.Op.{Op}
use Rattle.lang_base.specs.declared.program.Program.{Program}
use Rattle.locations.specs.declared.location.Location.TheVariants.{InRegister}
use Rattle.machine.specs.Data.{value_at}
use Rattle.machine.specs.Frames.{State}
use Rattle.machine.specs.declared.act.Act.TheVariants.{Operate}
use Rattle.machine.specs.declared.arguments.Arguments.TheVariants.{Two}
use Rattle.linear_language.specs.declared.instruction.Instruction.TheVariants as l
use Rattle.linear_language.specs.Function.{FunctionData}
use Rattle.x86_syntax.specs.Registers.{number_of}
use Rattle.x86_syntax.specs.declared.condition.Condition.TheVariants.{NotEqual}
use Rattle.x86_syntax.specs.declared.instruction.Instruction.{Instruction}
use Rattle.x86_syntax.specs.declared.instruction.Instruction.TheVariants.{Copy, Do, DoWith, Shift}
use Rattle.x86_syntax.specs.declared.operators.Operator.{Operator}
use Rattle.x86_syntax.specs.declared.operators.Operator.TheVariants.{Add, Sub, Mul, And, Or, Xor}
use Rattle.x86_syntax.specs.declared.operators.Shifting.TheVariants.{Shl}
use Rattle.x86_syntax.specs.declared.register.Register.TheVariants.{Eax}
use Rattle.x86_state.specs.State.{State as Native, Goes, does, word, put, with_flags}
use Rattle.x86_state.specs.Tables.{operated, shifted, flags_of, condition_table}
use Rattle.native_lowering_definition.specs.Facts.{Facts, known, flag_behind, flag_left, left}
use Rattle.native_lowering_definition.specs.Kinds.{Makes, kind_of}
use Rattle.native_lowering_definition.specs.Layout.{facts_in}
use Rattle.native_lowering_definition.specs.Lowering.{lowered, code_of}
use Rattle.native_lowering_definition.specs.Locations.{register_of}
use Rattle.native_lowering_definition.specs.Operating.{Block, copy, makes, makes_with, makes_in_second, multiplies_with, operates}
use Rattle.native_lowering_definition.specs.Powers.{exponent}
use Rattle.native_lowering_definition.proofs.Powers.{power_is}
use Rattle.native_lowering_numbers.proofs.Shifts.{shifted_in}
use Rattle.native_lowering_relation.specs.Knowing.{Answers}
use Rattle.native_lowering_relation.specs.Related.{Related}
use Rattle.native_lowering_relation.proofs.Agreeing.{agree_at, word_is}
use Rattle.native_lowering_relation.proofs.Knowing.{knows_at, knows_word}
use Rattle.native_lowering_walks.specs.Walks.{then as onward, walks, GoStraight}
use Rattle.native_lowering_walks.proofs.Straight.{copy_below, do_below}
use Rattle.native_lowering_runs.specs.Reaching.{Reaches}
use Rattle.native_lowering_runs.proofs.Registers.{number_is}
use Rattle.native_lowering_operators.proofs.Copying.{LeavesIt, straight_copy, count_copy, copy_walks}
use Rattle.native_lowering_operators.proofs.Scratched.{IsScratched, not_scratched, one_scratched}
use Rattle.native_lowering_operators.proofs.Written.{Scratch, written_here, left_with, writes_reaches}

-- ---- where the order does not matter

sum_turns : (x y : ℕ) → operated Add y x ≡ operated Add x y
unfolding operated
sum_turns x y = grind (arith, ints)

product_turns : (x y : ℕ) → operated Mul y x ≡ operated Mul x y
unfolding operated
product_turns x y = ap wrapped (*ℤ_comm (signed y) (signed x))

and_turns : (x y : ℕ) → operated And y x ≡ operated And x y
unfolding operated
and_turns x y = and_comm y x

or_turns : (x y : ℕ) → operated Or y x ≡ operated Or x y
unfolding operated
or_turns x y = or_comm y x

xor_turns : (x y : ℕ) → operated Xor y x ≡ operated Xor x y
unfolding operated
xor_turns x y = xor_comm y x

-- ---- the flags

made_answers : (op : Operator) (d r : ℕ) (words : List ℕ) → d < length words → Answers (flag_behind (Makes op) d) (flags_of op r) (slice_set words d r)
unfolding flags_of condition_table
made_answers Add d r words within = tt
made_answers Sub d r words within = tt
made_answers Mul d r words within = tt
made_answers And d r words within = ap (λ n. not (nat_eq n 0)) (sym (get_or-set_same words d r 0 within))
made_answers Or d r words within = ap (λ n. not (nat_eq n 0)) (sym (get_or-set_same words d r 0 within))
made_answers Xor d r words within = ap (λ n. not (nat_eq n 0)) (sym (get_or-set_same words d r 0 within))

module _ (p : Program FunctionData) (room : Option ℕ) (s : State) (t : Native) (related : Related p s t) where
  abbrev f : FunctionData
  f = related.named.function

  abbrev facts : Facts
  facts = facts_in f s.place

  abbrev Leaves : ℕ → ℕ → ℕ → Option (ℕ × ℕ) → Instruction → Type 0
  Leaves d x r flags last = LeavesIt (lowered p).functions room (code_of p f) t d d x r flags last

  abbrev To : ℕ → ℕ → Type 0
  To d r = Reaches p room (record s { place = s.place + 1; here = written_here p room s t related d r }) t

  with_word_leaves : (op : Operator) (d x w : ℕ) → d < 8 → Leaves d x (operated op x w) (flags_of op (operated op x w)) (DoWith op (register_of d) w)
  with_word_leaves op d x w near = λ v here others flags.
      λ i. Goes (record v { place = v.place + 1; registers = slice_set v.registers (number_is d near i) (operated op ((ap (slice_index v.registers) (number_is d near) ∙ here) i) w); flags = flags_of op (operated op ((ap (slice_index v.registers) (number_is d near) ∙ here) i) w) })

  -- a product by 2 ^ k
  shifted_leaves : (d x k : ℕ) → d < 8 → x < 2 ^ 32 → k < 32 → Leaves d x (operated Mul x (2 ^ k)) None (Shift Shl (register_of d) k)
  shifted_leaves d x k near small few = λ v here others flags.
      let left_word : word (register_of d) v ≡ x = ap (slice_index v.registers) (number_is d near) ∙ here in
      ap (λ w. does (option_map (λ q. with_flags None (put (register_of d) q v)) (shifted Shl w k))) left_word
      ∙ ap (λ q. does (option_map (λ w. with_flags None (put (register_of d) w v)) q)) (shifted_in x k small few)
      ∙ (λ i. Goes (record v { place = v.place + 1; registers = slice_set v.registers (number_is d near i) (operated Mul x (2 ^ k)); flags = None }))

  multiplied_leaves : (o : Option ℕ) (d x w : ℕ) → d < 8 → x < 2 ^ 32 → exponent w ≡ o → Leaves d x (operated Mul x w) (flags_of Mul (operated Mul x w)) (multiplies_with o d w)
  unfolding flags_of
  multiplied_leaves None d x w near small e = with_word_leaves Mul d x w near
  multiplied_leaves (Some k) d x w near small e =
      let so = power_is (Some w) false k e in
      let is : Some w ≡ Some (2 ^ k) = so.word in
      let same : 2 ^ k ≡ w = cc in
      subst (λ z. Leaves d x (operated Mul x z) None (Shift Shl (register_of d) k)) same (shifted_leaves d x k near small so.below)

  made_with_leaves : (op : Operator) (d x w : ℕ) → d < 8 → x < 2 ^ 32 → Leaves d x (operated op x w) (flags_of op (operated op x w)) (makes_with op d w)
  made_with_leaves Add d x w near small = with_word_leaves Add d x w near
  made_with_leaves Sub d x w near small = with_word_leaves Sub d x w near
  made_with_leaves Mul d x w near small = multiplied_leaves (exponent w) d x w near small refl
  made_with_leaves And d x w near small = with_word_leaves And d x w near
  made_with_leaves Or d x w near small = with_word_leaves Or d x w near
  made_with_leaves Xor d x w near small = with_word_leaves Xor d x w near

  with_register_leaves : (op : Operator) (d b x y : ℕ) → d < 8 → b < 8 → (b ≡ d → y ≡ x) → slice_index t.registers b ≡ y
      → Leaves d x (operated op x y) (flags_of op (operated op x y)) (Do op (register_of d) (register_of b))
  with_register_leaves op d b x y near near' same right = λ v here others flags.
      let left_word : word (register_of d) v ≡ x = ap (slice_index v.registers) (number_is d near) ∙ here in
      let right_word : word (register_of b) v ≡ y = ap (slice_index v.registers) (number_is b near') ∙ other v here others (nat_eq b d) refl in
      λ i. Goes (record v { place = v.place + 1; registers = slice_set v.registers (number_is d near i) (operated op (left_word i) (right_word i)); flags = flags_of op (operated op (left_word i) (right_word i)) })
    where
      other : (v : Native) → slice_index v.registers d ≡ x → ((q : ℕ) → q ≢ d → slice_index v.registers q ≡ slice_index t.registers q) → (e : Bool) → nat_eq b d ≡ e → slice_index v.registers b ≡ y
      other v here others true e = let it : b ≡ d = eqb-true b d e in ap (slice_index v.registers) it ∙ here ∙ sym (same it)
      other v here others false e = others b (λ h. false≢true (sym e ∙ eq-eqb b d h)) ∙ right

  word_here : (r x : ℕ) → value_at (InRegister r) s.here ≡ Some x → slice_index t.registers r ≡ x
  word_here r x defined = word_is (value_at (InRegister r) s.here) (slice_index t.registers r) x (agree_at s.here.registers t.registers r related.holds.agree) defined

  -- a block whose walk is known
  made : (o : Op) (op : Operator) (d a b more x y : ℕ) (blk : Block) (words : List ℕ) → kind_of o ≡ Makes op → slice_get f.code s.place ≡ Some (l.Do (Operate o d (Two a b))) → d < 8
      → makes op d a b (known b facts) ≡ blk → length blk ≡ suc more → GoStraight blk → Scratch p room s t related words
      → walks (lowered p).functions room (code_of p f) blk t ≡ Goes (left_with p room s t related (suc more) (flags_of op (operated op x y)) words d (operated op x y))
      → To d (operated op x y)
  made o op d a b more x y blk words kind at near is_it count straight scratch walk =
      writes_reaches p room s t related (l.Do (Operate o d (Two a b))) blk more d (operated op x y) (flag_behind (Makes op) d) (flags_of op (operated op x y)) words (record {
        at = at;
        is_it = ap (λ k. operates k d (Two a b) facts) kind ∙ is_it;
        count = count;
        target = refl;
        leaves = ap (λ k. left d (flag_left k (Two a b) d facts) facts) kind;
        straight = straight;
        scratch = scratch;
        answers = made_answers op d (operated op x y) words (omega (arith, near, scratch.holds.thirteen));
        walk = walk;
      })

  unchanged : Scratch p room s t related t.registers
  unchanged = not_scratched f s.here.registers s.here.slots related.held t.registers related.holds

  -- A goes to D, which becomes the result
  in_first : (o : Op) (op : Operator) (d a b x y : ℕ) (last : Instruction) → kind_of o ≡ Makes op → slice_get f.code s.place ≡ Some (l.Do (Operate o d (Two a b))) → d < 8 → a < 8
      → slice_index t.registers a ≡ x → makes op d a b (known b facts) ≡ copy d a ++ last ∷ [] → Leaves d x (operated op x y) (flags_of op (operated op x y)) last
      → To d (operated op x y)
  in_first o op d a b x y last kind at near near' left_is is_it leaves =
      made o op d a b (length (copy d a)) x y (copy d a ++ last ∷ []) t.registers kind at near is_it (count_copy d a last) (straight_copy d a last) unchanged
      (copy_walks (lowered p).functions room (code_of p f) t d a x (operated op x y) (flags_of op (operated op x y)) last near' near related.holds.thirteen left_is
      (λ v here others flags. leaves v here others flags))

  -- D becomes what is made of it and A
  turned_walks : (op : Operator) (d a x y : ℕ) → d < 8 → a < 8 → slice_index t.registers a ≡ x → slice_index t.registers d ≡ y → operated op y x ≡ operated op x y
      → walks (lowered p).functions room (code_of p f) (Do op (register_of d) (register_of a) ∷ []) t
      ≡ Goes (left_with p room s t related 1 (flags_of op (operated op x y)) t.registers d (operated op x y))
  turned_walks op d a x y near near' left_is right_is turns =
      let left_word : word (register_of a) t ≡ x = ap (slice_index t.registers) (number_is a near') ∙ left_is in
      let right_word : word (register_of d) t ≡ y = ap (slice_index t.registers) (number_is d near) ∙ right_is in
      let same : operated op (word (register_of d) t) (word (register_of a) t) ≡ operated op x y = (λ i. operated op (right_word i) (left_word i)) ∙ turns in
      λ i. Goes (record t { place = t.place + 1; registers = slice_set t.registers (number_is d near i) (same i); flags = flags_of op (same i) })

  -- A goes to eax, from which D is taken, and back to D
  subtract_walks : (d a x y : ℕ) → d < 8 → a < 8 → slice_index t.registers a ≡ x → slice_index t.registers d ≡ y
      → walks (lowered p).functions room (code_of p f) (makes_in_second Sub d a) t
      ≡ Goes (left_with p room s t related 3 (flags_of Sub (operated Sub x y)) (slice_set (slice_set t.registers 8 x) 8 (operated Sub x y)) d (operated Sub x y))
  unfolding number_of
  subtract_walks d a x y near near' left_is right_is =
      let r = operated Sub x y in
      let first : slice_set t.registers 8 (word (register_of a) t) ≡ slice_set t.registers 8 x = ap (slice_set t.registers 8) (ap (slice_index t.registers) (number_is a near') ∙ left_is) in
      let in_eax : slice_index (slice_set t.registers 8 x) 8 ≡ x = get_or-set_same t.registers 8 x 0 (omega (arith, related.holds.thirteen)) in
      let in_d : slice_index (slice_set t.registers 8 x) (number_of (register_of d)) ≡ y =
      ap (slice_index (slice_set t.registers 8 x)) (number_is d near) ∙ get_or-set_other t.registers 8 d x 0 (λ e. omega (arith, e, near)) ∙ right_is in
      let result : operated Sub (slice_index (slice_set t.registers 8 x) 8) (slice_index (slice_set t.registers 8 x) (number_of (register_of d))) ≡ r = λ i. operated Sub (in_eax i) (in_d i) in
      let ws = slice_set (slice_set t.registers 8 x) 8 r in
      let again : slice_index ws 8 ≡ r = get_or-set_same (slice_set t.registers 8 x) 8 r 0 (omega (arith, length-set t.registers 8 x, related.holds.thirteen)) in
      let three : t.place + 1 + 1 + 1 ≡ t.place + 3 = omega arith in
      ap (λ (us : List ℕ). walks (lowered p).functions room (code_of p f) (Do Sub Eax (register_of d) ∷ Copy (register_of d) Eax ∷ []) (record t { place = t.place + 1; registers = us })) first
      ∙ ap (λ n. walks (lowered p).functions room (code_of p f) (Copy (register_of d) Eax ∷ []) (record t { place = t.place + 1 + 1; registers = slice_set (slice_set t.registers 8 x) 8 n; flags = flags_of Sub n })) result
      ∙ (λ i. Goes (record t { place = three i; registers = slice_set ws (number_is d near i) (again i); flags = flags_of Sub r }))

  -- D is B
  in_second : (o : Op) (op : Operator) (d a b x y : ℕ) → kind_of o ≡ Makes op → slice_get f.code s.place ≡ Some (l.Do (Operate o d (Two a b))) → d < 8 → a < 8
      → slice_index t.registers a ≡ x → slice_index t.registers d ≡ y → makes op d a b (known b facts) ≡ makes_in_second op d a → To d (operated op x y)
  in_second o Sub d a b x y kind at near near' left_is right_is is_it =
      made o Sub d a b 2 x y (makes_in_second Sub d a) (slice_set (slice_set t.registers 8 x) 8 (operated Sub x y)) kind at near is_it refl
      (copy_below Eax (register_of a), (do_below Sub Eax (register_of d), tt)) subtracted
      (subtract_walks d a x y near near' left_is right_is)
    where
      once : Scratch p room s t related (slice_set t.registers 8 x)
      once = one_scratched f s.here.registers s.here.slots related.held t.registers t.registers 8 x (omega arith) unchanged

      subtracted : Scratch p room s t related (slice_set (slice_set t.registers 8 x) 8 (operated Sub x y))
      subtracted = one_scratched f s.here.registers s.here.slots related.held t.registers (slice_set t.registers 8 x) 8 (operated Sub x y) (omega arith) once
  in_second o Add d a b x y kind at near near' left_is right_is is_it =
      made o Add d a b 0 x y (makes_in_second Add d a) t.registers kind at near is_it refl tt unchanged (turned_walks Add d a x y near near' left_is right_is (sum_turns x y))
  in_second o Mul d a b x y kind at near near' left_is right_is is_it =
      made o Mul d a b 0 x y (makes_in_second Mul d a) t.registers kind at near is_it refl tt unchanged (turned_walks Mul d a x y near near' left_is right_is (product_turns x y))
  in_second o And d a b x y kind at near near' left_is right_is is_it =
      made o And d a b 0 x y (makes_in_second And d a) t.registers kind at near is_it refl tt unchanged (turned_walks And d a x y near near' left_is right_is (and_turns x y))
  in_second o Or d a b x y kind at near near' left_is right_is is_it =
      made o Or d a b 0 x y (makes_in_second Or d a) t.registers kind at near is_it refl tt unchanged (turned_walks Or d a x y near near' left_is right_is (or_turns x y))
  in_second o Xor d a b x y kind at near near' left_is right_is is_it =
      made o Xor d a b 0 x y (makes_in_second Xor d a) t.registers kind at near is_it refl tt unchanged (turned_walks Xor d a x y near near' left_is right_is (xor_turns x y))

  -- B is not known
  unknown : (o : Op) (op : Operator) (d a b x y : ℕ) (e g : Bool) → nat_eq b d ≡ e → nat_eq a b ≡ g → kind_of o ≡ Makes op → slice_get f.code s.place ≡ Some (l.Do (Operate o d (Two a b)))
      → d < 8 → a < 8 → b < 8 → slice_index t.registers a ≡ x → slice_index t.registers b ≡ y → known b facts ≡ None → To d (operated op x y)
  unknown o op d a b x y true false e g kind at near near' near'' left_is right_is none =
      in_second o op d a b x y kind at near near' left_is (ap (slice_index t.registers) (sym (eqb-true b d e)) ∙ right_is)
      (ap (makes op d a b) none ∙ (λ i. if e i && not (g i) then makes_in_second op d a else copy d a ++ Do op (register_of d) (register_of b) ∷ []))
  unknown o op d a b x y true true e g kind at near near' near'' left_is right_is none =
      in_first o op d a b x y (Do op (register_of d) (register_of b)) kind at near near' left_is
      (ap (makes op d a b) none ∙ (λ i. if e i && not (g i) then makes_in_second op d a else copy d a ++ Do op (register_of d) (register_of b) ∷ []))
      (with_register_leaves op d b x y near near'' (λ same. sym right_is ∙ ap (slice_index t.registers) (sym (eqb-true a b g)) ∙ left_is) right_is)
  unknown o op d a b x y false g e h kind at near near' near'' left_is right_is none =
      in_first o op d a b x y (Do op (register_of d) (register_of b)) kind at near near' left_is
      (ap (makes op d a b) none ∙ ap (λ z. if z && not (nat_eq a b) then makes_in_second op d a else copy d a ++ Do op (register_of d) (register_of b) ∷ []) e)
      (with_register_leaves op d b x y near near'' (λ same. absurd (false≢true (sym e ∙ eq-eqb b d same))) right_is)

  with_known : (o : Op) (op : Operator) (d a b x y : ℕ) (k : Option ℕ) → kind_of o ≡ Makes op → slice_get f.code s.place ≡ Some (l.Do (Operate o d (Two a b))) → d < 8 → a < 8 → b < 8
      → value_at (InRegister a) s.here ≡ Some x → value_at (InRegister b) s.here ≡ Some y → x < 2 ^ 32 → known b facts ≡ k → To d (operated op x y)
  with_known o op d a b x y None kind at near near' near'' left_is right_is small e =
      unknown o op d a b x y (nat_eq b d) (nat_eq a b) refl refl kind at near near' near'' (word_here a x left_is) (word_here b y right_is) e
  with_known o op d a b x y (Some w) kind at near near' near'' left_is right_is small e =
      let so : value_at (InRegister b) s.here ≡ Some w = knows_word (known b facts) (value_at (InRegister b) s.here) w (knows_at facts.words s.here.registers b related.known.known) e in
      let same : w ≡ y = cc in
      subst (λ z. To d (operated op x z)) same
      (in_first o op d a b x w (makes_with op d w) kind at near near' (word_here a x left_is) (ap (makes op d a b) e) (made_with_leaves op d x w near small))

  pub makes_reaches : (o : Op) (op : Operator) (d a b x y : ℕ) → kind_of o ≡ Makes op → slice_get f.code s.place ≡ Some (l.Do (Operate o d (Two a b))) → d < 8 → a < 8 → b < 8
      → value_at (InRegister a) s.here ≡ Some x → value_at (InRegister b) s.here ≡ Some y → x < 2 ^ 32 → To d (operated op x y)
  makes_reaches o op d a b x y kind at near near' near'' left_is right_is small = with_known o op d a b x y (known b facts) kind at near near' near'' left_is right_is small refl
