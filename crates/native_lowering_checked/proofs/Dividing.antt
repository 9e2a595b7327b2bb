-- A division, of which the quotient or the rest is wanted.
use Rattle.std.proofs.Common.{◌≡◌, ℕ, suc, ◌+◌, ◌-◌, ◌/◌, ◌%◌, ◌^◌, ◌<◌, ◌≤◌, Bool, true, false, not, ◌||◌, List, [], ◌∷◌, ◌++◌, length, Option, Some, None, refl, sym, ap, subst, ◌∙◌, arith, length-append}
use Rattle.std.specs.Prelude.{slice_get, slice_index, slice_set, nat_eq, ◌==◌, if◌then◌else◌, int_div, int_rem, bit_and}
use Rattle.std.specs.Option.{option_map}
use Rattle.std.proofs.lemmas.Nat.{and_mask, pow_below}
use Rattle.std.proofs.lemmas.List.{get_or-set_same, get_or-set_other, length-set}
use Rattle.ints.specs.Words.{signed as number, wrapped}
use Rattle.ints.specs.declared.operators.Op.{Op}
use Rattle.lang_base.specs.declared.program.Program.{Program}
use Rattle.locations.specs.declared.location.Location.TheVariants.{InRegister}
use Rattle.machine.specs.Data.{value_at}
use Rattle.machine.specs.Frames.{State}
use Rattle.machine.specs.declared.act.Act.TheVariants.{Operate}
use Rattle.machine.specs.declared.arguments.Arguments.TheVariants.{Two}
use Rattle.linear_language.specs.declared.instruction.Instruction.TheVariants as l
use Rattle.linear_language.specs.Function.{FunctionData}
use Rattle.x86_syntax.specs.Registers.{number_of}
use Rattle.x86_syntax.specs.declared.condition.Condition.TheVariants.{Equal}
use Rattle.x86_syntax.specs.declared.instruction.Instruction.{Instruction}
use Rattle.x86_syntax.specs.declared.instruction.Instruction.TheVariants as n
use Rattle.x86_syntax.specs.declared.operators.Operator.TheVariants as o
use Rattle.x86_syntax.specs.declared.operators.Shifting.TheVariants.{Shr}
use Rattle.x86_syntax.specs.declared.operators.Turning.TheVariants as turn
use Rattle.x86_syntax.specs.declared.register.Register.TheVariants.{Eax, Ecx, Edx}
use Rattle.x86_state.specs.Registers.{word_in}
use Rattle.x86_state.specs.State.{State as Native, Goes, does, word, put, with_flags}
use Rattle.x86_state.specs.Tables.{operated, shifted, turned, flags_of, sign_of, divided, divided_unsigned, condition_table}
use Rattle.x86.specs.Operating.{with_quotient}
use Rattle.native_lowering_definition.specs.Facts.{Facts, known, flag_left, flag_behind_power, left}
use Rattle.native_lowering_definition.specs.Kinds.{Divides, kind_of}
use Rattle.native_lowering_definition.specs.Layout.{facts_in}
use Rattle.native_lowering_definition.specs.Lowering.{lowered, code_of}
use Rattle.native_lowering_definition.specs.Locations.{register_of}
use Rattle.native_lowering_definition.specs.Operating.{Block, copy, divisor, divisor_tested, divisor_tested_signed, divides_by_ecx, divided_in, divides_unsigned_by_power, divides_by, operates}
use Rattle.native_lowering_definition.specs.Powers.{power_known}
use Rattle.native_lowering_definition.proofs.Powers.{power_is}
use Rattle.native_lowering_numbers.proofs.Quotients.{tested, unsigned_quotient, both_answer}
use Rattle.native_lowering_numbers.proofs.Shifts.{shifted_out}
use Rattle.native_lowering_relation.specs.Knowing.{Answers}
use Rattle.native_lowering_relation.specs.Related.{Related}
use Rattle.native_lowering_relation.proofs.Agreeing.{agree_at, word_is}
use Rattle.native_lowering_relation.proofs.Knowing.{knows_at, knows_word}
use Rattle.native_lowering_walks.specs.Walks.{then as onward, walks, GoStraight}
use Rattle.native_lowering_walks.proofs.Straight.{compare_with_below, stop_if_below, copy_below, set_below, do_below, do_with_below, turn_below, extend_below, divide_below, divide_unsigned_below}
use Rattle.native_lowering_runs.specs.Reaching.{Reaches}
use Rattle.native_lowering_runs.proofs.Blocks.{AllBelow, below_then, walks_then}
use Rattle.native_lowering_runs.proofs.Registers.{number_is}
use Rattle.native_lowering_operators.proofs.Copying.{LeavesIt, straight_copy, count_copy, copy_walks}
use Rattle.native_lowering_operators.proofs.Scratched.{not_scratched, one_scratched}
use Rattle.native_lowering_operators.proofs.Written.{Scratch, written_here, left_with, writes_reaches}
use Rattle.native_lowering_checked.proofs.Passing.{same_word, goes_past}
use Rattle.native_lowering_checked.proofs.Rounding.{quotient_reaches, rest_reaches}

-- what the division gives of the words in edx, eax and ecx, and what is wanted of it
abbrev pub both_of : Bool → ℕ → ℕ → Option (ℕ × ℕ)
both_of true x y = divided (sign_of x) x y
both_of false x y = divided_unsigned 0 x y

abbrev pub wanted : Bool → ℕ × ℕ → ℕ
wanted true pair = pair.0
wanted false pair = pair.1

-- the high half: the sign, or 0
abbrev high_of : Bool → ℕ → ℕ
high_of true x = sign_of x
high_of false x = 0

-- the registers at the division and behind it
abbrev pub before_it : List ℕ → ℕ → ℕ → List ℕ
before_it words x high = slice_set (slice_set words 8 x) 10 high

abbrev pub behind_it : List ℕ → ℕ → ℕ → ℕ × ℕ → List ℕ
behind_it words x high pair = slice_set (slice_set (before_it words x high) 8 pair.0) 10 pair.1

wanted_in : (quotient : Bool) (words : List ℕ) (x high : ℕ) (pair : ℕ × ℕ) → length words ≡ 13 → word_in (divided_in quotient) (behind_it words x high pair) ≡ wanted quotient pair
unfolding number_of
wanted_in true words x high pair full =
    get_or-set_other (slice_set (before_it words x high) 8 pair.0) 10 8 pair.1 0 (λ e. omega (arith, e))
    ∙ get_or-set_same (before_it words x high) 8 pair.0 0 (omega (arith, length-set (slice_set words 8 x) 10 high, length-set words 8 x, full))
wanted_in false words x high pair full =
    get_or-set_same (slice_set (before_it words x high) 8 pair.0) 10 pair.1 0
    (omega (arith, length-set (before_it words x high) 8 pair.0, length-set (slice_set words 8 x) 10 high, length-set words 8 x, full))

-- the last instruction of an unsigned division by 2 ^ k, and the flags behind it
abbrev last_of : Bool → ℕ → ℕ → Instruction
last_of true d k = n.Shift Shr (register_of d) k
last_of false d k = n.DoWith o.And (register_of d) (2 ^ k - 1)

abbrev flags_behind : Bool → ℕ → ℕ → Option (ℕ × ℕ)
flags_behind true x k = None
flags_behind false x k = Some (x % 2 ^ k, 0)

power_answers : (quotient : Bool) (d x k : ℕ) (words : List ℕ) → d < length words
    → Answers (flag_behind_power (Some k) false quotient d) (flags_behind quotient x k) (slice_set words d (wanted quotient (x / 2 ^ k, x % 2 ^ k)))
unfolding condition_table
power_answers true d x k words within = tt
power_answers false d x k words within = ap (λ n. not (nat_eq n 0)) (sym (get_or-set_same words d (x % 2 ^ k) 0 within))

power_block : (quotient : Bool) (d a k : ℕ) → divides_unsigned_by_power quotient d a k ≡ copy d a ++ last_of quotient d k ∷ []
power_block true d a k = refl
power_block false d a k = refl

module _ (p : Program FunctionData) (room : Option ℕ) (s : State) (t : Native) (related : Related p s t) where
  abbrev f : FunctionData
  f = related.named.function

  abbrev facts : Facts
  facts = facts_in f s.place

  abbrev To : ℕ → ℕ → Type 0
  To d r = Reaches p room (record s { place = s.place + 1; here = written_here p room s t related d r }) t

  abbrev Walk : Block → Native → Native → Type 0
  Walk b u v = walks (lowered p).functions room (code_of p f) b u ≡ Goes v

  word_here : (r x : ℕ) → value_at (InRegister r) s.here ≡ Some x → slice_index t.registers r ≡ x
  word_here r x defined = word_is (value_at (InRegister r) s.here) (slice_index t.registers r) x (agree_at s.here.registers t.registers r related.holds.agree) defined

  -- ---- the division, where the divisor is in ecx

  abbrev the_rest : Bool → Bool → ℕ → ℕ → Block
  the_rest signed quotient d a = divides_by_ecx signed a ++ n.Copy (register_of d) (divided_in quotient) ∷ []

  rest_straight : (signed quotient : Bool) (d a : ℕ) → GoStraight (the_rest signed quotient d a)
  rest_straight true quotient d a = (copy_below Eax (register_of a), (extend_below, (divide_below Ecx, tt)))
  rest_straight false quotient d a = (copy_below Eax (register_of a), (set_below Edx 0, (divide_unsigned_below Ecx, tt)))

  rest_count : (signed quotient : Bool) (d a : ℕ) → length (the_rest signed quotient d a) ≡ 4
  rest_count true quotient d a = refl
  rest_count false quotient d a = refl

  eax_is : (words : List ℕ) (x high : ℕ) → length words ≡ 13 → slice_index (before_it words x high) 8 ≡ x
  eax_is words x high full = get_or-set_other (slice_set words 8 x) 10 8 high 0 (λ e. omega (arith, e)) ∙ get_or-set_same words 8 x 0 (omega (arith, full))

  ecx_is : (words : List ℕ) (x high y : ℕ) → slice_index words 9 ≡ y → slice_index (before_it words x high) 9 ≡ y
  ecx_is words x high y e = get_or-set_other (slice_set words 8 x) 10 9 high 0 (λ e. omega (arith, e)) ∙ get_or-set_other words 8 9 x 0 (λ e. omega (arith, e)) ∙ e

  edx_is : (words : List ℕ) (x high : ℕ) → length words ≡ 13 → slice_index (before_it words x high) 10 ≡ high
  edx_is words x high full = get_or-set_same (slice_set words 8 x) 10 high 0 (omega (arith, length-set words 8 x, full))

  rest_walks : (signed quotient : Bool) (d a x y : ℕ) (pair : ℕ × ℕ) (u : Native) → d < 8 → a < 8 → length u.registers ≡ 13 → slice_index u.registers a ≡ x → slice_index u.registers 9 ≡ y
      → both_of signed x y ≡ Some pair
      → Walk (the_rest signed quotient d a) u (record u { place = u.place + 4; registers = slice_set (behind_it u.registers x (high_of signed x) pair) d (wanted quotient pair); flags = None })
  unfolding number_of
  rest_walks true quotient d a x y pair u near near' full left_is right_is result =
      let high = sign_of x in
      let ws = before_it u.registers x high in
      let v = record u { place = u.place + 1 + 1; registers = ws } in
      let a_word : slice_index u.registers (number_of (register_of a)) ≡ x = ap (slice_index u.registers) (number_is a near') ∙ left_is in
      let signed_x : sign_of (slice_index (slice_set u.registers 8 x) 8) ≡ high = ap sign_of (get_or-set_same u.registers 8 x 0 (omega (arith, full))) in
      let divide : divided (slice_index ws 10) (slice_index ws 8) (slice_index ws 9) ≡ Some pair =
      (λ i. divided (edx_is u.registers x high full i) (eax_is u.registers x high full i) (ecx_is u.registers x high y right_is i)) ∙ result in
      let four : u.place + 1 + 1 + 1 + 1 ≡ u.place + 4 = omega arith in
      ap (λ k. walks (lowered p).functions room (code_of p f) (n.Extend ∷ n.Divide Ecx ∷ n.Copy (register_of d) (divided_in quotient) ∷ []) (record u { place = u.place + 1; registers = slice_set u.registers 8 k })) a_word
      ∙ ap (λ k. walks (lowered p).functions room (code_of p f) (n.Divide Ecx ∷ n.Copy (register_of d) (divided_in quotient) ∷ []) (record u { place = u.place + 1 + 1; registers = slice_set (slice_set u.registers 8 x) 10 k })) signed_x
      ∙ ap (λ q. onward (does (option_map (with_quotient v) q)) (walks (lowered p).functions room (code_of p f) (n.Copy (register_of d) (divided_in quotient) ∷ []))) divide
      ∙ (λ i. Goes (record u { place = four i; registers = slice_set (behind_it u.registers x high pair) (number_is d near i) (wanted_in quotient u.registers x high pair full i); flags = None }))
  rest_walks false quotient d a x y pair u near near' full left_is right_is result =
      let ws = before_it u.registers x 0 in
      let v = record u { place = u.place + 1 + 1; registers = ws } in
      let a_word : slice_index u.registers (number_of (register_of a)) ≡ x = ap (slice_index u.registers) (number_is a near') ∙ left_is in
      let divide : divided_unsigned (slice_index ws 10) (slice_index ws 8) (slice_index ws 9) ≡ Some pair =
      (λ i. divided_unsigned (edx_is u.registers x 0 full i) (eax_is u.registers x 0 full i) (ecx_is u.registers x 0 y right_is i)) ∙ result in
      let four : u.place + 1 + 1 + 1 + 1 ≡ u.place + 4 = omega arith in
      ap (λ k. walks (lowered p).functions room (code_of p f) (n.Set Edx 0 ∷ n.DivideU Ecx ∷ n.Copy (register_of d) (divided_in quotient) ∷ []) (record u { place = u.place + 1; registers = slice_set u.registers 8 k })) a_word
      ∙ ap (λ q. onward (does (option_map (with_quotient v) q)) (walks (lowered p).functions room (code_of p f) (n.Copy (register_of d) (divided_in quotient) ∷ []))) divide
      ∙ (λ i. Goes (record u { place = four i; registers = slice_set (behind_it u.registers x 0 pair) (number_is d near i) (wanted_in quotient u.registers x 0 pair full i); flags = None }))

  -- ---- the divisor goes to ecx

  more : (words' : List ℕ) (k w : ℕ) → 8 ≤ k → Scratch p room s t related words' → Scratch p room s t related (slice_set words' k w)
  more words' k w high so = one_scratched f s.here.registers s.here.slots related.held t.registers words' k w high so

  unchanged : Scratch p room s t related t.registers
  unchanged = not_scratched f s.here.registers s.here.slots related.held t.registers related.holds

  -- after these steps of a block the divisor is in ecx
  pub record InEcx (first : Block) (y : ℕ) : Type 0 where
    pub words : List ℕ
    pub flags : Option (ℕ × ℕ)
    pub scratch : Scratch p room s t related words
    pub ecx : slice_index words 9 ≡ y
    pub below : AllBelow first
    pub walk : Walk first t (record t { place = t.place + length first; registers = words; flags = flags })

  from_ecx : (op : Op) (signed quotient : Bool) (d a b x y : ℕ) (pair : ℕ × ℕ) (first : Block) → kind_of op ≡ Divides signed quotient → slice_get f.code s.place ≡ Some (l.Do (Operate op d (Two a b)))
      → d < 8 → a < 8 → value_at (InRegister a) s.here ≡ Some x → both_of signed x y ≡ Some pair → power_known (known b facts) signed ≡ None → divisor signed a b (known b facts) ≡ first → InEcx first y → To d (wanted quotient pair)
  from_ecx op signed quotient d a b x y pair first kind at near near' left_is result none is_it in_ecx =
      let high = high_of signed x in
      let words = behind_it in_ecx.words x high pair in
      let r = wanted quotient pair in
      let u = record t { place = t.place + length first; registers = in_ecx.words; flags = in_ecx.flags } in
      let blk = first ++ the_rest signed quotient d a in
      let count : length blk ≡ suc (length first + 3) = length-append first (the_rest signed quotient d a) ∙ ap (λ k. length first + k) (rest_count signed quotient d a) ∙ omega arith in
      let far : t.place + length first + 4 ≡ t.place + suc (length first + 3) = omega arith in
      writes_reaches p room s t related (l.Do (Operate op d (Two a b))) blk (length first + 3) d r None None words (record {
        at = at;
        is_it = ap (λ k. operates k d (Two a b) facts) kind ∙ ap (λ o. divides_by o signed quotient d a b (known b facts)) none ∙ ap (λ z. z ++ the_rest signed quotient d a) is_it;
        count = count;
        target = refl;
        leaves = ap (λ k. left d (flag_left k (Two a b) d facts) facts) kind ∙ ap (λ o. left d (flag_behind_power o signed quotient d) facts) none;
        straight = below_then first (the_rest signed quotient d a) in_ecx.below (rest_straight signed quotient d a);
        scratch = more (slice_set (before_it in_ecx.words x high) 8 pair.0) 10 pair.1 (omega arith)
            (more (before_it in_ecx.words x high) 8 pair.0 (omega arith) (more (slice_set in_ecx.words 8 x) 10 high (omega arith) (more in_ecx.words 8 x (omega arith) in_ecx.scratch)));
        answers = tt;
        walk = walks_then (lowered p).functions room (code_of p f) first (the_rest signed quotient d a) t u (Goes (left_with p room s t related (suc (length first + 3)) None words d r)) in_ecx.walk
            (rest_walks signed quotient d a x y pair u near near' in_ecx.scratch.holds.thirteen (in_ecx.scratch.same a near' ∙ word_here a x left_is) in_ecx.ecx result
            ∙ ap (λ k. Goes (record t { place = k; registers = slice_set words d r; flags = None })) far);
      })

  known_in : (y : ℕ) → InEcx (n.Set Ecx y ∷ []) y
  unfolding number_of
  known_in y = record {
    words = slice_set t.registers 9 y;
    flags = t.flags;
    scratch = more t.registers 9 y (omega arith) unchanged;
    ecx = get_or-set_same t.registers 9 y 0 (omega (arith, related.holds.thirteen));
    below = (set_below Ecx y, tt);
    walk = refl;
  }

  b_word : (b y : ℕ) → b < 8 → value_at (InRegister b) s.here ≡ Some y → slice_index t.registers (number_of (register_of b)) ≡ y
  b_word b y near right_is = ap (slice_index t.registers) (number_is b near) ∙ word_here b y right_is

  tested_in : (b y : ℕ) → b < 8 → value_at (InRegister b) s.here ≡ Some y → nat_eq y 0 ≡ false → InEcx (divisor_tested b) y
  unfolding number_of condition_table
  tested_in b y near right_is some =
      let word_is_it = b_word b y near right_is in
      let three : t.place + 1 + 1 + 1 ≡ t.place + 3 = omega arith in
      record {
        words = slice_set t.registers 9 y;
        flags = Some (y, 0);
        scratch = more t.registers 9 y (omega arith) unchanged;
        ecx = get_or-set_same t.registers 9 y 0 (omega (arith, related.holds.thirteen));
        below = (compare_with_below (register_of b) 0, (stop_if_below Equal, (copy_below Ecx (register_of b), tt)));
        walk = ap (λ k. walks (lowered p).functions room (code_of p f) (n.StopIf Equal ∷ n.Copy Ecx (register_of b) ∷ []) (record t { place = t.place + 1; flags = Some (k, 0) })) word_is_it
            ∙ ap (λ z. onward z (walks (lowered p).functions room (code_of p f) (n.Copy Ecx (register_of b) ∷ [])))
            (goes_past (lowered p).functions room (code_of p f) (record t { place = t.place + 1; flags = Some (y, 0) }) Equal y 0 refl some)
            ∙ (λ i. Goes (record t { place = three i; registers = slice_set t.registers 9 (word_is_it i); flags = Some (y, 0) }));
      }

  -- the registers during the second test
  abbrev xored : ℕ → List ℕ
  xored x = slice_set (slice_set t.registers 9 x) 9 (operated o.Xor x (2 ^ 31))

  abbrev complemented : ℕ → ℕ → List ℕ
  complemented x y = slice_set (slice_set (xored x) 10 y) 10 (turned turn.Not y)

  abbrev ored : ℕ → ℕ → List ℕ
  ored x y = slice_set (complemented x y) 9 (tested x y)

  abbrev behind_or : ℕ → Block
  behind_or b = n.StopIf Equal ∷ n.Copy Ecx (register_of b) ∷ []

  abbrev behind_copy : ℕ → Block
  behind_copy b = n.Turn turn.Not Edx ∷ n.Do o.Or Ecx Edx ∷ behind_or b

  abbrev behind_first : ℕ → ℕ → Block
  behind_first a b = n.Copy Ecx (register_of a) ∷ n.DoWith o.Xor Ecx (2 ^ 31) ∷ n.Copy Edx (register_of b) ∷ behind_copy b

  below_nine : (r w : ℕ) (words : List ℕ) → r < 8 → slice_index (slice_set words 9 w) r ≡ slice_index words r
  below_nine r w words near = get_or-set_other words 9 r w 0 (λ e. omega (arith, e, near))

  below_ten : (r w : ℕ) (words : List ℕ) → r < 8 → slice_index (slice_set words 10 w) r ≡ slice_index words r
  below_ten r w words near = get_or-set_other words 10 r w 0 (λ e. omega (arith, e, near))

  signed_walk : (a b x y : ℕ) → a < 8 → b < 8 → value_at (InRegister a) s.here ≡ Some x → value_at (InRegister b) s.here ≡ Some y → nat_eq y 0 ≡ false → nat_eq (tested x y) 0 ≡ false
      → Walk (divisor_tested_signed a b) t (record t { place = t.place + 9; registers = slice_set (ored x y) 9 y; flags = Some (tested x y, 0) })
  unfolding number_of condition_table operated turned flags_of
  signed_walk a b x y near near' left_is right_is some fits =
      let code = code_of p f in
      let fs = (lowered p).functions in
      let full1 : length (slice_set t.registers 9 x) ≡ 13 = length-set t.registers 9 x ∙ related.holds.thirteen in
      let full2 : length (xored x) ≡ 13 = length-set (slice_set t.registers 9 x) 9 (operated o.Xor x (2 ^ 31)) ∙ full1 in
      let full3 : length (slice_set (xored x) 10 y) ≡ 13 = length-set (xored x) 10 y ∙ full2 in
      let b_is = b_word b y near' right_is in
      let a_is : slice_index t.registers (number_of (register_of a)) ≡ x = ap (slice_index t.registers) (number_is a near) ∙ word_here a x left_is in
      let ecx_x : slice_index (slice_set t.registers 9 x) 9 ≡ x = get_or-set_same t.registers 9 x 0 (omega (arith, related.holds.thirteen)) in
      let b_again : slice_index (xored x) (number_of (register_of b)) ≡ y =
      ap (slice_index (xored x)) (number_is b near') ∙ below_nine b (operated o.Xor x (2 ^ 31)) (slice_set t.registers 9 x) near' ∙ below_nine b x t.registers near' ∙ word_here b y right_is in
      let edx_y : slice_index (slice_set (xored x) 10 y) 10 ≡ y = get_or-set_same (xored x) 10 y 0 (omega (arith, full2)) in
      let edx_not : slice_index (complemented x y) 10 ≡ turned turn.Not y = get_or-set_same (slice_set (xored x) 10 y) 10 (turned turn.Not y) 0 (omega (arith, full3)) in
      let ecx_xor : slice_index (complemented x y) 9 ≡ operated o.Xor x (2 ^ 31) =
      get_or-set_other (slice_set (xored x) 10 y) 10 9 (turned turn.Not y) 0 (λ e. omega (arith, e))
      ∙ get_or-set_other (xored x) 10 9 y 0 (λ e. omega (arith, e))
      ∙ get_or-set_same (slice_set t.registers 9 x) 9 (operated o.Xor x (2 ^ 31)) 0 (omega (arith, full1)) in
      let or_is : operated o.Or (slice_index (complemented x y) 9) (slice_index (complemented x y) 10) ≡ tested x y = λ i. operated o.Or (ecx_xor i) (edx_not i) in
      let b_last : slice_index (ored x y) (number_of (register_of b)) ≡ y =
      ap (slice_index (ored x y)) (number_is b near') ∙ below_nine b (tested x y) (complemented x y) near' ∙ below_ten b (turned turn.Not y) (slice_set (xored x) 10 y) near' ∙ below_ten b y (xored x) near'
      ∙ ap (slice_index (xored x)) (sym (number_is b near')) ∙ b_again in
      let nine : t.place + 1 + 1 + 1 + 1 + 1 + 1 + 1 + 1 + 1 ≡ t.place + 9 = omega arith in
      ap (λ k. walks fs room code (n.StopIf Equal ∷ behind_first a b) (record t { place = t.place + 1; flags = Some (k, 0) })) b_is
      ∙ ap (λ z. onward z (walks fs room code (behind_first a b))) (goes_past fs room code (record t { place = t.place + 1; flags = Some (y, 0) }) Equal y 0 refl some)
      ∙ ap (λ k. walks fs room code (n.DoWith o.Xor Ecx (2 ^ 31) ∷ n.Copy Edx (register_of b) ∷ behind_copy b) (record t { place = t.place + 1 + 1 + 1; registers = slice_set t.registers 9 k; flags = Some (y, 0) })) a_is
      ∙ ap (λ k. walks fs room code (n.Copy Edx (register_of b) ∷ behind_copy b)
      (record t { place = t.place + 1 + 1 + 1 + 1; registers = slice_set (slice_set t.registers 9 x) 9 (operated o.Xor k (2 ^ 31)); flags = Some (operated o.Xor k (2 ^ 31), 0) })) ecx_x
      ∙ ap (λ k. walks fs room code (behind_copy b) (record t { place = t.place + 1 + 1 + 1 + 1 + 1; registers = slice_set (xored x) 10 k; flags = Some (operated o.Xor x (2 ^ 31), 0) })) b_again
      ∙ ap (λ k. walks fs room code (n.Do o.Or Ecx Edx ∷ behind_or b) (record t { place = t.place + 1 + 1 + 1 + 1 + 1 + 1; registers = slice_set (slice_set (xored x) 10 y) 10 (turned turn.Not k); flags = Some (operated o.Xor x (2 ^ 31), 0) })) edx_y
      ∙ ap (λ k. walks fs room code (behind_or b) (record t { place = t.place + 1 + 1 + 1 + 1 + 1 + 1 + 1; registers = slice_set (complemented x y) 9 k; flags = Some (k, 0) })) or_is
      ∙ ap (λ z. onward z (walks fs room code (n.Copy Ecx (register_of b) ∷ [])))
      (goes_past fs room code (record t { place = t.place + 1 + 1 + 1 + 1 + 1 + 1 + 1; registers = ored x y; flags = Some (tested x y, 0) }) Equal (tested x y) 0 refl fits)
      ∙ (λ i. Goes (record t { place = nine i; registers = slice_set (ored x y) 9 (b_last i); flags = Some (tested x y, 0) }))

  signed_in : (a b x y : ℕ) → a < 8 → b < 8 → value_at (InRegister a) s.here ≡ Some x → value_at (InRegister b) s.here ≡ Some y → nat_eq y 0 ≡ false → nat_eq (tested x y) 0 ≡ false → InEcx (divisor_tested_signed a b) y
  signed_in a b x y near near' left_is right_is some fits = record {
    words = slice_set (ored x y) 9 y;
    flags = Some (tested x y, 0);
    scratch = more (ored x y) 9 y (omega arith)
        (more (complemented x y) 9 (tested x y) (omega arith)
        (more (slice_set (xored x) 10 y) 10 (turned turn.Not y) (omega arith)
        (more (xored x) 10 y (omega arith)
        (more (slice_set t.registers 9 x) 9 (operated o.Xor x (2 ^ 31)) (omega arith) (more t.registers 9 x (omega arith) unchanged)))));
    ecx = get_or-set_same (ored x y) 9 y 0 (omega (
      arith,
      length-set (complemented x y) 9 (tested x y),
      length-set (slice_set (xored x) 10 y) 10 (turned turn.Not y),
      length-set (xored x) 10 y,
      length-set (slice_set t.registers 9 x) 9 (operated o.Xor x (2 ^ 31)),
      length-set t.registers 9 x,
      related.holds.thirteen,
    ));
    below = (
      compare_with_below (register_of b) 0,
      (
        stop_if_below Equal,
        (
          copy_below Ecx (register_of a),
          (
            do_with_below o.Xor Ecx (2 ^ 31),
            (copy_below Edx (register_of b), (turn_below turn.Not Edx, (do_below o.Or Ecx Edx, (stop_if_below Equal, (copy_below Ecx (register_of b), tt))))),
          ),
        ),
      ),
    );
    walk = signed_walk a b x y near near' left_is right_is some fits;
  }

  -- ---- both kinds, whether the divisor is known or not

  abbrev Passes : Bool → ℕ → ℕ → Type 0
  Passes true x y = nat_eq (tested x y) 0 ≡ false
  Passes false x y = Unit {0}

  by_test : (op : Op) (signed quotient : Bool) (d a b x y : ℕ) (pair : ℕ × ℕ) → kind_of op ≡ Divides signed quotient → slice_get f.code s.place ≡ Some (l.Do (Operate op d (Two a b)))
      → d < 8 → a < 8 → b < 8 → value_at (InRegister a) s.here ≡ Some x → value_at (InRegister b) s.here ≡ Some y → both_of signed x y ≡ Some pair → nat_eq y 0 ≡ false → Passes signed x y
      → power_known (known b facts) signed ≡ None → divisor signed a b (known b facts) ≡ divisor signed a b None → To d (wanted quotient pair)
  by_test op true quotient d a b x y pair kind at near near' near'' left_is right_is result some fits none is_it =
      from_ecx op true quotient d a b x y pair (divisor_tested_signed a b) kind at near near' left_is result none is_it (signed_in a b x y near' near'' left_is right_is some fits)
  by_test op false quotient d a b x y pair kind at near near' near'' left_is right_is result some fits none is_it =
      from_ecx op false quotient d a b x y pair (divisor_tested b) kind at near near' left_is result none is_it (tested_in b y near'' right_is some)

  by_word : (op : Op) (signed quotient : Bool) (d a b x y : ℕ) (pair : ℕ × ℕ) → kind_of op ≡ Divides signed quotient → slice_get f.code s.place ≡ Some (l.Do (Operate op d (Two a b)))
      → d < 8 → a < 8 → value_at (InRegister a) s.here ≡ Some x → both_of signed x y ≡ Some pair → power_known (known b facts) signed ≡ None → divisor signed a b (known b facts) ≡ n.Set Ecx y ∷ [] → To d (wanted quotient pair)
  by_word op signed quotient d a b x y pair kind at near near' left_is result none is_it =
      from_ecx op signed quotient d a b x y pair (n.Set Ecx y ∷ []) kind at near near' left_is result none is_it (known_in y)

  -- the choice where the divisor is known
  abbrev tells : Bool → ℕ → Bool
  tells true w = w == 0 || w == 2 ^ 32 - 1
  tells false w = w == 0

  choice : (signed : Bool) (a b w : ℕ) → divisor signed a b (Some w) ≡ (if tells signed w then divisor signed a b None else n.Set Ecx w ∷ [])
  choice true a b w = refl
  choice false a b w = refl

  -- what the facts know is so
  known_is : (b w : ℕ) → known b facts ≡ Some w → value_at (InRegister b) s.here ≡ Some w
  known_is b w e = knows_word (known b facts) (value_at (InRegister b) s.here) w (knows_at facts.words s.here.registers b related.known.known) e

  -- ---- by a power of two that is known

  same_pair : (x y : ℕ) (pair : ℕ × ℕ) → nat_eq y 0 ≡ false → both_of false x y ≡ Some pair → (x / y, x % y) ≡ pair
  same_pair x y pair some result = let same : Some (x / y, x % y) ≡ Some pair = sym (unsigned_quotient x y some) ∙ result in cc

  -- the word that the last instruction leaves
  abbrev Last : Bool → ℕ → ℕ → ℕ → Type 0
  Last quotient d x k = LeavesIt (lowered p).functions room (code_of p f) t d d x (wanted quotient (x / 2 ^ k, x % 2 ^ k)) (flags_behind quotient x k) (last_of quotient d k)

  shifted_last : (d x k : ℕ) → d < 8 → k < 32 → Last true d x k
  shifted_last d x k near few = λ v here others flags.
      let left_word : word (register_of d) v ≡ x = ap (slice_index v.registers) (number_is d near) ∙ here in
      ap (λ w. does (option_map (λ q. with_flags None (put (register_of d) q v)) (shifted Shr w k))) left_word
      ∙ ap (λ q. does (option_map (λ w. with_flags None (put (register_of d) w v)) q)) (shifted_out x k few)
      ∙ (λ i. Goes (record v { place = v.place + 1; registers = slice_set v.registers (number_is d near i) (x / 2 ^ k); flags = None }))

  masked_last : (d x k : ℕ) → d < 8 → Last false d x k
  unfolding operated flags_of
  masked_last d x k near = λ v here others flags.
      let left_word : word (register_of d) v ≡ x = ap (slice_index v.registers) (number_is d near) ∙ here in
      let rest : bit_and (word (register_of d) v) (2 ^ k - 1) ≡ x % 2 ^ k = ap (λ w. bit_and w (2 ^ k - 1)) left_word ∙ and_mask x k in
      λ i. Goes (record v { place = v.place + 1; registers = slice_set v.registers (number_is d near i) (rest i); flags = Some (rest i, 0) })

  last_leaves : (quotient : Bool) (d x k : ℕ) → d < 8 → k < 32 → Last quotient d x k
  last_leaves true d x k near few = shifted_last d x k near few
  last_leaves false d x k near few = masked_last d x k near

  by_power : (op : Op) (quotient : Bool) (d a b x k : ℕ) → kind_of op ≡ Divides false quotient → slice_get f.code s.place ≡ Some (l.Do (Operate op d (Two a b)))
      → d < 8 → a < 8 → value_at (InRegister a) s.here ≡ Some x → power_known (known b facts) false ≡ Some k → k < 32 → To d (wanted quotient (x / 2 ^ k, x % 2 ^ k))
  by_power op quotient d a b x k kind at near near' left_is power few =
      let last = last_of quotient d k in
      let r = wanted quotient (x / 2 ^ k, x % 2 ^ k) in
      writes_reaches p room s t related (l.Do (Operate op d (Two a b))) (copy d a ++ last ∷ []) (length (copy d a)) d r (flag_behind_power (Some k) false quotient d) (flags_behind quotient x k) t.registers (record {
        at = at;
        is_it = ap (λ k. operates k d (Two a b) facts) kind ∙ ap (λ o. divides_by o false quotient d a b (known b facts)) power ∙ power_block quotient d a k;
        count = count_copy d a last;
        target = refl;
        leaves = ap (λ k. left d (flag_left k (Two a b) d facts) facts) kind ∙ ap (λ o. left d (flag_behind_power o false quotient d) facts) power;
        straight = straight_copy d a last;
        scratch = unchanged;
        answers = power_answers quotient d x k t.registers (omega (arith, near, related.holds.thirteen));
        walk = copy_walks (lowered p).functions room (code_of p f) t d a x r (flags_behind quotient x k) last near' near related.holds.thirteen (word_here a x left_is) (last_leaves quotient d x k near few);
      })

  -- the same, read as signed
  abbrev signed_pair : ℕ → ℕ → ℕ × ℕ
  signed_pair x y = (wrapped (int_div (number x) (number y)), wrapped (int_rem (number x) (number y)))

  same_signed_pair : (x y : ℕ) (pair : ℕ × ℕ) → x < 2 ^ 32 → y < 2 ^ 32 → nat_eq y 0 ≡ false → nat_eq (tested x y) 0 ≡ false → both_of true x y ≡ Some pair → signed_pair x y ≡ pair
  same_signed_pair x y pair small small' some fits result = let same : Some (signed_pair x y) ≡ Some pair = sym (both_answer x y small small' some fits) ∙ result in cc

  by_signed_power : (op : Op) (quotient : Bool) (d a b x k : ℕ) → kind_of op ≡ Divides true quotient → slice_get f.code s.place ≡ Some (l.Do (Operate op d (Two a b)))
      → d < 8 → a < 8 → value_at (InRegister a) s.here ≡ Some x → x < 2 ^ 32 → power_known (known b facts) true ≡ Some k → k < 31 → To d (wanted quotient (signed_pair x (2 ^ k)))
  by_signed_power op true d a b x k kind at near near' left_is small power few = quotient_reaches p room s t related op d a b x k kind at near near' left_is small power few
  by_signed_power op false d a b x k kind at near near' left_is small power few = rest_reaches p room s t related op d a b x k kind at near near' left_is small power few

  -- the divisor is not known, or no power of two
  with_known : (op : Op) (signed quotient : Bool) (d a b x y : ℕ) (pair : ℕ × ℕ) (k : Option ℕ) → kind_of op ≡ Divides signed quotient → slice_get f.code s.place ≡ Some (l.Do (Operate op d (Two a b)))
      → d < 8 → a < 8 → b < 8 → value_at (InRegister a) s.here ≡ Some x → value_at (InRegister b) s.here ≡ Some y → both_of signed x y ≡ Some pair → nat_eq y 0 ≡ false → Passes signed x y
      → power_known (known b facts) signed ≡ None → known b facts ≡ k → To d (wanted quotient pair)
  with_known op signed quotient d a b x y pair None kind at near near' near'' left_is right_is result some fits none e =
      by_test op signed quotient d a b x y pair kind at near near' near'' left_is right_is result some fits none (ap (divisor signed a b) e)
  with_known op signed quotient d a b x y pair (Some w) kind at near near' near'' left_is right_is result some fits none e = by (tells signed w) refl
    where
      chosen : (c : Bool) → tells signed w ≡ c → divisor signed a b (known b facts) ≡ (if c then divisor signed a b None else n.Set Ecx w ∷ [])
      chosen c told = ap (divisor signed a b) e ∙ choice signed a b w ∙ ap (λ z. if z then divisor signed a b None else n.Set Ecx w ∷ []) told

      by : (c : Bool) → tells signed w ≡ c → To d (wanted quotient pair)
      by true told = by_test op signed quotient d a b x y pair kind at near near' near'' left_is right_is result some fits none (chosen true told)
      by false told =
          let same : w ≡ y = same_word (value_at (InRegister b) s.here) w y (known_is b w e) right_is in
          by_word op signed quotient d a b x y pair kind at near near' left_is result none (chosen false told ∙ ap (λ z. n.Set Ecx z ∷ []) same)

  chosen_by : (op : Op) (signed quotient : Bool) (d a b x y : ℕ) (pair : ℕ × ℕ) (o : Option ℕ) → kind_of op ≡ Divides signed quotient → slice_get f.code s.place ≡ Some (l.Do (Operate op d (Two a b)))
      → d < 8 → a < 8 → b < 8 → value_at (InRegister a) s.here ≡ Some x → value_at (InRegister b) s.here ≡ Some y → both_of signed x y ≡ Some pair → nat_eq y 0 ≡ false → Passes signed x y
      → x < 2 ^ 32 → power_known (known b facts) signed ≡ o → To d (wanted quotient pair)
  chosen_by op signed quotient d a b x y pair None kind at near near' near'' left_is right_is result some fits small e =
      with_known op signed quotient d a b x y pair (known b facts) kind at near near' near'' left_is right_is result some fits e refl
  chosen_by op true quotient d a b x y pair (Some k) kind at near near' near'' left_is right_is result some fits small e =
      let so = power_is (known b facts) true k e in
      let same : 2 ^ k ≡ y = same_word (value_at (InRegister b) s.here) (2 ^ k) y (known_is b (2 ^ k) so.word) right_is in
      let small' : y < 2 ^ 32 = subst (λ w. w < 2 ^ 32) same (pow_below k 32 so.below) in
      subst (λ z. To d (wanted quotient z)) (ap (signed_pair x) same ∙ same_signed_pair x y pair small small' some fits result)
      (by_signed_power op quotient d a b x k kind at near near' left_is small e (so.low refl))
  chosen_by op false quotient d a b x y pair (Some k) kind at near near' near'' left_is right_is result some fits small e =
      let so = power_is (known b facts) false k e in
      let same : 2 ^ k ≡ y = same_word (value_at (InRegister b) s.here) (2 ^ k) y (known_is b (2 ^ k) so.word) right_is in
      subst (λ z. To d (wanted quotient z)) ((λ i. (x / same i, x % same i)) ∙ same_pair x y pair some result)
      (by_power op quotient d a b x k kind at near near' left_is e so.below)

  -- the quotient or the rest, where the tests pass
  pub divides_reaches : (op : Op) (signed quotient : Bool) (d a b x y : ℕ) (pair : ℕ × ℕ) → kind_of op ≡ Divides signed quotient → slice_get f.code s.place ≡ Some (l.Do (Operate op d (Two a b)))
      → d < 8 → a < 8 → b < 8 → value_at (InRegister a) s.here ≡ Some x → value_at (InRegister b) s.here ≡ Some y → both_of signed x y ≡ Some pair → nat_eq y 0 ≡ false → Passes signed x y
      → x < 2 ^ 32 → To d (wanted quotient pair)
  divides_reaches op signed quotient d a b x y pair kind at near near' near'' left_is right_is result some fits small =
      chosen_by op signed quotient d a b x y pair (power_known (known b facts) signed) kind at near near' near'' left_is right_is result some fits small refl
