-- A signed division by 2 ^ k: what the shift or the mask leaves of A, rounded toward 0.
use Rattle.std.proofs.Common.{◌≡◌, ℕ, suc, ◌+◌, ◌-◌, ◌^◌, ◌<◌, ◌≤◌, true, false, List, [], ◌∷◌, ◌++◌, length, Option, Some, None, refl, sym, ap, subst, ◌∙◌, arith}
use Rattle.std.specs.Prelude.{slice_get, slice_index, slice_set, int_div, int_rem, bit_and}
use Rattle.std.specs.Option.{option_map}
use Rattle.std.proofs.lemmas.List.{get_or-set_same, get_or-set_other, length-set}
use Rattle.ints.specs.Words.{signed, wrapped}
use Rattle.ints.specs.declared.operators.Op.{Op}
use Rattle.lang_base.specs.declared.program.Program.{Program}
use Rattle.locations.specs.declared.location.Location.TheVariants.{InRegister}
use Rattle.machine.specs.Data.{value_at}
use Rattle.machine.specs.Frames.{State}
use Rattle.machine.specs.declared.act.Act.TheVariants.{Operate}
use Rattle.machine.specs.declared.arguments.Arguments.TheVariants.{Two}
use Rattle.linear_language.specs.declared.instruction.Instruction.TheVariants as l
use Rattle.linear_language.specs.Function.{FunctionData}
use Rattle.x86_syntax.specs.Registers.{number_of}
use Rattle.x86_syntax.specs.declared.instruction.Instruction.TheVariants as n
use Rattle.x86_syntax.specs.declared.operators.Operator.TheVariants as o
use Rattle.x86_syntax.specs.declared.operators.Shifting.TheVariants.{Sar}
use Rattle.x86_syntax.specs.declared.register.Register.TheVariants.{Eax, Edx}
use Rattle.x86_state.specs.State.{State as Native, Goes, does, put, with_flags}
use Rattle.x86_state.specs.Tables.{operated, shifted, flags_of, sign_of}
use Rattle.native_lowering_definition.specs.Facts.{Facts, known, flag_left, flag_behind_power, left}
use Rattle.native_lowering_definition.specs.Kinds.{Divides, kind_of}
use Rattle.native_lowering_definition.specs.Layout.{facts_in}
use Rattle.native_lowering_definition.specs.Lowering.{lowered, code_of}
use Rattle.native_lowering_definition.specs.Locations.{register_of}
use Rattle.native_lowering_definition.specs.Operating.{Block, rounds, divides_signed_by_power, divides_by, operates}
use Rattle.native_lowering_definition.specs.Powers.{power_known}
use Rattle.native_lowering_numbers.proofs.Halving.{added, shifted_quotient, masked_rest}
use Rattle.native_lowering_relation.specs.Related.{Related}
use Rattle.native_lowering_relation.proofs.Agreeing.{agree_at, word_is}
use Rattle.native_lowering_walks.specs.Walks.{then as onward, walks}
use Rattle.native_lowering_walks.proofs.Straight.{copy_below, do_below, do_with_below, shift_below, extend_below}
use Rattle.native_lowering_runs.specs.Reaching.{Reaches}
use Rattle.native_lowering_runs.proofs.Blocks.{walks_then}
use Rattle.native_lowering_runs.proofs.Registers.{number_is}
use Rattle.native_lowering_operators.proofs.Scratched.{not_scratched, one_scratched}
use Rattle.native_lowering_operators.proofs.Written.{Scratch, written_here, left_with, writes_reaches}

module _ (p : Program FunctionData) (room : Option ℕ) (s : State) (t : Native) (related : Related p s t) where
  abbrev f : FunctionData
  f = related.named.function

  abbrev facts : Facts
  facts = facts_in f s.place

  abbrev To : ℕ → ℕ → Type 0
  To d r = Reaches p room (record s { place = s.place + 1; here = written_here p room s t related d r }) t

  abbrev Walk : Block → Native → Native → Type 0
  Walk b u v = walks (lowered p).functions room (code_of p f) b u ≡ Goes v

  more : (words : List ℕ) (k w : ℕ) → 8 ≤ k → Scratch p room s t related words → Scratch p room s t related (slice_set words k w)
  more words k w high so = one_scratched f s.here.registers s.here.slots related.held t.registers words k w high so

  unchanged : Scratch p room s t related t.registers
  unchanged = not_scratched f s.here.registers s.here.slots related.held t.registers related.holds

  -- ---- the registers on the way

  abbrev copied : ℕ → List ℕ
  copied x = slice_set t.registers 8 x

  abbrev extended : ℕ → List ℕ
  extended x = slice_set (copied x) 10 (sign_of x)

  abbrev masked : ℕ → ℕ → List ℕ
  masked x k = slice_set (extended x) 10 (added k x)

  abbrev sum : ℕ → ℕ → ℕ
  sum x k = operated o.Add x (added k x)

  abbrev rounded : ℕ → ℕ → List ℕ
  rounded x k = slice_set (masked x k) 8 (sum x k)

  full_copied : (x : ℕ) → length (copied x) ≡ 13
  full_copied x = length-set t.registers 8 x ∙ related.holds.thirteen

  full_extended : (x : ℕ) → length (extended x) ≡ 13
  full_extended x = length-set (copied x) 10 (sign_of x) ∙ full_copied x

  full_masked : (x k : ℕ) → length (masked x k) ≡ 13
  full_masked x k = length-set (extended x) 10 (added k x) ∙ full_extended x

  full_rounded : (x k : ℕ) → length (rounded x k) ≡ 13
  full_rounded x k = length-set (masked x k) 8 (sum x k) ∙ full_masked x k

  eax_masked : (x k : ℕ) → slice_index (masked x k) 8 ≡ x
  eax_masked x k =
      get_or-set_other (extended x) 10 8 (added k x) 0 (λ e. omega (arith, e))
      ∙ get_or-set_other (copied x) 10 8 (sign_of x) 0 (λ e. omega (arith, e))
      ∙ get_or-set_same t.registers 8 x 0 (omega (arith, related.holds.thirteen))

  edx_masked : (x k : ℕ) → slice_index (masked x k) 10 ≡ added k x
  edx_masked x k = get_or-set_same (extended x) 10 (added k x) 0 (omega (arith, full_extended x))

  eax_rounded : (x k : ℕ) → slice_index (rounded x k) 8 ≡ sum x k
  eax_rounded x k = get_or-set_same (masked x k) 8 (sum x k) 0 (omega (arith, full_masked x k))

  edx_rounded : (x k : ℕ) → slice_index (rounded x k) 10 ≡ added k x
  edx_rounded x k = get_or-set_other (masked x k) 8 10 (sum x k) 0 (λ e. omega (arith, e)) ∙ edx_masked x k

  rounded_scratch : (x k : ℕ) → Scratch p room s t related (rounded x k)
  rounded_scratch x k =
      more (masked x k) 8 (sum x k) (omega arith)
      (more (extended x) 10 (added k x) (omega arith) (more (copied x) 10 (sign_of x) (omega arith) (more t.registers 8 x (omega arith) unchanged)))

  -- ---- A, rounded

  abbrev behind_rounds : ℕ → ℕ → Native
  behind_rounds x k = record t { place = t.place + 4; registers = rounded x k; flags = None }

  rounds_walk : (a x k : ℕ) → a < 8 → slice_index t.registers a ≡ x → Walk (rounds a k) t (behind_rounds x k)
  unfolding number_of operated flags_of
  rounds_walk a x k near left_is =
      let fs = (lowered p).functions in
      let code = code_of p f in
      let a_word : slice_index t.registers (number_of (register_of a)) ≡ x = ap (slice_index t.registers) (number_is a near) ∙ left_is in
      let sign : sign_of (slice_index (copied x) 8) ≡ sign_of x = ap sign_of (get_or-set_same t.registers 8 x 0 (omega (arith, related.holds.thirteen))) in
      let mask : bit_and (slice_index (extended x) 10) (2 ^ k - 1) ≡ added k x =
      ap (λ w. bit_and w (2 ^ k - 1)) (get_or-set_same (copied x) 10 (sign_of x) 0 (omega (arith, full_copied x))) in
      let add : operated o.Add (slice_index (masked x k) 8) (slice_index (masked x k) 10) ≡ sum x k = λ i. operated o.Add (eax_masked x k i) (edx_masked x k i) in
      let four : t.place + 1 + 1 + 1 + 1 ≡ t.place + 4 = omega arith in
      ap (λ w. walks fs room code (n.Extend ∷ n.DoWith o.And Edx (2 ^ k - 1) ∷ n.Do o.Add Eax Edx ∷ []) (record t { place = t.place + 1; registers = slice_set t.registers 8 w })) a_word
      ∙ ap (λ w. walks fs room code (n.DoWith o.And Edx (2 ^ k - 1) ∷ n.Do o.Add Eax Edx ∷ []) (record t { place = t.place + 1 + 1; registers = slice_set (copied x) 10 w })) sign
      ∙ ap (λ w. walks fs room code (n.Do o.Add Eax Edx ∷ []) (record t { place = t.place + 1 + 1 + 1; registers = slice_set (extended x) 10 w; flags = Some (w, 0) })) mask
      ∙ ap (λ w. Goes (record t { place = t.place + 1 + 1 + 1 + 1; registers = slice_set (masked x k) 8 w; flags = None })) add
      ∙ (λ i. Goes (record t { place = four i; registers = rounded x k; flags = None }))

  -- ---- the quotient

  abbrev quotient_tail : ℕ → ℕ → Block
  quotient_tail d k = n.Shift Sar Eax k ∷ n.Copy (register_of d) Eax ∷ []

  quotient_walk : (d x k q : ℕ) → d < 8 → shifted Sar (sum x k) k ≡ Some q
      → Walk (quotient_tail d k) (behind_rounds x k) (left_with p room s t related 6 None (slice_set (rounded x k) 8 q) d q)
  unfolding number_of
  quotient_walk d x k q near result =
      let v = behind_rounds x k in
      let shift : shifted Sar (slice_index (rounded x k) 8) k ≡ Some q = ap (λ w. shifted Sar w k) (eax_rounded x k) ∙ result in
      let again : slice_index (slice_set (rounded x k) 8 q) 8 ≡ q = get_or-set_same (rounded x k) 8 q 0 (omega (arith, full_rounded x k)) in
      let six : t.place + 4 + 1 + 1 ≡ t.place + 6 = omega arith in
      ap (λ z. onward (does (option_map (λ w. with_flags None (put Eax w v)) z)) (walks (lowered p).functions room (code_of p f) (n.Copy (register_of d) Eax ∷ []))) shift
      ∙ (λ i. Goes (record t { place = six i; registers = slice_set (slice_set (rounded x k) 8 q) (number_is d near i) (again i); flags = None }))

  -- ---- the rest

  abbrev rest_tail : ℕ → ℕ → Block
  rest_tail d k = n.DoWith o.And Eax (2 ^ k - 1) ∷ n.Do o.Sub Eax Edx ∷ n.Copy (register_of d) Eax ∷ []

  abbrev low_bits : ℕ → ℕ → ℕ
  low_bits x k = bit_and (sum x k) (2 ^ k - 1)

  abbrev rest : ℕ → ℕ → ℕ
  rest x k = operated o.Sub (low_bits x k) (added k x)

  abbrev cut : ℕ → ℕ → List ℕ
  cut x k = slice_set (rounded x k) 8 (low_bits x k)

  full_cut : (x k : ℕ) → length (cut x k) ≡ 13
  full_cut x k = length-set (rounded x k) 8 (low_bits x k) ∙ full_rounded x k

  rest_walk : (d x k : ℕ) → d < 8 → Walk (rest_tail d k) (behind_rounds x k) (left_with p room s t related 7 None (slice_set (cut x k) 8 (rest x k)) d (rest x k))
  unfolding number_of operated flags_of
  rest_walk d x k near =
      let fs = (lowered p).functions in
      let code = code_of p f in
      let mask : bit_and (slice_index (rounded x k) 8) (2 ^ k - 1) ≡ low_bits x k = ap (λ w. bit_and w (2 ^ k - 1)) (eax_rounded x k) in
      let eax : slice_index (cut x k) 8 ≡ low_bits x k = get_or-set_same (rounded x k) 8 (low_bits x k) 0 (omega (arith, full_rounded x k)) in
      let edx : slice_index (cut x k) 10 ≡ added k x = get_or-set_other (rounded x k) 8 10 (low_bits x k) 0 (λ e. omega (arith, e)) ∙ edx_rounded x k in
      let difference : operated o.Sub (slice_index (cut x k) 8) (slice_index (cut x k) 10) ≡ rest x k = λ i. operated o.Sub (eax i) (edx i) in
      let again : slice_index (slice_set (cut x k) 8 (rest x k)) 8 ≡ rest x k = get_or-set_same (cut x k) 8 (rest x k) 0 (omega (arith, full_cut x k)) in
      let seven : t.place + 4 + 1 + 1 + 1 ≡ t.place + 7 = omega arith in
      ap (λ w. walks fs room code (n.Do o.Sub Eax Edx ∷ n.Copy (register_of d) Eax ∷ []) (record t { place = t.place + 4 + 1; registers = slice_set (rounded x k) 8 w; flags = Some (w, 0) })) mask
      ∙ ap (λ w. walks fs room code (n.Copy (register_of d) Eax ∷ []) (record t { place = t.place + 4 + 1 + 1; registers = slice_set (cut x k) 8 w; flags = None })) difference
      ∙ (λ i. Goes (record t { place = seven i; registers = slice_set (slice_set (cut x k) 8 (rest x k)) (number_is d near i) (again i); flags = None }))

  -- ---- whole blocks

  word_here : (r x : ℕ) → value_at (InRegister r) s.here ≡ Some x → slice_index t.registers r ≡ x
  word_here r x defined = word_is (value_at (InRegister r) s.here) (slice_index t.registers r) x (agree_at s.here.registers t.registers r related.holds.agree) defined

  pub quotient_reaches : (op : Op) (d a b x k : ℕ) → kind_of op ≡ Divides true true → slice_get f.code s.place ≡ Some (l.Do (Operate op d (Two a b)))
      → d < 8 → a < 8 → value_at (InRegister a) s.here ≡ Some x → x < 2 ^ 32 → power_known (known b facts) true ≡ Some k → k < 31
      → To d (wrapped (int_div (signed x) (signed (2 ^ k))))
  quotient_reaches op d a b x k kind at near near' left_is small power few =
      let q = wrapped (int_div (signed x) (signed (2 ^ k))) in
      let words = slice_set (rounded x k) 8 q in
      writes_reaches p room s t related (l.Do (Operate op d (Two a b))) (divides_signed_by_power true d a k) 5 d q None None words (record {
        at = at;
        is_it = ap (λ z. operates z d (Two a b) facts) kind ∙ ap (λ z. divides_by z true true d a b (known b facts)) power;
        count = refl;
        target = refl;
        leaves = ap (λ z. left d (flag_left z (Two a b) d facts) facts) kind ∙ ap (λ z. left d (flag_behind_power z true true d) facts) power;
        straight = (copy_below Eax (register_of a), (extend_below, (do_with_below o.And Edx (2 ^ k - 1), (do_below o.Add Eax Edx, (shift_below Sar Eax k, tt)))));
        scratch = more (rounded x k) 8 q (omega arith) (rounded_scratch x k);
        answers = tt;
        walk = walks_then (lowered p).functions room (code_of p f) (rounds a k) (quotient_tail d k) t (behind_rounds x k) (Goes (left_with p room s t related 6 None words d q))
            (rounds_walk a x k near' (word_here a x left_is)) (quotient_walk d x k q near (shifted_quotient k few x small));
      })

  pub rest_reaches : (op : Op) (d a b x k : ℕ) → kind_of op ≡ Divides true false → slice_get f.code s.place ≡ Some (l.Do (Operate op d (Two a b)))
      → d < 8 → a < 8 → value_at (InRegister a) s.here ≡ Some x → x < 2 ^ 32 → power_known (known b facts) true ≡ Some k → k < 31
      → To d (wrapped (int_rem (signed x) (signed (2 ^ k))))
  rest_reaches op d a b x k kind at near near' left_is small power few =
      let words = slice_set (cut x k) 8 (rest x k) in
      subst (To d) (masked_rest k few x small)
      (writes_reaches p room s t related (l.Do (Operate op d (Two a b))) (divides_signed_by_power false d a k) 6 d (rest x k) None None words (record {
        at = at;
        is_it = ap (λ z. operates z d (Two a b) facts) kind ∙ ap (λ z. divides_by z true false d a b (known b facts)) power;
        count = refl;
        target = refl;
        leaves = ap (λ z. left d (flag_left z (Two a b) d facts) facts) kind ∙ ap (λ z. left d (flag_behind_power z true false d) facts) power;
        straight = (copy_below Eax (register_of a), (extend_below, (do_with_below o.And Edx (2 ^ k - 1), (do_below o.Add Eax Edx, (do_with_below o.And Eax (2 ^ k - 1), (do_below o.Sub Eax Edx, tt))))));
        scratch = more (cut x k) 8 (rest x k) (omega arith) (more (rounded x k) 8 (low_bits x k) (omega arith) (rounded_scratch x k));
        answers = tt;
        walk = walks_then (lowered p).functions room (code_of p f) (rounds a k) (rest_tail d k) t (behind_rounds x k) (Goes (left_with p room s t related 7 None words d (rest x k)))
            (rounds_walk a x k near' (word_here a x left_is)) (rest_walk d x k near);
      }))
