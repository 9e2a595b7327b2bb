-- The parts of functions are forms: each text is read again, and nothing else is.
use Rattle.std.proofs.Common.{◌≡◌, ◌≢◌, ℕ, ◌<◌, ◌≤◌, ◌^◌, true, List, [], ◌∷◌, ◌++◌, length, Option, Some, None, Ok, inl, inr, refl, sym, ap, subst, arith}
use Rattle.std.specs.Prelude.{◌⊎◌, IfSome, not, nat_le, nat_eq}
use Rattle.std.specs.Int.{w16, w32, to_be_bytes}
use Rattle.std.specs.List.{AllByRecursion, list_any, list_all}
use Rattle.std.proofs.lemmas.Bool.{eqb-true, eq-eqb, ltb-true, lt-ltb, leb-true, le-leb, and_parts, and_from, not-true, not_from_false}
use Rattle.lang_base.specs.declared.errors.FormError.TheVariants.{NotCanonical, TooLarge}
use Rattle.lang_base.specs.Reading.{byte, number, decoded, up_to, both, unknown}
use Rattle.lang_base.specs.Texts.{EachFits}
use Rattle.lang_base.proofs.Forms.{IsForm, Takes, ok_is}
use Rattle.lang_base.proofs.Parts.{byte_form, number16_form, number32_form, made_takes, made_again, made_form, tested_form, decoded_form, fits_form, below_form, up_to_form, both_form}
use Rattle.lang_base.proofs.Lists.{counted_form, fits_each, HasCode, TakesBehind, unknown_takes, follow_form, optional_form}
use Rattle.ints.specs.declared.operators.Op.{Op}
use Rattle.ints.specs.declared.conditions.Cond.{Cond}
use Rattle.ints.specs.Codes.{code_of, op_of_code, argument_count_of}
use Rattle.ints.specs.Conditions.{cond_code_of, cond_of_code, cond_argument_count_of}
use Rattle.ints.proofs.Codes.{codes_lead_back}
use Rattle.ints.proofs.CondCodes.{cond_codes_lead_back}
use Rattle.machine.specs.Fits.{AreDistinct}
use Rattle.machine.proofs.Operators.{argument_count_range, cond_argument_count_range, code_small, cond_code_small}
use Rattle.machine.proofs.Distinct.{each_both, both_each, none_same, same_none, keys_of, IsNewKey, each_distinct, distinct_each}
use Rattle.rtl_acts.specs.declared.arguments.Arguments.{Arguments}
use Rattle.rtl_acts.specs.declared.arguments.Arguments.TheVariants.{One, Two}
use Rattle.rtl_acts.specs.declared.act.Act.{Act}
use Rattle.rtl_acts.specs.declared.act.Act.TheVariants.{Nop, Constant, Move, Operate, Load, Store, Put}
use Rattle.machine.specs.Limits.{global}
use Rattle.machine.proofs.Limits.{global_form}
use Rattle.rtl_acts.specs.Fits.{parameter_limit, register_limit, RegisterFits, TargetFits, GlobalFits, ArgumentsFit, ActFits, TestFits, ParametersFit}
use Rattle.rtl_acts.specs.Spelling.{byte_text, register_text, registers_text, target_text, arguments_text, test_text, act_code, act_body, frame_text}
use Rattle.rtl_acts.specs.Reading.{register, target, arguments, asked, nop, constant, copying, operation, load, store, put, acts, act, parameter, parameters, lies_within, frame}

-- a value that is read where nothing is behind its code
nothing_takes : (P : Act → Type 0) (text : Act → List ℕ) (bytes : List ℕ) (x : Act) (rest : List ℕ) → text Nop ≡ [] → P Nop → nop bytes ≡ Ok (x, rest) → Takes text P bytes x rest
nothing_takes P text bytes x rest empty fits e =
    subst (λ (z : Act × List ℕ). Takes text P bytes z.0 z.1) (ok_is (Nop, bytes) (x, rest) e)
    (record { parts = ap (λ (l : List ℕ). l ++ bytes) (sym empty); fits = fits })

module _ (registers : ℕ) (few : registers ≤ 2 ^ 16) where
  pub register_form : IsForm (register registers) register_text (RegisterFits registers)
  unfolding register
  register_form = below_form registers number16_form (λ n lt. omega arith)

  target_fits : (o : Option ℕ) → IfSome o (RegisterFits registers) → TargetFits registers o
  target_fits None fits = tt
  target_fits (Some r) fits = fits

  fits_target : (o : Option ℕ) → TargetFits registers o → IfSome o (RegisterFits registers)
  fits_target None fits = tt
  fits_target (Some r) fits = fits

  pub target_form : IsForm (target registers) target_text (TargetFits registers)
  unfolding target
  target_form = fits_form (optional_form register_form) target_fits fits_target

  -- a part that stands behind a register, whatever that is
  abbrev PairFits : ℕ × ℕ → Type 0
  PairFits p = RegisterFits registers p.0 × RegisterFits registers p.1

  pair_form : IsForm (both (register registers) (λ a. register registers)) (λ p. register_text p.0 ++ register_text p.1) PairFits
  pair_form = both_form (register registers) register_text (RegisterFits registers) register_form (λ a. register registers) (λ a. register_text) (λ a. RegisterFits registers) (λ a fits. register_form)

  -- ---- arguments and tests

  one_back : (y : Arguments) → ArgumentsFit registers 1 y → (x : ℕ) × RegisterFits registers x × (One x ≡ y)
  one_back (One a) fits = (a, fits.1, refl)
  one_back (Two a b) fits = absurd (omega (arith, fits.0))

  two_back : (y : Arguments) → ArgumentsFit registers 2 y → (x : ℕ × ℕ) × (RegisterFits registers x.0 × RegisterFits registers x.1) × (Two x.0 x.1 ≡ y)
  two_back (One a) fits = absurd (omega (arith, fits.0))
  two_back (Two a b) fits = ((a, b), (fits.1, fits.2), refl)

  one_form : IsForm (arguments registers 1) arguments_text (ArgumentsFit registers 1)
  unfolding arguments
  one_form = made_form (λ a. One a) register_form arguments_text (ArgumentsFit registers 1) (λ a fits. (refl, (refl, fits))) one_back

  two_form : IsForm (arguments registers 2) arguments_text (ArgumentsFit registers 2)
  unfolding arguments
  two_form = made_form (λ (p : ℕ × ℕ). Two p.0 p.1) pair_form arguments_text (ArgumentsFit registers 2) (λ p fits. (refl, (refl, fits.0, fits.1))) two_back

  pub arguments_form : (count : ℕ) → (count ≡ 1) ⊎ (count ≡ 2) → IsForm (arguments registers count) arguments_text (ArgumentsFit registers count)
  arguments_form count (inl one) = subst (λ n. IsForm (arguments registers n) arguments_text (ArgumentsFit registers n)) (sym one) one_form
  arguments_form count (inr two) = subst (λ n. IsForm (arguments registers n) arguments_text (ArgumentsFit registers n)) (sym two) two_form

  pub test_form : IsForm (asked registers) test_text (TestFits registers)
  unfolding asked
  test_form =
      let conditions = decoded_form cond_of_code cond_code_of byte_form cond_codes_lead_back.known cond_codes_lead_back.only in
      made_form (λ (p : Cond × Arguments). record { condition = p.0; arguments = p.1 })
      (both_form _ _ _ conditions (λ condition. arguments registers (cond_argument_count_of condition)) (λ condition. arguments_text) (λ condition. ArgumentsFit registers (cond_argument_count_of condition)) (λ condition fits. arguments_form (cond_argument_count_of condition) (cond_argument_count_range condition)))
      test_text (TestFits registers)
      (λ p fits. (refl, fits.1))
      (λ t fits. ((t.condition, t.arguments), (cond_code_small t.condition, fits), refl))

  -- ---- plain instructions

  abbrev At : ℕ → Act → Type 0
  At code a = HasCode act_code act_body (ActFits registers) code a

  abbrev ConstantFits : ℕ × ℕ → Type 0
  ConstantFits p = RegisterFits registers p.0 × (p.1 < 2 ^ 32)

  constant_parts : IsForm (both (register registers) (λ target. number w32)) (λ p. register_text p.0 ++ to_be_bytes w32 p.1) ConstantFits
  constant_parts = both_form (register registers) register_text (RegisterFits registers) register_form (λ target. number w32) (λ target. to_be_bytes w32) (λ target word. word < 2 ^ 32) (λ target fits. number32_form)

  constant_takes : TakesBehind act_code act_body (ActFits registers) 1 (constant registers)
  unfolding constant
  constant_takes = made_takes (λ (p : ℕ × ℕ). Constant p.0 p.1) constant_parts act_body (At 1) (λ p fits. (refl, (fits, refl)))

  copying_takes : TakesBehind act_code act_body (ActFits registers) 2 (copying registers)
  unfolding copying
  copying_takes = made_takes (λ (p : ℕ × ℕ). Move p.0 p.1) pair_form act_body (At 2) (λ p fits. (refl, (fits, refl)))

  abbrev OperationFits : Op × (ℕ × Arguments) → Type 0
  OperationFits p = (code_of p.0 < 256) × (RegisterFits registers p.1.0 × ArgumentsFit registers (argument_count_of p.0) p.1.1)

  abbrev operation_text : Op × (ℕ × Arguments) → List ℕ
  operation_text p = byte_text (code_of p.0) ++ (register_text p.1.0 ++ arguments_text p.1.1)

  operation_parts : IsForm (both (decoded op_of_code byte) (λ op. both (register registers) (λ target. arguments registers (argument_count_of op)))) operation_text OperationFits
  operation_parts =
      both_form (decoded op_of_code byte) (λ op. byte_text (code_of op)) (λ op. code_of op < 256) (decoded_form op_of_code code_of byte_form codes_lead_back.known codes_lead_back.only)
      (λ op. both (register registers) (λ target. arguments registers (argument_count_of op))) (λ op p. register_text p.0 ++ arguments_text p.1) (λ op p. RegisterFits registers p.0 × ArgumentsFit registers (argument_count_of op) p.1)
      (λ op small. both_form (register registers) register_text (RegisterFits registers) register_form (λ target. arguments registers (argument_count_of op)) (λ target. arguments_text) (λ target. ArgumentsFit registers (argument_count_of op)) (λ target fits. arguments_form (argument_count_of op) (argument_count_range op)))

  operation_takes : TakesBehind act_code act_body (ActFits registers) 3 (operation registers)
  unfolding operation
  operation_takes = made_takes (λ (p : Op × (ℕ × Arguments)). Operate p.0 p.1.0 p.1.1) operation_parts act_body (At 3) (λ p fits. (refl, (fits.1, refl)))

  abbrev Three : Type 0
  Three = ℕ × (ℕ × ℕ)

  abbrev three_text : Three → List ℕ
  three_text p = to_be_bytes w16 p.0 ++ (to_be_bytes w16 p.1.0 ++ to_be_bytes w16 p.1.1)

  abbrev LoadFits : Three → Type 0
  LoadFits p = RegisterFits registers p.0 × (GlobalFits p.1.0 × RegisterFits registers p.1.1)

  load_parts : IsForm (both (register registers) (λ target. both global (λ g. register registers))) three_text LoadFits
  load_parts =
      both_form (register registers) register_text (RegisterFits registers) register_form (λ target. both global (λ g. register registers)) (λ target p. to_be_bytes w16 p.0 ++ register_text p.1) (λ target p. GlobalFits p.0 × RegisterFits registers p.1)
      (λ target fits. both_form global (to_be_bytes w16) GlobalFits global_form (λ g. register registers) (λ g. register_text) (λ g. RegisterFits registers) (λ g fits. register_form))

  load_takes : TakesBehind act_code act_body (ActFits registers) 4 (load registers)
  unfolding load
  load_takes = made_takes (λ (p : Three). Load p.0 p.1.0 p.1.1) load_parts act_body (At 4) (λ p fits. (refl, ((fits.0, fits.1.0, fits.1.1), refl)))

  abbrev StoreFits : Three → Type 0
  StoreFits p = GlobalFits p.0 × PairFits p.1

  store_parts : IsForm (both global (λ g. both (register registers) (λ index. register registers))) three_text StoreFits
  store_parts = both_form global (to_be_bytes w16) GlobalFits global_form (λ g. both (register registers) (λ index. register registers)) (λ g p. register_text p.0 ++ register_text p.1) (λ g. PairFits) (λ g fits. pair_form)

  store_takes : TakesBehind act_code act_body (ActFits registers) 5 (store registers)
  unfolding store
  store_takes = made_takes (λ (p : Three). Store p.0 p.1.0 p.1.1) store_parts act_body (At 5) (λ p fits. (refl, ((fits.0, fits.1.0, fits.1.1), refl)))

  abbrev PutFits : ℕ × Option ℕ → Type 0
  PutFits p = RegisterFits registers p.0 × TargetFits registers p.1

  put_parts : IsForm (both (register registers) (λ source. target registers)) (λ p. register_text p.0 ++ target_text p.1) PutFits
  put_parts = both_form (register registers) register_text (RegisterFits registers) register_form (λ source. target registers) (λ source. target_text) (λ source. TargetFits registers) (λ source fits. target_form)

  put_takes : TakesBehind act_code act_body (ActFits registers) 7 (put registers)
  unfolding put
  put_takes = made_takes (λ (p : ℕ × Option ℕ). Put p.0 p.1) put_parts act_body (At 7) (λ p fits. (refl, (fits, refl)))

  act_again : (a : Act) (rest : List ℕ) → ActFits registers a → act registers (act_code a) (act_body a ++ rest) ≡ Ok (a, rest)
  unfolding act constant copying operation load store put
  act_again Nop rest fits = refl
  act_again (Constant target word) rest fits = made_again (λ (p : ℕ × ℕ). Constant p.0 p.1) constant_parts (target, word) rest fits
  act_again (Move target source) rest fits = made_again (λ (p : ℕ × ℕ). Move p.0 p.1) pair_form (target, source) rest fits
  act_again (Operate op target args) rest fits = made_again (λ (p : Op × (ℕ × Arguments)). Operate p.0 p.1.0 p.1.1) operation_parts (op, (target, args)) rest (code_small op, fits)
  act_again (Load target global index) rest fits = made_again (λ (p : Three). Load p.0 p.1.0 p.1.1) load_parts (target, (global, index)) rest (fits.0, (fits.1, fits.2))
  act_again (Store global index source) rest fits = made_again (λ (p : Three). Store p.0 p.1.0 p.1.1) store_parts (global, (index, source)) rest (fits.0, (fits.1, fits.2))
  act_again (Put source target) rest fits = made_again (λ (p : ℕ × Option ℕ). Put p.0 p.1) put_parts (source, target) rest fits

  nop_takes : TakesBehind act_code act_body (ActFits registers) 0 nop
  nop_takes bytes x rest are e = nothing_takes (At 0) act_body bytes x rest refl (tt, refl) e

  -- what follows a code is a plain instruction with that code
  pub act_form : (code : ℕ) → IsForm (act registers code) act_body (HasCode act_code act_body (ActFits registers) code)
  unfolding act
  act_form =
      follow_form act_code act_body (ActFits registers) (acts registers) unknown
      (nop_takes, (constant_takes, (copying_takes, (operation_takes, (load_takes, (store_takes, (put_takes, tt)))))))
      (unknown_takes act_code act_body (ActFits registers)) act_again

-- ---- the registers of the parameters

abbrev ParameterFits : List ℕ → ℕ → Type 0
ParameterFits before r = (r < 2 ^ 16) × AllByRecursion (λ k. k ≢ r) before

same_tells : (a b : ℕ) → nat_eq a b ≡ true → a ≡ b
same_tells a b e = eqb-true a b e

same_itself : (a : ℕ) → nat_eq a a ≡ true
same_itself a = eq-eqb a a refl

parameter_form : (before : List ℕ) → IsForm (parameter before) register_text (ParameterFits before)
unfolding parameter
parameter_form before =
    tested_form (λ r. not (list_any (λ k. nat_eq k r) before)) NotCanonical number16_form (ParameterFits before)
    (λ r fits passes. (fits, none_same nat_eq same_tells same_itself r before (not-true _ passes)))
    (λ r fits. (fits.0, not_from_false _ (same_none nat_eq same_tells same_itself r before fits.1)))

parameters_form : IsForm parameters registers_text (λ ps. (length ps ≤ parameter_limit) × EachFits ParameterFits [] ps)
unfolding parameters
parameters_form = counted_form parameter register_text ParameterFits parameter_form (up_to parameter_limit byte) byte_text (λ n. n ≤ parameter_limit) (up_to_form parameter_limit byte_form (λ n le. omega arith))

keys_themselves : (ps : List ℕ) → keys_of (λ r. Some r) ps ≡ ps
keys_themselves [] = refl
keys_themselves (p ∷ ps) = ap (λ l. p ∷ l) (keys_themselves ps)

new_key : (before ps : List ℕ) → EachFits (λ b r. AllByRecursion (λ k. k ≢ r) b) before ps → EachFits (λ b r. IsNewKey (keys_of (λ k. Some k) b) (Some r)) before ps
new_key before [] fits = tt
new_key before (p ∷ ps) fits = (subst (AllByRecursion (λ k. k ≢ p)) (sym (keys_themselves before)) fits.0, new_key (before ++ p ∷ []) ps fits.1)

key_new : (before ps : List ℕ) → EachFits (λ b r. IsNewKey (keys_of (λ k. Some k) b) (Some r)) before ps → EachFits (λ b r. AllByRecursion (λ k. k ≢ r) b) before ps
key_new before [] fits = tt
key_new before (p ∷ ps) fits = (subst (AllByRecursion (λ k. k ≢ p)) (keys_themselves before) fits.0, key_new (before ++ p ∷ []) ps fits.1)

within : (count : ℕ) (ps : List ℕ) → list_all (lies_within count) ps ≡ true → AllByRecursion (RegisterFits count) ps
within count [] e = tt
within count (p ∷ ps) e = let both = and_parts (lies_within count p) (list_all (lies_within count) ps) e in (ltb-true p count both.0, within count ps both.1)

widen : (count : ℕ) → count ≤ register_limit → (ps : List ℕ) → AllByRecursion (RegisterFits count) ps → AllByRecursion (RegisterFits (2 ^ 16)) ps × (list_all (lies_within count) ps ≡ true)
widen count few [] fits = (tt, refl)
widen count few (p ∷ ps) fits =
    let rest = widen count few ps fits.1 in
    let small : p < 2 ^ 16 = omega (arith, fits.0) in
    ((small, rest.0), and_from (lies_within count p) (list_all (lies_within count) ps) (lt-ltb p count fits.0) rest.1)

-- what the parameters and registers of a function fit
abbrev pub FrameFits : List ℕ × ℕ → Type 0
FrameFits f = ParametersFit f.1 f.0 × (f.1 ≤ register_limit)

abbrev ReadFits : List ℕ × ℕ → Type 0
ReadFits f = ((length f.0 ≤ parameter_limit) × EachFits ParameterFits [] f.0) × (f.1 < 2 ^ 16)

abbrev WithinFits : List ℕ × ℕ → Type 0
WithinFits f = ReadFits f × (list_all (lies_within f.1) f.0 ≡ true)

frame_fits : (f : List ℕ × ℕ) → WithinFits f → nat_le f.1 register_limit ≡ true → FrameFits f
frame_fits f fits few =
    let split = both_each (λ b. RegisterFits (2 ^ 16)) (λ b r. AllByRecursion (λ k. k ≢ r) b) [] f.0 fits.0.0.1 in (
      record {
        few = fits.0.0.0;
        each = within f.1 f.0 fits.1;
        distinct = subst AreDistinct (keys_themselves f.0) (each_distinct (λ r. Some r) [] f.0 tt (new_key [] f.0 split.1));
      },
      leb-true f.1 register_limit few,
    )

fits_frame : (f : List ℕ × ℕ) → FrameFits f → WithinFits f × (nat_le f.1 register_limit ≡ true)
fits_frame f fits =
    let wide = widen f.1 fits.1 f.0 fits.0.each in
    let new = key_new [] f.0 (distinct_each (λ r. Some r) [] f.0 (subst AreDistinct (sym (keys_themselves f.0)) fits.0.distinct)) in
    ((((fits.0.few, each_both (λ b. RegisterFits (2 ^ 16)) (λ b r. AllByRecursion (λ k. k ≢ r) b) [] f.0 (fits_each (RegisterFits (2 ^ 16)) [] f.0 wide.0) new), omega (arith, fits.1)), wide.1), le-leb f.1 register_limit fits.1)

pub frame_form : IsForm frame frame_text FrameFits
unfolding frame
frame_form =
    let parts = both_form parameters registers_text (λ ps. (length ps ≤ parameter_limit) × EachFits ParameterFits [] ps) parameters_form (λ ps. number w16) (λ ps. to_be_bytes w16) (λ ps n. n < 2 ^ 16) (λ ps fits. number16_form) in
    tested_form (λ (f : List ℕ × ℕ). nat_le f.1 register_limit) TooLarge
    (tested_form (λ (f : List ℕ × ℕ). list_all (lies_within f.1) f.0) NotCanonical parts WithinFits (λ f fits within. (fits, within)) (λ f fits. fits))
    FrameFits frame_fits fits_frame
