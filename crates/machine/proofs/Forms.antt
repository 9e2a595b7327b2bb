-- The parts that LTL and Linear share are forms: each text is read again, and nothing else is.
use Rattle.std.proofs.Common.{◌≡◌, ℕ, ◌<◌, ◌^◌, List, ◌++◌, Option, Ok, inl, inr, refl, sym, subst, arith}
use Rattle.std.specs.Prelude.{◌⊎◌}
use Rattle.std.specs.Int.{w16, w32, to_be_bytes}
use Rattle.lang_base.specs.Reading.{byte, number, decoded, both, unknown}
use Rattle.lang_base.proofs.Forms.{IsForm}
use Rattle.lang_base.proofs.Parts.{byte_form, number32_form, made_takes, made_again, made_form, decoded_form, both_form}
use Rattle.lang_base.proofs.Lists.{HasCode, TakesBehind, unknown_takes, follow_form}
use Rattle.ints.specs.declared.operators.Op.{Op}
use Rattle.ints.specs.declared.conditions.Cond.{Cond}
use Rattle.ints.specs.Codes.{code_of, op_of_code, argument_count_of}
use Rattle.ints.specs.Conditions.{cond_code_of, cond_of_code, cond_argument_count_of}
use Rattle.ints.proofs.Codes.{codes_lead_back}
use Rattle.ints.proofs.CondCodes.{cond_codes_lead_back}
use Rattle.locations.specs.Fits.{RegisterFits, ValueFits}
use Rattle.locations.specs.Spelling.{byte_text, value_text}
use Rattle.locations.specs.Reading.{register, value}
use Rattle.locations.proofs.Forms.{register_form, value_form, global_form}
use Rattle.machine.proofs.Operators.{argument_count_range, cond_argument_count_range, code_small, cond_code_small}
use Rattle.machine.specs.declared.arguments.Arguments.{Arguments}
use Rattle.machine.specs.declared.arguments.Arguments.TheVariants.{One, Two}
use Rattle.machine.specs.declared.act.Act.{Act}
use Rattle.machine.specs.declared.act.Act.TheVariants.{Constant, Operate, Load, Store, Put}
use Rattle.locations.specs.Limits.{global}
use Rattle.machine.specs.Fits.{GlobalFits, ArgumentsFit, ActFits, TestFits}
use Rattle.machine.specs.Spelling.{arguments_text, test_text, act_code, act_body}
use Rattle.machine.specs.Reading.{arguments, asked, constant, operation, load, store, put, acts, act}
pub use Rattle.locations.proofs.Forms.{register_form, value_form, move_form, moves_form, call_form, CallParts, CallPartsFit, FrameFits, frame_form}

-- ---- arguments and tests

one_back : (y : Arguments) → ArgumentsFit 1 y → (x : ℕ) × RegisterFits x × (One x ≡ y)
one_back (One a) fits = (a, fits.1, refl)
one_back (Two a b) fits = absurd (omega (arith, fits.0))

two_back : (y : Arguments) → ArgumentsFit 2 y → (x : ℕ × ℕ) × (RegisterFits x.0 × RegisterFits x.1) × (Two x.0 x.1 ≡ y)
two_back (One a) fits = absurd (omega (arith, fits.0))
two_back (Two a b) fits = ((a, b), (fits.1, fits.2), refl)

one_form : IsForm (arguments 1) arguments_text (ArgumentsFit 1)
unfolding arguments
one_form = made_form (λ a. One a) register_form arguments_text (ArgumentsFit 1) (λ a fits. (refl, (refl, fits))) one_back

two_form : IsForm (arguments 2) arguments_text (ArgumentsFit 2)
unfolding arguments
two_form =
    made_form (λ (p : ℕ × ℕ). Two p.0 p.1) (both_form register byte_text RegisterFits register_form (λ a. register) (λ a. byte_text) (λ a. RegisterFits) (λ a fits. register_form)) arguments_text (ArgumentsFit 2)
    (λ p fits. (refl, (refl, fits.0, fits.1))) two_back

pub arguments_form : (count : ℕ) → (count ≡ 1) ⊎ (count ≡ 2) → IsForm (arguments count) arguments_text (ArgumentsFit count)
arguments_form count (inl one) = subst (λ n. IsForm (arguments n) arguments_text (ArgumentsFit n)) (sym one) one_form
arguments_form count (inr two) = subst (λ n. IsForm (arguments n) arguments_text (ArgumentsFit n)) (sym two) two_form

pub test_form : IsForm asked test_text TestFits
unfolding asked
test_form =
    let conditions = decoded_form cond_of_code cond_code_of byte_form cond_codes_lead_back.known cond_codes_lead_back.only in
    made_form (λ (p : Cond × Arguments). record { condition = p.0; arguments = p.1 })
    (both_form _ _ _ conditions (λ condition. arguments (cond_argument_count_of condition)) (λ condition. arguments_text) (λ condition. ArgumentsFit (cond_argument_count_of condition)) (λ condition fits. arguments_form (cond_argument_count_of condition) (cond_argument_count_range condition)))
    test_text TestFits
    (λ p fits. (refl, fits.1))
    (λ t fits. ((t.condition, t.arguments), (cond_code_small t.condition, fits), refl))

-- ---- plain instructions

abbrev ConstantFits : ℕ × ℕ → Type 0
ConstantFits p = RegisterFits p.0 × (p.1 < 2 ^ 32)

constant_parts : IsForm (both register (λ target. number w32)) (λ p. byte_text p.0 ++ to_be_bytes w32 p.1) ConstantFits
constant_parts = both_form register byte_text RegisterFits register_form (λ target. number w32) (λ target. to_be_bytes w32) (λ target word. word < 2 ^ 32) (λ target fits. number32_form)

constant_takes : TakesBehind act_code act_body ActFits 1 constant
unfolding constant
constant_takes = made_takes (λ (p : ℕ × ℕ). Constant p.0 p.1) constant_parts act_body (HasCode act_code act_body ActFits 1) (λ p fits. (refl, (fits, refl)))

abbrev OperationFits : Op × (ℕ × Arguments) → Type 0
OperationFits p = (code_of p.0 < 256) × (RegisterFits p.1.0 × ArgumentsFit (argument_count_of p.0) p.1.1)

abbrev operation_text : Op × (ℕ × Arguments) → List ℕ
operation_text p = byte_text (code_of p.0) ++ (byte_text p.1.0 ++ arguments_text p.1.1)

operation_parts : IsForm (both (decoded op_of_code byte) (λ op. both register (λ target. arguments (argument_count_of op)))) operation_text OperationFits
operation_parts =
    both_form (decoded op_of_code byte) (λ op. byte_text (code_of op)) (λ op. code_of op < 256) (decoded_form op_of_code code_of byte_form codes_lead_back.known codes_lead_back.only)
    (λ op. both register (λ target. arguments (argument_count_of op))) (λ op p. byte_text p.0 ++ arguments_text p.1) (λ op p. RegisterFits p.0 × ArgumentsFit (argument_count_of op) p.1)
    (λ op small. both_form register byte_text RegisterFits register_form (λ target. arguments (argument_count_of op)) (λ target. arguments_text) (λ target. ArgumentsFit (argument_count_of op)) (λ target fits. arguments_form (argument_count_of op) (argument_count_range op)))

operation_takes : TakesBehind act_code act_body ActFits 3 operation
unfolding operation
operation_takes = made_takes (λ (p : Op × (ℕ × Arguments)). Operate p.0 p.1.0 p.1.1) operation_parts act_body (HasCode act_code act_body ActFits 3) (λ p fits. (refl, (fits.1, refl)))

abbrev Three : Type 0
Three = ℕ × (ℕ × ℕ)

abbrev LoadFits : Three → Type 0
LoadFits p = RegisterFits p.0 × (GlobalFits p.1.0 × RegisterFits p.1.1)

load_parts : IsForm (both register (λ target. both global (λ g. register))) (λ p. byte_text p.0 ++ (to_be_bytes w16 p.1.0 ++ byte_text p.1.1)) LoadFits
load_parts =
    both_form register byte_text RegisterFits register_form (λ target. both global (λ g. register)) (λ target p. to_be_bytes w16 p.0 ++ byte_text p.1) (λ target p. GlobalFits p.0 × RegisterFits p.1)
    (λ target fits. both_form global (to_be_bytes w16) GlobalFits global_form (λ g. register) (λ g. byte_text) (λ g. RegisterFits) (λ g fits. register_form))

load_takes : TakesBehind act_code act_body ActFits 4 load
unfolding load
load_takes = made_takes (λ (p : Three). Load p.0 p.1.0 p.1.1) load_parts act_body (HasCode act_code act_body ActFits 4) (λ p fits. (refl, ((fits.0, fits.1.0, fits.1.1), refl)))

abbrev StoreFits : Three → Type 0
StoreFits p = GlobalFits p.0 × (RegisterFits p.1.0 × RegisterFits p.1.1)

store_parts : IsForm (both global (λ g. both register (λ index. register))) (λ p. to_be_bytes w16 p.0 ++ (byte_text p.1.0 ++ byte_text p.1.1)) StoreFits
store_parts =
    both_form global (to_be_bytes w16) GlobalFits global_form (λ g. both register (λ index. register)) (λ g p. byte_text p.0 ++ byte_text p.1) (λ g p. RegisterFits p.0 × RegisterFits p.1)
    (λ g fits. both_form register byte_text RegisterFits register_form (λ index. register) (λ index. byte_text) (λ index. RegisterFits) (λ index fits. register_form))

store_takes : TakesBehind act_code act_body ActFits 5 store
unfolding store
store_takes = made_takes (λ (p : Three). Store p.0 p.1.0 p.1.1) store_parts act_body (HasCode act_code act_body ActFits 5) (λ p fits. (refl, ((fits.0, fits.1.0, fits.1.1), refl)))

abbrev PutFits : ℕ × Option ℕ → Type 0
PutFits p = RegisterFits p.0 × ValueFits p.1

put_parts : IsForm (both register (λ source. value)) (λ p. byte_text p.0 ++ value_text p.1) PutFits
put_parts = both_form register byte_text RegisterFits register_form (λ source. value) (λ source. value_text) (λ source. ValueFits) (λ source fits. value_form)

put_takes : TakesBehind act_code act_body ActFits 7 put
unfolding put
put_takes = made_takes (λ (p : ℕ × Option ℕ). Put p.0 p.1) put_parts act_body (HasCode act_code act_body ActFits 7) (λ p fits. (refl, (fits, refl)))

act_again : (a : Act) (rest : List ℕ) → ActFits a → act (act_code a) (act_body a ++ rest) ≡ Ok (a, rest)
unfolding act constant operation load store put
act_again (Constant target word) rest fits = made_again (λ (p : ℕ × ℕ). Constant p.0 p.1) constant_parts (target, word) rest fits
act_again (Operate op target args) rest fits = made_again (λ (p : Op × (ℕ × Arguments)). Operate p.0 p.1.0 p.1.1) operation_parts (op, (target, args)) rest (code_small op, fits)
act_again (Load target global index) rest fits = made_again (λ (p : Three). Load p.0 p.1.0 p.1.1) load_parts (target, (global, index)) rest (fits.0, (fits.1, fits.2))
act_again (Store global index source) rest fits = made_again (λ (p : Three). Store p.0 p.1.0 p.1.1) store_parts (global, (index, source)) rest (fits.0, (fits.1, fits.2))
act_again (Put source target) rest fits = made_again (λ (p : ℕ × Option ℕ). Put p.0 p.1) put_parts (source, target) rest fits

-- what follows a code is a plain instruction with that code
pub act_form : (code : ℕ) → IsForm (act code) act_body (HasCode act_code act_body ActFits code)
unfolding act
act_form = follow_form act_code act_body ActFits acts unknown (constant_takes, (operation_takes, (load_takes, (store_takes, (put_takes, tt))))) (unknown_takes act_code act_body ActFits) act_again
