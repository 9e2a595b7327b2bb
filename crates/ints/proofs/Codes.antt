-- Codes lead to their operators and back.
use Rattle.std.proofs.Common.{◌≡◌, ℕ, zero, suc, ◌-◌, ◌<◌, ◌≤◌, refl, Some, None, slice_index_or, rules, arith}
use Rattle.std.proofs.lemmas.Option.{slice_get-get_or, slice_get_past}
use Rattle.ints.specs.declared.operators.Op.{Op}
use Rattle.ints.specs.Codes.{operators, op_of_code, code_of, argument_count_of}
use Rattle.ints.specs.Laws.{CodesLeadBack}
use Rattle.ints.proofs.Numbered.{IsNumbered, IsNumbered-slice_get}

-- a code from 1 to 27 is a place in the list
pub op_of_code-within : (code : ℕ) (op : Op) → 1 ≤ code → code ≤ 27 → op_of_code code ≡ Some (slice_index_or operators (code - 1) op)
unfolding op_of_code
op_of_code-within zero op low high = absurd (omega arith)
op_of_code-within (suc place) op low high =
    let e : suc place - 1 ≡ place = omega arith in
    rw e (slice_get-get_or operators place op (omega arith))

pub op_of_code-past : (code : ℕ) → 27 < code → op_of_code code ≡ None
unfolding op_of_code
op_of_code-past zero high = absurd (omega arith)
op_of_code-past (suc place) high = slice_get_past operators place (omega arith)

pub op_of_code-zero : op_of_code 0 ≡ None
unfolding op_of_code
op_of_code-zero = refl

pub op_of_code-code_of : (op : Op) → op_of_code (code_of op) ≡ Some op
unfolding op_of_code code_of
op_of_code-code_of op = grind arith

operators-IsNumbered : IsNumbered code_of 1 operators
unfolding code_of
operators-IsNumbered = search rules

pub code_of-op_of_code : (code : ℕ) (op : Op) → op_of_code code ≡ Some op → code ≡ code_of op
unfolding op_of_code
code_of-op_of_code zero op e = cc
code_of-op_of_code (suc place) op e = omega (arith, IsNumbered-slice_get code_of 1 operators place op operators-IsNumbered e)

pub code_of-range : (op : Op) → (1 ≤ code_of op) × (code_of op ≤ 27)
unfolding code_of
code_of-range op = (grind arith, grind arith)

pub argument_count_of-range : (op : Op) → (1 ≤ argument_count_of op) × (argument_count_of op ≤ 2)
unfolding argument_count_of
argument_count_of-range op = (grind arith, grind arith)

pub codes_lead_back : CodesLeadBack
codes_lead_back = record { known = op_of_code-code_of; only = code_of-op_of_code; range = code_of-range; counts = argument_count_of-range }
