-- Codes lead to their conditions and back.
use Rattle.std.proofs.Common.{◌≡◌, ℕ, ◌≤◌, Some, rules, arith}
use Rattle.ints.specs.declared.conditions.Cond.{Cond}
use Rattle.ints.specs.Conditions.{conditions, cond_of_code, cond_code_of, cond_argument_count_of}
use Rattle.ints.specs.Laws.{CondCodesLeadBack}
use Rattle.ints.proofs.Numbered.{IsNumbered, IsNumbered-slice_get}

pub cond_of_code-cond_code_of : (cond : Cond) → cond_of_code (cond_code_of cond) ≡ Some cond
unfolding cond_of_code cond_code_of
cond_of_code-cond_code_of cond = grind arith

conditions-IsNumbered : IsNumbered cond_code_of 0 conditions
unfolding cond_code_of
conditions-IsNumbered = search rules

pub cond_code_of-cond_of_code : (code : ℕ) (cond : Cond) → cond_of_code code ≡ Some cond → code ≡ cond_code_of cond
unfolding cond_of_code
cond_code_of-cond_of_code code cond e = omega (arith, IsNumbered-slice_get cond_code_of 0 conditions code cond conditions-IsNumbered e)

pub cond_code_of-le : (cond : Cond) → cond_code_of cond ≤ 6
unfolding cond_code_of
cond_code_of-le cond = grind arith

pub cond_argument_count_of-range : (cond : Cond) → (1 ≤ cond_argument_count_of cond) × (cond_argument_count_of cond ≤ 2)
unfolding cond_argument_count_of
cond_argument_count_of-range cond = (grind arith, grind arith)

pub cond_codes_lead_back : CondCodesLeadBack
cond_codes_lead_back = record { known = cond_of_code-cond_code_of; only = cond_code_of-cond_of_code; range = cond_code_of-le; counts = cond_argument_count_of-range }
