-- How many arguments operators and conditions take, and that a byte holds their codes.
use Rattle.std.proofs.Common.{◌≡◌, ◌<◌, inl, inr, lit<, refl}
use Rattle.std.specs.Prelude.{◌⊎◌}
use Rattle.ints.specs.declared.operators.Op.{Op}
use Rattle.ints.specs.declared.operators.Op.TheVariants.{NegS, NegU, Not, IsZero}
use Rattle.ints.specs.declared.conditions.Cond.{Cond}
use Rattle.ints.specs.declared.conditions.Cond.TheVariants.{Nz}
use Rattle.ints.specs.Codes.{code_of, argument_count_of}
use Rattle.ints.specs.Conditions.{cond_code_of, cond_argument_count_of}

pub argument_count_range : (op : Op) → (argument_count_of op ≡ 1) ⊎ (argument_count_of op ≡ 2)
unfolding argument_count_of
argument_count_range NegS = inl refl
argument_count_range NegU = inl refl
argument_count_range Not = inl refl
argument_count_range IsZero = inl refl
argument_count_range _ = inr refl

pub cond_argument_count_range : (cond : Cond) → (cond_argument_count_of cond ≡ 1) ⊎ (cond_argument_count_of cond ≡ 2)
unfolding cond_argument_count_of
cond_argument_count_range Nz = inl refl
cond_argument_count_range _ = inr refl

pub code_small : (op : Op) → code_of op < 256
unfolding code_of
code_small NegS = lit< tt
code_small _ = lit< tt

pub cond_code_small : (cond : Cond) → cond_code_of cond < 256
unfolding cond_code_of
cond_code_small Nz = lit< tt
cond_code_small _ = lit< tt
