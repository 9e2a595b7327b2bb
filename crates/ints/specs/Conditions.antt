-- The conditions' codes and numbers of arguments.
use Rattle.std.specs.Prelude.{ℕ, List, [], ◌∷◌, Option, slice_get}
use Rattle.ints.specs.declared.conditions.Cond.{Cond}
use Rattle.ints.specs.declared.conditions.Cond.TheVariants.{Nz, Eq, Ne, LtS, LtU, LeS, LeU}

-- the conditions, in the order of their codes
abbrev pub conditions : List Cond
conditions = Nz ∷ Eq ∷ Ne ∷ LtS ∷ LtU ∷ LeS ∷ LeU ∷ []

-- the condition with a code: the first has code 0
unfoldable pub cond_of_code : ℕ → Option Cond
cond_of_code code = slice_get conditions code

unfoldable pub cond_code_of : Cond → ℕ
cond_code_of Nz = 0
cond_code_of Eq = 1
cond_code_of Ne = 2
cond_code_of LtS = 3
cond_code_of LtU = 4
cond_code_of LeS = 5
cond_code_of LeU = 6

unfoldable pub cond_argument_count_of : Cond → ℕ
cond_argument_count_of Nz = 1
cond_argument_count_of _ = 2
