-- The operators' codes and numbers of arguments.
use Rattle.std.specs.Prelude.{ℕ, zero, suc, List, [], ◌∷◌, Option, None, slice_get}
use Rattle.ints.specs.declared.operators.Op.{Op}
use Rattle.ints.specs.declared.operators.Op.TheVariants.{NegS, NegU, Not, IsZero, AddS, AddU, SubS, SubU, MulS, MulU, DivS, DivU, ModS, ModU, And, Or, Xor, ShlS, ShlU, ShrS, ShrU, Eq, Ne, LtS, LtU, LeS, LeU}

-- the operators, in the order of their codes
abbrev pub operators : List Op
operators =
    NegS ∷ NegU ∷ Not ∷ IsZero ∷ AddS ∷ AddU ∷ SubS ∷ SubU ∷ MulS ∷ MulU ∷ DivS ∷ DivU ∷ ModS ∷ ModU
    ∷ And ∷ Or ∷ Xor ∷ ShlS ∷ ShlU ∷ ShrS ∷ ShrU ∷ Eq ∷ Ne ∷ LtS ∷ LtU ∷ LeS ∷ LeU ∷ []

-- the operator with a code: the first has code 1
unfoldable pub op_of_code : ℕ → Option Op
op_of_code zero = None
op_of_code (suc place) = slice_get operators place

unfoldable pub code_of : Op → ℕ
code_of NegS = 1
code_of NegU = 2
code_of Not = 3
code_of IsZero = 4
code_of AddS = 5
code_of AddU = 6
code_of SubS = 7
code_of SubU = 8
code_of MulS = 9
code_of MulU = 10
code_of DivS = 11
code_of DivU = 12
code_of ModS = 13
code_of ModU = 14
code_of And = 15
code_of Or = 16
code_of Xor = 17
code_of ShlS = 18
code_of ShlU = 19
code_of ShrS = 20
code_of ShrU = 21
code_of Eq = 22
code_of Ne = 23
code_of LtS = 24
code_of LtU = 25
code_of LeS = 26
code_of LeU = 27

unfoldable pub argument_count_of : Op → ℕ
argument_count_of NegS = 1
argument_count_of NegU = 1
argument_count_of Not = 1
argument_count_of IsZero = 1
argument_count_of _ = 2
