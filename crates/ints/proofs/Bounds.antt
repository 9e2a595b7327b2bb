-- An operator on words gives a word.
use Rattle.std.proofs.Common.{◌≡◌, ℕ, ◌/◌, ◌%◌, ◌^◌, ◌<◌, List, [], ◌∷◌, Some, Ok, length, ℤ, pos, negsuc, bit_and, bit_or, bit_xor, arith}
use Rattle.std.specs.List.{All}
use Rattle.std.proofs.lemmas.List.Elements.{All-head}
use Rattle.std.proofs.lemmas.Nat.{or_lt, xor_lt, and_le_l, shr_le}
use Rattle.ints.specs.declared.operators.Op.{Op}
use Rattle.ints.specs.Words.{wrapped}
use Rattle.ints.specs.Codes.{argument_count_of}
use Rattle.ints.specs.MachineTable.{machine_table}
use Rattle.ints.specs.CTable.{c_table}
use Rattle.ints.specs.Laws.{GivesWords}
use Rattle.ints.proofs.Agree.{machine_table-c_table}

pub wrapped-lt : (z : ℤ) → wrapped z < 2 ^ 32
wrapped-lt (pos n) = omega arith
wrapped-lt (negsuc n) = omega arith

and-lt : (x y : ℕ) → x < 2 ^ 32 → bit_and x y < 2 ^ 32
and-lt x y h = omega (arith, and_le_l x y)

or-lt : (x y : ℕ) → x < 2 ^ 32 → y < 2 ^ 32 → bit_or x y < 2 ^ 32
or-lt x y h k = or_lt 32 x y h k

xor-lt : (x y : ℕ) → x < 2 ^ 32 → y < 2 ^ 32 → bit_xor x y < 2 ^ 32
xor-lt x y h k = xor_lt 32 x y h k

shr-lt : (x y : ℕ) → x < 2 ^ 32 → x / 2 ^ y < 2 ^ 32
shr-lt x y h = omega (arith, shr_le x y)

div-lt : (x y : ℕ) → x < 2 ^ 32 → x / y < 2 ^ 32
div-lt x y h = omega arith

mod-lt : (x y : ℕ) → x < 2 ^ 32 → x % y < 2 ^ 32
mod-lt x y h = omega arith

pub machine_table-lt : (op : Op) (args : List ℕ) (word : ℕ) → All (λ x. x < 2 ^ 32) args → machine_table op args ≡ Some word → word < 2 ^ 32
unfolding machine_table
machine_table-lt _ (x ∷ []) word within e =
    let h : x < 2 ^ 32 = All-head (λ x. x < 2 ^ 32) x [] within in
    grind (arith, wrapped-lt)
machine_table-lt _ (x ∷ y ∷ []) word within e =
    let h : x < 2 ^ 32 = All-head (λ x. x < 2 ^ 32) x (y ∷ []) within in
    let k : y < 2 ^ 32 = within 1 0 (omega arith) in
    grind (arith, wrapped-lt, and-lt, or-lt, xor-lt, shr-lt, div-lt, mod-lt)
machine_table-lt _ _ word within e = grind arith

-- the same of C's table
pub c_table-lt : (op : Op) (args : List ℕ) (word : ℕ) → All (λ x. x < 2 ^ 32) args → c_table op args ≡ Ok word → word < 2 ^ 32
c_table-lt op args word within e = machine_table-lt op args word within (machine_table-c_table op args word e)

pub length-machine_table : (op : Op) (args : List ℕ) (word : ℕ) → machine_table op args ≡ Some word → length args ≡ argument_count_of op
unfolding machine_table argument_count_of
length-machine_table _ _ word e = grind arith

pub gives_words : GivesWords
gives_words = record { word = machine_table-lt; count = length-machine_table }
