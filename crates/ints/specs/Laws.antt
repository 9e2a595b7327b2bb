-- Laws that tie the definitions to the words of the standard and to one another.
use Rattle.std.specs.Prelude.{◌≡◌, ℕ, ◌+◌, ◌-◌, ◌%◌, ◌^◌, ◌<◌, ◌≤◌, min, max, List, length, Some, Ok, IsTrue, ℤ, pos, ◌+ℤ◌, ◌*ℤ◌, ◌≤ℤ◌, ◌<ℤ◌, int_div, int_rem, unsigned_abs, bit_and, bit_or, bit_xor}
use Rattle.std.specs.Int.{bit_at}
use Rattle.std.specs.List.{All}
use Rattle.ints.specs.declared.operators.Op.{Op}
use Rattle.ints.specs.declared.conditions.Cond.{Cond}
use Rattle.ints.specs.Words.{signed, wrapped, is_int, floor_of}
use Rattle.ints.specs.Codes.{code_of, op_of_code, argument_count_of}
use Rattle.ints.specs.Conditions.{cond_code_of, cond_of_code, cond_argument_count_of}
use Rattle.ints.specs.MachineTable.{machine_table}
use Rattle.ints.specs.CTable.{c_table}

-- where C's table answers, the machine's answers the same
abbrev pub MachineFollowsC : Type 0
MachineFollowsC = (op : Op) (args : List ℕ) (word : ℕ) → c_table op args ≡ Ok word → machine_table op args ≡ Some word

-- an operator gives a word at words, and nothing at another number of them than it takes
pub record GivesWords : Type 0 where
  pub word : (op : Op) (args : List ℕ) (word : ℕ) → All (λ x. x < 2 ^ 32) args → machine_table op args ≡ Some word → word < 2 ^ 32
  pub count : (op : Op) (args : List ℕ) (word : ℕ) → machine_table op args ≡ Some word → length args ≡ argument_count_of op

-- a code leads back to its operator, and no other code leads there
pub record CodesLeadBack : Type 0 where
  pub known : (op : Op) → op_of_code (code_of op) ≡ Some op
  pub only : (code : ℕ) (op : Op) → op_of_code code ≡ Some op → code ≡ code_of op
  pub range : (op : Op) → (1 ≤ code_of op) × (code_of op ≤ 27)
  pub counts : (op : Op) → (1 ≤ argument_count_of op) × (argument_count_of op ≤ 2)

-- the same of conditions
pub record CondCodesLeadBack : Type 0 where
  pub known : (cond : Cond) → cond_of_code (cond_code_of cond) ≡ Some cond
  pub only : (code : ℕ) (cond : Cond) → cond_of_code code ≡ Some cond → code ≡ cond_code_of cond
  pub range : (cond : Cond) → cond_code_of cond ≤ 6
  pub counts : (cond : Cond) → (1 ≤ cond_argument_count_of cond) × (cond_argument_count_of cond ≤ 2)

-- wrapping adds or takes away a multiple of 2 ^ 32; a signed reading is the one `int` that wraps to the word
pub record ReadsSigned : Type 0 where
  pub word : (z : ℤ) → wrapped z < 2 ^ 32
  pub modulo : (z : ℤ) → (k : ℤ) × (z ≡ (pos (wrapped z) +ℤ (k *ℤ pos (2 ^ 32))))
  pub int : (w : ℕ) → w < 2 ^ 32 → IsTrue (is_int (signed w)) × (wrapped (signed w) ≡ w)
  pub back : (z : ℤ) → IsTrue (is_int z) → signed (wrapped z) ≡ z

-- a quotient is cut toward zero, with the remainder that goes with it (C99 6.5.5); another is rounded down
pub record Divides : Type 0 where
  pub whole : (x y : ℤ) → ((int_div x y *ℤ y) +ℤ int_rem x y) ≡ x
  pub rest : (x y : ℤ) → 0 < unsigned_abs y → unsigned_abs (int_rem x y) < unsigned_abs y
  pub sign : (x y : ℤ) → pos 0 ≤ℤ x → pos 0 ≤ℤ int_rem x y
  pub negative : (x y : ℤ) → x ≤ℤ pos 0 → int_rem x y ≤ℤ pos 0
  pub floor : (x : ℤ) (d : ℕ) → 0 < d → (floor_of x d *ℤ pos d) ≤ℤ x
  pub next : (x : ℤ) (d : ℕ) → 0 < d → x <ℤ ((floor_of x d *ℤ pos d) +ℤ pos d)

-- the operators on bits, one bit at a time (C99 6.5.3.3 and 6.5.10 to 6.5.12)
pub record WorksOnBits : Type 0 where
  pub not : (x i : ℕ) → x < 2 ^ 32 → i < 32 → bit_at (2 ^ 32 - 1 - x) i ≡ 1 - bit_at x i
  pub and : (x y i : ℕ) → bit_at (bit_and x y) i ≡ min (bit_at x i) (bit_at y i)
  pub or : (x y i : ℕ) → bit_at (bit_or x y) i ≡ max (bit_at x i) (bit_at y i)
  pub xor : (x y i : ℕ) → bit_at (bit_xor x y) i ≡ (bit_at x i + bit_at y i) % 2
