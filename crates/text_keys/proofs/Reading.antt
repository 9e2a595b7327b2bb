-- What words are read back as.
use Rattle.std.proofs.Common.{◌≡◌, ℕ, List, [], ◌∷◌, Option, Some, None, refl}
use Rattle.ints.specs.declared.operators.Op.TheVariants as op
use Rattle.ints.specs.declared.conditions.Cond.{Cond}
use Rattle.ints.specs.declared.conditions.Cond.TheVariants as cond
use Rattle.text_keys.specs.declared.key.Key.{Key}
use Rattle.text_keys.specs.declared.key.Key.TheVariants as key
use Rattle.text_keys.specs.declared.word.Word.{Word}
use Rattle.text_keys.specs.declared.word.Word.TheVariants.{Lettered, Number, Named}
use Rattle.text_keys.specs.Keys.{condition_key}

abbrev pub number_of : Word → ℕ
number_of (Lettered l n) = n
number_of (Number n) = n
number_of (Named k) = 0

abbrev pub condition_of : Key → Cond
condition_of key.NonZero = cond.Nz
condition_of (key.Operator op.Eq) = cond.Eq
condition_of (key.Operator op.Ne) = cond.Ne
condition_of (key.Operator op.LtS) = cond.LtS
condition_of (key.Operator op.LtU) = cond.LtU
condition_of (key.Operator op.LeS) = cond.LeS
condition_of (key.Operator op.LeU) = cond.LeU
condition_of _ = cond.Nz

pub condition_again : (c : Cond) → condition_of (condition_key c) ≡ c
condition_again cond.Nz = refl
condition_again cond.Eq = refl
condition_again cond.Ne = refl
condition_again cond.LtS = refl
condition_again cond.LtU = refl
condition_again cond.LeS = refl
condition_again cond.LeU = refl

abbrev pub condition_at : Word → Key
condition_at (Named k) = k
condition_at (Number n) = key.NonZero
condition_at (Lettered l n) = key.NonZero

-- the words at a place
abbrev pub first : List Word → Word
first [] = Number 0
first (w ∷ ws) = w

abbrev pub others : List Word → List Word
others [] = []
others (w ∷ ws) = ws

abbrev pub at : List Word → ℕ
at ws = number_of (first ws)

-- where a result goes, and what is done
abbrev pub target_of : List Word → Option Word
target_of (Lettered l n ∷ ws) = Some (Lettered l n)
target_of ws = None

abbrev pub done : List Word → List Word
done (Lettered l n ∷ w ∷ ws) = ws
done ws = ws

abbrev pub target_number : Option Word → ℕ
target_number None = 0
target_number (Some w) = number_of w
