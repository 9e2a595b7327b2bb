-- What values of the code stand for, and how a reading with fuel is made of one with less.
use Rattle.std.proofs.Common.{◌≡◌, ℕ, zero, suc, ◌-◌, ◌<◌, Bool, true, false, not, List, [], ◌∷◌, map, Result, Ok, Err, refl, ap, ◌∙◌, arith}
use Rattle.c_syntax.specs.declared.token.Token.{Token}
use Rattle.c_syntax.specs.Trees as T
use Rattle.c_syntax.specs.Views.{statement_tree, statements_tree}
use Rattle.c_syntax.specs.declared.statement.Statement.{Statement}
use Rattle.c_reader_tokens.specs.declared.fault.Fault.{Fault}
use Rattle.c_reader_productions.specs.Combining.{Mark, ◌▷◌}
use Rattle.c_reader_tokens.specs.Reading.{Reading, ◌>>=◌}
use Rattle.c_syntax.specs.declared.punctuator.Punctuator.TheVariants.{RightBrace}
use Rattle.c_reader_tokens.specs.Peeking.{is_sign_next}
use Rattle.c_reader_statement_laws.specs.Reading.{statements_of, goes_on, first_of, by_first, too_high, statement_at}

pub statements_named : (xs : List Statement) → statements_of (map statement_tree xs) ≡ statements_tree xs
statements_named [] = refl
statements_named (x ∷ xs) = ap (λ s. T.First (statement_tree x) s) (statements_named xs)

pub without_fuel : (fuel : ℕ) (block : Bool) (ts : List Token) → fuel ≡ 0 → statement_at fuel block ts ≡ too_high (first_of block ts) ts
unfolding statement_at
without_fuel fuel block ts e = rw e refl

pub with_fuel : (fuel : ℕ) (block : Bool) (ts : List Token) → 0 < fuel → statement_at fuel block ts ≡ by_first (statement_at (fuel - 1)) (fuel - 1) (first_of block ts) ts
unfolding statement_at
with_fuel zero block ts lt = absurd (omega arith)
with_fuel (suc fuel) block ts lt =
    let e : suc fuel - 1 ≡ fuel = omega arith in
    rw e refl

-- a mark that is not there, and what stands behind one that is
pub mark_fails : {A : Type 0} (mark : Mark) (part : Reading A) (ts : List Token) (fault : Fault) → mark ts ≡ Err fault → (mark ▷ part) ts ≡ Err fault
mark_fails mark part ts fault e = ap (λ z. z >>= part) e

pub behind_mark : {A : Type 0} (mark : Mark) (part : Reading A) (ts rest : List Token) (r : Result (A × List Token) Fault) → mark ts ≡ Ok rest → part rest ≡ r → (mark ▷ part) ts ≡ r
behind_mark mark part ts rest r e f = ap (λ z. z >>= part) e ∙ f

-- a block goes on where `}` is not next
pub goes_on-true : (ts : List Token) → is_sign_next RightBrace ts ≡ false → goes_on ts ≡ true
goes_on-true ts e = ap not e

pub goes_on-false : (ts : List Token) → is_sign_next RightBrace ts ≡ true → goes_on ts ≡ false
goes_on-false ts e = ap not e
