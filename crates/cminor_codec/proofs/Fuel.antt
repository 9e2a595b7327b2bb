-- A reading with fuel is made of one with less.
use Rattle.std.proofs.Common.{◌≡◌, ℕ, zero, suc, ◌-◌, ◌<◌, List, refl, arith}
use Rattle.cminor_form.specs.Reading.{too_high, expression_by_code, expression, statement_by_code, statement}

pub expression_without : (fuel variables : ℕ) (bytes : List ℕ) → fuel ≡ 0 → expression fuel variables bytes ≡ too_high bytes
unfolding expression
expression_without fuel variables bytes e = rw e refl

pub expression_with : (fuel variables : ℕ) (bytes : List ℕ) → 0 < fuel → expression fuel variables bytes ≡ expression_by_code variables (expression (fuel - 1) variables) bytes
unfolding expression
expression_with zero variables bytes lt = absurd (omega arith)
expression_with (suc fuel) variables bytes lt =
    let e : suc fuel - 1 ≡ fuel = omega arith in
    rw e refl

pub statement_without : (fuel variables : ℕ) (bytes : List ℕ) → fuel ≡ 0 → statement fuel variables bytes ≡ too_high bytes
unfolding statement
statement_without fuel variables bytes e = rw e refl

pub statement_with : (fuel variables : ℕ) (bytes : List ℕ) → 0 < fuel → statement fuel variables bytes ≡ statement_by_code variables (expression (fuel - 1) variables) (statement (fuel - 1) variables) bytes
unfolding statement
statement_with zero variables bytes lt = absurd (omega arith)
statement_with (suc fuel) variables bytes lt =
    let e : suc fuel - 1 ≡ fuel = omega arith in
    rw e refl
