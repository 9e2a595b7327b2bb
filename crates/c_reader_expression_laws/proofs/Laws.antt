-- What is read is spelled so, what is spelled so is read, and more fuel changes nothing but what was too high.
use Rattle.std.proofs.Common.{◌≡◌, ℕ, zero, suc, ◌+◌, ◌≤◌, Bool, true, false, cond, List, [], ◌∷◌, ◌++◌, Option, Ok, Err, inl, inr, sym, ap, ◌∙◌, arith}
use Rattle.std.specs.Prelude.{max}
use Rattle.c_syntax.specs.declared.token.Token.{Token}
use Rattle.c_syntax.specs.Trees.{ExpressionTree}
use Rattle.c_syntax.specs.Signs.{operand_level}
use Rattle.c_syntax.specs.Expressions.{IsExpressionAt}
use Rattle.c_syntax.specs.Heights.{expression_height}
use Rattle.c_reader_tokens.specs.declared.fault.Fault.TheVariants.{Syntax, TooDeep}
use Rattle.c_reader_tokens.specs.Reading.{misfit, deep, Takes, IsSameOrTooDeep}
use Rattle.c_reader_tokens.proofs.Laws.{ok_is, bind_ok, stays_refl, stays_bind}
use Rattle.c_reader_expression_laws.specs.Operators.{begins_operand, Stops, Ends}
use Rattle.c_reader_expression_laws.specs.Operands.{operand}
use Rattle.c_reader_expression_laws.specs.Reading.{chain, expression_at}
use Rattle.c_reader_expression_laws.proofs.Continuing.{stops_operand, ends_nothing, height-positive}
use Rattle.c_reader_expression_laws.proofs.Taking.{Found, Reads, operand_takes, chain_takes}
use Rattle.c_reader_expression_laws.proofs.Again.{level_again}
use Rattle.c_reader_expression_laws.proofs.Staying.{deep_stays, operand_stays, chain_stays}

-- what is read is spelled at its level, is low, and does not go on
pub record TakesExpression (fuel level : ℕ) (ts : List Token) (t : ExpressionTree) (rest : List Token) : Type 0 where
  pub takes : Takes (IsExpressionAt level t) ts rest
  pub low : expression_height t ≤ fuel
  pub stops : Stops level rest

deep_gives_none : (b : Bool) (t : Token) (ts : List Token) (r : Found) → cond b (Err TooDeep) (misfit (t ∷ ts)) ≡ Ok r → ⊥
deep_gives_none true t ts r e = cc
deep_gives_none false t ts r e = cc

deep_takes : (ts : List Token) (r : Found) → deep begins_operand ts ≡ Ok r → ⊥
deep_takes [] r e = cc
deep_takes (t ∷ ts) r e = deep_gives_none (begins_operand t.kind) t ts r e

-- the same, of both at once
pub reads : (fuel level : ℕ) (ts : List Token) (r : Found) → expression_at fuel level ts ≡ Ok r → Reads fuel level ts r
unfolding expression_at
reads zero level ts r e = absurd (deep_takes ts r e)
reads (suc fuel) level ts r e =
    let p = bind_ok (operand (expression_at fuel) ts) (λ left. chain (expression_at fuel) fuel level fuel left.0 left.1) r e in
    let first = operand_takes (expression_at fuel) fuel (reads fuel) ts p.0 p.1 in
    let strong = level + operand_level in
    chain_takes (expression_at fuel) fuel (reads fuel) level fuel strong ts p.0.0 p.0.1 r (omega arith) (record {
      takes = record { front = first.front; spelled = first.spelled strong; parts = first.parts };
      above = omega arith;
      stops = stops_operand (suc strong) p.0.1 (omega arith);
      low = first.low;
    }) p.2

pub expression_takes : (fuel level : ℕ) (ts : List Token) (t : ExpressionTree) (rest : List Token) → expression_at fuel level ts ≡ Ok (t, rest) → TakesExpression fuel level ts t rest
expression_takes fuel level ts t rest e =
    let r = reads fuel level ts (t, rest) e in
    record { takes = r.takes; low = r.low; stops = r.stops }

pub expression_again : (fuel level : ℕ) (t : ExpressionTree) (xs rest : List Token) → IsExpressionAt level t xs → expression_height t ≤ fuel → Ends level rest → expression_at fuel level (xs ++ rest) ≡ Ok (t, rest)
unfolding expression_at
expression_again zero level t xs rest s low ends = absurd (let high = height-positive t in omega arith)
expression_again (suc fuel) level t xs rest s low ends = level_again (expression_at fuel) fuel (expression_again fuel) level t xs rest s low ends

pub expression_stays : (fuel more level : ℕ) (ts : List Token) → fuel ≤ more → IsSameOrTooDeep (expression_at fuel level ts) (expression_at more level ts)
unfolding expression_at
expression_stays zero zero level ts le = stays_refl (deep begins_operand ts)
expression_stays zero (suc more) level ts le = deep_stays (expression_at more) (λ left. chain (expression_at more) more level more left.0 left.1) ts
expression_stays (suc fuel) zero level ts le = absurd (omega arith)
expression_stays (suc fuel) (suc more) level ts le =
    let below = λ (level : ℕ) (ts : List Token). expression_stays fuel more level ts (omega arith) in
    stays_bind (operand (expression_at fuel) ts) (operand (expression_at more) ts) (λ left. chain (expression_at fuel) fuel level fuel left.0 left.1) (λ left. chain (expression_at more) more level more left.0 left.1)
    (operand_stays (expression_at fuel) (expression_at more) below ts)
    (λ left _. chain_stays (expression_at fuel) (expression_at more) below fuel more (omega arith) level fuel more left.0 left.1 (omega arith))

-- No two trees are spelled by the same tokens: with fuel for both, the reader gives one.
pub one_tree : (t u : ExpressionTree) (ts : List Token) → IsExpressionAt 0 t ts → IsExpressionAt 0 u ts → t ≡ u
one_tree t u ts s s' =
    let fuel = max (expression_height t) (expression_height u) in
    let one = expression_again fuel 0 t ts [] s (omega arith) (ends_nothing 0) in
    let other = expression_again fuel 0 u ts [] s' (omega arith) (ends_nothing 0) in
    ap (λ (r : Found). r.0) (ok_is (t, []) (u, []) (sym one ∙ other))

-- A fault of syntax stays with more fuel, where each spelled expression would be read.
pub expression_refused : (fuel level : ℕ) (ts : List Token) (place : Option ℕ) → expression_at fuel level ts ≡ Err (Syntax place) → (t : ExpressionTree) (front rest : List Token) → IsExpressionAt level t front → Ends level rest → ts ≡ front ++ rest → ⊥
expression_refused fuel level ts place e t front rest s ends parts =
    let more = max fuel (expression_height t) in
    let read = expression_again more level t front rest s (omega arith) ends in
    elim (expression_stays fuel more level ts (omega arith)) [
      | inl deep ↦ absurd cc
      | inr same ↦ let again = sym e ∙ same ∙ ap (expression_at more level) parts ∙ read in absurd cc
    ]
