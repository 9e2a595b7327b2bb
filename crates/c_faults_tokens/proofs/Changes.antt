-- Where changes end: by whether `++` or `--` stands before the lvalue, behind it, or nowhere.
use Rattle.std.proofs.Common.{◌≡◌, cond, Bool, true, false, List, ◌++◌, refl, ap, ◌∙◌, append_assoc, inl, inr}
use Rattle.c_syntax.specs.declared.expression.AssignOperator.{AssignOperator}
use Rattle.c_syntax.specs.declared.expression.AssignOperator.TheVariants as A
use Rattle.c_syntax.specs.declared.identifier.Identifier.{Identifier}
use Rattle.c_syntax.specs.declared.punctuator.Punctuator.TheVariants.{Increment, Decrement}
use Rattle.c_syntax.specs.declared.token.Token.{Token}
use Rattle.c_syntax.specs.declared.token.TokenKind.TheVariants as V
use Rattle.c_syntax.specs.Trees.{LvalueTree, ChangeTree}
use Rattle.c_syntax.specs.Trees as T
use Rattle.c_syntax.specs.Signs.{assign_sign}
use Rattle.c_syntax.specs.Parts.{Sign, IsName, ◌⨾◌}
use Rattle.c_syntax.specs.Expressions.{IsExpression}
use Rattle.c_syntax.specs.Statements.{IsLvalue, IsStepSign, IsStep, IsChange}
use Rattle.c_faults_tokens.specs.Tokens.{next, is_step_sign, begins_with_step, behind_expression, behind_lvalue, behind_change}
use Rattle.c_faults_tokens.proofs.Ends.{Ends, sign-ends, then-ends}
use Rattle.c_faults_tokens.proofs.Expressions.{expression-ends, lvalue-ends}

-- what begins with a step's sign, or with none
record Begins (b : Bool) (P : List Token → Type 0) : Type 0 where
  at : (ts rest : List Token) → P ts → begins_with_step (ts ++ rest) ≡ b

first-begins : {b : Bool} {P Q : List Token → Type 0} → Begins b P → Begins b (P ⨾ Q)
first-begins p = record {
  at = λ ts rest h. ap (λ l. begins_with_step (l ++ rest)) h.4 ∙ ap begins_with_step (append_assoc h.0 h.1 rest) ∙ p.at h.0 (h.1 ++ rest) h.2;
}

name-begins : (x : Identifier) → Begins false (IsName x)
name-begins x = record { at = λ ts rest h. ap (λ l. begins_with_step (l ++ rest)) h.3 ∙ ap is_step_sign h.1 }

lvalue-begins : (l : LvalueTree) → Begins false (IsLvalue l)
lvalue-begins (T.Name x) = name-begins x
lvalue-begins (T.Cell a e) = first-begins (name-begins a)

assign-none : (o : AssignOperator) → is_step_sign (V.Punctuator (assign_sign o)) ≡ false
assign-none A.Multiply = refl
assign-none A.Divide = refl
assign-none A.Remainder = refl
assign-none A.Add = refl
assign-none A.Subtract = refl
assign-none A.ShiftLeft = refl
assign-none A.ShiftRight = refl
assign-none A.And = refl
assign-none A.Xor = refl
assign-none A.Or = refl

assign-begins : (o : AssignOperator) → Begins false (Sign (assign_sign o))
assign-begins o = record { at = λ ts rest h. ap (λ l. begins_with_step (l ++ rest)) h.2 ∙ ap is_step_sign h.1 ∙ assign-none o }

never : {b : Bool} → Begins b (λ ts. ⊥)
never = record { at = λ ts rest h. absurd h }

step-begins : (o : AssignOperator) → Begins true (IsStepSign o)
step-begins A.Multiply = never
step-begins A.Divide = never
step-begins A.Remainder = never
step-begins A.Add = record { at = λ ts rest h. ap (λ l. begins_with_step (l ++ rest)) h.2 ∙ ap is_step_sign h.1 }
step-begins A.Subtract = record { at = λ ts rest h. ap (λ l. begins_with_step (l ++ rest)) h.2 ∙ ap is_step_sign h.1 }
step-begins A.ShiftLeft = never
step-begins A.ShiftRight = never
step-begins A.And = never
step-begins A.Xor = never
step-begins A.Or = never

no-end : Ends (λ ts. ⊥) next
no-end = record { at = λ ts rest h. absurd h }

step-ends : (o : AssignOperator) → Ends (IsStepSign o) next
step-ends A.Multiply = no-end
step-ends A.Divide = no-end
step-ends A.Remainder = no-end
step-ends A.Add = sign-ends Increment
step-ends A.Subtract = sign-ends Decrement
step-ends A.ShiftLeft = no-end
step-ends A.ShiftRight = no-end
step-ends A.And = no-end
step-ends A.Xor = no-end
step-ends A.Or = no-end

-- the tokens behind the lvalue that stands first
behind-first : {Q : List Token → Type 0} → (l : LvalueTree) (ts rest : List Token) → (h : (IsLvalue l ⨾ Q) ts) → behind_lvalue l (ts ++ rest) ≡ h.1 ++ rest
behind-first l ts rest h =
    let p = lvalue-ends l in
    ap (λ ys. behind_lvalue l (ys ++ rest)) h.4 ∙ ap (behind_lvalue l) (append_assoc h.0 h.1 rest) ∙ p.at h.0 (h.1 ++ rest) h.2

choice : {X : Type 0} → (a b : Bool) (x y z : X) → a ≡ false → cond a x (cond b y z) ≡ cond b y z
choice a b x y z e = ap (λ t. cond t x (cond b y z)) e

assigned : (c : ChangeTree) (ts rest : List Token) →
    (IsLvalue c.lvalue ⨾ Sign (assign_sign c.operator) ⨾ IsExpression c.value) ts → behind_change c (ts ++ rest) ≡ rest
assigned c ts rest h =
    let l = c.lvalue in
    let all = ts ++ rest in
    let none = first-begins {Q = Sign (assign_sign c.operator) ⨾ IsExpression c.value} (lvalue-begins l) in
    let sign = first-begins {Q = IsExpression c.value} (assign-begins c.operator) in
    let ends = then-ends (lvalue-ends l) (then-ends (sign-ends (assign_sign c.operator)) (expression-ends c.value)) in
    let behind = behind_lvalue l all in
    choice (begins_with_step all) (begins_with_step behind) (behind_lvalue l (next all)) (next behind) (behind_expression c.value (next behind))
    (none.at ts rest h)
    ∙ ap (λ t. cond t (next behind) (behind_expression c.value (next behind))) (ap begins_with_step (behind-first l ts rest h) ∙ sign.at h.1 rest h.3)
    ∙ ends.at ts rest h

stepped : (c : ChangeTree) (ts rest : List Token) → IsStep c.lvalue c.operator ts → behind_change c (ts ++ rest) ≡ rest
stepped c ts rest (inl h) =
    let l = c.lvalue in
    let all = ts ++ rest in
    let none = first-begins {Q = IsStepSign c.operator} (lvalue-begins l) in
    let sign = step-begins c.operator in
    let ends = then-ends (lvalue-ends l) (step-ends c.operator) in
    let behind = behind_lvalue l all in
    choice (begins_with_step all) (begins_with_step behind) (behind_lvalue l (next all)) (next behind) (behind_expression c.value (next behind))
    (none.at ts rest h)
    ∙ ap (λ t. cond t (next behind) (behind_expression c.value (next behind))) (ap begins_with_step (behind-first l ts rest h) ∙ sign.at h.1 rest h.3)
    ∙ ends.at ts rest h
stepped c ts rest (inr h) =
    let l = c.lvalue in
    let all = ts ++ rest in
    let some = first-begins {Q = IsLvalue l} (step-begins c.operator) in
    let ends = then-ends (step-ends c.operator) (lvalue-ends l) in
    let behind = behind_lvalue l all in
    ap (λ t. cond t (behind_lvalue l (next all)) (cond (begins_with_step behind) (next behind) (behind_expression c.value (next behind))))
    (some.at ts rest h)
    ∙ ends.at ts rest h

changed : (c : ChangeTree) (ts rest : List Token) → IsChange c ts → behind_change c (ts ++ rest) ≡ rest
changed c ts rest (inl h) = assigned c ts rest h
changed c ts rest (inr h) = stepped c ts rest h.1

pub change-ends : (c : ChangeTree) → Ends (IsChange c) (behind_change c)
change-ends c = record { at = changed c }
