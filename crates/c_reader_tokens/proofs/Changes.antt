-- The signs that change an lvalue: what is read is spelled so, and what is spelled so is read.
use Rattle.std.proofs.Common.{◌≡◌, true, List, [], ◌∷◌, ◌++◌, Option, Some, Ok, refl, ap, subst, ◌∙◌}
use Rattle.c_syntax.specs.declared.punctuator.Punctuator.{Punctuator}
use Rattle.c_syntax.specs.declared.punctuator.Punctuator.TheVariants as P
use Rattle.c_syntax.specs.declared.token.Token.{Token}
use Rattle.c_syntax.specs.declared.token.TokenKind.{TokenKind}
use Rattle.c_syntax.specs.declared.token.TokenKind.TheVariants as T
use Rattle.c_syntax.specs.declared.expression.AssignOperator.{AssignOperator}
use Rattle.c_syntax.specs.declared.expression.AssignOperator.TheVariants as A
use Rattle.c_syntax.specs.Signs.{assign_sign}
use Rattle.c_syntax.specs.Parts.{Sign}
use Rattle.c_syntax.specs.Statements.{IsStepSign}
use Rattle.c_reader_tokens.specs.Reading.{Takes}
use Rattle.c_reader_tokens.specs.Assigning.{assign_of, step_of, of_sign, assign_operator, step_operator, is_step_next}
use Rattle.c_reader_tokens.proofs.Tokens.{valued_takes}

of_sign-some : (meaning : Punctuator → Option AssignOperator) (kind : TokenKind) (o : AssignOperator) → of_sign meaning kind ≡ Some o → (p : Punctuator) × (kind ≡ T.Punctuator p) × (meaning p ≡ Some o)
of_sign-some meaning (T.Name x) o e = absurd cc
of_sign-some meaning (T.Constant c) o e = absurd cc
of_sign-some meaning (T.Keyword k) o e = absurd cc
of_sign-some meaning (T.Punctuator p) o e = (p, refl, e)

-- a sign stands for one operator, and it is that operator's
assign_tells : (p : Punctuator) (o : AssignOperator) → assign_of p ≡ Some o → p ≡ assign_sign o
assign_tells P.StarAssign o e = let same : A.Multiply ≡ o = cc in ap assign_sign same
assign_tells P.SlashAssign o e = let same : A.Divide ≡ o = cc in ap assign_sign same
assign_tells P.PercentAssign o e = let same : A.Remainder ≡ o = cc in ap assign_sign same
assign_tells P.PlusAssign o e = let same : A.Add ≡ o = cc in ap assign_sign same
assign_tells P.MinusAssign o e = let same : A.Subtract ≡ o = cc in ap assign_sign same
assign_tells P.ShiftLeftAssign o e = let same : A.ShiftLeft ≡ o = cc in ap assign_sign same
assign_tells P.ShiftRightAssign o e = let same : A.ShiftRight ≡ o = cc in ap assign_sign same
assign_tells P.AndAssign o e = let same : A.And ≡ o = cc in ap assign_sign same
assign_tells P.CaretAssign o e = let same : A.Xor ≡ o = cc in ap assign_sign same
assign_tells P.OrAssign o e = let same : A.Or ≡ o = cc in ap assign_sign same
assign_tells _ o e = absurd cc

pub assign_of-sign : (o : AssignOperator) → assign_of (assign_sign o) ≡ Some o
assign_of-sign A.Multiply = refl
assign_of-sign A.Divide = refl
assign_of-sign A.Remainder = refl
assign_of-sign A.Add = refl
assign_of-sign A.Subtract = refl
assign_of-sign A.ShiftLeft = refl
assign_of-sign A.ShiftRight = refl
assign_of-sign A.And = refl
assign_of-sign A.Xor = refl
assign_of-sign A.Or = refl

pub assign_operator_takes : (ts : List Token) (o : AssignOperator) (rest : List Token) → assign_operator ts ≡ Ok (o, rest) → Takes (Sign (assign_sign o)) ts rest
unfolding assign_operator
assign_operator_takes ts o rest e =
    let s = valued_takes (λ t. of_sign assign_of t.kind) ts o rest e in
    let m = of_sign-some assign_of s.0.kind o s.1 in
    record { front = s.0 ∷ []; spelled = (s.0, m.1 ∙ ap (λ p. T.Punctuator p) (assign_tells m.0 o m.2), refl); parts = s.2 }

pub assign_operator_again : (o : AssignOperator) (xs rest : List Token) → Sign (assign_sign o) xs → assign_operator (xs ++ rest) ≡ Ok (o, rest)
unfolding assign_operator
assign_operator_again o xs rest s = rw (s.2, s.1, assign_of-sign o) refl

-- ---- `++` and `--`

abbrev OneStep : AssignOperator → Token → Type 0
OneStep o t = IsStepSign o (t ∷ [])

step_tells : (p : Punctuator) (o : AssignOperator) (t : Token) → t.kind ≡ T.Punctuator p → step_of p ≡ Some o → OneStep o t
step_tells P.Increment o t k e = let same : A.Add ≡ o = cc in subst (λ q. OneStep q t) same (t, k, refl)
step_tells P.Decrement o t k e = let same : A.Subtract ≡ o = cc in subst (λ q. OneStep q t) same (t, k, refl)
step_tells _ o t k e = absurd cc

pub step_operator_takes : (ts : List Token) (o : AssignOperator) (rest : List Token) → step_operator ts ≡ Ok (o, rest) → Takes (IsStepSign o) ts rest
unfolding step_operator
step_operator_takes ts o rest e =
    let s = valued_takes (λ t. of_sign step_of t.kind) ts o rest e in
    let m = of_sign-some step_of s.0.kind o s.1 in
    record { front = s.0 ∷ []; spelled = step_tells m.0 o s.0 m.1 m.2; parts = s.2 }

-- one of the two signs
pub record IsStepToken (o : AssignOperator) (xs : List Token) : Type 0 where
  pub token : Token
  pub sign : Punctuator
  pub is : token.kind ≡ T.Punctuator sign
  pub stands : step_of sign ≡ Some o
  pub parts : xs ≡ token ∷ []

pub step_token : (o : AssignOperator) (xs : List Token) → IsStepSign o xs → IsStepToken o xs
step_token A.Multiply xs s = absurd s
step_token A.Divide xs s = absurd s
step_token A.Remainder xs s = absurd s
step_token A.Add xs s = record { token = s.0; sign = P.Increment; is = s.1; stands = refl; parts = s.2 }
step_token A.Subtract xs s = record { token = s.0; sign = P.Decrement; is = s.1; stands = refl; parts = s.2 }
step_token A.ShiftLeft xs s = absurd s
step_token A.ShiftRight xs s = absurd s
step_token A.And xs s = absurd s
step_token A.Xor xs s = absurd s
step_token A.Or xs s = absurd s

pub step_operator_again : (o : AssignOperator) (xs rest : List Token) → IsStepSign o xs → step_operator (xs ++ rest) ≡ Ok (o, rest)
unfolding step_operator
step_operator_again o xs rest s = let k = step_token o xs s in rw (k.parts, k.is, k.stands) refl

pub is_step_next-again : (o : AssignOperator) (xs rest : List Token) → IsStepSign o xs → is_step_next (xs ++ rest) ≡ true
is_step_next-again o xs rest s = let k = step_token o xs s in rw (k.parts, k.is, k.stands) refl
