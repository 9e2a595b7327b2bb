-- What an lvalue becomes and how it is changed, what a `for` sets, and how it begins: what is read is spelled so and is
-- no higher than the fuel, and what is spelled so and no higher is read.
use Rattle.std.proofs.Common.{◌≡◌, ℕ, zero, suc, ◌≤◌, Bool, true, false, List, [], ◌∷◌, ◌++◌, Ok, inl, inr, refl, sym, ap, subst, ◌∙◌, append_assoc, arith}
use Rattle.std.specs.Prelude.{max, is_some, ◌||◌, ◌⊎◌}
use Rattle.c_syntax.specs.declared.keyword.Keyword.{Keyword}
use Rattle.c_syntax.specs.declared.keyword.Keyword.TheVariants as K
use Rattle.c_syntax.specs.declared.punctuator.Punctuator.{Punctuator}
use Rattle.c_syntax.specs.declared.punctuator.Punctuator.TheVariants.{LeftBracket, RightBracket, Semicolon, Assign}
use Rattle.c_syntax.specs.declared.token.Token.{Token}
use Rattle.c_syntax.specs.declared.token.TokenKind.{TokenKind}
use Rattle.c_syntax.specs.declared.token.TokenKind.TheVariants as Kind
use Rattle.c_syntax.specs.declared.identifier.Identifier.{Identifier}
use Rattle.c_syntax.specs.declared.expression.AssignOperator.{AssignOperator}
use Rattle.c_syntax.specs.declared.expression.AssignOperator.TheVariants as A
use Rattle.c_syntax.specs.Trees.{ExpressionTree, LvalueTree, ChangeTree, SetTree, StartTree}
use Rattle.c_syntax.specs.Trees as T
use Rattle.c_syntax.specs.Signs.{assign_sign}
use Rattle.c_syntax.specs.Parts.{Sign, IsName, ◌⨾◌}
use Rattle.c_syntax.specs.Expressions.{IsExpression}
use Rattle.c_syntax.specs.Statements.{one, IsStepSign, IsLvalue, IsChange, IsSet, IsStart}
use Rattle.c_syntax.specs.Heights.{expression_height, lvalue_height, change_height, set_height, start_height}
use Rattle.c_reader_tokens.specs.Reading.{Reading}
use Rattle.c_reader_tokens.specs.Peeking.{is_sign, is_word, is_name, is_next, is_sign_next, is_type_next}
use Rattle.c_reader_tokens.specs.Tokens.{sign}
use Rattle.c_reader_tokens.specs.Assigning.{assign_of, step_of, of_sign, assign_operator, step_operator, is_step, is_step_next}
use Rattle.c_reader_tokens.proofs.Laws.{done, parts_behind}
use Rattle.c_reader_tokens.proofs.Tokens.{is_sign_next-again}
use Rattle.c_reader_tokens.proofs.Changes.{assign_of-sign, assign_operator_takes, assign_operator_again, step_operator_takes, step_operator_again, step_token, is_step_next-again}
use Rattle.c_reader_expression_laws.specs.Operators.{Ends}
use Rattle.c_reader_expression_laws.specs.Reading.{expression_at}
use Rattle.c_reader_expression_laws.proofs.Continuing.{ends_behind}
use Rattle.c_reader_productions.specs.Combining.{◌▷◌, ◌◁◌, ◌&◌, made, either}
use Rattle.c_reader_productions.specs.Deeds.{Deed, Becomes, Changes, deed, changing}
use Rattle.c_reader_productions.specs.Parts.{less, under, name, is_cell_next, cell, lvalue, prefixed, set_of, set_behind, set, start_local, start_set, start_nothing, start}
use Rattle.c_reader_productions.proofs.Laws.{IsSound, IsWhole, Any, Whatever, after, after', before, before', both, both', made_takes, made_again, either_takes, either_first, either_second, under_takes, under_again}
use Rattle.c_reader_expression_laws.proofs.Beginning.{next_more, apart_from}
use Rattle.c_reader_productions.proofs.PartsTaken.{sign_mark, sound_as, type_sound, expression_sound, name_sound, marked_takes}
use Rattle.c_reader_productions.proofs.PartsAgain.{Starts, starts_sign, starts_then, starts_name, passes_is, expression_whole, name_whole}

-- ---- three parts, grouped either way

pub grouped : {P Q R : List Token → Type 0} (xs : List Token) → (P ⨾ (Q ⨾ R)) xs → ((P ⨾ Q) ⨾ R) xs
grouped xs d =
    let q = d.3 in
    (d.0 ++ q.0, q.1, (d.0, q.0, d.2, q.2, refl), q.3, d.4 ∙ ap (λ (l : List Token). d.0 ++ l) q.4 ∙ sym (append_assoc d.0 q.0 q.1))

pub apart : {P Q R : List Token → Type 0} (xs : List Token) → ((P ⨾ Q) ⨾ R) xs → (P ⨾ (Q ⨾ R)) xs
apart xs d =
    let p = d.2 in
    (p.0, p.1 ++ d.1, p.2, (p.1, d.1, p.3, d.3, refl), d.4 ∙ ap (λ (l : List Token). l ++ d.1) p.4 ∙ append_assoc p.0 p.1 d.1)

-- ---- what changes an lvalue

abbrev pub IsChanging : AssignOperator × ExpressionTree → List Token → Type 0
IsChanging c ts = (Sign (assign_sign c.0) ⨾ IsExpression c.1) ts ⊎ (c.1 ≡ one) × IsStepSign c.0 ts

-- The constant 1 is as high as any lvalue.
abbrev pub LowChanging : ℕ → AssignOperator × ExpressionTree → Type 0
LowChanging fuel c = 1 ≤ fuel → expression_height c.1 ≤ fuel

step_sound : IsSound step_operator Whatever IsStepSign Any
step_sound = record {
  takes = λ ts o rest e. let t = step_operator_takes ts o rest e in record { fits = tt; leaves = tt; front = t.front; spelled = t.spelled; parts = t.parts };
}

assign_sound : IsSound assign_operator Whatever (λ o. Sign (assign_sign o)) Any
assign_sound = record {
  takes = λ ts o rest e. let t = assign_operator_takes ts o rest e in record { fits = tt; leaves = tt; front = t.front; spelled = t.spelled; parts = t.parts };
}

pub changing_sound : (fuel : ℕ) → IsSound (changing fuel) (LowChanging fuel) IsChanging Any
unfolding changing
changing_sound fuel = record {
  takes = either_takes is_step_next (made (λ o. (o, one)) step_operator) (assign_operator & expression_at fuel 0)
      (λ ts x rest h. made_takes (λ o. (o, one)) step_sound (LowChanging fuel) IsChanging Any (λ o f. λ le. le) (λ o xs d. inr (refl, d)) (λ o r l. tt) ts x rest)
      (λ ts x rest h. (sound_as (both assign_sound (expression_sound fuel)) (LowChanging fuel) IsChanging (λ c f. λ le. f.1) (λ c xs d. inl d)).takes ts x rest);
}

step_whole : IsWhole step_operator Whatever IsStepSign Any
step_whole = record { again = λ o xs rest f d e. step_operator_again o xs rest d }

assign_whole : IsWhole assign_operator Whatever (λ o. Sign (assign_sign o)) Any
assign_whole = record { again = λ o xs rest f d e. assign_operator_again o xs rest d }

-- the signs that change the lvalue before them
abbrev pub is_changing : TokenKind → Bool
is_changing kind = is_some (of_sign step_of kind) || is_some (of_sign assign_of kind)

or_true : (b : Bool) → (b || true) ≡ true
or_true true = refl
or_true false = refl

assign_no_step : (o : AssignOperator) → is_step (Kind.Punctuator (assign_sign o)) ≡ false
assign_no_step A.Multiply = refl
assign_no_step A.Divide = refl
assign_no_step A.Remainder = refl
assign_no_step A.Add = refl
assign_no_step A.Subtract = refl
assign_no_step A.ShiftLeft = refl
assign_no_step A.ShiftRight = refl
assign_no_step A.And = refl
assign_no_step A.Xor = refl
assign_no_step A.Or = refl

-- how the first of two parts begins, both do
pub passes_then : (passes : TokenKind → Bool) {P Q : List Token → Type 0} (xs : List Token) (d : (P ⨾ Q) xs) → is_next passes d.0 ≡ true → is_next passes xs ≡ true
passes_then passes xs d e = subst (λ (l : List Token). is_next passes l ≡ true) (sym d.4) (next_more passes d.0 d.1 e)

pub changing_begins : (c : AssignOperator × ExpressionTree) (xs : List Token) → IsChanging c xs → is_next is_changing xs ≡ true
changing_begins c xs (inl d) =
    let s = starts_sign (assign_sign c.0) d.0 d.2 in
    passes_then is_changing xs d (rw (s.parts, s.is, assign_of-sign c.0) (or_true (is_some (step_of (assign_sign c.0)))))
changing_begins c xs (inr s) = let k = step_token c.0 xs s.1 in rw (k.parts, k.is, k.stands) refl

changing_again : (fuel : ℕ) (c : AssignOperator × ExpressionTree) (xs rest : List Token) → expression_height c.1 ≤ fuel → IsChanging c xs → Ends 0 rest → changing fuel (xs ++ rest) ≡ Ok (c, rest)
unfolding changing
changing_again fuel c xs rest low (inl d) k =
    let first = starts_then (Kind.Punctuator (assign_sign c.0)) xs d (starts_sign (assign_sign c.0) d.0 d.2) in
    either_second is_step_next (made (λ o. (o, one)) step_operator) (assign_operator & expression_at fuel 0) (xs ++ rest) (passes_is is_step (Kind.Punctuator (assign_sign c.0)) false (assign_no_step c.0) xs rest first)
    ∙ (both' assign_whole (expression_whole fuel) (λ o e ys r d k. tt)).again c xs rest (tt, low) d k
changing_again fuel c xs rest low (inr s) k =
    either_first is_step_next (made (λ o. (o, one)) step_operator) (assign_operator & expression_at fuel 0) (xs ++ rest) (is_step_next-again c.0 xs rest s.1)
    ∙ made_again (λ o. (o, one)) step_whole c.0 xs rest tt s.1 tt
    ∙ ap (λ (v : ExpressionTree). done ((c.0, v), rest)) (sym s.0)

pub changing_whole : (fuel : ℕ) → IsWhole (changing fuel) (λ c. expression_height c.1 ≤ fuel) IsChanging (λ c rest. Ends 0 rest)
changing_whole fuel = record { again = changing_again fuel }

-- ---- what is done to an lvalue

abbrev pub FitsDeed : {A : Type 0} → (A → Type 0) → (AssignOperator × ExpressionTree → Type 0) → Deed A → Type 0
FitsDeed F G (Becomes x) = F x
FitsDeed F G (Changes o e) = G (o, e)

abbrev pub SpellsDeed : {A : Type 0} → (A → List Token → Type 0) → (AssignOperator × ExpressionTree → List Token → Type 0) → Deed A → List Token → Type 0
SpellsDeed P Q (Becomes x) ts = (Sign Assign ⨾ P x) ts
SpellsDeed P Q (Changes o e) ts = Q (o, e) ts

module _ {A : Type 0} {becomes : Reading A} {F : A → Type 0} {P L : A → List Token → Type 0} {changes : Reading (AssignOperator × ExpressionTree)} {G : AssignOperator × ExpressionTree → Type 0} {Q M : AssignOperator × ExpressionTree → List Token → Type 0} (p : IsSound becomes F P L) (q : IsSound changes G Q M) where
  pub deed_sound : IsSound (deed becomes changes) (FitsDeed F G) (SpellsDeed P Q) Any
  deed_sound = record {
    takes = either_takes (is_sign_next Assign) (made (λ x. Becomes x) (sign Assign ▷ becomes)) (made (λ c. Changes c.0 c.1) changes)
        (λ ts x rest h. made_takes (λ x. Becomes x) (after (sign_mark Assign) p) (FitsDeed F G) (SpellsDeed P Q) Any (λ x f. f) (λ x xs d. d) (λ x r l. tt) ts x rest)
        (λ ts x rest h. made_takes (λ c. Changes c.0 c.1) q (FitsDeed F G) (SpellsDeed P Q) Any (λ c f. f) (λ c xs d. d) (λ c r l. tt) ts x rest);
  }

module _ {A : Type 0} {becomes : Reading A} {F : A → Type 0} {P : A → List Token → Type 0} {E : List Token → Type 0} {changes : Reading (AssignOperator × ExpressionTree)} {G : AssignOperator × ExpressionTree → Type 0} {Q : AssignOperator × ExpressionTree → List Token → Type 0} (p : IsWhole becomes F P (λ x rest. E rest)) (q : IsWhole changes G Q (λ c rest. E rest)) (begins : (c : AssignOperator × ExpressionTree) (xs : List Token) → Q c xs → is_next is_changing xs ≡ true) where
  assign_begins : (x : A) (xs : List Token) → (Sign Assign ⨾ P x) xs → Starts (Kind.Punctuator Assign) xs
  assign_begins x xs d = starts_then (Kind.Punctuator Assign) xs d (starts_sign Assign d.0 d.2)

  deed_again : (v : Deed A) (xs rest : List Token) → FitsDeed F G v → SpellsDeed P Q v xs → E rest → deed becomes changes (xs ++ rest) ≡ Ok (v, rest)
  deed_again (Becomes x) xs rest f d k =
      either_first (is_sign_next Assign) (made (λ x. Becomes x) (sign Assign ▷ becomes)) (made (λ c. Changes c.0 c.1) changes) (xs ++ rest) (passes_is (is_sign Assign) (Kind.Punctuator Assign) true refl xs rest (assign_begins x xs d))
      ∙ made_again (λ x. Becomes x) (after' (sign_mark Assign) p) x xs rest f d k
  deed_again (Changes o e) xs rest f d k =
      either_second (is_sign_next Assign) (made (λ x. Becomes x) (sign Assign ▷ becomes)) (made (λ c. Changes c.0 c.1) changes) (xs ++ rest) (apart_from is_changing Assign refl xs rest (begins (o, e) xs d))
      ∙ made_again (λ c. Changes c.0 c.1) q (o, e) xs rest f d k

  pub deed_whole : IsWhole (deed becomes changes) (FitsDeed F G) (SpellsDeed P Q) (λ v rest. E rest)
  deed_whole = record { again = deed_again }

  -- a deed begins with none of the other signs
  pub deed_not : (sign : Punctuator) → is_sign sign (Kind.Punctuator Assign) ≡ false → is_changing (Kind.Punctuator sign) ≡ false → (v : Deed A) (xs rest : List Token) → SpellsDeed P Q v xs → is_sign_next sign (xs ++ rest) ≡ false
  deed_not sign e f (Becomes x) xs rest d = passes_is (is_sign sign) (Kind.Punctuator Assign) false e xs rest (assign_begins x xs d)
  deed_not sign e f (Changes o v) xs rest d = apart_from is_changing sign f xs rest (begins (o, v) xs d)

-- ---- cells and lvalues

abbrev pub LowCell : ℕ → Identifier × ExpressionTree → Type 0
LowCell fuel v = lvalue_height (T.Cell v.0 v.1) ≤ fuel

abbrev pub IsCell : Identifier × ExpressionTree → List Token → Type 0
IsCell v = IsLvalue (T.Cell v.0 v.1)

pub cell_sound : (fuel : ℕ) → IsSound (cell fuel) (LowCell fuel) IsCell Any
unfolding cell
cell_sound fuel = record {
  takes = under_takes LowCell (λ r. both (name_sound r) (after (sign_mark LeftBracket) (before (expression_sound r) (sign_mark RightBracket)))) (λ r v f. let one = f.0 in let low = f.1 in omega arith) fuel;
}

pub lvalue_sound : (fuel : ℕ) → IsSound (lvalue fuel) (λ l. lvalue_height l ≤ fuel) IsLvalue Any
unfolding lvalue
lvalue_sound fuel = record {
  takes = either_takes is_cell_next (made (λ v. T.Cell v.0 v.1) (cell fuel)) (made (λ x. T.Name x) (name fuel))
      (λ ts x rest h. made_takes (λ v. T.Cell v.0 v.1) (cell_sound fuel) (λ l. lvalue_height l ≤ fuel) IsLvalue Any (λ v f. f) (λ v xs d. d) (λ v r l. tt) ts x rest)
      (λ ts x rest h. made_takes (λ x. T.Name x) (name_sound fuel) (λ l. lvalue_height l ≤ fuel) IsLvalue Any (λ v f. f) (λ v xs d. d) (λ v r l. tt) ts x rest);
}

pub cell_whole : (fuel : ℕ) → IsWhole (cell fuel) (LowCell fuel) IsCell Any
unfolding cell
cell_whole fuel = record {
  again = under_again LowCell (λ r. both' (name_whole r) (after' (sign_mark LeftBracket) (before' (expression_whole r) (sign_mark RightBracket) (λ e ys rest s. ends_behind RightBracket refl refl refl 0 ys rest s))) (λ x e ys rest d k. tt))
      (λ r v f. (omega arith, omega arith)) (λ v f. absurd (omega arith)) fuel;
}

lvalue_again : (fuel : ℕ) (p : LvalueTree) (xs rest : List Token) → lvalue_height p ≤ fuel → IsLvalue p xs → is_sign_next LeftBracket rest ≡ false → lvalue fuel (xs ++ rest) ≡ Ok (p, rest)
unfolding lvalue
lvalue_again fuel (T.Name x) xs rest low d free =
    let other : is_cell_next (xs ++ rest) ≡ false = rw (d.3, d.1, free) refl in
    either_second is_cell_next (made (λ v. T.Cell v.0 v.1) (cell fuel)) (made (λ x. T.Name x) (name fuel)) (xs ++ rest) other ∙ made_again (λ x. T.Name x) (name_whole fuel) x xs rest low d tt
lvalue_again fuel (T.Cell a e) xs rest low d free =
    let n = d.2 in
    let q = d.3 in
    let behind : is_sign_next LeftBracket (d.1 ++ rest) ≡ true =
    subst (λ l. is_sign_next LeftBracket l ≡ true) (sym (parts_behind d.1 q.0 q.1 rest q.4)) (is_sign_next-again LeftBracket q.0 (q.1 ++ rest) q.2) in
    let next : is_cell_next (xs ++ rest) ≡ true = subst (λ l. is_cell_next l ≡ true) (sym (parts_behind xs d.0 d.1 rest d.4)) (rw (n.3, n.1, behind) refl) in
    either_first is_cell_next (made (λ v. T.Cell v.0 v.1) (cell fuel)) (made (λ x. T.Name x) (name fuel)) (xs ++ rest) next ∙ made_again (λ v. T.Cell v.0 v.1) (cell_whole fuel) (a, e) xs rest low d tt

pub lvalue_whole : (fuel : ℕ) → IsWhole (lvalue fuel) (λ l. lvalue_height l ≤ fuel) IsLvalue (λ l rest. is_sign_next LeftBracket rest ≡ false)
lvalue_whole fuel = record { again = lvalue_again fuel }

lvalue_high : (l : LvalueTree) → 1 ≤ lvalue_height l
lvalue_high (T.Name x) = omega arith
lvalue_high (T.Cell a e) = omega arith

abbrev pub lvalue_name : LvalueTree → Identifier
lvalue_name (T.Name x) = x
lvalue_name (T.Cell a e) = a

pub lvalue_starts : (l : LvalueTree) (xs : List Token) → IsLvalue l xs → Starts (Kind.Name (lvalue_name l).name) xs
lvalue_starts (T.Name x) xs d = starts_name x xs d
lvalue_starts (T.Cell a e) xs d = starts_then (Kind.Name a.name) xs d (starts_name a d.0 d.2)

-- ---- changes, with an operator behind the lvalue or before it

pub changed : (l : LvalueTree) (o : AssignOperator) (e : ExpressionTree) (xs : List Token) → (IsLvalue l ⨾ IsChanging (o, e)) xs → IsChange (record { lvalue = l; operator = o; value = e }) xs
changed l o e xs (us, vs, d, inl s, p) = inl (us, vs, d, s, p)
changed l o e xs (us, vs, d, inr s, p) = inr (s.0, inl (us, vs, d, s.1, p))

abbrev pub IsBehind : ChangeTree → List Token → Type 0
IsBehind c = IsLvalue c.lvalue ⨾ IsChanging (c.operator, c.value)

abbrev pub IsPrefixed : ChangeTree → List Token → Type 0
IsPrefixed c ts = (c.value ≡ one) × (IsStepSign c.operator ⨾ IsLvalue c.lvalue) ts

pub parted : (c : ChangeTree) (xs : List Token) → IsChange c xs → IsBehind c xs ⊎ IsPrefixed c xs
parted c xs (inl d) = inl (d.0, d.1, d.2, inl d.3, d.4)
parted c xs (inr (e, inl d)) = inl (d.0, d.1, d.2, inr (e, d.3), d.4)
parted c xs (inr (e, inr d)) = inr (e, d)

pub prefixed_sound : (fuel : ℕ) → IsSound (prefixed fuel) (λ c. change_height c ≤ suc fuel) IsChange Any
unfolding prefixed
prefixed_sound fuel = record {
  takes = made_takes (λ v. record { lvalue = v.1; operator = v.0; value = one }) (both step_sound (lvalue_sound fuel)) (λ c. change_height c ≤ suc fuel) IsChange Any
      (λ v f. let low = f.1 in let high = lvalue_high v.1 in omega arith) (λ v xs d. inr (refl, inr d)) (λ v r l. tt);
}

prefixed_again : (fuel : ℕ) (c : ChangeTree) (xs rest : List Token) → change_height c ≤ suc fuel → IsPrefixed c xs → is_sign_next LeftBracket rest ≡ false → prefixed fuel (xs ++ rest) ≡ Ok (c, rest)
unfolding prefixed
prefixed_again fuel c xs rest low d k =
    made_again (λ v. record { lvalue = v.1; operator = v.0; value = one }) (both' step_whole (lvalue_whole fuel) (λ o l ys r e j. tt)) (c.operator, c.lvalue) xs rest (tt, omega arith) d.1 k
    ∙ ap (λ (v : ExpressionTree). done {A = ChangeTree × List Token} (record { lvalue = c.lvalue; operator = c.operator; value = v }, rest)) (sym d.0)

pub prefixed_whole : (fuel : ℕ) → IsWhole (prefixed fuel) (λ c. change_height c ≤ suc fuel) IsPrefixed (λ c rest. is_sign_next LeftBracket rest ≡ false)
prefixed_whole fuel = record { again = prefixed_again fuel }

pub prefixed_next : (c : ChangeTree) (xs rest : List Token) → IsPrefixed c xs → is_step_next (xs ++ rest) ≡ true
prefixed_next c xs rest d =
    let s = d.1 in
    subst (λ (l : List Token). is_step_next l ≡ true) (sym (parts_behind xs s.0 s.1 rest s.4)) (is_step_next-again c.operator s.0 (s.1 ++ rest) s.2)

-- ---- what a `for` sets

set_of_low : (fuel : ℕ) (l : LvalueTree) (v : Deed ExpressionTree) → lvalue_height l ≤ fuel → FitsDeed (λ e. expression_height e ≤ fuel) (LowChanging fuel) v → set_height (set_of l v) ≤ suc fuel
set_of_low fuel l (Becomes e) le f = omega arith
set_of_low fuel l (Changes o e) le f =
    let high = lvalue_high l in
    let low = f (omega arith) in
    omega arith

set_of_spelled : (l : LvalueTree) (v : Deed ExpressionTree) (xs : List Token) → (IsLvalue l ⨾ SpellsDeed IsExpression IsChanging v) xs → IsSet (set_of l v) xs
set_of_spelled l (Becomes e) xs d = d
set_of_spelled l (Changes o e) xs d = changed l o e xs d

set_behind_sound : (fuel : ℕ) → IsSound (set_behind fuel) (λ s. set_height s ≤ suc fuel) IsSet Any
unfolding set_behind
set_behind_sound fuel = record {
  takes = made_takes (λ v. set_of v.0 v.1) (both (lvalue_sound fuel) (deed_sound (expression_sound fuel) (changing_sound fuel))) (λ s. set_height s ≤ suc fuel) IsSet Any
      (λ v f. set_of_low fuel v.0 v.1 f.0 f.1) (λ v xs d. set_of_spelled v.0 v.1 xs d) (λ v r l. tt);
}

pub set_sound : (fuel : ℕ) → IsSound (set fuel) (λ s. set_height s ≤ fuel) IsSet Any
unfolding set
set_sound fuel = record {
  takes = under_takes (λ r s. set_height s ≤ r) (λ r. record {
    takes = either_takes is_step_next (made (λ c. T.Changes c) (prefixed r)) (set_behind r)
        (λ ts x rest h. made_takes (λ c. T.Changes c) (prefixed_sound r) (λ s. set_height s ≤ suc r) IsSet Any (λ c f. f) (λ c xs d. d) (λ c r l. tt) ts x rest)
        (λ ts x rest h. (set_behind_sound r).takes ts x rest);
  }) (λ r x f. f) fuel;
}

set_behind_again : (fuel : ℕ) (l : LvalueTree) (v : Deed ExpressionTree) (xs rest : List Token) → lvalue_height l ≤ fuel → FitsDeed (λ e. expression_height e ≤ fuel) (λ c. expression_height c.1 ≤ fuel) v → (IsLvalue l ⨾ SpellsDeed IsExpression IsChanging v) xs → Ends 0 rest → set_behind fuel (xs ++ rest) ≡ Ok (set_of l v, rest)
unfolding set_behind
set_behind_again fuel l v xs rest low f d k =
    made_again (λ v. set_of v.0 v.1) (both' (lvalue_whole fuel) (deed_whole (expression_whole fuel) (changing_whole fuel) changing_begins) (λ l v ys r e j. deed_not (expression_whole fuel) (changing_whole fuel) changing_begins LeftBracket refl refl v ys r e)) (l, v) xs rest (low, f) d k

lvalue_no_step : (l : LvalueTree) {Q : List Token → Type 0} (xs rest : List Token) → (IsLvalue l ⨾ Q) xs → is_step_next (xs ++ rest) ≡ false
lvalue_no_step l xs rest d =
    passes_is is_step (Kind.Name (lvalue_name l).name) false refl xs rest (starts_then (Kind.Name (lvalue_name l).name) xs d (lvalue_starts l d.0 d.2))

set_high : (s : SetTree) → 1 ≤ set_height s
set_high (T.Becomes l e) = omega arith
set_high (T.Changes c) = omega arith

set_again : (fuel : ℕ) (s : SetTree) (xs rest : List Token) → set_height s ≤ fuel → IsSet s xs → Ends 0 rest → set fuel (xs ++ rest) ≡ Ok (s, rest)
unfolding set less
set_again zero s xs rest low d k = absurd (let high = set_high s in omega arith)
set_again (suc r) (T.Becomes l e) xs rest low d k =
    either_second is_step_next (made (λ c. T.Changes c) (prefixed r)) (set_behind r) (xs ++ rest) (lvalue_no_step l xs rest d)
    ∙ set_behind_again r l (Becomes e) xs rest (omega arith) (omega arith) d k
set_again (suc r) (T.Changes c) xs rest low d k =
    elim (parted c xs d) [
      | inl b ↦
          either_second is_step_next (made (λ c. T.Changes c) (prefixed r)) (set_behind r) (xs ++ rest) (lvalue_no_step c.lvalue xs rest b)
          ∙ set_behind_again r c.lvalue (Changes c.operator c.value) xs rest (omega arith) (omega arith) b k
      | inr p ↦
          either_first is_step_next (made (λ c. T.Changes c) (prefixed r)) (set_behind r) (xs ++ rest) (prefixed_next c xs rest p)
          ∙ made_again (λ c. T.Changes c) (prefixed_whole r) c xs rest low p k.no_index
    ]

pub set_whole : (fuel : ℕ) → IsWhole (set fuel) (λ s. set_height s ≤ fuel) IsSet (λ s rest. Ends 0 rest)
set_whole fuel = record { again = set_again fuel }

-- ---- with which tokens changes and sets begin

abbrev pub begins_set : TokenKind → Bool
begins_set kind = is_name kind || is_step kind

lvalue_begins : (l : LvalueTree) (xs : List Token) → IsLvalue l xs → is_next begins_set xs ≡ true
lvalue_begins l xs d = let s = lvalue_starts l xs d in rw (s.parts, s.is) refl

pub change_begins : (c : ChangeTree) (xs : List Token) → IsChange c xs → is_next begins_set xs ≡ true
change_begins c xs d =
    elim (parted c xs d) [
      | inl b ↦ passes_then begins_set xs b (lvalue_begins c.lvalue b.0 b.2)
      | inr p ↦ let s = p.1 in let k = step_token c.operator s.0 s.2 in passes_then begins_set xs s (rw (k.parts, k.is, k.stands) refl)
    ]

pub set_begins : (s : SetTree) (xs : List Token) → IsSet s xs → is_next begins_set xs ≡ true
set_begins (T.Becomes l e) xs d = passes_then begins_set xs d (lvalue_begins l d.0 d.2)
set_begins (T.Changes c) xs d = change_begins c xs d

pub begins_no_word : (k : Keyword) (kind : TokenKind) → begins_set kind ≡ true → is_word k kind ≡ false
begins_no_word k (Kind.Name x) e = refl
begins_no_word k (Kind.Constant c) e = refl
begins_no_word k (Kind.Keyword l) e = absurd cc
begins_no_word k (Kind.Punctuator p) e = refl

pub begins_no_type : (xs rest : List Token) → is_next begins_set xs ≡ true → is_type_next (xs ++ rest) ≡ false
begins_no_type [] rest e = absurd cc
begins_no_type (t ∷ ts) rest e = rw (begins_no_word K.Int t.kind e, begins_no_word K.Unsigned t.kind e) refl

-- ---- how a `for` begins

start_local_sound : (fuel : ℕ) → IsSound (start_local fuel) (λ s. start_height s ≤ fuel) IsStart Any
unfolding start_local
start_local_sound fuel =
    let behind : IsSound (under (λ r. name r & sign Assign ▷ expression_at r 0 ◁ sign Semicolon) fuel) (λ v. suc (max 1 (expression_height v.1)) ≤ fuel) (λ v. IsName v.0 ⨾ (Sign Assign ⨾ (IsExpression v.1 ⨾ Sign Semicolon))) Any = record {
      takes = under_takes (λ r v. suc (max 1 (expression_height v.1)) ≤ r) (λ r. both (name_sound r) (after (sign_mark Assign) (before (expression_sound r) (sign_mark Semicolon)))) (λ r v f. let one = f.0 in let low = f.1 in omega arith) fuel;
    } in
    record { takes = made_takes (λ v. T.StartLocal v.0 v.1.0 v.1.1) (both type_sound behind) (λ s. start_height s ≤ fuel) IsStart Any (λ v f. f.1) (λ v xs d. d) (λ v rest l. tt) }

start_set_sound : (fuel : ℕ) → IsSound (start_set fuel) (λ s. start_height s ≤ fuel) IsStart Any
unfolding start_set
start_set_sound fuel = record {
  takes = made_takes (λ s. T.StartSet s) (before (set_sound fuel) (sign_mark Semicolon)) (λ s. start_height s ≤ fuel) IsStart Any (λ v f. f) (λ v xs d. d) (λ v rest l. tt);
}

pub start_sound : (fuel : ℕ) → IsSound (start fuel) (λ s. start_height s ≤ fuel) IsStart Any
unfolding start start_nothing
start_sound fuel = record {
  takes = either_takes (is_sign_next Semicolon) start_nothing (either is_type_next (start_local fuel) (start_set fuel))
      (λ ts x rest h. marked_takes Semicolon T.StartNothing (λ s. start_height s ≤ fuel) IsStart Any (omega arith) (λ xs d. d) (λ r. tt) ts x rest)
      (λ ts x rest h. either_takes is_type_next (start_local fuel) (start_set fuel) (λ ts x rest h. (start_local_sound fuel).takes ts x rest) (λ ts x rest h. (start_set_sound fuel).takes ts x rest) ts x rest);
}
