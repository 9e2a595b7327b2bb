-- Parts of statements that are no statements: what is read is spelled so, and is no higher than the fuel.
use Rattle.std.proofs.Common.{◌≡◌, ℕ, suc, ◌≤◌, List, [], ◌∷◌, ◌++◌, Option, Some, None, Ok, refl, sym, ap, subst, ◌∙◌, append_assoc, append-nil, arith}
use Rattle.c_syntax.specs.declared.keyword.Keyword.{Keyword}
use Rattle.c_syntax.specs.declared.punctuator.Punctuator.{Punctuator}
use Rattle.c_syntax.specs.declared.punctuator.Punctuator.TheVariants.{LeftParenthesis, RightParenthesis, Semicolon, Assign, Comma}
use Rattle.c_syntax.specs.declared.token.Token.{Token}
use Rattle.c_syntax.specs.declared.token.TokenKind.TheVariants as Kind
use Rattle.c_syntax.specs.declared.identifier.Identifier.{Identifier}
use Rattle.c_syntax.specs.Trees.{ExpressionTree, CallTree, ValueTree, LvalueTree, SetTree, LocalTree, StartTree}
use Rattle.c_syntax.specs.Trees as T
use Rattle.c_syntax.specs.Parts.{OneAt, Sign, Word, IsName, IsType, ◌⨾◌, Perhaps, Commas}
use Rattle.c_syntax.specs.Expressions.{IsExpression}
use Rattle.c_syntax.specs.Statements.{IsCall, IsValue, IsLocalValue, IsLocal}
use Rattle.c_syntax.specs.Heights.{expression_height, arguments_height, call_height, value_height, optional_height, local_height, IfThere}
use Rattle.c_reader_tokens.specs.Reading.{Reading}
use Rattle.c_reader_tokens.specs.Peeking.{is_sign_next, is_call_next}
use Rattle.c_reader_tokens.specs.Tokens.{sign, word, placed_word, placed_name, integer_type}
use Rattle.c_reader_tokens.proofs.Laws.{done, ok_is, bind_ok}
use Rattle.c_reader_tokens.proofs.Tokens.{sign_takes, sign_again, word_takes, word_again, placed_word_takes, placed_name_takes, integer_type_takes}
use Rattle.c_reader_expression_laws.specs.Reading.{expression_at}
use Rattle.c_reader_expression_laws.proofs.Laws.{expression_takes}
use Rattle.c_reader_productions.specs.Combining.{◌▷◌, made, commas}
use Rattle.c_reader_productions.specs.Parts.{name, arguments, call, value, local_value, local}
use Rattle.c_reader_productions.proofs.Laws.{IsMark, IsTaken, IsSound, Any, Whatever, after, before, both, made_takes, either_takes, only, under_takes, Each, AllFit, each_sound}

pub sign_mark : (p : Punctuator) → IsMark (sign p) (Sign p)
sign_mark p = record { takes = sign_takes p; again = sign_again p }

pub word_mark : (k : Keyword) → IsMark (word k) (Word k)
word_mark k = record { takes = word_takes k; again = word_again k }

-- what fits and is spelled in one way is so in another
pub sound_as : {A : Type 0} {part : Reading A} {F : A → Type 0} {P L : A → List Token → Type 0} → IsSound part F P L → (G : A → Type 0) (Q : A → List Token → Type 0) → ((x : A) → F x → G x) → ((x : A) (xs : List Token) → P x xs → Q x xs) → IsSound part G Q Any
sound_as p G Q fits spells = record {
  takes = λ ts x rest e.
      let t = p.takes ts x rest e in
      record { fits = fits x t.fits; leaves = tt; front = t.front; spelled = spells x t.front t.spelled; parts = t.parts };
}

pub placed_word_sound : (k : Keyword) → IsSound (placed_word k) Whatever (λ at. OneAt (Kind.Keyword k) at) Any
placed_word_sound k = record {
  takes = λ ts x rest e. let t = placed_word_takes k ts x rest e in record { fits = tt; leaves = tt; front = t.front; spelled = t.spelled; parts = t.parts };
}

placed_name_sound : IsSound placed_name Whatever IsName Any
placed_name_sound = record {
  takes = λ ts x rest e. let t = placed_name_takes ts x rest e in record { fits = tt; leaves = tt; front = t.front; spelled = t.spelled; parts = t.parts };
}

pub type_sound : IsSound integer_type Whatever IsType Any
type_sound = record {
  takes = λ ts x rest e. let t = integer_type_takes ts x rest e in record { fits = tt; leaves = tt; front = t.front; spelled = t.spelled; parts = t.parts };
}

pub expression_sound : (fuel : ℕ) → IsSound (expression_at fuel 0) (λ e. expression_height e ≤ fuel) IsExpression Any
expression_sound fuel = record {
  takes = λ ts x rest e. let t = expression_takes fuel 0 ts x rest e in record { fits = t.low; leaves = tt; front = t.takes.front; spelled = t.takes.spelled; parts = t.takes.parts };
}

pub name_sound : (fuel : ℕ) → IsSound (name fuel) (λ x. 1 ≤ fuel) IsName Any
unfolding name
name_sound fuel = record { takes = under_takes (λ r (x : Identifier). 1 ≤ r) (λ r. placed_name_sound) (λ r x f. omega arith) fuel }

-- ---- arguments and calls

together : {A : Type 0} (P : A → List Token → Type 0) (x : A) (ys : List A) (xs : List Token) → (P x ⨾ Each (λ y. Sign Comma ⨾ P y) ys) xs → Commas P (x ∷ ys) xs
together P x [] xs d = subst (P x) (sym (d.4 ∙ ap (λ l. d.0 ++ l) d.3 ∙ append-nil d.0)) d.2
together P x (y ∷ ys) xs d =
    let next = d.3 in
    let one = next.2 in (
      d.0,
      one.0 ++ (one.1 ++ next.1),
      d.2,
      (one.0, one.1 ++ next.1, one.2, together P y ys (one.1 ++ next.1) (one.1, next.1, one.3, next.3, refl), refl),
      d.4 ∙ ap (λ l. d.0 ++ l) (next.4 ∙ ap (λ l. l ++ next.1) one.4 ∙ append_assoc one.0 one.1 next.1),
    )

pub commas_sound : {A : Type 0} {part : Reading A} {F : A → Type 0} {P L : A → List Token → Type 0} → IsSound part F P L → IsSound (commas part) (AllFit F) (Commas P) Any
unfolding commas
commas_sound {A} {part} {F} {P} p = record {
  takes = made_takes (λ v. v.0 ∷ v.1) (both p (each_sound (is_sign_next Comma) (after (sign_mark Comma) p))) (AllFit F) (Commas P) Any (λ v f. f) (λ v xs d. together P v.0 v.1 xs d) (λ v r l. tt);
}

pub arguments_sound : (fuel : ℕ) → IsSound (arguments fuel) (AllFit (λ e. expression_height e ≤ fuel)) (Commas IsExpression) Any
unfolding arguments
arguments_sound fuel = record {
  takes = either_takes (is_sign_next RightParenthesis) (λ l. Ok ([], l)) (commas (expression_at fuel 0))
      (λ ts x rest h e. subst (λ (z : List ExpressionTree × List Token). IsTaken (AllFit (λ e. expression_height e ≤ fuel)) (Commas IsExpression) Any ts z.0 z.1) (ok_is ([], ts) (x, rest) e) (record { fits = tt; leaves = tt; front = []; spelled = refl; parts = refl }))
      (λ ts x rest h. (commas_sound (expression_sound fuel)).takes ts x rest);
}

arguments_low : (fuel : ℕ) (es : List ExpressionTree) → 1 ≤ fuel → AllFit (λ e. expression_height e ≤ fuel) es → arguments_height es ≤ fuel
arguments_low fuel [] le f = le
arguments_low fuel (e ∷ es) le f =
    let one = f.0 in
    let more = arguments_low fuel es le f.1 in
    omega arith

pub call_sound : (fuel : ℕ) → IsSound (call fuel) (λ c. call_height c ≤ fuel) IsCall Any
unfolding call
call_sound fuel = record {
  takes = under_takes (λ r c. call_height c ≤ r) (λ r. record {
    takes = made_takes (λ v. record { callee = v.0; arguments = v.1 }) (both (name_sound r) (after (sign_mark LeftParenthesis) (before (arguments_sound r) (sign_mark RightParenthesis)))) (λ c. call_height c ≤ suc r) IsCall Any
        (λ v f. let low = arguments_low r v.1 f.0 f.1 in omega arith) (λ v xs d. d) (λ v rest l. tt);
  }) (λ r x f. f) fuel;
}

pub value_sound : (fuel : ℕ) → IsSound (value fuel) (λ v. value_height v ≤ fuel) IsValue Any
unfolding value
value_sound fuel = record {
  takes = either_takes is_call_next (made (λ c. T.Called c) (call fuel)) (made (λ e. T.Plain e) (expression_at fuel 0))
      (λ ts x rest h. made_takes (λ c. T.Called c) (call_sound fuel) (λ v. value_height v ≤ fuel) IsValue Any (λ v f. f) (λ v xs d. d) (λ v r l. tt) ts x rest)
      (λ ts x rest h. made_takes (λ e. T.Plain e) (expression_sound fuel) (λ v. value_height v ≤ fuel) IsValue Any (λ v f. f) (λ v xs d. d) (λ v r l. tt) ts x rest);
}

-- ---- locals

pub option_low : {A : Type 0} (height : A → ℕ) (fuel : ℕ) (o : Option A) → IfThere (λ x. height x ≤ fuel) o → optional_height height o ≤ fuel
option_low height fuel None f = omega arith
option_low height fuel (Some x) f = f

local_value_spelled : (o : Option ValueTree) (xs : List Token) → Perhaps (λ v. Sign Assign ⨾ IsValue v) o xs → IsLocalValue o xs
local_value_spelled None xs d = d
local_value_spelled (Some v) xs d = d

local_value_sound : (fuel : ℕ) → IsSound (local_value fuel) (λ o. optional_height value_height o ≤ fuel) IsLocalValue Any
unfolding local_value
local_value_sound fuel = sound_as (only (is_sign_next Assign) (after (sign_mark Assign) (value_sound fuel))) (λ o. optional_height value_height o ≤ fuel) IsLocalValue (λ o f. option_low value_height fuel o f) local_value_spelled

pub local_sound : (fuel : ℕ) → IsSound (local fuel) (λ l. local_height l ≤ suc fuel) IsLocal Any
unfolding local
local_sound fuel = record {
  takes = made_takes (λ v. record { kind = v.0; name = v.1.0; value = v.1.1 }) (both type_sound (both (name_sound fuel) (before (local_value_sound fuel) (sign_mark Semicolon)))) (λ l. local_height l ≤ suc fuel) IsLocal Any
      (λ v f. let one = f.1.0 in let low = f.1.1 in omega arith) (λ v xs d. d) (λ v rest l. tt);
}

-- one mark that stands for a value
pub marked_takes : {A : Type 0} (p : Punctuator) (value : A) (F : A → Type 0) (P L : A → List Token → Type 0) → F value → ((xs : List Token) → Sign p xs → P value xs) → ((rest : List Token) → L value rest) → (ts : List Token) (x : A) (rest : List Token) → (sign p ▷ (λ r. Ok (value, r))) ts ≡ Ok (x, rest) → IsTaken F P L ts x rest
marked_takes {A} p value F P L fits spells leaves ts x rest e =
    let b = bind_ok (sign p ts) (λ r. done (value, r)) (x, rest) e in
    let t = sign_takes p ts b.0 b.1 in
    subst (λ (z : A × List Token). IsTaken F P L ts z.0 z.1) (ok_is (value, b.0) (x, rest) b.2)
    (record { fits = fits; leaves = leaves b.0; front = t.front; spelled = spells t.front t.spelled; parts = t.parts })
