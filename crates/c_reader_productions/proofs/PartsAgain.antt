-- Parts of statements that are no statements: what is spelled so and is no higher than the fuel is read.
use Rattle.std.proofs.Common.{◌≡◌, ℕ, zero, suc, ◌+◌, ◌≤◌, Bool, true, false, List, [], ◌∷◌, ◌++◌, length, Option, Some, None, Ok, refl, sym, ap, subst, ◌∙◌, append_assoc, append-nil, arith}
use Rattle.std.proofs.lemmas.List.{length-append}
use Rattle.c_syntax.specs.declared.keyword.Keyword.{Keyword}
use Rattle.c_syntax.specs.declared.keyword.Keyword.TheVariants as K
use Rattle.c_syntax.specs.declared.punctuator.Punctuator.{Punctuator}
use Rattle.c_syntax.specs.declared.punctuator.Punctuator.TheVariants.{LeftParenthesis, RightParenthesis, Semicolon, Assign, Comma}
use Rattle.c_syntax.specs.declared.token.Token.{Token}
use Rattle.c_syntax.specs.declared.token.TokenKind.TheVariants as Kind
use Rattle.c_syntax.specs.declared.token.TokenKind.{TokenKind}
use Rattle.c_syntax.specs.declared.identifier.Identifier.{Identifier}
use Rattle.c_syntax.specs.Trees.{ExpressionTree, CallTree, ValueTree, LvalueTree, SetTree, LocalTree, StartTree}
use Rattle.c_syntax.specs.Trees as T
use Rattle.c_syntax.specs.Parts.{OneAt, Sign, Word, IsName, IsType, ◌⨾◌, Commas}
use Rattle.c_syntax.specs.Expressions.{IsExpression}
use Rattle.c_syntax.specs.Statements.{IsCall, IsValue, IsLocalValue, IsLocal}
use Rattle.c_syntax.specs.Heights.{expression_height, arguments_height, call_height, value_height, optional_height, local_height, IfThere}
use Rattle.c_reader_tokens.specs.Reading.{Reading, ◌>>=◌}
use Rattle.c_reader_tokens.specs.Peeking.{is_sign, is_next, is_sign_next, is_word_next, is_call_next}
use Rattle.c_reader_tokens.specs.Tokens.{sign, placed_word, placed_name, integer_type}
use Rattle.c_reader_tokens.proofs.Laws.{done, parts_behind}
use Rattle.c_reader_tokens.proofs.Tokens.{is_sign_next-again, placed_word_again, placed_name_again, integer_type_again}
use Rattle.c_reader_expression_laws.specs.Operators.{Ends}
use Rattle.c_reader_expression_laws.specs.Reading.{expression_at}
use Rattle.c_reader_expression_laws.proofs.Continuing.{ends_behind}
use Rattle.c_reader_expression_laws.proofs.Laws.{expression_again}
use Rattle.c_reader_productions.specs.Combining.{◌▷◌, ◌◁◌, ◌&◌, made, repeated, each, commas}
use Rattle.c_reader_productions.specs.Parts.{name, arguments, call, value, local_value, local}
use Rattle.c_reader_productions.proofs.Laws.{IsWhole, Any, Whatever, after', before', both', made_again, only', either_first, either_second, under_again, Each, AllFit}
use Rattle.c_reader_productions.proofs.PartsTaken.{sign_mark}
use Rattle.c_reader_expression_laws.proofs.Beginning.{expression_begins, not_sign, expression_no_call}

placed_name_whole : IsWhole placed_name Whatever IsName Any
placed_name_whole = record { again = λ x xs rest f d e. placed_name_again x xs rest d }

pub placed_word_whole : (k : Keyword) → IsWhole (placed_word k) Whatever (λ at. OneAt (Kind.Keyword k) at) Any
placed_word_whole k = record { again = λ x xs rest f d e. placed_word_again k x xs rest d }

pub type_whole : IsWhole integer_type Whatever IsType (λ t rest. is_word_next K.Int rest ≡ false)
type_whole = record { again = λ t xs rest f d e. integer_type_again t xs rest d e }

pub expression_whole : (fuel : ℕ) → IsWhole (expression_at fuel 0) (λ e. expression_height e ≤ fuel) IsExpression (λ e rest. Ends 0 rest)
expression_whole fuel = record { again = λ e xs rest low d ends. expression_again fuel 0 e xs rest d low ends }

pub name_whole : (fuel : ℕ) → IsWhole (name fuel) (λ x. 1 ≤ fuel) IsName Any
unfolding name
name_whole fuel = record { again = under_again (λ r (x : Identifier). 1 ≤ r) (λ r. placed_name_whole) (λ r x f. tt) (λ x f. absurd (omega arith)) fuel }

-- ---- parts one behind another

module _ {A : Type 0} (goes : List Token → Bool) {part : Reading A} {F : A → Type 0} {P E : A → List Token → Type 0} (p : IsWhole part F P E)
    (begin : (x : A) (xs rest : List Token) → P x xs → goes (xs ++ rest) ≡ true)
    (some : (x : A) (xs : List Token) → P x xs → 1 ≤ length xs)
    (Stop : List Token → Type 0) (stop : (rest : List Token) → Stop rest → goes rest ≡ false)
    (ends : (x : A) (more : List A) (ys rest : List Token) → Each P more ys → Stop rest → E x (ys ++ rest)) where
  no_more_than_tokens : (all : List A) (xs : List Token) → Each P all xs → length all ≤ length xs
  no_more_than_tokens [] xs d = omega arith
  no_more_than_tokens (x ∷ all) xs d =
      let one = some x d.0 d.2 in
      let more = no_more_than_tokens all d.1 d.3 in
      let whole : length xs ≡ length d.0 + length d.1 = ap length d.4 ∙ length-append d.0 d.1 in
      omega arith

  repeated_again : (limit : ℕ) (all : List A) (xs rest : List Token) → length all ≤ limit → AllFit F all → Each P all xs → Stop rest → repeated goes part limit (xs ++ rest) ≡ Ok (all, rest)
  unfolding repeated
  repeated_again zero [] xs rest le f d s = ap (λ (l : List Token). done ([], l ++ rest)) d
  repeated_again zero (x ∷ all) xs rest le f d s = absurd (omega arith)
  repeated_again (suc limit) [] xs rest le f d s =
      ap (λ (l : List Token). repeated goes part (suc limit) (l ++ rest)) d ∙ either_second goes (made (λ v. v.0 ∷ v.1) (part & repeated goes part limit)) (λ l. Ok ([], l)) rest (stop rest s)
  repeated_again (suc limit) (x ∷ all) xs rest le f d s =
      let next : goes (xs ++ rest) ≡ true = subst (λ l. goes l ≡ true) (sym (parts_behind xs d.0 d.1 rest d.4)) (begin x d.0 (d.1 ++ rest) d.2) in
      let rest_of : IsWhole (repeated goes part limit) (λ (l : List A). AllFit F l × (length l ≤ limit)) (Each P) (λ l r. Stop r) = record {
        again = λ l ys r fits e t. repeated_again limit l ys r fits.1 fits.0 e t;
      } in
      either_first goes (made (λ v. v.0 ∷ v.1) (part & repeated goes part limit)) (λ l. Ok ([], l)) (xs ++ rest) next
      ∙ made_again (λ v. v.0 ∷ v.1) (both' p rest_of (λ y l ys r e t. ends y l ys r e t)) (x, all) xs rest (f.0, (f.1, omega arith)) d s

  pub each_whole : IsWhole (each goes part) (AllFit F) (Each P) (λ l rest. Stop rest)
  each_whole = record {
    again = λ all xs rest f d s.
        let le = no_more_than_tokens all xs d in
        let whole = length-append xs rest in
        repeated_again (length (xs ++ rest)) all xs rest (omega arith) f d s;
  }

-- ---- arguments and calls

-- what stands behind an expression or a row of them, and goes on with neither
pub record Closed (rest : List Token) : Type 0 where
  pub ends : Ends 0 rest
  pub no_comma : is_sign_next Comma rest ≡ false
  pub no_call : is_sign_next LeftParenthesis rest ≡ false

pub closed_by : (p : Punctuator) → is_sign Comma (Kind.Punctuator p) ≡ false → is_sign LeftParenthesis (Kind.Punctuator p) ≡ false → ((xs rest : List Token) → Sign p xs → Ends 0 (xs ++ rest)) → (xs rest : List Token) → Sign p xs → Closed (xs ++ rest)
closed_by p comma call ends xs rest s = record { ends = ends xs rest s; no_comma = rw (s.2, s.1) comma; no_call = rw (s.2, s.1) call }

asunder : {A : Type 0} (P : A → List Token → Type 0) (x : A) (ys : List A) (xs : List Token) → Commas P (x ∷ ys) xs → (P x ⨾ Each (λ y. Sign Comma ⨾ P y) ys) xs
asunder P x [] xs d = (xs, [], d, refl, sym (append-nil xs))
asunder P x (y ∷ ys) xs d =
    let q = d.3 in
    let more = asunder P y ys q.1 q.3 in
    (d.0, q.0 ++ q.1, d.2, (q.0 ++ more.0, more.1, (q.0, more.0, q.2, more.2, refl), more.3, ap (λ l. q.0 ++ l) more.4 ∙ sym (append_assoc q.0 more.0 more.1)), d.4 ∙ ap (λ l. d.0 ++ l) q.4)

abbrev pub SomeFit : {A : Type 0} → (A → Type 0) → List A → Type 0
SomeFit F [] = ⊥
SomeFit F (x ∷ xs) = F x × AllFit F xs

module _ {A : Type 0} {part : Reading A} {F : A → Type 0} {P E : A → List Token → Type 0} (p : IsWhole part F P E) (comma : (x : A) (ys rest : List Token) → Sign Comma ys → E x (ys ++ rest)) (stop : (x : A) (rest : List Token) → Closed rest → E x rest) where
  begins_comma : (x : A) (xs rest : List Token) → (Sign Comma ⨾ P x) xs → is_sign_next Comma (xs ++ rest) ≡ true
  begins_comma x xs rest d = subst (λ l. is_sign_next Comma l ≡ true) (sym (parts_behind xs d.0 d.1 rest d.4)) (is_sign_next-again Comma d.0 (d.1 ++ rest) d.2)

  some_tokens : (x : A) (xs : List Token) → (Sign Comma ⨾ P x) xs → 1 ≤ length xs
  some_tokens x xs d =
      let whole : length xs ≡ length d.0 + length d.1 = ap length d.4 ∙ length-append d.0 d.1 in
      let s = d.2 in
      let one : length d.0 ≡ 1 = ap length s.2 in
      omega arith

  comma_ends : (x : A) (more : List A) (ys rest : List Token) → Each (λ y. Sign Comma ⨾ P y) more ys → Closed rest → E x (ys ++ rest)
  comma_ends x [] ys rest d c = subst (λ (l : List Token). E x (l ++ rest)) (sym d) (stop x rest c)
  comma_ends x (y ∷ more) ys rest d c =
      let q = d.2 in
      subst (E x) (sym (parts_behind ys d.0 d.1 rest d.4 ∙ parts_behind d.0 q.0 q.1 (d.1 ++ rest) q.4)) (comma x q.0 (q.1 ++ (d.1 ++ rest)) q.2)

  commas_again : (all : List A) (xs rest : List Token) → SomeFit F all → Commas P all xs → Closed rest → commas part (xs ++ rest) ≡ Ok (all, rest)
  unfolding commas
  commas_again [] xs rest f d c = absurd f
  commas_again (x ∷ ys) xs rest f d c =
      made_again (λ v. v.0 ∷ v.1) (both' p (each_whole (is_sign_next Comma) (after' (sign_mark Comma) p) begins_comma some_tokens Closed (λ r k. k.no_comma) comma_ends) (λ y l us r e k. comma_ends y l us r e k)) (x, ys) xs rest f (asunder P x ys xs d) c

  pub commas_whole : IsWhole (commas part) (SomeFit F) (Commas P) (λ all rest. Closed rest)
  commas_whole = record { again = commas_again }

-- what stands behind arguments
pub record Behind (rest : List Token) : Type 0 where
  pub closed : Closed rest
  pub next : is_sign_next RightParenthesis rest ≡ true

expressions_whole : (fuel : ℕ) → IsWhole (commas (expression_at fuel 0)) (SomeFit (λ e. expression_height e ≤ fuel)) (Commas IsExpression) (λ es rest. Closed rest)
expressions_whole fuel = commas_whole (expression_whole fuel) (λ e ys rest s. ends_behind Comma refl refl refl 0 ys rest s) (λ e rest c. c.ends)

commas_begin : (e : ExpressionTree) (es : List ExpressionTree) (xs rest : List Token) → Commas IsExpression (e ∷ es) xs → is_sign_next RightParenthesis (xs ++ rest) ≡ false
commas_begin e [] xs rest d = not_sign RightParenthesis refl xs rest (expression_begins 0 e xs d)
commas_begin e (f ∷ es) xs rest d =
    subst (λ l. is_sign_next RightParenthesis l ≡ false) (sym (parts_behind xs d.0 d.1 rest d.4)) (not_sign RightParenthesis refl d.0 (d.1 ++ rest) (expression_begins 0 e d.0 d.2))

arguments_again : (fuel : ℕ) (es : List ExpressionTree) (xs rest : List Token) → AllFit (λ e. expression_height e ≤ fuel) es → Commas IsExpression es xs → Behind rest → arguments fuel (xs ++ rest) ≡ Ok (es, rest)
unfolding arguments
arguments_again fuel [] xs rest f d b =
    ap (λ (l : List Token). arguments fuel (l ++ rest)) d ∙ either_first (is_sign_next RightParenthesis) (λ l. Ok ([], l)) (commas (expression_at fuel 0)) rest b.next
arguments_again fuel (e ∷ es) xs rest f d b =
    either_second (is_sign_next RightParenthesis) (λ l. Ok ([], l)) (commas (expression_at fuel 0)) (xs ++ rest) (commas_begin e es xs rest d)
    ∙ (expressions_whole fuel).again (e ∷ es) xs rest f d b.closed

arguments_whole : (fuel : ℕ) → IsWhole (arguments fuel) (AllFit (λ e. expression_height e ≤ fuel)) (Commas IsExpression) (λ es rest. Behind rest)
arguments_whole fuel = record { again = arguments_again fuel }

arguments_fit : (fuel : ℕ) (es : List ExpressionTree) → arguments_height es ≤ fuel → (1 ≤ fuel) × AllFit (λ e. expression_height e ≤ fuel) es
arguments_fit fuel [] le = (le, tt)
arguments_fit fuel (e ∷ es) le =
    let more = arguments_fit fuel es (omega arith) in
    (more.0, (omega arith, more.1))

behind_arguments : (xs rest : List Token) → Sign RightParenthesis xs → Behind (xs ++ rest)
behind_arguments xs rest s = record {
  closed = closed_by RightParenthesis refl refl (λ us r t. ends_behind RightParenthesis refl refl refl 0 us r t) xs rest s;
  next = is_sign_next-again RightParenthesis xs rest s;
}

pub call_again : (fuel : ℕ) (c : CallTree) (xs rest : List Token) → call_height c ≤ fuel → IsCall c xs → call fuel (xs ++ rest) ≡ Ok (c, rest)
unfolding call
call_again fuel c xs rest low d =
    let parts : (r : ℕ) → IsWhole (made (λ v. record { callee = v.0; arguments = v.1 }) (name r & sign LeftParenthesis ▷ arguments r ◁ sign RightParenthesis)) (λ (c : CallTree). (1 ≤ r) × AllFit (λ e. expression_height e ≤ r) c.arguments) IsCall Any = λ r. record {
      again = λ c xs rest f d e. made_again (λ v. record { callee = v.0; arguments = v.1 })
          (both' (name_whole r) (after' (sign_mark LeftParenthesis) (before' (arguments_whole r) (sign_mark RightParenthesis) (λ es ys rest s. behind_arguments ys rest s)))
          (λ x es ys rest d e. tt)) (c.callee, c.arguments) xs rest f d tt;
    } in
    under_again (λ r (c : CallTree). call_height c ≤ r) parts (λ r c f. arguments_fit r c.arguments (omega arith)) (λ c f. absurd (omega arith)) fuel c xs rest low d tt

called : (c : CallTree) (xs rest : List Token) → IsCall c xs → is_call_next (xs ++ rest) ≡ true
called c xs rest d =
    let n = d.2 in
    let q = d.3 in
    let s = q.2 in
    let next : is_sign_next LeftParenthesis (d.1 ++ rest) ≡ true =
    subst (λ l. is_sign_next LeftParenthesis l ≡ true) (sym (parts_behind d.1 q.0 q.1 rest q.4)) (is_sign_next-again LeftParenthesis q.0 (q.1 ++ rest) s) in
    subst (λ l. is_call_next l ≡ true) (sym (parts_behind xs d.0 d.1 rest d.4)) (rw (n.3, n.1, next) refl)

value_again : (fuel : ℕ) (v : ValueTree) (xs rest : List Token) → value_height v ≤ fuel → IsValue v xs → Closed rest → value fuel (xs ++ rest) ≡ Ok (v, rest)
unfolding value
value_again fuel (T.Plain e) xs rest low d c =
    either_second is_call_next (made (λ c. T.Called c) (call fuel)) (made (λ e. T.Plain e) (expression_at fuel 0)) (xs ++ rest) (expression_no_call 0 e xs rest d c.no_call)
    ∙ made_again (λ e. T.Plain e) (expression_whole fuel) e xs rest low d c.ends
value_again fuel (T.Called k) xs rest low d c =
    either_first is_call_next (made (λ c. T.Called c) (call fuel)) (made (λ e. T.Plain e) (expression_at fuel 0)) (xs ++ rest) (called k xs rest d)
    ∙ ap (λ r. r >>= λ (y : CallTree × List Token). done (T.Called y.0, y.1)) (call_again fuel k xs rest low d)

pub value_whole : (fuel : ℕ) → IsWhole (value fuel) (λ v. value_height v ≤ fuel) IsValue (λ v rest. Closed rest)
value_whole fuel = record { again = value_again fuel }

-- ---- how something begins

pub closed_semicolon : (xs rest : List Token) → Sign Semicolon xs → Closed (xs ++ rest)
closed_semicolon = closed_by Semicolon refl refl (λ us r t. ends_behind Semicolon refl refl refl 0 us r t)

-- one token of this kind, and more behind it
pub record Starts (kind : TokenKind) (xs : List Token) : Type 0 where
  pub token : Token
  pub more : List Token
  pub is : token.kind ≡ kind
  pub parts : xs ≡ token ∷ more

pub starts_sign : (p : Punctuator) (xs : List Token) → Sign p xs → Starts (Kind.Punctuator p) xs
starts_sign p xs s = record { token = s.0; more = []; is = s.1; parts = s.2 }

pub starts_word : (k : Keyword) (xs : List Token) → Word k xs → Starts (Kind.Keyword k) xs
starts_word k xs s = record { token = s.0; more = []; is = s.1; parts = s.2 }

pub starts_placed : (kind : TokenKind) (at : ℕ) (xs : List Token) → OneAt kind at xs → Starts kind xs
starts_placed kind at xs s = record { token = s.0; more = []; is = s.1; parts = s.3 }

pub starts_then : (kind : TokenKind) {P Q : List Token → Type 0} (xs : List Token) (d : (P ⨾ Q) xs) → Starts kind d.0 → Starts kind xs
starts_then kind xs d s = record { token = s.token; more = s.more ++ d.1; is = s.is; parts = d.4 ∙ ap (λ l. l ++ d.1) s.parts }

-- a test of the next token
pub passes_is : (passes : TokenKind → Bool) (kind : TokenKind) (b : Bool) → passes kind ≡ b → (xs rest : List Token) → Starts kind xs → is_next passes (xs ++ rest) ≡ b
passes_is passes kind b e xs rest s = rw (s.parts, s.is) e

pub starts_name : (x : Identifier) (xs : List Token) → IsName x xs → Starts (Kind.Name x.name) xs
starts_name x xs d = starts_placed (Kind.Name x.name) x.offset xs d

-- ---- locals

pub option_fits : {A : Type 0} (height : A → ℕ) (fuel : ℕ) (o : Option A) → optional_height height o ≤ fuel → IfThere (λ x. height x ≤ fuel) o
option_fits height fuel None le = tt
option_fits height fuel (Some x) le = le

begins_assign : (v : ValueTree) (xs rest : List Token) → (Sign Assign ⨾ IsValue v) xs → is_sign_next Assign (xs ++ rest) ≡ true
begins_assign v xs rest d = passes_is (is_sign Assign) (Kind.Punctuator Assign) true refl xs rest (starts_then (Kind.Punctuator Assign) xs d (starts_sign Assign d.0 d.2))

local_value_again : (fuel : ℕ) (o : Option ValueTree) (xs rest : List Token) → optional_height value_height o ≤ fuel → IsLocalValue o xs → Starts (Kind.Punctuator Semicolon) rest → Closed rest → local_value fuel (xs ++ rest) ≡ Ok (o, rest)
unfolding local_value
local_value_again fuel None xs rest low d s c =
    (only' (is_sign_next Assign) (after' (sign_mark Assign) (value_whole fuel)) (λ v ys r e. begins_assign v ys r e)).again None xs rest tt d (rw (s.parts, s.is) refl)
local_value_again fuel (Some v) xs rest low d s c =
    (only' (is_sign_next Assign) (after' (sign_mark Assign) (value_whole fuel)) (λ v ys r e. begins_assign v ys r e)).again (Some v) xs rest low d c

pub name_no_int : (x : Identifier) (xs rest : List Token) → Starts (Kind.Name x.name) xs → is_word_next K.Int (xs ++ rest) ≡ false
name_no_int x xs rest s = rw (s.parts, s.is) refl

pub local_again : (fuel : ℕ) (l : LocalTree) (xs rest : List Token) → local_height l ≤ suc fuel → IsLocal l xs → local fuel (xs ++ rest) ≡ Ok (l, rest)
unfolding local
local_again fuel l xs rest low d =
    made_again (λ v. record { kind = v.0; name = v.1.0; value = v.1.1 })
    (both' type_whole (both' (name_whole fuel) (before' value (sign_mark Semicolon) (λ o ys r s. (record { token = s.0; more = r; is = s.1; parts = ap (λ l. l ++ r) s.2 }, closed_semicolon ys r s))) (λ x y ys r e k. tt))
    (λ t v ys r e k. name_no_int v.0 ys r (starts_then (Kind.Name v.0.name) ys e (starts_name v.0 e.0 e.2))))
    (l.kind, (l.name, l.value)) xs rest (tt, (omega arith, omega arith)) d tt where
      value : IsWhole (local_value fuel) (λ o. optional_height value_height o ≤ fuel) IsLocalValue (λ o r. Starts (Kind.Punctuator Semicolon) r × Closed r)
      value = record { again = λ o ys r f e k. local_value_again fuel o ys r f e k.0 k.1 }
