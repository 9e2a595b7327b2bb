-- Two functions are equal where their parts are, and then they are one.
use Rattle.std.proofs.Common.{◌≡◌, ℕ, Bool, true, false, List, [], ◌∷◌, Option, Some, None, refl, sym, ap, subst, ◌∙◌}
use Rattle.std.specs.Prelude.{◌&&◌, nat_eq}
use Rattle.std.specs.Cmp.{IsEquivalence}
use Rattle.std.specs.Cmp.Lexicographic.{pointwise}
use Rattle.std.proofs.lemmas.Bool.{eqb-true, eq-eqb, and_parts, and_from, false≢true}
use Rattle.ints.specs.declared.operators.Op.{Op}
use Rattle.ints.specs.Codes.{code_of, op_of_code}
use Rattle.ints.proofs.Codes.{codes_lead_back}
use Rattle.machine.proofs.Equal.{Tells}
use Rattle.cminor_syntax.specs.Trees.{ExpressionTree, StatementTree, StatementsTree, FunctionTree, Number, Variable, Load, Unary, Binary, Choice, Skip, Assign, Store, Call, Put, Sequence, If, Loop, Block, Exit, Return, Done, First}

-- what is called equal is one, and each value is equal to itself
pub record Decides {A : Type 0} (eq : A → A → Bool) : Type 0 where
  pub tells : Tells eq
  pub itself : (a : A) → eq a a ≡ true

-- operators are told apart by their codes
abbrev pub same_op : Op → Op → Bool
same_op o p = nat_eq (code_of o) (code_of p)

abbrev pub same_expression : ExpressionTree → ExpressionTree → Bool
same_expression (Number w) (Number x) = nat_eq w x
same_expression (Variable v) (Variable u) = nat_eq v u
same_expression (Load g i) (Load h j) = nat_eq g h && same_expression i j
same_expression (Unary o e) (Unary p f) = same_op o p && same_expression e f
same_expression (Binary o a b) (Binary p c d) = same_op o p && (same_expression a c && same_expression b d)
same_expression (Choice a b c) (Choice d e f) = same_expression a d && (same_expression b e && same_expression c f)
same_expression _ _ = false

abbrev pub same_option : {A : Type 0} → (A → A → Bool) → Option A → Option A → Bool
same_option eq None None = true
same_option eq None (Some b) = false
same_option eq (Some a) None = false
same_option eq (Some a) (Some b) = eq a b

abbrev mutual
  pub same_statement : StatementTree → StatementTree → Bool
  same_statement Skip Skip = true
  same_statement (Assign v e) (Assign u f) = nat_eq v u && same_expression e f
  same_statement (Store g i e) (Store h j f) = nat_eq g h && (same_expression i j && same_expression e f)
  same_statement (Call f t xs) (Call g u ys) = nat_eq f g && (same_option nat_eq t u && pointwise same_expression xs ys)
  same_statement (Put t e) (Put u f) = same_option nat_eq t u && same_expression e f
  same_statement (Sequence xs) (Sequence ys) = same_statements xs ys
  same_statement (If e s t) (If f u v) = same_expression e f && (same_statement s u && same_statement t v)
  same_statement (Loop s) (Loop t) = same_statement s t
  same_statement (Block s) (Block t) = same_statement s t
  same_statement (Exit n) (Exit m) = nat_eq n m
  same_statement (Return e) (Return f) = same_option same_expression e f
  same_statement _ _ = false

  pub same_statements : StatementsTree → StatementsTree → Bool
  same_statements Done Done = true
  same_statements Done (First t ys) = false
  same_statements (First s xs) Done = false
  same_statements (First s xs) (First t ys) = same_statement s t && same_statements xs ys

abbrev pub same_function : FunctionTree → FunctionTree → Bool
same_function f g = (nat_eq f.parameters g.parameters && nat_eq f.variables g.variables) && same_statement f.body g.body

-- ---- what is called equal is one

op_tells : Tells same_op
op_tells o p e =
    let one = sym (codes_lead_back.known o) ∙ ap op_of_code (eqb-true (code_of o) (code_of p) e) ∙ codes_lead_back.known p in cc

expression_tells : Tells same_expression
expression_tells (Number w) (Number x) e = ap (λ n. Number n) (eqb-true w x e)
expression_tells (Variable v) (Variable u) e = ap (λ n. Variable n) (eqb-true v u e)
expression_tells (Load g i) (Load h j) e =
    let p = and_parts (nat_eq g h) (same_expression i j) e in λ k. Load (eqb-true g h p.0 k) (expression_tells i j p.1 k)
expression_tells (Unary o a) (Unary q b) e =
    let p = and_parts (same_op o q) (same_expression a b) e in λ k. Unary (op_tells o q p.0 k) (expression_tells a b p.1 k)
expression_tells (Binary o a b) (Binary q c d) e =
    let p = and_parts (same_op o q) (same_expression a c && same_expression b d) e in
    let r = and_parts (same_expression a c) (same_expression b d) p.1 in
    λ k. Binary (op_tells o q p.0 k) (expression_tells a c r.0 k) (expression_tells b d r.1 k)
expression_tells (Choice a b c) (Choice d f g) e =
    let p = and_parts (same_expression a d) (same_expression b f && same_expression c g) e in
    let r = and_parts (same_expression b f) (same_expression c g) p.1 in
    λ k. Choice (expression_tells a d p.0 k) (expression_tells b f r.0 k) (expression_tells c g r.1 k)
expression_tells _ _ e = absurd (false≢true e)

option_tells : {A : Type 0} (eq : A → A → Bool) → Tells eq → Tells (same_option eq)
option_tells eq tells None None e = refl
option_tells eq tells None (Some b) e = absurd cc
option_tells eq tells (Some a) None e = absurd cc
option_tells eq tells (Some a) (Some b) e = ap (λ x. Some x) (tells a b e)

lists_tell : {A : Type 0} (eq : A → A → Bool) → Tells eq → Tells (pointwise eq)
lists_tell eq tells [] [] e = refl
lists_tell eq tells [] (y ∷ ys) e = absurd cc
lists_tell eq tells (x ∷ xs) [] e = absurd cc
lists_tell eq tells (x ∷ xs) (y ∷ ys) e = let p = and_parts (eq x y) (pointwise eq xs ys) e in λ k. tells x y p.0 k ∷ lists_tell eq tells xs ys p.1 k

target_tells : Tells (same_option nat_eq)
target_tells = option_tells nat_eq (λ a b e. eqb-true a b e)

mutual
  statement_tells : (a b : StatementTree) → same_statement a b ≡ true → a ≡ b
  statement_tells Skip Skip e = refl
  statement_tells (Assign v a) (Assign u b) e =
      let p = and_parts (nat_eq v u) (same_expression a b) e in λ k. Assign (eqb-true v u p.0 k) (expression_tells a b p.1 k)
  statement_tells (Store g i a) (Store h j b) e =
      let p = and_parts (nat_eq g h) (same_expression i j && same_expression a b) e in
      let r = and_parts (same_expression i j) (same_expression a b) p.1 in
      λ k. Store (eqb-true g h p.0 k) (expression_tells i j r.0 k) (expression_tells a b r.1 k)
  statement_tells (Call f t xs) (Call g u ys) e =
      let p = and_parts (nat_eq f g) (same_option nat_eq t u && pointwise same_expression xs ys) e in
      let r = and_parts (same_option nat_eq t u) (pointwise same_expression xs ys) p.1 in
      λ k. Call (eqb-true f g p.0 k) (target_tells t u r.0 k) (lists_tell same_expression expression_tells xs ys r.1 k)
  statement_tells (Put t a) (Put u b) e =
      let p = and_parts (same_option nat_eq t u) (same_expression a b) e in λ k. Put (target_tells t u p.0 k) (expression_tells a b p.1 k)
  statement_tells (Sequence xs) (Sequence ys) e = ap (λ x. Sequence x) (statements_tell xs ys e)
  statement_tells (If a s t) (If b u v) e =
      let p = and_parts (same_expression a b) (same_statement s u && same_statement t v) e in
      let r = and_parts (same_statement s u) (same_statement t v) p.1 in
      λ k. If (expression_tells a b p.0 k) (statement_tells s u r.0 k) (statement_tells t v r.1 k)
  statement_tells (Loop s) (Loop t) e = ap (λ x. Loop x) (statement_tells s t e)
  statement_tells (Block s) (Block t) e = ap (λ x. Block x) (statement_tells s t e)
  statement_tells (Exit n) (Exit m) e = ap (λ x. Exit x) (eqb-true n m e)
  statement_tells (Return a) (Return b) e = ap (λ x. Return x) (option_tells same_expression expression_tells a b e)
  statement_tells _ _ e = absurd (false≢true e)

  statements_tell : (xs ys : StatementsTree) → same_statements xs ys ≡ true → xs ≡ ys
  statements_tell Done Done e = refl
  statements_tell Done (First t ys) e = absurd cc
  statements_tell (First s xs) Done e = absurd cc
  statements_tell (First s xs) (First t ys) e =
      let p = and_parts (same_statement s t) (same_statements xs ys) e in λ k. First (statement_tells s t p.0 k) (statements_tell xs ys p.1 k)

function_tells : Tells same_function
function_tells f g e =
    let p = and_parts (nat_eq f.parameters g.parameters && nat_eq f.variables g.variables) (same_statement f.body g.body) e in
    let q = and_parts (nat_eq f.parameters g.parameters) (nat_eq f.variables g.variables) p.0 in
    λ k. record { parameters = eqb-true f.parameters g.parameters q.0 k; variables = eqb-true f.variables g.variables q.1 k; body = statement_tells f.body g.body p.1 k }

-- ---- each is equal to itself

number_itself : (n : ℕ) → nat_eq n n ≡ true
number_itself n = eq-eqb n n refl

expression_itself : (e : ExpressionTree) → same_expression e e ≡ true
expression_itself (Number w) = number_itself w
expression_itself (Variable v) = number_itself v
expression_itself (Load g i) = and_from _ _ (number_itself g) (expression_itself i)
expression_itself (Unary o e) = and_from _ _ (number_itself (code_of o)) (expression_itself e)
expression_itself (Binary o a b) = and_from _ _ (number_itself (code_of o)) (and_from _ _ (expression_itself a) (expression_itself b))
expression_itself (Choice a b c) = and_from _ _ (expression_itself a) (and_from _ _ (expression_itself b) (expression_itself c))

option_itself : {A : Type 0} (eq : A → A → Bool) → ((a : A) → eq a a ≡ true) → (o : Option A) → same_option eq o o ≡ true
option_itself eq itself None = refl
option_itself eq itself (Some a) = itself a

list_itself : {A : Type 0} (eq : A → A → Bool) → ((a : A) → eq a a ≡ true) → (xs : List A) → pointwise eq xs xs ≡ true
list_itself eq itself [] = refl
list_itself eq itself (x ∷ xs) = and_from (eq x x) (pointwise eq xs xs) (itself x) (list_itself eq itself xs)

mutual
  statement_itself : (s : StatementTree) → same_statement s s ≡ true
  statement_itself Skip = refl
  statement_itself (Assign v e) = and_from _ _ (number_itself v) (expression_itself e)
  statement_itself (Store g i e) = and_from _ _ (number_itself g) (and_from _ _ (expression_itself i) (expression_itself e))
  statement_itself (Call f t xs) = and_from _ _ (number_itself f) (and_from _ _ (option_itself nat_eq number_itself t) (list_itself same_expression expression_itself xs))
  statement_itself (Put t e) = and_from _ _ (option_itself nat_eq number_itself t) (expression_itself e)
  statement_itself (Sequence ss) = statements_itself ss
  statement_itself (If e s t) = and_from _ _ (expression_itself e) (and_from _ _ (statement_itself s) (statement_itself t))
  statement_itself (Loop s) = statement_itself s
  statement_itself (Block s) = statement_itself s
  statement_itself (Exit n) = number_itself n
  statement_itself (Return e) = option_itself same_expression expression_itself e

  statements_itself : (ss : StatementsTree) → same_statements ss ss ≡ true
  statements_itself Done = refl
  statements_itself (First s rest) = and_from _ _ (statement_itself s) (statements_itself rest)

pub function_decides : Decides same_function
function_decides = record {
  tells = function_tells;
  itself = λ f. and_from _ _ (and_from _ _ (number_itself f.parameters) (number_itself f.variables)) (statement_itself f.body);
}

-- ---- the laws of an equality that decides

symmetric : {A : Type 0} (eq : A → A → Bool) → Decides eq → (x y : A) (b c : Bool) → eq x y ≡ b → eq y x ≡ c → eq x y ≡ eq y x
symmetric eq decides x y true c e f = subst (λ z. eq x z ≡ eq z x) (decides.tells x y e) refl
symmetric eq decides x y false true e f = subst (λ z. eq z y ≡ eq y z) (decides.tells y x f) refl
symmetric eq decides x y false false e f = e ∙ sym f

laws_of : {A : Type 0} (eq : A → A → Bool) → Decides eq → IsEquivalence eq
laws_of eq decides = record {
  refl = decides.itself;
  symm = λ x y. symmetric eq decides x y (eq x y) (eq y x) refl refl;
  congr = λ x y z e. ap (λ w. eq w z) (decides.tells x y e);
}

pub same_laws : IsEquivalence same_function
same_laws = laws_of same_function function_decides
