-- How high a lowered function is: a statement of Cminor at most five times as high as that of C. A loop is highest: its body
-- stands in a block, a sequence, a loop and a block, and a `for` is a sequence round these.
use Rattle.std.proofs.Common.{ℕ, suc, ◌+◌, ◌*◌, ◌≤◌, Bool, true, false, List, [], ◌∷◌, map, Option, Some, None, max, arith}
use Rattle.std.specs.Prelude.{if◌then◌else◌}
use Rattle.c_syntax.specs.declared.constant.IntegerType.{IntegerType}
use Rattle.c_syntax.specs.declared.expression.UnaryOperator.{UnaryOperator}
use Rattle.c_syntax.specs.declared.expression.UnaryOperator.TheVariants as U
use Rattle.c_syntax.specs.declared.expression.BinaryOperator.{BinaryOperator}
use Rattle.c_syntax.specs.declared.expression.BinaryOperator.TheVariants as B
use Rattle.c_syntax.specs.declared.expression.AssignOperator.{AssignOperator}
use Rattle.c_syntax.specs.Trees.{ExpressionTree, CallTree, ValueTree, LvalueTree, SetTree, StartTree, StatementTree, StatementsTree}
use Rattle.c_syntax.specs.Trees as T
use Rattle.c_syntax.specs.Heights as H
use Rattle.c_syntax.specs.Signs.{binary_of}
use Rattle.c_checker_scopes.specs.Bound.{found}
use Rattle.c_program.specs.declared.action.Target.{Target}
use Rattle.c_program.specs.declared.action.Target.TheVariants as G
use Rattle.c_program.specs.Trees.{TermTree, GivenTree, ActionTree, ActionsTree}
use Rattle.c_program.specs.Trees as P
use Rattle.c_checker_rules.specs.declared.meaning.Meaning.{Meaning}
use Rattle.c_checker_rules.specs.declared.meaning.Meaning.TheVariants as M
use Rattle.c_checker_rules.specs.Names.{Scope, meaning_of}
use Rattle.c_checker_rules.specs.Types.{variable_type, type_of}
use Rattle.c_checker_rules.specs.Terms.{variable_term, unary_term, binary_term, term_of}
use Rattle.c_checker_rules.specs.Calls.{Functions, is_putchar, first_of, number_of, call_given, value_given}
use Rattle.c_checker_rules.specs.Locals.{Here, left, with_local}
use Rattle.c_checker_rules.specs.Statements.{with_start, after}
use Rattle.c_checker_rules.specs.Actions.{target_of, declared, change_action, set_action, start_action, condition, step_action, return_action, action_of, actions_of}
use Rattle.cminor_syntax.specs.Fits as F
use Rattle.cminor_lowering.specs.Terms.{low_term}
use Rattle.cminor_lowering.specs.Actions.{low_given, low_action, low_actions}
use Rattle.cminor_lowering.proofs.Pieces.{sequence_low}

-- ---- terms

abbrev term_height : TermTree → ℕ
term_height t = F.expression_height (low_term t)

some_height : (e : ExpressionTree) → 1 ≤ H.expression_height e
some_height (T.Number c) = omega arith
some_height (T.Variable x) = omega arith
some_height (T.Element a e) = omega arith
some_height (T.Parenthesis e) = omega arith
some_height (T.Cast t e) = omega arith
some_height (T.Unary o e) = omega arith
some_height (T.Binary o a b) = omega arith
some_height (T.Conditional c a b) = omega arith

variable_low : (m : Option Meaning) → term_height (variable_term m) ≤ 2
variable_low None = omega arith
variable_low (Some (M.Local k t)) = omega arith
variable_low (Some (M.Variable k t)) = omega arith
variable_low (Some (M.Array k t)) = omega arith
variable_low (Some (M.Function k)) = omega arith

unary_low : (o : UnaryOperator) (t : IntegerType) (e : TermTree) → term_height (unary_term o t e) ≤ suc (term_height e)
unary_low U.Minus t e = omega arith
unary_low U.Plus t e = omega arith
unary_low U.Complement t e = omega arith
unary_low U.Not t e = omega arith

binary_low : (o : BinaryOperator) (s t : IntegerType) (a b : TermTree) → term_height (binary_term o s t a b) ≤ 2 + max 1 (max (term_height a) (term_height b))
binary_low B.LogicalOr s t a b = omega arith
binary_low B.LogicalAnd s t a b = omega arith
binary_low B.Or s t a b = omega arith
binary_low B.Xor s t a b = omega arith
binary_low B.And s t a b = omega arith
binary_low B.Equal s t a b = omega arith
binary_low B.NotEqual s t a b = omega arith
binary_low B.Less s t a b = omega arith
binary_low B.Greater s t a b = omega arith
binary_low B.LessEqual s t a b = omega arith
binary_low B.GreaterEqual s t a b = omega arith
binary_low B.ShiftLeft s t a b = omega arith
binary_low B.ShiftRight s t a b = omega arith
binary_low B.Add s t a b = omega arith
binary_low B.Subtract s t a b = omega arith
binary_low B.Multiply s t a b = omega arith
binary_low B.Divide s t a b = omega arith
binary_low B.Remainder s t a b = omega arith

twice_of_two : (k a b x y : ℕ) → k ≤ 2 + max 1 (max a b) → a ≤ 2 * x → b ≤ 2 * y → 1 ≤ x → k ≤ 2 * suc (max x y)
twice_of_two k a b x y low left right some = omega arith

twice_of_three : (a b c x y z : ℕ) → a ≤ 2 * x → b ≤ 2 * y → c ≤ 2 * z → suc (max a (max b c)) ≤ 2 * suc (max x (max y z))
twice_of_three a b c x y z first second third = omega arith

pub term_low : (scope : Scope) (e : ExpressionTree) → term_height (term_of scope e) ≤ 2 * H.expression_height e
term_low scope (T.Number c) = omega arith
term_low scope (T.Variable x) = variable_low (meaning_of scope x)
term_low scope (T.Element a e) = omega (arith, term_low scope e)
term_low scope (T.Parenthesis e) = omega (arith, term_low scope e)
term_low scope (T.Cast t e) = omega (arith, term_low scope e)
term_low scope (T.Unary o e) = omega (arith, unary_low o (type_of scope e) (term_of scope e), term_low scope e)
term_low scope (T.Binary o a b) =
    twice_of_two (term_height (term_of scope (T.Binary o a b))) (term_height (term_of scope a)) (term_height (term_of scope b)) (H.expression_height a) (H.expression_height b)
    (binary_low o (type_of scope a) (type_of scope b) (term_of scope a) (term_of scope b)) (term_low scope a) (term_low scope b) (some_height a)
term_low scope (T.Conditional c a b) =
    twice_of_three (term_height (term_of scope c)) (term_height (term_of scope a)) (term_height (term_of scope b)) (H.expression_height c) (H.expression_height a) (H.expression_height b)
    (term_low scope c) (term_low scope a) (term_low scope b)

-- ---- values

abbrev given_height : GivenTree → ℕ
given_height (P.Plain e) = term_height e
given_height (P.Called g es) = F.arguments_height (map low_term es)
given_height (P.Put e) = term_height e

arguments_low : (scope : Scope) (es : List ExpressionTree) → F.arguments_height (map low_term (map (term_of scope) es)) ≤ 2 * H.arguments_height es
arguments_low scope [] = omega arith
arguments_low scope (e ∷ es) = omega (arith, term_low scope e, arguments_low scope es)

first_low : (scope : Scope) (es : List ExpressionTree) → term_height (first_of (map (term_of scope) es)) ≤ 2 * H.arguments_height es
first_low scope [] = omega arith
first_low scope (e ∷ es) = omega (arith, term_low scope e)

call_low : (f : Functions) (scope : Scope) (c : CallTree) → given_height (call_given f scope c) ≤ 2 * H.arguments_height c.arguments
call_low f scope c = at (is_putchar c.callee.name)
  where
    at : (z : Bool) → given_height (if z then P.Put (first_of (map (term_of scope) c.arguments)) else P.Called (number_of (found c.callee.name f.bodies)) (map (term_of scope) c.arguments)) ≤ 2 * H.arguments_height c.arguments
    at true = first_low scope c.arguments
    at false = arguments_low scope c.arguments

value_low : (f : Functions) (scope : Scope) (v : ValueTree) → given_height (value_given f scope v) ≤ 2 * H.value_height v
value_low f scope (T.Plain e) = term_low scope e
value_low f scope (T.Called c) = omega (arith, call_low f scope c)

give_low : (n : ℕ) (target : Target) (v : GivenTree) → F.statement_height (low_given n target v) ≤ 2 + max 1 (given_height v)
give_low n G.Nowhere (P.Plain e) = omega arith
give_low n G.Nowhere (P.Called g es) = omega arith
give_low n G.Nowhere (P.Put e) = omega arith
give_low n (G.Local k) (P.Plain e) = omega arith
give_low n (G.Local k) (P.Called g es) = omega arith
give_low n (G.Local k) (P.Put e) = omega arith
give_low n (G.Global h) (P.Plain e) = omega arith
give_low n (G.Global h) (P.Called g es) = omega arith
give_low n (G.Global h) (P.Put e) = omega arith
give_low n G.Caller (P.Plain e) = omega arith
give_low n G.Caller (P.Called g es) = omega arith
give_low n G.Caller (P.Put e) = omega arith

-- ---- statements

some_statement : (s : StatementTree) → 1 ≤ H.statement_height s
some_statement T.Empty = omega arith
some_statement (T.Local l) = omega arith
some_statement (T.Block s) = omega arith
some_statement (T.Call c) = omega arith
some_statement (T.Assign x v) = omega arith
some_statement (T.Store a i e) = omega arith
some_statement (T.Change c) = omega arith
some_statement (T.If e s) = omega arith
some_statement (T.IfElse e s t) = omega arith
some_statement (T.While e s) = omega arith
some_statement (T.Do s e) = omega arith
some_statement (T.For start e step s) = omega arith
some_statement (T.Break at) = omega arith
some_statement (T.Continue at) = omega arith
some_statement (T.Return at v) = omega arith

abbrev action_height : ℕ → ActionTree → ℕ
action_height n a = F.statement_height (low_action n a)

give_plain_low : (n : ℕ) (target : Target) (scope : Scope) (e : ExpressionTree) → action_height n (P.Give target (P.Plain (term_of scope e))) ≤ 3 + 2 * H.expression_height e
give_plain_low n target scope e = omega (arith, give_low n target (P.Plain (term_of scope e)), term_low scope e)

give_value_low : (n : ℕ) (target : Target) (f : Functions) (scope : Scope) (v : ValueTree) → action_height n (P.Give target (value_given f scope v)) ≤ 3 + 2 * H.value_height v
give_value_low n target f scope v = omega (arith, give_low n target (value_given f scope v), value_low f scope v)

becomes_low : (n : ℕ) (scope : Scope) (l : LvalueTree) (e : ExpressionTree) → action_height n (set_action scope (T.Becomes l e)) ≤ 5 * H.set_height (T.Becomes l e)
becomes_low n scope (T.Name x) e = omega (arith, give_plain_low n (target_of (meaning_of scope x)) scope e)
becomes_low n scope (T.Cell a i) e = omega (arith, term_low scope i, term_low scope e)

change_low : (n : ℕ) (scope : Scope) (l : LvalueTree) (o : AssignOperator) (e : ExpressionTree) →
    action_height n (change_action scope (record { lvalue = l; operator = o; value = e })) ≤ 5 * H.change_height (record { lvalue = l; operator = o; value = e })
change_low n scope (T.Name x) o e =
    let m = meaning_of scope x in
    let old = variable_term m in
    let new = binary_term (binary_of o) (variable_type m) (type_of scope e) old (term_of scope e) in
    omega (arith, give_low n (target_of m) (P.Plain new), binary_low (binary_of o) (variable_type m) (type_of scope e) old (term_of scope e), variable_low m, term_low scope e)
change_low n scope (T.Cell a i) o e = omega (arith, term_low scope i, term_low scope e)

set_low : (n : ℕ) (scope : Scope) (s : SetTree) → action_height n (set_action scope s) ≤ 5 * H.set_height s
set_low n scope (T.Becomes l e) = becomes_low n scope l e
set_low n scope (T.Changes c) = change_low n scope c.lvalue c.operator c.value

start_low : (n depth : ℕ) (h : Here) (start : StartTree) → action_height n (start_action depth h start) ≤ 1 + 5 * H.start_height start
start_low n depth h T.StartNothing = omega arith
start_low n depth h (T.StartSet s) = omega (arith, set_low n h.scope s)
start_low n depth h (T.StartLocal t x e) = omega (arith, give_plain_low n (G.Local h.locals) (with_local depth h t x).scope e)

condition_low : (scope : Scope) (e : Option ExpressionTree) → term_height (condition scope e) ≤ 1 + 2 * H.optional_height H.expression_height e
condition_low scope None = omega arith
condition_low scope (Some e) = omega (arith, term_low scope e)

step_low : (n : ℕ) (scope : Scope) (step : Option SetTree) → action_height n (step_action scope step) ≤ 1 + 5 * H.optional_height H.set_height step
step_low n scope None = omega arith
step_low n scope (Some s) = omega (arith, set_low n scope s)

declared_low : (n : ℕ) (f : Functions) (scope : Scope) (k : ℕ) (v : Option ValueTree) → action_height n (declared f scope k v) ≤ 5 * suc (max 1 (H.optional_height H.value_height v))
declared_low n f scope k None = omega arith
declared_low n f scope k (Some v) = omega (arith, give_value_low n (G.Local k) f scope v)

returned_low : (n : ℕ) (f : Functions) (scope : Scope) (v : Option ValueTree) → action_height n (return_action f scope v) ≤ 5 * suc (H.optional_height H.value_height v)
returned_low n f scope None = omega arith
returned_low n f scope (Some v) = omega (arith, give_value_low n G.Caller f scope v)

-- a loop within a height
loop_low : (n m : ℕ) (c : TermTree) (body behind : ActionTree) → 4 + max 1 (term_height c) ≤ m → 4 + action_height n body ≤ m → 3 + action_height n behind ≤ m →
    action_height n (P.Loop c body behind) ≤ m
loop_low n m c body behind cond inner step = omega arith

-- the parts of a `for`
for_parts : (a b c s : ℕ) → (a ≤ max a (max b (max c s))) × (b ≤ max a (max b (max c s))) × (c ≤ max a (max b (max c s))) × (s ≤ max a (max b (max c s)))
for_parts a b c s = (omega arith, omega arith, omega arith, omega arith)

in_sequence : (a b m : ℕ) → suc a ≤ m → suc b ≤ m → suc (max a (max b 0)) ≤ m
in_sequence a b m first second = omega arith

for_low : (n a b c d : ℕ) (start : ActionTree) (cond : TermTree) (body step : ActionTree) → action_height n start ≤ 1 + 5 * a → term_height cond ≤ 1 + 2 * b →
    action_height n step ≤ 1 + 5 * c → action_height n body ≤ 5 * d → 1 ≤ d →
    action_height n (P.Sequence (P.First start (P.First (P.Loop cond body step) P.Done))) ≤ 5 * suc (max a (max b (max c d)))
for_low n a b c d start cond body step first second third fourth some =
    let parts = for_parts a b c d in
    let m = max a (max b (max c d)) in
    let loop : action_height n (P.Loop cond body step) ≤ 4 + 5 * m = loop_low n (4 + 5 * m) cond body step (omega arith) (omega arith) (omega arith) in
    in_sequence (action_height n start) (action_height n (P.Loop cond body step)) (5 * suc m) (omega arith) (omega arith)

module _ (n : ℕ) (f : Functions) where
  mutual
    statement_low : (depth : ℕ) (h : Here) (s : StatementTree) → action_height n (action_of f depth h s) ≤ 5 * H.statement_height s
    statement_low depth h T.Empty = omega arith
    statement_low depth h (T.Local l) = declared_low n f (with_local depth h l.kind l.name).scope h.locals l.value
    statement_low depth h (T.Block s) = omega (arith, sequence_low (low_actions n (actions_of f (suc depth) h s)), statements_low (suc depth) h s)
    statement_low depth h (T.Call c) = omega (arith, give_low n G.Nowhere (call_given f h.scope c), call_low f h.scope c)
    statement_low depth h (T.Assign x v) = omega (arith, give_value_low n (target_of (meaning_of h.scope x)) f h.scope v)
    statement_low depth h (T.Store a i e) = omega (arith, term_low h.scope i, term_low h.scope e)
    statement_low depth h (T.Change c) = change_low n h.scope c.lvalue c.operator c.value
    statement_low depth h (T.If e s) = omega (arith, term_low h.scope e, statement_low depth h s)
    statement_low depth h (T.IfElse e s t) = omega (arith, term_low h.scope e, statement_low depth h s, statement_low depth (left h (after depth h s)) t)
    statement_low depth h (T.While e s) =
        let m = max (H.expression_height e) (H.statement_height s) in
        let some = some_statement s in
        let c = term_low h.scope e in
        let inner = statement_low depth h s in
        loop_low n (5 * suc m) (term_of h.scope e) (action_of f depth h s) P.Nothing (omega arith) (omega arith) (omega arith)
    statement_low depth h (T.Do s e) =
        let m = max (H.statement_height s) (H.expression_height e) in
        let some = some_statement s in
        let c = term_low h.scope e in
        let inner = statement_low depth h s in
        loop_low n (5 * suc m) (P.Constant 1) (action_of f depth h s) (P.If (term_of h.scope e) P.Nothing P.Continue) (omega arith) (omega arith) (omega arith)
    statement_low depth h (T.For start e step s) =
        let inner = with_start (suc depth) h start in
        for_low n (H.start_height start) (H.optional_height H.expression_height e) (H.optional_height H.set_height step) (H.statement_height s)
        (start_action (suc depth) h start) (condition inner.scope e) (action_of f (suc depth) inner s) (step_action inner.scope step)
        (start_low n (suc depth) h start) (condition_low inner.scope e) (step_low n inner.scope step) (statement_low (suc depth) inner s) (some_statement s)
    statement_low depth h (T.Break at) = omega arith
    statement_low depth h (T.Continue at) = omega arith
    statement_low depth h (T.Return at v) = returned_low n f h.scope v

    pub statements_low : (depth : ℕ) (h : Here) (ss : StatementsTree) → F.statements_height (low_actions n (actions_of f depth h ss)) ≤ 5 * H.statements_height ss
    statements_low depth h T.Done = omega arith
    statements_low depth h (T.First s rest) = omega (arith, statement_low depth h s, statements_low depth (after depth h s) rest)
