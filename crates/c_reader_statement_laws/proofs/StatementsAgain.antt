-- Statements: what is spelled so and is no higher than the fuel is read, where no `else` follows an open `if`.
use Rattle.std.proofs.Common.{◌≡◌, ℕ, zero, suc, ◌≤◌, Bool, true, false, cond, IsTrue, List, [], ◌∷◌, ◌++◌, length, Option, Some, None, Ok, inl, inr, refl, sym, ap, subst, ◌∙◌, arith}
use Rattle.std.specs.Prelude.{max, not}
use Rattle.c_syntax.specs.declared.constant.IntegerType.{IntegerType}
use Rattle.c_syntax.specs.declared.constant.IntegerType.TheVariants.{Int, Unsigned}
use Rattle.c_syntax.specs.declared.keyword.Keyword.TheVariants as K
use Rattle.c_syntax.specs.declared.keyword.Keyword.{Keyword}
use Rattle.c_syntax.specs.declared.punctuator.Punctuator.{Punctuator}
use Rattle.c_syntax.specs.declared.punctuator.Punctuator.TheVariants.{LeftParenthesis, RightParenthesis, LeftBracket, RightBracket, LeftBrace, RightBrace, Semicolon, Assign, Question, Increment, Decrement}
use Rattle.c_syntax.specs.declared.token.Token.{Token}
use Rattle.c_syntax.specs.declared.token.TokenKind.{TokenKind}
use Rattle.c_syntax.specs.declared.token.TokenKind.TheVariants as Kind
use Rattle.c_syntax.specs.declared.identifier.Identifier.{Identifier}
use Rattle.c_syntax.specs.declared.expression.AssignOperator.{AssignOperator}
use Rattle.c_syntax.specs.Trees.{ExpressionTree, CallTree, LocalTree, ValueTree, LvalueTree, ChangeTree, SetTree, StartTree, StatementTree, StatementsTree}
use Rattle.c_syntax.specs.Trees as T
use Rattle.c_syntax.specs.Parts.{OneAt, Sign, Word, IsName, IsType, ◌⨾◌, Perhaps}
use Rattle.c_syntax.specs.Expressions.{IsExpression}
use Rattle.c_syntax.specs.Statements.{IsCall, IsLocal, IsValue, IsLvalue, IsChange, IsSet, IsStart, IsStatementIn, AreStatements}
use Rattle.c_syntax.specs.Heights.{expression_height, call_height, value_height, lvalue_height, set_height, optional_height, start_height, statement_height, statements_height, IfThere}
use Rattle.c_reader_tokens.specs.Reading.{◌>>=◌}
use Rattle.c_reader_tokens.specs.Peeking.{is_sign, is_word, is_next, is_sign_next, is_word_next, is_type_next, is_call_next}
use Rattle.c_reader_tokens.specs.Tokens.{sign, word, placed_word}
use Rattle.c_reader_tokens.specs.Assigning.{step_of}
use Rattle.c_reader_tokens.proofs.Changes.{step_token}
use Rattle.c_reader_tokens.proofs.Laws.{done, parts_behind}
use Rattle.c_reader_tokens.proofs.Tokens.{is_sign-true, sign_again, is_sign_next-again}
use Rattle.c_reader_expression_laws.specs.Operators.{binary_of, Ends}
use Rattle.c_reader_expression_laws.specs.Reading.{expression_at}
use Rattle.c_reader_expression_laws.proofs.Continuing.{ends_behind}
use Rattle.c_reader_statement_laws.specs.declared.first.First.{First}
use Rattle.c_reader_statement_laws.specs.declared.first.First.TheVariants as F
use Rattle.c_reader_productions.specs.Combining.{◌▷◌, ◌◁◌, ◌&◌, made, either, missing, there, each}
use Rattle.c_reader_productions.specs.Deeds.{Deed, Becomes, Changes}
use Rattle.c_reader_productions.specs.Parts.{under, name, call, value, is_cell_next, local, start_local, start_set, start_nothing, start}
use Rattle.c_reader_statement_laws.specs.Reading.{Below, goes_on, items_in, block_in, first_of, empty, call_statement, assigned, stored, changed, assign, store, step_statement, break_statement, continue_statement, read_return, return_statement, condition, step, statements_of, branched, else_in, branches_in, if_in, while_in, do_end, do_in, for_in, by_first, statement_at}
use Rattle.c_reader_productions.proofs.Laws.{IsWhole, Any, both_marks, after', before', both', made_again, unless', EndsOption, Passes, Each, AllFit, either_first, either_second, under_again, bind_is}
use Rattle.c_reader_productions.proofs.PartsTaken.{sign_mark, word_mark}
use Rattle.c_reader_expression_laws.proofs.Beginning.{expression_begins, not_sign, apart_from}
use Rattle.c_reader_productions.proofs.PartsAgain.{Starts, starts_sign, starts_word, starts_placed, starts_name, starts_then, passes_is, type_whole, expression_whole, name_whole, value_whole, name_no_int, Closed, closed_semicolon, option_fits, each_whole, call_again, local_again, placed_word_whole}
use Rattle.c_reader_productions.proofs.Sets.{grouped, apart, IsChanging, is_changing, passes_then, changing_begins, changing_whole, FitsDeed, SpellsDeed, deed_whole, deed_not, LowCell, IsCell, cell_whole, IsPrefixed, parted, prefixed_whole, set_whole, begins_set, change_begins, set_begins, begins_no_word, begins_no_type}
use Rattle.c_reader_statement_laws.proofs.StatementsTaken.{cell_apart, Leaves, Low, SpellsBranches, LeavesBranches}

-- ---- with which tokens the parts begin

value_no_semicolon : (v : ValueTree) (xs rest : List Token) → IsValue v xs → is_sign_next Semicolon (xs ++ rest) ≡ false
value_no_semicolon (T.Plain e) xs rest d = not_sign Semicolon refl xs rest (expression_begins 0 e xs d)
value_no_semicolon (T.Called c) xs rest d =
    passes_is (is_sign Semicolon) (Kind.Name c.callee.name) false refl xs rest (starts_then (Kind.Name c.callee.name) xs d (starts_name c.callee d.0 d.2))

type_next : (t : IntegerType) (xs rest : List Token) → IsType t xs → is_type_next (xs ++ rest) ≡ true
type_next Int xs rest s = rw (s.2, s.1) refl
type_next Unsigned xs rest (inl s) = rw (s.2, s.1) refl
type_next Unsigned xs rest (inr d) = let s = d.2 in rw (parts_behind xs d.0 d.1 rest d.4, s.2, s.1) refl

type_no_sign : (p : Punctuator) (t : IntegerType) (xs rest : List Token) → IsType t xs → is_sign_next p (xs ++ rest) ≡ false
type_no_sign p Int xs rest s = rw (s.2, s.1) refl
type_no_sign p Unsigned xs rest (inl s) = rw (s.2, s.1) refl
type_no_sign p Unsigned xs rest (inr d) = let s = d.2 in rw (parts_behind xs d.0 d.1 rest d.4, s.2, s.1) refl

-- ---- how a `for` begins, and what may be missing

start_local_again : (fuel : ℕ) (t : IntegerType) (x : Identifier) (e : ExpressionTree) (xs rest : List Token) → start_height (T.StartLocal t x e) ≤ fuel → IsStart (T.StartLocal t x e) xs → start_local fuel (xs ++ rest) ≡ Ok (T.StartLocal t x e, rest)
unfolding start_local
start_local_again fuel t x e xs rest low d =
    let parts : (r : ℕ) → IsWhole (name r & sign Assign ▷ expression_at r 0 ◁ sign Semicolon) (λ v. (1 ≤ r) × (expression_height v.1 ≤ r)) (λ v. IsName v.0 ⨾ (Sign Assign ⨾ (IsExpression v.1 ⨾ Sign Semicolon))) Any =
    λ r. both' (name_whole r) (after' (sign_mark Assign) (before' (expression_whole r) (sign_mark Semicolon) (λ e ys r s. ends_behind Semicolon refl refl refl 0 ys r s))) (λ x e ys r d k. tt) in
    let behind : IsWhole (under (λ r. name r & sign Assign ▷ expression_at r 0 ◁ sign Semicolon) fuel) (λ v. suc (max 1 (expression_height v.1)) ≤ fuel) (λ v. IsName v.0 ⨾ (Sign Assign ⨾ (IsExpression v.1 ⨾ Sign Semicolon))) Any = record {
      again = under_again (λ r v. suc (max 1 (expression_height v.1)) ≤ r) parts (λ r v f. (omega arith, omega arith)) (λ v f. absurd (omega arith)) fuel;
    } in
    made_again (λ v. T.StartLocal v.0 v.1.0 v.1.1) (both' type_whole behind (λ t v ys r e k. name_no_int v.0 ys r (starts_then (Kind.Name v.0.name) ys e (starts_name v.0 e.0 e.2)))) (t, (x, e)) xs rest (tt, low) d tt

start_again : (fuel : ℕ) (s : StartTree) (xs rest : List Token) → start_height s ≤ fuel → IsStart s xs → start fuel (xs ++ rest) ≡ Ok (s, rest)
unfolding start start_nothing start_set
start_again fuel T.StartNothing xs rest low d =
    either_first (is_sign_next Semicolon) start_nothing (either is_type_next (start_local fuel) (start_set fuel)) (xs ++ rest) (is_sign_next-again Semicolon xs rest d)
    ∙ bind_is (sign Semicolon (xs ++ rest)) (λ r. done (T.StartNothing, r)) rest (sign_again Semicolon xs rest d)
start_again fuel (T.StartSet s) xs rest low d =
    let n = passes_then begins_set xs d (set_begins s d.0 d.2) in
    either_second (is_sign_next Semicolon) start_nothing (either is_type_next (start_local fuel) (start_set fuel)) (xs ++ rest) (apart_from begins_set Semicolon refl xs rest n)
    ∙ either_second is_type_next (start_local fuel) (start_set fuel) (xs ++ rest) (begins_no_type xs rest n)
    ∙ made_again (λ s. T.StartSet s) (before' (set_whole fuel) (sign_mark Semicolon) (λ s ys r k. ends_behind Semicolon refl refl refl 0 ys r k)) s xs rest low d tt
start_again fuel (T.StartLocal t x e) xs rest low d =
    let here = parts_behind xs d.0 d.1 rest d.4 in
    let no_sign : is_sign_next Semicolon (xs ++ rest) ≡ false = subst (λ l. is_sign_next Semicolon l ≡ false) (sym here) (type_no_sign Semicolon t d.0 (d.1 ++ rest) d.2) in
    let next : is_type_next (xs ++ rest) ≡ true = subst (λ l. is_type_next l ≡ true) (sym here) (type_next t d.0 (d.1 ++ rest) d.2) in
    either_second (is_sign_next Semicolon) start_nothing (either is_type_next (start_local fuel) (start_set fuel)) (xs ++ rest) no_sign
    ∙ either_first is_type_next (start_local fuel) (start_set fuel) (xs ++ rest) next
    ∙ start_local_again fuel t x e xs rest low d

pub start_whole : (fuel : ℕ) → IsWhole (start fuel) (λ s. start_height s ≤ fuel) IsStart Any
start_whole fuel = record { again = λ s xs rest f d e. start_again fuel s xs rest f d }

condition_whole : (fuel : ℕ) → IsWhole (condition fuel) (λ o. optional_height expression_height o ≤ fuel) (Perhaps IsExpression) (λ o rest. (is_sign_next Semicolon rest ≡ true) × Ends 0 rest)
condition_whole fuel = record {
  again = λ o xs rest f d e. (unless' (is_sign_next Semicolon) (expression_whole fuel) (λ x ys r k. not_sign Semicolon refl ys r (expression_begins 0 x ys k))).again o xs rest (option_fits expression_height fuel o f) d (option_ends o rest e);
} where
  option_ends : (o : Option ExpressionTree) (rest : List Token) → (is_sign_next Semicolon rest ≡ true) × Ends 0 rest → EndsOption (Passes (is_sign_next Semicolon) true) (λ e r. Ends 0 r) o rest
  option_ends None rest e = e.0
  option_ends (Some x) rest e = e.1

step_whole : (fuel : ℕ) → IsWhole (step fuel) (λ o. optional_height set_height o ≤ fuel) (Perhaps IsSet) (λ o rest. (is_sign_next RightParenthesis rest ≡ true) × Ends 0 rest)
step_whole fuel = record {
  again = λ o xs rest f d e. (unless' (is_sign_next RightParenthesis) (set_whole fuel) (λ s ys r k. apart_from begins_set RightParenthesis refl ys r (set_begins s ys k))).again o xs rest (option_fits set_height fuel o f) d (option_ends o rest e);
} where
  option_ends : (o : Option SetTree) (rest : List Token) → (is_sign_next RightParenthesis rest ≡ true) × Ends 0 rest → EndsOption (Passes (is_sign_next RightParenthesis) true) (λ e r. Ends 0 r) o rest
  option_ends None rest e = e.0
  option_ends (Some x) rest e = e.1

returned_whole : (fuel : ℕ) → IsWhole (read_return fuel) (λ o. optional_height value_height o ≤ fuel) (Perhaps IsValue) (λ o rest. (is_sign_next Semicolon rest ≡ true) × Closed rest)
returned_whole fuel = record {
  again = λ o xs rest f d e. (unless' (is_sign_next Semicolon) (value_whole fuel) value_no_semicolon).again o xs rest (option_fits value_height fuel o f) d (option_ends o rest e);
} where
  option_ends : (o : Option ValueTree) (rest : List Token) → (is_sign_next Semicolon rest ≡ true) × Closed rest → EndsOption (Passes (is_sign_next Semicolon) true) (λ v r. Closed r) o rest
  option_ends None rest e = e.0
  option_ends (Some x) rest e = e.1

-- ---- with which tokens statements begin

first_empty : (block : Bool) (xs rest : List Token) → Starts (Kind.Punctuator Semicolon) xs → first_of block (xs ++ rest) ≡ F.Empty
unfolding first_of
first_empty block xs rest s = rw (s.parts, s.is) refl

first_block : (block : Bool) (xs rest : List Token) → Starts (Kind.Punctuator LeftBrace) xs → first_of block (xs ++ rest) ≡ F.Block
unfolding first_of
first_block block xs rest s = rw (s.parts, s.is) refl

first_if : (block : Bool) (xs rest : List Token) → Starts (Kind.Keyword K.If) xs → first_of block (xs ++ rest) ≡ F.If
unfolding first_of
first_if true xs rest s = rw (s.parts, s.is) refl
first_if false xs rest s = rw (s.parts, s.is) refl

first_while : (block : Bool) (xs rest : List Token) → Starts (Kind.Keyword K.While) xs → first_of block (xs ++ rest) ≡ F.While
unfolding first_of
first_while true xs rest s = rw (s.parts, s.is) refl
first_while false xs rest s = rw (s.parts, s.is) refl

first_do : (block : Bool) (xs rest : List Token) → Starts (Kind.Keyword K.Do) xs → first_of block (xs ++ rest) ≡ F.Do
unfolding first_of
first_do true xs rest s = rw (s.parts, s.is) refl
first_do false xs rest s = rw (s.parts, s.is) refl

first_step : (block : Bool) (p : Punctuator) (o : AssignOperator) (xs rest : List Token) → step_of p ≡ Some o → Starts (Kind.Punctuator p) xs → first_of block (xs ++ rest) ≡ F.Step
unfolding first_of
first_step true Increment o xs rest e s = rw (s.parts, s.is) refl
first_step false Increment o xs rest e s = rw (s.parts, s.is) refl
first_step true Decrement o xs rest e s = rw (s.parts, s.is) refl
first_step false Decrement o xs rest e s = rw (s.parts, s.is) refl
first_step block _ o xs rest e s = absurd cc

first_for : (block : Bool) (xs rest : List Token) → Starts (Kind.Keyword K.For) xs → first_of block (xs ++ rest) ≡ F.For
unfolding first_of
first_for true xs rest s = rw (s.parts, s.is) refl
first_for false xs rest s = rw (s.parts, s.is) refl

first_break : (block : Bool) (xs rest : List Token) → Starts (Kind.Keyword K.Break) xs → first_of block (xs ++ rest) ≡ F.Break
unfolding first_of
first_break true xs rest s = rw (s.parts, s.is) refl
first_break false xs rest s = rw (s.parts, s.is) refl

first_continue : (block : Bool) (xs rest : List Token) → Starts (Kind.Keyword K.Continue) xs → first_of block (xs ++ rest) ≡ F.Continue
unfolding first_of
first_continue true xs rest s = rw (s.parts, s.is) refl
first_continue false xs rest s = rw (s.parts, s.is) refl

first_return : (block : Bool) (xs rest : List Token) → Starts (Kind.Keyword K.Return) xs → first_of block (xs ++ rest) ≡ F.Return
unfolding first_of
first_return true xs rest s = rw (s.parts, s.is) refl
first_return false xs rest s = rw (s.parts, s.is) refl

first_local : (t : IntegerType) (xs rest : List Token) → IsType t xs → first_of true (xs ++ rest) ≡ F.Local
unfolding first_of
first_local Int xs rest s = rw (s.2, s.1) refl
first_local Unsigned xs rest (inl s) = rw (s.2, s.1) refl
first_local Unsigned xs rest (inr d) = let s = d.2 in rw (parts_behind xs d.0 d.1 rest d.4, s.2, s.1) refl

first_named : (block : Bool) (x : Identifier) (xs rest : List Token) → Starts (Kind.Name x.name) xs → first_of block (xs ++ rest) ≡ cond (is_call_next (xs ++ rest)) F.Call (cond (is_cell_next (xs ++ rest)) F.Store F.Assign)
unfolding first_of
first_named true x xs rest s = rw (s.parts, s.is) refl
first_named false x xs rest s = rw (s.parts, s.is) refl

-- a name, and behind it a sign
behind_name : (x : Identifier) (p : Punctuator) (Q : List Token → Type 0) (xs rest : List Token) → (IsName x ⨾ (Sign p ⨾ Q)) xs → (is_call_next (xs ++ rest) ≡ is_sign LeftParenthesis (Kind.Punctuator p)) × (is_cell_next (xs ++ rest) ≡ is_sign LeftBracket (Kind.Punctuator p))
behind_name x p Q xs rest d =
    let n = d.2 in
    let q = d.3 in
    let s = q.2 in
    let whole : xs ++ rest ≡ n.0 ∷ (s.0 ∷ (q.1 ++ rest)) = parts_behind xs d.0 d.1 rest d.4 ∙ ap (λ l. l ++ (d.1 ++ rest)) n.3 ∙ ap (λ l. n.0 ∷ l) (parts_behind d.1 q.0 q.1 rest q.4 ∙ ap (λ l. l ++ (q.1 ++ rest)) s.2) in
    (rw (whole, n.1, s.1) refl, rw (whole, n.1, s.1) refl)

first_behind_name : (block : Bool) (x : Identifier) (p : Punctuator) (Q : List Token → Type 0) (xs rest : List Token) → (IsName x ⨾ (Sign p ⨾ Q)) xs → first_of block (xs ++ rest) ≡ cond (is_sign LeftParenthesis (Kind.Punctuator p)) F.Call (cond (is_sign LeftBracket (Kind.Punctuator p)) F.Store F.Assign)
first_behind_name block x p Q xs rest d =
    let two = behind_name x p Q xs rest d in
    first_named block x xs rest (starts_then (Kind.Name x.name) xs d (starts_name x d.0 d.2)) ∙ ap (λ b. cond b F.Call (cond (is_cell_next (xs ++ rest)) F.Store F.Assign)) two.0
    ∙ ap (λ b. cond (is_sign LeftParenthesis (Kind.Punctuator p)) F.Call (cond b F.Store F.Assign)) two.1

-- a name, and behind it neither `(` nor `[`
first_alone : (block : Bool) (x : Identifier) {Q : List Token → Type 0} (xs rest : List Token) (d : (IsName x ⨾ Q) xs) → is_sign_next LeftParenthesis (d.1 ++ rest) ≡ false → is_sign_next LeftBracket (d.1 ++ rest) ≡ false → first_of block (xs ++ rest) ≡ F.Assign
first_alone block x xs rest d no_call no_cell =
    let n = d.2 in
    let whole : xs ++ rest ≡ n.0 ∷ (d.1 ++ rest) = parts_behind xs d.0 d.1 rest d.4 ∙ ap (λ (l : List Token). l ++ (d.1 ++ rest)) n.3 in
    let call : is_call_next (xs ++ rest) ≡ false = rw (whole, n.1, no_call) refl in
    let cell : is_cell_next (xs ++ rest) ≡ false = rw (whole, n.1, no_cell) refl in
    first_named block x xs rest (starts_then (Kind.Name x.name) xs d (starts_name x d.0 d.2))
    ∙ ap (λ b. cond b F.Call (cond (is_cell_next (xs ++ rest)) F.Store F.Assign)) call ∙ ap (λ b. cond b F.Store F.Assign) cell

-- no statement begins with `}` or `else`
pub record StatementStarts (xs : List Token) : Type 0 where
  pub kind : TokenKind
  pub starts : Starts kind xs
  pub no_brace : is_sign RightBrace kind ≡ false
  pub no_else : is_word K.Else kind ≡ false

begins_with_sign : (p : Punctuator) → is_sign RightBrace (Kind.Punctuator p) ≡ false → (xs : List Token) → Sign p xs → StatementStarts xs
begins_with_sign p e xs s = record { kind = Kind.Punctuator p; starts = starts_sign p xs s; no_brace = e; no_else = refl }

begins_with_word : (k : Keyword) → is_word K.Else (Kind.Keyword k) ≡ false → (xs : List Token) → Word k xs → StatementStarts xs
begins_with_word k e xs s = record { kind = Kind.Keyword k; starts = starts_word k xs s; no_brace = refl; no_else = e }

begins_with_placed : (k : Keyword) (at : ℕ) → is_word K.Else (Kind.Keyword k) ≡ false → (xs : List Token) → OneAt (Kind.Keyword k) at xs → StatementStarts xs
begins_with_placed k at e xs s = record { kind = Kind.Keyword k; starts = starts_placed (Kind.Keyword k) at xs s; no_brace = refl; no_else = e }

begins_with_name : (x : Identifier) (xs : List Token) → IsName x xs → StatementStarts xs
begins_with_name x xs s = record { kind = Kind.Name x.name; starts = starts_name x xs s; no_brace = refl; no_else = refl }

begins_then : {P Q : List Token → Type 0} (xs : List Token) (d : (P ⨾ Q) xs) → StatementStarts d.0 → StatementStarts xs
begins_then xs d s = record { kind = s.kind; starts = starts_then s.kind xs d s.starts; no_brace = s.no_brace; no_else = s.no_else }

begins_with_type : (t : IntegerType) (xs : List Token) → IsType t xs → StatementStarts xs
begins_with_type Int xs s = begins_with_word K.Int refl xs s
begins_with_type Unsigned xs (inl s) = begins_with_word K.Unsigned refl xs s
begins_with_type Unsigned xs (inr d) = begins_then xs d (begins_with_word K.Unsigned refl d.0 d.2)

begins_with_set : (xs : List Token) → is_next begins_set xs ≡ true → StatementStarts xs
begins_with_set [] e = absurd cc
begins_with_set (t ∷ ts) e = record {
  kind = t.kind;
  starts = record { token = t; more = ts; is = refl; parts = refl };
  no_brace = apart_from begins_set RightBrace refl (t ∷ ts) [] e;
  no_else = begins_no_word K.Else t.kind e;
}

pub statement_starts : (block : Bool) (s : StatementTree) (xs : List Token) → IsStatementIn block s xs → StatementStarts xs
statement_starts block T.Empty xs d = begins_with_sign Semicolon refl xs d
statement_starts block (T.Local l) xs d = let e = d.1 in begins_then xs e (begins_with_type l.kind e.0 e.2)
statement_starts block (T.Block s) xs d = begins_then xs d (begins_with_sign LeftBrace refl d.0 d.2)
statement_starts block (T.Call c) xs d = let e = d.2 in begins_then xs d (begins_then d.0 e (begins_with_name c.callee e.0 e.2))
statement_starts block (T.Assign x v) xs d = begins_then xs d (begins_with_name x d.0 d.2)
statement_starts block (T.Store a i e) xs d = begins_then xs d (begins_with_name a d.0 d.2)
statement_starts block (T.Change c) xs d = begins_with_set xs (passes_then begins_set xs d (change_begins c d.0 d.2))
statement_starts block (T.If e s) xs d = begins_then xs d (begins_with_word K.If refl d.0 d.2)
statement_starts block (T.IfElse e s t) xs d = let f = d.1 in begins_then xs f (begins_with_word K.If refl f.0 f.2)
statement_starts block (T.While e s) xs d = begins_then xs d (begins_with_word K.While refl d.0 d.2)
statement_starts block (T.Do s e) xs d = begins_then xs d (begins_with_word K.Do refl d.0 d.2)
statement_starts block (T.For start e step s) xs d = begins_then xs d (begins_with_word K.For refl d.0 d.2)
statement_starts block (T.Break at) xs d = begins_then xs d (begins_with_placed K.Break at refl d.0 d.2)
statement_starts block (T.Continue at) xs d = begins_then xs d (begins_with_placed K.Continue at refl d.0 d.2)
statement_starts block (T.Return at v) xs d = begins_then xs d (begins_with_placed K.Return at refl d.0 d.2)

starts_some : {xs : List Token} → StatementStarts xs → 1 ≤ length xs
starts_some {xs} s =
    let whole : length xs ≡ length (s.starts.token ∷ s.starts.more) = ap length s.starts.parts in
    omega arith

starts_no_brace : (xs rest : List Token) → StatementStarts xs → is_sign_next RightBrace (xs ++ rest) ≡ false
starts_no_brace xs rest s = passes_is (is_sign RightBrace) s.kind false s.no_brace xs rest s.starts

starts_no_else : (xs rest : List Token) → StatementStarts xs → is_word_next K.Else (xs ++ rest) ≡ false
starts_no_else xs rest s = passes_is (is_word K.Else) s.kind false s.no_else xs rest s.starts

brace_no_else : (rest : List Token) → is_sign_next RightBrace rest ≡ true → is_word_next K.Else rest ≡ false
brace_no_else [] e = refl
brace_no_else (t ∷ ts) e = rw (is_sign-true RightBrace t.kind e) refl

abbrev pub list_of : StatementsTree → List StatementTree
list_of T.Done = []
list_of (T.First s rest) = s ∷ list_of rest

statements_same : (ss : StatementsTree) → statements_of (list_of ss) ≡ ss
statements_same T.Done = refl
statements_same (T.First s rest) = ap (λ l. T.First s l) (statements_same rest)

listed : (ss : StatementsTree) (xs : List Token) → AreStatements ss xs → Each (IsStatementIn true) (list_of ss) xs
listed T.Done xs d = d
listed (T.First s rest) xs d = (d.0, d.1, d.2, listed rest d.1 d.3, d.4)

all_low : (fuel : ℕ) (ss : StatementsTree) → statements_height ss ≤ fuel → AllFit (Low fuel) (list_of ss)
all_low fuel T.Done le = tt
all_low fuel (T.First s rest) le = (omega arith, all_low fuel rest (omega arith))

-- what stands behind an expression, and more behind that
ends_then : (p : Punctuator) → binary_of p ≡ None → is_sign Question (Kind.Punctuator p) ≡ false → is_sign LeftBracket (Kind.Punctuator p) ≡ false → {Q : List Token → Type 0} (xs rest : List Token) → (Sign p ⨾ Q) xs → Ends 0 (xs ++ rest)
ends_then p e f g xs rest d = subst (λ l. Ends 0 l) (sym (parts_behind xs d.0 d.1 rest d.4)) (ends_behind p e f g 0 d.0 (d.1 ++ rest) d.2)

next_then : (p : Punctuator) → is_sign p (Kind.Punctuator p) ≡ true → {Q : List Token → Type 0} (xs rest : List Token) → (Sign p ⨾ Q) xs → is_sign_next p (xs ++ rest) ≡ true
next_then p e xs rest d = passes_is (is_sign p) (Kind.Punctuator p) true e xs rest (starts_then (Kind.Punctuator p) xs d (starts_sign p d.0 d.2))

-- Statements with parts that are statements, over a reading of these that is whole.
module _ (below : Below) (fuel : ℕ) (whole : (block : Bool) → IsWhole (below block) (Low fuel) (IsStatementIn block) Leaves) where
  leaves_more : (s : StatementTree) (more : List StatementTree) (ys rest : List Token) → Each (IsStatementIn true) more ys → is_sign_next RightBrace rest ≡ true → Leaves s (ys ++ rest)
  leaves_more s [] ys rest d e = λ open'. subst (λ (l : List Token). is_word_next K.Else (l ++ rest) ≡ false) (sym d) (brace_no_else rest e)
  leaves_more s (t ∷ more) ys rest d e = λ open'. starts_no_else ys rest (begins_then ys d (statement_starts true t d.0 d.2))

  items_whole : IsWhole (each goes_on (below true)) (AllFit (Low fuel)) (Each (IsStatementIn true)) (λ ss rest. is_sign_next RightBrace rest ≡ true)
  items_whole = each_whole goes_on (whole true) (λ s xs rest d. ap not (starts_no_brace xs rest (statement_starts true s xs d))) (λ s xs d. starts_some (statement_starts true s xs d))
      (λ rest. is_sign_next RightBrace rest ≡ true) (λ rest e. ap not e) leaves_more

  pub block_again : (ss : StatementsTree) (xs rest : List Token) → statements_height ss ≤ fuel → (Sign LeftBrace ⨾ (AreStatements ss ⨾ Sign RightBrace)) xs → block_in below (xs ++ rest) ≡ Ok (ss, rest)
  unfolding block_in items_in
  block_again ss xs rest low d =
      let q = d.3 in
      made_again statements_of (after' (sign_mark LeftBrace) (before' items_whole (sign_mark RightBrace) (λ l ys r s. is_sign_next-again RightBrace ys r s))) (list_of ss) xs rest (all_low fuel ss low) (d.0, d.1, d.2, (q.0, q.1, listed ss q.0 q.2, q.3, q.4), d.4) tt
      ∙ ap (λ s. done (s, rest)) (statements_same ss)

  at : (block : Bool) (first : First) (ts : List Token) (r : _) → first_of block ts ≡ first → by_first below fuel first ts ≡ r → by_first below fuel (first_of block ts) ts ≡ r
  at block first ts r e h = ap (λ f. by_first below fuel f ts) e ∙ h

  -- an `if`'s statement, and what stands behind `else`
  branches_again : (s : StatementTree) (o : Option StatementTree) (xs rest : List Token) → Low fuel s → IfThere (Low fuel) o → SpellsBranches s o xs → LeavesBranches o rest → branches_in below (xs ++ rest) ≡ Ok ((s, o), rest)
  unfolding branches_in
  branches_again s None xs rest low f d e =
      bind_is (below false (xs ++ rest)) (λ x. else_in below x.1 >>= λ y. Ok ((x.0, y.0), y.1)) (s, rest) ((whole false).again s xs rest low d (λ h. e))
      ∙ bind_is (else_in below rest) (λ y. Ok ((s, y.0), y.1)) (None, rest) (either_second (is_word_next K.Else) (there (word K.Else ▷ below false)) missing rest e)
  branches_again s (Some t) xs rest low f d e =
      let q = d.1 in
      let w = q.3 in
      let otherwise : else_in below (q.1 ++ rest) ≡ Ok (Some t, rest) =
      either_first (is_word_next K.Else) (there (word K.Else ▷ below false)) missing (q.1 ++ rest) (passes_is (is_word K.Else) (Kind.Keyword K.Else) true refl q.1 rest (starts_then (Kind.Keyword K.Else) q.1 w (starts_word K.Else w.0 w.2)))
      ∙ made_again (λ x. Some x) (after' (word_mark K.Else) (whole false)) t q.1 rest f w e in
      ap (branches_in below) (parts_behind xs q.0 q.1 rest q.4)
      ∙ bind_is (below false (q.0 ++ (q.1 ++ rest))) (λ x. else_in below x.1 >>= λ y. Ok ((x.0, y.0), y.1)) (s, q.1 ++ rest) ((whole false).again s q.0 (q.1 ++ rest) low q.2 (λ h. absurd (let closed = d.0 in cc)))
      ∙ bind_is (else_in below (q.1 ++ rest)) (λ y. Ok ((s, y.0), y.1)) (Some t, rest) otherwise

  if_again : (block : Bool) (e : ExpressionTree) (s : StatementTree) (o : Option StatementTree) (xs rest : List Token) → expression_height e ≤ fuel → Low fuel s → IfThere (Low fuel) o → (Word K.If ⨾ (Sign LeftParenthesis ⨾ (IsExpression e ⨾ (Sign RightParenthesis ⨾ SpellsBranches s o)))) xs → LeavesBranches o rest → if_in below fuel (xs ++ rest) ≡ Ok (branched e s o, rest)
  unfolding if_in
  if_again block e s o xs rest low f g d l =
      let branches : IsWhole (branches_in below) (λ v. Low fuel v.0 × IfThere (Low fuel) v.1) (λ v. SpellsBranches v.0 v.1) (λ v. LeavesBranches v.1) = record {
        again = λ v ys r k d l. branches_again v.0 v.1 ys r k.0 k.1 d l;
      } in
      made_again (λ v. branched v.0 v.1.0 v.1.1) (after' (word_mark K.If) (after' (sign_mark LeftParenthesis) (both' (expression_whole fuel) (after' (sign_mark RightParenthesis) branches)
      (λ e v ys r d l. ends_then RightParenthesis refl refl refl ys r d)))) (e, (s, o)) xs rest (low, (f, g)) d l

  while_again : (block : Bool) (e : ExpressionTree) (s : StatementTree) (xs rest : List Token) → Low (suc fuel) (T.While e s) → IsStatementIn block (T.While e s) xs → Leaves (T.While e s) rest → while_in below fuel (xs ++ rest) ≡ Ok (T.While e s, rest)
  unfolding while_in
  while_again block e s xs rest low d l =
      made_again (λ v. T.While v.0 v.1) (after' (word_mark K.While) (after' (sign_mark LeftParenthesis) (both' (expression_whole fuel) (after' (sign_mark RightParenthesis) (whole false))
      (λ e v ys r d l. ends_then RightParenthesis refl refl refl ys r d)))) (e, s) xs rest (omega arith, omega arith) d l

  do_end_whole : IsWhole (do_end fuel) (λ e. expression_height e ≤ fuel) (λ e. Word K.While ⨾ (Sign LeftParenthesis ⨾ (IsExpression e ⨾ (Sign RightParenthesis ⨾ Sign Semicolon)))) Any
  unfolding do_end
  do_end_whole = record {
    again = (after' (word_mark K.While) (after' (sign_mark LeftParenthesis) (before' (expression_whole fuel) (both_marks (sign_mark RightParenthesis) (sign_mark Semicolon))
        (λ e ys r s. ends_then RightParenthesis refl refl refl ys r s)))).again;
  }

  -- The `while` behind a statement of a `do` is no `else`.
  do_again : (block : Bool) (s : StatementTree) (e : ExpressionTree) (xs rest : List Token) → Low (suc fuel) (T.Do s e) → IsStatementIn block (T.Do s e) xs → do_in below fuel (xs ++ rest) ≡ Ok (T.Do s e, rest)
  unfolding do_in
  do_again block s e xs rest low d =
      made_again (λ v. T.Do v.0 v.1) (after' (word_mark K.Do) (both' (whole false) do_end_whole
      (λ s e ys r d k. λ open'. passes_is (is_word K.Else) (Kind.Keyword K.While) false refl ys r (starts_then (Kind.Keyword K.While) ys d (starts_word K.While d.0 d.2))))) (s, e) xs rest (omega arith, omega arith) d tt

  for_again : (block : Bool) (start : StartTree) (e : Option ExpressionTree) (step : Option SetTree) (s : StatementTree) (xs rest : List Token) → Low (suc fuel) (T.For start e step s) → IsStatementIn block (T.For start e step s) xs → Leaves (T.For start e step s) rest → for_in below fuel (xs ++ rest) ≡ Ok (T.For start e step s, rest)
  unfolding for_in
  for_again block start e step s xs rest low d l =
      made_again (λ v. T.For v.0 v.1.0 v.1.1.0 v.1.1.1)
      (after' (word_mark K.For) (after' (sign_mark LeftParenthesis) (both' (start_whole fuel)
      (both' (condition_whole fuel) (after' (sign_mark Semicolon)
      (both' (step_whole fuel) (after' (sign_mark RightParenthesis) (whole false))
      (λ o v ys r d l. (next_then RightParenthesis refl ys r d, ends_then RightParenthesis refl refl refl ys r d))))
      (λ o v ys r d l. (next_then Semicolon refl ys r d, ends_then Semicolon refl refl refl ys r d)))
      (λ o v ys r d l. tt))))
      (start, (e, (step, s))) xs rest (omega arith, (omega arith, (omega arith, omega arith))) d l

  local_case : (block : Bool) (l : LocalTree) (xs rest : List Token) → Low (suc fuel) (T.Local l) → IsTrue block → IsLocal l xs → by_first below fuel (first_of block (xs ++ rest)) (xs ++ rest) ≡ Ok (T.Local l, rest)
  local_case true l xs rest low h d =
      let first : first_of true (xs ++ rest) ≡ F.Local = subst (λ ts. first_of true ts ≡ F.Local) (sym (parts_behind xs d.0 d.1 rest d.4)) (first_local l.kind d.0 (d.1 ++ rest) d.2) in
      at true F.Local (xs ++ rest) _ first (bind_is (local fuel (xs ++ rest)) (λ y. done (T.Local y.0, y.1)) (l, rest) (local_again fuel l xs rest low d))
  local_case false l xs rest low h d = absurd cc

  call_case : (block : Bool) (c : CallTree) (xs rest : List Token) → Low (suc fuel) (T.Call c) → (IsCall c ⨾ Sign Semicolon) xs → by_first below fuel (first_of block (xs ++ rest)) (xs ++ rest) ≡ Ok (T.Call c, rest)
  unfolding call_statement
  call_case block c xs rest low d =
      let calls : IsWhole (call fuel) (λ c. call_height c ≤ fuel) IsCall Any = record { again = λ c ys r f d e. call_again fuel c ys r f d } in
      let first : first_of block (xs ++ rest) ≡ F.Call = subst (λ ts. first_of block ts ≡ F.Call) (sym (parts_behind xs d.0 d.1 rest d.4)) (first_behind_name block c.callee LeftParenthesis _ d.0 (d.1 ++ rest) d.2) in
      at block F.Call (xs ++ rest) _ first (made_again (λ c. T.Call c) (before' calls (sign_mark Semicolon) (λ c ys r s. tt)) c xs rest (omega arith) d tt)

  changed_whole : IsWhole (changed fuel) (λ c. expression_height c.1 ≤ fuel) (λ c. IsChanging c ⨾ Sign Semicolon) Any
  unfolding changed
  changed_whole = record { again = (before' (changing_whole fuel) (sign_mark Semicolon) (λ c ys r s. ends_behind Semicolon refl refl refl 0 ys r s)).again }

  changed_begins : (c : AssignOperator × ExpressionTree) (xs : List Token) → (IsChanging c ⨾ Sign Semicolon) xs → is_next is_changing xs ≡ true
  changed_begins c xs d = passes_then is_changing xs d (changing_begins c d.0 d.2)

  becomes_value : IsWhole (value fuel ◁ sign Semicolon) (λ v. value_height v ≤ fuel) (λ v. IsValue v ⨾ Sign Semicolon) Any
  becomes_value = before' (value_whole fuel) (sign_mark Semicolon) (λ v ys r s. closed_semicolon ys r s)

  becomes_expression : IsWhole (expression_at fuel 0 ◁ sign Semicolon) (λ e. expression_height e ≤ fuel) (λ e. IsExpression e ⨾ Sign Semicolon) Any
  becomes_expression = before' (expression_whole fuel) (sign_mark Semicolon) (λ e ys r s. ends_behind Semicolon refl refl refl 0 ys r s)

  assign_case : (block : Bool) (x : Identifier) (v : Deed ValueTree) (xs rest : List Token) → 1 ≤ fuel → FitsDeed (λ v. value_height v ≤ fuel) (λ c. expression_height c.1 ≤ fuel) v → (IsName x ⨾ SpellsDeed (λ v. IsValue v ⨾ Sign Semicolon) (λ c. IsChanging c ⨾ Sign Semicolon) v) xs → by_first below fuel (first_of block (xs ++ rest)) (xs ++ rest) ≡ Ok (assigned x v, rest)
  unfolding assign
  assign_case block x v xs rest low f d =
      let first = first_alone block x xs rest d (deed_not becomes_value changed_whole changed_begins LeftParenthesis refl refl v d.1 rest d.3) (deed_not becomes_value changed_whole changed_begins LeftBracket refl refl v d.1 rest d.3) in
      at block F.Assign (xs ++ rest) _ first
      (made_again (λ v. assigned v.0 v.1) (both' (name_whole fuel) (deed_whole becomes_value changed_whole changed_begins) (λ x v ys r d e. tt)) (x, v) xs rest (low, f) d tt)

  store_case : (block : Bool) (c : Identifier × ExpressionTree) (v : Deed ExpressionTree) (xs rest : List Token) → LowCell fuel c → FitsDeed (λ e. expression_height e ≤ fuel) (λ c. expression_height c.1 ≤ fuel) v → (IsCell c ⨾ SpellsDeed (λ e. IsExpression e ⨾ Sign Semicolon) (λ c. IsChanging c ⨾ Sign Semicolon) v) xs → by_first below fuel (first_of block (xs ++ rest)) (xs ++ rest) ≡ Ok (stored c v, rest)
  unfolding store
  store_case block c v xs rest low f d =
      at block F.Store (xs ++ rest) _ (first_behind_name block c.0 LeftBracket _ xs rest (cell_apart c xs d))
      (made_again (λ v. stored v.0 v.1) (both' (cell_whole fuel) (deed_whole becomes_expression changed_whole changed_begins) (λ x v ys r d e. tt)) (c, v) xs rest (low, f) d tt)

  -- a cell, and more behind it, of one row of parts
  cell_grouped : {R : List Token → Type 0} (c : Identifier × ExpressionTree) (xs : List Token) → (IsName c.0 ⨾ (Sign LeftBracket ⨾ (IsExpression c.1 ⨾ (Sign RightBracket ⨾ R)))) xs → (IsCell c ⨾ R) xs
  cell_grouped c xs d =
      let q = d.3 in
      grouped xs (d.0, d.1, d.2, grouped d.1 (q.0, q.1, q.2, grouped q.1 q.3, q.4), d.4)

  behind_case : (block : Bool) (l : LvalueTree) (o : AssignOperator) (e : ExpressionTree) (xs rest : List Token) → lvalue_height l ≤ fuel → expression_height e ≤ fuel → (IsLvalue l ⨾ (IsChanging (o, e) ⨾ Sign Semicolon)) xs → by_first below fuel (first_of block (xs ++ rest)) (xs ++ rest) ≡ Ok (T.Change (record { lvalue = l; operator = o; value = e }), rest)
  behind_case block (T.Name x) o e xs rest low f d = assign_case block x (Changes o e) xs rest low f d
  behind_case block (T.Cell a i) o e xs rest low f d = store_case block (a, i) (Changes o e) xs rest low f d

  prefixed_case : (block : Bool) (c : ChangeTree) (xs rest : List Token) → Low (suc fuel) (T.Change c) → (IsPrefixed c ⨾ Sign Semicolon) xs → by_first below fuel (first_of block (xs ++ rest)) (xs ++ rest) ≡ Ok (T.Change c, rest)
  unfolding step_statement
  prefixed_case block c xs rest low d =
      let p = d.2.1 in
      let k = step_token c.operator p.0 p.2 in
      let kind = Kind.Punctuator k.sign in
      let first = starts_then kind xs d (starts_then kind d.0 p (record { token = k.token; more = []; is = k.is; parts = k.parts })) in
      at block F.Step (xs ++ rest) _ (first_step block k.sign c.operator xs rest k.stands first)
      (made_again (λ c. T.Change c) (before' (prefixed_whole fuel) (sign_mark Semicolon) (λ c ys r s. passes_is (is_sign LeftBracket) (Kind.Punctuator Semicolon) false refl ys r (starts_sign Semicolon ys s))) c xs rest low d tt)

  change_case : (block : Bool) (c : ChangeTree) (xs rest : List Token) → Low (suc fuel) (T.Change c) → (IsChange c ⨾ Sign Semicolon) xs → by_first below fuel (first_of block (xs ++ rest)) (xs ++ rest) ≡ Ok (T.Change c, rest)
  change_case block c xs rest low d =
      elim (parted c d.0 d.2) [
        | inl b ↦ behind_case block c.lvalue c.operator c.value xs rest (omega arith) (omega arith) (apart xs (d.0, d.1, b, d.3, d.4))
        | inr p ↦ prefixed_case block c xs rest low (d.0, d.1, p, d.3, d.4)
      ]

  word_case : (k : Keyword) (first : First) (make : ℕ → StatementTree) (block : Bool) (n : ℕ) (xs rest : List Token) → ((ts : List Token) → by_first below fuel first ts ≡ made make (placed_word k ◁ sign Semicolon) ts) → ((ys r : List Token) → Starts (Kind.Keyword k) ys → first_of block (ys ++ r) ≡ first) → (OneAt (Kind.Keyword k) n ⨾ Sign Semicolon) xs → by_first below fuel (first_of block (xs ++ rest)) (xs ++ rest) ≡ Ok (make n, rest)
  word_case k first make block n xs rest same is d =
      at block first (xs ++ rest) _ (is xs rest (starts_then (Kind.Keyword k) xs d (starts_placed (Kind.Keyword k) n d.0 d.2)))
      (same (xs ++ rest) ∙ made_again make (before' (placed_word_whole k) (sign_mark Semicolon) (λ x ys r s. tt)) n xs rest tt d tt)

  break_same : (ts : List Token) → by_first below fuel F.Break ts ≡ made (λ n. T.Break n) (placed_word K.Break ◁ sign Semicolon) ts
  unfolding break_statement
  break_same ts = refl

  continue_same : (ts : List Token) → by_first below fuel F.Continue ts ≡ made (λ n. T.Continue n) (placed_word K.Continue ◁ sign Semicolon) ts
  unfolding continue_statement
  continue_same ts = refl

  return_case : (block : Bool) (n : ℕ) (v : Option ValueTree) (xs rest : List Token) → Low (suc fuel) (T.Return n v) → IsStatementIn block (T.Return n v) xs → by_first below fuel (first_of block (xs ++ rest)) (xs ++ rest) ≡ Ok (T.Return n v, rest)
  unfolding return_statement
  return_case block n v xs rest low d =
      at block F.Return (xs ++ rest) _ (first_return block xs rest (starts_then (Kind.Keyword K.Return) xs d (starts_placed (Kind.Keyword K.Return) n d.0 d.2)))
      (made_again (λ v. T.Return v.0 v.1) (both' (placed_word_whole K.Return) (before' (returned_whole fuel) (sign_mark Semicolon) (λ o ys r s. (is_sign_next-again Semicolon ys r s, closed_semicolon ys r s))) (λ x v ys r d e. tt)) (n, v) xs rest (tt, omega arith) d tt)

  pub by_first_again : (block : Bool) (s : StatementTree) (xs rest : List Token) → Low (suc fuel) s → IsStatementIn block s xs → Leaves s rest → by_first below fuel (first_of block (xs ++ rest)) (xs ++ rest) ≡ Ok (s, rest)
  unfolding empty
  by_first_again block T.Empty xs rest low d l = at block F.Empty (xs ++ rest) _ (first_empty block xs rest (starts_sign Semicolon xs d)) (bind_is (sign Semicolon (xs ++ rest)) (λ r. done (T.Empty, r)) rest (sign_again Semicolon xs rest d))
  by_first_again block (T.Local k) xs rest low d l = local_case block k xs rest low d.0 d.1
  by_first_again block (T.Block ss) xs rest low d l =
      at block F.Block (xs ++ rest) _ (first_block block xs rest (starts_then (Kind.Punctuator LeftBrace) xs d (starts_sign LeftBrace d.0 d.2)))
      (bind_is (block_in below (xs ++ rest)) (λ y. done (T.Block y.0, y.1)) (ss, rest) (block_again ss xs rest (omega arith) d))
  by_first_again block (T.Call c) xs rest low d l = call_case block c xs rest low d
  by_first_again block (T.Assign x v) xs rest low d l = assign_case block x (Becomes v) xs rest (omega arith) (omega arith) d
  by_first_again block (T.Store a i e) xs rest low d l = store_case block (a, i) (Becomes e) xs rest (omega arith) (omega arith) (cell_grouped (a, i) xs d)
  by_first_again block (T.Change c) xs rest low d l = change_case block c xs rest low d
  by_first_again block (T.If e s) xs rest low d l =
      at block F.If (xs ++ rest) _ (first_if block xs rest (starts_then (Kind.Keyword K.If) xs d (starts_word K.If d.0 d.2))) (if_again block e s None xs rest (omega arith) (omega arith) tt d (l refl))
  by_first_again block (T.IfElse e s t) xs rest low d l =
      let f = d.1 in
      let p = f.3 in
      let q = p.3 in
      let r = q.3 in
      at block F.If (xs ++ rest) _ (first_if block xs rest (starts_then (Kind.Keyword K.If) xs f (starts_word K.If f.0 f.2)))
      (if_again block e s (Some t) xs rest (omega arith) (omega arith) (omega arith) (f.0, f.1, f.2, (p.0, p.1, p.2, (q.0, q.1, q.2, (r.0, r.1, r.2, (d.0, r.3), r.4), q.4), p.4), f.4) l)
  by_first_again block (T.While e s) xs rest low d l =
      at block F.While (xs ++ rest) _ (first_while block xs rest (starts_then (Kind.Keyword K.While) xs d (starts_word K.While d.0 d.2))) (while_again block e s xs rest low d l)
  by_first_again block (T.Do s e) xs rest low d l =
      at block F.Do (xs ++ rest) _ (first_do block xs rest (starts_then (Kind.Keyword K.Do) xs d (starts_word K.Do d.0 d.2))) (do_again block s e xs rest low d)
  by_first_again block (T.For start e step s) xs rest low d l =
      at block F.For (xs ++ rest) _ (first_for block xs rest (starts_then (Kind.Keyword K.For) xs d (starts_word K.For d.0 d.2))) (for_again block start e step s xs rest low d l)
  by_first_again block (T.Break n) xs rest low d l = word_case K.Break F.Break (λ n. T.Break n) block n xs rest break_same (first_break block) d
  by_first_again block (T.Continue n) xs rest low d l = word_case K.Continue F.Continue (λ n. T.Continue n) block n xs rest continue_same (first_continue block) d
  by_first_again block (T.Return n v) xs rest low d l = return_case block n v xs rest low d

statement_high : (s : StatementTree) → 1 ≤ statement_height s
statement_high T.Empty = omega arith
statement_high (T.Local l) = omega arith
statement_high (T.Block s) = omega arith
statement_high (T.Call c) = omega arith
statement_high (T.Assign x v) = omega arith
statement_high (T.Store a i e) = omega arith
statement_high (T.Change c) = omega arith
statement_high (T.If e s) = omega arith
statement_high (T.IfElse e s t) = omega arith
statement_high (T.While e s) = omega arith
statement_high (T.Do s e) = omega arith
statement_high (T.For start e step s) = omega arith
statement_high (T.Break at) = omega arith
statement_high (T.Continue at) = omega arith
statement_high (T.Return at v) = omega arith

pub statement_again : (fuel : ℕ) (block : Bool) (s : StatementTree) (xs rest : List Token) → Low fuel s → IsStatementIn block s xs → Leaves s rest → statement_at fuel block (xs ++ rest) ≡ Ok (s, rest)
unfolding statement_at
statement_again zero block s xs rest low d l = absurd (let high = statement_high s in omega arith)
statement_again (suc fuel) block s xs rest low d l =
    by_first_again (statement_at fuel) fuel (λ b. record { again = statement_again fuel b }) block s xs rest low d l

pub statement_whole : (fuel : ℕ) (block : Bool) → IsWhole (statement_at fuel block) (Low fuel) (IsStatementIn block) Leaves
statement_whole fuel block = record { again = statement_again fuel block }
