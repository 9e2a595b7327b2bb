-- How many locals a function has: their number only grows, and is at most 256 where no fault is told.
use Rattle.std.proofs.Common.{◌≡◌, ℕ, suc, ◌<◌, ◌≤◌, [], arith}
use Rattle.std.specs.Prelude.{nat_lt, ◌&&◌}
use Rattle.std.proofs.lemmas.Bool.{ltb-true, and_parts}
use Rattle.c_syntax.specs.declared.identifier.Identifier.{Identifier}
use Rattle.c_syntax.specs.Trees.{StartTree, StatementTree, StatementsTree}
use Rattle.c_syntax.specs.Trees as T
use Rattle.c_checker_rules.specs.declared.errors.CheckError.TheVariants.{Redeclared, Limit}
use Rattle.c_checker_rules.specs.declared.context.Context.{Context}
use Rattle.c_checker_rules.specs.Told.{unless}
use Rattle.c_checker_rules.specs.Calls.{Functions, value_faults}
use Rattle.c_checker_rules.specs.Expressions.{expression_faults}
use Rattle.c_checker_rules.specs.Locals.{Here, left, deeper, looping, local_faults, most_locals, is_short, is_new, with_local}
use Rattle.c_checker_rules.specs.Statements.{with_start, after, after_all, optional_faults, set_faults, start_faults, statement_faults, statements_faults}
use Rattle.cminor_lowering_ranges.proofs.Faults.{none_before, none_behind, three_parts, four_parts, holds}
use Rattle.cminor_lowering_ranges.proofs.Scopes.{ScopeFits}

-- ---- growth

start_grows : (depth : ℕ) (h : Here) (start : StartTree) → h.locals ≤ (with_start depth h start).locals
start_grows depth h T.StartNothing = omega arith
start_grows depth h (T.StartSet s) = omega arith
start_grows depth h (T.StartLocal t x e) = omega arith

mutual
  pub grows : (depth : ℕ) (h : Here) (s : StatementTree) → h.locals ≤ (after depth h s).locals
  grows depth h T.Empty = omega arith
  grows depth h (T.Local l) = omega arith
  grows depth h (T.Block s) = all_grow (suc depth) h s
  grows depth h (T.Call c) = omega arith
  grows depth h (T.Assign x v) = omega arith
  grows depth h (T.Store a i e) = omega arith
  grows depth h (T.Change c) = omega arith
  grows depth h (T.If e s) = grows depth h s
  grows depth h (T.IfElse e s t) = omega (arith, grows depth h s, grows depth (left h (after depth h s)) t)
  grows depth h (T.While e s) = grows depth h s
  grows depth h (T.Do s e) = grows depth h s
  grows depth h (T.For start e step s) = omega (arith, start_grows (suc depth) h start, grows (suc depth) (with_start (suc depth) h start) s)
  grows depth h (T.Break at) = omega arith
  grows depth h (T.Continue at) = omega arith
  grows depth h (T.Return at v) = omega arith

  pub all_grow : (depth : ℕ) (h : Here) (ss : StatementsTree) → h.locals ≤ (after_all depth h ss).locals
  all_grow depth h T.Done = omega arith
  all_grow depth h (T.First s rest) = omega (arith, grows depth h s, all_grow depth (after depth h s) rest)

-- ---- what is declared behind a statement

pub start_scope : (n depth : ℕ) (h : Here) (start : StartTree) → ScopeFits n h.scope → (with_start depth h start).locals ≤ n → ScopeFits n (with_start depth h start).scope
start_scope n depth h T.StartNothing fits within = fits
start_scope n depth h (T.StartSet s) fits within = fits
start_scope n depth h (T.StartLocal t x e) fits within = (within, fits)

pub scope_behind : (n depth : ℕ) (h : Here) (s : StatementTree) → ScopeFits n h.scope → (after depth h s).locals ≤ n → ScopeFits n (after depth h s).scope
scope_behind n depth h T.Empty fits within = fits
scope_behind n depth h (T.Local l) fits within = (within, fits)
scope_behind n depth h (T.Block s) fits within = fits
scope_behind n depth h (T.Call c) fits within = fits
scope_behind n depth h (T.Assign x v) fits within = fits
scope_behind n depth h (T.Store a i e) fits within = fits
scope_behind n depth h (T.Change c) fits within = fits
scope_behind n depth h (T.If e s) fits within = fits
scope_behind n depth h (T.IfElse e s t) fits within = fits
scope_behind n depth h (T.While e s) fits within = fits
scope_behind n depth h (T.Do s e) fits within = fits
scope_behind n depth h (T.For start e step s) fits within = fits
scope_behind n depth h (T.Break at) fits within = fits
scope_behind n depth h (T.Continue at) fits within = fits
scope_behind n depth h (T.Return at v) fits within = fits

-- ---- the limit

one_more : (depth : ℕ) (h : Here) (x : Identifier) → local_faults depth h x ≡ [] → h.locals < most_locals
one_more depth h x e =
    let limit = none_behind (unless (is_new depth h.scope x) (Redeclared x.offset)) (unless (nat_lt h.locals most_locals && is_short x) (Limit x.offset)) e in
    let parts = and_parts (nat_lt h.locals most_locals) (is_short x) (holds (nat_lt h.locals most_locals && is_short x) (Limit x.offset) limit) in
    ltb-true h.locals most_locals parts.0

start_few : (depth : ℕ) (h : Here) (start : StartTree) → start_faults depth h start ≡ [] → h.locals ≤ most_locals → (with_start depth h start).locals ≤ most_locals
start_few depth h T.StartNothing none within = within
start_few depth h (T.StartSet s) none within = within
start_few depth h (T.StartLocal t x e) none within =
    one_more depth h x (none_before (local_faults depth h x) (expression_faults (with_local depth h t x).scope e) none)

mutual
  few : (f : Functions) (p : Context) (h : Here) (s : StatementTree) → statement_faults f p h s ≡ [] → h.locals ≤ most_locals → (after p.depth h s).locals ≤ most_locals
  few f p h T.Empty none within = within
  few f p h (T.Local l) none within =
      one_more p.depth h l.name (none_before (local_faults p.depth h l.name) (optional_faults (value_faults f (with_local p.depth h l.kind l.name).scope) l.value) none)
  few f p h (T.Block s) none within = all_few f (deeper p) h s none within
  few f p h (T.Call c) none within = within
  few f p h (T.Assign x v) none within = within
  few f p h (T.Store a i e) none within = within
  few f p h (T.Change c) none within = within
  few f p h (T.If e s) none within = few f p h s (none_behind (expression_faults h.scope e) (statement_faults f p h s) none) within
  few f p h (T.IfElse e s t) none within =
      let other = left h (after p.depth h s) in
      let parts = three_parts (expression_faults h.scope e) (statement_faults f p h s) (statement_faults f p other t) none in
      few f p other t parts.2 (few f p h s parts.1 within)
  few f p h (T.While e s) none within = few f (looping p) h s (none_behind (expression_faults h.scope e) (statement_faults f (looping p) h s) none) within
  few f p h (T.Do s e) none within = few f (looping p) h s (none_before (statement_faults f (looping p) h s) (expression_faults h.scope e) none) within
  few f p h (T.For start e step s) none within =
      let inner = with_start (suc p.depth) h start in
      let parts = four_parts (start_faults (suc p.depth) h start) (optional_faults (expression_faults inner.scope) e) (optional_faults (set_faults inner.scope) step) (statement_faults f (looping (deeper p)) inner s) none in
      few f (looping (deeper p)) inner s parts.3 (start_few (suc p.depth) h start parts.0 within)
  few f p h (T.Break at) none within = within
  few f p h (T.Continue at) none within = within
  few f p h (T.Return at v) none within = within

  pub all_few : (f : Functions) (p : Context) (h : Here) (ss : StatementsTree) → statements_faults f p h ss ≡ [] → h.locals ≤ most_locals → (after_all p.depth h ss).locals ≤ most_locals
  all_few f p h T.Done none within = within
  all_few f p h (T.First s rest) none within =
      let behind = after p.depth h s in
      all_few f p behind rest (none_behind (statement_faults f p h s) (statements_faults f p behind rest) none) (few f p h s (none_before (statement_faults f p h s) (statements_faults f p behind rest) none) within)
