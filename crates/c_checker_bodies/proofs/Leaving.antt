-- A scope is left by the number of names that stood before it.
use Rattle.std.proofs.Common.{◌≡◌, ℕ, ◌-◌, ◌≤◌, length, drop}
use Rattle.c_syntax.specs.Trees.{StartTree, StatementTree, StatementsTree}
use Rattle.c_checker_rules.specs.Locals.{Here}
use Rattle.c_checker_rules.specs.Statements.{with_start, after, after_all}
use Rattle.c_checker_rules.proofs.Scopes.{after_ends, after_all_ends, for_ends, is_longer, shortened}

pub statement_longer : (depth : ℕ) (h : Here) (s : StatementTree) → length h.scope ≤ length (after depth h s).scope
statement_longer depth h s = is_longer (after depth h s).scope h.scope (after_ends depth h s)

pub statement_shortened : (depth : ℕ) (h : Here) (s : StatementTree) → drop (length (after depth h s).scope - length h.scope) (after depth h s).scope ≡ h.scope
statement_shortened depth h s = shortened (after depth h s).scope h.scope (after_ends depth h s)

pub statements_longer : (depth : ℕ) (h : Here) (s : StatementsTree) → length h.scope ≤ length (after_all depth h s).scope
statements_longer depth h s = is_longer (after_all depth h s).scope h.scope (after_all_ends depth h s)

pub statements_shortened : (depth : ℕ) (h : Here) (s : StatementsTree) → drop (length (after_all depth h s).scope - length h.scope) (after_all depth h s).scope ≡ h.scope
statements_shortened depth h s = shortened (after_all depth h s).scope h.scope (after_all_ends depth h s)

pub for_longer : (depth : ℕ) (h : Here) (start : StartTree) (s : StatementTree) → length h.scope ≤ length (after depth (with_start depth h start) s).scope
for_longer depth h start s = is_longer (after depth (with_start depth h start) s).scope h.scope (for_ends depth h start s)

pub for_shortened : (depth : ℕ) (h : Here) (start : StartTree) (s : StatementTree) → drop (length (after depth (with_start depth h start) s).scope - length h.scope) (after depth (with_start depth h start) s).scope ≡ h.scope
for_shortened depth h start s = shortened (after depth (with_start depth h start) s).scope h.scope (for_ends depth h start s)
