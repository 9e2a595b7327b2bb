use Rattle.std.proofs.Common.{◌≡◌, List, [], ◌∷◌, ◌++◌, sym, ap, ◌∙◌, length}
use Rattle.std.specs.Prelude.{slice_get}
use Rattle.std.proofs.lemmas.Bool.{iff_false, eqb-true, eqb-false}
use Rattle.std.proofs.lemmas.List.{append-nil}
use Rattle.alloc_check_rules.specs.declared.equation.Equation.{Equation}
use Rattle.alloc_check.proofs.OwnRows.{row_some, row_none}
use Rattle.alloc_check.proofs.lists.push_own.Goals as goal

pub returns-then-not-is_marked : goal.returns-then-not-is_marked
returns-then-not-is_marked c =
    let rows = c.args.rows.now.items in
    let unmarked = iff_false (rw c.from.ensures at c.is_marked.ensures) c.if-not-is_marked.true in
    sym (append-nil rows) ∙ ap (λ xs. rows ++ xs) (sym (row_none (slice_get c.args.feeders.now c.args.n) c.args.n c.args.registers.now (λ both. unmarked both.0)))

pub returns-then-is_empty : goal.returns-then-is_empty
returns-then-is_empty c =
    let rows = c.args.rows.now.items in
    let none = eqb-true (length c.args.registers.now) 0 (sym c.is_empty.ensures ∙ c.if-is_empty.true) in
    sym (append-nil rows) ∙ ap (λ xs. rows ++ xs) (sym (row_none (slice_get c.args.feeders.now c.args.n) c.args.n c.args.registers.now (λ both. both.1 none)))

pub returns : goal.returns
returns c =
    let rows = c.args.rows.now.items in
    let n = c.args.n in
    let marked = (rw c.from.ensures at c.is_marked.ensures).0 c.if-not-is_marked.false in
    let some = eqb-false (length c.args.registers.now) 0 (sym c.is_empty.ensures ∙ c.if-is_empty.false) in
    c.in_ok-push.ensures.items
    ∙ ap (λ (es : List Equation). rows ++ record { node = n; entries = es } ∷ []) c.in_ok-entries.ensures
    ∙ ap (λ xs. rows ++ xs) (sym (row_some (slice_get c.args.feeders.now n) n c.args.registers.now marked some))
