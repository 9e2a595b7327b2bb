-- Why `symbol_for` meets its clauses `named` and `table`.
use Rattle.std.proofs.Common.{ap, subst, sym, ◌∙◌, inl, inr}
use Rattle.std.proofs.lemmas.List.{length-map}
use Rattle.c_checker_scopes.specs.Table.{names_of, IsTable}
use Rattle.c_checker_scopes.proofs.Tables.{symbol-named, symbol-none, names_of-insert, more_row, ready}
use Rattle.c_checker_scopes.proofs.symbols.symbol_for.Goals as goal
use Rattle.c_checker_scopes.proofs.symbols.symbol_for.Goals.{then-len+in_ok-push, else-len}

pub returns-in-Some-clause-named : goal.returns-in-Some-clause-named
returns-in-Some-clause-named c = (symbol-named c.args.name.now c.args.symbols.now.keys c.in-Some.symbol (sym c.in-Some.ensures.index)).1

-- the row that was made stays
pub returns-in_err-symbol-clause-table : goal.returns-in_err-symbol-clause-table
returns-in_err-symbol-clause-table c =
    λ links table.
    let names = ap names_of c.in_err-symbol.ensures.err in
    let old = names_of c.args.symbols.now.keys in
    let rows = c.args.latest.now.items in
    subst (λ n. IsTable n c.if-len.latest.items links) (sym names)
    (elim c.if-len.branch [
      | then-len+in_ok-push w ↦
          subst (λ l. IsTable old l links) (sym (ap (λ v. v.items) w.latest-is ∙ w.in_ok-push.ensures.items)) (more_row old rows links table)
      | else-len w ↦ subst (λ l. IsTable old l links) (sym (ap (λ v. v.items) w.latest-is)) table
    ])

pub returns-clause-table : goal.returns-clause-table
returns-clause-table c =
    λ links table.
    let keys = c.args.symbols.now.keys in
    let name = c.args.name.now in
    let none = sym c.in_default.ensures.found in
    let names = names_of-insert name keys c.insert_full.new.self.keys c.in_ok-key.key c.in_ok-key.ensures.items none c.in_ok-symbol.ensures.keys in
    ready (names_of keys) _ c.args.latest.now.items _ links name
    (elim c.if-len.branch [
      | then-len+in_ok-push w ↦ inl (ap (λ v. v.items) w.latest-is ∙ w.in_ok-push.ensures.items)
      | else-len w ↦ inr (ap (λ v. v.items) w.latest-is, λ e. w.if-len.false (c.len.ensures ∙ c.args.latest.now.ok.0 ∙ e ∙ length-map keys (λ key. key.items) ∙ sym c.len-2.ensures.len))
    ])
    names (symbol-none name keys none) table
