-- Why `bind` meets its clauses `err` and `ok`.
use Rattle.std.proofs.Common.{◌∷◌, ap, ◌∙◌}
use Rattle.std.proofs.lemmas.Result.{err_from_is_err_and}
use Rattle.c_checker_scopes.specs.declared.binding.Entry.{Entry}
use Rattle.c_checker_scopes.specs.declared.binding.Link.{Link}
use Rattle.c_checker_scopes.specs.Table.{names_of, bounds_of}
use Rattle.c_checker_scopes.proofs.Tables.{bounds_of-same, bounds_of-push, more_entry_read}
use Rattle.c_checker_scopes.proofs.scopes.Scopes.bind.Goals as goal

pub returns-in_err-symbol-clause-err : goal.returns-in_err-symbol-clause-err
returns-in_err-symbol-clause-err g c =
    let p = err_from_is_err_and c.from_residual.result c.from_residual.ensures.1 in
    let inside = c.self.inside in
    rw p.1 (bounds_of-same (names_of inside.symbols.keys) (names_of c.symbol_for.new.symbols.keys) inside.latest.items inside.entries.items c.self.invariant c.in_err-symbol.ensures.names ∙ c.self.view_is)

pub returns-in_err-push-clause-err : goal.returns-in_err-push-clause-err
returns-in_err-push-clause-err g c =
    let p = err_from_is_err_and c.from_residual-in_err-push.result c.from_residual-in_err-push.ensures.1 in
    let inside = c.self.inside in
    let names' = names_of c.symbol_for.new.symbols.keys in
    rw p.1
    (ap (bounds_of names') c.in_err-push.ensures.items
    ∙ bounds_of-same (names_of inside.symbols.keys) names' inside.latest.items inside.entries.items c.self.invariant c.in_ok-symbol.ensures.names ∙ c.self.view_is)

pub invariant_of-self-2 : goal.invariant_of-self-2
invariant_of-self-2 g c =
    let inside = c.self.inside in
    let names' = names_of c.symbol_for.new.symbols.keys in
    let latest' = c.symbol_for.new.latest.items in
    let link : Link = record { symbol = c.in_ok-symbol.symbol; shadowed = c.index-shadowed.result.now } in
    let e : Entry g.row.T.Denot = record { link = link; depth = c.args.depth; value = c.args.value } in
    let table = c.in_ok-symbol.ensures.table _ c.self.invariant in
    let more = more_entry_read names' latest' inside.entries.items e c.in_ok-symbol.ensures.within table c.index-shadowed.ensures in
    let place = c.len-place.ensures ∙ inside.entries.ok.0 in
    rw (c.in_ok-push.ensures.items, place) more

pub returns-clause-ok : goal.returns-clause-ok
returns-clause-ok g c =
    let inside = c.self.inside in
    let names = names_of inside.symbols.keys in
    let names' = names_of c.symbol_for.new.symbols.keys in
    let link : Link = record { symbol = c.in_ok-symbol.symbol; shadowed = c.index-shadowed.result.now } in
    let e : Entry g.row.T.Denot = record { link = link; depth = c.args.depth; value = c.args.value } in
    let old = bounds_of-same names names' inside.latest.items inside.entries.items c.self.invariant c.in_ok-symbol.ensures.names ∙ c.self.view_is in
    let name = c.in_ok-symbol.ensures.named in
    ap (bounds_of names') c.in_ok-push.ensures.items ∙ bounds_of-push names' inside.entries.items e
    ∙ (λ i. record { name = name i; depth = c.args.depth; value = c.args.value } ∷ old i)
