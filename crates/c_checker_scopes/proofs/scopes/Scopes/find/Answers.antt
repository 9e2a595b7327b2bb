-- Why `find` meets its contract, and it may call `index`.
use Rattle.std.proofs.Common.{Some, refl, sym, ap, subst, ◌<◌}
use Rattle.c_checker_scopes.specs.Bound.{binding_of}
use Rattle.c_checker_scopes.specs.Table.{names_of, bound_of}
use Rattle.c_checker_scopes.proofs.Tables.{symbol-none, found-row, found-unknown, Answers}
use Rattle.c_checker_scopes.proofs.scopes.Scopes.find.Goals as goal

pub returns-in_err-symbol : goal.returns-in_err-symbol
returns-in_err-symbol g c =
    let inside = c.self.inside in
    let none = symbol-none c.args.name.now inside.symbols.keys (sym c.in_err-symbol.ensures.found) in
    let e = found-unknown (names_of inside.symbols.keys) inside.latest.items inside.entries.items c.self.invariant c.args.name.now none in
    rw (c.from_residual.ensures, ← c.self.view_is, e) refl

pub returns-in_err-place : goal.returns-in_err-place
returns-in_err-place g c =
    let inside = c.self.inside in
    let row = found-row inside.symbols.keys inside.latest.items inside.entries.items c.self.invariant c.args.name.now c.in_ok-symbol.symbol c.in_ok-symbol.ensures.index c.index.result.now c.index.ensures in
    let e = subst (Answers (names_of inside.symbols.keys) inside.latest.items inside.entries.items c.self.invariant c.args.name.now) c.in_err-place.was row in
    rw (c.from_residual-in_err-place.ensures, ← c.self.view_is, e) refl

pub index-entry-requires : goal.index-entry-requires
index-entry-requires g c =
    let inside = c.self.inside in
    let row = found-row inside.symbols.keys inside.latest.items inside.entries.items c.self.invariant c.args.name.now c.in_ok-symbol.symbol c.in_ok-symbol.ensures.index c.index.result.now c.index.ensures in
    let e = subst (Answers (names_of inside.symbols.keys) inside.latest.items inside.entries.items c.self.invariant c.args.name.now) c.in_ok-place.was row in
    subst (λ n. c.in_ok-place.place < n) (sym inside.entries.ok.0) e.0

pub returns : goal.returns
returns g c =
    let inside = c.self.inside in
    let row = found-row inside.symbols.keys inside.latest.items inside.entries.items c.self.invariant c.args.name.now c.in_ok-symbol.symbol c.in_ok-symbol.ensures.index c.index.result.now c.index.ensures in
    let e = subst (Answers (names_of inside.symbols.keys) inside.latest.items inside.entries.items c.self.invariant c.args.name.now) c.in_ok-place.was row in
    rw (← c.self.view_is, e.1 c.index-entry.result.now) (ap (λ x. Some (binding_of (bound_of (names_of inside.symbols.keys) x))) c.index-entry.ensures)
