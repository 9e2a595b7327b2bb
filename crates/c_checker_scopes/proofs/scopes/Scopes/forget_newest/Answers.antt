-- Why what `forget_newest` leaves is in order.
use Rattle.std.proofs.Common.{ap, subst, ◌∙◌}
use Rattle.c_checker_scopes.specs.Table.{names_of, links_of, IsTable}
use Rattle.c_checker_scopes.proofs.Tables.{less_entry, links_of-push}
use Rattle.c_checker_scopes.proofs.scopes.Scopes.forget_newest.Goals as goal

pub invariant_of-self : goal.invariant_of-self
invariant_of-self g c =
    let inside = c.self.inside in
    less_entry (names_of inside.symbols.keys) inside.latest.items _ _
    (subst (IsTable (names_of inside.symbols.keys) inside.latest.items) (ap links_of c.in-Some.ensures.items ∙ links_of-push c.pop.new.self.items c.in-Some.gone) c.self.invariant)
