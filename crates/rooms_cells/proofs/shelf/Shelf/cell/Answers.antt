-- Why `cell` meets its clauses `name` and `size`.
use Rattle.std.proofs.Common.{◌≡◌, ◌<◌, ℕ, List, length, get_or, sym, ap, ◌∙◌, subst}
use Rattle.once_cell.specs.Once.{cell_name}
use Rattle.rooms_cells.proofs.Rows.{get_or-map, length-map}
use Rattle.rooms_cells.proofs.shelf.Shelf.cell.Goals as goal

pub returns-clause-name : goal.returns-clause-name
returns-clause-name g c =
    get_or-map cell_name c.self.inside.cells c.args.j c.index-self-j.result 0 (subst (λ (n : ℕ). c.args.j < n) (sym c.self.invariant) c.requires)
    ∙ ap (λ (ns : List ℕ). get_or ns c.args.j 0) c.self.view_is

pub returns-clause-size : goal.returns-clause-size
returns-clause-size g c = subst (λ (ns : List ℕ). length ns ≡ 7) c.self.view_is (length-map cell_name c.self.inside.cells ∙ c.self.invariant)
