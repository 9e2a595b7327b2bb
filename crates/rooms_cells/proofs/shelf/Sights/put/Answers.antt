-- Why `put` meets its clauses `cells` and `size`, and it may call `put`.
use Rattle.std.proofs.Common.{◌≡◌, sym, ap, ◌∙◌, subst, ◌<◌, ℕ, List, length, length-set, get_or}
use Rattle.rooms_cells.specs.Seen.{SightOf, IsOnShelf, names_of}
use Rattle.rooms_cells.proofs.Rows.{get_or-map, map-set_same, put_cell}
use Rattle.rooms_cells.proofs.shelf.Sights.put.Goals as goal

pub put-requires : goal.put-requires
put-requires g c =
    let shelf = c.self.invariant in
    get_or-map (λ s. s.cell) c.self.inside.sights c.args.j c.index-self-j.result 0 (subst (λ (n : ℕ). c.args.j < n) (sym shelf.size) c.requires)
    ∙ (ap (λ (ns : List ℕ). get_or ns c.args.j 0) (shelf.names ∙ sym c.deref.ensures) ∙ sym c.cell.ensures.name)

pub invariant_of-self : goal.invariant_of-self
invariant_of-self g c =
    let shelf = c.self.invariant in
    record {
      size = length-set c.self.inside.sights c.args.j c.put.new.self ∙ shelf.size;
      names = map-set_same (λ s. s.cell) c.self.inside.sights c.args.j c.put.new.self c.index-self-j.result (put_cell c.put.result _ _ _ _ c.put.ensures) ∙ shelf.names;
    }

pub returns-clause-cells : goal.returns-clause-cells
returns-clause-cells g c =
    map-set_same (λ s. s.cell) c.self.inside.sights c.args.j c.put.new.self c.index-self-j.result (put_cell c.put.result _ _ _ _ c.put.ensures) ∙ ap (λ s. names_of s) c.self.view_is

pub returns-clause-size : goal.returns-clause-size
returns-clause-size g c = ap (λ (s : List (SightOf g.row.T.Denot)). length s) (sym c.self.view_is) ∙ c.self.invariant.size
