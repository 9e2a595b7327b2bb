-- Why `look` meets its clause `cells`, and it may call `look`.
use Rattle.std.proofs.Common.{◌≡◌, sym, ap, ◌∙◌, subst, ◌<◌, ℕ, List, length, length-set, get_or}
use Rattle.rooms_cells.specs.Seen.{SightOf, IsOnShelf, names_of}
use Rattle.rooms_cells.proofs.Rows.{get_or-map, map-set_same}
use Rattle.rooms_cells.proofs.shelf.Sights.look.Goals as goal

pub look-requires : goal.look-requires
look-requires g c =
    let shelf = c.self.invariant in
    get_or-map (λ s. s.cell) c.self.inside.sights c.args.j c.index-self-j.result 0 (subst (λ (n : ℕ). c.args.j < n) (sym shelf.size) c.requires)
    ∙ (ap (λ (ns : List ℕ). get_or ns c.args.j 0) (shelf.names ∙ sym c.deref.ensures) ∙ sym c.cell.ensures.name)

pub invariant_of-self : goal.invariant_of-self
invariant_of-self g c =
    let shelf = c.self.invariant in
    record {
      size = length-set c.self.inside.sights c.args.j c.look.new.self ∙ shelf.size;
      names = map-set_same (λ s. s.cell) c.self.inside.sights c.args.j c.look.new.self c.index-self-j.result c.look.ensures.cell ∙ shelf.names;
    }

pub returns-clause-cells : goal.returns-clause-cells
returns-clause-cells g c =
    map-set_same (λ s. s.cell) c.self.inside.sights c.args.j c.look.new.self c.index-self-j.result c.look.ensures.cell ∙ ap (λ s. names_of s) c.self.view_is
