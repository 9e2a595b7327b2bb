-- Why `of` meets its contract.
use Rattle.std.proofs.Common.{◌≡◌, ap, ◌∙◌, refl, subst, length, List, ℕ}
use Rattle.std.specs.Arc.{arc_value}
use Rattle.rooms_cells.specs.Seen.{names_of, unseen}
use Rattle.rooms_cells.proofs.Rows.{names_of-unseen, seven_unseen, unseen_at}
use Rattle.rooms_cells.proofs.shelf.Sights.of.Goals as goal

pub invariant_of-result : goal.invariant_of-result
invariant_of-result g c =
    record {
      size = refl;
      names =
          ap (λ s. names_of s)
          (seven_unseen (arc_value c.args.shelf) c.of.result c.of-2.result c.of-3.result c.of-4.result c.of-5.result c.of-6.result c.of-7.result
          (subst (λ (ns : List ℕ). length ns ≡ 7) c.deref.ensures c.cell.ensures.size)
          (unseen_at c.of.result _ 0 c.deref.result.now (arc_value c.args.shelf) c.of.ensures c.cell.ensures.name c.deref.ensures)
          (unseen_at c.of-2.result _ 1 c.deref-2.result.now (arc_value c.args.shelf) c.of-2.ensures c.cell-2.ensures.name c.deref-2.ensures)
          (unseen_at c.of-3.result _ 2 c.deref-3.result.now (arc_value c.args.shelf) c.of-3.ensures c.cell-3.ensures.name c.deref-3.ensures)
          (unseen_at c.of-4.result _ 3 c.deref-4.result.now (arc_value c.args.shelf) c.of-4.ensures c.cell-4.ensures.name c.deref-4.ensures)
          (unseen_at c.of-5.result _ 4 c.deref-5.result.now (arc_value c.args.shelf) c.of-5.ensures c.cell-5.ensures.name c.deref-5.ensures)
          (unseen_at c.of-6.result _ 5 c.deref-6.result.now (arc_value c.args.shelf) c.of-6.ensures c.cell-6.ensures.name c.deref-6.ensures)
          (unseen_at c.of-7.result _ 6 c.deref-7.result.now (arc_value c.args.shelf) c.of-7.ensures c.cell-7.ensures.name c.deref-7.ensures))
          ∙ names_of-unseen g.row.T.Denot (arc_value c.args.shelf);
    }

pub returns : goal.returns
returns g c =
    seven_unseen (arc_value c.args.shelf) c.of.result c.of-2.result c.of-3.result c.of-4.result c.of-5.result c.of-6.result c.of-7.result
    (subst (λ (ns : List ℕ). length ns ≡ 7) c.deref.ensures c.cell.ensures.size)
    (unseen_at c.of.result _ 0 c.deref.result.now (arc_value c.args.shelf) c.of.ensures c.cell.ensures.name c.deref.ensures)
    (unseen_at c.of-2.result _ 1 c.deref-2.result.now (arc_value c.args.shelf) c.of-2.ensures c.cell-2.ensures.name c.deref-2.ensures)
    (unseen_at c.of-3.result _ 2 c.deref-3.result.now (arc_value c.args.shelf) c.of-3.ensures c.cell-3.ensures.name c.deref-3.ensures)
    (unseen_at c.of-4.result _ 3 c.deref-4.result.now (arc_value c.args.shelf) c.of-4.ensures c.cell-4.ensures.name c.deref-4.ensures)
    (unseen_at c.of-5.result _ 4 c.deref-5.result.now (arc_value c.args.shelf) c.of-5.ensures c.cell-5.ensures.name c.deref-5.ensures)
    (unseen_at c.of-6.result _ 5 c.deref-6.result.now (arc_value c.args.shelf) c.of-6.ensures c.cell-6.ensures.name c.deref-6.ensures)
    (unseen_at c.of-7.result _ 6 c.deref-7.result.now (arc_value c.args.shelf) c.of-7.ensures c.cell-7.ensures.name c.deref-7.ensures)
