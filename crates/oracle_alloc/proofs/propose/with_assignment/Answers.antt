-- Why `with_assignment` may call `new`.
use Rattle.std.proofs.Common.{◌≡◌, ℕ, length, sym, subst, refl, ap, ◌∙◌, arith, All}
use Rattle.std.proofs.lemmas.List.Elements.{recursion_from_All, All-same}
use Rattle.locations.specs.Fits.{LocationFits, AreDistinct}
use Rattle.ltl.specs.Function.{BlockFits}
use Rattle.oracle_alloc.proofs.propose.with_assignment.Goals as goal

pub new-output-requires : goal.new-output-requires
new-output-requires c =
    let input = c.args.input.now in
    let fits = c.nodes.ensures.in_range in
    let slots = c.args.assignment.now.slots in
    let parameters = c.from_vec.result in
    let blocks = c.from_vec-2.result in
    let count : length parameters ≡ length input.parameters = ap length c.from_vec.ensures ∙ (c.in_ok-parameters.ensures.count ∙ ap length (c.as_slice.ensures ∙ c.parameters.ensures)) in
    let nodes : length blocks ≡ length input.nodes = ap length c.from_vec-2.ensures ∙ c.in_ok-blocks.ensures.count in
    let P = LocationFits slots in
    let Q = BlockFits slots (length input.nodes) in
    record {
      parameters = record {
        few = omega (arith, count, fits.parameters.few);
        each = recursion_from_All P parameters (All-same P parameters _ c.from_vec.ensures c.in_ok-parameters.ensures.fit);
        distinct = subst AreDistinct (c.deref.ensures.value ∙ sym c.from_vec.ensures) (c.if-not-are_distinct.ensures refl);
      };
      slots = c.args.assignment.now.few;
      entry = omega (arith, nodes, fits.entry, c.entry.ensures);
      nodes = omega (arith, nodes, fits.nodes);
      each = recursion_from_All (BlockFits slots (length blocks)) blocks (subst (λ (n : ℕ). All (BlockFits slots n) blocks) (sym nodes) (All-same Q blocks _ c.from_vec-2.ensures c.in_ok-blocks.ensures.fit));
    }
