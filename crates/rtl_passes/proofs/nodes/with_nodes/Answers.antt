-- Why `with_nodes` may call `new`.
use Rattle.std.proofs.Common.{length, sym, subst, arith}
use Rattle.std.specs.List.{AllByRecursion}
use Rattle.std.proofs.lemmas.List.Elements.{recursion_from_All}
use Rattle.rtl_language.specs.Function.{InstructionFits, IsFunction}
use Rattle.rtl_passes.proofs.nodes.with_nodes.Goals as goal

pub new-requires : goal.new-requires
new-requires c =
    let input = c.args.input.now in
    let nodes = c.args.nodes.items in
    let fits : IsFunction input = c.nodes-nodes.ensures.in_range in
    let count = c.requires.count in
    rw (c.in_ok-parameters.ensures, c.parameters.ensures, c.registers.ensures, c.entry.ensures, c.from_vec.ensures) (record {
      parameters = fits.parameters;
      registers = fits.registers;
      entry = omega (arith, fits.entry, count);
      nodes = omega (arith, fits.nodes, count);
      each = subst (λ n. AllByRecursion (InstructionFits input.registers n) nodes) (sym count) (recursion_from_All (InstructionFits input.registers (length input.nodes)) nodes c.requires.fit);
    })
