-- Why `translate_function` may call `new`.
use Rattle.std.proofs.Common.{◌≡◌, ◌+◌, sym, ap, subst, ◌∙◌}
use Rattle.rtl_language.specs.Function.{IsFunction}
use Rattle.rtlgen_definition.specs.Gen.{gen_function, numbers_from, statement_needs}
use Rattle.rtlgen.proofs.Made.{made_nodes, made_entry, made_few}
use Rattle.rtlgen.proofs.functions.translate_function.Goals as goal

pub new-requires : goal.new-requires
new-requires c =
    let f = c.args.function.now in
    let made = c.in_ok-entry.ensures in
    let none = c.new-graph.ensures.nodes in
    let space = c.if-graph.false in
    let fits : IsFunction (gen_function f) = c.generated_fits.ensures f c.body.ensures.in_range (made_few made none space) in
    let same : record { parameters = c.from_vec.result; registers = c.variables.result + c.statement_needs.result; entry = c.in_ok-entry.entry; nodes = c.from_vec-2.result } ≡ gen_function f =
    λ k. record {
      parameters = (c.from_vec.ensures ∙ c.in_ok-parameters.ensures ∙ ap (numbers_from 0) c.parameters.ensures) k;
      registers = c.variables.ensures k + (c.statement_needs.ensures ∙ ap statement_needs c.body.ensures.tree) k;
      entry = made_entry made none space k;
      nodes = (c.from_vec-2.ensures ∙ made_nodes made none space) k;
    } in
    subst IsFunction (sym same) fits
