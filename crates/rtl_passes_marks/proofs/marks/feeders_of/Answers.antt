-- Why `feeders_of` meets its contract.
use Rattle.std.proofs.Common.{◌≡◌, length, replicate, ap, ◌∙◌}
use Rattle.std.proofs.lemmas.Result.{IfOk-weaker}
use Rattle.rtl_passes_marks.specs.declared.marks.Came.TheVariants.{Never}
use Rattle.rtl_passes_marks.specs.Marks.{AreFeeders}
use Rattle.rtl_passes_marks.specs.Tables.{walked, feeders_from}
use Rattle.rtl_passes_marks.proofs.Feeders.{made_feeders}
use Rattle.rtl_passes_marks.proofs.marks.feeders_of.Goals as goal

pub returns : goal.returns
returns c =
    let entry = c.args.input.now.entry in
    let nodes = c.args.input.now.nodes in
    let table : c.deref.result.now ≡ walked 0 nodes (replicate (length nodes) Never) = c.deref.ensures.value ∙ c.in_ok-table.ensures ∙ ap (λ ns. walked 0 ns (replicate (length ns) Never)) (c.as_slice-nodes.ensures ∙ c.nodes.ensures.nodes) in
    IfOk-weaker c.read_off.result (λ feeders. feeders.items ≡ feeders_from c.entry.result 0 c.deref.result.now) (λ feeders. AreFeeders entry nodes feeders.items)
    (λ feeders made. made_feeders entry nodes c.deref.result.now feeders.items table (made ∙ ap (λ e. feeders_from e 0 c.deref.result.now) c.entry.ensures))
    c.read_off.ensures
