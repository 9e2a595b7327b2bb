-- Why `forget_all` meets its clauses `forgot` and `count`, and its loop over `function` keeps the invariant.
use Rattle.std.proofs.Common.{◌∙◌, refl, arith}
use Rattle.std.proofs.lemmas.List.{length-map}
use Rattle.farm_nodes_restart_records.specs.Fours.{four_of, fours_of}
use Rattle.farm_nodes_restart_node.specs.Returned.{HaveForgotten}
use Rattle.farm_nodes_restart_seat.proofs.Places.{all_changed, none_changed, one_more}
use Rattle.farm_nodes_restart_node.proofs.returning.forget_all.Goals as goal

pub loop-function-init : goal.loop-function-init
loop-function-init g c = record { count = refl; forgot = none_changed HaveForgotten (fours_of c.args.seats.now.items) }

pub loop-function-preserved : goal.loop-function-preserved
loop-function-preserved g c = record {
  count = c.forget_at.ensures.count ∙ c.loop-function.invariant.count;
  forgot = one_more HaveForgotten c.loop-function.function _ _ _ c.loop-function.invariant.forgot c.forget_at.ensures.forgot;
}

pub returns-clause-forgot : goal.returns-clause-forgot
returns-clause-forgot g c =
    all_changed HaveForgotten c.loop-function.function _ _ (let size = length-map c.args.seats.now.items four_of in omega arith) c.loop-function.invariant.forgot

pub returns-clause-count : goal.returns-clause-count
returns-clause-count g c = c.loop-function.invariant.count
