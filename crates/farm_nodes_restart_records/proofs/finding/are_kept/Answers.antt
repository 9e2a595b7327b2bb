-- Why `are_kept` meets its contract, and its loop over `function` keeps the invariant.
use Rattle.std.proofs.Common.{IsTrue, true, refl, arith}
use Rattle.std.proofs.lemmas.List.{length-map}
use Rattle.farm_nodes_turn_passes.specs.Fours.{four_of, fours_of}
use Rattle.farm_nodes_restart_records.proofs.Keeping.{kept_seen, kept_to_all, kept_to_more, kept_to_none}
use Rattle.farm_nodes_restart_records.proofs.finding.are_kept.Goals as goal

pub loop-function-init : goal.loop-function-init
loop-function-init g c = kept_to_none c.args.parts.now (fours_of c.args.seats.now.items) (IsTrue true) refl

pub loop-function-preserved : goal.loop-function-preserved
loop-function-preserved g c =
    kept_to_more c.args.parts.now (fours_of c.args.seats.now.items) c.loop-function.function
    (IsTrue c.loop-function.all) (IsTrue c.are_kept_at-here.result) (IsTrue c.both-all.result)
    c.loop-function.invariant
    (kept_seen four_of c.args.parts.now c.args.seats.now.items c.loop-function.function c.index.result.now (IsTrue c.are_kept_at-here.result)
    c.index.ensures (omega (arith, c.args.seats.now.ok.0)) c.are_kept_at-here.ensures)
    c.both-all.ensures

pub returns : goal.returns
returns g c =
    kept_to_all c.args.parts.now (fours_of c.args.seats.now.items) c.loop-function.function (IsTrue c.loop-function.all)
    (let many = length-map c.args.seats.now.items four_of in omega arith) c.loop-function.invariant
