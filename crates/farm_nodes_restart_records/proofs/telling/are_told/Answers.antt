-- Why `are_told` meets its contract, and its loop over `place` keeps the invariant.
use Rattle.std.proofs.Common.{IsTrue, true, length, refl, arith}
use Rattle.std.proofs.lemmas.Option.{slice_get_read}
use Rattle.farm_nodes_turn_passes.specs.Fours.{fours_of}
use Rattle.farm_nodes_turn_passes.specs.Texts.{pass_texts}
use Rattle.farm_nodes_restart_records.proofs.Texts.{told_to_all, told_to_more, told_to_none}
use Rattle.farm_nodes_restart_records.proofs.telling.are_told.Goals as goal

pub loop-place-init : goal.loop-place-init
loop-place-init g c = told_to_none pass_texts (fours_of c.args.seats.now.items) c.args.records.now (IsTrue true) refl

pub loop-place-preserved : goal.loop-place-preserved
loop-place-preserved g c =
    told_to_more pass_texts (fours_of c.args.seats.now.items) c.args.records.now c.loop-place.place c.index-records-place.result
    (IsTrue c.loop-place.all) (IsTrue c.in-Ok.here) (IsTrue c.both-all.result)
    (slice_get_read c.args.records.now (length c.args.records.now) c.loop-place.place c.index-records-place.result refl (omega arith) c.index-records-place.is)
    c.loop-place.invariant c.in-Ok.ensures c.both-all.ensures

pub returns : goal.returns
returns g c =
    told_to_all pass_texts (fours_of c.args.seats.now.items) c.args.records.now c.loop-place.place (IsTrue c.loop-place.all) (omega arith) c.loop-place.invariant
