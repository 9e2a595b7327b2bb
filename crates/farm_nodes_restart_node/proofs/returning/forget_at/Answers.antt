-- Why `forget_at` meets its clause `forgot`.
use Rattle.std.proofs.Common.{length, refl}
use Rattle.std.proofs.lemmas.Option.{slice_get_read}
use Rattle.farm_nodes_restart_records.specs.Fours.{four_of}
use Rattle.farm_nodes_restart_node.specs.Returned.{HaveForgotten}
use Rattle.farm_nodes_restart_seat.proofs.Places.{changed_at}
use Rattle.farm_nodes_restart_node.proofs.returning.forget_at.Goals as goal

pub returns-clause-forgot : goal.returns-clause-forgot
returns-clause-forgot g c =
    changed_at four_of HaveForgotten c.args.function c.args.seats.now.items _ c.in-Some.four.now c.forget_in.new.numbered
    (slice_get_read c.args.seats.now.items (length c.args.seats.now.items) c.args.function c.in-Some.four.now refl c.requires c.in-Some.ensures.value)
    refl c.forget_in.ensures
