use Rattle.std.proofs.Common.{◌≡◌, take}
use Rattle.std.specs.Prelude.{option_copied}
use Rattle.farm_nodes_open_seats.specs.Written.{last_offer_in}
use Rattle.cfarm_fsck_chosen.proofs.linking.offer_in.Given as goal

-- the offer among the records so far
abbrev pub invariant-loop-number : goal.invariant-loop-number
invariant-loop-number l = option_copied l.found ≡ last_offer_in (take l.number l.records) l.room
