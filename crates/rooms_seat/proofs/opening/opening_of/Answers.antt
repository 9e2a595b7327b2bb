-- Why `opening_of` meets its clause `can`.
use Rattle.rooms_meeting.proofs.Opened.{can_open}
use Rattle.rooms_seat.proofs.opening.opening_of.Goals as goal

pub returns-clause-can : goal.returns-clause-can
returns-clause-can c = rw c.padded-opening.ensures (can_open c.args.quorums c.args.kept.now c.nodes-nodes.ensures.sizes c.requires.size c.requires.settled)
