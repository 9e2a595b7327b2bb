-- Why `claim_for` meets its contract.
use Rattle.std.proofs.Common.{◌≡◌, ap, ◌∙◌}
use Rattle.rooms_hall.specs.Claimed.{Claimed}
use Rattle.rooms_hall.specs.RoomId.{RoomId}
use Rattle.rooms_numbered.proofs.seat.claim_for.Goals as goal

pub returns : goal.returns
returns g c = c.claim.ensures ∙ ap {B = Claimed} (λ (r : RoomId). record { number = c.args.drawn; room = r }) c.requires.named
