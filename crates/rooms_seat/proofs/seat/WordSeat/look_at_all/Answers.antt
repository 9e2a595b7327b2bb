-- Why `look_at_all` meets its contract.
use Rattle.std.proofs.Common.{ℕ, ap, subst}
use Rattle.paxos_core_world.specs.Quorum.{Sizes}
use Rattle.rooms_meeting.specs.Met.{LookedAtFirst}
use Rattle.rooms_seat.proofs.seat.WordSeat.look_at_all.Goals as goal

pub returns-in-Some : goal.returns-in-Some
returns-in-Some c =
    let before = c.in-Some.ensures.from in
    subst (λ (n : ℕ). LookedAtFirst n c.args.self.now c.look_from.new.self) (ap (λ (q : Sizes). q.nodes) before.same)
    (c.look_from.ensures c.args.self.now before.looked)
