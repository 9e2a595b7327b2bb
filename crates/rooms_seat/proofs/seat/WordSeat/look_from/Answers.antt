-- Why the loop of `look_from` over `j` keeps the invariant.
use Rattle.std.proofs.Common.{◌∙◌}
use Rattle.rooms_meeting.specs.Met.{LookedAtBoth}
use Rattle.rooms_meeting.proofs.Looked.{on_both, one_more}
use Rattle.rooms_seat.proofs.seat.WordSeat.look_from.Goals as goal

pub loop-j-preserved : goal.loop-j-preserved
loop-j-preserved c =
    let both : LookedAtBoth c.loop-j.j c.loop-j.self c.look_acceptor-acceptor.new.self =
    record {
      proposer = c.look_proposer-proposer.result;
      acceptor = c.look_acceptor-acceptor.result;
      between = c.look_proposer-proposer.new.self;
      first = c.look_proposer-proposer.ensures;
      second = c.look_acceptor-acceptor.ensures;
    } in
    record {
      on = λ start h. one_more c.loop-j.j start c.loop-j.self c.look_acceptor-acceptor.new.self (c.loop-j.invariant.on start h) both;
      same = (on_both c.loop-j.j c.loop-j.self c.look_acceptor-acceptor.new.self both).quorums ∙ c.loop-j.invariant.same;
    }
