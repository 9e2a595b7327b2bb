-- Why `accept` meets its clauses `answer` and `acted`.
use Rattle.std.proofs.Common.{ap, option_map}
use Rattle.paxos_core_world.specs.declared.vote.Vote.{Vote}
use Rattle.paxos_core_node_steps.specs.declared.step.Step.TheVariants as step
use Rattle.rooms_seat.proofs.Told.{acted_accept}
use Rattle.rooms.proofs.seat.Seat.accept.Goals as goal

pub returns-clause-answer : goal.returns-clause-answer
returns-clause-answer g c = rw (← c.self.view_is) (ap (λ o. option_map (λ (x : Vote). step.Accept x.ballot x.value) o) c.accept.ensures.answer)

pub returns-clause-acted : goal.returns-clause-acted
returns-clause-acted g c =
    rw (← c.self.view_is) (acted_accept c.args.j c.self.inside.words c.accept.new.self c.accept.result c.accept.ensures.answer c.accept.ensures.some c.accept.ensures.none)
