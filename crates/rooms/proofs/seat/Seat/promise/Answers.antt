-- Why `promise` meets its clauses `answer` and `acted`.
use Rattle.std.proofs.Common.{ap, option_map}
use Rattle.paxos_core_node_steps.specs.declared.step.Step.TheVariants as step
use Rattle.rooms_seat.proofs.Told.{acted_promise}
use Rattle.rooms.proofs.seat.Seat.promise.Goals as goal

pub returns-clause-answer : goal.returns-clause-answer
returns-clause-answer g c = rw (← c.self.view_is) (ap (λ o. option_map step.Promise o) c.promise.ensures.answer)

pub returns-clause-acted : goal.returns-clause-acted
returns-clause-acted g c =
    rw (← c.self.view_is) (acted_promise c.args.j c.self.inside.words c.promise.new.self c.promise.result c.promise.ensures.answer c.promise.ensures.some c.promise.ensures.none)
