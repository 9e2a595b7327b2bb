-- Why `propose` meets its clauses `answer` and `acted`.
use Rattle.std.proofs.Common.{ℕ, ap, option_map}
use Rattle.paxos_core_node_steps.specs.declared.step.Step.TheVariants as step
use Rattle.rooms_seat.proofs.Told.{acted_propose}
use Rattle.rooms.proofs.seat.Seat.propose.Goals as goal

pub returns-clause-answer : goal.returns-clause-answer
returns-clause-answer g c = rw (← c.self.view_is) (ap (λ o. option_map (λ (p : ℕ × ℕ). step.Propose p.0 p.1) o) c.propose.ensures.answer)

pub returns-clause-acted : goal.returns-clause-acted
returns-clause-acted g c =
    rw (← c.self.view_is) (acted_propose c.self.inside.words c.propose.new.self c.propose.result c.propose.ensures.answer c.propose.ensures.some c.propose.ensures.none)
