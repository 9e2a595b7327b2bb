-- Why the loop of `highest` over `j` keeps its invariant.
use Rattle.std.proofs.Common.{◌≡◌, ℕ, ◌+◌, Option, sym, ap, ◌∙◌, subst}
use Rattle.paxos_core_node_steps.specs.declared.step.Step.{Step}
use Rattle.rooms_crash.specs.SeatAct.{SeatAct}
use Rattle.rooms_crash.specs.Would.{would}
use Rattle.farm_nodes_sweep_step.specs.Next.{asked_of, higher}
use Rattle.farm_nodes_sweep_step.proofs.Best.{best_more, IsBest}
use Rattle.farm_nodes_sweep_step.proofs.choosing.highest.Goals as goal

pub loop-j-preserved : goal.loop-j-preserved
loop-j-preserved c =
    let s = c.args.seat.now in
    let j = c.loop-j.j in
    let step : c.intent.result ≡ would s (asked_of c.args.answer j) = c.intent.ensures ∙ ap (λ (a : SeatAct). would s a) c.to.ensures in (
      c.loop-j.invariant.0,
      subst (λ (b : Option (ℕ × ℕ)). IsBest (asked_of c.args.answer) (j + 1) s b)
          (sym (c.higher-best.ensures ∙ ap (λ (o : Option Step). higher c.loop-j.best j o) step))
          (best_more (asked_of c.args.answer) j s c.loop-j.best c.loop-j.invariant.1),
    )
