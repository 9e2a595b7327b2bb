-- Rounds behind rounds.
use Rattle.std.proofs.Common.{◌+◌, arith}
use Rattle.cfarm_build_faults.proofs.Turning.{all_stay}
use Rattle.cfarm_build_turns.proofs.Turning.{turns_through, wider}
use Rattle.cfarm_build_turns.proofs.running.run_rounds.Goals as goal

pub loop-left-init : goal.loop-left-init
loop-left-init g c =
    let disk = g.D.Disk in
    record {
      done = 0;
      left = omega arith;
      fit = c.requires.fit;
      came = all_stay disk (λ d honest c left. (g.met.D.Disk g.world.𝓛 g.world.𝓜 g.world.𝓡 ((λ s x. x), (λ x. x), (λ x. x), λ x. x)).only_now d c honest left)
          (λ n. n) 0 c.args.nodes.items c.requires.fit;
    }

pub loop-left-preserved : goal.loop-left-preserved
loop-left-preserved g c =
    let i = c.loop-left.invariant in
    record {
      done = i.done + c.min-round.result;
      left = omega (arith, i.left);
      fit = c.in-Ok.ensures.fit;
      came = turns_through g.D.Disk i.done c.min-round.result (i.done + c.min-round.result) _ _ _ (omega arith) i.came c.in-Ok.ensures.came;
    }

pub loop-left-preserved-then-are_done : goal.loop-left-preserved-then-are_done
loop-left-preserved-then-are_done g c =
    let i = c.loop-left.invariant in
    record {
      done = i.done + c.min-round.result;
      left = omega (arith, i.left);
      fit = c.in-Ok.ensures.fit;
      came = turns_through g.D.Disk i.done c.min-round.result (i.done + c.min-round.result) _ _ _ (omega arith) i.came c.in-Ok.ensures.came;
    }

pub returns-in-Err-clause-came : goal.returns-in-Err-clause-came
returns-in-Err-clause-came g c =
    let i = c.loop-left.invariant in
    turns_through g.D.Disk i.done c.min-round.result c.args.turns _ _ _ (let low = c.min-round.ensures in omega (arith, i.left, low)) i.came c.in-Err.ensures.came

pub returns-clause-came : goal.returns-clause-came
returns-clause-came g c =
    let i = c.loop-left.invariant in
    wider g.D.Disk i.done c.args.turns _ _ (omega (arith, i.left)) i.came
