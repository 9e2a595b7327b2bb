-- Why the loop of `go_round` over `place` keeps the invariant, and it may call `take_turn`.
use Rattle.std.proofs.Common.{◌<◌, sym, subst}
use Rattle.farm_nodes_threads_pace.proofs.AllGoing.{all_stay, one_fit, one_goes}
use Rattle.farm_nodes_threads_pace.proofs.rounds.go_round.Goals as goal

pub loop-place-init : goal.loop-place-init
loop-place-init g c = all_stay g.N.TakesTurns.turned g.N.TakesTurns.is_fit (λ p. p.node) (λ p. p.left) c.args.players.now

pub take_turn-step-requires : goal.take_turn-step-requires
take_turn-step-requires g c =
    let low = subst (λ n. c.loop-place.place < n) (sym c.loop-place.auto.players) c.loop-place-test.true in
    record {
      fit = one_fit g.N.TakesTurns.turned g.N.TakesTurns.is_fit (λ p. p.node) (λ p. p.left) c.args.players.now c.loop-place.players c.loop-place.place
          c.index-players-place.result c.requires.fit c.loop-place.invariant low;
    }

pub loop-place-preserved : goal.loop-place-preserved
loop-place-preserved g c =
    one_goes g.N.TakesTurns.turned g.N.TakesTurns.is_fit (λ p. p.node) (λ p. p.left) c.args.players.now c.loop-place.players c.loop-place.place
    c.index-players-place.result c.take_turn-step.new.player c.loop-place.invariant c.take_turn-step.ensures
