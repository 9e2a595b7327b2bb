-- Why `take_turns` may call `go_round`.
use Rattle.farm_nodes_threads_pace.proofs.AllGoing.{all_fit, all_go, all_stay}
use Rattle.farm_nodes_threads_pace.proofs.rounds.take_turns.Goals as goal

pub loop-init : goal.loop-init
loop-init g c = all_stay g.N.TakesTurns.turned g.N.TakesTurns.is_fit (λ p. p.node) (λ p. p.left) c.args.players.now

pub go_round-runs-requires : goal.go_round-runs-requires
go_round-runs-requires g c =
    record { fit = all_fit g.N.TakesTurns.turned g.N.TakesTurns.is_fit (λ p. p.node) (λ p. p.left) c.args.players.now c.loop.players c.requires.fit c.loop.invariant }

pub loop-preserved : goal.loop-preserved
loop-preserved g c =
    all_go g.N.TakesTurns.turned g.N.TakesTurns.is_fit (λ p. p.node) (λ p. p.left) c.args.players.now c.loop.players c.go_round-runs.new.players
    c.loop.invariant c.go_round-runs.ensures
