-- Why `play_all` meets its contract, and it may call `run_threads`.
use Rattle.cfarm_settle_nodes.proofs.Nodes.{all_fit, nodes_went}
use Rattle.cfarm_settle.proofs.playing.play_all.Goals as goal

pub returns-in-Some : goal.returns-in-Some
returns-in-Some g c =
    c.in-Some.ensures c.args.input.now
    (nodes_went (λ s. s.node.seat) (λ s. s.node.input.now) c.args.input.now 10000 c.in-Ok.all.items c.in-Ok-run_threads.all.items c.in-Ok.ensures c.in-Ok-run_threads.ensures.taken)

pub run_threads-requires-clause-fit : goal.run_threads-requires-clause-fit
run_threads-requires-clause-fit g c κs within = all_fit c.in-Ok.all.items
