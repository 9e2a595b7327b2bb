-- Why `note_promise` meets its clause `step`.
use Rattle.std.proofs.Common.{None, refl, rules}
use Rattle.paxos_core_world.specs.declared.msg.Msg.TheVariants.{Promise}
use Rattle.paxos_core_late_offers.proofs.TakesLemmas.{on_step}
use Rattle.paxos_core.proofs.node.Node.note_promise.Goals as goal

pub returns-then-eq-clause-step : goal.returns-then-eq-clause-step
returns-then-eq-clause-step c = on_step c.args.self.now _ (Promise c.args.from c.args.ballot c.args.report) None (search rules) refl
