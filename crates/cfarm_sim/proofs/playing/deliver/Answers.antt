-- Why `deliver` meets its clause `some`.
use Rattle.std.proofs.Common.{◌-◌, sym, ap, ◌∙◌, arith, rules}
use Rattle.std.specs.Option.{option_map}
use Rattle.paxos_core.specs.Call.{On}
use Rattle.cfarm_sim_lines.specs.declared.command.Command.TheVariants.{Deliver}
use Rattle.cfarm_sim.proofs.Moves.{done, numbered_is}
use Rattle.cfarm_sim.proofs.playing.deliver.Goals as goal

pub returns-in_ok-deliver-in-Some-clause-some : goal.returns-in_ok-deliver-in-Some-clause-some
returns-in_ok-deliver-in-Some-clause-some c =
    let room = c.args.room.now in
    let some = c.if-number-eq0.false in
    done room c.deliver.new.self (Deliver c.args.node c.args.number) c.args.node (On c.in-Some.message) c.in_ok-deliver-in-Some.field-0 (search rules) c.count.ensures.nodes
    (ap (option_map (λ m. record { node = c.args.node; call = On m })) (numbered_is room.sent c.args.number (c.args.number - 1) (omega arith) ∙ sym c.message.ensures ∙ c.in-Some.is))
    c.in_ok-deliver-in-Some.ensures.state c.in_ok-deliver-in-Some.ensures.told
