-- Why `numbered` meets its contract.
use Rattle.std.proofs.Common.{◌-◌, sym, ◌∙◌, arith}
use Rattle.cfarm_sim.proofs.Moves.{numbered_is}
use Rattle.cfarm_sim_svg.proofs.playing.numbered.Goals as goal

pub returns : goal.returns
returns c =
    let some = c.if-number-eq0.false in
    c.message.ensures ∙ sym (numbered_is c.args.room.now.sent c.args.number (c.args.number - 1) (omega arith))
