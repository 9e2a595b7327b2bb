-- Why `ends_with_return` meets its contract.
use Rattle.std.proofs.Common.{sym, ap, ◌∙◌}
use Rattle.cminor.proofs.Bodies.{returns_there, last_returns}
use Rattle.cfarm_verify_reading.proofs.bodies.ends_with_return.Goals as goal

pub returns-in-Some : goal.returns-in-Some
returns-in-Some c = c.is_return.ensures ∙ ap returns_there c.in-Some.ensures.value ∙ sym (last_returns c.args.actions.now)

pub returns-in-None : goal.returns-in-None
returns-in-None c = ap returns_there c.in-None.ensures.value ∙ sym (last_returns c.args.actions.now)
