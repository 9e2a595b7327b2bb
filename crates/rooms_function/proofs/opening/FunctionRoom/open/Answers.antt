-- Why `open` meets its clause `told`, and it may call `seats_of_all`.
use Rattle.rooms_function.proofs.Passes.{fresh, told_undealt}
use Rattle.rooms_function.proofs.opening.FunctionRoom.open.Goals as goal

pub seats_of_all-requires : goal.seats_of_all-requires
seats_of_all-requires c =
    fresh c.args.number c.args.quorums c.args.kept.now c.args.offers c.in-Ok.dealers c.in-Ok.ensures.ok c.requires.size
    c.requires.first c.requires.second c.requires.third c.requires.fourth

pub returns-in-Err-clause-told : goal.returns-in-Err-clause-told
returns-in-Err-clause-told c =
    let e = c.in-Err.unopened in told_undealt c.args.quorums c.args.kept.now c.args.offers e.pass e.error c.in-Err.ensures.told
