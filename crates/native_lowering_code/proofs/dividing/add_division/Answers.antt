-- Why `add_division` shifts by less than 32.
use Rattle.std.proofs.Common.{sym}
use Rattle.native_lowering_definition.proofs.Powers.{power_is}
use Rattle.native_lowering_code.proofs.dividing.add_division.Goals as goal

pub add_divided_by_power-requires : goal.add_divided_by_power-requires
add_divided_by_power-requires c =
    let so = power_is c.args.known c.args.signed c.in-Some.k (sym c.in-Some.ensures) in
    so.below
