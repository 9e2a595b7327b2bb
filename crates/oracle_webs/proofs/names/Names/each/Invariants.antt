use Rattle.std.proofs.Common.{◌≡◌, length, All}
use Rattle.rtl_acts.specs.Fits.{RegisterFits}
use Rattle.oracle_webs.proofs.names.Names.each.Given as goal

abbrev pub invariant-loop-register : goal.invariant-loop-register
invariant-loop-register l = record {
  count : length l.made.items ≡ l.register-index;
  fit : All (RegisterFits 65536) l.made.items;
}
