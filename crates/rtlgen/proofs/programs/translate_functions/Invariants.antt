use Rattle.std.proofs.Common.{◌≡◌, take, map}
use Rattle.std.specs.Prelude.{All}
use Rattle.rtlgen_definition.specs.Gen.{gen_named}
use Rattle.rtlgen.specs.Refused.{HasFewNodes}
use Rattle.rtlgen.proofs.programs.translate_functions.Given as goal

abbrev pub invariant-loop-number : goal.invariant-loop-number
invariant-loop-number l = record {
  same : l.translated.items ≡ map gen_named (take l.number l.functions);
  few : All HasFewNodes (take l.number l.functions);
}
