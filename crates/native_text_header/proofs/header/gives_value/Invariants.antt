use Rattle.std.proofs.Common.{◌≡◌, false, take}
use Rattle.std.specs.List.{list_any}
use Rattle.native_text_header.specs.Header.{gives}
use Rattle.native_text_header.proofs.header.gives_value.Given as goal

abbrev pub invariant-loop-instruction : goal.invariant-loop-instruction
invariant-loop-instruction l = list_any gives (take l.instruction-index l.code) ≡ false
