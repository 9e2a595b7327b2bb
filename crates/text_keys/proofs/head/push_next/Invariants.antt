use Rattle.std.proofs.Common.{◌≡◌, ◌++◌, take}
use Rattle.std.specs.List.{flat_map}
use Rattle.text_keys.specs.Names.{next_parameter}
use Rattle.text_keys.proofs.head.push_next.Given as goal

abbrev pub invariant-loop-item : goal.invariant-loop-item
invariant-loop-item g l = l.out.items ≡ l.fn.out.items ++ flat_map (next_parameter g.S.SpacedWord.word) (take l.item-index l.items)
