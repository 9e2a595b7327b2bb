use Rattle.std.proofs.Common.{◌≡◌, ◌++◌, take}
use Rattle.text_keys.specs.Lines.{spaced_each}
use Rattle.text_keys.proofs.writing.push_each_spaced.Given as goal

abbrev pub invariant-loop-item : goal.invariant-loop-item
invariant-loop-item g l = l.out.items ≡ l.fn.out.items ++ spaced_each g.S.SpacedWord.word (take l.item-index l.items)
