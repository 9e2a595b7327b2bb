use Rattle.std.proofs.Common.{◌≡◌, ◌++◌, take}
use Rattle.text_keys.specs.Numbered.{numbered_text}
use Rattle.text_keys.proofs.numbered.push_numbered.Given as goal

abbrev pub invariant-loop-number : goal.invariant-loop-number
invariant-loop-number g l = l.out.items ≡ l.fn.out.items ++ numbered_text g.W.WriteNumbered.text 0 (take l.number l.items)
