use Rattle.std.proofs.Common.{◌≡◌, take}
use Rattle.lang_helpers.proofs.copying.copy_each.Given as goal

-- the first are copied
abbrev pub invariant-loop-item : goal.invariant-loop-item
invariant-loop-item g l = l.copied.items ≡ take l.item-index l.items
