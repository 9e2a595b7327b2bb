-- What is left on a pile: its items, the top first.
use Rattle.std.specs.Prelude.{◌≡◌, List, [], reverse}
use Rattle.c_faults_step.specs.declared.item.Item.{Item}
use Rattle.c_faults_step.specs.declared.pile.Pile.{Pile}

unfoldable pub pending : Pile → List Item
pending p = reverse p.items.items

-- nothing was left, and nothing is
abbrev pub IsEmptied : Pile → Pile → Type 0
IsEmptied old new = (pending old ≡ []) × (pending new ≡ [])
