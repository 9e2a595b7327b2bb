-- What waits on a stack: its items, the top first.
use Rattle.std.specs.Prelude.{List, reverse}
use Rattle.c_meaning_machine.specs.declared.left.Left.{Left}
use Rattle.c_meaning_machine.specs.declared.stack.Stack.{Stack}

unfoldable pub waiting : Stack → List Left
waiting s = reverse s.items.items
