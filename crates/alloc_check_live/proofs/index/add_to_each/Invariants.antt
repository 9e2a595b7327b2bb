use Rattle.std.proofs.Common.{◌≡◌, drop}
use Rattle.alloc_check_live.specs.Tables.{added_to_each}
use Rattle.alloc_check_live.proofs.index.add_to_each.Given as goal

abbrev pub invariant-loop-place : goal.invariant-loop-place
invariant-loop-place l =
    added_to_each l.number (drop l.place-index l.places) l.lists.items ≡ added_to_each l.number l.places l.fn.lists.items
