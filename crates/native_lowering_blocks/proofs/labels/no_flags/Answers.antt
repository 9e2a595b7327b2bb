-- Why `no_flags` meets its contract.
use Rattle.std.proofs.Common.{refl}
use Rattle.native_lowering_blocks.proofs.Noted.{clear}
use Rattle.native_lowering_blocks.proofs.labels.no_flags.Goals as goal

pub returns : goal.returns
returns c = clear 65536 _ refl (c.in_ok-vec.ensures.items_if_clones_equal (λ y same. same))
