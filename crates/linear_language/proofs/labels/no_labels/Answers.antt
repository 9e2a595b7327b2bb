-- Why `no_labels` meets its contract.
use Rattle.std.proofs.Common.{refl}
use Rattle.linear_language.proofs.Noted.{none_stand}
use Rattle.linear_language.proofs.labels.no_labels.Goals as goal

pub returns : goal.returns
returns c = none_stand 65536 _ refl (c.in_ok-vec.ensures.items_if_clones_equal (λ y same. same))
