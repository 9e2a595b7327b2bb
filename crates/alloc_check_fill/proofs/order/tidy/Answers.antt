-- Why `tidy` meets its contract.
use Rattle.std.proofs.Common.{rules}
use Rattle.std.proofs.lemmas.Fn.{dedup_same}
use Rattle.std.proofs.lemmas.List.Kept.{Contains-dedup, Contains-from_dedup}
use Rattle.std.proofs.lemmas.List.Sorted.{Contains-permutation, IsPermutation-sym}
use Rattle.alloc_check_fill.proofs.Sames.{same, same_equivalence, same_is}
use Rattle.alloc_check_fill.proofs.order.tidy.Goals as goal

pub returns : goal.returns
returns c =
    let before = c.args.equations.now.items in
    let sorted = c.sort_unstable_by_key.new.self.items in
    let kept = dedup_same _ same _ (λ x y b f' x' y' k. search rules) _ _ c.dedup_by.ensures.filtered in
    λ e. (
      λ among. rw kept (Contains-dedup same_equivalence same_is sorted e (Contains-permutation before sorted e c.sort_unstable_by_key.ensures.permutation among)),
      λ among. Contains-permutation sorted before e (IsPermutation-sym before sorted c.sort_unstable_by_key.ensures.permutation) (Contains-from_dedup same sorted e (rw kept at among)),
    )
