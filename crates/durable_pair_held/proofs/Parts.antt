-- A part of some bytes, where there are none there, or as many at most.
use Rattle.std.proofs.Common.{◌≡◌, ◌≤◌, ℕ, List, [], length, take, drop, ap, sym, arith, ◌∙◌}
use Rattle.std.proofs.lemmas.List.{take_all, drop_all}

pub part_none : (bytes : List ℕ) (at n : ℕ) → length bytes ≤ at → [] ≡ take n (drop at bytes)
part_none bytes at n short = sym (ap (take n) (drop_all at bytes short) ∙ take_all n [] (omega arith))

pub part_all : (bytes : List ℕ) (at n : ℕ) → length (drop at bytes) ≤ n → drop at bytes ≡ take n (drop at bytes)
part_all bytes at n short = sym (take_all n (drop at bytes) short)
