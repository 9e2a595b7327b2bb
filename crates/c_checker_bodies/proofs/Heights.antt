-- Where a tree is not higher than what is left, its parts are not either.
use Rattle.std.proofs.Common.{ℕ, suc, ◌+◌, ◌≤◌, arith}
use Rattle.std.specs.Prelude.{max}
use Rattle.std.proofs.Math.Nat.{le-max_left, le-max_right}

pub block_low : (d s : ℕ) → d + suc s ≤ 1000 → suc d + s ≤ 1000
block_low d s low = omega arith

pub first_low : (d s t : ℕ) → d + max s t ≤ 1000 → d + s ≤ 1000
first_low d s t low = let m : s ≤ max s t = le-max_left s t in omega arith

pub rest_low : (d s t : ℕ) → d + max s t ≤ 1000 → d + t ≤ 1000
rest_low d s t low = let m : t ≤ max s t = le-max_right s t in omega arith

pub if_low : (d e s : ℕ) → d + suc (max e s) ≤ 1000 → d + s ≤ 1000
if_low d e s low = let m : s ≤ max e s = le-max_right e s in omega arith

pub do_low : (d s e : ℕ) → d + suc (max s e) ≤ 1000 → d + s ≤ 1000
do_low d s e low = let m : s ≤ max s e = le-max_left s e in omega arith

pub holds_low : (d e s t : ℕ) → d + suc (max e (max s t)) ≤ 1000 → d + s ≤ 1000
holds_low d e s t low =
    let m : max s t ≤ max e (max s t) = le-max_right e (max s t) in
    let n : s ≤ max s t = le-max_left s t in
    omega arith

pub other_low : (d e s t : ℕ) → d + suc (max e (max s t)) ≤ 1000 → d + t ≤ 1000
other_low d e s t low =
    let m : max s t ≤ max e (max s t) = le-max_right e (max s t) in
    let n : t ≤ max s t = le-max_right s t in
    omega arith

pub for_low : (d a b c s : ℕ) → d + suc (max a (max b (max c s))) ≤ 1000 → suc d + s ≤ 1000
for_low d a b c s low =
    let m : max b (max c s) ≤ max a (max b (max c s)) = le-max_right a (max b (max c s)) in
    let n : max c s ≤ max b (max c s) = le-max_right b (max c s) in
    let k : s ≤ max c s = le-max_right c s in
    omega arith
