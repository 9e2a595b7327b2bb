-- A write over bytes that were filled up with zeros.
use Rattle.std.proofs.Common.{◌≡◌, ℕ, ◌+◌, ◌-◌, ◌<◌, ◌≤◌, List, [], ◌∷◌, ◌++◌, length, take, drop, replicate, suc, zero, refl, sym, ◌∙◌, ap, arith, length-append}
use Rattle.std.proofs.lemmas.List.{take-replicate, drop_all, length-replicate}
use Rattle.std.proofs.Math.Nat.{sub-zero, zero-sub, suc-sub-suc, lt_irrefl}
use Rattle.durable_model_writes.specs.Writes.{front, overwritten}

take-append : (xs ys : List ℕ) (n : ℕ) → take n (xs ++ ys) ≡ take n xs ++ take (n - length xs) ys
take-append [] ys zero = refl
take-append [] ys (suc n) = ap (λ k. take k ys) (sym (sub-zero (suc n)))
take-append (x ∷ xs) ys zero = sym (ap (λ k. take k ys) (zero-sub (length (x ∷ xs))))
take-append (x ∷ xs) ys (suc n) =
    ap (λ (l : List ℕ). x ∷ l) (take-append xs ys n)
    ∙ ap (λ k. x ∷ (take n xs ++ take k ys)) (sym (suc-sub-suc n (length xs)))

-- the front of bytes that were filled up is the front that a write makes
front_filled : (old : List ℕ) (at end : ℕ) → at ≤ end → take at (old ++ replicate (end - length old) 0) ≡ front old at
front_filled old at end within =
    take-append old (replicate (end - length old) 0) at
    ∙ ap (λ (l : List ℕ). take at old ++ l) (take-replicate (at - length old) (end - length old) 0 (omega (arith, within)))

pub overwritten_filled : (old filled new : List ℕ) (at end : ℕ) (bytes : List ℕ) → 0 < length bytes → end ≡ at + length bytes → length old ≤ end
    → filled ≡ old ++ replicate (end - length old) 0 → new ≡ take at filled ++ bytes ++ drop (at + length bytes) filled
    → new ≡ overwritten old at bytes
overwritten_filled old filled new at end [] some ends short fills puts = absurd (lt_irrefl 0 some)
overwritten_filled old filled new at end (byte ∷ bytes) some ends short fills puts =
    let all = byte ∷ bytes in
    let long : length filled ≤ at + length all =
    omega (arith, ap length fills, length-append old (replicate (end - length old) 0), length-replicate (end - length old) (let z : ℕ = 0 in z), short, ends) in
    let none : drop (at + length all) filled ≡ drop (at + length all) old =
    drop_all (at + length all) filled long ∙ sym (drop_all (at + length all) old (omega (arith, short, ends))) in
    puts
    ∙ ap (λ (l : List ℕ). l ++ all ++ drop (at + length all) filled) (ap (take at) fills ∙ front_filled old at end (omega (arith, ends)))
    ∙ ap (λ (l : List ℕ). front old at ++ all ++ l) none
