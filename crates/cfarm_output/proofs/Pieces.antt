-- Bytes that are printed a piece at a time.
use Rattle.std.proofs.Common.{◌≡◌, ℕ, ◌+◌, ◌-◌, ◌≤◌, List, [], ◌++◌, Option, Some, None, take, drop, length, ap, subst, sym, ◌∙◌, refl, take-add, take_all, append-nil, arith}
use Rattle.std.specs.Io.KnownBytes.{Appends, Keeps}
use Rattle.std.proofs.KnownBytes.{Appends-kept, Appends-nil, Appends-trans}
use Rattle.std.proofs.lemmas.List.{length-drop, take-append-drop}
use Rattle.cfarm_output.specs.Begun.{IsBegun}

-- where the bytes stay, none of these was printed
pub none_more : (bytes : List ℕ) (before after : Option (List ℕ)) → Keeps before after → Appends before after (take 0 bytes)
none_more bytes before after kept = Appends-kept before before after [] (Appends-nil before) kept

-- where none of these was printed, the bytes stay
pub none_kept : (n : ℕ) (bytes : List ℕ) (before after : Option (List ℕ)) → n ≡ 0 → Appends before after (take n bytes) → Keeps before after
none_kept n bytes None after e p = tt
none_kept n bytes (Some x) None e p = absurd p
none_kept n bytes (Some x) (Some y) e p = p ∙ ap (λ k. x ++ take k bytes) e ∙ append-nil x

-- the others
all_left : (n : ℕ) (bytes : List ℕ) → take (length bytes - n) (drop n bytes) ≡ drop n bytes
all_left n bytes =
    let left : length (drop n bytes) ≡ length bytes - n = length-drop n bytes in
    take_all (length bytes - n) (drop n bytes) (omega (arith, left))

-- so many were printed, and then so many of the others
pub some_more : (n m : ℕ) (bytes : List ℕ) (before mid after : Option (List ℕ)) → Appends before mid (take n bytes)
    → Appends mid after (take m (take (length bytes - n) (drop n bytes))) → Appends before after (take (n + m) bytes)
some_more n m bytes before mid after first second =
    let others = subst (λ l. Appends mid after (take m l)) (all_left n bytes) second in
    subst (Appends before after) (sym (take-add n m bytes)) (Appends-trans before mid after (take n bytes) (take m (drop n bytes)) first others)

-- all were printed
pub all_printed : (n : ℕ) (bytes : List ℕ) (before after : Option (List ℕ)) → n ≡ length bytes → Appends before after (take n bytes) → Appends before after bytes
all_printed n bytes before after e p = subst (Appends before after) (take_all n bytes (omega (arith, e))) p

-- a beginning was printed
pub begun_at : (n : ℕ) (bytes : List ℕ) (before after : Option (List ℕ)) → Appends before after (take n bytes) → IsBegun bytes before after
begun_at n bytes before after p = (take n bytes, (drop n bytes, take-append-drop n bytes), p)

-- and then nothing
pub begun_kept_at : (n : ℕ) (bytes : List ℕ) (before mid after : Option (List ℕ)) → Appends before mid (take n bytes) → Keeps mid after → IsBegun bytes before after
begun_kept_at n bytes before mid after p kept = begun_at n bytes before after (Appends-kept before mid after (take n bytes) p kept)

-- so many, and then so many of the others, are no more than all
pub no_more : (n m : ℕ) (bytes : List ℕ) → n ≤ length bytes → m ≤ length (take (length bytes - n) (drop n bytes)) → n + m ≤ length bytes
no_more n m bytes some others =
    let left : length (drop n bytes) ≡ length bytes - n = length-drop n bytes in
    let same : length (take (length bytes - n) (drop n bytes)) ≡ length (drop n bytes) = ap length (all_left n bytes) in
    omega (arith, some, others, left, same)
