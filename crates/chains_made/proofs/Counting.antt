-- What is counted of the first functions' offers, and of one more's.
use Rattle.std.proofs.Common.{◌≡◌, ℕ, ◌+◌, List, [], ◌∷◌, ◌++◌, sym, subst, arith}
use Rattle.chains.specs.declared.offering.Offers.{Offers}
use Rattle.chains_made.specs.Counted.{Marks, one_if, marked, AreMarked, AllMarked, all_marked, Counts, IsCounted, AreCounted}

pub counts_on : (a b c m n : ℕ) → Counts a b m → Counts b c n → Counts a c (m + n)
counts_on a b c m n first second few =
    let middle : b ≡ a + m = first (omega (arith, few)) in
    let last : c ≡ b + n = second (omega (arith, few, middle)) in
    omega (arith, middle, last)

-- of one function's, offer by offer
pub counted_of : (a b c d e : ℕ) (marks : Marks) (offers : Offers) → AreMarked marks offers
    → Counts a b (one_if marks.constants) → Counts b c (one_if marks.expressions) → Counts c d (one_if marks.allocation) → Counts d e (one_if marks.order)
    → IsCounted a e offers
counted_of a b c d e marks offers are first second third fourth = record {
  marks = marks;
  are = are;
  counts = counts_on a b e (one_if marks.constants) (one_if marks.expressions + (one_if marks.allocation + one_if marks.order)) first
      (counts_on b c e (one_if marks.expressions) (one_if marks.allocation + one_if marks.order) second
      (counts_on c d e (one_if marks.allocation) (one_if marks.order) third fourth));
}

pub counted_none : (a : ℕ) → AreCounted a a []
counted_none a = record { marks = []; are = tt; counts = λ few. omega arith }

marked_next : (marks : List Marks) (offers : List Offers) (m : Marks) (o : Offers) → AllMarked marks offers → AreMarked m o → AllMarked (marks ++ m ∷ []) (offers ++ o ∷ [])
marked_next [] [] m o all is = (is, tt)
marked_next [] (p ∷ offers) m o all is = absurd all
marked_next (x ∷ marks) [] m o all is = absurd all
marked_next (x ∷ marks) (p ∷ offers) m o all is = (all.0, marked_next marks offers m o all.1 is)

all_marked_next : (marks : List Marks) (m : Marks) → all_marked (marks ++ m ∷ []) ≡ all_marked marks + marked m
all_marked_next [] m = omega arith
all_marked_next (x ∷ marks) m = let rest = all_marked_next marks m in omega (arith, rest)

pub counted_next : (a b c : ℕ) (offers : List Offers) (o : Offers) → AreCounted a b offers → IsCounted b c o → AreCounted a c (offers ++ o ∷ [])
counted_next a b c offers o before is = record {
  marks = before.marks ++ is.marks ∷ [];
  are = marked_next before.marks offers is.marks o before.are is.are;
  counts = subst (λ n. Counts a c n) (sym (all_marked_next before.marks is.marks)) (counts_on a b c (all_marked before.marks) (marked is.marks) before.counts is.counts);
}
