-- The cause of a gap holds.
use Rattle.std.proofs.Common.{◌≡◌, ℕ, zero, suc, cond, Bool, true, false, [], ◌∷◌, Option, Some, None, nat_le, refl}
use Rattle.std.specs.Prelude.{slice_index_or}
use Rattle.std.specs.Option.{option_or}
use Rattle.ints.specs.declared.operators.Op.{Op}
use Rattle.c_program.specs.Trees.{TermTree}
use Rattle.c_program.specs.Trees as T
use Rattle.c_program.specs.Values.{Variables, computed, cell_of, value}
use Rattle.c_faults.specs.declared.cause.Cause.{Cause}
use Rattle.c_faults.specs.declared.cause.Cause.TheVariants.{Unset, Past, One, Two}
use Rattle.c_faults.specs.declared.gap.Gap.{Gap}
use Rattle.c_faults.specs.Places.{own, others, behind}
use Rattle.c_faults.specs.Gaps.{unless_there, earlier, by_word, cell_gap, one_gap, two_gap, gap}
use Rattle.c_faults.specs.Causes.{Holds, HoldsIn, CausesHold}

unless-holds : (v : Variables) (w : Option ℕ) (cause : Cause) (at : ℕ) → (w ≡ None → Holds v cause) → HoldsIn v (unless_there w cause at)
unless-holds v None cause at h = h refl
unless-holds v (Some w) cause at h = tt

or-holds : (v : Variables) (p q : Option Gap) → HoldsIn v p → HoldsIn v q → HoldsIn v (option_or p q)
or-holds v None q h k = k
or-holds v (Some g) q h k = h

earlier-holds : (v : Variables) (p q : Option Gap) → HoldsIn v p → HoldsIn v q → HoldsIn v (earlier p q)
earlier-holds v None q h k = k
earlier-holds v (Some p) None h k = h
earlier-holds v (Some p) (Some q) h k = at (nat_le p.place q.place)
  where
    at : (b : Bool) → HoldsIn v (cond b (Some p) (Some q))
    at true = h
    at false = k

word-holds : (v : Variables) (x : Option ℕ) (p q r : Option Gap) → HoldsIn v p → HoldsIn v q → HoldsIn v r → HoldsIn v (by_word x p q r)
word-holds v None p q r h k l = h
word-holds v (Some zero) p q r h k l = k
word-holds v (Some (suc x)) p q r h k l = l

cell-holds : (v : Variables) (at g : ℕ) (i : Option ℕ) → HoldsIn v (cell_gap at v.globals g i)
cell-holds v at g None = tt
cell-holds v at g (Some i) = unless-holds v (cell_of v.globals g i) (Past g i) at (λ e. e)

one-holds : (v : Variables) (at : ℕ) (o : Op) (x : Option ℕ) → HoldsIn v (one_gap at o x)
one-holds v at o None = tt
one-holds v at o (Some x) = unless-holds v (computed o (x ∷ [])) (One o x) at (λ e. e)

two-holds : (v : Variables) (at : ℕ) (o : Op) (x y : Option ℕ) → HoldsIn v (two_gap at o x y)
two-holds v at o None y = tt
two-holds v at o (Some x) None = tt
two-holds v at o (Some x) (Some y) = unless-holds v (computed o (x ∷ y ∷ [])) (Two o x y) at (λ e. e)

pub causes-hold : CausesHold
causes-hold ps v (T.Constant w) = tt
causes-hold ps v (T.Local n) = unless-holds v (slice_index_or v.locals n None) Unset (own ps) (λ e. (n, e))
causes-hold ps v (T.Cell g i) =
    or-holds v (gap (others ps) v i) (cell_gap (own ps) v.globals g (value v i)) (causes-hold (others ps) v i) (cell-holds v (own ps) g (value v i))
causes-hold ps v (T.Unary o a) =
    or-holds v (gap (others ps) v a) (one_gap (own ps) o (value v a)) (causes-hold (others ps) v a) (one-holds v (own ps) o (value v a))
causes-hold ps v (T.Binary o a b) =
    let first = gap (others ps) v a in
    let second = gap (behind a (others ps)) v b in
    or-holds v (earlier first second) (two_gap (own ps) o (value v a) (value v b))
    (earlier-holds v first second (causes-hold (others ps) v a) (causes-hold (behind a (others ps)) v b)) (two-holds v (own ps) o (value v a) (value v b))
causes-hold ps v (T.Both a b) =
    word-holds v (value v a) (gap (others ps) v a) None (gap (behind a (others ps)) v b) (causes-hold (others ps) v a) tt
    (causes-hold (behind a (others ps)) v b)
causes-hold ps v (T.Either a b) =
    word-holds v (value v a) (gap (others ps) v a) (gap (behind a (others ps)) v b) None (causes-hold (others ps) v a)
    (causes-hold (behind a (others ps)) v b) tt
causes-hold ps v (T.Conditional c a b) =
    let qs = behind c (others ps) in
    word-holds v (value v c) (gap (others ps) v c) (gap (behind a qs) v b) (gap qs v a) (causes-hold (others ps) v c)
    (causes-hold (behind a qs) v b) (causes-hold qs v a)
