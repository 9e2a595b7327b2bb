-- Which part of an expression has no value, and why (C99 6.5): of two the first in the text. A part whose own parts have no value is
-- not told beside them. Of `&&`, `||` and `?:` only what is evaluated counts.
use Rattle.std.specs.Prelude.{ℕ, zero, suc, List, [], ◌∷◌, Option, Some, None, slice_index_or, nat_le, if◌then◌else◌}
use Rattle.std.specs.Option.{option_or}
use Rattle.ints.specs.declared.operators.Op.{Op}
use Rattle.c_program.specs.Trees.{TermTree}
use Rattle.c_program.specs.Trees as T
use Rattle.c_program.specs.Values.{Variables, computed, cell_of, value}
use Rattle.c_faults.specs.declared.cause.Cause.{Cause}
use Rattle.c_faults.specs.declared.cause.Cause.TheVariants.{Unset, Past, One, Two}
use Rattle.c_faults.specs.declared.gap.Gap.{Gap}
use Rattle.c_faults.specs.Places.{own, others, behind}

-- a gap where there is no word
abbrev pub unless_there : Option ℕ → Cause → ℕ → Option Gap
unless_there (Some w) cause at = None
unless_there None cause at = Some (record { cause = cause; place = at })

-- of two gaps the one that stands first in the text
abbrev pub earlier : Option Gap → Option Gap → Option Gap
earlier None q = q
earlier (Some p) None = Some p
earlier (Some p) (Some q) = if nat_le p.place q.place then Some p else Some q

-- by a word: what is where there is none, where it is 0, and where it is not
abbrev pub by_word : {A : Type 0} → Option ℕ → (none zeroed more : A) → A
by_word None none zeroed more = none
by_word (Some zero) none zeroed more = zeroed
by_word (Some (suc w)) none zeroed more = more

-- a cell that is not there, where the index has a word
abbrev pub cell_gap : ℕ → List (List ℕ) → ℕ → Option ℕ → Option Gap
cell_gap at globals g None = None
cell_gap at globals g (Some i) = unless_there (cell_of globals g i) (Past g i) at

-- an operator that has no value for its words, where they are there
abbrev pub one_gap : ℕ → Op → Option ℕ → Option Gap
one_gap at o None = None
one_gap at o (Some x) = unless_there (computed o (x ∷ [])) (One o x) at

abbrev pub two_gap : ℕ → Op → Option ℕ → Option ℕ → Option Gap
two_gap at o None y = None
two_gap at o (Some x) None = None
two_gap at o (Some x) (Some y) = unless_there (computed o (x ∷ y ∷ [])) (Two o x y) at

-- the gap of a term, whose places these are
abbrev pub gap : List ℕ → Variables → TermTree → Option Gap
gap ps v (T.Constant w) = None
gap ps v (T.Local n) = unless_there (slice_index_or v.locals n None) Unset (own ps)
gap ps v (T.Cell g i) = option_or (gap (others ps) v i) (cell_gap (own ps) v.globals g (value v i))
gap ps v (T.Unary o a) = option_or (gap (others ps) v a) (one_gap (own ps) o (value v a))
gap ps v (T.Binary o a b) =
    option_or (earlier (gap (others ps) v a) (gap (behind a (others ps)) v b)) (two_gap (own ps) o (value v a) (value v b))
gap ps v (T.Both a b) = by_word (value v a) (gap (others ps) v a) None (gap (behind a (others ps)) v b)
gap ps v (T.Either a b) = by_word (value v a) (gap (others ps) v a) (gap (behind a (others ps)) v b) None
gap ps v (T.Conditional c a b) =
    by_word (value v c) (gap (others ps) v c) (gap (behind a (behind c (others ps))) v b) (gap (behind c (others ps)) v a)

-- the first gap of some terms
abbrev pub first_gap : List ℕ → Variables → List TermTree → Option Gap
first_gap ps v [] = None
first_gap ps v (e ∷ es) = option_or (gap ps v e) (first_gap (behind e ps) v es)
