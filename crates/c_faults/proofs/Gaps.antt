-- An expression has a gap exactly where it has no value.
use Rattle.std.proofs.Common.{◌≡◌, ℕ, zero, suc, cond, Bool, true, false, not, List, [], ◌∷◌, Option, Some, None, is_some, nat_le, refl, sym, true≢false}
use Rattle.std.specs.Prelude.{slice_index_or, option_and_then}
use Rattle.std.specs.Option.{option_map, option_or}
use Rattle.ints.specs.declared.operators.Op.{Op}
use Rattle.c_program.specs.Trees.{TermTree}
use Rattle.c_program.specs.Trees as T
use Rattle.c_program.specs.Values.{Variables, computed, cell_of, on_one, on_two, truth, both, either, chosen, value}
use Rattle.c_program.specs.State.{State, before, words, variables}
use Rattle.c_faults.specs.declared.cause.Cause.{Cause}
use Rattle.c_faults.specs.declared.gap.Gap.{Gap}
use Rattle.c_faults.specs.Places.{own, others, behind}
use Rattle.c_faults.specs.Gaps.{unless_there, earlier, by_word, cell_gap, one_gap, two_gap, gap, first_gap}

-- there is the one exactly where there is not the other
abbrev pub Tells : {A B : Type 0} → Option A → Option B → Type 0
Tells found word = is_some found ≡ not (is_some word)

-- neither there, or both: not so
pub not_none : {P : Type 0} → false ≡ true → P
not_none e = absurd (true≢false (sym e))

pub not_both : {P : Type 0} → true ≡ false → P
not_both e = absurd (true≢false e)

pub unless-tells : (w : Option ℕ) (cause : Cause) (at : ℕ) → Tells (unless_there w cause at) w
unless-tells None cause at = refl
unless-tells (Some w) cause at = refl

earlier-some : (p q : Gap) (r : Option Gap) → is_some (option_or (earlier (Some p) (Some q)) r) ≡ true
earlier-some p q r = at (nat_le p.place q.place)
  where
    at : (b : Bool) → is_some (option_or (cond b (Some p) (Some q)) r) ≡ true
    at true = refl
    at false = refl

pub cell-tells : (found : Option Gap) (at : ℕ) (globals : List (List ℕ)) (g : ℕ) (i : Option ℕ) → Tells found i →
    Tells (option_or found (cell_gap at globals g i)) (option_and_then (cell_of globals g) i)
cell-tells None at globals g None e = not_none e
cell-tells None at globals g (Some i) e = unless-tells (cell_of globals g i) _ at
cell-tells (Some p) at globals g None e = refl
cell-tells (Some p) at globals g (Some i) e = not_both e

one-tells : (found : Option Gap) (at : ℕ) (o : Op) (x : Option ℕ) → Tells found x → Tells (option_or found (one_gap at o x)) (on_one o x)
one-tells None at o None e = not_none e
one-tells None at o (Some x) e = unless-tells (computed o (x ∷ [])) _ at
one-tells (Some p) at o None e = refl
one-tells (Some p) at o (Some x) e = not_both e

two-tells : (p q : Option Gap) (at : ℕ) (o : Op) (x y : Option ℕ) → Tells p x → Tells q y →
    Tells (option_or (earlier p q) (two_gap at o x y)) (on_two o x y)
two-tells None q at o None y e f = not_none e
two-tells None None at o (Some x) None e f = not_none f
two-tells None None at o (Some x) (Some y) e f = unless-tells (computed o (x ∷ y ∷ [])) _ at
two-tells None (Some q) at o (Some x) None e f = refl
two-tells None (Some q) at o (Some x) (Some y) e f = not_both f
two-tells (Some p) None at o None y e f = refl
two-tells (Some p) (Some q) at o None y e f = earlier-some p q (two_gap at o None y)
two-tells (Some p) q at o (Some x) y e f = not_both e

truth-tells : (q : Option Gap) (y : Option ℕ) → Tells q y → Tells q (option_map truth y)
truth-tells q None e = e
truth-tells q (Some y) e = e

both-tells : (p q : Option Gap) (x y : Option ℕ) → Tells p x → Tells q y → Tells (by_word x p None q) (both x y)
both-tells p q None y e f = e
both-tells p q (Some zero) y e f = refl
both-tells p q (Some (suc x)) y e f = truth-tells q y f

either-tells : (p q : Option Gap) (x y : Option ℕ) → Tells p x → Tells q y → Tells (by_word x p q None) (either x y)
either-tells p q None y e f = e
either-tells p q (Some zero) y e f = truth-tells q y f
either-tells p q (Some (suc x)) y e f = refl

chosen-tells : (p q r : Option Gap) (x y z : Option ℕ) → Tells p x → Tells q y → Tells r z → Tells (by_word x p r q) (chosen x y z)
chosen-tells p q r None y z e f g = e
chosen-tells p q r (Some zero) y z e f g = g
chosen-tells p q r (Some (suc x)) y z e f g = f

pub gap-tells : (ps : List ℕ) (v : Variables) (e : TermTree) → Tells (gap ps v e) (value v e)
gap-tells ps v (T.Constant w) = refl
gap-tells ps v (T.Local n) = unless-tells (slice_index_or v.locals n None) _ (own ps)
gap-tells ps v (T.Cell g i) = cell-tells (gap (others ps) v i) (own ps) v.globals g (value v i) (gap-tells (others ps) v i)
gap-tells ps v (T.Unary o a) = one-tells (gap (others ps) v a) (own ps) o (value v a) (gap-tells (others ps) v a)
gap-tells ps v (T.Binary o a b) =
    two-tells (gap (others ps) v a) (gap (behind a (others ps)) v b) (own ps) o (value v a) (value v b)
    (gap-tells (others ps) v a) (gap-tells (behind a (others ps)) v b)
gap-tells ps v (T.Both a b) =
    both-tells (gap (others ps) v a) (gap (behind a (others ps)) v b) (value v a) (value v b)
    (gap-tells (others ps) v a) (gap-tells (behind a (others ps)) v b)
gap-tells ps v (T.Either a b) =
    either-tells (gap (others ps) v a) (gap (behind a (others ps)) v b) (value v a) (value v b)
    (gap-tells (others ps) v a) (gap-tells (behind a (others ps)) v b)
gap-tells ps v (T.Conditional c a b) =
    let qs = behind c (others ps) in
    chosen-tells (gap (others ps) v c) (gap qs v a) (gap (behind a qs) v b) (value v c) (value v a) (value v b)
    (gap-tells (others ps) v c) (gap-tells qs v a) (gap-tells (behind a qs) v b)

before-tells : (p q : Option Gap) (x : Option ℕ) (ws : Option (List ℕ)) → Tells p x → Tells q ws → Tells (option_or p q) (before x ws)
before-tells None q None ws e f = not_none e
before-tells None q (Some x) None e f = f
before-tells None q (Some x) (Some ws) e f = f
before-tells (Some p) q None ws e f = refl
before-tells (Some p) q (Some x) ws e f = not_both e

pub first-tells : (ps : List ℕ) (s : State) (es : List TermTree) → Tells (first_gap ps (variables s) es) (words es s)
first-tells ps s [] = refl
first-tells ps s (e ∷ es) =
    before-tells (gap ps (variables s) e) (first_gap (behind e ps) (variables s) es) (value (variables s) e) (words es s)
    (gap-tells ps (variables s) e) (first-tells (behind e ps) s es)
