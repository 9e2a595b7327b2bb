-- The walk over the instructions tells what feeds each node.
use Rattle.std.proofs.Common.{◌≡◌, ℕ, zero, suc, ◌+◌, ◌<◌, List, [], ◌∷◌, ◌++◌, length, get_or, replicate, Option, Some, None, Bool, true, false, cond, eqb, refl, sym, ap, ◌∙◌, subst, arith, inl, inr}
use Rattle.std.specs.Prelude.{slice_get, slice_set}
use Rattle.std.proofs.lemmas.Bool.{eqb-true, eq-eqb}
use Rattle.std.proofs.lemmas.List.{get_or-set_same, get_or-set_other, length-set, length-replicate, get_or-replicate}
use Rattle.std.proofs.lemmas.Option.{slice_get_within, slice_get-get_or, get_or_from_slice_get, slice_get_cases}
use Rattle.rtl_passes.specs.Instruction.{Instruction}
use Rattle.rtl_passes_marks.specs.declared.marks.Came.{Came}
use Rattle.rtl_passes_marks.specs.declared.marks.Came.TheVariants.{Never, Once, Often}
use Rattle.rtl_passes_marks.specs.Edges.{edges_of, each_to, sources_from, sources}
use Rattle.rtl_passes_marks.specs.Marks.{only_lower, feeder, AreFeeders}
use Rattle.rtl_passes_marks.specs.Tables.{once_more, noted_at, noted, all_noted, walked, lower_of, feeder_by, feeders_from}

-- how edges come from these nodes, behind others
abbrev came_on : Came → List ℕ → Came
came_on came [] = came
came_on came (n ∷ ns) = came_on (once_more came n) ns

came_on_append : (came : Came) (ns ms : List ℕ) → came_on came (ns ++ ms) ≡ came_on (came_on came ns) ms
came_on_append came [] ms = refl
came_on_append came (n ∷ ns) ms = came_on_append (once_more came n) ns ms

stays_often : (ns : List ℕ) → came_on Often ns ≡ Often
stays_often [] = refl
stays_often (n ∷ ns) = stays_often ns

lower_is : (s : ℕ) (ns : List ℕ) → lower_of s (came_on Never ns) ≡ only_lower s ns
lower_is s [] = refl
lower_is s (n ∷ []) = refl
lower_is s (n ∷ (m ∷ ns)) = ap (lower_of s) (stays_often ns)

-- ---- one edge, and all of an instruction

noted_length_at : (o : Option Came) (n t : ℕ) (table : List Came) → length (noted_at o n t table) ≡ length table
noted_length_at None n t table = refl
noted_length_at (Some came) n t table = length-set table t (once_more came n)

noted_length : (n t : ℕ) (table : List Came) → length (noted n t table) ≡ length table
noted_length n t table = noted_length_at (slice_get table t) n t table

noted_same : (n t : ℕ) (table : List Came) → t < length table → get_or (noted n t table) t Never ≡ once_more (get_or table t Never) n
noted_same n t table below =
    rw (slice_get-get_or table t Never below) (get_or-set_same table t (once_more (get_or table t Never) n) Never below)

noted_other : (n t s : ℕ) (table : List Came) → ¬ (s ≡ t) → get_or (noted n t table) s Never ≡ get_or table s Never
noted_other n t s table other = at (slice_get table t)
  where
    at : (o : Option Came) → get_or (noted_at o n t table) s Never ≡ get_or table s Never
    at None = refl
    at (Some came) = get_or-set_other table t s (once_more came n) Never other

all_length : (n : ℕ) (ts : List ℕ) (table : List Came) → length (all_noted n ts table) ≡ length table
all_length n [] table = refl
all_length n (t ∷ ts) table = all_length n ts (noted n t table) ∙ noted_length n t table

all_at : (n : ℕ) (ts : List ℕ) (table : List Came) (s : ℕ) → s < length table → get_or (all_noted n ts table) s Never ≡ came_on (get_or table s Never) (each_to n ts s)
all_at n [] table s below = refl
all_at n (t ∷ ts) table s below = all_at n ts (noted n t table) s (omega (arith, noted_length n t table, below)) ∙ at (eqb t s) refl
  where
    at : (b : Bool) → eqb t s ≡ b → came_on (get_or (noted n t table) s Never) (each_to n ts s) ≡ came_on (get_or table s Never) (cond b (n ∷ each_to n ts s) (each_to n ts s))
    at true is =
        let same : t ≡ s = eqb-true t s is in
        let here : get_or (noted n t table) s Never ≡ once_more (get_or table s Never) n = subst (λ r. get_or (noted n t table) r Never ≡ once_more (get_or table r Never) n) same (noted_same n t table (omega (arith, same, below))) in
        ap (λ came. came_on came (each_to n ts s)) here
    at false is =
        let other : ¬ (s ≡ t) = λ e. absurd (let yes : eqb t s ≡ true = eq-eqb t s (sym e) in cc) in
        ap (λ came. came_on came (each_to n ts s)) (noted_other n t s table other)

-- ---- all instructions

walked_length : (n : ℕ) (is : List Instruction) (table : List Came) → length (walked n is table) ≡ length table
walked_length n [] table = refl
walked_length n (i ∷ is) table = walked_length (suc n) is (all_noted n (edges_of i) table) ∙ all_length n (edges_of i) table

walked_at : (n : ℕ) (is : List Instruction) (table : List Came) (s : ℕ) → s < length table → get_or (walked n is table) s Never ≡ came_on (get_or table s Never) (sources_from n is s)
walked_at n [] table s below = refl
walked_at n (i ∷ is) table s below =
    walked_at (suc n) is (all_noted n (edges_of i) table) s (omega (arith, all_length n (edges_of i) table, below))
    ∙ ap (λ came. came_on came (sources_from (suc n) is s)) (all_at n (edges_of i) table s below)
    ∙ sym (came_on_append (get_or table s Never) (each_to n (edges_of i) s) (sources_from (suc n) is s))

-- ---- read off

read_length : (entry k : ℕ) (table : List Came) → length (feeders_from entry k table) ≡ length table
read_length entry k [] = refl
read_length entry k (came ∷ table) = ap suc (read_length entry (suc k) table)

read_at : (entry k : ℕ) (table : List Came) (s : ℕ) → s < length table → slice_get (feeders_from entry k table) s ≡ Some (feeder_by entry (k + s) (get_or table s Never))
read_at entry k [] s below = absurd (omega (arith, below))
read_at entry k (came ∷ table) zero below = ap (λ n. Some (feeder_by entry n came)) (omega arith)
read_at entry k (came ∷ table) (suc s) below =
    read_at entry (suc k) table s (omega (arith, below))
    ∙ ap (λ n. Some (feeder_by entry n (get_or table s Never))) (omega arith)

-- all that feed, where nothing was noted before
pub told_feeders : (entry : ℕ) (nodes : List Instruction) → AreFeeders entry nodes (feeders_from entry 0 (walked 0 nodes (replicate (length nodes) Never)))
told_feeders entry nodes = record {
  count = read_length entry 0 _ ∙ counted;
  each = λ s below.
      read_at entry 0 (walked 0 nodes none) s (omega (arith, counted, below))
      ∙ ap (λ n. Some (feeder_by entry n (get_or (walked 0 nodes none) s Never))) (omega arith)
      ∙ ap (λ x. Some (cond (eqb s entry) None x)) (ap (lower_of s) (came s below) ∙ lower_is s (sources nodes s));
}
  where
    none : List Came
    none = replicate (length nodes) Never

    counted : length (walked 0 nodes none) ≡ length nodes
    counted = walked_length 0 nodes none ∙ length-replicate (length nodes) Never

    came : (s : ℕ) → s < length nodes → get_or (walked 0 nodes none) s Never ≡ came_on Never (sources nodes s)
    came s below =
        walked_at 0 nodes none s (omega (arith, length-replicate (length nodes) Never, below))
        ∙ ap (λ c. came_on c (sources nodes s)) (get_or-replicate (length nodes) s Never Never below)

-- as they were made
pub made_feeders : (entry : ℕ) (nodes : List Instruction) (table : List Came) (feeders : List (Option ℕ)) → table ≡ walked 0 nodes (replicate (length nodes) Never) → feeders ≡ feeders_from entry 0 table → AreFeeders entry nodes feeders
made_feeders entry nodes table feeders is made =
    subst (AreFeeders entry nodes) (sym (made ∙ ap (feeders_from entry 0) is)) (told_feeders entry nodes)
