-- What is known once a node was gone back through.
use Rattle.std.proofs.Common.{◌≡◌, ℕ, suc, ◌<◌, ◌≤◌, List, [], ◌∷◌, length, get_or, replicate, Option, Some, None, Bool, true, false, cond, refl, sym, ap, ◌∙◌, subst, arith, inl, inr}
use Rattle.std.specs.Prelude.{◌↔◌, All, Contains, slice_get, slice_set}
use Rattle.std.specs.List.{AllByRecursion}
use Rattle.std.proofs.lemmas.Bool.{cases_eq}
use Rattle.std.proofs.lemmas.List.{length-set, get_or-set_same, get_or-set_other, get_or-replicate, length-replicate}
use Rattle.std.proofs.lemmas.List.Elements.{recursion_from_All}
use Rattle.std.proofs.lemmas.Option.{slice_get_within, same_Some}
use Rattle.rtl_language.specs.declared.instruction.Instruction.{Instruction}
use Rattle.rtl_language.specs.Function as rtl
use Rattle.ltl.specs.Function as ltl
use Rattle.rtl_passes_marks.specs.declared.row.NodeRow.{NodeRow}
use Rattle.rtl_passes_marks.specs.Marks.{feeder, AreFeeders, IsMarked}
use Rattle.rtl_passes_marks.specs.Rows.{entries_at}
use Rattle.rtl_passes_marks.specs.Handing.{is_fed_by, spread_on}
use Rattle.rtl_passes_marks.proofs.Handings.{spread_at}
use Rattle.alloc_check_rules.specs.declared.equation.Equation.{Equation}
use Rattle.alloc_check_rules.specs.Pairs.{successors_of}
use Rattle.alloc_check_rules.specs.Rules.{EquationFits, equations_at, IsInOrder}
use Rattle.alloc_check_proof.specs.Sets.{SameSet}
use Rattle.alloc_check_proof.proofs.Fixed.{row_is}
use Rattle.alloc_check_proof.specs.Allocated.{is_none, is_marked, filled, HasForm}
use Rattle.alloc_check_proof.proofs.Marks.{fed_by}
use Rattle.alloc_check_proof.proofs.Right.{at_rows}
use Rattle.alloc_check_lists.specs.Ranks.{RiseFrom}
use Rattle.alloc_check_verdict.specs.Walk.{stands_at, AreTaken, IsSaid, IsKnownFrom}
use Rattle.alloc_check_lists.proofs.Ranks.{rise_ranks}

-- ---- marks

pub marked_is : (input : rtl.FunctionData) (n : ℕ) → IsMarked input.entry input.nodes n → is_marked input n ≡ true
marked_is input n marked = ap is_none marked

pub is_marked_from : (input : rtl.FunctionData) (n : ℕ) → is_marked input n ≡ true → IsMarked input.entry input.nodes n
is_marked_from input n is = at (feeder input.entry input.nodes n) is
  where
    at : (f : Option ℕ) → is_none f ≡ true → f ≡ None
    at None is = refl
    at (Some m) is = absurd (let impossible : false ≡ true = is in cc)

pub unmarked_is : (input : rtl.FunctionData) (n : ℕ) → ¬ IsMarked input.entry input.nodes n → is_marked input n ≡ false
unmarked_is input n other = at (feeder input.entry input.nodes n) other
  where
    at : (f : Option ℕ) → ¬ (f ≡ None) → is_none f ≡ false
    at None other = absurd (other refl)
    at (Some m) other = refl

fed_as : (input : rtl.FunctionData) (feeders : List (Option ℕ)) → AreFeeders input.entry input.nodes feeders → (k : ℕ) → k < length input.nodes → is_marked input k ≡ true → is_fed_by (slice_get feeders k) ≡ false
fed_as input feeders are k below marked =
    ap is_fed_by (are.each k below ∙ ap (λ f. Some f) (is_marked_from input k marked))

-- what stands at a node is said where it is marked, else carried
pub stands_marked : (input : rtl.FunctionData) (feeders : List (Option ℕ)) → AreFeeders input.entry input.nodes feeders → (said lists : List (List Equation)) (k : ℕ) → k < length input.nodes → is_marked input k ≡ true → stands_at feeders said lists k ≡ equations_at said k
stands_marked input feeders are said lists k below marked = ap (λ b. cond b (equations_at lists k) (equations_at said k)) (fed_as input feeders are k below marked)

pub stands_fed : (input : rtl.FunctionData) (feeders : List (Option ℕ)) → AreFeeders input.entry input.nodes feeders → (said lists : List (List Equation)) (k : ℕ) → k < length input.nodes → is_marked input k ≡ false → stands_at feeders said lists k ≡ equations_at lists k
stands_fed input feeders are said lists k below unmarked = ap (λ b. cond b (equations_at lists k) (equations_at said k)) (ap is_fed_by (are.each k below) ∙ at (feeder input.entry input.nodes k) unmarked)
  where
    at : (f : Option ℕ) → is_none f ≡ false → is_fed_by (Some f) ≡ true
    at None none = absurd (let impossible : true ≡ false = none in cc)
    at (Some m) none = refl

-- ---- one node more

module _ (input : rtl.FunctionData) (output : ltl.FunctionData) (rows : List (NodeRow Equation)) (feeders : List (Option ℕ)) (are : AreFeeders input.entry input.nodes feeders) (n : ℕ) (i : Instruction) (is_i : slice_get input.nodes n ≡ Some i) (old new : List (List Equation)) (known : IsKnownFrom input output rows (suc n) old) (taken : AreTaken feeders (successors_of i) old new) where
  abbrev told : List (List Equation)
  told = filled input output rows

  -- above this node, and not led to by it
  others_kept : (k : ℕ) → suc n ≤ k → k < length input.nodes → is_marked input k ≡ false → ((m : ℕ) → feeder input.entry input.nodes k ≡ Some m → m < n) → SameSet (equations_at new k) (equations_at told k)
  others_kept k above below unmarked waits =
      let kept : equations_at new k ≡ equations_at old k = taken.kept k (λ h. absurd (let fed = fed_by input.entry input.nodes n k i is_i h unmarked in omega (arith, waits n fed.feeds))) in
      let known' = known.others k above below unmarked (λ m is. omega (arith, waits m is)) in
      λ e. (λ among. (known' e).0 (subst (λ xs. Contains xs e) kept among), λ among. subst (λ xs. Contains xs e) (sym kept) ((known' e).1 among))

  pub known_marked : is_marked input n ≡ true → IsKnownFrom input output rows n new
  known_marked marked = record {
    count = taken.count ∙ known.count;
    others = λ k from below unmarked waits.
        elim (cases_eq k n) [
          | inl same ↦ absurd (let impossible : true ≡ false = sym marked ∙ ap (is_marked input) (sym same) ∙ unmarked in cc)
          | inr other ↦ others_kept k (omega arith) below unmarked waits
        ];
  }

  pub known_filled : is_marked input n ≡ false → (es : List Equation) → SameSet es (equations_at told n) → IsKnownFrom input output rows n (slice_set new n es)
  known_filled unmarked es same = record {
    count = length-set new n es ∙ taken.count ∙ known.count;
    others = λ k from below unmarked' waits.
        elim (cases_eq k n) [
          | inl at_n ↦
              let here : n < length new = omega (arith, slice_get_within input.nodes n i is_i, taken.count, known.count) in
              subst (λ j. SameSet (equations_at (slice_set new n es) j) (equations_at told j)) (sym at_n)
              (subst (λ xs. SameSet xs (equations_at told n)) (sym (get_or-set_same new n es [] here)) same)
          | inr other ↦
              subst (λ xs. SameSet xs (equations_at told k)) (sym (get_or-set_other new n k es [] other)) (others_kept k (omega arith) below unmarked' waits)
        ];
  }

-- ---- all nodes

module _ (input : rtl.FunctionData) (output : ltl.FunctionData) (rows : List (NodeRow Equation)) (form : HasForm input output rows) where
  abbrev spread : List (List Equation)
  spread = spread_on rows (replicate (length input.nodes) [])

  spread_is : (k : ℕ) → k < length input.nodes → equations_at spread k ≡ entries_at rows k
  spread_is k below =
      let none : List Equation = [] in
      spread_at rows (replicate (length input.nodes) none) 0 k form.at_marked.rising (omega (arith, length-replicate (length input.nodes) none, below)) (get_or-replicate (length input.nodes) k none none below)

  -- the rows are said
  pub rows_said : IsSaid input output rows spread
  rows_said = record {
    marked = λ k below marked. spread_is k below ∙ sym (row_is (is_marked input) (entries_at rows) input.nodes output.blocks form.shape.nodes k below marked);
  }

  -- at first nothing else is known
  pub known_first : (n : ℕ) → length input.nodes ≤ n → IsKnownFrom input output rows n (replicate (length input.nodes) [])
  known_first n past = record {
    count = length-replicate {A = List Equation} (length input.nodes) [];
    others = λ k from below unmarked waits. absurd (omega (arith, from, below, past));
  }

  -- the rows rise
  pub rows_rise : output.slots ≤ 65536 → (n : ℕ) → RiseFrom 0 (entries_at rows n)
  rows_rise few n =
      at_rows (RiseFrom 0) (IsInOrder input.registers output.slots) input.entry input.nodes tt
      (λ es in_order. (rise_ranks input.registers output.slots few es (recursion_from_All (EquationFits input.registers output.slots) es in_order.each)).0 in_order.rising)
      rows form.at_marked.each n

  pub marked_rises : output.slots ≤ 65536 → (n : ℕ) (said : List (List Equation)) → n < length input.nodes → IsSaid input output rows said → IsMarked input.entry input.nodes n → RiseFrom 0 (equations_at said n)
  marked_rises few n said below are_said marked =
      subst (RiseFrom 0) (sym (are_said.marked n below (marked_is input n marked) ∙ row_is (is_marked input) (entries_at rows) input.nodes output.blocks form.shape.nodes n below (marked_is input n marked))) (rows_rise few n)
