-- Where lists of all nodes are right, so are those that are told from rows that say the same at marked nodes.
use Rattle.std.proofs.Common.{◌≡◌, ℕ, zero, suc, ◌+◌, ◌<◌, ◌≤◌, List, [], ◌∷◌, length, get_or, Option, Some, None, Bool, true, false, cond, refl, sym, ap, ◌∙◌, subst, arith, inl, inr}
use Rattle.std.specs.Prelude.{All, Contains, slice_get}
use Rattle.std.proofs.lemmas.Bool.{cases_lt}
use Rattle.std.proofs.lemmas.List.{get_or_past}
use Rattle.std.proofs.lemmas.Option.{slice_get_within, slice_get-get_or}
use Rattle.rtl_language.specs.declared.instruction.Instruction.{Instruction}
use Rattle.rtl_language.specs.declared.instruction.Instruction.TheVariants.{Return}
use Rattle.rtl_language.specs.Function as rtl
use Rattle.ltl.specs.declared.block.Block.{Block}
use Rattle.ltl.specs.declared.block.Body.TheVariants as body
use Rattle.ltl.specs.Function as ltl
use Rattle.rtl_passes_marks.specs.declared.row.NodeRow.{NodeRow}
use Rattle.rtl_passes_marks.specs.Rows.{entries_at, AreRows}
use Rattle.alloc_check_rules.specs.declared.equation.Equation.{Equation}
use Rattle.alloc_check_rules.specs.Pairs.{change_of, successors_of}
use Rattle.alloc_check_rules.specs.Rules.{equations_at, IsInOrder, StandsFor, HoldsAtEntry, IsRightAs, IsRightAt}
use Rattle.alloc_check_fill.specs.Fill.{needed, behind}
use Rattle.alloc_check_fill.specs.Sets.{Within}
use Rattle.alloc_check_fill.specs.Right.{SameShape}
use Rattle.alloc_check_fill.proofs.Members.{none_of}
use Rattle.alloc_check_fill.proofs.Carried.{stands_within}
use Rattle.alloc_check_fill.proofs.Blocks.{needs_there, needs_suffice}
use Rattle.alloc_check_fill.proofs.Fixed.{length_fill, row_is, needed_is}
use Rattle.alloc_check_proof.specs.Allocated.{is_marked, filled, IsAllocated}
use Rattle.alloc_check_proof.specs.Laws.{SayTheSame}
use Rattle.alloc_check_proof.proofs.Marks.{fed_by, entry_marked, within}

module _ (input : rtl.FunctionData) (output : ltl.FunctionData) (lists : List (List Equation)) (rows : List (NodeRow Equation)) (fits : rtl.IsFunction input) (shape : SameShape input output) (right : (n : ℕ) → n < length input.nodes → IsRightAt input output lists n) (same : SayTheSame input lists rows) where
  abbrev count : ℕ
  count = length input.nodes

  abbrev told : List (List Equation)
  told = filled input output rows

  above : (n : ℕ) (i : Instruction) → slice_get input.nodes n ≡ Some i → (s : ℕ) → Contains (successors_of i) s → is_marked input s ≡ false → n < s
  above n i is_i s h unmarked = (fed_by input.entry input.nodes n s i is_i h unmarked).lower

  marked_is : (n : ℕ) → n < count → is_marked input n ≡ true → equations_at told n ≡ equations_at lists n
  marked_is n below marked =
      row_is (is_marked input) (entries_at rows) input.nodes output.blocks shape.nodes n below marked ∙ same.each n below marked

  unmarked_is : (n : ℕ) (i : Instruction) (b : Block) → slice_get input.nodes n ≡ Some i → slice_get output.blocks n ≡ Some b → is_marked input n ≡ false → equations_at told n ≡ needed i b (behind (equations_at told) i)
  unmarked_is n i b is_i is_b unmarked =
      needed_is (is_marked input) (entries_at rows) input.nodes output.blocks shape.nodes n i b is_i is_b unmarked (within input fits n i is_i) (above n i is_i)

  -- the lists of nodes from this one on, counted from the last, are within those that are right
  abbrev LessFrom : ℕ → Type 0
  LessFrom d = (n : ℕ) → count ≤ n + d → Within (equations_at told n) (equations_at lists n)

  less_marked : (n : ℕ) → n < count → is_marked input n ≡ true → Within (equations_at told n) (equations_at lists n)
  less_marked n below marked e among = subst (λ es. Contains es e) (marked_is n below marked) among

  -- where the instruction goes on
  less_behind : (d n : ℕ) (i : Instruction) → slice_get input.nodes n ≡ Some i → count ≤ n + suc d → LessFrom d → (s : ℕ) → Contains (successors_of i) s → Within (equations_at told s) (equations_at lists s)
  less_behind d n i is_i far less s h = at (is_marked input s) refl
    where
      at : (m : Bool) → is_marked input s ≡ m → Within (equations_at told s) (equations_at lists s)
      at true marked = less_marked s (within input fits n i is_i s h) marked
      at false unmarked = let up : n < s = above n i is_i s h unmarked in less s (omega (arith, up, far))

  less_one : (d n : ℕ) → count ≤ n + suc d → LessFrom d → n < count → (m : Bool) → is_marked input n ≡ m → Within (equations_at told n) (equations_at lists n)
  less_one d n far less below true marked = less_marked n below marked
  less_one d n far less below false unmarked =
      let nothing : Instruction = Return None in
      let none : Block = record { before = []; body = body.Return None } in
      let i = get_or input.nodes n nothing in
      let b = get_or output.blocks n none in
      let is_i : slice_get input.nodes n ≡ Some i = slice_get-get_or input.nodes n nothing below in
      let is_b : slice_get output.blocks n ≡ Some b = slice_get-get_or output.blocks n none (omega (arith, below, shape.nodes)) in
      let stands = stands_within lists told (equations_at lists n) (equations_at lists n) i b (change_of i b.body) (λ e h. h) (less_behind d n i is_i far less) (right n below i b is_i is_b).stands in
      λ e among. needs_there i b told (equations_at lists n) (change_of i b.body) stands e (subst (λ es. Contains es e) (unmarked_is n i b is_i is_b unmarked) among)

  less_from : (d : ℕ) → LessFrom d
  less_from zero n far =
      let past : length told ≤ n = omega (arith, far, length_fill (is_marked input) (entries_at rows) input.nodes output.blocks shape.nodes) in
      λ e among. absurd (none_of e (subst (λ es. Contains es e) (get_or_past told n [] past) among))
  less_from (suc d) n far = elim (cases_lt n count) [
    | inl below ↦ less_one d n far (less_from d) below (is_marked input n) refl
    | inr past ↦ less_from d n (omega (arith, past))
  ]

  less : (n : ℕ) → Within (equations_at told n) (equations_at lists n)
  less n = less_from count n (omega arith)

  right_as : (n : ℕ) → n < count → (i : Instruction) (b : Block) → slice_get input.nodes n ≡ Some i → slice_get output.blocks n ≡ Some b → IsRightAs input output lists n i b → (m : Bool) → is_marked input n ≡ m → IsRightAs input output told n i b
  right_as n below i b is_i is_b r true marked = record {
    entry = λ first. subst (All (HoldsAtEntry input.parameters output.parameters)) (sym (marked_is n below marked)) (r.entry first);
    stands = stands_within lists told (equations_at lists n) (equations_at told n) i b (change_of i b.body)
        (λ e h. subst (λ es. Contains es e) (sym (marked_is n below marked)) h) (λ s h. less s) r.stands;
  }
  right_as n below i b is_i is_b r false unmarked = record {
    entry = λ first. absurd (let impossible : true ≡ false = sym (entry_marked input) ∙ ap (is_marked input) (sym first) ∙ unmarked in cc);
    stands = subst (λ es. StandsFor told es i b (change_of i b.body)) (sym (unmarked_is n i b is_i is_b unmarked))
        (needs_suffice i b told (equations_at lists n) (change_of i b.body)
        (stands_within lists told (equations_at lists n) (equations_at lists n) i b (change_of i b.body) (λ e h. h) (λ s h. less s) r.stands));
  }

  pub kept : AreRows (IsInOrder input.registers output.slots) input.entry input.nodes rows → IsAllocated input output rows
  kept are_rows = record {
    shape = record { shape = shape; at_marked = are_rows };
    nodes = λ n below i b is_i is_b. right_as n below i b is_i is_b (right n below i b is_i is_b) (is_marked input n) refl;
  }
