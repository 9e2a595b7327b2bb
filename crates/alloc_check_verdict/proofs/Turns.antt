-- Whether a node is right, told from what its block needs.
use Rattle.std.proofs.Common.{◌≡◌, ℕ, suc, ◌<◌, ◌≤◌, List, [], ◌∷◌, length, Option, Some, None, Bool, true, false, refl, sym, ap, ◌∙◌, subst, arith, inl, inr}
use Rattle.std.specs.Prelude.{◌↔◌, All, Contains, slice_get, IsTrue}
use Rattle.std.specs.List.{AllByRecursion}
use Rattle.std.proofs.lemmas.List.Elements.{All-contains, recursion_from_All}
use Rattle.std.proofs.lemmas.Option.{same_Some}
use Rattle.rtl_language.specs.declared.instruction.Instruction.{Instruction}
use Rattle.rtl_language.specs.Function as rtl
use Rattle.ltl.specs.declared.block.Block.{Block}
use Rattle.ltl.specs.Function as ltl
use Rattle.rtl_passes_marks.specs.declared.row.NodeRow.{NodeRow}
use Rattle.rtl_passes_marks.specs.Marks.{AreFeeders}
use Rattle.rtl_passes_marks.specs.Rows.{entries_at}
use Rattle.alloc_check_rules.specs.declared.equation.Equation.{Equation}
use Rattle.alloc_check_rules.specs.declared.change.Change.{Change}
use Rattle.alloc_check_rules.specs.Pairs.{change_of, successors_of}
use Rattle.alloc_check_rules.specs.Rules.{equations_at, StandsFor, HoldsAtEntry, IsRightAs, IsRightAt}
use Rattle.alloc_check_proof.specs.Fill.{needed, behind}
use Rattle.alloc_check_proof.specs.Needed.{KeepsEquations}
use Rattle.alloc_check_proof.specs.Sets.{SameSet}
use Rattle.alloc_check_proof.proofs.Members.{all_members}
use Rattle.alloc_check_proof.proofs.Carried.{needed_same}
use Rattle.alloc_check_proof.proofs.Blocks.{same_of, same_through, joined_sets, keeps_same, stands_keep, needs_there, keeps_stand}
use Rattle.alloc_check_proof.proofs.Fixed.{needed_is}
use Rattle.alloc_check_proof.specs.Allocated.{is_marked, filled}
use Rattle.alloc_check_proof.proofs.Marks.{fed_by, entry_marked, within}
use Rattle.alloc_check_verdict.specs.Right.{BeginsRight}
use Rattle.alloc_check_verdict.specs.Walk.{stands_at, IsSaid, IsKnownFrom}
use Rattle.alloc_check_verdict.proofs.Known.{stands_marked, stands_fed}
use Rattle.alloc_check_verdict.proofs.Readings.{right_read}

-- ---- a node

module _ (input : rtl.FunctionData) (output : ltl.FunctionData) (rows : List (NodeRow Equation)) (fits : rtl.IsFunction input) (nodes : length output.blocks ≡ length input.nodes) (n : ℕ) (i : Instruction) (b : Block) (is_i : slice_get input.nodes n ≡ Some i) (is_b : slice_get output.blocks n ≡ Some b) where
  abbrev told : List (List Equation)
  told = filled input output rows

  abbrev after : List Equation
  after = behind (equations_at told) i

  -- it goes on at nodes that are there
  pub behind_within : (lists : List (List Equation)) → length lists ≡ length input.nodes → AllByRecursion (λ s. s < length lists) (successors_of i)
  behind_within lists count =
      recursion_from_All (λ s. s < length lists) (successors_of i)
      (all_members (λ s. s < length lists) (successors_of i) (λ s h. let there : s < length input.nodes = within input fits n i is_i s h in omega (arith, there, count)))

  -- what is known where the instruction goes on
  module _ (feeders : List (Option ℕ)) (are : AreFeeders input.entry input.nodes feeders) (said lists : List (List Equation)) (are_said : IsSaid input output rows said) (known : IsKnownFrom input output rows (suc n) lists) where
    known_behind : (s : ℕ) → Contains (successors_of i) s → SameSet (stands_at feeders said lists s) (equations_at told s)
    known_behind s h = at (is_marked input s) refl
      where
        there : s < length input.nodes
        there = within input fits n i is_i s h

        at : (m : Bool) → is_marked input s ≡ m → SameSet (stands_at feeders said lists s) (equations_at told s)
        at true marked = same_of (stands_at feeders said lists s) (equations_at told s) (stands_marked input feeders are said lists s there marked ∙ are_said.marked s there marked)
        at false unmarked =
            let fed = fed_by input.entry input.nodes n s i is_i h unmarked in
            subst (λ es. SameSet es (equations_at told s)) (sym (stands_fed input feeders are said lists s there unmarked))
            (known.others s fed.lower there unmarked (λ m is. let same : n ≡ m = same_Some n m (sym fed.feeds ∙ is) in omega (arith, same)))

    pub after_same : (found : List Equation) → SameSet found (behind (stands_at feeders said lists) i) → SameSet found after
    after_same found same =
        same_through found (behind (stands_at feeders said lists) i) after same (joined_sets (stands_at feeders said lists) (equations_at told) (successors_of i) known_behind)

  module _ (found : List Equation) (same : SameSet found after) where
    abbrev o : Option Change
    o = change_of i b.body

    -- a node that is not marked has what its block needs
    pub unmarked_is : is_marked input n ≡ false → equations_at told n ≡ needed i b after
    unmarked_is unmarked =
        needed_is (is_marked input) (entries_at rows) input.nodes output.blocks nodes n i b is_i is_b unmarked (within input fits n i is_i)
        (λ s h other. (fed_by input.entry input.nodes n s i is_i h other).lower)

    pub filled_same : is_marked input n ≡ false → SameSet (needed i b found) (equations_at told n)
    filled_same unmarked =
        same_through (needed i b found) (needed i b after) (equations_at told n) (needed_same i b o found after same)
        (same_of (needed i b after) (equations_at told n) (sym (unmarked_is unmarked)))

    pub right_unmarked : is_marked input n ≡ false → (keeps : Bool) → IsTrue keeps ↔ KeepsEquations i b found → IsTrue keeps ↔ IsRightAt input output told n
    right_unmarked unmarked keeps iff = (
      λ told_so. right_read input output told n i b input.nodes output.blocks refl refl is_i is_b (record {
        entry = λ first. absurd (let impossible : true ≡ false = sym (entry_marked input) ∙ ap (is_marked input) (sym first) ∙ unmarked in cc);
        stands = subst (λ es. StandsFor told es i b o) (sym (unmarked_is unmarked))
            (keeps_stand i b told (needed i b after) o (keeps_same i b o found after same (iff.0 told_so)) (λ e h. h));
      }),
      λ right. iff.1 (keeps_same i b o after found (λ e. ((same e).1, (same e).0)) (stands_keep i b told (equations_at told n) o (right i b is_i is_b).stands)),
    )

    pub right_broken : ¬ KeepsEquations i b found → ¬ IsRightAt input output told n
    right_broken broken right =
        broken (keeps_same i b o after found (λ e. ((same e).1, (same e).0)) (stands_keep i b told (equations_at told n) o (right i b is_i is_b).stands))

    pub right_marked : KeepsEquations i b found → (row : List Equation) → row ≡ equations_at told n → (enough : Bool) → IsTrue enough ↔ (BeginsRight input output n row × All (Contains row) (needed i b found)) → IsTrue enough ↔ IsRightAt input output told n
    right_marked keeps row is enough iff = (
      λ told_so.
          let parts = iff.0 told_so in
          right_read input output told n i b input.nodes output.blocks refl refl is_i is_b (record {
            entry = λ first. subst (All (HoldsAtEntry input.parameters output.parameters)) is (parts.0 first);
            stands = keeps_stand i b told (equations_at told n) o (keeps_same i b o found after same keeps)
                (λ e h. subst (λ es. Contains es e) is (All-contains (Contains row) (needed i b found) e parts.1 ((needed_same i b o found after same e).1 h)));
          }),
      λ right.
          let r = right i b is_i is_b in
          iff.1 (
            λ first. subst (All (HoldsAtEntry input.parameters output.parameters)) (sym is) (r.entry first),
            all_members (Contains row) (needed i b found) (λ e h. subst (λ es. Contains es e) (sym is) (needs_there i b told (equations_at told n) o r.stands e ((needed_same i b o found after same e).0 h))),
          ),
    )
