-- Nodes that were tested one after the other.
use Rattle.std.proofs.Common.{◌≡◌, ℕ, ◌+◌, ◌<◌, List, [], length, replicate, Option, Some, sym, ap, ◌∙◌, subst, arith, inl, inr}
use Rattle.std.specs.Prelude.{◌↔◌, All, slice_get}
use Rattle.std.proofs.lemmas.Bool.{cases_eq}
use Rattle.rtl_passes_marks.specs.Instruction.{Instruction}
use Rattle.rtl_passes_marks.specs.Function.{FunctionData}
use Rattle.rtl_passes_marks.specs.Faults.{IsLowest}
use Rattle.rtl_passes_marks.specs.declared.row.NodeRow.{NodeRow}
use Rattle.rtl_passes_marks.specs.Ranked.{RiseFrom}
use Rattle.rtl_passes_marks.specs.Edges.{edges_of}
use Rattle.rtl_passes_marks.specs.Marks.{AreFeeders}
use Rattle.rtl_passes_marks.specs.Rows.{place_of}
use Rattle.rtl_passes_marks.specs.Handing.{spread_on, standing, left_by, handed_on}
use Rattle.rtl_passes_filled.specs.Rules.{RulesOf, facts_at, IsRightAs, IsRightAt}
use Rattle.rtl_passes_filled.specs.Filled.{behind, filled_in}
use Rattle.rtl_passes_filled.proofs.Marked.{AreCarried}
use Rattle.rtl_passes_facts.specs.Handed.{RiseAtMarked, IsRightBy, IsHandedOn}
use Rattle.rtl_passes_facts.proofs.Readings.{right_read, wrong_read}
use Rattle.rtl_passes_facts.proofs.Walked.{IsSaid, IsWalked, said_first, walked_first, facts_now, walked_on, rise_marked, rise_now, right_exactly}

-- those below n keep the rules, and the lists stand as they are to be handed on from n
pub record IsTested {A : Type 0} (rules : RulesOf A) (input output : FunctionData) (rows : List (NodeRow A)) (lists : List (List A)) (n : ℕ) : Type 0 where
  pub walked : IsWalked rules input.entry input.nodes rows lists n
  pub right : (k : ℕ) → k < n → IsRightAt rules input output (filled_in rules input rows) k

module _ {A : Type 0} (rules : RulesOf A) (input output : FunctionData) (rows : List (NodeRow A)) (feeders : List (Option ℕ)) (told : AreFeeders input.entry input.nodes feeders) where
  abbrev Said : List (List A) → Type 0
  Said said = IsSaid rules input.entry input.nodes rows said

  pub tested_first : IsTested rules input output rows (replicate (length input.nodes) []) 0
  tested_first = record {
    walked = walked_first rules input.entry input.nodes rows feeders told;
    right = λ k less. absurd (omega (arith, less));
  }

  -- what the rows say
  pub rows_said : RiseFrom place_of 0 rows → (said : List (List A)) → said ≡ spread_on rows (replicate (length input.nodes) []) → Said said
  rows_said rising said is = subst Said (sym is) (said_first rules input.entry input.nodes rows feeders told rising)

  module _ (carried : AreCarried rules) (rising : All (λ (row : NodeRow A). RiseFrom rules.rank 0 row.entries) rows) (said : List (List A)) (are_said : Said said) (lists : List (List A)) (n : ℕ) (within : n < length input.nodes) (tested : IsTested rules input output rows lists n) where
    abbrev stands : List A
    stands = standing (slice_get feeders n) said lists n

    now : stands ≡ facts_at (filled_in rules input rows) n
    now = facts_now rules input.entry input.nodes rows feeders told said lists are_said n within tested.walked

    -- what the test of the next node asks
    pub turn_within : n < length lists
    turn_within = omega (arith, tested.walked.count, within)

    pub turn_facts : RiseFrom rules.rank 0 stands
    turn_facts = subst (RiseFrom rules.rank 0) (sym now) (rise_now rules input.entry input.nodes rows feeders told carried rising n)

    pub turn_said : RiseAtMarked rules feeders said
    turn_said = rise_marked rules input.entry input.nodes rows feeders told carried rising said are_said

    module _ (i o : Instruction) (is_input : slice_get input.nodes n ≡ Some i) (is_output : slice_get output.nodes n ≡ Some o) where
      exactly : IsRightBy rules input.entry feeders said stands n i o ↔ IsRightAs rules input.entry (filled_in rules input rows) n i o
      exactly = subst (λ facts. IsRightBy rules input.entry feeders said facts n i o ↔ IsRightAs rules input.entry (filled_in rules input rows) n i o) (sym now)
          (right_exactly rules input.entry input.nodes rows feeders told carried rising said are_said n i o is_input)

      -- it keeps the rules: one on
      pub tested_on : (new : List (List A)) → IsRightBy rules input.entry feeders said stands n i o → IsHandedOn rules feeders said n i lists new → IsTested rules input output rows new (n + 1)
      tested_on new right on = record {
        walked = subst (λ xs. IsWalked rules input.entry input.nodes rows xs (n + 1)) (sym (on ∙ ap (λ facts. handed_on feeders n (edges_of i) (behind rules i facts) (left_by (slice_get feeders n) n lists)) now))
            (walked_on rules input.entry input.nodes rows feeders told lists n within tested.walked i is_input);
        right = λ k less.
            elim (cases_eq k n) [
              | inl here ↦ subst (IsRightAt rules input output (filled_in rules input rows)) (sym here) (right_read rules input.entry input.nodes output.nodes (filled_in rules input rows) n i o is_input is_output (exactly.0 right))
              | inr other ↦ tested.right k (omega (arith, less, other))
            ];
      }

      -- it does not: it is the lowest
      pub lowest_here : ¬ IsRightBy rules input.entry feeders said stands n i o → IsLowest (IsRightAt rules input output (filled_in rules input rows)) (length input.nodes) n
      lowest_here wrong = record {
        within = within;
        wrong = wrong_read rules input.entry input.nodes output.nodes (filled_in rules input rows) n i o is_input is_output (λ right. wrong (exactly.1 right));
        lower = tested.right;
      }
