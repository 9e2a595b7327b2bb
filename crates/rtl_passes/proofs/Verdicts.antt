-- What is told of the nodes, and what is told of the whole; and lists of nothing.
use Rattle.std.proofs.Common.{◌≡◌, ℕ, List, [], Option, Some, None, Bool, true, not, sym, arith, inl, inr}
use Rattle.std.specs.Prelude.{◌↔◌, is_some, replicate, slice_index_or}
use Rattle.std.specs.Option.{option_map}
use Rattle.std.proofs.lemmas.Bool.{both_ways, not-true, not-false, cases_lt}
use Rattle.std.proofs.lemmas.List.{get_or-replicate, get_or_past, length-replicate}
use Rattle.lang_base.specs.declared.fault.Fault.{Fault}
use Rattle.lang_base.specs.declared.fault.Fault.TheVariants.{Shape, Node}
use Rattle.rtl_passes.specs.Faults.{KeepsRules, TellsLowest, TellsFault}

module _ (Form : Type 0) (Right : ℕ → Type 0) (count : ℕ) where
  pub tells-lowest : Form → (lowest : Option ℕ) → TellsLowest Right count lowest → TellsFault Form Right count (option_map Node lowest)
  tells-lowest shape None right = record { shape = shape; nodes = right }
  tells-lowest shape (Some n) lowest = (shape, lowest)

  -- the rules are kept exactly where no fault is told
  pub told-exact : (fault : Option Fault) (answer : Bool) → is_some fault ≡ not answer → TellsFault Form Right count fault → (answer ≡ true) ↔ KeepsRules Form Right count
  told-exact None answer e kept = (λ yes. kept, λ h. not-false answer (sym e))
  told-exact (Some Shape) answer e wrong = (
    λ is. absurd (both_ways answer (not-true answer (sym e)) is),
    λ h. absurd (wrong h.shape),
  )
  told-exact (Some (Node n)) answer e told = (
    λ is. absurd (both_ways answer (not-true answer (sym e)) is),
    λ h. absurd (told.1.wrong (h.nodes n told.1.within)),
  )

-- the list at each of so many nodes where none has anything, and at each other
pub none_at : {A : Type 0} (nodes n : ℕ) → slice_index_or (replicate {A = List A} nodes []) n [] ≡ []
none_at {A} nodes n =
    let empty : List A = [] in
    elim (cases_lt n nodes) [
      | inl below ↦ get_or-replicate nodes n empty empty below
      | inr past ↦ get_or_past (replicate nodes empty) n empty (omega (arith, length-replicate nodes empty, past))
    ]
