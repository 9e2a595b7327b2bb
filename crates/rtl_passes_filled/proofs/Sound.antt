-- Facts that are right at each node keep the meaning of whole programs, where each node is matched by its facts; and what
-- is accepted with rows has such facts, the lists that the rows are filled to.
use Rattle.std.proofs.Common.{◌≡◌, ◌≢◌, ℕ, ◌<◌, List, [], ◌∷◌, length, Option, Some, get_or, refl, sym, ap, subst, arith, inl, inr}
use Rattle.std.specs.Prelude.{slice_get, All}
use Rattle.std.proofs.lemmas.Bool.{cases_lt}
use Rattle.std.proofs.lemmas.List.{get_or_past}
use Rattle.std.proofs.lemmas.List.Elements.{All-tail, All-filter, All-from_recursion}
use Rattle.std.proofs.lemmas.Option.{slice_get_within, slice_get-get_or, slice_get_cases, get_or_from_slice_get}
use Rattle.rtl_passes_marks.specs.Keeps.{Keeps}
use Rattle.rtl_passes_marks.specs.Named.{Named}
use Rattle.rtl_passes_marks.specs.Program.{Program}
use Rattle.rtl_passes_marks.specs.Soundness.{AllFit, AcceptedInTurn, Accepted}
use Rattle.rtl_passes_marks.specs.Data.{Data}
use Rattle.rtl_passes_marks.specs.Instruction.{Instruction}
use Rattle.rtl_passes_marks.specs.Function.{FunctionData, InstructionFits, IsFunction}
use Rattle.rtl_passes_marks.specs.Meaning.{run}
use Rattle.rtl_passes_marks.specs.Effects.{Faults, effect_of, HoldsAfter}
use Rattle.rtl_passes_marks.specs.Facts.{IsMatched, IsStepwise}
use Rattle.rtl_passes_marks.proofs.Sound.{stepwise_keeps}
use Rattle.rtl_passes_marks.specs.declared.row.NodeRow.{NodeRow}
use Rattle.rtl_passes_filled.specs.Known.{IsMadeOrKept}
use Rattle.rtl_passes_filled.specs.Rules.{RulesOf, facts_at, LeadsOn, MayBecome, IsRightAs, IsWithin, AreRight}
use Rattle.rtl_passes_filled.specs.Filled.{behind, filled_in}
use Rattle.rtl_passes_filled.specs.Accepted.{IsAccepted}
use Rattle.rtl_passes_filled.proofs.Carrying.{all_behind}
use Rattle.rtl_passes_filled.proofs.Filling.{filled_count, filled_have}

-- the facts of each node speak of registers that are there
abbrev pub WithinEach : {A : Type 0} → RulesOf A → ℕ → List (List A) → Type 0
WithinEach rules registers lists = (s : ℕ) → All (IsWithin rules registers) (facts_at lists s)

module _ {A : Type 0} (rules : RulesOf A) (f g : FunctionData) (lists : List (List A)) (right : AreRight rules f g lists) where
  within_each : WithinEach rules f.registers lists
  within_each s = λ k d below.
      elim (cases_lt s (length lists)) [
        | inl there ↦ right.within s [] there k d below
        | inr past ↦ absurd (let none : length (facts_at lists s) ≡ 0 = ap length (get_or_past lists s [] past) in omega (arith, none, below))
      ]

  output_there : (n : ℕ) (i : Instruction) → slice_get f.nodes n ≡ Some i → (o : Instruction) × (slice_get g.nodes n ≡ Some o)
  output_there n i e =
      let below : n < length g.nodes = omega (arith, slice_get_within f.nodes n i e, right.same.nodes) in
      (get_or g.nodes n i, slice_get-get_or g.nodes n i below)

  right_at : (n : ℕ) (i : Instruction) → slice_get f.nodes n ≡ Some i → (o : Instruction) → slice_get g.nodes n ≡ Some o → IsRightAs rules f.entry lists n i o
  right_at n i e o e' = right.nodes n (slice_get_within f.nodes n i e) i o e e'

  nothing_at_entry : facts_at lists f.entry ≡ []
  nothing_at_entry =
      elim (slice_get_cases f.nodes f.entry).1 [
        | inl here ↦ let there = output_there f.entry here.0 here.2 in (right_at f.entry here.0 here.2 there.0 there.1).entry refl
        | inr past ↦ get_or_past lists f.entry [] (omega (arith, past.0, right.count))
      ]

-- What a pass is to show of its facts: without facts nothing is asked of the data; what an instruction may become does
-- the same; and where the facts at a node hold, those at the nodes behind it do.
pub record AreSound {A : Type 0} (rules : RulesOf A) (Hold : List A → Data → Type 0) : Type 0 where
  pub none : (d : Data) → Hold [] d
  pub becomes : (facts : List A) (d : Data) → Hold facts d → (i o : Instruction) → effect_of i d ≢ Faults → MayBecome rules facts i o → effect_of o d ≡ effect_of i d
  pub leads : (lists : List (List A)) (n : ℕ) (d : Data) → Hold (facts_at lists n) d → WithinEach rules (length d.registers) lists → (i : Instruction) → LeadsOn rules lists (facts_at lists n) i → HoldsAfter (λ s. Hold (facts_at lists s)) d (effect_of i d)

module _ {A : Type 0} (rules : RulesOf A) (Hold : List A → Data → Type 0) (sound : AreSound rules Hold) where
  -- the facts at a node hold
  abbrev HoldAt : List (List A) → ℕ → Data → Type 0
  HoldAt lists n d = Hold (facts_at lists n) d

  node_matched : (f g : FunctionData) (lists : List (List A)) → AreRight rules f g lists → (n : ℕ) (i : Instruction) → slice_get f.nodes n ≡ Some i → (d : Data) → length d.registers ≡ f.registers → HoldAt lists n d → effect_of i d ≢ Faults → IsMatched (HoldAt lists) g.nodes n d (effect_of i d)
  node_matched f g lists all n i e d counted hold runs =
      let there = output_there rules f g lists all n i e in
      let right = right_at rules f g lists all n i e there.0 there.1 in
      record {
        instruction = there.0;
        stands = there.1;
        alike = sound.becomes (facts_at lists n) d hold i there.0 runs right.becomes;
        after = sound.leads lists n d hold (subst (λ registers. WithinEach rules registers lists) (sym counted) (within_each rules f g lists all)) i right.leads;
      }

  stepwise : IsStepwise (AreRight rules) HoldAt
  stepwise = record {
    shape = λ f g lists all. all.same;
    entry = λ f g lists all d. subst (λ facts. Hold facts d) (sym (nothing_at_entry rules f g lists all)) (sound.none d);
    node = node_matched;
  }

  pub facts_keep : (p q : Program FunctionData) → Accepted (AreRight rules) p q → Keeps (run p) (run q)
  facts_keep p q accepted = stepwise_keeps (AreRight rules) HoldAt stepwise p q accepted

-- ---- rows

-- What a pass is to show of what it fills in: facts of a row, and what an instruction makes, speak of registers that are there.
pub record AreThere {A : Type 0} (rules : RulesOf A) : Type 0 where
  pub row : (registers : ℕ) (fact : A) → rules.Fits registers fact → IsWithin rules registers fact
  pub made : (registers nodes : ℕ) (i : Instruction) (before : List A) (fact : A) → InstructionFits registers nodes i → rules.made i before ≡ Some fact → IsWithin rules registers fact

module _ {A : Type 0} (rules : RulesOf A) (there : AreThere rules) where
  made_or_kept_there : (registers nodes : ℕ) (i : Instruction) (before : List A) → InstructionFits registers nodes i → All (IsWithin rules registers) before → (fact : A) → IsMadeOrKept (rules.made i before) (rules.keeps i) before fact → IsWithin rules registers fact
  made_or_kept_there registers nodes i before fits all fact (inl made) = there.made registers nodes i before fact fits made
  made_or_kept_there registers nodes i before fits all fact (inr kept) = subst (IsWithin rules registers) kept.0.2 (all kept.0.0 fact kept.0.1)

  node_fits : (f : FunctionData) → IsFunction f → (n : ℕ) (i : Instruction) → slice_get f.nodes n ≡ Some i → InstructionFits f.registers (length f.nodes) i
  node_fits f fits n i e = subst (InstructionFits f.registers (length f.nodes)) (get_or_from_slice_get f.nodes n i i e) (All-from_recursion (InstructionFits f.registers (length f.nodes)) f.nodes fits.each n i (slice_get_within f.nodes n i e))

  -- what is accepted with rows is right with the lists that they are filled to
  pub filled_right : (f g : FunctionData) (rows : List (NodeRow A)) → IsFunction f → IsAccepted rules f g rows → AreRight rules f g (filled_in rules f rows)
  filled_right f g rows fits accepted = record {
    same = accepted.shape.same;
    count = filled_count rules f.entry f.nodes rows (length f.nodes);
    within = filled_have rules f.entry f.nodes rows (All (IsWithin rules f.registers))
        (λ k d below. absurd (omega (arith, below)))
        (λ k d below. λ j e within. there.row f.registers _ ((accepted.shape.form.each k d below).in_order.each j e within))
        (λ n i stands before all. all_behind rules (IsWithin rules f.registers) i before (made_or_kept_there f.registers (length f.nodes) i before (node_fits f fits n i stands) all));
    nodes = accepted.nodes;
  }

  in_turn : (fs gs : List (Named FunctionData)) → All (λ named. IsFunction named.function) fs → AcceptedInTurn (IsAccepted rules) fs gs → AcceptedInTurn (AreRight rules) fs gs
  in_turn [] [] fit accepted = tt
  in_turn [] (g ∷ gs) fit accepted = accepted
  in_turn (f ∷ fs) [] fit accepted = accepted
  in_turn (f ∷ fs) (g ∷ gs) fit accepted =
      let rows = accepted.0.1.0 in (
        (accepted.0.0, (filled_in rules f.function rows, filled_right f.function g.function rows (fit 0 f (omega arith)) accepted.0.1.1)),
        in_turn fs gs (All-tail (λ named. IsFunction named.function) f fs fit) accepted.1,
      )

  pub filled_keep : (Hold : List A → Data → Type 0) → AreSound rules Hold → (p q : Program FunctionData) → AllFit IsFunction p → Accepted (IsAccepted rules) p q → Keeps (run p) (run q)
  filled_keep Hold sound p q fit accepted =
      facts_keep rules Hold sound p q (record { globals = accepted.globals; functions = in_turn p.functions q.functions fit accepted.functions })
