-- The laws that the pass owes as one of the pipeline.
use Rattle.std.proofs.Common.{◌≡◌, ℕ, zero, suc, List, [], ◌∷◌, ◌++◌, Bool, true, false, Option, Some, None, ◌≤◌, ◌^◌, refl, arith}
use Rattle.std.specs.Prelude.{◌↔◌, All, Contains}
use Rattle.std.specs.List.{AllByRecursion}
use Rattle.lang_base.specs.Keeps.{Keeps}
use Rattle.lang_base.specs.declared.program.Program.{Program}
use Rattle.lang_base.specs.Soundness.{AllFit, Accepted}
use Rattle.rtl_passes_facts.specs.Instruction.{Instruction}
use Rattle.rtl_passes_facts.specs.Function.{FunctionData, IsFunction}
use Rattle.rtl_passes_facts.specs.Meaning.{run}
use Rattle.rtl_passes_facts.specs.NodeRow.{NodeRow}
use Rattle.rtl_passes_facts.specs.RowForm.{rows_text}
use Rattle.rtl_passes_facts.specs.RtlPassesMarksEdges.{edges_of}
use Rattle.rtl_passes_facts.specs.Known.{IsMadeOrKept}
use Rattle.rtl_passes_facts.specs.Ranked.{RiseFrom}
use Rattle.rtl_passes_facts.specs.Certificates.{CertFits}
use Rattle.rtl_passes_facts.specs.Laws.{accepted_fits, one_certificate}
use Rattle.constprop_check_rules.specs.declared.fact.Fact.{Fact}
use Rattle.constprop_check_rules.specs.Rules.{rank, FactFits, IsKnown, made_by, keeps_by, propagation, IsPropagated}
use Rattle.rtl_passes_facts.specs.Instruction.TheVariants.{Do, Call, Branch, Return}
use Rattle.constprop_check_rules.specs.Known.{written_by, value_by, decided, arms}
use Rattle.constprop_check_rules.specs.Known.{edges_of as taken_of}
use Rattle.constprop_check_rules.proofs.Behind.{known_splits}
use Rattle.constprop_check_rules.proofs.Sound.{rows_sound}
use Rattle.constprop_check.specs.Behind.{change_of, makes, keeps}
use Rattle.constprop_check.specs.FactForm.{fact, fact_text, fact_form}

-- every function has a baseline
abbrev pub never : FunctionData → Type 0
never f = ⊥

-- what is accepted keeps the meaning, also where every function is in range
pub sound_law : (p q : Program FunctionData) → AllFit IsFunction p → AllFit IsFunction q → Accepted IsPropagated p q → Keeps (run p) (run q)
sound_law p q fits also accepted = rows_sound p q fits accepted

-- facts that are accepted can be written
pub propagated_fits : (i o : FunctionData) (c : List (NodeRow Fact)) → IsFunction i → IsFunction o → IsPropagated i o c → CertFits propagation i c
propagated_fits i o c fits also accepted = accepted_fits propagation i o c fits accepted

-- one certificate a spelling
pub one_cert : (i o : FunctionData) (c d : List (NodeRow Fact)) (x y : List ℕ) → CertFits propagation i c → CertFits propagation i d → rows_text fact_text c ++ x ≡ rows_text fact_text d ++ y → (c ≡ d) × (x ≡ y)
one_cert i o c d x y fits also e = one_certificate propagation (λ registers. fact registers) fact_text fact_form i c d x y fits also e

-- facts are in order by their registers
pub ranked_law : (registers : ℕ) → registers ≤ 2 ^ 16 → (facts : List Fact) → AllByRecursion (FactFits registers) facts → RiseFrom rank 0 facts ↔ RiseFrom rank 0 facts
ranked_law registers few facts fits = (λ rise. rise, λ rise. rise)

-- what is known is made, or known before and kept
pub known_law : (i : Instruction) (before : List Fact) (fact : Fact) → RiseFrom rank 0 before → IsKnown i before fact ↔ IsMadeOrKept (made_by i before) (keeps_by i) before fact
known_law i before fact rise = known_splits (written_by i) (value_by i before) before fact rise

-- a change makes and keeps what its instruction does
pub changes_law : (i : Instruction) (before : List Fact) → (makes (change_of i before) ≡ made_by i before) × (keeps (change_of i before) ≡ keeps_by i)
changes_law i before = (refl, refl)

-- an instruction goes on along its edges
one_there : (s : ℕ) → All (Contains (s ∷ [])) (s ∷ [])
one_there s zero d below = (0, omega arith, refl)
one_there s (suc k) d below = absurd (omega (arith, below))

arms_there : (taken other : ℕ) (answer : Option Bool) → All (Contains (taken ∷ other ∷ [])) (arms taken other answer)
arms_there taken other None zero d below = (0, omega arith, refl)
arms_there taken other None (suc zero) d below = (1, omega arith, refl)
arms_there taken other None (suc (suc k)) d below = absurd (omega (arith, below))
arms_there taken other (Some true) zero d below = (0, omega arith, refl)
arms_there taken other (Some true) (suc k) d below = absurd (omega (arith, below))
arms_there taken other (Some false) zero d below = (1, omega arith, refl)
arms_there taken other (Some false) (suc k) d below = absurd (omega (arith, below))

pub along_law : (i : Instruction) (facts : List Fact) → All (Contains (edges_of i)) (taken_of i facts)
along_law (Do act successor) facts = one_there successor
along_law (Call function arguments target successor) facts = one_there successor
along_law (Branch test taken other) facts = arms_there taken other (decided test facts)
along_law (Return value) facts = λ k d below. absurd (omega (arith, below))
