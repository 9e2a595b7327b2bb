-- The laws that the pass owes as one of the pipeline.
use Rattle.std.proofs.Common.{◌≡◌, ℕ, List, [], ◌∷◌, ◌++◌, get_or, Bool, true, false, ◌≤◌, ◌^◌, refl, ap, inl, inr}
use Rattle.std.specs.Prelude.{◌↔◌, ◌||◌, All, Contains, not}
use Rattle.std.specs.List.{AllByRecursion}
use Rattle.std.proofs.lemmas.List.{get_or_default}
use Rattle.lang_base.specs.Keeps.{Keeps}
use Rattle.lang_base.specs.declared.program.Program.{Program}
use Rattle.lang_base.specs.Soundness.{AllFit, Accepted}
use Rattle.rtl_passes_facts.specs.Instruction.{Instruction}
use Rattle.rtl_passes_facts.specs.Instruction.TheVariants.{Do, Call, Branch, Return}
use Rattle.rtl_passes_facts.specs.Function.{FunctionData, IsFunction}
use Rattle.rtl_passes_facts.specs.Meaning.{run}
use Rattle.rtl_passes_facts.specs.NodeRow.{NodeRow}
use Rattle.rtl_passes_facts.specs.RowForm.{rows_text}
use Rattle.rtl_passes_facts.specs.RtlPassesMarksEdges.{edges_of}
use Rattle.rtl_passes_facts.specs.Known.{IsMadeOrKept}
use Rattle.rtl_passes_facts.specs.Ranked.{RiseFrom}
use Rattle.rtl_passes_facts.specs.Certificates.{CertFits}
use Rattle.rtl_passes_facts.specs.Laws.{accepted_fits, one_certificate}
use Rattle.cse_check_rules.specs.declared.equation.Equation.{Equation}
use Rattle.rtl_passes_facts.specs.Act.{Act}
use Rattle.rtl_passes_facts.specs.Act.TheVariants.{Nop, Constant, Move, Operate, Load, Store, Put}
use Rattle.cse_check_rules.specs.Known.{written_by}
use Rattle.cse_check_rules.specs.declared.equation.RightSide.{RightSide}
use Rattle.cse_check_rules.specs.Equations.{equation_by, kills, overwrites, act_disturbs, disturbs, successors_of}
use Rattle.cse_check.specs.Change.{cells_of_act, cells_by, disturbed, change_of, keeps}
use Rattle.cse_check_rules.specs.Order.{rank, equation_text}
use Rattle.cse_check_rules.specs.Rules.{EquationFits, Rise, IsKnown, keeps_by, elimination, IsEliminated}
use Rattle.cse_check_rules.proofs.Sound.{rows_sound}
use Rattle.cse_check_rules.specs.Reading.{equation}
use Rattle.cse_check_rules.proofs.Forms.{equation_form}
use Rattle.cse_check_rules.proofs.Ranks.{rise_ranks}

-- every function has a baseline
abbrev pub never : FunctionData → Type 0
never f = ⊥

-- what is accepted keeps the meaning, also where every function is in range
pub sound_law : (p q : Program FunctionData) → AllFit IsFunction p → AllFit IsFunction q → Accepted IsEliminated p q → Keeps (run p) (run q)
sound_law p q fits also accepted = rows_sound p q fits accepted

-- equations that are accepted can be written
pub eliminated_fits : (i o : FunctionData) (c : List (NodeRow Equation)) → IsFunction i → IsFunction o → IsEliminated i o c → CertFits elimination i c
eliminated_fits i o c fits also accepted = accepted_fits elimination i o c fits accepted

-- one certificate a spelling
pub one_cert : (i o : FunctionData) (c d : List (NodeRow Equation)) (x y : List ℕ) → CertFits elimination i c → CertFits elimination i d → rows_text equation_text c ++ x ≡ rows_text equation_text d ++ y → (c ≡ d) × (x ≡ y)
one_cert i o c d x y fits also e = one_certificate elimination (λ registers. equation registers) equation_text (λ registers few. equation_form registers few) i c d x y fits also e

-- equations are in order by their bytes exactly as by their ranks
pub ranked_law : (registers : ℕ) → registers ≤ 2 ^ 16 → (equations : List Equation) → AllByRecursion (EquationFits registers) equations → Rise equations ↔ RiseFrom rank 0 equations
ranked_law registers few equations fits = rise_ranks registers few equations fits

-- what is known is made, or known before and kept
turned : (b : Bool) → not b ≡ true → b ≡ false
turned true e = cc (e)
turned false e = refl

known_one : (i : Instruction) (before : List Equation) (e : Equation) → IsKnown i before e → IsMadeOrKept (equation_by i) (keeps_by i) before e
known_one i before e (inl made) = inl made
known_one i before e (inr kept) = inr (kept.0, ap not kept.1)

known_other : (i : Instruction) (before : List Equation) (e : Equation) → IsMadeOrKept (equation_by i) (keeps_by i) before e → IsKnown i before e
known_other i before e (inl made) = inl made
known_other i before e (inr kept) = inr (kept.0, turned (kills i e) kept.1)

pub known_law : (i : Instruction) (before : List Equation) (e : Equation) → RiseFrom rank 0 before → IsKnown i before e ↔ IsMadeOrKept (equation_by i) (keeps_by i) before e
known_law i before e rise = (known_one i before e, known_other i before e)

-- a change makes and keeps what its instruction does
act_same : (act : Act) → disturbed (cells_of_act act) ≡ act_disturbs act
act_same Nop = refl
act_same (Constant target word) = refl
act_same (Move target source) = refl
act_same (Operate op target arguments) = refl
act_same (Load target global index) = refl
act_same (Store global index source) = refl
act_same (Put source target) = refl

same_cells : (i : Instruction) → disturbed (cells_by i) ≡ disturbs i
same_cells (Do act successor) = act_same act
same_cells (Call function arguments target successor) = refl
same_cells (Branch test taken other) = refl
same_cells (Return value) = refl

pub changes_law : (i : Instruction) (before : List Equation) → ((change_of i).made ≡ equation_by i) × (keeps (change_of i) ≡ keeps_by i)
changes_law i before =
    (refl, ap (λ (changed : RightSide → Bool). λ (equation : Equation). not (overwrites (written_by i) equation || changed equation.right)) (same_cells i))

-- an instruction goes on along its edges
each_there : (ts : List ℕ) → All (Contains ts) ts
each_there ts = λ k d below. (k, below, get_or_default ts k (get_or ts k d) d below)

pub along_law : (i : Instruction) → All (Contains (edges_of i)) (successors_of i)
along_law (Do act successor) = each_there (successor ∷ [])
along_law (Call function arguments target successor) = each_there (successor ∷ [])
along_law (Branch test taken other) = each_there (taken ∷ other ∷ [])
along_law (Return value) = each_there []
