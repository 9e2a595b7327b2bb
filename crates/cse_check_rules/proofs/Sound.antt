-- What the pass accepts keeps the meaning of whole programs.
use Rattle.std.proofs.Common.{◌≡◌, ◌≢◌, ℕ, ◌<◌, List, [], ◌∷◌, length, Option, Some, None, Bool, true, false, cond, get_or, refl, sym, ap, subst, ◌∙◌, arith, inl, inr}
use Rattle.std.specs.Prelude.{◌||◌, All}
use Rattle.std.specs.Option.{option_map}
use Rattle.std.proofs.lemmas.List.Elements.{All-contains}
use Rattle.lang_base.specs.Keeps.{Keeps}
use Rattle.lang_base.specs.declared.program.Program.{Program}
use Rattle.lang_base.specs.Soundness.{AllFit, Accepted}
use Rattle.rtl_acts.specs.declared.act.Act.{Act}
use Rattle.rtl_acts.specs.declared.act.Act.TheVariants.{Nop, Constant, Move, Operate, Load, Store, Put}
use Rattle.rtl_acts.specs.declared.test.Test.{Test}
use Rattle.rtl_acts.specs.Fits.{ActFits}
use Rattle.rtl_acts.specs.Data.{Data, value_at, put_at}
use Rattle.rtl_acts.specs.Acts.{given, does, holds}
use Rattle.rtl_passes_filled.specs.Instruction.{Instruction}
use Rattle.rtl_passes_filled.specs.Instruction.TheVariants.{Do, Call, Branch, Return}
use Rattle.rtl_passes_filled.specs.Function.{FunctionData, InstructionFits, IsFunction}
use Rattle.rtl_passes_filled.specs.Meaning.{run}
use Rattle.rtl_passes_filled.specs.Effects.{Faults, onward, chooses, effect_of, HoldsAfter}
use Rattle.rtl_passes_filled.specs.Rules.{facts_at, LeadsTo, LeadsOn, MayBecome, AreRight}
use Rattle.rtl_passes_filled.proofs.Sound.{AreSound, AreThere, facts_keep, filled_keep}
use Rattle.constprop_check_rules.specs.Known.{target_of}
use Rattle.cse_check_rules.specs.declared.equation.RightSide.{RightSide}
use Rattle.cse_check_rules.specs.declared.equation.RightSide.TheVariants.{Operation, Cell, Copy}
use Rattle.cse_check_rules.specs.declared.equation.Equation.{Equation}
use Rattle.cse_check_rules.specs.Equations.{reads, equation_of, made_by, equation_by, act_disturbs, overwrites, kills, shared_by, shared}
use Rattle.cse_check_rules.specs.Rules.{IsKnown, elimination, IsEliminated}
use Rattle.cse_check_rules.proofs.Holding.{gives, Holds, MadeOrKept, act_holds, call_holds}

-- the equations at a node hold
abbrev HoldAt : List (List Equation) → ℕ → Data → Type 0
HoldAt lists n d = All (Holds d) (facts_at lists n)

-- ---- a move that an equation allows does the same

-- where the act does not go wrong
abbrev Alike : Data → Act → Act → Type 0
Alike d act other = (successor : ℕ) → onward successor (does act d) ≢ Faults → does other d ≡ does act d

abbrev there : {A : Type 0} → A → Option A
there x = Some x

there_is : {A : Type 0} (x y : A) → there x ≡ there y → x ≡ y
there_is x y e = cc

-- the parts of a pair that is there
pair_is : {A B : Type 0} (a c : A) (b e : B) → there {A = A × B} (a, b) ≡ there {A = A × B} (c, e) → (a ≡ c) × (b ≡ e)
pair_is {A} {B} a c b e is =
    let same : (a, b) ≡ (c, e) = there_is (a, b) (c, e) is in
    (ap (λ (p : A × B). p.0) same, ap (λ (p : A × B). p.1) same)

given_alike : (d : Data) (t : ℕ) (v : Option ℕ) (successor : ℕ) → onward successor (given t d v) ≢ Faults → Some (put_at t v d) ≡ given t d v
given_alike d t None successor runs = absurd (runs refl)
given_alike d t (Some w) successor runs = refl

act_alike : (d : Data) (act : Act) (r : ℕ) (equation : Equation) (other : Act) → shared_by act r ≡ Some (equation, other) → Holds d equation → Alike d act other
act_alike d Nop r equation other allows hold = cc (allows)
act_alike d (Constant t w) r equation other allows hold = cc (allows)
act_alike d (Move t s) r equation other allows hold = λ successor runs.
    let parts = pair_is (record { register = s; right = Copy r }) equation (Move t r) other allows in
    let which = parts.0 in
    let is = parts.1 in
    let here : value_at s d ≡ value_at r d = subst (Holds d) (sym which) hold in
    subst (λ a. does a d ≡ does (Move t s) d) is (ap (λ v. Some (put_at t v d)) (sym here))
act_alike d (Operate op t arguments) r equation other allows hold = λ successor runs.
    let parts = pair_is (record { register = r; right = Operation op arguments }) equation (Move t r) other allows in
    let which = parts.0 in
    let is = parts.1 in
    let here : value_at r d ≡ gives (Operation op arguments) d = subst (Holds d) (sym which) hold in
    subst (λ a. does a d ≡ does (Operate op t arguments) d) is (ap (λ v. Some (put_at t v d)) here ∙ given_alike d t (gives (Operation op arguments) d) successor runs)
act_alike d (Load t global index) r equation other allows hold = λ successor runs.
    let parts = pair_is (record { register = r; right = Cell global index }) equation (Move t r) other allows in
    let which = parts.0 in
    let is = parts.1 in
    let here : value_at r d ≡ gives (Cell global index) d = subst (Holds d) (sym which) hold in
    subst (λ a. does a d ≡ does (Load t global index) d) is (ap (λ v. Some (put_at t v d)) here ∙ given_alike d t (gives (Cell global index) d) successor runs)
act_alike d (Store global index s) r equation other allows hold = cc (allows)
act_alike d (Put s t) r equation other allows hold = cc (allows)

shared_alike : (d : Data) (i o : Instruction) (r : ℕ) (equation : Equation) → shared i r ≡ Some (equation, o) → Holds d equation → effect_of i d ≢ Faults → effect_of o d ≡ effect_of i d
shared_alike d (Do act successor) o r equation allows hold runs = at (shared_by act r) refl allows
  where
    at : (x : Option (Equation × Act)) → shared_by act r ≡ x → option_map {U = Equation × Instruction} (λ (made : Equation × Act). (made.0, Do made.1 successor)) x ≡ Some (equation, o) → effect_of o d ≡ effect_of (Do act successor) d
    at None known e = cc (e)
    at (Some made) known e =
        let parts = pair_is made.0 equation (Do made.1 successor) o e in
        let which = parts.0 in
        let is = parts.1 in
        subst (λ a. effect_of a d ≡ effect_of (Do act successor) d) is (ap (onward successor) (act_alike d act r made.0 made.1 known (subst (Holds d) (sym which) hold) successor runs))
shared_alike d (Call function arguments target successor) o r equation allows hold runs = cc (allows)
shared_alike d (Branch test taken other) o r equation allows hold runs = cc (allows)
shared_alike d (Return value) o r equation allows hold runs = cc (allows)

becomes_alike : (equations : List Equation) (d : Data) → All (Holds d) equations → (i o : Instruction) → effect_of i d ≢ Faults → MayBecome elimination equations i o → effect_of o d ≡ effect_of i d
becomes_alike equations d hold i o runs (inl same) = ap (λ a. effect_of a d) same
becomes_alike equations d hold i o runs (inr s) = shared_alike d i o s.source s.equation s.allows (All-contains (Holds d) equations s.equation hold s.known) runs

-- ---- the equations hold where an instruction goes on

-- equations speak of registers that are there
abbrev WithinAt : List (List Equation) → Data → Type 0
WithinAt lists d = (s : ℕ) → All (λ equation. equation.register < length d.registers) (facts_at lists s)

module _ (lists : List (List Equation)) (n : ℕ) (d : Data) (hold : HoldAt lists n d) (within : WithinAt lists d) where
  abbrev KnownAt : Instruction → ℕ → Type 0
  KnownAt i s = LeadsTo elimination lists (facts_at lists n) i s

  -- an equation that is known was made, or it held and was not killed
  made_or_kept : (i : Instruction) (equation : Equation) → IsKnown i (facts_at lists n) equation → MadeOrKept d (equation_by i) (kills i equation) equation
  made_or_kept i equation (inl made) = inl made
  made_or_kept i equation (inr before) = inr (All-contains (Holds d) (facts_at lists n) equation hold before.0, before.1)

  act_leads : (act : Act) (s : ℕ) (o : Option Data) → does act d ≡ o → KnownAt (Do act s) s → HoldsAfter (HoldAt lists) d (onward s o)
  act_leads act s None is known = tt
  act_leads act s (Some e) is known = λ k z below.
      after e is (get_or (facts_at lists s) k z) (within s k z below) (made_or_kept (Do act s) (get_or (facts_at lists s) k z) (known.known k z below))
    where
      after : (e : Data) → does act d ≡ Some e → (equation : Equation) → equation.register < length d.registers → MadeOrKept d (made_by act) (overwrites (target_of act) equation || act_disturbs act equation.right) equation → Holds e equation
      after e is = let all = act_holds d act in let here = rw is at all in here

  call_leads : (function : ℕ) (arguments : List ℕ) (target : Option ℕ) (s : ℕ) → KnownAt (Call function arguments target s) s → HoldsAfter (HoldAt lists) d (effect_of (Call function arguments target s) d)
  call_leads function arguments target s known = λ value e registers k z below.
      call_holds d target value e registers (get_or (facts_at lists s) k z) (made_or_kept (Call function arguments target s) (get_or (facts_at lists s) k z) (known.known k z below))

  still : (test : Test) (taken other : ℕ) (equation : Equation) → MadeOrKept d (equation_by (Branch test taken other)) (kills (Branch test taken other) equation) equation → Holds d equation
  still test taken other equation (inl made) = cc (made)
  still test taken other equation (inr before) = before.0

  arm_leads : (test : Test) (taken other s : ℕ) → KnownAt (Branch test taken other) s → HoldAt lists s d
  arm_leads test taken other s known = λ k z below.
      still test taken other (get_or (facts_at lists s) k z) (made_or_kept (Branch test taken other) (get_or (facts_at lists s) k z) (known.known k z below))

  chosen_leads : (test : Test) (taken other : ℕ) (o : Option Bool) → All (KnownAt (Branch test taken other)) (taken ∷ other ∷ []) → HoldsAfter (HoldAt lists) d (chooses taken other d o)
  chosen_leads test taken other None known = tt
  chosen_leads test taken other (Some true) known = arm_leads test taken other taken (known 0 taken (omega arith))
  chosen_leads test taken other (Some false) known = arm_leads test taken other other (known 1 other (omega arith))

  pub leads_on : (i : Instruction) → LeadsOn elimination lists (facts_at lists n) i → HoldsAfter (HoldAt lists) d (effect_of i d)
  leads_on (Do act s) leads = act_leads act s (does act d) refl (leads 0 s (omega arith))
  leads_on (Call function arguments target s) leads = call_leads function arguments target s (leads 0 s (omega arith))
  leads_on (Branch test taken other) leads = chosen_leads test taken other (holds test d) leads
  leads_on (Return value) leads = tt

-- ---- the whole

are_sound : AreSound elimination (λ equations d. All (Holds d) equations)
are_sound = record {
  none = λ d k z below. absurd (omega (arith, below));
  becomes = becomes_alike;
  leads = λ lists n d hold fit i leads. leads_on lists n d hold fit i leads;
}

-- ---- what is filled in speaks of registers that are there

abbrev own : ℕ → RightSide → Equation
own target right = record { register = target; right = right }

own_there : (registers target : ℕ) (right : RightSide) (equation : Equation) → target < registers → equation_of target right ≡ Some equation → equation.register < registers
own_there registers target right equation below e = at (reads right target) e
  where
    at : (b : Bool) → cond b None (Some (own target right)) ≡ Some equation → equation.register < registers
    at true e = cc (e)
    at false e = subst (λ (x : Equation). x.register < registers) (there_is (own target right) equation e) below

made_there : (registers : ℕ) (act : Act) → ActFits registers act → (equation : Equation) → made_by act ≡ Some equation → equation.register < registers
made_there registers Nop fits equation e = cc (e)
made_there registers (Constant target word) fits equation e = cc (e)
made_there registers (Move target source) fits equation e = own_there registers target (Copy source) equation fits.0 e
made_there registers (Operate op target arguments) fits equation e = own_there registers target (Operation op arguments) equation fits.0 e
made_there registers (Load target global index) fits equation e = own_there registers target (Cell global index) equation fits.0 e
made_there registers (Store global index source) fits equation e = cc (e)
made_there registers (Put source target) fits equation e = cc (e)

equation_there : (registers nodes : ℕ) (i : Instruction) → InstructionFits registers nodes i → (equation : Equation) → equation_by i ≡ Some equation → equation.register < registers
equation_there registers nodes (Do act successor) fits equation e = made_there registers act fits.0 equation e
equation_there registers nodes (Call function arguments target successor) fits equation e = cc (e)
equation_there registers nodes (Branch test taken other) fits equation e = cc (e)
equation_there registers nodes (Return value) fits equation e = cc (e)

are_there : AreThere elimination
are_there = record {
  row = λ registers equation fits. fits.0;
  made = λ registers nodes i before equation fits made. equation_there registers nodes i fits equation made;
}

-- equations that are right at each node, in lists of any length and order
pub sound : (p q : Program FunctionData) → Accepted (AreRight elimination) p q → Keeps (run p) (run q)
sound p q right = facts_keep elimination (λ equations d. All (Holds d) equations) are_sound p q right

-- and rows that are accepted
pub rows_sound : (p q : Program FunctionData) → AllFit IsFunction p → Accepted IsEliminated p q → Keeps (run p) (run q)
rows_sound p q fit accepted = filled_keep elimination are_there (λ equations d. All (Holds d) equations) are_sound p q fit accepted
