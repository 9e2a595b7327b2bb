-- What the pass accepts keeps the meaning of whole programs.
use Rattle.std.proofs.Common.{◌≡◌, ℕ, ◌<◌, List, [], ◌∷◌, length, Option, Some, None, Bool, true, false, cond, refl, sym, ap, subst, arith, inl, inr}
use Rattle.std.specs.Prelude.{All}
use Rattle.std.specs.Option.{option_map}
use Rattle.lang_base.specs.Keeps.{Keeps}
use Rattle.lang_base.specs.declared.program.Program.{Program}
use Rattle.lang_base.specs.Soundness.{AllFit, Accepted}
use Rattle.ints.specs.MachineTable.{machine_table}
use Rattle.rtl_passes_filled.specs.Act.{Act}
use Rattle.rtl_passes_filled.specs.Act.TheVariants.{Nop, Constant, Move, Operate, Load, Store, Put}
use Rattle.rtl_passes_filled.specs.Test.{Test}
use Rattle.rtl_passes_filled.specs.Fits.{ActFits}
use Rattle.rtl_passes_filled.specs.Data.{Data, value_at, put_at}
use Rattle.rtl_passes_filled.specs.Acts.{given, does, holds}
use Rattle.rtl_passes_filled.specs.Instruction.{Instruction}
use Rattle.rtl_passes_filled.specs.Instruction.TheVariants.{Do, Call, Branch, Return}
use Rattle.rtl_passes_filled.specs.Function.{FunctionData, InstructionFits, IsFunction}
use Rattle.rtl_passes_filled.specs.Meaning.{run}
use Rattle.rtl_passes_filled.specs.Effects.{onward, chooses, effect_of, HoldsAfter}
use Rattle.rtl_passes_filled.specs.Rules.{facts_at, LeadsTo, LeadsOn, MayBecome, AreRight}
use Rattle.rtl_passes_filled.proofs.Sound.{AreSound, AreThere, facts_keep, filled_keep}
use Rattle.constprop_check_rules.specs.declared.fact.Fact.{Fact}
use Rattle.constprop_check_rules.specs.Known.{fact_at, known_value, known_behind, decided, arms, folded_act, folded, target_of, written_by, value_by}
use Rattle.constprop_check_rules.specs.Rules.{propagation, IsPropagated}
use Rattle.constprop_check_rules.proofs.Behind.{made_is}
use Rattle.constprop_check_rules.proofs.Holding.{FactsHold, fact_among, decided_holds, operate_known, act_known, call_known}

-- the facts at a node hold
abbrev HoldAt : List (List Fact) → ℕ → Data → Type 0
HoldAt lists n d = FactsHold (facts_at lists n) d

-- ---- what an instruction is made does the same

module _ (facts : List Fact) (d : Data) (hold : FactsHold facts d) where
  act_alike : (act constant : Act) → folded_act act facts ≡ Some constant → does constant d ≡ does act d
  act_alike Nop constant e = cc (e)
  act_alike (Constant target word) constant e = cc (e)
  act_alike (Move target source) constant e = at (fact_at facts source) refl e
    where
      at : (o : Option ℕ) → fact_at facts source ≡ o → option_map (λ w. Constant target w) o ≡ Some constant → does constant d ≡ does (Move target source) d
      at None known e = cc (e)
      at (Some w) known e =
          let is : Constant target w ≡ constant = cc in
          subst (λ a. does a d ≡ does (Move target source) d) is (ap (λ v. Some (put_at target v d)) (sym (hold source w known)))
  act_alike (Operate op target arguments) constant e = at (known_value (Operate op target arguments) facts) refl e
    where
      at : (o : Option ℕ) → known_value (Operate op target arguments) facts ≡ o → option_map (λ w. Constant target w) o ≡ Some constant → does constant d ≡ does (Operate op target arguments) d
      at None known e = cc (e)
      at (Some w) known e =
          let is : Constant target w ≡ constant = cc in
          subst (λ a. does a d ≡ does (Operate op target arguments) d) is (ap (given target d) (sym (operate_known facts d hold arguments (machine_table op) w known)))
  act_alike (Load target global index) constant e = cc (e)
  act_alike (Store global index source) constant e = cc (e)
  act_alike (Put source target) constant e = cc (e)

  folded_alike : (i o : Instruction) → folded i facts ≡ Some o → effect_of o d ≡ effect_of i d
  folded_alike (Do act successor) o e = at (folded_act act facts) refl e
    where
      at : (x : Option Act) → folded_act act facts ≡ x → option_map (λ c. Do c successor) x ≡ Some o → effect_of o d ≡ effect_of (Do act successor) d
      at None known e = cc (e)
      at (Some c) known e =
          let is : Do c successor ≡ o = cc in
          subst (λ a. effect_of a d ≡ effect_of (Do act successor) d) is (ap (onward successor) (act_alike act c known))
  folded_alike (Call function arguments target successor) o e = cc (e)
  folded_alike (Branch test taken other) o e = at (decided test facts) refl e
    where
      at : (x : Option Bool) → decided test facts ≡ x → option_map (λ answer. Do Nop (cond answer taken other)) x ≡ Some o → effect_of o d ≡ effect_of (Branch test taken other) d
      at None known e = cc (e)
      at (Some answer) known e =
          let is : Do Nop (cond answer taken other) ≡ o = cc in
          subst (λ a. effect_of a d ≡ effect_of (Branch test taken other) d) is (ap (chooses taken other d) (sym (decided_holds facts d hold test answer known)))
  folded_alike (Return value) o e = cc (e)

  pub becomes_alike : (i o : Instruction) → MayBecome propagation facts i o → effect_of o d ≡ effect_of i d
  becomes_alike i o (inl same) = ap (λ a. effect_of a d) same
  becomes_alike i o (inr simpler) = folded_alike i o simpler

-- ---- the facts hold where an instruction goes on

-- facts speak of registers that are there
abbrev WithinAt : List (List Fact) → Data → Type 0
WithinAt lists d = (s r w : ℕ) → fact_at (facts_at lists s) r ≡ Some w → r < length d.registers

module _ (lists : List (List Fact)) (n : ℕ) (d : Data) (hold : HoldAt lists n d) (within : WithinAt lists d) where
  -- the facts at a node are known behind this one
  abbrev KnownAt : Instruction → ℕ → Type 0
  KnownAt i s = LeadsTo propagation lists (facts_at lists n) i s

  known_at : (i : Instruction) (s : ℕ) → KnownAt i s → (r w : ℕ) → fact_at (facts_at lists s) r ≡ Some w → known_behind (written_by i) (value_by i (facts_at lists n)) (facts_at lists n) r ≡ Some w
  known_at i s known r w e = fact_among (λ fact. known_behind (written_by i) (value_by i (facts_at lists n)) (facts_at lists n) fact.register ≡ Some fact.word) (facts_at lists s) known.known r w e

  act_leads : (act : Act) (s : ℕ) (o : Option Data) → does act d ≡ o → KnownAt (Do act s) s → HoldsAfter (HoldAt lists) d (onward s o)
  act_leads act s None is known = tt
  act_leads act s (Some e) is known = λ r w said. after e is r w (within s r w said) (known_at (Do act s) s known r w said)
    where
      after : (e : Data) → does act d ≡ Some e → (r w : ℕ) → r < length d.registers → known_behind (written_by (Do act s)) (known_value act (facts_at lists n)) (facts_at lists n) r ≡ Some w → value_at r e ≡ Some w
      after e is = let all = act_known (facts_at lists n) d hold act in let here = rw is at all in here

  arm_leads : (test : Test) (taken other s : ℕ) → KnownAt (Branch test taken other) s → HoldAt lists s d
  arm_leads test taken other s known = λ r w said. hold r w (known_at (Branch test taken other) s known r w said)

  chosen_leads : (test : Test) (taken other : ℕ) (o : Option Bool) → All (KnownAt (Branch test taken other)) (taken ∷ other ∷ []) → HoldsAfter (HoldAt lists) d (chooses taken other d o)
  chosen_leads test taken other None known = tt
  chosen_leads test taken other (Some true) known = arm_leads test taken other taken (known 0 taken (omega arith))
  chosen_leads test taken other (Some false) known = arm_leads test taken other other (known 1 other (omega arith))

  branch_leads : (test : Test) (taken other : ℕ) (x : Option Bool) → decided test (facts_at lists n) ≡ x → All (KnownAt (Branch test taken other)) (arms taken other x) → HoldsAfter (HoldAt lists) d (chooses taken other d (holds test d))
  branch_leads test taken other None is known = chosen_leads test taken other (holds test d) known
  branch_leads test taken other (Some answer) is known =
      subst (λ o. HoldsAfter (HoldAt lists) d (chooses taken other d o)) (sym (decided_holds (facts_at lists n) d hold test answer is))
      (arm_leads test taken other (cond answer taken other) (known 0 (cond answer taken other) (omega arith)))

  pub leads_on : (i : Instruction) → LeadsOn propagation lists (facts_at lists n) i → HoldsAfter (HoldAt lists) d (effect_of i d)
  leads_on (Do act s) leads = act_leads act s (does act d) refl (leads 0 s (omega arith))
  leads_on (Call function arguments target s) leads = λ value e same r w said.
      call_known (facts_at lists n) d hold target value e same r w (within s r w said) (known_at (Call function arguments target s) s (leads 0 s (omega arith)) r w said)
  leads_on (Branch test taken other) leads = branch_leads test taken other (decided test (facts_at lists n)) refl leads
  leads_on (Return value) leads = tt

-- ---- the whole

are_sound : AreSound propagation FactsHold
are_sound = record {
  none = λ d r w said. cc;
  becomes = λ facts d hold i o runs becomes. becomes_alike facts d hold i o becomes;
  leads = λ lists n d hold fit i leads. leads_on lists n d hold (λ s r w said. fact_among (λ (fact : Fact). fact.register < length d.registers) (facts_at lists s) (fit s) r w said) i leads;
}

-- ---- what is filled in speaks of registers that are there

target_there : (registers : ℕ) (act : Act) → ActFits registers act → (r : ℕ) → target_of act ≡ Some r → r < registers
target_there registers Nop fits r e = cc (e)
target_there registers (Constant target word) fits r e = let same : target ≡ r = cc in subst (λ x. x < registers) same fits.0
target_there registers (Move target source) fits r e = let same : target ≡ r = cc in subst (λ x. x < registers) same fits.0
target_there registers (Operate op target arguments) fits r e = let same : target ≡ r = cc in subst (λ x. x < registers) same fits.0
target_there registers (Load target global index) fits r e = let same : target ≡ r = cc in subst (λ x. x < registers) same fits.0
target_there registers (Store global index source) fits r e = cc (e)
target_there registers (Put source None) fits r e = cc (e)
target_there registers (Put source (Some target)) fits r e = let same : target ≡ r = cc in subst (λ x. x < registers) same fits.1

written_there : (registers nodes : ℕ) (i : Instruction) → InstructionFits registers nodes i → (r : ℕ) → written_by i ≡ Some r → r < registers
written_there registers nodes (Do act successor) fits r e = target_there registers act fits.0 r e
written_there registers nodes (Call function arguments None successor) fits r e = cc (e)
written_there registers nodes (Call function arguments (Some target) successor) fits r e = let same : target ≡ r = cc in subst (λ x. x < registers) same fits.0.target
written_there registers nodes (Branch test taken other) fits r e = cc (e)
written_there registers nodes (Return value) fits r e = cc (e)

are_there : AreThere propagation
are_there = record {
  row = λ registers fact fits. fits.0;
  made = λ registers nodes i before fact fits made. written_there registers nodes i fits fact.register (made_is (written_by i) (value_by i before) fact made).0;
}

-- facts that are right at each node, in lists of any length and order
pub sound : (p q : Program FunctionData) → Accepted (AreRight propagation) p q → Keeps (run p) (run q)
sound p q right = facts_keep propagation FactsHold are_sound p q right

-- and rows that are accepted
pub rows_sound : (p q : Program FunctionData) → AllFit IsFunction p → Accepted IsPropagated p q → Keeps (run p) (run q)
rows_sound p q fit accepted = filled_keep propagation are_there FactsHold are_sound p q fit accepted
