-- The function in slots is accepted with lists of registers that are closed under the rules.
use Rattle.std.proofs.Common.{◌≡◌, ◌≢◌, ℕ, zero, suc, ◌<◌, ◌≤◌, List, [], ◌∷◌, length, get_or, Option, Some, None, Bool, true, false, refl, sym, ap, ◌∙◌, subst, arith, inl, inr}
use Rattle.std.specs.Prelude.{map, All, Contains, slice_get, nat_eq, ◌&&◌, if◌then◌else◌}
use Rattle.std.specs.Option.{option_map}
use Rattle.std.specs.List.{AllByRecursion}
use Rattle.std.proofs.lemmas.Bool.{cases_eq, eq-eqb, eqb-false, and_from}
use Rattle.std.proofs.lemmas.List.{length-map, get_or_default}
use Rattle.std.proofs.lemmas.List.Elements.{All-map, All-from_recursion, recursion_from_All, Contains-get_or}
use Rattle.std.proofs.lemmas.Option.{slice_get-map, same_Some}
use Rattle.ints.specs.Codes.{code_of}
use Rattle.ints.specs.Conditions.{cond_code_of}
use Rattle.locations.specs.declared.location.Location.TheVariants.{InRegister, InSlot}
use Rattle.locations.specs.declared.location.Move as location_move
use Rattle.locations.specs.Reading.{same_location}
use Rattle.rtl_acts.specs.declared.arguments.Arguments.{Arguments}
use Rattle.rtl_acts.specs.declared.arguments.Arguments.TheVariants.{One, Two}
use Rattle.rtl_acts.specs.declared.act.Act.{Act}
use Rattle.rtl_acts.specs.declared.act.Act.TheVariants.{Nop, Constant, Move, Operate, Load, Store, Put}
use Rattle.rtl_language.specs.declared.instruction.Instruction.{Instruction}
use Rattle.rtl_language.specs.declared.instruction.Instruction.TheVariants.{Do, Call, Branch, Return}
use Rattle.rtl_language.specs.Function.{FunctionData, IsFunction}
use Rattle.ltl.specs.declared.block.Block.{Block}
use Rattle.alloc_check_rules.specs.declared.equation.Equation.{Equation}
use Rattle.alloc_check_rules.specs.declared.change.Change.{Change}
use Rattle.alloc_check_rules.specs.declared.change.Change.TheVariants.{Nothing, Defines, Copies}
use Rattle.alloc_check_rules.specs.declared.demand.Demand.{Demand}
use Rattle.alloc_check_rules.specs.declared.demand.Demand.TheVariants.{Met, Refused, Needs}
use Rattle.alloc_check_rules.specs.Equations.{over_call, demand}
use Rattle.alloc_check_rules.specs.Pairs.{equations_of, arguments_used, act_uses, uses, change_of, act_change, result_change, same_number, successors_of}
use Rattle.alloc_check_rules.specs.Rules.{baseline_limit, equations_at, IsInOrder, IsGiven, IsAnswered, IsCarried, StandsFor, HoldsAtEntry, IsRightAs, IsAllocated}
use Rattle.alloc_check_live.specs.Liveness.{named, used_by_act, used_by, defined_by_act, defined_by, used_of, defined_of, onward_of}
use Rattle.alloc_check_live.specs.Lists.{registers_at, RisesFrom, AreLive}
use Rattle.alloc_check_live.proofs.Lives.{live_fits}
use Rattle.alloc_check.specs.Slots.{slot, fetch, arguments_before, arguments_in, act_before, act_in, before_in, body_in, block_in, function_in, own}
use Rattle.alloc_check.proofs.Fits.{slot_tells}
use Rattle.alloc_check.proofs.Owns.{own_has, own_at, own_in_order}

-- ---- what a block defines

abbrev act_defines : Act → Change
act_defines Nop = Nothing
act_defines (Constant target word) = Defines target (InRegister 0)
act_defines (Move target source) = Copies target source
act_defines (Operate op target names) = Defines target (InRegister 0)
act_defines (Load target global index) = Defines target (InRegister 0)
act_defines (Store global index source) = Nothing
act_defines (Put source None) = Nothing
act_defines (Put source (Some target)) = Defines target (InRegister 0)

abbrev result_defines : Option ℕ → Change
result_defines None = Nothing
result_defines (Some r) = Defines r (InSlot r)

abbrev defines : Instruction → Change
defines (Do a successor) = act_defines a
defines (Call function names target successor) = result_defines target
defines (Branch test taken other) = Nothing
defines (Return value) = Nothing

choose : {A : Type 0} (b : Bool) (x y : A) → b ≡ true → (if b then x else y) ≡ x
choose true x y is = refl
choose false x y is = absurd (let impossible : false ≡ true = is in cc)

itself : (n : ℕ) → nat_eq n n ≡ true
itself n = eq-eqb n n refl

as_many : (names : Arguments) → same_number names (arguments_in names) ≡ true
as_many (One a) = refl
as_many (Two a b) = refl

act_is : (a : Act) → act_change a (act_in a) ≡ Some (act_defines a)
act_is Nop = refl
act_is (Constant target word) = choose (nat_eq word word) _ _ (itself word)
act_is (Move target source) = refl
act_is (Operate op target names) =
    choose (nat_eq (code_of op) (code_of op) && same_number names (arguments_in names)) _ _ (and_from (nat_eq (code_of op) (code_of op)) (same_number names (arguments_in names)) (itself (code_of op)) (as_many names))
act_is (Load target global index) = choose (nat_eq global global) _ _ (itself global)
act_is (Store global index source) = choose (nat_eq global global) _ _ (itself global)
act_is (Put source None) = refl
act_is (Put source (Some target)) = refl

result_is : (target : Option ℕ) → result_change target (option_map slot target) ≡ Some (result_defines target)
result_is None = refl
result_is (Some r) = refl

change_is : (i : Instruction) → change_of i (body_in i) ≡ Some (defines i)
change_is (Do a s) = choose (nat_eq s s) (act_change a (act_in a)) None (itself s) ∙ act_is a
change_is (Call f names target s) =
    let many : nat_eq (length names) (length (map slot names)) ≡ true = eq-eqb (length names) (length (map slot names)) (sym (length-map names slot)) in
    let both = and_from (nat_eq f f) (nat_eq (length names) (length (map slot names))) (itself f) many in
    choose (nat_eq f f && nat_eq (length names) (length (map slot names)) && nat_eq s s) (result_change target (option_map slot target)) None (and_from (nat_eq f f && nat_eq (length names) (length (map slot names))) (nat_eq s s) both (itself s)) ∙ result_is target
change_is (Branch test s o) =
    let code = cond_code_of test.condition in
    let test_is = and_from (nat_eq code code) (same_number test.arguments (arguments_in test.arguments)) (itself code) (as_many test.arguments) in
    let both = and_from (nat_eq code code && same_number test.arguments (arguments_in test.arguments)) (nat_eq s s) test_is (itself s) in
    choose (nat_eq code code && same_number test.arguments (arguments_in test.arguments) && nat_eq s s && nat_eq o o) (Some Nothing) None (and_from (nat_eq code code && same_number test.arguments (arguments_in test.arguments) && nat_eq s s) (nat_eq o o) both (itself o))
change_is (Return None) = refl
change_is (Return (Some value)) = refl

-- ---- the equations behind a block hold by those before it

-- a definition of this register, or of another
abbrev kept : Bool → ℕ → Demand
kept b p =
    if b then (if same_location (InRegister 0) (if b then InRegister 0 else InSlot p) then Met else Refused)
    else (if same_location (InRegister 0) (if b then InRegister 0 else InSlot p) then Refused else Needs (record { register = p; location = if b then InRegister 0 else InSlot p }))

abbrev copied : Bool → ℕ → ℕ → Demand
copied b p source =
    if b then Needs (record { register = source; location = if b then InRegister 0 else InSlot p })
    else Needs (record { register = p; location = if b then InRegister 0 else InSlot p })

abbrev called : Bool → ℕ → Demand
called b p = over_call (if b then (if b then Met else Refused) else (if b then Refused else Needs (own p)))

other_target : (target p : ℕ) → nat_eq target p ≡ false → Some target ≢ Some p
other_target target p e same = eqb-false target p e (same_Some target p same)

none_defined : (p : ℕ) → None ≢ Some p
none_defined p same = cc (same)

-- a node, with the registers that its list has
module _ (registers : List ℕ) where
  abbrev here : List Equation
  here = map own registers

  has : (r : ℕ) → Contains registers r → Contains here (own r)
  has r h = own_has registers r h

  is_kept : (b : Bool) (p : ℕ) (before : List location_move.Move) → (b ≡ false → IsGiven here before (own p)) → IsAnswered here before (kept b p)
  is_kept true p before given = tt
  is_kept false p before given = given refl

  is_copied : (b : Bool) (p source : ℕ) → (b ≡ false → Contains registers p) → Contains registers source → IsAnswered here (fetch 0 source ∷ []) (copied b p source)
  is_copied true p source there also = has source also
  is_copied false p source there also = has p (there refl)

  is_called : (b : Bool) (p : ℕ) → (b ≡ false → Contains registers p) → IsAnswered here [] (called b p)
  is_called true p there = tt
  is_called false p there = has p (there refl)

  -- moves to registers leave slots
  still : (names : Arguments) (p : ℕ) → Contains registers p → IsGiven here (arguments_before names) (own p)
  still (One a) p there = has p there
  still (Two a b) p there = has p there

  act_answered : (a : Act) (s p : ℕ) → All (Contains registers) (used_by_act a) → (defined_by_act a ≢ Some p → Contains registers p) → IsAnswered here (act_before a) (demand (body_in (Do a s)) (act_defines a) (own p))
  act_answered Nop s p uses there = has p (there (none_defined p))
  act_answered (Constant target word) s p uses there = is_kept (nat_eq target p) p [] (λ e. has p (there (other_target target p e)))
  act_answered (Move target source) s p uses there = is_copied (nat_eq target p) p source (λ e. there (other_target target p e)) (uses 0 source (omega arith))
  act_answered (Operate op target names) s p uses there = is_kept (nat_eq target p) p (arguments_before names) (λ e. still names p (there (other_target target p e)))
  act_answered (Load target global index) s p uses there = is_kept (nat_eq target p) p (fetch 0 index ∷ []) (λ e. has p (there (other_target target p e)))
  act_answered (Store global index source) s p uses there = has p (there (none_defined p))
  act_answered (Put source None) s p uses there = has p (there (none_defined p))
  act_answered (Put source (Some target)) s p uses there = is_kept (nat_eq target p) p (fetch 0 source ∷ []) (λ e. has p (there (other_target target p e)))

  answered : (i : Instruction) (p : ℕ) → All (Contains registers) (used_by i) → (defined_by i ≢ Some p → Contains registers p) → IsAnswered here (before_in i) (demand (body_in i) (defines i) (own p))
  answered (Do a s) p uses there = act_answered a s p uses there
  answered (Call f names None s) p uses there = has p (there (none_defined p))
  answered (Call f names (Some target) s) p uses there = is_called (nat_eq target p) p (λ e. there (other_target target p e))
  answered (Branch test s o) p uses there = still test.arguments p (there (none_defined p))
  answered (Return None) p uses there = has p (there (none_defined p))
  answered (Return (Some value)) p uses there = has p (there (none_defined p))

  -- ---- what is used

  arguments_have : (names : Arguments) → All (Contains registers) (named names) → AllByRecursion (IsGiven here (arguments_before names)) (arguments_used names (arguments_in names))
  arguments_have (One a) uses = (has a (uses 0 a (omega arith)), tt)
  arguments_have (Two a b) uses = (has a (uses 0 a (omega arith)), (has b (uses 1 b (omega arith)), tt))

  act_has : (a : Act) → All (Contains registers) (used_by_act a) → AllByRecursion (IsGiven here (act_before a)) (act_uses a (act_in a))
  act_has Nop uses = tt
  act_has (Constant target word) uses = tt
  act_has (Move target source) uses = tt
  act_has (Operate op target names) uses = arguments_have names uses
  act_has (Load target global index) uses = (has index (uses 0 index (omega arith)), tt)
  act_has (Store global index source) uses = (has index (uses 0 index (omega arith)), (has source (uses 1 source (omega arith)), tt))
  act_has (Put source None) uses = (has source (uses 0 source (omega arith)), tt)
  act_has (Put source (Some target)) uses = (has source (uses 0 source (omega arith)), tt)

  call_has : (names : List ℕ) → AllByRecursion (Contains registers) names → AllByRecursion (IsGiven here []) (equations_of names (map slot names))
  call_has [] uses = tt
  call_has (r ∷ rs) uses = (has r uses.0, call_has rs uses.1)

  uses_have : (i : Instruction) → All (Contains registers) (used_by i) → AllByRecursion (IsGiven here (before_in i)) (uses i (body_in i))
  uses_have (Do a s) there = act_has a there
  uses_have (Call f names target s) there = call_has names (recursion_from_All (Contains registers) names there)
  uses_have (Branch test s o) there = arguments_have test.arguments there
  uses_have (Return None) there = tt
  uses_have (Return (Some value)) there = (has value (there 0 value (omega arith)), tt)

-- ---- lists that are closed

-- What a node uses is in its list, and so is what is in the list of a successor and not defined by the node; each list is
-- of registers, and rises.
pub record IsClosed (f : FunctionData) (lists : List (List ℕ)) : Type 0 where
  pub count : length lists ≡ length f.nodes
  pub fit : (n p : ℕ) → Contains (registers_at lists n) p → p < f.registers
  pub rising : (n : ℕ) → RisesFrom 0 (registers_at lists n)
  pub uses : (n p : ℕ) → Contains (used_of (slice_get f.nodes n)) p → Contains (registers_at lists n) p
  pub onward : (n m p : ℕ) → defined_of (slice_get f.nodes n) ≢ Some p → Contains (onward_of (slice_get f.nodes n)) m → Contains (registers_at lists m) p → Contains (registers_at lists n) p

-- the lists of live registers are
pub closed_live : (f : FunctionData) (lists : List (List ℕ)) → IsFunction f → AreLive f.nodes lists → IsClosed f lists
closed_live f lists fits live = record {
  count = live.count;
  fit = λ n p h. live_fits f fits n p ((live.exactly n p).0 h);
  rising = live.rising;
  uses = λ n p h. (live.exactly n p).1 (0, h);
  onward = λ n m p other leads h. let there = (live.exactly m p).0 h in (live.exactly n p).1 (suc there.0, (m, other, leads, there.1));
}

-- ---- at the entry

-- a register is a parameter, and so is its slot; or neither is
entry_holds : (rs : List ℕ) (p : ℕ) → HoldsAtEntry rs (map slot rs) (own p)
entry_holds [] p = inr (record { register = λ k d within. absurd (omega (arith, within)); location = λ k d within. absurd (omega (arith, within)) })
entry_holds (r ∷ rs) p = elim (cases_eq r p) [
  | inl same ↦ inl (0, omega arith, ap own same)
  | inr other ↦ elim (entry_holds rs p) [
    | inl among ↦ inl (suc among.0, omega (arith, among.1), among.2)
    | inr none ↦ inr (record {
      register = behind (λ q. q ≢ p) r rs other none.register;
      location = behind (λ l. l ≢ slot p) (slot r) (map slot rs) (λ same. other (slot_tells r p same)) none.location;
    })
  ]
]
  where
    behind : {A : Type 0} (P : A → Type 0) (x : A) (xs : List A) → P x → All P xs → All P (x ∷ xs)
    behind P x xs here all zero d within = here
    behind P x xs here all (suc k) d within = all k d (omega (arith, within))

-- ---- at each node

-- what holds of the own equation of each register in a list holds of those at the node
each_at : (P : Equation → Type 0) (lists : List (List ℕ)) (n : ℕ) → ((p : ℕ) → Contains (registers_at lists n) p → P (own p)) → All P (equations_at (map (map own) lists) n)
each_at P lists n holds =
    subst (All P) (sym (own_at lists n)) (All-map P own (registers_at lists n) (λ k d below. holds (get_or (registers_at lists n) k d) (Contains-get_or (registers_at lists n) k d below)))

pub accepted : (f : FunctionData) (lists : List (List ℕ)) → f.registers ≤ baseline_limit → IsClosed f lists → IsAllocated f (function_in f) (map (map own) lists)
accepted f lists few closed = record {
  shape = record {
    parameters = length-map f.parameters slot;
    entry = refl;
    nodes = length-map f.nodes block_in;
    count = length-map lists (map own) ∙ closed.count;
    each = All-map (IsInOrder f.registers f.registers) (map own) lists
        (λ k d below. subst (λ rs. IsInOrder f.registers f.registers (map own rs)) (get_or_default lists k [] d below) (own_in_order f.registers (registers_at lists k) (omega (arith, few)) (closed.fit k) (closed.rising k)));
  };
  nodes = λ n below i b e e'. right n below i b e e';
}
  where
    right : (n : ℕ) → n < length f.nodes → (i : Instruction) (b : Block) → slice_get f.nodes n ≡ Some i → slice_get (map block_in f.nodes) n ≡ Some b → IsRightAs f (function_in f) (map (map own) lists) n i b
    right n below i b e e' =
        let mapped = slice_get-map block_in f.nodes n in
        let made : option_map block_in (slice_get f.nodes n) ≡ Some (block_in i) = ap (option_map block_in) e in
        let same : block_in i ≡ b = cc in
        let there : All (Contains (registers_at lists n)) (used_by i) = λ k d within. closed.uses n (get_or (used_by i) k d) (subst (λ o. Contains (used_of o) (get_or (used_by i) k d)) (sym e) (Contains-get_or (used_by i) k d within)) in
        let leads : (k d p : ℕ) → k < length (successors_of i) → Contains (registers_at lists (get_or (successors_of i) k d)) p → defined_by i ≢ Some p → Contains (registers_at lists n) p =
        λ k d p within h other. closed.onward n (get_or (successors_of i) k d) p (subst (λ o. defined_of o ≢ Some p) (sym e) other) (subst (λ o. Contains (onward_of o) (get_or (successors_of i) k d)) (sym e) (Contains-get_or (successors_of i) k d within)) h in
        let carried : IsCarried (map (map own) lists) (map own (registers_at lists n)) i (block_in i) (defines i) = record {
          uses = All-from_recursion (IsGiven (map own (registers_at lists n)) (before_in i)) (uses i (body_in i)) (uses_have (registers_at lists n) i there);
          leads = λ k d within. record {
            answered = each_at (λ q. IsAnswered (map own (registers_at lists n)) (before_in i) (demand (body_in i) (defines i) q)) lists (get_or (successors_of i) k d) (λ p h. answered (registers_at lists n) i p there (λ other. leads k d p within h other));
          };
        } in
        let stands = subst (StandsFor (map (map own) lists) (map own (registers_at lists n)) i (block_in i)) (sym (change_is i)) carried in
        subst (λ c. IsRightAs f (function_in f) (map (map own) lists) n i c) same
        (record {
          entry = λ first. each_at (HoldsAtEntry f.parameters (map slot f.parameters)) lists n (λ p there. entry_holds f.parameters p);
          stands = subst (λ es. StandsFor (map (map own) lists) es i (block_in i) (change_of i (body_in i))) (sym (own_at lists n)) stands;
        })
