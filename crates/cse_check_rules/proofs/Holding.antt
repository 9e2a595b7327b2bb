-- What an equation says, and that those which are known behind an instruction hold of what it leaves.
use Rattle.std.proofs.Common.{◌≡◌, ◌≢◌, ℕ, zero, suc, ◌<◌, ◌%◌, List, [], ◌∷◌, ◌++◌, length, get_or, set, Option, Some, None, Bool, true, false, cond, eqb, refl, sym, ap, ◌∙◌, subst, inl, inr}
use Rattle.std.specs.Prelude.{◌⊎◌, ◌||◌, option_and_then, slice_get, slice_set, nat_lt}
use Rattle.std.specs.Option.{option_map}
use Rattle.std.proofs.lemmas.Bool.{eq-eqb, or_parts, or_left, or_right, both_ways}
use Rattle.std.proofs.lemmas.List.{get_or-set_same, get_or-set_other}
use Rattle.ints.specs.MachineTable.{machine_table}
use Rattle.rtl_acts.specs.declared.arguments.Arguments.TheVariants.{One, Two}
use Rattle.rtl_acts.specs.declared.act.Act.{Act}
use Rattle.rtl_acts.specs.declared.act.Act.TheVariants.{Nop, Constant, Move, Operate, Load, Store, Put}
use Rattle.rtl_acts.specs.Data.{Data, value_at, put_at}
use Rattle.rtl_acts.specs.Acts.{pair_of, words_of, given, with_result, word_in, changed, stored, printing, does}
use Rattle.constprop_check_rules.specs.Known.{target_of}
use Rattle.cse_check_rules.specs.declared.equation.RightSide.{RightSide}
use Rattle.cse_check_rules.specs.declared.equation.RightSide.TheVariants.{Operation, Cell, Copy}
use Rattle.cse_check_rules.specs.declared.equation.Equation.{Equation}
use Rattle.cse_check_rules.specs.Equations.{reads, names, equation_of, made_by, loads, loads_from, act_disturbs, overwrites}

-- the word that a right side gives, if it gives one
abbrev pub gives : RightSide → Data → Option ℕ
gives (Operation op arguments) d = option_and_then (machine_table op) (words_of arguments d)
gives (Cell global index) d = option_and_then (word_in (slice_get d.globals global)) (value_at index d)
gives (Copy source) d = value_at source d

-- the register holds what the right side gives: the same word, or nothing defined
abbrev pub Holds : Data → Equation → Type 0
Holds d equation = value_at equation.register d ≡ gives equation.right d

-- a right side finds the same cells
abbrev SameCells : RightSide → List (List ℕ) → List (List ℕ) → Type 0
SameCells (Operation op arguments) before after = Unit {0}
SameCells (Cell global index) before after = slice_get after global ≡ slice_get before global
SameCells (Copy source) before after = Unit {0}

same_cells : (right : RightSide) (cells : List (List ℕ)) → SameCells right cells cells
same_cells (Operation op arguments) cells = tt
same_cells (Cell global index) cells = refl
same_cells (Copy source) cells = tt

-- where a right side reads the same registers and cells, it gives the same
abbrev SameReads : RightSide → Data → Data → Type 0
SameReads right d e = (r : ℕ) → reads right r ≡ true → value_at r e ≡ value_at r d

itself : (a : ℕ) → eqb a a ≡ true
itself a = eq-eqb a a refl

gives_same : (right : RightSide) (d e : Data) → SameReads right d e → SameCells right d.globals e.globals → gives right e ≡ gives right d
gives_same (Operation op (One a)) d e same cells = ap (λ v. option_and_then (machine_table op) (option_map (λ x. x ∷ []) v)) (same a (itself a))
gives_same (Operation op (Two a b)) d e same cells =
    let first = same a (or_left (eqb a a) (eqb b a) (itself a)) in
    let second = same b (or_right (eqb a b) (eqb b b) (itself b)) in
    λ i. option_and_then (machine_table op) (pair_of (first i) (second i))
gives_same (Cell global index) d e same cells =
    let read = same index (itself index) in
    λ i. option_and_then (word_in (cells i)) (read i)
gives_same (Copy source) d e same cells = same source (itself source)

get-set_other : (xs : List (List ℕ)) (i j : ℕ) (x : List ℕ) → j ≢ i → slice_get (slice_set xs i x) j ≡ slice_get xs j
get-set_other [] i j x other = refl
get-set_other (y ∷ xs) zero zero x other = absurd (other refl)
get-set_other (y ∷ xs) zero (suc j) x other = refl
get-set_other (y ∷ xs) (suc i) zero x other = refl
get-set_other (y ∷ xs) (suc i) (suc j) x other = get-set_other xs i j x (λ (e : j ≡ i). other (ap suc e))

-- registers other than the one that is written
module _ (d e : Data) (registers : e.registers ≡ d.registers) (t : ℕ) (v : Option ℕ) where
  other_same : (r : ℕ) → r ≢ t → value_at r (put_at t v e) ≡ value_at r d
  other_same r other = ap (λ rs. get_or (set rs t v) r None) registers ∙ get_or-set_other d.registers t r v None other

  unread_same : (right : RightSide) → reads right t ≡ false → SameReads right d (put_at t v e)
  unread_same right unread r read = other_same r (λ (is : r ≡ t). both_ways (reads right r) (ap (reads right) is ∙ unread) read)

  -- an equation that does not name the register still holds
  pub kept : (equation : Equation) → SameCells equation.right d.globals e.globals → names equation t ≡ false → Holds d equation → Holds (put_at t v e) equation
  kept equation cells unnamed holds =
      let parts = or_parts (eqb equation.register t) (reads equation.right t) unnamed in
      let other : equation.register ≢ t = λ (is : equation.register ≡ t). both_ways (eqb equation.register t) parts.0 (eq-eqb equation.register t is) in
      other_same equation.register other ∙ holds ∙ sym (gives_same equation.right d (put_at t v e) (unread_same equation.right parts.1) cells)

module _ (d : Data) where
  -- an equation of these was made, or it held and was not killed
  abbrev pub MadeOrKept : Option Equation → Bool → Equation → Type 0
  MadeOrKept made killed equation = (made ≡ Some equation) ⊎ (Holds d equation × (killed ≡ false))

  -- what was put into a register is what the right side gave
  written_holds : (t : ℕ) (right : RightSide) (v : Option ℕ) → gives right d ≡ v → (equation : Equation) → equation.register < length d.registers → MadeOrKept (equation_of t right) (names equation t || false) equation → Holds (put_at t v d) equation
  written_holds t right v is equation within (inr before) = kept d d refl t v equation (same_cells equation.right d.globals) (or_parts (names equation t) false before.1).0 before.0
  written_holds t right v is equation within (inl made) = at (reads right t) refl made
    where
      at : (b : Bool) → reads right t ≡ b → cond b None (Some (record { register = t; right = right })) ≡ Some equation → Holds (put_at t v d) equation
      at true read e = cc (e)
      at false unread e =
          let same : record { register = t; right = right } ≡ equation = cc in
          let there : t < length d.registers = subst (λ (q : Equation). q.register < length d.registers) (sym same) within in
          subst (Holds (put_at t v d)) same (get_or-set_same d.registers t v None there ∙ sym is ∙ sym (gives_same right d (put_at t v d) (unread_same d d refl t v right unread) (same_cells right d.globals)))

  -- what is known behind an act
  abbrev ActHolds : Act → Option Data → Type 0
  ActHolds act None = Unit {0}
  ActHolds act (Some e) = (equation : Equation) → equation.register < length d.registers → MadeOrKept (made_by act) (overwrites (target_of act) equation || act_disturbs act equation.right) equation → Holds e equation

  given_holds : (act : Act) (t : ℕ) (right : RightSide) (v : Option ℕ) → gives right d ≡ v → made_by act ≡ equation_of t right → target_of act ≡ Some t → ((r : RightSide) → act_disturbs act r ≡ false) → ActHolds act (given t d v)
  given_holds act t right None is makes writes leaves = tt
  given_holds act t right (Some w) is makes writes leaves = λ equation within known.
      written_holds t right (Some w) is equation within
      (subst (λ b. MadeOrKept (equation_of t right) (names equation t || b) equation) (leaves equation.right)
      (subst (λ target. MadeOrKept (equation_of t right) (overwrites target equation || act_disturbs act equation.right) equation) writes
      (subst (λ made. MadeOrKept made (overwrites (target_of act) equation || act_disturbs act equation.right) equation) makes known)))

  -- where no equation is made and a register is written, what does not name it still holds
  unmade_holds : (e : Data) → e.registers ≡ d.registers → e.globals ≡ d.globals → (t : ℕ) (v : Option ℕ) (equation : Equation) → MadeOrKept None (names equation t || false) equation → Holds (put_at t v e) equation
  unmade_holds e registers globals t v equation (inl made) = cc (made)
  unmade_holds e registers globals t v equation (inr before) =
      kept d e registers t v equation (subst (SameCells equation.right d.globals) (sym globals) (same_cells equation.right d.globals)) (or_parts (names equation t) false before.1).0 before.0

  -- where none is written
  unwritten_holds : (e : Data) → e.registers ≡ d.registers → (equation : Equation) → SameCells equation.right d.globals e.globals → Holds d equation → Holds e equation
  unwritten_holds e registers equation cells holds =
      ap (λ rs. get_or rs equation.register None) registers ∙ holds ∙ sym (gives_same equation.right d e (λ r read. ap (λ rs. get_or rs r None) registers) cells)

  -- a store leaves the cells of other globals
  stored_cells : (right : RightSide) (g : ℕ) (cells : List ℕ) → loads_from right g ≡ false → SameCells right d.globals (slice_set d.globals g cells)
  stored_cells (Operation op arguments) g cells other = tt
  stored_cells (Cell global index) g cells other = get-set_other d.globals g global cells (λ (is : global ≡ g). both_ways (eqb global g) other (eq-eqb global g is))
  stored_cells (Copy source) g cells other = tt

  changed_holds : (global index source i w : ℕ) (cells : Option (List ℕ)) → ActHolds (Store global index source) (changed d global i w cells)
  changed_holds global index source i w None = tt
  changed_holds global index source i w (Some cells) = at (nat_lt i (length cells))
    where
      kept_over : (equation : Equation) → MadeOrKept None (loads_from equation.right global) equation → Holds (record d { globals = slice_set d.globals global (slice_set cells i w) }) equation
      kept_over equation (inl made) = cc (made)
      kept_over equation (inr before) = unwritten_holds (record d { globals = slice_set d.globals global (slice_set cells i w) }) refl equation (stored_cells equation.right global (slice_set cells i w) before.1) before.0

      at : (b : Bool) → ActHolds (Store global index source) (cond b (Some (record d { globals = slice_set d.globals global (slice_set cells i w) })) None)
      at true = λ equation within known. kept_over equation known
      at false = tt

  stored_holds : (global index source : ℕ) (i w : Option ℕ) → ActHolds (Store global index source) (stored d global i w)
  stored_holds global index source None w = tt
  stored_holds global index source (Some i) None = tt
  stored_holds global index source (Some i) (Some w) = changed_holds global index source i w (slice_get d.globals global)

  still_holds : (equation : Equation) → MadeOrKept None false equation → Holds d equation
  still_holds equation (inl made) = cc (made)
  still_holds equation (inr before) = before.0

  put_holds : (source : ℕ) (target : Option ℕ) (w : Option ℕ) → ActHolds (Put source target) (option_map (printing target d) w)
  put_holds source target None = tt
  put_holds source None (Some v) = λ equation within known.
      unwritten_holds (record d { output = d.output ++ v % 256 ∷ [] }) refl equation (same_cells equation.right d.globals) (still_holds equation known)
  put_holds source (Some t) (Some v) = λ equation within known. unmade_holds (record d { output = d.output ++ v % 256 ∷ [] }) refl refl t (Some (v % 256)) equation known

  pub act_holds : (act : Act) → ActHolds act (does act d)
  act_holds Nop = λ equation within known. still_holds equation known
  act_holds (Constant t w) = λ equation within known. unmade_holds d refl refl t (Some w) equation known
  act_holds (Move t s) = λ equation within known. written_holds t (Copy s) (value_at s d) refl equation within known
  act_holds (Operate op t arguments) = given_holds (Operate op t arguments) t (Operation op arguments) _ refl refl refl (λ r. refl)
  act_holds (Load t global index) = given_holds (Load t global index) t (Cell global index) _ refl refl refl (λ r. refl)
  act_holds (Store global index source) = stored_holds global index source (value_at index d) (value_at source d)
  act_holds (Put source t) = put_holds source t (value_at source d)

  unloaded_cells : (right : RightSide) (after : List (List ℕ)) → loads right ≡ false → SameCells right d.globals after
  unloaded_cells (Operation op arguments) after none = tt
  unloaded_cells (Cell global index) after none = absurd (let no : true ≡ false = none in cc)
  unloaded_cells (Copy source) after none = tt

  -- what is known behind a call, of whatever result
  pub call_holds : (target value : Option ℕ) (e : Data) → e.registers ≡ d.registers → (equation : Equation) → MadeOrKept None (overwrites target equation || loads equation.right) equation → Holds (with_result target value e) equation
  call_holds target value e registers equation (inl made) = cc (made)
  call_holds None value e registers equation (inr before) = unwritten_holds e registers equation (unloaded_cells equation.right e.globals before.1) before.0
  call_holds (Some t) value e registers equation (inr before) =
      let parts = or_parts (names equation t) (loads equation.right) before.1 in
      kept d e registers t value equation (unloaded_cells equation.right e.globals parts.1) parts.0 before.0
