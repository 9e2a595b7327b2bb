-- What is used and what is live, of functions in range.
use Rattle.std.proofs.Common.{◌≡◌, ℕ, zero, suc, ◌<◌, List, [], ◌∷◌, length, Option, Some, None, false, refl, ap, subst, inl, inr}
use Rattle.std.specs.Prelude.{◌≢◌, slice_get, Contains}
use Rattle.std.specs.List.{AllByRecursion}
use Rattle.std.proofs.lemmas.Bool.{cases_lt, eqb-false, ne_eqb}
use Rattle.std.proofs.lemmas.List.Elements.{All-from_recursion, All-contains}
use Rattle.std.proofs.lemmas.Option.{slice_get_past, same_Some}
use Rattle.ints.specs.Codes.{argument_count_of}
use Rattle.ints.specs.Conditions.{cond_argument_count_of}
use Rattle.rtl_acts.specs.declared.arguments.Arguments.{Arguments}
use Rattle.rtl_acts.specs.declared.arguments.Arguments.TheVariants.{One, Two}
use Rattle.rtl_acts.specs.declared.act.Act.{Act}
use Rattle.rtl_acts.specs.declared.act.Act.TheVariants.{Nop, Constant, Move, Operate, Load, Store, Put}
use Rattle.rtl_acts.specs.Fits.{RegisterFits, ArgumentsFit, ActFits}
use Rattle.rtl_language.specs.declared.instruction.Instruction.{Instruction}
use Rattle.rtl_language.specs.declared.instruction.Instruction.TheVariants.{Do, Call, Branch, Return}
use Rattle.rtl_language.specs.Function.{FunctionData, IsFunction, InstructionFits}
use Rattle.alloc_check_live.specs.Liveness.{named, used_by_act, used_by, used_of, onward_of, LivesFor, IsLive}
use Rattle.alloc_check_live.specs.Walks.{is_that}
use Rattle.alloc_check_live.proofs.Tables.{none_of}

-- ---- whether it is that register

pub not_that : (o : Option ℕ) (p : ℕ) → is_that o p ≡ false → o ≢ Some p
not_that None p e same = cc (same)
not_that (Some x) p e same = eqb-false x p e (same_Some x p same)

pub is_not_that : (o : Option ℕ) (p : ℕ) → o ≢ Some p → is_that o p ≡ false
is_not_that None p other = refl
is_not_that (Some x) p other = ne_eqb x p (λ e. other (ap (λ y. Some y) e))

-- ---- nodes

-- what is live is so at a node that is there
pub live_within : (nodes : List Instruction) (steps n p : ℕ) → LivesFor nodes steps n p → n < length nodes
live_within nodes steps n p lives =
    elim (cases_lt n (length nodes)) as (λ _. n < length nodes) [
      | inl less ↦ less
      | inr past ↦ nowhere steps (slice_get_past nodes n past) lives
    ]
  where
    nowhere : (steps : ℕ) → slice_get nodes n ≡ None → LivesFor nodes steps n p → n < length nodes
    nowhere zero none h = none_of p (subst (λ o. Contains (used_of o) p) none h)
    nowhere (suc steps) none h = none_of h.0 (subst (λ o. Contains (onward_of o) h.0) none h.2)

-- ---- registers in range

module _ (count : ℕ) where
  named_fit : (number : ℕ) (names : Arguments) → ArgumentsFit count number names → AllByRecursion (RegisterFits count) (named names)
  named_fit number (One a) fits = (fits.1, tt)
  named_fit number (Two a b) fits = (fits.1, (fits.2, tt))

  act_fits : (a : Act) → ActFits count a → AllByRecursion (RegisterFits count) (used_by_act a)
  act_fits Nop fits = tt
  act_fits (Constant target word) fits = tt
  act_fits (Move target source) fits = (fits.1, tt)
  act_fits (Operate op target names) fits = named_fit (argument_count_of op) names fits.1
  act_fits (Load target global index) fits = (fits.2, tt)
  act_fits (Store global index source) fits = (fits.1, (fits.2, tt))
  act_fits (Put source target) fits = (fits.0, tt)

  uses_fit : (nodes : ℕ) (i : Instruction) → InstructionFits count nodes i → AllByRecursion (RegisterFits count) (used_by i)
  uses_fit nodes (Do a s) fits = act_fits a fits.0
  uses_fit nodes (Call f names target s) fits = fits.0.arguments
  uses_fit nodes (Branch test s o) fits = named_fit (cond_argument_count_of test.condition) test.arguments fits.0
  uses_fit nodes (Return None) fits = tt
  uses_fit nodes (Return (Some value)) fits = (fits, tt)

  used_fits : (nodes : ℕ) (is : List Instruction) → AllByRecursion (InstructionFits count nodes) is → (n p : ℕ) → Contains (used_of (slice_get is n)) p → p < count
  used_fits nodes [] fits n p h = none_of p h
  used_fits nodes (i ∷ is) fits zero p h = All-contains (RegisterFits count) (used_by i) p (All-from_recursion (RegisterFits count) (used_by i) (uses_fit nodes i fits.0)) h
  used_fits nodes (i ∷ is) fits (suc n) p h = used_fits nodes is fits.1 n p h

-- what is live is a register of the function
pub live_fits : (f : FunctionData) → IsFunction f → (n p : ℕ) → IsLive f.nodes n p → p < f.registers
live_fits f fits n p live = by live.0 n live.1
  where
    by : (steps n : ℕ) → LivesFor f.nodes steps n p → p < f.registers
    by zero n h = used_fits f.registers (length f.nodes) f.nodes fits.each n p h
    by (suc steps) n (m, other, leads, h) = by steps m h
