-- When a block stands for its instruction, told from what it needs.
use Rattle.std.proofs.Common.{◌≡◌, ℕ, List, [], Option, Some, None, Bool, true, false, cond, refl, sym, subst}
use Rattle.std.specs.Prelude.{Contains, map}
use Rattle.std.specs.List.{flat_map, list_any}
use Rattle.alloc_check_rules.specs.Instruction.{Instruction}
use Rattle.alloc_check_rules.specs.Block.{Block}
use Rattle.alloc_check_rules.specs.declared.equation.Equation.{Equation}
use Rattle.alloc_check_rules.specs.declared.change.Change.{Change}
use Rattle.alloc_check_rules.specs.Equations.{back_equation}
use Rattle.alloc_check_rules.specs.Rules.{equations_at, StandsFor}
use Rattle.alloc_check_fill.specs.Fill.{is_refused, demands, inside, needed_as, behind}
use Rattle.alloc_check_fill.specs.Needed.{KeepsAs}
use Rattle.alloc_check_fill.specs.Sets.{Within, SameSet}
use Rattle.alloc_check_fill.proofs.Members.{none_of, joined_has, joined_from}
use Rattle.alloc_check_fill.proofs.Carried.{carried_keeps, carried_has, carried_from, kept_within}

-- ---- sets

pub same_of : (es fs : List Equation) → es ≡ fs → SameSet es fs
same_of es fs is e = (λ among. subst (λ xs. Contains xs e) is among, λ among. subst (λ xs. Contains xs e) (sym is) among)

pub same_through : (es fs gs : List Equation) → SameSet es fs → SameSet fs gs → SameSet es gs
same_through es fs gs first second e = (λ among. (second e).0 ((first e).0 among), λ among. (first e).1 ((second e).1 among))

pub joined_sets : (f g : ℕ → List Equation) (ss : List ℕ) → ((s : ℕ) → Contains ss s → SameSet (f s) (g s)) → SameSet (flat_map f ss) (flat_map g ss)
joined_sets f g ss same e = (
  λ among. let j = joined_from f ss e among in joined_has g ss j.source e j.there ((same j.source j.there e).0 j.among),
  λ among. let j = joined_from g ss e among in joined_has f ss j.source e j.there ((same j.source j.there e).1 j.among),
)

-- ---- one block

module _ (i : Instruction) (b : Block) where
  pub keeps_same : (o : Option Change) (es fs : List Equation) → SameSet es fs → KeepsAs b o es → KeepsAs b o fs
  keeps_same None es fs same keeps = keeps
  keeps_same (Some change) es fs same keeps = kept_within i b change fs es (λ e h. (same e).1 h) keeps

  pub stands_keep : (lists : List (List Equation)) (es : List Equation) (o : Option Change) → StandsFor lists es i b o → KeepsAs b o (behind (equations_at lists) i)
  stands_keep lists es None stands = stands
  stands_keep lists es (Some change) stands = carried_keeps lists es i b change stands

  -- what a block that stands for its instruction needs is there
  pub needs_there : (lists : List (List Equation)) (es : List Equation) (o : Option Change) → StandsFor lists es i b o → Within (needed_as i b o (behind (equations_at lists) i)) es
  needs_there lists es None stands = absurd stands
  needs_there lists es (Some change) stands = λ e among. at (list_any is_refused (demands b change (behind (equations_at lists) i))) e among
    where
      at : (r : Bool) (e : Equation) → Contains (cond r [] (map (back_equation b.before) (inside i b change (behind (equations_at lists) i)))) e → Contains es e
      at true e among = absurd (none_of e among)
      at false e among = carried_has lists es i b change stands e among

  -- a block that breaks no rule stands for its instruction with what has what it needs
  pub keeps_stand : (lists : List (List Equation)) (es : List Equation) (o : Option Change) → KeepsAs b o (behind (equations_at lists) i) → Within (needed_as i b o (behind (equations_at lists) i)) es → StandsFor lists es i b o
  keeps_stand lists es None keeps has = keeps
  keeps_stand lists es (Some change) keeps has = carried_from lists es i b change keeps
      (λ e among. has e (subst (λ r. Contains (cond r [] (map (back_equation b.before) (inside i b change (behind (equations_at lists) i)))) e) (sym keeps) among))

  -- a block that stands for its instruction with more does so with what it needs
  pub needs_suffice : (lists : List (List Equation)) (es : List Equation) (o : Option Change) → StandsFor lists es i b o → StandsFor lists (needed_as i b o (behind (equations_at lists) i)) i b o
  needs_suffice lists es o stands = keeps_stand lists (needed_as i b o (behind (equations_at lists) i)) o (stands_keep lists es o stands) (λ e among. among)

  -- where a rule is broken nothing is needed
  pub broken_none : (o : Option Change) (es : List Equation) → ¬ KeepsAs b o es → needed_as i b o es ≡ []
  broken_none None es broken = refl
  broken_none (Some change) es broken = at (list_any is_refused (demands b change es)) refl
    where
      at : (r : Bool) → list_any is_refused (demands b change es) ≡ r → cond r [] (map (back_equation b.before) (inside i b change es)) ≡ []
      at true is = refl
      at false is = absurd (broken is)
