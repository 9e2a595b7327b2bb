-- What has no value in the running function's state, whatever is printed so far.
use Rattle.std.specs.Prelude.{◌≡◌, ℕ, List, Option, Some, None, Result, Ok, Err}
use Rattle.ints.specs.declared.operators.Op.{Op}
use Rattle.c_program.specs.declared.term.Term.{Term}
use Rattle.c_program.specs.Views.{term_tree}
use Rattle.c_program.specs.Values.{value}
use Rattle.c_meaning_machine.specs.declared.scope.Scope.{Scope}
use Rattle.c_meaning_machine.specs.Scopes.{state_of, variables_of}
use Rattle.c_faults.specs.declared.gap.Gap.{Gap}
use Rattle.c_faults.specs.Gaps.{gap}
use Rattle.c_faults.specs.Changes.{store_gap, update_gap}

-- this is the first part of a store that has no value
abbrev pub StoreGap : List ℕ → ℕ → Term → Term → Scope → Option Gap → Type 0
StoreGap places global index term scope found =
    (output : List ℕ) → found ≡ store_gap places global (term_tree index) (term_tree term) (state_of scope output)

-- this is the first part of an update that has no value
abbrev pub UpdateGap : List ℕ → ℕ → Term → Op → Term → Scope → Option Gap → Type 0
UpdateGap places global index o term scope found =
    (output : List ℕ) → found ≡ update_gap places global (term_tree index) o (term_tree term) (state_of scope output)

-- a term's word, where each of its parts has a value, or the first part that has none
abbrev pub Worth : List ℕ → Term → Scope → Result ℕ Gap → Type 0
Worth places term scope (Ok w) =
    (value (variables_of scope) (term_tree term) ≡ Some w) × (gap places (variables_of scope) (term_tree term) ≡ None)
Worth places term scope (Err g) =
    (value (variables_of scope) (term_tree term) ≡ None) × (gap places (variables_of scope) (term_tree term) ≡ Some g)
