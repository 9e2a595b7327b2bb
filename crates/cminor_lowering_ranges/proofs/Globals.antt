-- Globals that are well formed: how many there are, and how many cells each and all of them have.
use Rattle.std.proofs.Common.{◌≡◌, ℕ, ◌+◌, ◌<◌, ◌≤◌, Bool, true, [], length, Option, Some, None, arith}
use Rattle.std.specs.Prelude.{not, ◌&&◌, nat_lt, nat_le}
use Rattle.std.proofs.lemmas.Bool.{ltb-true, leb-true, and_parts}
use Rattle.std.proofs.lemmas.List.{length-map}
use Rattle.c_syntax.specs.declared.constant.Constant.{Constant}
use Rattle.c_syntax.specs.declared.constant.IntegerType.{IntegerType}
use Rattle.c_syntax.specs.declared.identifier.Identifier.{Identifier}
use Rattle.c_syntax.specs.Trees.{InitialTree, InitializerTree, GlobalTree}
use Rattle.c_syntax.specs.Trees as T
use Rattle.c_checker_rules.specs.declared.errors.CheckError.TheVariants.{Redeclared, BadMain, Limit, ArrayUse}
use Rattle.c_checker_rules.specs.Told.{unless}
use Rattle.c_checker_rules.specs.Names.{Scope}
use Rattle.c_checker_rules.specs.Calls.{is_putchar}
use Rattle.c_checker_rules.specs.Locals.{is_new, is_short}
use Rattle.c_checker_rules.specs.Globals.{is_main, size_of, is_size, most_globals, most_cells, suits, is_within, global_name_faults, global_meaning, with_global, initials_of, initials_faults, global_faults, global_of, initial_words, or_zero, constant_of}
use Rattle.cminor_syntax.specs.Fits.{global_limit}
use Rattle.cminor_lowering_ranges.specs.Globals.{IsSized}
use Rattle.cminor_lowering_ranges.proofs.Faults.{none_before, four_parts, holds}
use Rattle.cminor_lowering_ranges.proofs.Scopes.{MeaningFits, ScopeFits}

four_hold : (a b c d : Bool) → (a && b && c && d) ≡ true → (a ≡ true) × (b ≡ true) × (c ≡ true) × (d ≡ true)
four_hold a b c d e =
    let last = and_parts (a && b && c) d e in
    let third = and_parts (a && b) c last.0 in
    let front = and_parts a b third.0 in
    (front.0, front.1, third.1, last.1)

-- behind so many globals of so many cells
pub record IsWithin (globals cells : ℕ) (g : GlobalTree) : Type 0 where
  pub number : globals < global_limit
  pub some : 1 ≤ size_of g.size
  pub few : size_of g.size ≤ most_cells
  pub all : cells + size_of g.size ≤ most_cells
  pub suited : suits g.size g.initializer ≡ true

pub within : (scope : Scope) (globals cells : ℕ) (g : GlobalTree) → global_faults scope globals cells g ≡ [] → IsWithin globals cells g
within scope globals cells g none =
    let named = none_before (global_name_faults scope globals cells g) (initials_faults (with_global globals scope g) (initials_of g.initializer)) none in
    let parts = four_parts (unless (is_new 0 scope g.name && not (is_putchar g.name.name)) (Redeclared g.name.offset)) (unless (not (is_main g.name.name)) (BadMain g.name.offset))
    (unless (is_within globals cells g) (Limit g.name.offset)) (unless (suits g.size g.initializer) (ArrayUse g.name.offset)) named in
    let limits = four_hold (nat_lt globals most_globals) (is_size (size_of g.size)) (nat_le (cells + size_of g.size) most_cells) (is_short g.name) (holds (is_within globals cells g) (Limit g.name.offset) parts.2) in
    let size = and_parts (nat_le 1 (size_of g.size)) (nat_le (size_of g.size) most_cells) limits.1 in
    record {
      number = ltb-true globals global_limit limits.0;
      some = leb-true 1 (size_of g.size) size.0;
      few = leb-true (size_of g.size) most_cells size.1;
      all = leb-true (cells + size_of g.size) most_cells limits.2;
      suited = holds (suits g.size g.initializer) (ArrayUse g.name.offset) parts.3;
    }

-- ---- what a global's name means

meaning_fits : (number : ℕ) (kind : IntegerType) (name : Identifier) (size : Option Constant) (initializer : Option InitializerTree) → number < global_limit →
    MeaningFits 0 (global_meaning number (record { kind = kind; name = name; size = size; initializer = initializer }))
meaning_fits number kind name None initializer few = few
meaning_fits number kind name (Some c) initializer few = few

pub global_scope : (scope : Scope) (globals cells : ℕ) (g : GlobalTree) → ScopeFits 0 scope → global_faults scope globals cells g ≡ [] → ScopeFits 0 (with_global globals scope g)
global_scope scope globals cells g fits none =
    let few = (within scope globals cells g none).number in
    (meaning_fits globals g.kind g.name g.size g.initializer few, fits)

-- ---- the words that a global begins with

suited_count : (size : Option Constant) (initializer : Option InitializerTree) → suits size initializer ≡ true → length (initials_of initializer) ≤ size_of size
suited_count None None e = omega arith
suited_count (Some c) None e = omega arith
suited_count None (Some (T.Single i)) e = omega arith
suited_count (Some c) (Some (T.Single i)) e = absurd cc
suited_count None (Some (T.Braced is)) e = absurd cc
suited_count (Some c) (Some (T.Braced is)) e = leb-true (length is) c.value e

pub few_words : (scope : Scope) (g : GlobalTree) → suits g.size g.initializer ≡ true → length (initial_words scope (initials_of g.initializer)) ≤ size_of g.size
few_words scope g e = omega (arith, suited_count g.size g.initializer e, length-map (initials_of g.initializer) (λ i. or_zero (constant_of scope i.value)))

pub sized : (before scope : Scope) (globals cells : ℕ) (g : GlobalTree) → global_faults before globals cells g ≡ [] → IsSized (global_of scope g)
sized before scope globals cells g none =
    let size = within before globals cells g none in
    record { some = size.some; few = size.few; listed = few_words scope g size.suited }
