-- Plain instructions keep data in range.
use Rattle.std.proofs.Common.{◌≡◌, ◌⊎◌, ℕ, zero, suc, ◌%◌, ◌<◌, ◌^◌, Bool, true, false, List, [], ◌∷◌, ◌++◌, length, Option, Some, None, refl, sym, ap, subst, ◌∙◌, arith, inl, inr}
use Rattle.std.specs.Prelude.{slice_get, slice_index_or, slice_set, nat_lt, if◌then◌else◌, option_and_then}
use Rattle.std.specs.List.{All}
use Rattle.std.specs.Option.{option_map}
use Rattle.std.proofs.lemmas.List.{length-set}
use Rattle.ints.specs.MachineTable.{machine_table}
use Rattle.ints.specs.declared.operators.Op.{Op}
use Rattle.ints.proofs.Bounds.{machine_table-lt}
use Rattle.lang_base.specs.declared.program.Global.{Global}
use Rattle.locations.specs.declared.location.Location.TheVariants.{InRegister}
use Rattle.machine.specs.declared.act.Act.{Act}
use Rattle.machine.specs.declared.act.Act.TheVariants.{Constant, Operate, Load, Store, Put}
use Rattle.machine.specs.declared.arguments.Arguments.TheVariants.{One, Two}
use Rattle.machine.specs.Acts.{does, given, pair_of, words_of, word_in, changed, stored, printing}
use Rattle.machine.specs.Data.{Data, value_at, put_at}
use Rattle.machine.specs.Fits.{ActFits}
use Rattle.native_lowering_ranges.specs.Range.{AreDeclared}
use Rattle.native_lowering_ranges.specs.InRange.{AreCells, DataInRange}
use Rattle.native_lowering_ranges.proofs.Words.{same_some, never, IsWord, value_word, put_range}

-- ---- operators

one_word : (x : ℕ) → x < 2 ^ 32 → All (λ y. y < 2 ^ 32) (x ∷ [])
one_word x h = λ k d within. by k d within
  where
    by : (k d : ℕ) → k < 1 → slice_index_or (x ∷ []) k d < 2 ^ 32
    by zero d within = h
    by (suc k) d within = absurd (omega arith)

two_words : (x y : ℕ) → x < 2 ^ 32 → y < 2 ^ 32 → All (λ z. z < 2 ^ 32) (x ∷ y ∷ [])
two_words x y h h' = λ k d within. by k d within
  where
    by : (k d : ℕ) → k < 2 → slice_index_or (x ∷ y ∷ []) k d < 2 ^ 32
    by zero d within = h
    by (suc zero) d within = h'
    by (suc (suc k)) d within = absurd (omega arith)

of_one : (op : Op) (o : Option ℕ) (w : ℕ) → IsWord o → option_and_then (machine_table op) (option_map (λ x. x ∷ []) o) ≡ Some w → w < 2 ^ 32
of_one op None w word e = never (w < 2 ^ 32) w e
of_one op (Some x) w word e = machine_table-lt op (x ∷ []) w (one_word x (word x refl)) e

of_two : (op : Op) (o q : Option ℕ) (w : ℕ) → IsWord o → IsWord q → option_and_then (machine_table op) (pair_of o q) ≡ Some w → w < 2 ^ 32
of_two op None q w word word' e = never (w < 2 ^ 32) w e
of_two op (Some x) None w word word' e = never (w < 2 ^ 32) w e
of_two op (Some x) (Some y) w word word' e = machine_table-lt op (x ∷ y ∷ []) w (two_words x y (word x refl) (word' y refl)) e

-- ---- globals

-- a global is as before, or it is the one that is changed, and was there
either_global : (globals : List (List ℕ)) (k : ℕ) (c : List ℕ) (j : ℕ) (cells : List ℕ) → slice_get (slice_set globals k c) j ≡ Some cells
    → (slice_get globals j ≡ Some cells) ⊎ ((j ≡ k) × (c ≡ cells))
either_global [] zero c j cells e = inl e
either_global [] (suc k) c j cells e = inl e
either_global (g ∷ globals) zero c zero cells e = inr (refl, same_some c cells e)
either_global (g ∷ globals) zero c (suc j) cells e = inl e
either_global (g ∷ globals) (suc k) c zero cells e = inl e
either_global (g ∷ globals) (suc k) c (suc j) cells e = by (either_global globals k c j cells e)
  where
    by : (slice_get globals j ≡ Some cells) ⊎ ((j ≡ k) × (c ≡ cells)) → (slice_get globals j ≡ Some cells) ⊎ ((suc j ≡ suc k) × (c ≡ cells))
    by (inl h) = inl h
    by (inr h) = inr (ap suc h.0, h.1)

either_cell : (cells : List ℕ) (i w j x : ℕ) → slice_get (slice_set cells i w) j ≡ Some x → (slice_get cells j ≡ Some x) ⊎ (w ≡ x)
either_cell [] zero w j x e = inl e
either_cell [] (suc i) w j x e = inl e
either_cell (c ∷ cells) zero w zero x e = inr (same_some w x e)
either_cell (c ∷ cells) zero w (suc j) x e = inl e
either_cell (c ∷ cells) (suc i) w zero x e = inl e
either_cell (c ∷ cells) (suc i) w (suc j) x e = either_cell cells i w j x e

module _ (declared : List Global) (d : Data) (range : DataInRange declared d) where
  given_range : (target : ℕ) (o : Option ℕ) (d' : Data) → ((w : ℕ) → o ≡ Some w → w < 2 ^ 32) → given target d o ≡ Some d' → DataInRange declared d'
  given_range target None d' words e = never (DataInRange declared d') d' e
  given_range target (Some w) d' words e =
      subst (DataInRange declared) (same_some (put_at (InRegister target) (Some w) d) d' e)
      (put_range declared (InRegister target) (Some w) d range (λ x h. words x h))

  loaded : (global : ℕ) (o : Option (List ℕ)) (q : Option ℕ) (w : ℕ) → slice_get d.globals global ≡ o → option_and_then (word_in o) q ≡ Some w → w < 2 ^ 32
  loaded global None None w there e = never (w < 2 ^ 32) w e
  loaded global None (Some i) w there e = never (w < 2 ^ 32) w e
  loaded global (Some cells) None w there e = never (w < 2 ^ 32) w e
  loaded global (Some cells) (Some i) w there e = range.globals global i w cells there e

  module _ (global i w : ℕ) (cells : List ℕ) (there : slice_get d.globals global ≡ Some cells) (word : w < 2 ^ 32) where
    abbrev globals' : List (List ℕ)
    globals' = slice_set d.globals global (slice_set cells i w)

    cells_range : AreCells globals'
    cells_range = λ k j x found at in_it. by k j x found (either_global d.globals global (slice_set cells i w) k found at) in_it
      where
        new : (j x : ℕ) → (slice_get cells j ≡ Some x) ⊎ (w ≡ x) → x < 2 ^ 32
        new j x (inl h) = range.globals global j x cells there h
        new j x (inr h) = subst (λ y. y < 2 ^ 32) h word

        by : (k j x : ℕ) (found : List ℕ) → (slice_get d.globals k ≡ Some found) ⊎ ((k ≡ global) × (slice_set cells i w ≡ found)) → slice_get found j ≡ Some x → x < 2 ^ 32
        by k j x found (inl h) in_it = range.globals k j x found h in_it
        by k j x found (inr h) in_it = new j x (either_cell cells i w j x (ap (λ cs. slice_get cs j) h.1 ∙ in_it))

    declared_range : AreDeclared declared globals'
    declared_range = λ k found at. by k found (either_global d.globals global (slice_set cells i w) k found at)
      where
        by : (k : ℕ) (found : List ℕ) → (slice_get d.globals k ≡ Some found) ⊎ ((k ≡ global) × (slice_set cells i w ≡ found))
            → option_map (λ (g : Global). g.cells) (slice_get declared k) ≡ Some (length found)
        by k found (inl h) = range.declared_so k found h
        by k found (inr h) =
            range.declared_so k cells (ap (slice_get d.globals) h.0 ∙ there)
            ∙ ap (λ n. Some n) (sym (length-set cells i w) ∙ ap length h.1)

    changed_range : DataInRange declared (record d { globals = globals' })
    changed_range = record {
      registers = range.registers;
      slots = range.slots;
      globals = cells_range;
      declared_so = declared_range;
    }

  changes : (global i w : ℕ) (d' : Data) (cells : List ℕ) (b : Bool) → slice_get d.globals global ≡ Some cells → w < 2 ^ 32
      → (if b then Some (record d { globals = slice_set d.globals global (slice_set cells i w) }) else None) ≡ Some d' → DataInRange declared d'
  changes global i w d' cells false there word e = never (DataInRange declared d') d' e
  changes global i w d' cells true there word e =
      subst (DataInRange declared) (same_some (record d { globals = slice_set d.globals global (slice_set cells i w) }) d' e) (changed_range global i w cells there word)

  stores : (global : ℕ) (o q : Option ℕ) (g : Option (List ℕ)) (d' : Data) → slice_get d.globals global ≡ g → IsWord q → stored d global o q ≡ Some d' → DataInRange declared d'
  stores global None q g d' there word e = never (DataInRange declared d') d' e
  stores global (Some i) None g d' there word e = never (DataInRange declared d') d' e
  stores global (Some i) (Some w) None d' there word e = never (DataInRange declared d') d' (sym (ap (changed d global i w) there) ∙ e)
  stores global (Some i) (Some w) (Some cells) d' there word e =
      changes global i w d' cells (nat_lt i (length cells)) there (word w refl) (sym (ap (changed d global i w) there) ∙ e)

  byte_word : (x : ℕ) → x % 256 < 2 ^ 32
  byte_word x = omega arith

  printed_range : (target : Option ℕ) (x : ℕ) → DataInRange declared (printing target d x)
  printed_range None x = record { registers = range.registers; slots = range.slots; globals = range.globals; declared_so = range.declared_so }
  printed_range (Some r) x =
      put_range declared (InRegister r) (Some (x % 256)) (record d { output = d.output ++ x % 256 ∷ [] })
      (record { registers = range.registers; slots = range.slots; globals = range.globals; declared_so = range.declared_so })
      (λ y e. subst (λ z. z < 2 ^ 32) (same_some (x % 256) y e) (byte_word x))

  prints : (target o : Option ℕ) (d' : Data) → option_map (printing target d) o ≡ Some d' → DataInRange declared d'
  prints target None d' e = never (DataInRange declared d') d' e
  prints target (Some x) d' e = subst (DataInRange declared) (same_some (printing target d x) d' e) (printed_range target x)

  pub act_range : (act : Act) (d' : Data) → ActFits act → does act d ≡ Some d' → DataInRange declared d'
  act_range (Constant target word) d' fits e =
      given_range target (Some word) d' (λ w h. subst (λ x. x < 2 ^ 32) (same_some word w h) fits.1) e
  act_range (Operate op target (One a)) d' fits e =
      given_range target (option_and_then (machine_table op) (words_of (One a) d)) d' (λ w h. of_one op (value_at (InRegister a) d) w (value_word declared (InRegister a) d range) h) e
  act_range (Operate op target (Two a b)) d' fits e =
      given_range target (option_and_then (machine_table op) (words_of (Two a b) d)) d'
      (λ w h. of_two op (value_at (InRegister a) d) (value_at (InRegister b) d) w (value_word declared (InRegister a) d range) (value_word declared (InRegister b) d range) h) e
  act_range (Load target global index) d' fits e =
      given_range target (option_and_then (word_in (slice_get d.globals global)) (value_at (InRegister index) d)) d'
      (λ w h. loaded global (slice_get d.globals global) (value_at (InRegister index) d) w refl h) e
  act_range (Store global index source) d' fits e =
      stores global (value_at (InRegister index) d) (value_at (InRegister source) d) (slice_get d.globals global) d' refl (value_word declared (InRegister source) d range) e
  act_range (Put source target) d' fits e = prints target (value_at (InRegister source) d) d' e
