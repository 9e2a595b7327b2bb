-- Each step keeps a state's words to 32 bits, and the number of its globals.
use Rattle.std.proofs.Common.{◌≡◌, ◌⊎◌, ℕ, zero, suc, ◌+◌, ◌<◌, ◌^◌, ◌%◌, Bool, true, false, List, [], ◌∷◌, length, Option, Some, None, refl, ap, subst, ◌∙◌, inl, inr}
use Rattle.std.specs.Prelude.{if◌then◌else◌, nat_lt, slice_get, slice_set, option_and_then}
use Rattle.std.specs.Option.{option_map}
use Rattle.std.proofs.lemmas.List.{length-set}
use Rattle.lang_base.specs.declared.program.Named.{Named}
use Rattle.x86_syntax.specs.Labels.{place_of}
use Rattle.x86_syntax.specs.Registers.{number_of}
use Rattle.x86_syntax.specs.declared.function.Function.{Function}
use Rattle.x86_syntax.specs.declared.instruction.Instruction.{Instruction}
use Rattle.x86_syntax.specs.declared.instruction.Instruction.TheVariants.{Label, Skip, Copy, Set, Take, Keep, Do, DoWith, Turn, Shift, ShiftBy, Extend, Divide, DivideU, Compare, CompareWith, Flag, Jump, JumpIf, Stop, StopIf, Load, Store, LoadAt, StoreAt, Call, Return, Room, Grow, Shrink, Put}
use Rattle.x86_syntax.specs.declared.operators.Turning.TheVariants.{Neg, Not}
use Rattle.x86_syntax.specs.declared.register.Register.{Register}
use Rattle.x86_syntax.specs.declared.register.Register.TheVariants.{Eax, Ecx, Edx, Esi, Edi}
use Rattle.x86_state.specs.Cells.{word_at, kept, shrunk}
use Rattle.x86_state.specs.State.{State, Step, Goes, Ends, Stops, Fills, Stuck, goes_on, does, word, put}
use Rattle.x86_state.specs.Tables.{shifted, sign_of, divided, divided_unsigned}
use Rattle.x86_state.specs.declared.cell.Cell.{Cell}
use Rattle.x86_state.specs.declared.cell.Cell.TheVariants.{Word, Back}
use Rattle.x86.specs.Calling.{calls, returns}
use Rattle.x86.specs.Comparing.{asked, with_flag}
use Rattle.x86.specs.Framing.{has_room, with_cell, with_cells}
use Rattle.x86.specs.Jumping.{jumps, takes_if}
use Rattle.x86.specs.Meaning.{instruction_step, function_step, next}
use Rattle.x86.specs.Operating.{with_quotient}
use Rattle.x86.specs.Printing.{scrambled, all_scrambled, with_byte}
use Rattle.x86.specs.Reaching.{with_cell as with_stored, with_global}
use Rattle.native_lowering_ranges.specs.InRange.{AreCells}
use Rattle.native_lowering_ranges.proofs.Words.{same_some, never}
use Rattle.native_lowering_walks.specs.Walks.{then as onward, steps}
use Rattle.native_lowering_safe_words.specs.InWords.{InWords, AreSmall, InCells}
use Rattle.native_lowering_safe_words.specs.Narrow.{IsNarrow, AreNarrow}
use Rattle.native_lowering_safe_words.proofs.Functions.{NarrowEach}
use Rattle.native_lowering_safe_words.proofs.Words.{small_set, cell_small, cells_kept, cells_shrunk, turned_small, operated_small, shifted_small, divided_small, divided_unsigned_small, sign_small, flag_small, low_byte_small, byte_small}

-- ---- cells of globals

either_cell : (cells : List ℕ) (i w j x : ℕ) → slice_get (slice_set cells i w) j ≡ Some x → (slice_get cells j ≡ Some x) ⊎ (w ≡ x)
either_cell [] zero w j x e = inl e
either_cell [] (suc i) w j x e = inl e
either_cell (c ∷ cells) zero w zero x e = inr (same_some w x e)
either_cell (c ∷ cells) zero w (suc j) x e = inl e
either_cell (c ∷ cells) (suc i) w zero x e = inl e
either_cell (c ∷ cells) (suc i) w (suc j) x e = either_cell cells i w j x e

either_global : (globals : List (List ℕ)) (k : ℕ) (c : List ℕ) (j : ℕ) (cells : List ℕ) → slice_get (slice_set globals k c) j ≡ Some cells → (slice_get globals j ≡ Some cells) ⊎ (c ≡ cells)
either_global [] zero c j cells e = inl e
either_global [] (suc k) c j cells e = inl e
either_global (g ∷ globals) zero c zero cells e = inr (same_some c cells e)
either_global (g ∷ globals) zero c (suc j) cells e = inl e
either_global (g ∷ globals) (suc k) c zero cells e = inl e
either_global (g ∷ globals) (suc k) c (suc j) cells e = either_global globals k c j cells e

cells_written : (globals : List (List ℕ)) (global cell w : ℕ) (cells : List ℕ) → AreCells globals → slice_get globals global ≡ Some cells → w < 2 ^ 32 → AreCells (slice_set globals global (slice_set cells cell w))
cells_written globals global cell w cells each there small = λ k i x found at in_it. by k i x found (either_global globals global (slice_set cells cell w) k found at) in_it
  where
    new : (i x : ℕ) → (slice_get cells i ≡ Some x) ⊎ (w ≡ x) → x < 2 ^ 32
    new i x (inl e) = each global i x cells there e
    new i x (inr e) = subst (λ y. y < 2 ^ 32) e small

    by : (k i x : ℕ) (found : List ℕ) → (slice_get globals k ≡ Some found) ⊎ (slice_set cells cell w ≡ found) → slice_get found i ≡ Some x → x < 2 ^ 32
    by k i x found (inl e) in_it = each k i x found e in_it
    by k i x found (inr e) in_it = new i x (either_cell cells cell w i x (ap (λ cs. slice_get cs i) e ∙ in_it))

module _ (count : ℕ) where
  abbrev In : State → Type 0
  In = InWords count

  -- where the step goes on
  abbrev Fits' : Step → Type 0
  Fits' (Goes t) = In t
  Fits' (Ends w) = Unit {0}
  Fits' Stops = Unit {0}
  Fits' Fills = Unit {0}
  Fits' Stuck = Unit {0}

  module _ (s : State) (words : In s) where
    -- the word in a register
    small : (r : Register) → word r s < 2 ^ 32
    small r = words.registers (number_of r)

    -- but its registers, its stack or its globals, it is as it was
    registers_fit : (place : ℕ) (ws : List ℕ) (flags : Option (ℕ × ℕ)) → AreSmall ws → In (record s { place = place; registers = ws; flags = flags })
    registers_fit place ws flags fits = record { registers = fits; stack = words.stack; globals = words.globals; count = words.count; junk = words.junk }

    put_fits : (r : Register) (w place : ℕ) (flags : Option (ℕ × ℕ)) → w < 2 ^ 32 → In (record (put r w s) { place = place; flags = flags })
    put_fits r w place flags fits = registers_fit place _ flags (small_set s.registers (number_of r) w words.registers fits)

    stack_fits : (function place : ℕ) (flags : Option (ℕ × ℕ)) (cells : List Cell) → InCells cells → In (record s { function = function; place = place; flags = flags; stack = cells })
    stack_fits function place flags cells fits = record { registers = words.registers; stack = fits; globals = words.globals; count = words.count; junk = words.junk }

    maps : {A : Type 0} (f : A → State) (o : Option A) → ((a : A) → o ≡ Some a → In (record (f a) { place = (f a).place + 1 })) → Fits' (does (option_map f o))
    maps f None each = tt
    maps f (Some a) each = each a refl

    jumps_fit : (o : Option ℕ) → Fits' (jumps o s)
    jumps_fit None = tt
    jumps_fit (Some place) = registers_fit place s.registers s.flags words.registers

    takes_fit : (o : Option Bool) (x : Step) → Fits' x → Fits' (takes_if o x s)
    takes_fit None x fits = tt
    takes_fit (Some true) x fits = fits
    takes_fit (Some false) x fits = registers_fit (s.place + 1) s.registers s.flags words.registers

    calls_fit : (number : ℕ) (o : Option (Named Function)) → Fits' (calls number o s)
    calls_fit number None = tt
    calls_fit number (Some named) = stack_fits number 0 None _ words.stack

    returns_fit : (cells : List Cell) → InCells cells → Fits' (returns cells s)
    returns_fit [] fits = tt
    returns_fit (Word w ∷ cells) fits = tt
    returns_fit (Back None ∷ cells) fits = tt
    returns_fit (Back (Some to) ∷ cells) fits = stack_fits to.function to.place None cells fits

    room_fits : (b : Bool) → Fits' (if b then goes_on (record s { flags = None }) else Fills)
    room_fits true = registers_fit (s.place + 1) s.registers None words.registers
    room_fits false = tt

    loaded_small : (global cell w : ℕ) (o : Option (List ℕ)) → slice_get s.globals global ≡ o → option_and_then (λ cells. slice_get cells cell) o ≡ Some w → w < 2 ^ 32
    loaded_small global cell w None there e = never (w < 2 ^ 32) w e
    loaded_small global cell w (Some cells) there e = words.globals global cell w cells there e

    load_fits : (target : Register) (global cell : ℕ) → Fits' (does (option_map (λ w. put target w s) (option_and_then (λ cells. slice_get cells cell) (slice_get s.globals global))))
    load_fits target global cell =
        maps (λ w. put target w s) _ (λ w e. put_fits target w (s.place + 1) s.flags (loaded_small global cell w (slice_get s.globals global) refl e))

    stored_fits : (global cell w : ℕ) (o : Option (List ℕ)) (cells : List ℕ) → slice_get s.globals global ≡ o → w < 2 ^ 32 → option_and_then (with_stored cell w) o ≡ Some cells
        → In (record (with_global global s cells) { place = s.place + 1 })
    stored_fits global cell w None cells there fits e = never _ cells e
    stored_fits global cell w (Some before) cells there fits e = by (nat_lt cell (length before)) e
      where
        by : (b : Bool) → (if b then Some (slice_set before cell w) else None) ≡ Some cells → In (record (with_global global s cells) { place = s.place + 1 })
        by true e = record {
          registers = words.registers;
          stack = words.stack;
          globals = subst (λ cs. AreCells (slice_set s.globals global cs)) (same_some _ cells e) (cells_written s.globals global cell w before words.globals there fits);
          count = length-set s.globals global cells ∙ words.count;
          junk = words.junk;
        }
        by false e = never _ cells e

    store_fits : (global cell : ℕ) (source : Register) → Fits' (does (option_map (with_global global s) (option_and_then (with_stored cell (word source s)) (slice_get s.globals global))))
    store_fits global cell source = maps (with_global global s) _ (λ cells e. stored_fits global cell (word source s) (slice_get s.globals global) cells refl (small source) e)

    shift_fits : (target : Register) (o : Option ℕ) → ((w : ℕ) → o ≡ Some w → w < 2 ^ 32) → Fits' (does (option_map (λ w. record (put target w s) { flags = None }) o))
    shift_fits target o each = maps _ o (λ w e. put_fits target w (s.place + 1) None (each w e))

    quotient_fits : (o : Option (ℕ × ℕ)) → ((pair : ℕ × ℕ) → o ≡ Some pair → (pair.0 < 2 ^ 32) × (pair.1 < 2 ^ 32)) → Fits' (does (option_map (with_quotient s) o))
    quotient_fits o each = maps (with_quotient s) o (λ pair e.
        let fit = each pair e in
        registers_fit (s.place + 1) _ None (small_set _ (number_of Edx) pair.1 (small_set s.registers (number_of Eax) pair.0 words.registers fit.0) fit.1))

    flag_fits : (target : Register) (answer : Bool) → In (record (with_flag target s answer) { place = s.place + 1 })
    flag_fits target answer =
        registers_fit (s.place + 1) _ s.flags
        (small_set _ (number_of target) _ (small_set s.registers (number_of Eax) _ words.registers (low_byte_small (word Eax s) answer (small Eax))) (flag_small answer))

  pub scrambled_fits : (r : Register) (s : State) → In s → In (scrambled r s)
  scrambled_fits r s words = record {
    registers = small_set s.registers (number_of r) (s.junk 0) words.registers (words.junk 0);
    stack = words.stack;
    globals = words.globals;
    count = words.count;
    junk = λ k. words.junk (k + 1);
  }

  pub all_scrambled_fit : (s : State) → In s → In (all_scrambled s)
  all_scrambled_fit s words = scrambled_fits Edi _ (scrambled_fits Esi _ (scrambled_fits Edx _ (scrambled_fits Ecx s words)))

  cells_fit : (n : ℕ) (s : State) → In s → In (with_cells n s)
  cells_fit zero s words = words
  cells_fit (suc n) s words = cells_fit n (with_cell s) (record {
    registers = words.registers;
    stack = (words.junk 0, words.stack);
    globals = words.globals;
    count = words.count;
    junk = λ k. words.junk (k + 1);
  })

  print_fits : (s : State) → In s → In (all_scrambled (with_byte (word Edi s % 256) s))
  print_fits s words = all_scrambled_fit _ (record {
    registers = small_set s.registers (number_of Eax) _ words.registers (byte_small (word Edi s));
    stack = words.stack;
    globals = words.globals;
    count = words.count;
    junk = words.junk;
  })

  -- at another place, with other flags
  moved : (s : State) (place : ℕ) (flags : Option (ℕ × ℕ)) → In s → In (record s { place = place; flags = flags })
  moved s place flags words = record { registers = words.registers; stack = words.stack; globals = words.globals; count = words.count; junk = words.junk }

  module _ (functions : List (Named Function)) (room : Option ℕ) where
    instruction_fits : (code : List Instruction) (s : State) → In s → (i : Instruction) → IsNarrow i → Fits' (instruction_step functions room code s (Some i))
    instruction_fits code s words (Label label) narrow = moved s _ s.flags words
    instruction_fits code s words Skip narrow = moved s _ s.flags words
    instruction_fits code s words (Copy target source) narrow = put_fits s words target (word source s) _ s.flags (small s words source)
    instruction_fits code s words (Set target w) narrow = put_fits s words target w _ s.flags narrow
    instruction_fits code s words (Take target cell) narrow =
        maps s words _ (word_at s.stack cell) (λ w e. put_fits s words target w _ s.flags (cell_small s.stack cell w words.stack e))
    instruction_fits code s words (Keep cell source) narrow =
        maps s words _ (kept cell (word source s) s.stack) (λ cells e. stack_fits s words s.function _ s.flags cells (cells_kept s.stack cells cell (word source s) words.stack (small s words source) e))
    instruction_fits code s words (Do op target source) narrow =
        put_fits s words target _ _ _ (operated_small (word target s) (word source s) (small s words target) (small s words source) op)
    instruction_fits code s words (DoWith op target w) narrow =
        put_fits s words target _ _ _ (operated_small (word target s) w (small s words target) narrow op)
    instruction_fits code s words (Turn Neg target) narrow = put_fits s words target _ _ None (turned_small Neg (word target s) (small s words target))
    instruction_fits code s words (Turn Not target) narrow = put_fits s words target _ _ s.flags (turned_small Not (word target s) (small s words target))
    instruction_fits code s words (Shift op target count) narrow =
        shift_fits s words target (shifted op (word target s) count) (shifted_small (word target s) count (small s words target) narrow op)
    instruction_fits code s words (ShiftBy op target) narrow =
        shift_fits s words target (shifted op (word target s) (word Ecx s)) (shifted_small (word target s) (word Ecx s) (small s words target) (small s words Ecx) op)
    instruction_fits code s words Extend narrow = put_fits s words Edx (sign_of (word Eax s)) _ s.flags (sign_small (word Eax s))
    instruction_fits code s words (Divide divisor) narrow =
        quotient_fits s words (divided (word Edx s) (word Eax s) (word divisor s)) (divided_small (word Eax s) (word divisor s) (small s words Eax) (small s words divisor) (word Edx s))
    instruction_fits code s words (DivideU divisor) narrow =
        quotient_fits s words (divided_unsigned (word Edx s) (word Eax s) (word divisor s)) (divided_unsigned_small (word Eax s) (word divisor s) (small s words Eax) (small s words divisor) (word Edx s))
    instruction_fits code s words (Compare left right) narrow = moved s _ _ words
    instruction_fits code s words (CompareWith left w) narrow = moved s _ _ words
    instruction_fits code s words (Flag condition target) narrow = maps s words _ (asked condition s) (λ answer e. flag_fits s words target answer)
    instruction_fits code s words (Jump label) narrow = jumps_fit s words (place_of label code)
    instruction_fits code s words (JumpIf condition label) narrow = takes_fit s words (asked condition s) _ (jumps_fit s words (place_of label code))
    instruction_fits code s words Stop narrow = tt
    instruction_fits code s words (StopIf condition) narrow = takes_fit s words (asked condition s) Stops tt
    instruction_fits code s words (Load target global index) narrow = load_fits s words target global (word index s)
    instruction_fits code s words (Store global index source) narrow = store_fits s words global (word index s) source
    instruction_fits code s words (LoadAt target global cell) narrow = load_fits s words target global cell
    instruction_fits code s words (StoreAt global cell source) narrow = store_fits s words global cell source
    instruction_fits code s words (Call function) narrow = calls_fit s words function (slice_get functions function)
    instruction_fits code s words Return narrow = returns_fit s words s.stack words.stack
    instruction_fits code s words Room narrow = room_fits s words (has_room room (length s.stack))
    instruction_fits code s words (Grow count) narrow = moved (with_cells count s) _ None (cells_fit count s words)
    instruction_fits code s words (Shrink count) narrow =
        maps s words _ (shrunk count s.stack) (λ cells e. stack_fits s words s.function _ None cells (cells_shrunk count s.stack cells words.stack e))
    instruction_fits code s words Put narrow = moved (all_scrambled (with_byte (word Edi s % 256) s)) _ None (print_fits s words)

    narrow_at : (code : List Instruction) (k : ℕ) (i : Instruction) → AreNarrow code → slice_get code k ≡ Some i → IsNarrow i
    narrow_at [] k i narrow e = cc
    narrow_at (j ∷ code) zero i narrow e = subst IsNarrow (same_some j i e) narrow.0
    narrow_at (j ∷ code) (suc k) i narrow e = narrow_at code k i narrow.1 e

    at_fits : (code : List Instruction) (s : State) → In s → AreNarrow code → (o : Option Instruction) → slice_get code s.place ≡ o → Fits' (instruction_step functions room code s o)
    at_fits code s words narrow None e = tt
    at_fits code s words narrow (Some i) e = instruction_fits code s words i (narrow_at code s.place i narrow e)

    module _ (narrow : NarrowEach functions) where
      function_fits : (s : State) → In s → (o : Option (Named Function)) → slice_get functions s.function ≡ o → Fits' (function_step functions room s o)
      function_fits s words None there = tt
      function_fits s words (Some named) there = at_fits named.function.code s words (narrow s.function named there) (slice_get named.function.code s.place) refl

      step_fits : (s : State) → In s → Fits' (next functions room s)
      unfolding next
      step_fits s words = function_fits s words (slice_get functions s.function) refl

      onward_fits : (n : ℕ) (x : Step) (t : State) → Fits' x → ((u : State) → In u → steps functions room n u ≡ Goes t → In t) → onward x (steps functions room n) ≡ Goes t → In t
      onward_fits n (Goes u) t fits later go = later u fits go
      onward_fits n (Ends w) t fits later go = cc
      onward_fits n Stops t fits later go = cc
      onward_fits n Fills t fits later go = cc
      onward_fits n Stuck t fits later go = cc

      pub steps_fit : (n : ℕ) (s t : State) → In s → steps functions room n s ≡ Goes t → In t
      steps_fit zero s t words go = let same : s ≡ t = cc in subst In same words
      steps_fit (suc n) s t words go = onward_fits n (next functions room s) t (step_fits s words) (λ u fits later. steps_fit n u t fits later) go
