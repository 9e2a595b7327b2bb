-- The native program of each program in range is safe.
use Rattle.std.proofs.Common.{◌≡◌, ◌≢◌, ◌⊎◌, ℕ, zero, suc, ◌<◌, List, [], ◌∷◌, length, map, Option, Some, None, refl, sym, ap, subst, ◌∙◌, arith, inl, inr}
use Rattle.std.specs.Prelude.{slice_get}
use Rattle.std.specs.List.{AllByRecursion}
use Rattle.std.specs.Option.{option_map}
use Rattle.std.proofs.lemmas.List.{length-map}
use Rattle.lang_base.specs.declared.program.Named.{Named}
use Rattle.lang_base.specs.declared.program.Program.{Program}
use Rattle.machine.specs.Data.{Data}
use Rattle.machine.specs.Frames.{main_number, fresh, begins, cells_of}
use Rattle.linear_language.specs.Function.{FunctionData}
use Rattle.linear_language.specs.Meaning as linear
use Rattle.x86_syntax.specs.Registers.{number_of}
use Rattle.x86_syntax.specs.declared.function.Function.{Function}
use Rattle.x86_syntax.specs.declared.register.Register.TheVariants.{Eax}
use Rattle.x86_state.specs.Shows.{Shows}
use Rattle.x86_state.specs.State.{State as Native}
use Rattle.x86_state.specs.declared.shown.Shown.TheVariants.{Stuck}
use Rattle.x86.specs.Meaning as native
use Rattle.x86.specs.Printing.{scrambled}
use Rattle.native_lowering_definition.specs.Lowering.{function_of, lowered}
use Rattle.native_lowering_runs.specs.Reaching.{Reaches, AreFunctions}
use Rattle.native_lowering_runs.proofs.Blocks.{lowered_there}
use Rattle.native_lowering_calls.proofs.Entering.{enters}
use Rattle.native_lowering_keeping.proofs.Beginning.{GlobalInRange, begins_in_range, number_same, main_takes, no_arguments}
use Rattle.native_lowering_room.specs.Room.{SameOrFull}
use Rattle.native_lowering_room.proofs.Room.{keeps_in_room}
use Rattle.native_lowering_safe_words.specs.InWords.{InWords, AreDrawn}
use Rattle.native_lowering_safe_words.proofs.Functions.{narrow_functions}
use Rattle.native_lowering_safe_words.proofs.Steps.{scrambled_fits, all_scrambled_fit, steps_fit}
use Rattle.native_lowering_safe_words.proofs.Words.{zeros_small}
use Rattle.native_lowering_safe_stops.specs.Halting.{Halts}
use Rattle.native_lowering_safe.specs.Safe.{IsSafe}
use Rattle.native_lowering_safe.specs.Standing.{Stands, StandsAgain, IsFree}
use Rattle.native_lowering_safe.proofs.Running.{running, wrong, full, over_free, goes_free}
use Rattle.native_lowering_safe.proofs.Standing.{stands_on}

none_map : {A B : Type 0} (f : A → B) (xs : List A) (k : ℕ) → slice_get xs k ≡ None → slice_get (map f xs) k ≡ None
none_map f [] zero e = refl
none_map f [] (suc k) e = refl
none_map f (x ∷ xs) zero e = cc
none_map f (x ∷ xs) (suc k) e = none_map f xs k e

module _ (p : Program FunctionData) (range : AreFunctions p) where
  abbrev functions : List (Named Function)
  functions = (lowered p).functions

  -- from a state that stands, at each bound below the limit
  pub stands_free : (limit n : ℕ) → n < limit → (t : Native) → Stands p t → IsFree functions n t
  stands_free zero n few t stands = absurd (omega arith)
  stands_free (suc limit) n few t stands = by (stands_free limit) (stands_on p range t stands)
    where
      by : ((m : ℕ) → m < limit → (u : Native) → Stands p u → IsFree functions m u) → StandsAgain p t ⊎ Halts functions t → IsFree functions n t
      by below (inl on) = goes_free functions n (suc on.more) t on.to on.go (λ m fewer. below m (omega (arith, few, fewer)) on.to on.stands)
      by below (inr over) = over_free functions n over.count t over.last over.go over.over

  -- ---- where the run begins

  module _ (globals : AllByRecursion GlobalInRange p.globals) (junk : ℕ → ℕ) (drawn : AreDrawn junk) where
    abbrev number : ℕ
    number = main_number linear.takes_none p.functions

    abbrev first : Native
    first = native.begins p.globals junk number

    first_words : InWords (length p.globals) first
    first_words =
        let blank : Native = native.blank p.globals junk number in
        let words : InWords (length p.globals) blank = record {
          registers = zeros_small 13;
          stack = tt;
          globals = (begins_in_range p.globals number 0 globals).here.globals;
          count = length-map p.globals cells_of;
          junk = drawn;
        } in
        all_scrambled_fit (length p.globals) (scrambled Eax blank) (scrambled_fits (length p.globals) Eax blank words)

    module _ (main : Named FunctionData) (there : slice_get p.functions number ≡ Some main) where
      abbrev slots : ℕ
      slots = main.function.slots

      native_start : native.start (lowered p) junk ≡ Some first
      native_start =
          ap (λ k. option_map (λ (f : Named Function). native.begins p.globals junk k) (slice_get functions k)) (number_same p p.functions)
          ∙ ap (option_map (λ (f : Named Function). first)) (lowered_there p main number there)

      -- main begins
      main_begins : Reaches p None (begins p.globals number 0 slots) first
      unfolding number_of
      main_begins =
          let d = fresh p.globals slots in
          subst (λ (x : Data). Reaches p None (record { function = number; place = 0; here = x; callers = [] }) first) (no_arguments main.function.parameters d)
          (enters p main first None [] [] [] d (range number main there) (record {
            there = there;
            place = refl;
            stands = refl;
            thirteen = refl;
            globals = refl;
            output = refl;
            count = sym (main_takes p.functions main there);
            given = record { first = tt; others = tt };
            waiting = (refl, refl);
          }))

      first_stands : StandsAgain p first
      first_stands =
          let one = main_begins in
          record {
            more = one.more;
            to = one.to;
            go = one.go;
            stands = record {
              linear = begins p.globals number 0 slots;
              related = one.related;
              range = begins_in_range p.globals number slots globals;
              words = steps_fit (length p.globals) functions None (narrow_functions p range) (suc one.more) first one.to first_words one.go;
            };
          }

      main_free : (n : ℕ) → IsFree functions n first
      main_free n =
          let one = first_stands in
          goes_free functions n (suc one.more) first one.to one.go (λ m few. stands_free (suc m) m (omega arith) one.to one.stands)

    -- a run without a bound on the stack
    abbrev Shown : ℕ → Option Native → Type 0
    Shown n o = (native.shows_from functions None n o).shown ≢ Stuck

    at_once : (n : ℕ) → Shown n None
    at_once zero = running
    at_once (suc n) = wrong

    no_start : slice_get p.functions number ≡ None → native.start (lowered p) junk ≡ None
    no_start missing =
        ap (λ k. option_map (λ (f : Named Function). native.begins p.globals junk k) (slice_get functions k)) (number_same p p.functions)
        ∙ ap (option_map (λ (f : Named Function). first)) (none_map (λ (f : Named FunctionData). record { name = f.name; function = function_of p f.function }) p.functions number missing)

    unbound : (n : ℕ) → Shown n (native.start (lowered p) junk)
    unbound n = by (slice_get p.functions number) refl
      where
        by : (o : Option (Named FunctionData)) → slice_get p.functions number ≡ o → Shown n (native.start (lowered p) junk)
        by None there = subst (Shown n) (sym (no_start there)) (at_once n)
        by (Some main) there = subst (Shown n) (sym (native_start main there)) (main_free main there n)

    with_room : (n : ℕ) (with without : Shows) → SameOrFull with without → without.shown ≢ Stuck → with.shown ≢ Stuck
    with_room n with without (inl same) free = subst (λ (x : Shows). x.shown ≢ Stuck) (sym same) free
    with_room n with without (inr is_full) free = λ e. full (sym is_full.shown ∙ e)

  pub safe : AllByRecursion GlobalInRange p.globals → IsSafe (lowered p)
  safe globals = λ junk drawn room n.
      with_room globals junk drawn n (native.native (lowered p) junk room n) (native.native (lowered p) junk None n) (keeps_in_room (lowered p) junk room n) (unbound globals junk drawn n)
