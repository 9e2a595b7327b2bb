-- The native program keeps the meaning of the program of Linear, whatever is left open.
use Rattle.std.proofs.Common.{◌≡◌, ℕ, List, [], Option, Some, None, refl, sym, ap, subst, ◌∙◌, arith}
use Rattle.std.specs.Prelude.{slice_get}
use Rattle.std.specs.List.{AllByRecursion}
use Rattle.std.specs.Option.{option_map}
use Rattle.lang_base.specs.Behaviour.{Behaviour}
use Rattle.lang_base.specs.Keeps.{Keeps}
use Rattle.lang_base.specs.Machine.{Leads}
use Rattle.lang_base.specs.Machine as machine
use Rattle.lang_base.specs.declared.program.Named.{Named}
use Rattle.lang_base.specs.declared.program.Program.{Program}
use Rattle.lang_base.proofs.Composition.{keeps-composes}
use Rattle.lang_base.proofs.Simulation.{keeps-follows, shows_is_run}
use Rattle.machine.specs.Data.{Data}
use Rattle.machine.specs.Frames.{printed, main_number, fresh, begins}
use Rattle.linear_language.specs.Function.{FunctionData}
use Rattle.linear_language.specs.Meaning as linear
use Rattle.x86_syntax.specs.Registers.{number_of}
use Rattle.x86_syntax.specs.declared.function.Function.{Function}
use Rattle.x86_state.specs.Shows.{behaviour_of}
use Rattle.x86_state.specs.State.{State as Native}
use Rattle.x86.specs.Meaning as native
use Rattle.native_lowering_definition.specs.Lowering.{lowered}
use Rattle.native_lowering_walks.specs.Seen.{seen_next, output_of}
use Rattle.native_lowering_walks.proofs.Growing.{grows}
use Rattle.native_lowering_walks.proofs.Seen.{shows_seen, leads_steps}
use Rattle.native_lowering_runs.specs.Reaching.{Reaches, AreFunctions}
use Rattle.native_lowering_runs.proofs.Blocks.{lowered_there}
use Rattle.native_lowering_calls.proofs.Entering.{enters}
use Rattle.native_lowering_keeping.proofs.Beginning.{GlobalInRange, begins_in_range, number_same, main_takes, no_arguments}
use Rattle.native_lowering_keeping.proofs.Matching.{keeps_stands}

module _ (p : Program FunctionData) (range : AreFunctions p) (globals : AllByRecursion GlobalInRange p.globals) (junk : ℕ → ℕ) where
  abbrev number : ℕ
  number = main_number linear.takes_none p.functions

  abbrev functions : List (Named Function)
  functions = (lowered p).functions

  -- what is shown from a state
  abbrev from : Native → Behaviour
  from t = λ n. machine.shows (seen_next functions None) output_of n t

  -- steps at the beginning change nothing
  keeps_led : (t u : Native) → Leads (seen_next functions None) output_of t u → Keeps (from u) (from t)
  keeps_led t u leads =
      keeps-follows (from u) (from t) (shows_is_run (seen_next functions None) output_of (grows functions None) t)
      (λ never. record { at = λ n. let j = leads.by n in (j.0, omega (arith, j.1), sym j.2) })

  module _ (main : Named FunctionData) (there : slice_get p.functions number ≡ Some main) where
    abbrev slots : ℕ
    slots = main.function.slots

    abbrev first : Native
    first = native.begins p.globals junk number

    same_number : main_number native.takes_none functions ≡ number
    same_number = number_same p p.functions

    native_start : native.start (lowered p) junk ≡ Some first
    native_start =
        ap (λ k. option_map (λ (f : Named Function). native.begins p.globals junk k) (slice_get functions k)) same_number
        ∙ ap (option_map (λ (f : Named Function). first)) (lowered_there p main number there)

    linear_start : linear.start p ≡ begins p.globals number 0 slots
    linear_start = ap (λ o. begins p.globals number 0 (linear.slots_of o)) there

    -- main begins
    main_begins : Reaches p None (begins p.globals number 0 slots) first
    unfolding number_of
    main_begins =
        let d = fresh p.globals slots in
        subst (λ (x : Data). Reaches p None (record { function = number; place = 0; here = x; callers = [] }) first) (no_arguments main.function.parameters d)
        (enters p main first None [] [] [] d (range number main there) (record {
          there = there;
          place = refl;
          stands = refl;
          thirteen = refl;
          globals = refl;
          output = refl;
          count = sym (main_takes p.functions main there);
          given = record { first = tt; others = tt };
          waiting = (refl, refl);
        }))

    keeps_from : Keeps (linear.run p) (from first)
    keeps_from =
        let reached = main_begins in
        subst (λ s. Keeps (λ n. machine.shows (linear.next p.functions) printed n s) (from first)) (sym linear_start)
        (keeps-composes (λ n. machine.shows (linear.next p.functions) printed n (begins p.globals number 0 slots)) (from reached.to) (from first)
        (keeps_stands p range (begins p.globals number 0 slots) reached.to (reached.related, begins_in_range p.globals number slots globals))
        (keeps_led first reached.to (leads_steps functions None reached.more first reached.to reached.go)))

    run_is : from first ≡ native.run (lowered p) junk None
    run_is = λ i n. (sym (shows_seen functions None n first) ∙ ap (λ o. behaviour_of (λ m. native.shows_from functions None m o) n) (sym native_start)) i

    keeps_main : Keeps (linear.run p) (native.run (lowered p) junk None)
    keeps_main = subst (Keeps (linear.run p)) run_is keeps_from

  -- without main the run of Linear goes wrong
  keeps_none : slice_get p.functions number ≡ None → Keeps (linear.run p) (native.run (lowered p) junk None)
  keeps_none missing = λ never. absurd (never 1 (ap (λ o. (machine.showing (linear.function_step p.functions (linear.start p) o) (machine.shows (linear.next p.functions) printed 0) []).shown) missing))

  pub keeps : Keeps (linear.run p) (native.run (lowered p) junk None)
  keeps = by (slice_get p.functions number) refl
    where
      by : (o : Option (Named FunctionData)) → slice_get p.functions number ≡ o → Keeps (linear.run p) (native.run (lowered p) junk None)
      by None there = keeps_none there
      by (Some main) there = keeps_main main there
