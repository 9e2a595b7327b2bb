-- What native code shows, as a machine; and what its steps lead to.
use Rattle.std.proofs.Common.{◌≡◌, ℕ, zero, suc, ◌+◌, List, Option, refl, ap, ◌∙◌, arith}
use Rattle.lang_base.specs.Behaviour.{Shows as BaseShows}
use Rattle.lang_base.specs.declared.program.Named.{Named}
use Rattle.lang_base.specs.declared.shown.Shown.TheVariants as base
use Rattle.lang_base.specs.Machine.{Leads}
use Rattle.lang_base.specs.Machine as machine
use Rattle.x86_syntax.specs.declared.function.Function.{Function}
use Rattle.x86_state.specs.Shows.{Shows, showing, shows}
use Rattle.x86_state.specs.State.{State, Step, Goes, Ends, Stops, Fills, Stuck}
use Rattle.x86.specs.Meaning.{next}
use Rattle.native_lowering_walks.specs.Seen.{seen, seen_next, output_of, as_shows}
use Rattle.native_lowering_walks.specs.Walks.{then, steps}

seen_showing : (x : Step) (later : State → Shows) (later' : State → BaseShows) (out : List ℕ) → ((s : State) → as_shows (later s) ≡ later' s)
    → as_shows (showing x later out) ≡ machine.showing (seen x) later' out
seen_showing (Goes s) later later' out same = same s
seen_showing (Ends w) later later' out same = refl
seen_showing Stops later later' out same = refl
seen_showing Fills later later' out same = refl
seen_showing Stuck later later' out same = refl

module _ (functions : List (Named Function)) (room : Option ℕ) where
  pub shows_seen : (n : ℕ) (s : State) → as_shows (shows (next functions room) n s) ≡ machine.shows (seen_next functions room) output_of n s
  shows_seen zero s = refl
  shows_seen (suc n) s = seen_showing (next functions room s) _ _ s.output (shows_seen n)

  behind : (x : Step) (n : ℕ) (m k : ℕ) (out : List ℕ) (t : State)
      → ((u : State) → steps functions room n u ≡ Goes t → machine.shows (seen_next functions room) output_of m u ≡ machine.shows (seen_next functions room) output_of k t)
      → then x (steps functions room n) ≡ Goes t
      → machine.showing (seen x) (machine.shows (seen_next functions room) output_of m) out ≡ machine.shows (seen_next functions room) output_of k t
  behind (Goes u) n m k out t later go = later u go
  behind (Ends w) n m k out t later go = cc
  behind Stops n m k out t later go = cc
  behind Fills n m k out t later go = cc
  behind Stuck n m k out t later go = cc

  -- behind n steps it shows what it shows from there
  pub shows_steps : (n k m : ℕ) (s t : State) → m ≡ n + k → steps functions room n s ≡ Goes t
      → machine.shows (seen_next functions room) output_of m s ≡ machine.shows (seen_next functions room) output_of k t
  shows_steps zero k m s t e go =
      let same : s ≡ t = cc in
      let count : m ≡ k = omega arith in
      rw (same, count) refl
  shows_steps (suc n) k zero s t e go = absurd (omega arith)
  shows_steps (suc n) k (suc m) s t e go =
      behind (next functions room s) n m k s.output t (λ u. shows_steps n k m u t (omega arith)) go

  -- one step or more lead on
  pub leads_steps : (n : ℕ) (s t : State) → steps functions room (suc n) s ≡ Goes t → Leads (seen_next functions room) output_of s t
  leads_steps n s t go = record { by = λ k. (suc n + k, omega arith, shows_steps (suc n) k (suc n + k) s t refl go) }

  -- and to an end
  pub ends_steps : (n w : ℕ) (s t : State) → steps functions room n s ≡ Goes t → next functions room t ≡ Ends w
      → machine.shows (seen_next functions room) output_of (n + 1) s ≡ record { shown = base.Ended w; output = t.output }
  ends_steps n w s t go ends =
      shows_steps n 1 (n + 1) s t refl go
      ∙ ap (λ x. machine.showing (seen x) (machine.shows (seen_next functions room) output_of 0) t.output) ends
