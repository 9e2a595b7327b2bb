-- A run in memory as a state, and what its calls do to it.
use Rattle.std.specs.Prelude.{◌≡◌, ℕ, ◌+◌, ◌-◌, ◌%◌, ◌<◌, ◌^◌, List, length, slice_index}
use Rattle.x86_state.specs.State.{State, Step, Goes, Ends, Stops, Fills, Stuck}
use Rattle.x86_state.specs.Shows.{Shows}
use Rattle.x86_state.specs.declared.shown.Shown.{Shown}
use Rattle.x86.specs.declared.outcome.Outcome.{Outcome}
use Rattle.x86.specs.declared.outcome.Outcome.TheVariants as o
use Rattle.x86.specs.declared.running.Running.{Running}
use Rattle.x86.specs.declared.running.Ran.{Ran}

-- these words over and over, from a place on; 0 over and over where there are none
abbrev pub stream_of : List ℕ → ℕ → ℕ → ℕ
stream_of words at k = slice_index words ((at + k) % length words)

-- the state that it stands for, where these words are drawn from
abbrev pub state_of : List ℕ → Running → State
state_of words r = record {
  function = r.function;
  place = r.place;
  registers = r.registers.words;
  flags = r.flags;
  stack = r.stack;
  globals = r.globals.items;
  output = r.output.items;
  junk = stream_of words r.drawn;
}

-- the step came to this outcome, and to the later state where it goes on; where it does not nothing more is printed
abbrev pub Comes : Step → State → Outcome → State → Type 0
Comes (Goes s) before o.Goes after = after ≡ s
Comes (Ends w) before (o.Ends result) after = (result ≡ w) × (after.output ≡ before.output)
Comes Stops before o.Stops after = after.output ≡ before.output
Comes Fills before o.Fills after = after.output ≡ before.output
Comes Stuck before o.Stuck after = after.output ≡ before.output
Comes step before outcome after = ⊥

-- where these words are drawn from, the step from the first comes to this
abbrev pub StepsFrom : List ℕ → (State → Step) → Running → Running → Outcome → Type 0
StepsFrom words step before after outcome = Comes (step (state_of words before)) (state_of words before) outcome (state_of words after)

-- so it does whatever words are drawn from
abbrev pub Steps : (State → Step) → Running → Outcome → Running → Type 0
Steps step before outcome after = (words : List ℕ) → StepsFrom words step before after outcome

-- whatever words are drawn from, the state is changed so
abbrev pub Changes : (State → State) → Running → Running → Type 0
Changes change before after = (words : List ℕ) → state_of words after ≡ change (state_of words before)

-- the run has shown this, and printed what it shows
abbrev pub HasShown : Shows → Running → Shown → Type 0
HasShown shows run shown = shows ≡ record { shown = shown; output = run.output.items }

-- the instruction below has a number
abbrev pub HasNext : Running → Type 0
HasNext r = r.place < 2 ^ 64 - 1

-- what a run shows in memory
abbrev pub shows_of : Ran → Shows
shows_of ran = record { shown = ran.shown; output = ran.output.items }
