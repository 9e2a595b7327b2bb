-- What a step leads to.
use Rattle.std.specs.Prelude.{◌≡◌, ℕ, ◌+◌, List, [], ◌∷◌, ◌++◌}
use Rattle.lang_base.specs.Behaviour.{Shows}
use Rattle.c_program.specs.Meaning.{Outcome, Falls, arrives, shown}
use Rattle.c_meaning_machine.specs.declared.next.Next.{Next}
use Rattle.c_meaning_machine.specs.declared.next.Next.TheVariants.{Goes, Prints, Stops}
use Rattle.c_meaning_machine.specs.declared.machine.Machine.{Machine}
use Rattle.c_meaning_machine.specs.Resume.{here, later}
use Rattle.c_meaning_machine.specs.Costs.{later_cost}

-- what the run shows that stands so, where so much is printed
abbrev pub shows : Next → Machine → List ℕ → Shows
shows Goes m output = shown (later m (Falls (here m output)))
shows (Prints byte target) m output = shown (later m (arrives target byte (here m (output ++ byte ∷ []))))
shows (Stops how) m output = record { shown = how; output = output }

-- the steps that are still to be done
abbrev pub next_cost : Next → Machine → ℕ
next_cost Goes m = later_cost m
next_cost (Prints byte target) m = 1 + later_cost m
next_cost (Stops how) m = 0

-- whatever is printed so far, the run shows what is shown of this outcome
abbrev pub Meets : Next → Machine → (List ℕ → Outcome) → Type 0
Meets next m outcome = (output : List ℕ) → shows next m output ≡ shown (outcome output)
