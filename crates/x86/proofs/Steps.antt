-- What a step comes to, where it is known what follows.
use Rattle.std.proofs.Common.{◌≡◌, subst}
use Rattle.x86_state.specs.State.{State, goes_on}
use Rattle.x86.specs.declared.outcome.Outcome.{Outcome}
use Rattle.x86.specs.Runs.{Comes}

-- going on from the same state
pub goes_same : (s t before before' : State) (outcome : Outcome) (after : State) → s ≡ t → Comes (goes_on s) before outcome after → Comes (goes_on t) before' outcome after
goes_same s t before before' outcome after e comes = subst (λ x. Comes (goes_on x) before' outcome after) e comes
