-- The step that a node takes next in a room.
use Rattle.std.specs.Prelude.{◌≡◌, ◌≢◌, ℕ, ◌<◌, ◌≤◌, nat_le, if◌then◌else◌, Bool, true, Option, Some, None, IfSome}
use Rattle.paxos_core_node_steps.specs.declared.step.Step.{Step}
use Rattle.paxos_core_node_steps.specs.declared.step.Step.TheVariants as step
use Rattle.rooms_crash.specs.SeatAct.{SeatAct}
use Rattle.rooms_crash.specs.SeatAct.TheVariants as act
use Rattle.rooms_crash.specs.SeatState.{SeatState}
use Rattle.rooms_crash.specs.Would.{would}
use Rattle.farm_nodes_turn_step.specs.Quiet.{IsQuiet}
use Rattle.farm_nodes_sweep_step.specs.declared.choosing.Answer.{Answer}
use Rattle.farm_nodes_sweep_step.specs.declared.choosing.Answer.TheVariants.{Accept, Promise}

-- the act by which a node answers another
abbrev pub asked_of : Answer → ℕ → SeatAct
asked_of Accept j = act.Accept j
asked_of Promise j = act.Promise j

-- the ballot of a step
abbrev pub ballot_of : Step → ℕ
ballot_of (step.Start b) = b
ballot_of (step.Promise b) = b
ballot_of (step.Propose b v) = b
ballot_of (step.Accept b v) = b

-- the one with the higher ballot, of the best so far and node j's step
abbrev pub higher : Option (ℕ × ℕ) → ℕ → Option Step → Option (ℕ × ℕ)
higher best j None = best
higher None j (Some x) = Some (j, ballot_of x)
higher (Some p) j (Some x) = if nat_le (ballot_of x) p.1 then Some p else Some (j, ballot_of x)

-- so asked, the seat takes no step for any of the first n nodes
abbrev pub AreNone : (ℕ → SeatAct) → ℕ → SeatState → Type 0
AreNone asked n s = (i : ℕ) → i < n → would s (asked i) ≡ None

-- for none of them it takes one under a ballot above this
abbrev pub AreBelow : (ℕ → SeatAct) → ℕ → SeatState → ℕ → Type 0
AreBelow asked n s b = (i : ℕ) → i < n → IfSome (would s (asked i)) (λ x. ballot_of x ≤ b)

-- for node j it takes one, and its ballot is the highest
pub record IsHighest (asked : ℕ → SeatAct) (n : ℕ) (s : SeatState) (j : ℕ) : Type 0 where
  pub below : j < n
  pub taken : Step
  pub is : would s (asked j) ≡ Some taken
  pub highest : AreBelow asked n s (ballot_of taken)

-- nothing is left to accept or to promise
abbrev pub HasAnswered : SeatState → Type 0
HasAnswered s = (j : ℕ) → j < s.node.quorums.nodes → IsQuiet j s

-- It accepts under the highest ballot that it may, or else promises the highest, or else proposes, or else starts a ballot, if it is to.
abbrev pub IsNext : Bool → SeatState → SeatAct → Type 0
IsNext starts s (act.Accept j) = IsHighest act.Accept s.node.quorums.nodes s j
IsNext starts s (act.Promise j) = AreNone act.Accept s.node.quorums.nodes s × IsHighest act.Promise s.node.quorums.nodes s j
IsNext starts s act.Propose = HasAnswered s × (would s act.Propose ≢ None)
IsNext starts s act.Start = HasAnswered s × (would s act.Propose ≡ None) × (starts ≡ true) × (would s act.Start ≢ None)

-- there is none: nothing is left to accept, to promise or to propose, nor to start, if it is to
abbrev pub HasNoNext : Bool → SeatState → Type 0
HasNoNext starts s = HasAnswered s × (would s act.Propose ≡ None) × (starts ≡ true → would s act.Start ≡ None)
