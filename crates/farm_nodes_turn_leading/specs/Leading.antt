-- When a node starts a ballot, what it draws for that, and what stands once it has led its room.
use Rattle.std.specs.Prelude.{◌≡◌, ◌≢◌, ◌⊎◌, ℕ, ◌%◌, ◌<◌, ◌≤◌, Bool, true, ◌&&◌, nat_lt, if◌then◌else◌, is_none, Option, Some, None, IsSomeAnd}
use Rattle.rand_pcg.specs.Lcg.{Lcg}
use Rattle.rand_pcg.specs.Pcg.{pcg32}
use Rattle.paxos_core_world.specs.KeptPart.{with_start}
use Rattle.paxos_core_node_steps.specs.NodeState.{NodeState}
use Rattle.rooms_seat_state.specs.declared.act.SeatAct.TheVariants as act
use Rattle.rooms_seat_state.specs.SeatState.{SeatState}
use Rattle.rooms_seat_state.specs.Would.{would}
use Rattle.farm_nodes_turn_step.specs.OfRun.{GoesOn}

-- the ballot under way, if there is one, is below the promised one
abbrev pub is_passed : Option ℕ → ℕ → Bool
is_passed None promised = true
is_passed (Some b) promised = nat_lt b promised

-- it has offered and has not learned, and its ballot under way, if it has one, is below its own promised one
abbrev pub may_start : NodeState → Bool
may_start s = s.kept.offered && (is_none s.learned && is_passed s.ballot s.kept.promised)

-- it has learned, or no own ballot is left, or its ballot under way is not below its own promised one
abbrev pub HasLed : SeatState → Type 0
HasLed s = (s.node.learned ≢ None) ⊎ (would s act.Start ≡ None) ⊎ IsSomeAnd s.node.ballot (λ b. s.node.kept.promised ≤ b)

-- a node that had offered has led where this word of its generator is 0 modulo 4
abbrev pub LeadsByLot : ℕ → SeatState → SeatState → Type 0
LeadsByLot word old new = old.node.kept.offered ≡ true → word % 4 ≡ 0 → HasLed new

-- the same between two moments: of what it takes, the ballot under way alone was another at the first one
abbrev pub might_start : NodeState → NodeState → Bool
might_start old new = may_start (record new { ballot = old.ballot })

-- a node that started a ballot might do so; and if it had offered before, it did so at a word that is 0 modulo 4
abbrev pub StartsByLot : ℕ → SeatState → SeatState → Type 0
StartsByLot word old new =
    new.node.kept.started ≢ old.node.kept.started
    → (might_start old.node new.node ≡ true) × (old.node.kept.offered ≡ true → word % 4 ≡ 0)

-- the generator behind: it has drawn a word if the node might start, else none
abbrev pub drawn_to_lead : Lcg → SeatState → SeatState → Lcg
drawn_to_lead draws old new = if might_start old.node new.node then (pcg32 draws).1 else draws

-- it has drawn one word or none
abbrev pub DrawsOneOrNone : Lcg → Lcg → Type 0
DrawsOneOrNone old new = (new ≡ old) ⊎ (new ≡ (pcg32 old).1)

-- A node that had offered draws at most the one word to lead; and no node starts a ballot but by that.
pub record DrawsToLead (draws drawn : Lcg) (old new : SeatState) : Type 0 where
  pub started : StartsByLot (pcg32 draws).0 old new
  pub once : old.node.kept.offered ≡ true → DrawsOneOrNone draws drawn

-- the node made no offer
abbrev pub OffersNone : SeatState → SeatState → Type 0
OffersNone old new = new.node.kept.offered ≡ old.node.kept.offered

-- then it has drawn just that word
abbrev pub HasDrawn : Lcg → Lcg → SeatState → SeatState → Type 0
HasDrawn draws drawn old new = OffersNone old new → drawn ≡ drawn_to_lead draws old new

-- the ballot under way is the old one, and none was started
abbrev pub HasStartedNone : NodeState → NodeState → Type 0
HasStartedNone old new = (new.kept.started ≡ old.kept.started) × (new.ballot ≡ old.ballot)

-- it is one that was started, above all that were
abbrev pub HasStartedOne : NodeState → NodeState → Type 0
HasStartedOne old new = (old.kept.started < new.kept.started) × (new.ballot ≡ Some new.kept.started)

-- what is under way is the old ballot, or the one that was started
abbrev pub IsOldOrStarted : NodeState → NodeState → Type 0
IsOldOrStarted old new = HasStartedNone old new ⊎ HasStartedOne old new

-- what leading leaves of a seat: of what it keeps only the ballot that it started may be another, which is then under way; it goes on in its run
pub record LeavesAll (old new : SeatState) : Type 0 where
  pub table : new.table ≡ old.table
  pub me : new.node.me ≡ old.node.me
  pub quorums : new.node.quorums ≡ old.node.quorums
  pub learned : new.node.learned ≡ old.node.learned
  pub proposers : new.proposers ≡ old.proposers
  pub kept : new.node.kept ≡ with_start new.node.kept.started old.node.kept
  pub under_way : IsOldOrStarted old.node new.node
  pub run : GoesOn old new

-- what taking part leaves of a seat: the room, its node and its offer, what it had learned, and the ballot under way but for one that it
-- started; it goes on in its run
pub record StaysInRoom (old new : SeatState) : Type 0 where
  pub table : new.table ≡ old.table
  pub me : new.node.me ≡ old.node.me
  pub quorums : new.node.quorums ≡ old.node.quorums
  pub offered : new.node.kept.offered ≡ old.node.kept.offered
  pub under_way : IsOldOrStarted old.node new.node
  pub learned : (v : ℕ) → old.node.learned ≡ Some v → new.node.learned ≡ Some v
  pub run : GoesOn old new
