-- What a node keeps on stable storage (Lamport, Paxos Made Simple, section 3), and what each step makes of it.
use Rattle.std.specs.Prelude.{ℕ, ◌≤◌, Bool, true, false, Option, Some, None, IfSome}
use Rattle.std.specs.Option.{option_map}
use Rattle.paxos_core_world.specs.declared.vote.Vote.{Vote}

-- whether the node has offered, the ballots that it started and promised last (0 for none), and its vote
pub record KeptPart : Type 0 where
  pub offered : Bool
  pub started : ℕ
  pub promised : ℕ
  pub accepted : Option Vote

-- of a node that has done nothing yet
abbrev pub nothing_kept : KeptPart
nothing_kept = record { offered = false; started = 0; promised = 0; accepted = None }

-- a vote's ballot is from 1 to the promised one
abbrev pub IsWithinPromise : ℕ → Option Vote → Type 0
IsWithinPromise promised accepted = IfSome accepted (λ x. (1 ≤ x.ballot) × (x.ballot ≤ promised))

-- the part once its node has offered
abbrev pub with_offer : KeptPart → KeptPart
with_offer k = record { offered = true; started = k.started; promised = k.promised; accepted = k.accepted }

-- the part without its node's offer
abbrev pub without_offer : KeptPart → KeptPart
without_offer k = record { offered = false; started = k.started; promised = k.promised; accepted = k.accepted }

-- the part once its node has started ballot b
abbrev pub with_start : ℕ → KeptPart → KeptPart
with_start b k = record { offered = k.offered; started = b; promised = k.promised; accepted = k.accepted }

-- the part once its node has promised ballot b
abbrev pub with_promise : ℕ → KeptPart → KeptPart
with_promise b k = record { offered = k.offered; started = k.started; promised = b; accepted = k.accepted }

-- the part once its node has voted
abbrev pub with_vote : Vote → KeptPart → KeptPart
with_vote x k = record { offered = k.offered; started = k.started; promised = x.ballot; accepted = Some x }

-- the vote with this ballot and value
abbrev pub vote : ℕ → ℕ → Vote
vote b v = record { ballot = b; value = v }

-- the part with these entries, its vote given as ballot and value
abbrev pub part : Bool → ℕ → ℕ → Option (ℕ × ℕ) → KeptPart
part offered started promised accepted =
    record { offered = offered; started = started; promised = promised; accepted = option_map (λ (x : ℕ × ℕ). vote x.0 x.1) accepted }

-- these entries make a part: no number is above 65,535, and the vote's ballot is from 1 to the promised one
abbrev pub IsInForm : ℕ → ℕ → Option (ℕ × ℕ) → Type 0
IsInForm started promised accepted =
    (started ≤ 65535) × (promised ≤ 65535)
    × IfSome accepted (λ x. (1 ≤ x.0) × (x.0 ≤ promised) × (x.1 ≤ 65535))
