-- The ballot that a node starts next: proposers take their numbers from disjoint sets (Lamport, Paxos Made Simple,
-- section 2.5), here by the remainder.
use Rattle.std.specs.Prelude.{◌≡◌, ℕ, ◌+◌, ◌-◌, ◌%◌, ◌<◌, ◌≤◌, nat_le, if◌then◌else◌, Option, Some, None}
use Rattle.paxos_core_world.specs.Ballot.{Owns}

-- of n nodes, the least number above `floor` whose remainder by n is i
abbrev pub least_above : ℕ → ℕ → ℕ → ℕ
least_above i n floor = floor + 1 + (i + n - (floor + 1) % n) % n

-- the number, if it is a ballot
abbrev pub if_ballot : ℕ → Option ℕ
if_ballot b = if nat_le b 65535 then Some b else None

-- b is the least such number
pub record IsLeastAbove (i n floor b : ℕ) : Type 0 where
  pub above : floor < b
  pub turn : b % n ≡ i
  pub least : (c : ℕ) → floor < c → c % n ≡ i → b ≤ c

-- of n nodes node i owns no ballot above the floor
abbrev pub IsSpent : ℕ → ℕ → ℕ → Type 0
IsSpent i n floor = (b : ℕ) → Owns n i b → b ≤ floor
