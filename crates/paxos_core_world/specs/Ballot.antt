-- Ballots, by which proposals are numbered (Lamport, Paxos Made Simple, section 2.2): each node has its own.
use Rattle.std.specs.Prelude.{◌≡◌, ℕ, ◌%◌, ◌≤◌}

-- of n nodes node i owns ballot b: ballots are the numbers from 1 to 65,535, and b mod n owns b
pub record Owns (n i b : ℕ) : Type 0 where
  pub first : 1 ≤ b
  pub last : b ≤ 65535
  pub turn : b % n ≡ i
