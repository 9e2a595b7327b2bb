-- The words of a world: each node has two, side by side, its proposer's before its acceptor's.
use Rattle.std.specs.Prelude.{◌≡◌, ℕ, ◌+◌, ◌*◌, ◌<◌, ◌==◌, if◌then◌else◌, List, [], ◌∷◌, Option, Some, None, length, slice_index}
use Rattle.paxos_core_world.specs.KeptPart.{KeptPart}
use Rattle.paxos_core_world.specs.World.{World}
use Rattle.paxos_core_world.specs.declared.msg.Msg.{Msg}
use Rattle.paxos_core_world.specs.declared.msg.Msg.TheVariants.{Prepare, Promise, Propose, Accepted}
use Rattle.rooms_words.specs.Words.{IsProposerWord, IsAcceptorWord}

-- the value that was proposed under ballot b, if one was
abbrev pub proposed_under : ℕ → List Msg → Option ℕ
proposed_under b [] = None
proposed_under b (Propose c v ∷ ms) = if c == b then Some v else proposed_under b ms
proposed_under b (Prepare c ∷ ms) = proposed_under b ms
proposed_under b (Promise a c report ∷ ms) = proposed_under b ms
proposed_under b (Accepted a c v ∷ ms) = proposed_under b ms

-- what node i has proposed in this run under the ballot that it started last
abbrev pub proposed_by : World → ℕ → Option ℕ
proposed_by w i = proposed_under (w.nodes i).started w.sent

-- the places of node i's words
abbrev pub proposer_at : ℕ → ℕ
proposer_at i = 2 * i

abbrev pub acceptor_at : ℕ → ℕ
acceptor_at i = 2 * i + 1

-- the number is the word of node i's proposer in this world: what it started, and what it proposed under that
abbrev pub IsProposerOf : World → ℕ → ℕ → Type 0
IsProposerOf w i number = IsProposerWord number (w.nodes i).started (proposed_by w i)

-- the number is the word of node i's acceptor in this world: what it promised and what it accepted
abbrev pub IsAcceptorOf : World → ℕ → ℕ → Type 0
IsAcceptorOf w i number = IsAcceptorWord number (w.nodes i).promised (w.nodes i).accepted

-- the numbers are the words of the n nodes of this world
pub record ShowsWorld (n : ℕ) (w : World) (words : List ℕ) : Type 0 where
  pub size : length words ≡ 2 * n
  pub proposers : (i : ℕ) → i < n → IsProposerOf w i (slice_index words (proposer_at i))
  pub acceptors : (i : ℕ) → i < n → IsAcceptorOf w i (slice_index words (acceptor_at i))

-- among the numbers are the words of node i that show what it has kept: it has proposed nothing yet
pub record ShowsKept (k : KeptPart) (i : ℕ) (words : List ℕ) : Type 0 where
  pub proposer : IsProposerWord (slice_index words (proposer_at i)) k.started None
  pub acceptor : IsAcceptorWord (slice_index words (acceptor_at i)) k.promised k.accepted
