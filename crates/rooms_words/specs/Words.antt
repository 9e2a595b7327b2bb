-- The two words of a node of a room: ballots and values at fixed places of one number.
use Rattle.std.specs.Prelude.{◌≡◌, ℕ, ◌+◌, ◌-◌, ◌*◌, ◌/◌, ◌%◌, ◌<◌, ◌≤◌, ◌==◌, if◌then◌else◌, Option, Some, None}
use Rattle.paxos_core_world.specs.KeptPart.{vote}
use Rattle.paxos_core_world.specs.declared.vote.Vote.{Vote}

-- 0 for none, else one more than the value
abbrev pub code_of : Option ℕ → ℕ
code_of None = 0
code_of (Some v) = v + 1

-- and back
abbrev pub decoded : ℕ → Option ℕ
decoded code = if code == 0 then None else Some (code - 1)

-- the proposer's word: the started ballot in bits 0 to 15, the code of the value proposed under it in bits 16 to 23
abbrev pub proposer_word : ℕ → Option ℕ → ℕ
proposer_word started proposed = started + 65536 * code_of proposed

-- what the number tells of the ballot started
abbrev pub started_in : ℕ → ℕ
started_in word = word % 65536

-- what it tells of the value proposed
abbrev pub proposed_in : ℕ → Option ℕ
proposed_in word = decoded (word / 65536 % 256)

-- the acceptor's word: the promised ballot in bits 0 to 15, the vote's ballot in bits 16 to 31, its value in bits 32 to 39
abbrev pub acceptor_word : ℕ → Option Vote → ℕ
acceptor_word promised None = promised
acceptor_word promised (Some x) = promised + 65536 * (x.ballot + 65536 * x.value)

-- what the number tells of the ballot promised
abbrev pub promised_in : ℕ → ℕ
promised_in word = word % 65536

-- what it tells of the vote: ballot 0 stands for none
abbrev pub accepted_in : ℕ → Option Vote
accepted_in word =
    if word / 65536 % 65536 == 0 then None else Some (vote (word / 65536 % 65536) (word / 4294967296 % 256))

-- a vote that a word can tell
abbrev pub IsVoteInWord : Vote → Type 0
IsVoteInWord x = (1 ≤ x.ballot) × (x.value < 256)

-- the number is the proposer's word for these two, and tells them
pub record IsProposerWord (word started : ℕ) (proposed : Option ℕ) : Type 0 where
  pub packed : word ≡ proposer_word started proposed
  pub tells_started : started_in word ≡ started
  pub tells_proposed : proposed_in word ≡ proposed

-- the number is the acceptor's word for these two, and tells them
pub record IsAcceptorWord (word promised : ℕ) (accepted : Option Vote) : Type 0 where
  pub packed : word ≡ acceptor_word promised accepted
  pub tells_promised : promised_in word ≡ promised
  pub tells_accepted : accepted_in word ≡ accepted
