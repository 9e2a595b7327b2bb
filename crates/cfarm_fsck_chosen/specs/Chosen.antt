-- The vote that was chosen in a room, as the last votes of its nodes show it (Lamport, Paxos Made Simple, section 2).
use Rattle.std.specs.Prelude.{◌≡◌, ℕ, zero, suc, ◌<◌, ◌≤◌, nat_le, Bool, false, ◌==◌, if◌then◌else◌, List, [], ◌∷◌, Option, Some, None}
use Rattle.paxos_core_world.specs.declared.vote.Vote.{Vote}
use Rattle.paxos_core_world.specs.KeptPart.{KeptPart}

-- a vote under this ballot
abbrev pub is_under : ℕ → Option Vote → Bool
is_under b None = false
is_under b (Some x) = x.ballot == b

-- how many of the nodes have their last vote under a ballot
abbrev pub votes_under : ℕ → List KeptPart → ℕ
votes_under b [] = zero
votes_under b (k ∷ ks) = if is_under b k.accepted then suc (votes_under b ks) else votes_under b ks

-- so many of them have theirs under the ballot of this one
abbrev pub has_quorum : ℕ → List KeptPart → Option Vote → Bool
has_quorum accept all None = false
has_quorum accept all (Some x) = nat_le accept (votes_under x.ballot all)

abbrev pub chosen_from : ℕ → List KeptPart → List KeptPart → Option Vote
chosen_from accept all [] = None
chosen_from accept all (k ∷ ks) = if has_quorum accept all k.accepted then k.accepted else chosen_from accept all ks

-- the first node's last vote under whose ballot the last votes of an accept quorum are, where quorums have so many nodes
abbrev pub chosen_in : ℕ → List KeptPart → Option Vote
chosen_in accept nodes = chosen_from accept nodes nodes

-- the last votes of an accept quorum are under the ballot of what is chosen
abbrev pub ChosenHasQuorum : ℕ → List KeptPart → Type 0
ChosenHasQuorum accept nodes = (x : Vote) → chosen_in accept nodes ≡ Some x → accept ≤ votes_under x.ballot nodes

-- where nothing is chosen those of fewer nodes are under each ballot
abbrev pub OpenHasNoQuorum : ℕ → List KeptPart → Type 0
OpenHasNoQuorum accept nodes = chosen_in accept nodes ≡ None → (b : ℕ) → votes_under b nodes < accept
