-- What is sought in the messages that were sent, one definition for each function that seeks it.
use Rattle.std.specs.Prelude.{ℕ, ◌==◌, nat_lt, nat_le, Bool, true, false, ◌&&◌, List, Option, Some, None}
use Rattle.std.specs.List.{list_any}
use Rattle.paxos_core_world.specs.Quorum.{Sizes, is_promise_quorum, is_accept_quorum, IsPromiseQuorum}
use Rattle.paxos_core_world.specs.Step.{HasOffered}
use Rattle.paxos_core_world.specs.World.{World}
use Rattle.paxos_core_world.specs.declared.msg.Msg.{Msg}
use Rattle.paxos_core_world.specs.declared.msg.Msg.TheVariants.{Prepare, Promise, Propose, Accepted}
use Rattle.paxos_core_world.specs.declared.vote.Vote.{Vote}

-- the message is Prepare(b)
abbrev pub is_prepare : ℕ → Msg → Bool
is_prepare b (Prepare c) = c == b
is_prepare b other = false

-- the message is Propose(b, v)
abbrev pub is_propose : ℕ → ℕ → Msg → Bool
is_propose b v (Propose c u) = (c == b) && (u == v)
is_propose b v other = false

-- the message proposes something under ballot b
abbrev pub is_proposal : ℕ → Msg → Bool
is_proposal b (Propose c u) = c == b
is_proposal b other = false

-- the message is Accepted(a, b, v)
abbrev pub is_accepted : ℕ → ℕ → ℕ → Msg → Bool
is_accepted a b v (Accepted k c u) = (k == a) && ((c == b) && (u == v))
is_accepted a b v other = false

-- the report names no vote, or one of a ballot that is not above `most`
abbrev pub is_within : Option ℕ → Option Vote → Bool
is_within most None = true
is_within (Some c) (Some x) = nat_le x.ballot c
is_within None (Some x) = false

-- the message is a promise of node a for ballot b with such a report
abbrev pub is_promise : ℕ → ℕ → Option ℕ → Msg → Bool
is_promise a b most (Promise k c report) = (k == a) && ((c == b) && is_within most report)
is_promise a b most other = false

-- node a sent a promise for ballot b with such a report
abbrev pub has_promised : List Msg → ℕ → Option ℕ → ℕ → Bool
has_promised sent b most a = list_any (is_promise a b most) sent

-- node a voted for v under ballot b
abbrev pub has_voted : List Msg → ℕ → ℕ → ℕ → Bool
has_voted sent b v a = list_any (is_accepted a b v) sent

-- the message is a promise for ballot b that reports a vote for v, and a promise quorum's promises report none above it
abbrev pub is_highest : List Msg → Sizes → ℕ → ℕ → Msg → Bool
is_highest sent q b v (Promise k c (Some x)) =
    nat_lt k q.nodes && ((c == b) && ((x.value == v) && is_promise_quorum q (has_promised sent b (Some x.ballot))))
is_highest sent q b v other = false

-- the message is a vote for v, and an accept quorum voted as it does
abbrev pub is_tally : List Msg → Sizes → ℕ → Msg → Bool
is_tally sent q v (Accepted k b u) = (u == v) && is_accept_quorum q (has_voted sent b v)
is_tally sent q v other = false

-- a promise quorum's promises for ballot b report no vote, and v has offered
pub record IsFree (q : Sizes) (w : World) (b v : ℕ) : Type 0 where
  pub offered : HasOffered q.nodes w.nodes v
  pub quorum : IsPromiseQuorum q (has_promised w.sent b None)
