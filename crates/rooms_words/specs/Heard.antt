-- What a node makes of another acceptor's word: it notes the promise that the word shows for its ballot under way, and the
-- vote that it shows, and may learn from that.
use Rattle.std.specs.Prelude.{ℕ, List, [], Option, Some, None}
use Rattle.paxos_core_world.specs.Step.{Label}
use Rattle.paxos_core_world.specs.declared.msg.Msg.TheVariants.{Accepted}
use Rattle.paxos_core_world.specs.declared.vote.Vote.{Vote}
use Rattle.paxos_core.specs.Learner.{after_promise, after_vote}
use Rattle.paxos_core.specs.NodeState.{NodeState}
use Rattle.paxos_core.specs.Taken.{taken_on}

-- after a vote of node j, if there is one
abbrev pub after_shown_vote : NodeState → ℕ → Option Vote → NodeState
after_shown_vote s j None = s
after_shown_vote s j (Some x) = after_vote s j x

-- the steps that it takes then
abbrev pub taken_on_vote : NodeState → ℕ → Option Vote → List Label
taken_on_vote s j None = []
taken_on_vote s j (Some x) = taken_on s (Accepted j x.ballot x.value)

-- after a look at node j's acceptor, which has promised and accepted this
abbrev pub after_hearing : NodeState → ℕ → ℕ → Option Vote → NodeState
after_hearing s j promised accepted = after_shown_vote (after_promise s j promised accepted) j accepted

-- the steps that it takes then: at most it learns
abbrev pub taken_by_hearing : NodeState → ℕ → ℕ → Option Vote → List Label
taken_by_hearing s j promised accepted = taken_on_vote (after_promise s j promised accepted) j accepted
