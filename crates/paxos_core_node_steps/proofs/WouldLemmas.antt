-- What a node tells is what it does.
use Rattle.std.proofs.Common.{◌≡◌, ℕ, Bool, true, false, cond, leb, [], ◌∷◌, Option, Some, None, refl, ap}
use Rattle.std.specs.Option.{option_map}
use Rattle.paxos_core_world.specs.KeptPart.{with_promise, with_vote, vote}
use Rattle.paxos_core_world.specs.Step.{Starts, Promises, Accepts}
use Rattle.paxos_core_world.specs.declared.vote.Vote.{Vote}
use Rattle.paxos_core_node_steps.specs.declared.step.Act.{Act}
use Rattle.paxos_core_node_steps.specs.declared.step.Act.TheVariants as act
use Rattle.paxos_core_node_steps.specs.declared.step.Step.TheVariants as step
use Rattle.paxos_core_node_steps.specs.Acceptor.{promises, accepts}
use Rattle.paxos_core_node_steps.specs.NodeState.{NodeState}
use Rattle.paxos_core_node_steps.specs.Proposer.{next_ballot, started, proposal_under, next_proposal, propose_message, after_answer}
use Rattle.paxos_core_node_steps.specs.Taken.{proposes}
use Rattle.paxos_core_node_steps.specs.Would.{would, after_act, taken_by_act, IsDone}

start_if : (t : Bool) (s : NodeState) → IsDone s (cond t (started s) s) (cond t (Starts s.me (next_ballot s) ∷ []) []) (option_map step.Start (cond t (Some (next_ballot s)) None))
start_if true s = record { steps = refl; kept = refl; idle = λ e. absurd (cc) }
start_if false s = record { steps = refl; kept = refl; idle = λ e. refl }

promise_if : (t : Bool) (s : NodeState) (b : ℕ) → IsDone s (cond t (record s { kept = with_promise b s.kept }) s) (cond t (Promises s.me b ∷ []) []) (option_map step.Promise (cond t (Some b) None))
promise_if true s b = record { steps = refl; kept = refl; idle = λ e. absurd (cc) }
promise_if false s b = record { steps = refl; kept = refl; idle = λ e. refl }

propose_if : (o : Option (ℕ × ℕ)) (s : NodeState) → IsDone s (after_answer s (propose_message o)) (proposes (propose_message o)) (option_map (λ (p : ℕ × ℕ). step.Propose p.0 p.1) o)
propose_if None s = record { steps = refl; kept = refl; idle = λ e. refl }
propose_if (Some p) s = record { steps = refl; kept = refl; idle = λ e. absurd (cc) }

accept_if : (t : Bool) (s : NodeState) (b v : ℕ) → IsDone s (cond t (record s { kept = with_vote (vote b v) s.kept }) s) (cond t (Accepts s.me b v ∷ []) []) (option_map (λ (x : Vote). step.Accept x.ballot x.value) (cond t (Some (vote b v)) None))
accept_if true s b v = record { steps = refl; kept = refl; idle = λ e. absurd (cc) }
accept_if false s b v = record { steps = refl; kept = refl; idle = λ e. refl }

pub told_is_done : (s : NodeState) (a : Act) → IsDone s (after_act s a) (taken_by_act s a) (would s a)
told_is_done s act.Start = start_if (leb (next_ballot s) 65535) s
told_is_done s (act.Promise b) = promise_if (promises s b) s b
told_is_done s act.Propose = propose_if (next_proposal s) s
told_is_done s (act.Accept b v) = accept_if (accepts s (vote b v)) s b v

-- ---- one proposal

none_proposed : (o : Option ℕ) (c : Option ℕ) → proposal_under o false c ≡ None
none_proposed None c = refl
none_proposed (Some b) c = refl

propose_again : (s : NodeState) (o : Option (ℕ × ℕ)) → next_proposal s ≡ o → next_proposal (after_answer s (propose_message o)) ≡ None
propose_again s None e = e
propose_again s (Some p) e = none_proposed s.ballot _

pub proposed_once : (s : NodeState) → would (after_act s act.Propose) act.Propose ≡ None
proposed_once s = ap (λ o. option_map (λ (p : ℕ × ℕ). step.Propose p.0 p.1) o) (propose_again s (next_proposal s) refl)
