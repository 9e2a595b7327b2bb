-- One step with its record: what was told, what is left pending, and why a node was stopped.
use Rattle.std.proofs.Common.{◌≡◌, ◌≢◌, ℕ, ◌+◌, ◌<◌, ◌≤◌, Bool, true, false, ltb, List, [], ◌∷◌, ◌++◌, length, Option, Some, None, IfSome, option_map, refl, sym, ap, ◌∙◌, subst, arith}
use Rattle.std.proofs.lemmas.Bool.{and_parts, ltb-true, le-ltb, lt-ltb}
use Rattle.std.proofs.lemmas.List.{length_push}
use Rattle.durable_model.specs.declared.disk.Disk as disks
use Rattle.durable_model.specs.Honest.{Risen}
use Rattle.paxos_core_world.specs.KeptPart.{KeptPart}
use Rattle.paxos_core_world.specs.declared.vote.Vote.{Vote}
use Rattle.paxos_core_node_steps.specs.Acceptor.{is_vote}
use Rattle.paxos_core_node_steps.specs.Proposer.{next_proposal}
use Rattle.paxos_core_node_steps.specs.Would.{next_start}
use Rattle.paxos_core_node_steps.specs.Would as core
use Rattle.paxos_core_node_steps.specs.declared.step.Step.{Step}
use Rattle.paxos_core_node_steps.specs.declared.step.Step.TheVariants as step
use Rattle.acceptor_log_form.specs.declared.errors.LogError.{LogError}
use Rattle.acceptor_log_form.specs.declared.errors.LogError.TheVariants.{NoMemory, Device, NotAJournal, BadRecord, OtherSource, Stopped, Full}
use Rattle.acceptor_log_form.specs.declared.record.Record.{Record}
use Rattle.acceptor_log_form.specs.Leaves.{kept_by_record}
use Rattle.acceptor_log.specs.declared.log.Log.{Log}
use Rattle.acceptor_log.specs.Acknowledged.{IsNoFault}
use Rattle.rooms_crash.specs.SeatAct.{SeatAct}
use Rattle.rooms_crash.specs.SeatAct.TheVariants as act
use Rattle.rooms_crash.specs.Did.{Did}
use Rattle.rooms_crash.specs.SeatState.{SeatState, proposer_of, promise_of, vote_of}
use Rattle.rooms_crash.specs.Would.{would, act_of, proposed_by_step, IsStarted, ProposesNoMore, Acted}
use Rattle.rooms_crash.proofs.Acts.{vote_seen}
use Rattle.farm_nodes_turn_order.specs.Meeting.{IsBounded}
use Rattle.farm_nodes_turn_step.specs.Cause.{IsFull, HasCause}
use Rattle.farm_nodes_turn_step.specs.Noted.{record_of, records_of, IsByte}
use Rattle.farm_nodes_turn_order.proofs.Records.{kept_step}

-- ---- no step

some_is : (s : Step) (o : Option Step) → o ≡ Some s → o ≡ None → ⊥
some_is s o e n = let bad : Some s ≡ None = sym e ∙ n in cc

no_more_none : (a : SeatAct) (s : SeatState) → would s a ≡ None → ProposesNoMore a (would s a) s
no_more_none act.Start s e = λ d. absurd (d e)
no_more_none (act.Promise j) s e = tt
no_more_none act.Propose s e = e
no_more_none (act.Accept j) s e = tt

-- a seat that told no step, and was not asked
pub none_acted : (a : SeatAct) (s : SeatState) → would s a ≡ None → Acted a s s
none_acted a s e =
    record {
      stepped = subst (λ (o : Option Step). IfSome o (λ x. Did (act_of x) (proposed_by_step x s.proposed) s s)) (sym e) tt;
      idle = λ n. refl;
      kept = ap (λ (o : Option Step). core.kept_by_step o s.node.kept) (sym e);
      table = refl;
      me = refl;
      quorums = refl;
      learned = refl;
      proposers = refl;
      acceptors = refl;
      under_way = subst (λ (o : Option Step). IsStarted o s) (sym e) tt;
      no_more = no_more_none a s e;
    }

-- ---- a step's record

byte_map : {A : Type 0} (f : A → Step) (o : Option A) (x : Step) → ((y : A) → o ≡ Some y → IsByte (f y)) → Some x ≡ option_map f o → IsByte x
byte_map f None x h e = absurd (cc)
byte_map f (Some y) x h e = let same : f y ≡ x = cc in subst IsByte same (h y refl)

pub told_byte : (s : SeatState) (a : SeatAct) (x : Step) → IsBounded s → Some x ≡ would s a → IsByte x
told_byte s act.Start x bounds e = byte_map step.Start (next_start s.node) x (λ y is. tt) e
told_byte s (act.Promise j) x bounds e = byte_map step.Promise (promise_of s j) x (λ y is. tt) e
told_byte s act.Propose x bounds e = byte_map (λ (p : ℕ × ℕ). step.Propose p.0 p.1) (next_proposal s.node) x (λ y is. tt) e
told_byte s (act.Accept j) x bounds e =
    byte_map (λ (y : Vote). step.Accept y.ballot y.value) (vote_of s j) x
    (λ y is.
    let seen = vote_seen s.node (proposer_of s j).started (proposer_of s j).proposed y (sym is) in
    let parts = and_parts (is_vote s.node.quorums.nodes y) _ seen.0 in
    let low : y.value < s.node.quorums.nodes = ltb-true y.value s.node.quorums.nodes (and_parts (ltb 0 y.ballot) _ parts.0).1 in
    let most : s.node.quorums.nodes ≤ 7 = bounds.most in
    omega arith)
    e

-- it leaves of the room what the step leaves of the seat
pub step_kept : (room : ℕ) (s t : SeatState) (a : SeatAct) (x : Step) (r : Record) → Some x ≡ would s a → r ≡ record_of room x → Acted a s t → kept_by_record s.node.kept r ≡ t.node.kept
step_kept room s t a x r told is acted =
    ap (λ (q : Record). kept_by_record s.node.kept q) is
    ∙ (kept_step room x s.node.kept ∙ (ap (λ (o : Option Step). core.kept_by_step o s.node.kept) told ∙ sym acted.kept))

pub pending_is : (room : ℕ) (s : SeatState) (a : SeatAct) (x : Step) (r : Record) → Some x ≡ would s a → r ≡ record_of room x → records_of room (would s a) ≡ r ∷ []
pending_is room s a x r told is = ap (records_of room) (sym told) ∙ ap (λ (q : Record). q ∷ []) (sym is)

pub more : (old new : List Record) (r : Record) → new ≡ old ++ r ∷ [] → true ≡ ltb (length old) (length new)
more old new r e = sym (lt-ltb (length old) (length new) (omega (arith, ap length e, length_push old r)))

pub no_more : (old : List Record) → false ≡ ltb (length old) (length old)
no_more old = sym (le-ltb (length old) (length old) (omega arith))

-- ---- why it was stopped

pub cause_of : {D : Type 0} (disk : disks.Ghosts D) (old new : Log D) (pending : List Record) (e : LogError)
    → (e ≡ Stopped → ⊥) → IsNoFault e → (e ≡ Device → Risen (disk.faults old.disk) (disk.faults new.disk)) → (e ≡ Full → disk.is_honest old.disk → IsFull new pending)
    → HasCause disk old new pending e
cause_of disk old new pending NoMemory going fault device full = tt
cause_of disk old new pending Device going fault device full = device refl
cause_of disk old new pending NotAJournal going fault device full = fault.0 refl
cause_of disk old new pending BadRecord going fault device full = fault.1 refl
cause_of disk old new pending OtherSource going fault device full = fault.2 refl
cause_of disk old new pending Stopped going fault device full = going refl
cause_of disk old new pending Full going fault device full = full refl
