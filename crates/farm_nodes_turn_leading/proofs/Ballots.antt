-- What leading leaves of a seat, and what stands after it.
use Rattle.std.proofs.Common.{◌≡◌, ◌≢◌, ◌⊎◌, inl, inr, ℕ, ◌+◌, ◌-◌, ◌%◌, ◌<◌, ◌≤◌, Bool, true, false, cond, leb, ◌&&◌, Option, Some, None, IsSomeAnd, is_none, option_map, refl, sym, ap, ◌∙◌, subst, arith}
use Rattle.std.proofs.lemmas.Bool.{and_parts, ltb-false}
use Rattle.rand_pcg.specs.Lcg.{Lcg}
use Rattle.rand_pcg.specs.Pcg.{pcg32}
use Rattle.paxos_core_world.specs.KeptPart.{KeptPart, vote, with_start}
use Rattle.paxos_core_world.specs.Quorum.{Sizes}
use Rattle.paxos_core_world.specs.declared.msg.Msg.{Msg}
use Rattle.paxos_core_node_steps.specs.Acceptor.{is_vote}
use Rattle.paxos_core_node_steps.specs.NodeState.{NodeState}
use Rattle.paxos_core_node_steps.specs.Proposer.{floor_of, next_ballot, next_proposal, proposal, after_answer}
use Rattle.paxos_core_node_steps.specs.Would.{next_start}
use Rattle.paxos_core_node_steps.specs.Would as core
use Rattle.paxos_core_node_steps.specs.declared.step.Step.{Step}
use Rattle.paxos_core_node_steps.specs.declared.step.Step.TheVariants as step
use Rattle.rooms_seat_state.specs.ProposerWord.{ProposerWord}
use Rattle.rooms_seat_state.specs.declared.act.SeatAct.TheVariants as act
use Rattle.rooms_seat_state.specs.SeatState.{SeatState, proposer_of}
use Rattle.rooms_seat_state.specs.Would.{would, Acted, IsStarted}
use Rattle.farm_nodes_turn_leading.specs.Leading.{may_start, might_start, is_passed, HasLed, LeavesAll, StaysInRoom}
use Rattle.farm_nodes_turn_leading.specs.Leading.{drawn_to_lead, IsOldOrStarted, StartsByLot}
use Rattle.farm_nodes_turn_leading.proofs.UnderWay.{way_same, way_through}
use Rattle.farm_nodes_turn_step.specs.Quiet.{HasHeard, IsQuiet}
use Rattle.farm_nodes_turn_step.proofs.Keeping.{goes_acting, goes_same, goes_through}
use Rattle.farm_nodes_turn_step.proofs.Answering.{IsPast, left_quiet, quiet_left, did_of, word_same}

-- ---- proposing

abbrev told_proposal : Option (ℕ × ℕ) → Option Step
told_proposal o = option_map (λ (p : ℕ × ℕ). step.Propose p.0 p.1) o

proposal_keeps : (o : Option (ℕ × ℕ)) (k : KeptPart) → core.kept_by_step (told_proposal o) k ≡ k
proposal_keeps None k = refl
proposal_keeps (Some p) k = refl

-- it changes nothing that is kept
pub kept_proposing : (s t : SeatState) → Acted act.Propose s t → t.node.kept ≡ s.node.kept
kept_proposing s t acted = acted.kept ∙ proposal_keeps (next_proposal s.node) s.node.kept

answer_ballot : (s : NodeState) (m : Option Msg) → (after_answer s m).ballot ≡ s.ballot
answer_ballot s None = refl
answer_ballot s (Some m) = refl

ballot_if : (s t : SeatState) (o : Option (ℕ × ℕ)) → next_proposal s.node ≡ o → Acted act.Propose s t → t.node.ballot ≡ s.node.ballot
ballot_if s t None e acted = ap (λ (u : SeatState). u.node.ballot) (acted.idle (ap told_proposal e))
ballot_if s t (Some p) e acted =
    let did = did_of act.Propose s t (step.Propose p.0 p.1) acted (ap told_proposal e) in
    ap (λ (u : SeatState). u.node.ballot) did.after ∙ answer_ballot s.node (proposal s.node)

-- whether the node may start is so after it as before
pub start_proposing : (s t : SeatState) → Acted act.Propose s t → may_start t.node ≡ may_start s.node
start_proposing s t acted =
    ap (λ (k : KeptPart). k.offered && (is_none t.node.learned && is_passed t.node.ballot k.promised)) (kept_proposing s t acted)
    ∙ (ap (λ (l : Option ℕ). s.node.kept.offered && (is_none l && is_passed t.node.ballot s.node.kept.promised)) acted.learned
    ∙ ap (λ (b : Option ℕ). s.node.kept.offered && (is_none s.node.learned && is_passed b s.node.kept.promised)) (ballot_if s t (next_proposal s.node) refl acted))

-- ---- what stands after it

led_by : (l b : Option ℕ) (k : ℕ) → (is_none l && is_passed b k) ≡ false → (l ≢ None) ⊎ IsSomeAnd b (λ (c : ℕ). k ≤ c)
led_by (Some v) b k e = inl (λ (n : Some v ≡ None). absurd (cc))
led_by None None k e = absurd (cc)
led_by None (Some c) k e = inr (ltb-false c k e)

-- a node that may not start
pub idle_led : (s : SeatState) → s.node.kept.offered ≡ true → may_start s.node ≡ false → HasLed s
idle_led s offered e =
    let rest : (is_none s.node.learned && is_passed s.node.ballot s.node.kept.promised) ≡ false =
    sym (ap (λ (t : Bool). t && (is_none s.node.learned && is_passed s.node.ballot s.node.kept.promised)) offered) ∙ e in
    elim (led_by s.node.learned s.node.ballot s.node.kept.promised rest) [
      | inl learned ↦ inl learned
      | inr over ↦ inr (inr over)
    ]

abbrev told_start : Option ℕ → Option Step
told_start o = option_map step.Start o

led_if : (s t : SeatState) (o : Option ℕ) → next_start s.node ≡ o → Acted act.Start s t → HasLed t
led_if s t None e acted =
    let none : would s act.Start ≡ None = ap told_start e in
    inr (inl (ap (λ (u : SeatState). would u act.Start) (acted.idle none) ∙ none))
led_if s t (Some b) e acted =
    let told : would s act.Start ≡ Some (step.Start b) = ap told_start e in
    let way = subst (λ (o : Option Step). IsStarted o t) told acted.under_way in
    let low : t.node.kept.promised < b = way.1 in
    let most : t.node.kept.promised ≤ b = omega arith in
    inr (inr (subst (λ (o : Option ℕ). IsSomeAnd o (λ (c : ℕ). t.node.kept.promised ≤ c)) (sym way.0) most))

-- one that was asked to
pub start_led : (s t : SeatState) → Acted act.Start s t → HasLed t
start_led s t acted = led_if s t (next_start s.node) refl acted

no_more_if : (s t : SeatState) (o : Option ℕ) → next_start s.node ≡ o → Acted act.Start s t → would s act.Propose ≡ None → would t act.Propose ≡ None
no_more_if s t None e acted none = ap (λ (u : SeatState). would u act.Propose) (acted.idle (ap told_start e)) ∙ none
no_more_if s t (Some b) e acted none =
    acted.no_more (λ (n : would s act.Start ≡ None). let bad : Some (step.Start b) ≡ None = sym (ap told_start e) ∙ n in absurd (cc))

-- a start leaves nothing to propose
pub start_no_more : (s t : SeatState) → Acted act.Start s t → would s act.Propose ≡ None → would t act.Propose ≡ None
start_no_more s t acted none = no_more_if s t (next_start s.node) refl acted none

-- ---- the ballot under way

if_is : (t : Bool) (n b : ℕ) → ◌≡◌ {A = Option ℕ} (cond t (Some n) None) (Some b) → n ≡ b
if_is true n b e = cc
if_is false n b e = absurd (cc)

above_floor : (k l r b : ℕ) → k ≤ l → l + 1 + r ≡ b → k < b
above_floor k l r b le e = omega (arith, le, e)

-- the ballot that it would start is above those that it has started
start_above : (s : NodeState) (b : ℕ) → next_start s ≡ Some b → s.kept.started < b
start_above s b e =
    above_floor s.kept.started (floor_of s) ((s.me + s.quorums.nodes - (floor_of s + 1) % s.quorums.nodes) % s.quorums.nodes) b (omega arith)
    (if_is (leb (next_ballot s) 65535) (next_ballot s) b e)

way_proposing : (s t : SeatState) → Acted act.Propose s t → IsOldOrStarted s.node t.node
way_proposing s t acted = inl (ap (λ (k : KeptPart). k.started) (kept_proposing s t acted), ballot_if s t (next_proposal s.node) refl acted)

way_if : (s t : SeatState) (o : Option ℕ) → next_start s.node ≡ o → Acted act.Start s t → IsOldOrStarted s.node t.node
way_if s t None e acted =
    let same = acted.idle (ap told_start e) in
    inl (ap (λ (u : SeatState). u.node.kept.started) same, ap (λ (u : SeatState). u.node.ballot) same)
way_if s t (Some b) e acted =
    let told : would s act.Start ≡ Some (step.Start b) = ap told_start e in
    let way = subst (λ (o : Option Step). IsStarted o t) told acted.under_way in
    let kept : t.node.kept ≡ with_start b s.node.kept = acted.kept ∙ ap (λ (o : Option Step). core.kept_by_step o s.node.kept) told in
    let now : t.node.kept.started ≡ b = ap (λ (k : KeptPart). k.started) kept in
    inr (subst (λ (n : ℕ). s.node.kept.started < n) (sym now) (start_above s.node b e), way.0 ∙ ap (λ (n : ℕ). Some n) (sym now))

way_starting : (s t : SeatState) → Acted act.Start s t → IsOldOrStarted s.node t.node
way_starting s t acted = way_if s t (next_start s.node) refl acted

-- ---- what it leaves

same_start : (k l : KeptPart) → k ≡ l → k ≡ with_start k.started l
same_start k l e = subst (λ (m : KeptPart). k ≡ with_start k.started m) e refl

start_keeps : (o : Option ℕ) (k l : KeptPart) → l ≡ core.kept_by_step (told_start o) k → l ≡ with_start l.started k
start_keeps None k l e = same_start l k e
start_keeps (Some b) k l e = e ∙ ap (λ (c : ℕ). with_start c k) (sym (ap (λ (m : KeptPart). m.started) e))

pub leaves_same : (s t : SeatState) → t ≡ s → LeavesAll s t
leaves_same s t e = subst (λ (u : SeatState). LeavesAll s u) (sym e) (record { table = refl; me = refl; quorums = refl; learned = refl; proposers = refl; kept = refl; under_way = way_same s.node; run = goes_same s })

pub leaves_proposing : (s t : SeatState) → Acted act.Propose s t → LeavesAll s t
leaves_proposing s t acted = record {
  table = acted.table;
  me = acted.me;
  quorums = acted.quorums;
  learned = acted.learned;
  proposers = acted.proposers;
  kept = same_start t.node.kept s.node.kept (kept_proposing s t acted);
  under_way = way_proposing s t acted;
  run = goes_acting act.Propose s t acted tt;
}

pub leaves_starting : (s t : SeatState) → may_start s.node ≡ true → Acted act.Start s t → LeavesAll s t
leaves_starting s t may acted = record {
  table = acted.table;
  me = acted.me;
  quorums = acted.quorums;
  learned = acted.learned;
  proposers = acted.proposers;
  kept = start_keeps (next_start s.node) s.node.kept t.node.kept acted.kept;
  under_way = way_starting s t acted;
  run = goes_acting act.Start s t acted (and_parts s.node.kept.offered (is_none s.node.learned && is_passed s.node.ballot s.node.kept.promised) may).0;
}

pub leaves_through : (a b c : SeatState) → LeavesAll a b → LeavesAll b c → LeavesAll a c
leaves_through a b c first second = record {
  table = second.table ∙ first.table;
  me = second.me ∙ first.me;
  quorums = second.quorums ∙ first.quorums;
  learned = second.learned ∙ first.learned;
  proposers = second.proposers ∙ first.proposers;
  kept = second.kept ∙ ap (λ (k : KeptPart). with_start c.node.kept.started k) first.kept;
  under_way = way_through a.node b.node c.node first.under_way second.under_way;
  run = goes_through a b c first.run second.run;
}

-- what was quiet is quiet
pub quiet_led : (j : ℕ) (s t : SeatState) → LeavesAll s t → IsQuiet j s → IsQuiet j t
quiet_led j s t leaves quiet =
    let left = quiet_left j s quiet in
    let word : proposer_of t j ≡ proposer_of s j = word_same j s t leaves.proposers in
    let accepted = ap (λ (k : KeptPart). k.accepted) leaves.kept in
    let promised : t.node.kept.promised ≡ s.node.kept.promised = ap (λ (k : KeptPart). k.promised) leaves.kept in
    left_quiet j t
    record {
      vote = λ v is.
          let b : (proposer_of t j).started ≡ (proposer_of s j).started = ap (λ (w : ProposerWord). w.started) word in
          let here : (proposer_of s j).proposed ≡ Some v = sym (ap (λ (w : ProposerWord). w.proposed) word) ∙ is in
          subst (λ (c : ℕ). IsPast t.node c v) (sym b)
          (elim (left.vote v here) [
            | inl e ↦ inl (accepted ∙ e)
            | inr e ↦ elim e [
              | inl f ↦ inr (inl (ap (λ (q : Sizes). is_vote q.nodes (vote (proposer_of s j).started v)) leaves.quorums ∙ f))
              | inr f ↦ inr (inr (subst (λ (k : ℕ). (proposer_of s j).started < k) (sym promised) f))
            ]
          ]);
      ballot = subst (λ (w : ProposerWord). w.started ≤ t.node.kept.promised) (sym word)
          (subst (λ (k : ℕ). (proposer_of s j).started ≤ k) (sym promised) left.ballot);
    }

-- ---- what is drawn

-- leading leaves whether the node might start a ballot
pub might_led : (s t : SeatState) → LeavesAll s t → might_start s.node t.node ≡ may_start s.node
might_led s t leaves =
    ap (λ (k : KeptPart). k.offered && (is_none t.node.learned && is_passed s.node.ballot k.promised)) leaves.kept
    ∙ ap (λ (l : Option ℕ). s.node.kept.offered && (is_none l && is_passed s.node.ballot s.node.kept.promised)) leaves.learned

pub drawn_if : (draws drawn : Lcg) (s t : SeatState) (b : Bool) → LeavesAll s t → may_start s.node ≡ b → drawn ≡ cond b (pcg32 draws).1 draws
    → drawn ≡ drawn_to_lead draws s t
drawn_if draws drawn s t b leaves may is = is ∙ ap (λ (x : Bool). cond x (pcg32 draws).1 draws) (sym (might_led s t leaves ∙ may))

-- having heard others before leaves it, too
pub drawn_hearing : (draws drawn : Lcg) (a b c : SeatState) → HasHeard a b → drawn ≡ drawn_to_lead draws b c → drawn ≡ drawn_to_lead draws a c
drawn_hearing draws drawn a b c heard is =
    is ∙ ap (λ (o : Option ℕ). cond (may_start (record c.node { ballot = o })) (pcg32 draws).1 draws) heard.ballot

pub lot_hearing : (word : ℕ) (a b c : SeatState) → HasHeard a b → StartsByLot word b c → StartsByLot word a c
lot_hearing word a b c heard lot changed =
    let by = lot (λ (e : c.node.kept.started ≡ b.node.kept.started). changed (e ∙ heard.started)) in
    (ap (λ (o : Option ℕ). may_start (record c.node { ballot = o })) (sym heard.ballot) ∙ by.0, λ o. by.1 (heard.offered ∙ o))

pub lot_heard : (word : ℕ) (a b : SeatState) → HasHeard a b → StartsByLot word a b
lot_heard word a b heard changed = absurd (changed heard.started)

-- ---- what taking part leaves

pub stays_hearing : (s t : SeatState) → HasHeard s t → StaysInRoom s t
stays_hearing s t heard = record {
  table = heard.table;
  me = heard.me;
  quorums = heard.quorums;
  offered = heard.offered;
  under_way = inl (heard.started, heard.ballot);
  learned = heard.learned;
  run = heard.run;
}

pub stays_leading : (a b c : SeatState) → HasHeard a b → LeavesAll b c → StaysInRoom a c
stays_leading a b c heard led = record {
  table = led.table ∙ heard.table;
  me = led.me ∙ heard.me;
  quorums = led.quorums ∙ heard.quorums;
  offered = ap (λ (k : KeptPart). k.offered) led.kept ∙ heard.offered;
  under_way = way_through a.node b.node c.node (inl (heard.started, heard.ballot)) led.under_way;
  learned = λ v e. led.learned ∙ heard.learned v e;
  run = goes_through a b c heard.run led.run;
}
