-- Records in order: one more behind those that are, and what a step's record goes on from.
use Rattle.std.proofs.Common.{◌≡◌, inl, inr, ℕ, zero, suc, ◌+◌, ◌%◌, ◌<◌, ◌≤◌, max, Bool, true, false, cond, not, leb, ltb, List, [], ◌∷◌, ◌++◌, length, take, get_or, Option, Some, None, IfSome, option_map, refl, sym, ap, ◌∙◌, subst, arith}
use Rattle.std.specs.Prelude.{slice_get}
use Rattle.std.proofs.Math.Nat.{le-max_left, mod-eq_of_lt}
use Rattle.std.proofs.Math.Seq.{get_or-append_seam}
use Rattle.std.proofs.lemmas.Bool.{cases_lt, cases_eq, and_parts, leb-true, ltb-true}
use Rattle.std.proofs.lemmas.List.{length_push, take_all, take_more, take-append-le, get_or_append_left}
use Rattle.std.proofs.lemmas.Option.{slice_get_within, slice_get-get_or}
use Rattle.paxos_core_world.specs.KeptPart.{KeptPart, vote, with_promise, with_vote}
use Rattle.paxos_core_world.specs.Quorum.{Sizes}
use Rattle.paxos_core_world.specs.declared.vote.Vote.{Vote}
use Rattle.paxos_core_node_steps.proofs.TakesLemmas.{next_ballot_is}
use Rattle.paxos_core_node_steps.specs.Acceptor.{is_vote, promises, accepts}
use Rattle.paxos_core_node_steps.specs.Notes.{highest_below}
use Rattle.paxos_core_node_steps.specs.NodeState.{NodeState}
use Rattle.paxos_core_node_steps.specs.Proposer.{floor_of, next_ballot, choice, may_propose, proposal_under, next_proposal, propose_message, after_answer}
use Rattle.paxos_core_node_steps.specs.Would.{next_start}
use Rattle.paxos_core_node_steps.specs.declared.step.Step.{Step}
use Rattle.paxos_core_node_steps.specs.declared.step.Step.TheVariants as step
use Rattle.acceptor_log_form.specs.declared.record.Record.{Record}
use Rattle.acceptor_log_form.specs.declared.record.Record.TheVariants.{Offered, Started, Proposed, Promised, Accepted, Summary}
use Rattle.acceptor_log_form.specs.Text.{room_of}
use Rattle.acceptor_log_form.specs.Leaves.{kept_by_record, kept_in, proposed_by, proposed_in}
use Rattle.acceptor_log_form.specs.Order.{MayComeNext, MayFollow, AreInOrder}
use Rattle.rooms_seat.proofs.Acts.{may_promise, vote_seen}
use Rattle.rooms_seat.specs.SeatAct.{SeatAct}
use Rattle.rooms_seat.specs.SeatAct.TheVariants as act
use Rattle.rooms_seat.specs.Did.{Did}
use Rattle.rooms_seat.specs.Meeting.{IsBounded}
use Rattle.rooms_seat.specs.SeatState.{SeatState, proposer_of, promise_of, vote_of}
use Rattle.rooms_seat.specs.Would.{would, act_of, proposed_by_step, IsStarted, IsAmong, Acted}
use Rattle.farm_nodes_turn_order.specs.Recorded.{record_of}
use Rattle.farm_nodes_turn_order.specs.Ordered.{AreOrdered, IsUnproposed}
use Rattle.farm_nodes_turn_order.proofs.Records.{kept_own, kept_other, proposed_own, proposed_other, room_of_step}

-- ---- one more

some_is : {A : Type 0} (x y : A) → Some x ≡ Some y → x ≡ y
some_is x y e = cc

get_left : (rs : List Record) (r : Record) (k : ℕ) → k < length rs → slice_get (rs ++ r ∷ []) k ≡ Some (get_or rs k r)
get_left rs r k less =
    slice_get-get_or (rs ++ r ∷ []) k r (omega (arith, length_push rs r, less))
    ∙ ap (λ (x : Record). Some x) (get_or_append_left rs (r ∷ []) r k less)

get_last : (rs : List Record) (r : Record) → slice_get (rs ++ r ∷ []) (length rs) ≡ Some r
get_last rs r =
    slice_get-get_or (rs ++ r ∷ []) (length rs) r (omega (arith, length_push rs r))
    ∙ ap (λ (x : Record). Some x) (get_or-append_seam rs r [] r)

-- a record that may follow those in order is in order behind them
pub push_in_order : (n i rooms : ℕ) (rs : List Record) (r : Record) → AreInOrder n i rooms rs → MayFollow n i rooms rs r → AreInOrder n i rooms (rs ++ r ∷ [])
push_in_order n i rooms rs r order follows k q at =
    elim (cases_lt k (length rs)) [
      | inl less ↦
          let same : get_or rs k r ≡ q = some_is (get_or rs k r) q (sym (get_left rs r k less) ∙ at) in
          let there : slice_get rs k ≡ Some q = slice_get-get_or rs k r less ∙ ap (λ (x : Record). Some x) same in
          subst (λ (l : List Record). MayFollow n i rooms l q) (sym (take-append-le k rs (r ∷ []) (omega (arith, less)))) (order k q there)
      | inr more ↦
          let within : k < length (rs ++ r ∷ []) = slice_get_within (rs ++ r ∷ []) k q at in
          let is : k ≡ length rs = omega (arith, within, length_push rs r, more) in
          let same : r ≡ q = some_is r q (sym (get_last rs r) ∙ (ap (λ (j : ℕ). slice_get (rs ++ r ∷ []) j) (sym is) ∙ at)) in
          let front : take k (rs ++ r ∷ []) ≡ rs = take-append-le k rs (r ∷ []) (omega (arith, is)) ∙ take_all k rs (omega (arith, is)) in
          subst (λ (l : List Record). MayFollow n i rooms l q) (sym front) (subst (λ (x : Record). MayFollow n i rooms rs x) same follows)
    ]

-- ---- a proposal's ballot is not above the one started last

below_by : (n i : ℕ) (k : KeptPart) (last : ℕ) (r : Record) → MayComeNext n i k last r → last ≤ k.started → proposed_by last r ≤ (kept_by_record k r).started
below_by n i k last (Offered room offer) goes low = low
below_by n i k last (Started room b) goes low = let up : k.started < b = goes.1 in omega (arith, up, low)
below_by n i k last (Proposed room b v) goes low = let is : b ≡ k.started = goes.1 in omega (arith, is)
below_by n i k last (Promised room b) goes low = low
below_by n i k last (Accepted room b v) goes low = low
below_by n i k last (Summary room s p x) goes low = omega arith

abbrev Below : List Record → ℕ → Type 0
Below rs room = proposed_in rs room ≤ (kept_in rs room).started

below_push : (n i rooms : ℕ) (rs : List Record) (r : Record) (room : ℕ) → MayFollow n i rooms rs r → Below rs room → Below (rs ++ r ∷ []) room
below_push n i rooms rs r room follows low =
    elim (cases_eq (room_of r) room) [
      | inl own ↦
          let goes : MayComeNext n i (kept_in rs room) (proposed_in rs room) r =
          subst (λ (m : ℕ). MayComeNext n i (kept_in rs m) (proposed_in rs m) r) own follows.1 in
          subst (λ (l : ℕ). l ≤ (kept_in (rs ++ r ∷ []) room).started) (sym (proposed_own rs r room own))
          (subst (λ (k : KeptPart). proposed_by (proposed_in rs room) r ≤ k.started) (sym (kept_own rs r room own))
          (below_by n i (kept_in rs room) (proposed_in rs room) r goes low))
      | inr other ↦
          subst (λ (l : ℕ). l ≤ (kept_in (rs ++ r ∷ []) room).started) (sym (proposed_other rs r room other))
          (subst (λ (k : KeptPart). proposed_in rs room ≤ k.started) (sym (kept_other rs r room other)) low)
    ]

some_of : (rs : List Record) (k : ℕ) → k < length rs → (r : Record) × (slice_get rs k ≡ Some r) × (take (k + 1) rs ≡ take k rs ++ r ∷ [])
some_of [] k less = absurd (omega (arith, less))
some_of (x ∷ xs) k less = (get_or (x ∷ xs) k x, slice_get-get_or (x ∷ xs) k x less, take_more (x ∷ xs) k x less)

below_front : (n i rooms : ℕ) (rs : List Record) (room : ℕ) → AreInOrder n i rooms rs → (k : ℕ) → k ≤ length rs → Below (take k rs) room
below_front n i rooms rs room order zero within = omega arith
below_front n i rooms rs room order (suc k) within =
    let r = some_of rs k (omega (arith, within)) in
    let on : suc k ≡ k + 1 = omega arith in
    let is : take (suc k) rs ≡ take k rs ++ r.0 ∷ [] = ap (λ (j : ℕ). take j rs) on ∙ r.2 in
    subst (λ (l : List Record). Below l room) (sym is)
    (below_push n i rooms (take k rs) r.0 room (order k r.0 r.1) (below_front n i rooms rs room order k (omega (arith, within))))

pub proposed_below : (n i rooms : ℕ) (rs : List Record) (room : ℕ) → AreInOrder n i rooms rs → proposed_in rs room ≤ (kept_in rs room).started
proposed_below n i rooms rs room order =
    subst (λ (l : List Record). Below l room) (take_all (length rs) rs (omega arith)) (below_front n i rooms rs room order (length rs) (omega arith))

-- ---- what a step's record goes on from

map_is : {A : Type 0} (f : A → Step) (o : Option A) (x : Step) → Some x ≡ option_map f o → (y : A) × (o ≡ Some y) × (f y ≡ x)
map_is f None x e = absurd (cc)
map_is f (Some y) x e = (y, refl, some_is (f y) x (sym e))

under_is : (o : Option ℕ) (may : Bool) (value : Option ℕ) (b v : ℕ) → proposal_under o may value ≡ Some (b, v) → (o ≡ Some b) × (may ≡ true)
under_is None may value b v e = absurd (cc)
under_is (Some c) false value b v e = absurd (cc)
under_is (Some c) true None b v e = absurd (cc)
under_is (Some c) true (Some u) b v e =
    let both : (c, u) ≡ (b, v) = some_pair (c, u) (b, v) e in
    (ap (λ (p : ℕ × ℕ). Some p.0) both, refl)
  where
    some_pair : (p q : ℕ × ℕ) → Some p ≡ Some q → p ≡ q
    some_pair p q e = cc

not_true : (t : Bool) → not t ≡ true → t ≡ false
not_true true e = absurd (cc)
not_true false e = refl

-- what a proposal rests on
proposing : (s : NodeState) (b v : ℕ) → next_proposal s ≡ Some (b, v) → (s.ballot ≡ Some b) × (s.proposed ≡ false)
proposing s b v e =
    let parts = under_is s.ballot (may_propose s) (choice (highest_below s.quorums.nodes s.promises) s.kept.offered s.me) b v e in
    (parts.0, not_true s.proposed (and_parts (not s.proposed) _ parts.1).0)

above_max : (a b c : ℕ) → max a b < c → a < c
above_max a b c above = let low : a ≤ max a b = le-max_left a b in omega (arith, above, low)

module _ (room : ℕ) (s : SeatState) (bounds : IsBounded s) (last : ℕ) (fresh : IsUnproposed last s) where
  abbrev Goes : Step → Type 0
  Goes x = MayComeNext s.node.quorums.nodes s.node.me s.node.kept last (record_of room x)

  start_goes : (b : ℕ) → next_start s.node ≡ Some b → Goes (step.Start b)
  start_goes b e =
      let told = may_promise (leb (next_ballot s.node) 65535) b (next_ballot s.node) (sym e) in
      let least = next_ballot_is s.node bounds.number in
      subst (λ (c : ℕ). Goes (step.Start c)) (sym told.1) (
        record { first = let up : floor_of s.node < next_ballot s.node = least.above in omega (arith, up); last = leb-true (next_ballot s.node) 65535 told.0; turn = least.turn },
        above_max s.node.kept.started s.node.kept.promised (next_ballot s.node) least.above,
      )

  promise_goes : (j b : ℕ) → promise_of s j ≡ Some b → Goes (step.Promise b)
  promise_goes j b e =
      let told = may_promise (promises s.node (proposer_of s j).started) b (proposer_of s j).started (sym e) in
      subst (λ (c : ℕ). Goes (step.Promise c)) (sym told.1) (ltb-true s.node.kept.promised (proposer_of s j).started told.0)

  propose_goes : (b v : ℕ) → next_proposal s.node ≡ Some (b, v) → Goes (step.Propose b v)
  propose_goes b v e =
      let rests = proposing s.node b v e in
      let kept = bounds.under_way b rests.0 in
      let small : v % 256 ≡ v = mod-eq_of_lt (bounds.proposal b v e) in
      (kept.0, kept.1, fresh b rests.0 rests.1, subst (λ (u : ℕ). u < s.node.quorums.nodes) (sym small) (bounds.proposes b v e))

  accept_goes : (j : ℕ) (x : Vote) → j < s.node.quorums.nodes → vote_of s j ≡ Some x → Goes (step.Accept x.ballot x.value)
  accept_goes j x among e =
      let told = vote_seen s.node (proposer_of s j).started (proposer_of s j).proposed x (sym e) in
      let parts = and_parts (is_vote s.node.quorums.nodes x) _ told.0 in
      let vote = and_parts (ltb 0 x.ballot) _ parts.0 in
      let first : 0 < x.ballot = ltb-true 0 x.ballot vote.0 in
      (omega (arith, first), leb-true s.node.kept.promised x.ballot parts.1, bounds.votes j x among e, ltb-true x.value s.node.quorums.nodes vote.1)

  -- the record of a step that the seat would take goes on from what it keeps
  pub step_goes : (a : SeatAct) (x : Step) → IsAmong s.node.quorums.nodes a → Some x ≡ would s a → Goes x
  step_goes act.Start x among e =
      let m = map_is step.Start (next_start s.node) x e in
      subst Goes m.2 (start_goes m.0 m.1)
  step_goes (act.Promise j) x among e =
      let m = map_is step.Promise (promise_of s j) x e in
      subst Goes m.2 (promise_goes j m.0 m.1)
  step_goes act.Propose x among e =
      let m = map_is (λ (p : ℕ × ℕ). step.Propose p.0 p.1) (next_proposal s.node) x e in
      subst Goes m.2 (propose_goes m.0.0 m.0.1 m.1)
  step_goes (act.Accept j) x among e =
      let m = map_is (λ (y : Vote). step.Accept y.ballot y.value) (vote_of s j) x e in
      subst Goes m.2 (accept_goes j m.0 among m.1)

-- ---- and what it leaves to be proposed

field_if : {A : Type 0} (f : NodeState → A) (t : Bool) (s u : NodeState) → f u ≡ f s → f (cond t u s) ≡ f s
field_if f true s u e = e
field_if f false s u e = refl

-- the same ballot is under way, and the same is proposed
unproposed_same : (last : ℕ) (s t : SeatState) → t.node.ballot ≡ s.node.ballot → t.node.proposed ≡ s.node.proposed → IsUnproposed last s → IsUnproposed last t
unproposed_same last s t ballot proposed fresh b e none = fresh b (sym ballot ∙ e) (sym proposed ∙ none)

module _ (room : ℕ) (s t : SeatState) (a : SeatAct) (last : ℕ) (fresh : IsUnproposed last s) (low : last ≤ s.node.kept.started) (acted : Acted a s t) where
  abbrev Leaves : Step → Type 0
  Leaves x = IsUnproposed (proposed_by last (record_of room x)) t

  did : (x : Step) → Some x ≡ would s a → Did (act_of x) (proposed_by_step x s.proposed) s t
  did x e = subst (λ (o : Option Step). IfSome o (λ y. Did (act_of y) (proposed_by_step y s.proposed) s t)) (sym e) acted.stepped

  -- above the one started last
  start_leaves : (b : ℕ) → Some (step.Start b) ≡ would s a → s.node.kept.started < b → Leaves (step.Start b)
  start_leaves b e above c is none same =
      let under = subst (λ (o : Option Step). IsStarted o t) (sym e) acted.under_way in
      let both : b ≡ c = some_number b c (sym under.0 ∙ is) in
      absurd (omega (arith, above, low, both, same))
    where
      some_number : (m n : ℕ) → Some m ≡ Some n → m ≡ n
      some_number m n e = cc

  promise_leaves : (b : ℕ) → Some (step.Promise b) ≡ would s a → Leaves (step.Promise b)
  promise_leaves b e =
      let after = (did (step.Promise b) e).after in
      unproposed_same last s t
      (ap (λ (u : SeatState). u.node.ballot) after ∙ field_if (λ (n : NodeState). n.ballot) (promises s.node b) s.node (record s.node { kept = with_promise b s.node.kept }) refl)
      (ap (λ (u : SeatState). u.node.proposed) after ∙ field_if (λ (n : NodeState). n.proposed) (promises s.node b) s.node (record s.node { kept = with_promise b s.node.kept }) refl)
      fresh

  -- it has proposed
  propose_leaves : (b v : ℕ) → Some (step.Propose b v) ≡ would s a → next_proposal s.node ≡ Some (b, v) → Leaves (step.Propose b v)
  propose_leaves b v e told c is none =
      let after = (did (step.Propose b v) e).after in
      let done : t.node.proposed ≡ true =
      ap (λ (u : SeatState). u.node.proposed) after ∙ ap (λ (o : Option (ℕ × ℕ)). (after_answer s.node (propose_message o)).proposed) told in
      let bad : true ≡ false = sym done ∙ none in
      absurd (cc)

  accept_leaves : (b v : ℕ) → Some (step.Accept b v) ≡ would s a → Leaves (step.Accept b v)
  accept_leaves b v e =
      let after = (did (step.Accept b v) e).after in
      unproposed_same last s t
      (ap (λ (u : SeatState). u.node.ballot) after ∙ field_if (λ (n : NodeState). n.ballot) (accepts s.node (vote b v)) s.node (record s.node { kept = with_vote (vote b v) s.node.kept }) refl)
      (ap (λ (u : SeatState). u.node.proposed) after ∙ field_if (λ (n : NodeState). n.proposed) (accepts s.node (vote b v)) s.node (record s.node { kept = with_vote (vote b v) s.node.kept }) refl)
      fresh

-- what a step leaves is not proposed again
pub step_leaves : (room : ℕ) (s t : SeatState) (a : SeatAct) (x : Step) (last : ℕ) → IsBounded s → IsAmong s.node.quorums.nodes a → Some x ≡ would s a → Acted a s t
    → IsUnproposed last s → last ≤ s.node.kept.started → IsUnproposed (proposed_by last (record_of room x)) t
step_leaves room s t act.Start x last bounds among e acted fresh low =
    let m = map_is step.Start (next_start s.node) x e in
    let told : Some (step.Start m.0) ≡ would s act.Start = ap (λ (y : Step). Some y) m.2 ∙ e in
    subst (λ (y : Step). IsUnproposed (proposed_by last (record_of room y)) t) m.2
    (start_leaves room s t act.Start last fresh low acted m.0 told (start_goes room s bounds last fresh m.0 m.1).1)
step_leaves room s t (act.Promise j) x last bounds among e acted fresh low =
    let m = map_is step.Promise (promise_of s j) x e in
    let told : Some (step.Promise m.0) ≡ would s (act.Promise j) = ap (λ (y : Step). Some y) m.2 ∙ e in
    subst (λ (y : Step). IsUnproposed (proposed_by last (record_of room y)) t) m.2
    (promise_leaves room s t (act.Promise j) last fresh low acted m.0 told)
step_leaves room s t act.Propose x last bounds among e acted fresh low =
    let m = map_is (λ (p : ℕ × ℕ). step.Propose p.0 p.1) (next_proposal s.node) x e in
    let told : Some (step.Propose m.0.0 m.0.1) ≡ would s act.Propose = ap (λ (y : Step). Some y) m.2 ∙ e in
    subst (λ (y : Step). IsUnproposed (proposed_by last (record_of room y)) t) m.2
    (propose_leaves room s t act.Propose last fresh low acted m.0.0 m.0.1 told m.1)
step_leaves room s t (act.Accept j) x last bounds among e acted fresh low =
    let m = map_is (λ (y : Vote). step.Accept y.ballot y.value) (vote_of s j) x e in
    let told : Some (step.Accept m.0.ballot m.0.value) ≡ would s (act.Accept j) = ap (λ (y : Step). Some y) m.2 ∙ e in
    subst (λ (y : Step). IsUnproposed (proposed_by last (record_of room y)) t) m.2
    (accept_leaves room s t (act.Accept j) last fresh low acted m.0.ballot m.0.value told)

-- ---- a record behind what is in order

-- From s to t the node put down this record of the room: it goes on from what s keeps, and leaves what t keeps.
pub record Follows (room : ℕ) (s t : SeatState) (r : Record) : Type 0 where
  pub own : room_of r ≡ room
  pub step : kept_by_record s.node.kept r ≡ t.node.kept
  pub me : t.node.me ≡ s.node.me
  pub quorums : t.node.quorums ≡ s.node.quorums
  pub goes : (last : ℕ) → IsUnproposed last s → MayComeNext s.node.quorums.nodes s.node.me s.node.kept last r
  pub leaves : (last : ℕ) → IsUnproposed last s → last ≤ s.node.kept.started → IsUnproposed (proposed_by last r) t

pub step_follows : (room : ℕ) (s t : SeatState) (a : SeatAct) (x : Step) (r : Record) → IsBounded s → IsAmong s.node.quorums.nodes a → Some x ≡ would s a → r ≡ record_of room x → Acted a s t
    → kept_by_record s.node.kept r ≡ t.node.kept → Follows room s t r
step_follows room s t a x r bounds among told is acted step = record {
  own = ap room_of is ∙ room_of_step room x;
  step = step;
  me = acted.me;
  quorums = acted.quorums;
  goes = λ last fresh. subst (λ (q : Record). MayComeNext s.node.quorums.nodes s.node.me s.node.kept last q) (sym is) (step_goes room s bounds last fresh a x among told);
  leaves = λ last fresh low. subst (λ (q : Record). IsUnproposed (proposed_by last q) t) (sym is) (step_leaves room s t a x last bounds among told acted fresh low);
}

-- with the record the records are in order,
pub more_in_order : (rooms room : ℕ) (s : SeatState) (rs : List Record) (r : Record) → room < rooms → room_of r ≡ room
    → ((last : ℕ) → IsUnproposed last s → MayComeNext s.node.quorums.nodes s.node.me s.node.kept last r)
    → AreOrdered rooms room s rs → AreInOrder s.node.quorums.nodes s.node.me rooms (rs ++ r ∷ [])
more_in_order rooms room s rs r low own goes ordered =
    push_in_order s.node.quorums.nodes s.node.me rooms rs r ordered.in_order (
      subst (λ (m : ℕ). m < rooms) (sym own) low,
      subst (λ (m : ℕ). MayComeNext s.node.quorums.nodes s.node.me (kept_in rs m) (proposed_in rs m) r) (sym own)
          (subst (λ (k : KeptPart). MayComeNext s.node.quorums.nodes s.node.me k (proposed_in rs room) r) (sym ordered.kept)
          (goes (proposed_in rs room) ordered.unproposed)),
    )

-- and leave what t keeps
pub more_ordered : (rooms room : ℕ) (s t : SeatState) (rs : List Record) (r : Record) → room < rooms → Follows room s t r → AreOrdered rooms room s rs → AreOrdered rooms room t (rs ++ r ∷ [])
more_ordered rooms room s t rs r low follows ordered = record {
  in_order = subst (λ (n : ℕ). AreInOrder n t.node.me rooms (rs ++ r ∷ [])) (ap (λ (q : Sizes). q.nodes) (sym follows.quorums))
      (subst (λ (i : ℕ). AreInOrder s.node.quorums.nodes i rooms (rs ++ r ∷ [])) (sym follows.me)
      (more_in_order rooms room s rs r low follows.own follows.goes ordered));
  kept = kept_own rs r room follows.own ∙ (ap (λ (k : KeptPart). kept_by_record k r) ordered.kept ∙ follows.step);
  unproposed = subst (λ (last : ℕ). IsUnproposed last t) (sym (proposed_own rs r room follows.own))
      (follows.leaves (proposed_in rs room) ordered.unproposed
      (subst (λ (k : KeptPart). proposed_in rs room ≤ k.started) ordered.kept
      (proposed_below s.node.quorums.nodes s.node.me rooms rs room ordered.in_order)));
}

-- they speak of the node's number, its quorums, what it keeps and what it may propose
pub record IsSameNode (s u : SeatState) : Type 0 where
  pub me : u.node.me ≡ s.node.me
  pub quorums : u.node.quorums ≡ s.node.quorums
  pub kept : u.node.kept ≡ s.node.kept
  pub ballot : u.node.ballot ≡ s.node.ballot
  pub proposed : u.node.proposed ≡ s.node.proposed

pub same_turned : (s u : SeatState) → IsSameNode s u → IsSameNode u s
same_turned s u same = record { me = sym same.me; quorums = sym same.quorums; kept = sym same.kept; ballot = sym same.ballot; proposed = sym same.proposed }

pub in_order_at : (rooms : ℕ) (s u : SeatState) (rs : List Record) → IsSameNode s u → AreInOrder s.node.quorums.nodes s.node.me rooms rs → AreInOrder u.node.quorums.nodes u.node.me rooms rs
in_order_at rooms s u rs same order =
    subst (λ (n : ℕ). AreInOrder n u.node.me rooms rs) (ap (λ (q : Sizes). q.nodes) (sym same.quorums))
    (subst (λ (i : ℕ). AreInOrder s.node.quorums.nodes i rooms rs) (sym same.me) order)

pub ordered_at : (rooms room : ℕ) (s u : SeatState) (rs : List Record) → IsSameNode s u → AreOrdered rooms room s rs → AreOrdered rooms room u rs
ordered_at rooms room s u rs same ordered = record {
  in_order = in_order_at rooms s u rs same ordered.in_order;
  kept = ordered.kept ∙ sym same.kept;
  unproposed = unproposed_same (proposed_in rs room) s u same.ballot same.proposed ordered.unproposed;
}
