-- A record more is staged, and the first that is pending is taken.
use Rattle.std.proofs.Common.{◌≡◌, ◌≢◌, inl, inr, ℕ, ◌≤◌, List, [], ◌∷◌, ◌++◌, Some, refl, sym, ap, ◌∙◌, subst, append-nil, append_assoc}
use Rattle.std.specs.Prelude.{All}
use Rattle.std.proofs.lemmas.Bool.{cases_eq}
use Rattle.std.proofs.lemmas.List.Elements.{All-nil, All-cons, All-head, All-tail, All-push}
use Rattle.paxos_core_world.specs.KeptPart.{KeptPart}
use Rattle.acceptor_log_form.specs.declared.record.Record.{Record}
use Rattle.acceptor_log_form.specs.Text.{room_of}
use Rattle.acceptor_log_form.specs.Leaves.{kept_by_record, kept_in, proposed_in}
use Rattle.acceptor_log_form.specs.Order.{AreInOrder, MayComeNext, MayFollow}
use Rattle.rooms_seat.specs.SeatState.{SeatState}
use Rattle.farm_nodes_turn_order.specs.Ordered.{IsUnproposed}
use Rattle.farm_nodes_turn_order.proofs.Orders.{push_in_order, proposed_below}
use Rattle.farm_nodes_turn_order.proofs.Records.{kept_own, kept_other, proposed_own, proposed_other}
use Rattle.farm_nodes_sweep_records.specs.Pending.{Seats, NoneOf, AreApart, StandFor, MayPut, ArePending, TakesStep}

-- ---- records of other rooms leave a room as it was

pub kept_behind : (rs pending : List Record) (m : ℕ) → NoneOf m pending → kept_in (rs ++ pending) m ≡ kept_in rs m
kept_behind rs [] m none = ap (λ (l : List Record). kept_in l m) (append-nil rs)
kept_behind rs (r ∷ qs) m none =
    ap (λ (l : List Record). kept_in l m) (sym (append_assoc rs (r ∷ []) qs))
    ∙ kept_behind (rs ++ r ∷ []) qs m (All-tail (λ (q : Record). room_of q ≢ m) r qs none)
    ∙ kept_other rs r m (All-head (λ (q : Record). room_of q ≢ m) r qs none)

proposed_behind : (rs pending : List Record) (m : ℕ) → NoneOf m pending → proposed_in (rs ++ pending) m ≡ proposed_in rs m
proposed_behind rs [] m none = ap (λ (l : List Record). proposed_in l m) (append-nil rs)
proposed_behind rs (r ∷ qs) m none =
    ap (λ (l : List Record). proposed_in l m) (sym (append_assoc rs (r ∷ []) qs))
    ∙ proposed_behind (rs ++ r ∷ []) qs m (All-tail (λ (q : Record). room_of q ≢ m) r qs none)
    ∙ proposed_other rs r m (All-head (λ (q : Record). room_of q ≢ m) r qs none)

-- ---- staging

pub none-pending : (seats : Seats) (n i rooms : ℕ) (rs : List Record) → StandFor seats n i rooms rs → ArePending seats n i rooms rs []
none-pending seats n i rooms rs stand = record {
  stand = stand;
  in_order = subst (λ (l : List Record). AreInOrder n i rooms l) (sym (append-nil rs)) stand.in_order;
  may = All-nil (λ (r : Record). MayPut seats n i rooms r);
  apart = tt;
}

-- behind those of other rooms it goes on from what its seat keeps
follows_pending : (seats : Seats) (n i rooms : ℕ) (rs pending : List Record) (r : Record) → StandFor seats n i rooms rs → NoneOf (room_of r) pending
    → MayPut seats n i rooms r → MayFollow n i rooms (rs ++ pending) r
follows_pending seats n i rooms rs pending r stand none may =
    let room = room_of r in
    let kept : kept_in (rs ++ pending) room ≡ may.seat.node.kept = kept_behind rs pending room none ∙ stand.kept room may.seat may.there in
    let last : proposed_in (rs ++ pending) room ≡ proposed_in rs room = proposed_behind rs pending room none in (
      may.low,
      subst (λ (k : KeptPart). MayComeNext n i k (proposed_in (rs ++ pending) room) r) (sym kept)
          (subst (λ (l : ℕ). MayComeNext n i may.seat.node.kept l r) (sym last)
          (may.goes (proposed_in rs room) (stand.unproposed room may.seat may.there))),
    )

apart_push : (pending : List Record) (r : Record) → AreApart pending → NoneOf (room_of r) pending → AreApart (pending ++ r ∷ [])
apart_push [] r apart none = (All-nil (λ (q : Record). room_of q ≢ room_of r), tt)
apart_push (p ∷ ps) r apart none =
    let first : room_of p ≢ room_of r = All-head (λ (q : Record). room_of q ≢ room_of r) p ps none in (
      All-push (λ (q : Record). room_of q ≢ room_of p) ps r apart.0 (λ same. first (sym same)),
      apart_push ps r apart.1 (All-tail (λ (q : Record). room_of q ≢ room_of r) p ps none),
    )

pub staged : (seats : Seats) (n i rooms : ℕ) (rs pending : List Record) (r : Record) → ArePending seats n i rooms rs pending → NoneOf (room_of r) pending
    → MayPut seats n i rooms r → ArePending seats n i rooms rs (pending ++ r ∷ [])
staged seats n i rooms rs pending r are none may = record {
  stand = are.stand;
  in_order = subst (λ (l : List Record). AreInOrder n i rooms l) (append_assoc rs pending (r ∷ []))
      (push_in_order n i rooms (rs ++ pending) r are.in_order (follows_pending seats n i rooms rs pending r are.stand none may));
  may = All-push (λ (q : Record). MayPut seats n i rooms q) pending r are.may may;
  apart = apart_push pending r are.apart none;
}

-- ---- taking the first

some_seat : (s t : SeatState) → Some s ≡ Some t → s ≡ t
some_seat s t e = cc

module _ (before after : Seats) (n i rooms : ℕ) (rs : List Record) (r : Record) (stand : StandFor before n i rooms rs) (takes : TakesStep before after r) where
  -- it was of the seat that has taken the step
  started_below : proposed_in rs (room_of r) ≤ takes.was.node.kept.started
  started_below =
      subst (λ (k : KeptPart). proposed_in rs (room_of r) ≤ k.started) (stand.kept (room_of r) takes.was takes.at)
      (proposed_below n i rooms rs (room_of r) stand.in_order)

  kept_now : kept_in (rs ++ r ∷ []) (room_of r) ≡ takes.now.node.kept
  kept_now =
      kept_own rs r (room_of r) refl
      ∙ ap (λ (k : KeptPart). kept_by_record k r) (stand.kept (room_of r) takes.was takes.at)
      ∙ takes.step

  unproposed_now : IsUnproposed (proposed_in (rs ++ r ∷ []) (room_of r)) takes.now
  unproposed_now =
      subst (λ (l : ℕ). IsUnproposed l takes.now) (sym (proposed_own rs r (room_of r) refl))
      (takes.leaves (proposed_in rs (room_of r)) (stand.unproposed (room_of r) takes.was takes.at) started_below)

  kept_after : (m : ℕ) (s : SeatState) → after m ≡ Some s → kept_in (rs ++ r ∷ []) m ≡ s.node.kept
  kept_after m s e =
      elim (cases_eq m (room_of r)) [
        | inl own ↦
            let is : takes.now ≡ s = some_seat takes.now s (sym takes.is ∙ ap after (sym own) ∙ e) in
            ap (λ (k : ℕ). kept_in (rs ++ r ∷ []) k) own ∙ kept_now ∙ ap (λ (u : SeatState). u.node.kept) is
        | inr other ↦
            kept_other rs r m (λ same. other (sym same)) ∙ stand.kept m s (sym (takes.others m other) ∙ e)
      ]

  unproposed_after : (m : ℕ) (s : SeatState) → after m ≡ Some s → IsUnproposed (proposed_in (rs ++ r ∷ []) m) s
  unproposed_after m s e =
      elim (cases_eq m (room_of r)) [
        | inl own ↦
            let is : takes.now ≡ s = some_seat takes.now s (sym takes.is ∙ ap after (sym own) ∙ e) in
            subst (λ (u : SeatState). IsUnproposed (proposed_in (rs ++ r ∷ []) m) u) is
            (subst (λ (k : ℕ). IsUnproposed (proposed_in (rs ++ r ∷ []) k) takes.now) (sym own) unproposed_now)
        | inr other ↦
            subst (λ (l : ℕ). IsUnproposed l s) (sym (proposed_other rs r m (λ same. other (sym same))))
            (stand.unproposed m s (sym (takes.others m other) ∙ e))
      ]

  -- those of other rooms may be put down as before
  may_after : (q : Record) → room_of q ≢ room_of r → MayPut before n i rooms q → MayPut after n i rooms q
  may_after q other may = record {
    seat = may.seat;
    there = takes.others (room_of q) other ∙ may.there;
    low = may.low;
    goes = may.goes;
  }

  all_may : (qs : List Record) → NoneOf (room_of r) qs → All (λ (q : Record). MayPut before n i rooms q) qs → All (λ (q : Record). MayPut after n i rooms q) qs
  all_may [] none may = All-nil (λ (q : Record). MayPut after n i rooms q)
  all_may (q ∷ qs) none may =
      All-cons (λ (x : Record). MayPut after n i rooms x) q qs
      (may_after q (All-head (λ (x : Record). room_of x ≢ room_of r) q qs none) (All-head (λ (x : Record). MayPut before n i rooms x) q qs may))
      (all_may qs (All-tail (λ (x : Record). room_of x ≢ room_of r) q qs none) (All-tail (λ (x : Record). MayPut before n i rooms x) q qs may))

front_in_order : (n i rooms : ℕ) (seats : Seats) (rs : List Record) (r : Record) → StandFor seats n i rooms rs → MayPut seats n i rooms r → AreInOrder n i rooms (rs ++ r ∷ [])
front_in_order n i rooms seats rs r stand may =
    push_in_order n i rooms rs r stand.in_order
    (subst (λ (l : List Record). MayFollow n i rooms l r) (append-nil rs) (follows_pending seats n i rooms rs [] r stand (All-nil (λ (q : Record). room_of q ≢ room_of r)) may))

pub first-taken : (before after : Seats) (n i rooms : ℕ) (rs pending : List Record) (r : Record) → ArePending before n i rooms rs (r ∷ pending) → TakesStep before after r
    → ArePending after n i rooms (rs ++ r ∷ []) pending
first-taken before after n i rooms rs pending r are takes = record {
  stand = record {
    in_order = front_in_order n i rooms before rs r are.stand (All-head (λ (q : Record). MayPut before n i rooms q) r pending are.may);
    kept = kept_after before after n i rooms rs r are.stand takes;
    unproposed = unproposed_after before after n i rooms rs r are.stand takes;
  };
  in_order = subst (λ (l : List Record). AreInOrder n i rooms l) (sym (append_assoc rs (r ∷ []) pending)) are.in_order;
  may = all_may before after n i rooms rs r are.stand takes pending are.apart.0 (All-tail (λ (q : Record). MayPut before n i rooms q) r pending are.may);
  apart = are.apart.1;
}
