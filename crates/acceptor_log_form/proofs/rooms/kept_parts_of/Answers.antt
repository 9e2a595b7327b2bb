-- Each record may follow those in front of it, up to the first that may not.
use Rattle.std.proofs.Common.{◌≡◌, ℕ, ◌+◌, ◌<◌, List, [], ◌∷◌, ◌++◌, length, take, Some, refl, sym, ap, subst, ◌∙◌, arith}
use Rattle.std.specs.Prelude.{slice_get}
use Rattle.std.proofs.lemmas.List.{take_more, length-set}
use Rattle.std.proofs.lemmas.Option.{slice_get_read, slice_get_within}
use Rattle.paxos_core_world.specs.KeptPart.{KeptPart, nothing_kept}
use Rattle.acceptor_log_form.specs.declared.record.Record.{Record}
use Rattle.acceptor_log_form.specs.Text.{room_of}
use Rattle.acceptor_log_form.specs.Leaves.{kept_by_record, proposed_by, kept_in, proposed_in}
use Rattle.acceptor_log_form.specs.Order.{MayComeNext, MayFollow, AreInOrder}
use Rattle.acceptor_log_form.proofs.LeavesLemmas.{shows_more, read_is, each_more}
use Rattle.acceptor_log_form.proofs.rooms.kept_parts_of.Goals as goal

-- a record of a room that there is, going on from what was read of it
goes_on_here : (n i rooms : ℕ) (rs : List Record) (at : ℕ) (r : Record) (room : ℕ) (kept : KeptPart) (proposed : ℕ) → room ≡ room_of r → room < rooms → kept ≡ kept_in (take at rs) room → proposed ≡ proposed_in (take at rs) room → MayComeNext n i kept proposed r → MayFollow n i rooms (take at rs) r
goes_on_here n i rooms rs at r room kept proposed room_is below kept_is proposed_is goes =
    let own : MayComeNext n i (kept_in (take at rs) (room_of r)) (proposed_in (take at rs) (room_of r)) r =
    subst (λ m. MayComeNext n i (kept_in (take at rs) m) (proposed_in (take at rs) m) r) room_is
    (subst (λ k. MayComeNext n i k (proposed_in (take at rs) room) r) kept_is (subst (λ b. MayComeNext n i kept b r) proposed_is goes)) in
    (subst (λ m. m < rooms) room_is below, own)

-- one that does not go on from it breaks the order
out_of_order : (n i rooms : ℕ) (rs : List Record) (at : ℕ) (r : Record) (room : ℕ) (kept : KeptPart) (proposed : ℕ) → slice_get rs at ≡ Some r → room ≡ room_of r → kept ≡ kept_in (take at rs) room → proposed ≡ proposed_in (take at rs) room → (MayComeNext n i kept proposed r → ⊥) → AreInOrder n i rooms rs → ⊥
out_of_order n i rooms rs at r room kept proposed got room_is kept_is proposed_is stops order =
    let may = order at r got in
    stops (subst (λ b. MayComeNext n i kept b r) (sym proposed_is) (subst (λ k. MayComeNext n i k (proposed_in (take at rs) room) r) (sym kept_is)
    (subst (λ m. MayComeNext n i (kept_in (take at rs) m) (proposed_in (take at rs) m) r) (sym room_is) may.1)))

pub returns-then-room-len-clause-refused : goal.returns-then-room-len-clause-refused
returns-then-room-len-clause-refused c memory = (
  refl,
  λ order.
      let got : slice_get c.args.records.now c.loop-entry.entry-index ≡ Some c.entry-item.result = slice_get_read c.args.records.now (length c.args.records.now) c.loop-entry.entry-index c.entry-item.result refl (omega arith) c.entry-item.is in
      let room_is : c.from-room.result ≡ room_of c.entry-item.result = cc in
      let below : room_of c.entry-item.result < c.args.rooms = (order c.loop-entry.entry-index c.entry-item.result got).0 in
      omega (arith, below, room_is, c.loop-entry.kept.ok.0, c.loop-entry.invariant.rooms),
)

pub returns-in_default-clause-refused : goal.returns-in_default-clause-refused
returns-in_default-clause-refused c memory =
    let got : slice_get c.args.records.now c.loop-entry.entry-index ≡ Some c.entry-item.result = slice_get_read c.args.records.now (length c.args.records.now) c.loop-entry.entry-index c.entry-item.result refl (omega arith) c.entry-item.is in
    let room_is : c.from-room.result ≡ room_of c.entry-item.result = cc in
    let below : c.from-room.result < c.args.rooms = omega (arith, c.loop-entry.kept.ok.0, c.loop-entry.invariant.rooms) in (
      refl,
      out_of_order c.args.header.now.nodes c.args.header.now.node c.args.rooms c.args.records.now c.loop-entry.entry-index c.entry-item.result c.from-room.result c.index.result.now c.index-in-loop-entry.result.now
          got room_is
          (read_is c.loop-entry.kept.items c.from-room.result c.index.result.now _ (c.loop-entry.invariant.kept c.from-room.result below) c.index.ensures)
          (read_is c.loop-entry.proposed.items c.from-room.result c.index-in-loop-entry.result.now _ (c.loop-entry.invariant.proposed c.from-room.result below) c.index-in-loop-entry.ensures)
          c.in_default.ensures.refused,
    )

pub loop-entry-preserved : goal.loop-entry-preserved
loop-entry-preserved c =
    let at = c.loop-entry.entry-index in
    let rs = c.args.records.now in
    let i = c.loop-entry.invariant in
    let r = c.entry-item.result in
    let room = c.from-room.result in
    let got : slice_get rs at ≡ Some r = slice_get_read rs (length rs) at r refl (omega arith) c.entry-item.is in
    let room_is : room ≡ room_of r = cc in
    let below : room < c.args.rooms = omega (arith, c.loop-entry.kept.ok.0, i.rooms) in
    let are : take (at + 1) rs ≡ take at rs ++ r ∷ [] = take_more rs at r (omega arith) ∙ ap (λ (x : Record). take at rs ++ x ∷ []) (sym c.entry-item.is) in
    let kept_is : c.index.result.now ≡ kept_in (take at rs) room = read_is c.loop-entry.kept.items room c.index.result.now _ (i.kept room below) c.index.ensures in
    let proposed_is : c.index-in-loop-entry.result.now ≡ proposed_in (take at rs) room = read_is c.loop-entry.proposed.items room c.index-in-loop-entry.result.now _ (i.proposed room below) c.index-in-loop-entry.ensures in
    record {
      rooms = length-set c.loop-entry.kept.items room c.in-Some.next.kept ∙ i.rooms;
      ballots = length-set c.loop-entry.proposed.items room c.in-Some.next.proposed ∙ i.ballots;
      kept = shows_more kept_by_record nothing_kept c.loop-entry.kept.items c.args.rooms i.rooms (take at rs) (take (at + 1) rs) r are room room_is below c.in-Some.next.kept i.kept
          (c.in-Some.ensures.kept ∙ ap (λ k. kept_by_record k r) kept_is);
      proposed = shows_more proposed_by 0 c.loop-entry.proposed.items c.args.rooms i.ballots (take at rs) (take (at + 1) rs) r are room room_is below c.in-Some.next.proposed i.proposed
          (c.in-Some.ensures.proposed ∙ ap (λ b. proposed_by b r) proposed_is);
      in_order = each_more (λ k x. MayFollow c.args.header.now.nodes c.args.header.now.node c.args.rooms (take k rs) x) rs at r got
          (goes_on_here c.args.header.now.nodes c.args.header.now.node c.args.rooms rs at r room c.index.result.now c.index-in-loop-entry.result.now room_is below kept_is proposed_is c.in-Some.ensures.goes_on)
          i.in_order;
    }

pub returns-clause-in_order : goal.returns-clause-in_order
returns-clause-in_order c k r got =
    c.loop-entry.invariant.in_order k r (omega (arith, slice_get_within c.args.records.now k r got)) got
