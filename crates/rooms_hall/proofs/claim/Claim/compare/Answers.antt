-- Why `compare` meets its clauses `told` and `mine`, and it may call `split_seat`, `join_seat` and `load`.
use Rattle.std.proofs.Common.{◌≡◌, ◌<◌, ◌∙◌, ap, sym, subst, arith}
use Rattle.std.specs.Arc.{arc_value}
use Rattle.atomic_table.specs.Seated.{TableId}
use Rattle.atomic_table.specs.Table.{Me}
use Rattle.rooms_hall.specs.declared.view.View.{View}
use Rattle.rooms_hall.specs.Claimed.{Claimed, IsClaim, room_of}
use Rattle.rooms_hall.specs.Rule.{both}
use Rattle.rooms_hall.proofs.Claims.{compared, one_room}
use Rattle.rooms_hall.proofs.Keeps.{compares, joins, splits}
use Rattle.rooms_hall.proofs.claim.Claim.compare.Goals as goal

pub split_seat-witness-requires : goal.split_seat-witness-requires
split_seat-witness-requires g c =
    let h = c.other.invariant in
    let at : g.H.Naming.hall ≡ c.deref.result.now.shared.table_id = sym h.shared ∙ ap (λ t. t.shared.table_id) (sym c.deref.ensures) in
    let some_word : 0 < g.H.Naming.hall.words = let words : g.H.Naming.hall.words ≡ 1 = h.words in omega arith in (
      h.mine ∙ at,
      subst (λ (t : TableId). 0 < t.words) at some_word,
      splits c.other.inside.token.id c.other.inside.token.me.0 (ap (λ (v : View). v.drawn) h.view),
    )

pub join_seat-requires : goal.join_seat-requires
join_seat-requires g c =
    let h = c.self.invariant in
    let made = c.split_seat-witness.ensures in
    let at : g.H.Naming.hall ≡ c.deref-2.result.now.shared.table_id = sym h.shared ∙ ap (λ t. t.shared.table_id) (sym c.deref-2.ensures) in
    let some_word : 0 < g.H.Naming.hall.words = let words : g.H.Naming.hall.words ≡ 1 = h.words in omega arith in (
      h.mine ∙ at,
      made.3 ∙ (c.other.invariant.mine ∙ at),
      ap (λ (m : Me (Unit {0}) View). m.1) made.4,
      subst (λ (t : TableId). 0 < t.words) at some_word,
      joins c.self.inside.token.id c.self.inside.token.me.0 c.split_seat-witness.result.id c.split_seat-witness.result.me.0,
    )

pub load-found-requires : goal.load-found-requires
load-found-requires g c =
    let h = c.self.invariant in
    let at : g.H.Naming.hall ≡ c.deref-3.result.now.shared.table_id = sym h.shared ∙ ap (λ t. t.shared.table_id) (sym c.deref-3.ensures) in
    let some_word : 0 < g.H.Naming.hall.words = let words : g.H.Naming.hall.words ≡ 1 = h.words in omega arith in (
      c.join_seat.ensures.0 ∙ (h.mine ∙ at),
      subst (λ (t : TableId). 0 < t.words) at some_word,
      compares _ c.join_seat.new.seat.id c.join_seat.new.seat.me _,
    )

pub invariant_of-self : goal.invariant_of-self
invariant_of-self g c =
    let h = c.self.invariant in
    let found = c.load-found.ensures in
    let told : c.join_seat.new.seat.me.0 ≡ both c.self.inside.token.me.0 c.split_seat-witness.result.me.0 = ap (λ (m : Me (Unit {0}) View). m.0) c.join_seat.ensures.2 in
    subst (λ (v : View). IsClaim g.H.Naming.hall (arc_value c.self.inside.board).shared.table_id c.load-found.new.seat.table_id c.self.inside.number v)
    (sym (compared c.self.inside.number c.self.inside.token.me.0 c.split_seat-witness.result.me.0 c.join_seat.new.seat.me.0 c.load-found.new.seat.me.0 h.view told found.2.after))
    record { shared = h.shared; mine = found.0 ∙ (c.join_seat.ensures.0 ∙ h.mine); words = h.words; view = h.view; numbered = h.numbered }

pub returns-clause-told : goal.returns-clause-told
returns-clause-told g c =
    let told : c.join_seat.new.seat.me.0 ≡ both c.self.inside.token.me.0 c.split_seat-witness.result.me.0 = ap (λ (m : Me (Unit {0}) View). m.0) c.join_seat.ensures.2 in
    let witness : c.split_seat-witness.result.me.0 ≡ c.other.inside.token.me.0 = ap (λ (m : Me (Unit {0}) View). m.0) c.split_seat-witness.ensures.4 in
    sym c.self.view_is
    ∙ (one_room c.self.inside.number c.other.inside.number c.self.inside.token.me.0 c.other.inside.token.me.0 c.split_seat-witness.result.me.0 c.join_seat.new.seat.me.0 c.self.invariant.view c.other.invariant.view witness told
    c.load-found.ensures.2.one c.if-self-other.false
    ∙ c.other.view_is)

pub returns-clause-mine : goal.returns-clause-mine
returns-clause-mine g c =
    let told : c.join_seat.new.seat.me.0 ≡ both c.self.inside.token.me.0 c.split_seat-witness.result.me.0 = ap (λ (m : Me (Unit {0}) View). m.0) c.join_seat.ensures.2 in
    ap {B = Claimed} (λ (v : View). record { number = c.self.inside.number; room = room_of v })
    (compared c.self.inside.number c.self.inside.token.me.0 c.split_seat-witness.result.me.0 c.join_seat.new.seat.me.0 c.load-found.new.seat.me.0 c.self.invariant.view told c.load-found.ensures.2.after)
    ∙ c.self.view_is
