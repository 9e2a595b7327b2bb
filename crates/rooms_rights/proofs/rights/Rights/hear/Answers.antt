-- Why `hear` meets its clause `heard`, and it may call `split_seat` and `join_seat`.
use Rattle.std.proofs.Common.{◌≡◌, ◌<◌, true, sym, ap, ◌∙◌, subst}
use Rattle.std.specs.Arc.{arc_value}
use Rattle.atomic_table.specs.Seated.{TableId}
use Rattle.atomic_table.specs.Table.{Me}
use Rattle.rooms_table.specs.RoomAt.{RoomAt}
use Rattle.rooms_table.specs.declared.view.Views.{Views}
use Rattle.rooms_rights.specs.Rights.{Held, HasRights}
use Rattle.rooms_rights.proofs.Stepping.{heard, hears_here, rights_informed, tells_here}
use Rattle.rooms_rights.proofs.rights.Rights.hear.Goals as goal

pub split_seat-witness-requires : goal.split_seat-witness-requires
split_seat-witness-requires c =
    let rights = c.other.invariant in
    let same = rights.same ∙ ap (λ t. t.shared.table_id) (sym c.deref.ensures) in
    let word = subst (λ (a : RoomAt). 0 < a.table.words) (c.requires.room ∙ sym (ap (λ (h : Held). h.at) c.other.view_is)) c.requires.words in (
      same,
      subst (λ (t : TableId). 0 < t.words) same word,
      tells_here _ record { table = c.other.inside.token.table_id; rooms = c.other.inside.rooms; room = c.other.inside.room; number = c.other.inside.number } c.other.inside.token.id c.other.inside.token.me rights c.deref.result.now.shared.key,
    )

pub join_seat-requires : goal.join_seat-requires
join_seat-requires c =
    let rights = c.self.invariant in
    let same = rights.same ∙ ap (λ t. t.shared.table_id) (sym c.deref-2.ensures) in
    let one = ap (λ (h : Held). h.at.table) c.self.view_is ∙ (ap (λ (a : RoomAt). a.table) c.requires.room ∙ sym (ap (λ (h : Held). h.at.table) c.other.view_is)) in
    let word = subst (λ (h : Held). 0 < h.at.table.words) (sym c.self.view_is) c.requires.words in
    let made = c.split_seat-witness.ensures in (
      same,
      made.3 ∙ (sym one ∙ same),
      ap (λ (m : Me (Unit {0}) Views). m.1) made.4,
      subst (λ (t : TableId). 0 < t.words) same word,
      hears_here _ record { table = c.self.inside.token.table_id; rooms = c.self.inside.rooms; room = c.self.inside.room; number = c.self.inside.number } c.self.inside.token.id c.self.inside.token.me rights c.deref-2.result.now.shared.key c.split_seat-witness.result.id c.split_seat-witness.result.me.0,
    )

pub invariant_of-self : goal.invariant_of-self
invariant_of-self c =
    let joined = c.join_seat.ensures in
    subst (λ (m : Me (Unit {0}) Views). HasRights (arc_value c.self.inside.board).shared.table_id record { table = c.join_seat.new.seat.table_id; rooms = c.self.inside.rooms; room = c.self.inside.room; number = c.self.inside.number } m.0) (sym joined.2)
    (rights_informed _ record { table = c.self.inside.token.table_id; rooms = c.self.inside.rooms; room = c.self.inside.room; number = c.self.inside.number } c.self.inside.token.id c.self.inside.token.me c.self.invariant c.split_seat-witness.result.me.0 c.join_seat.new.seat.table_id joined.0)

pub returns-clause-heard : goal.returns-clause-heard
returns-clause-heard c =
    let same = ap (λ (h : Held). h.at) c.self.view_is ∙ (c.requires.room ∙ sym (ap (λ (h : Held). h.at) c.other.view_is)) in
    let lives = subst (λ (h : Held). h.me.0.live ≡ true) (sym c.other.view_is) c.requires.live in
    let joined = c.join_seat.ensures in
    rw (← c.self.view_is)
    (rw (← c.other.view_is)
    (heard _ record { table = c.self.inside.token.table_id; rooms = c.self.inside.rooms; room = c.self.inside.room; number = c.self.inside.number } c.self.inside.token.id c.self.inside.token.me c.self.invariant _ record { table = c.other.inside.token.table_id; rooms = c.other.inside.rooms; room = c.other.inside.room; number = c.other.inside.number } c.other.inside.token.id c.other.inside.token.me c.other.invariant same lives
    c.split_seat-witness.result.me c.split_seat-witness.ensures.4 c.join_seat.new.seat.me joined.2 c.join_seat.new.seat.table_id joined.0 c.join_seat.new.seat.id joined.1))
