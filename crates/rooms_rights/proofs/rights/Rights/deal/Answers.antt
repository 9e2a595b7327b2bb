-- Why `deal` may call `split_seat`.
use Rattle.std.proofs.Common.{ℕ, ◌<◌, sym, ap, ◌∙◌, subst}
use Rattle.std.specs.Arc.{arc_value}
use Rattle.atomic_table.specs.Seated.{TableId}
use Rattle.atomic_table.specs.Table.{Me}
use Rattle.rooms_table.specs.declared.view.Views.{Views}
use Rattle.rooms_rights.specs.Rights.{Held, HasRights, MayDeal}
use Rattle.rooms_rights.proofs.Stepping.{deals_here, rights_of_rest, rights_of_seat, some_word}
use Rattle.rooms_rights.proofs.rights.Rights.deal.Goals as goal

pub split_seat-token-requires : goal.split_seat-token-requires
split_seat-token-requires c =
    let rights = c.self.invariant in
    let may = subst (λ (s : Held). (k : ℕ) × MayDeal s k) (sym c.self.view_is) c.requires in
    let same = rights.same ∙ ap (λ t. t.shared.table_id) (sym c.deref.ensures) in (
      same,
      subst (λ (t : TableId). 0 < t.words) same (some_word _ record { table = c.self.inside.token.table_id; rooms = c.self.inside.rooms; room = c.self.inside.room; number = c.self.inside.number } c.self.inside.token.id c.self.inside.token.me rights may.0 may.1),
      deals_here _ record { table = c.self.inside.token.table_id; rooms = c.self.inside.rooms; room = c.self.inside.room; number = c.self.inside.number } c.self.inside.token.id c.self.inside.token.me rights may.0 may.1 c.deref.result.now.shared.key,
    )

pub invariant_of-result : goal.invariant_of-result
invariant_of-result c =
    let rights = c.self.invariant in
    let may = subst (λ (s : Held). (k : ℕ) × MayDeal s k) (sym c.self.view_is) c.requires in
    let made = c.split_seat-token.ensures in
    subst (λ (b : TableId). HasRights b record { table = c.split_seat-token.result.table_id; rooms = c.self.inside.rooms; room = c.self.inside.room; number = c.self.inside.number } c.split_seat-token.result.me.0) (ap (λ b. b.shared.table_id) (sym c.in_ok-board.ensures.cases))
    (subst (λ (m : Me (Unit {0}) Views). HasRights (arc_value c.self.inside.board).shared.table_id record { table = c.split_seat-token.result.table_id; rooms = c.self.inside.rooms; room = c.self.inside.room; number = c.self.inside.number } m.0) (sym made.4)
    (rights_of_seat _ record { table = c.self.inside.token.table_id; rooms = c.self.inside.rooms; room = c.self.inside.room; number = c.self.inside.number } c.self.inside.token.id c.self.inside.token.me rights may.0 may.1 c.split_seat-token.result.table_id made.3))

pub invariant_of-self : goal.invariant_of-self
invariant_of-self c =
    let rights = c.self.invariant in
    let may = subst (λ (s : Held). (k : ℕ) × MayDeal s k) (sym c.self.view_is) c.requires in
    let made = c.split_seat-token.ensures in
    subst (λ (m : Me (Unit {0}) Views). HasRights (arc_value c.self.inside.board).shared.table_id record { table = c.split_seat-token.new.seat.table_id; rooms = c.self.inside.rooms; room = c.self.inside.room; number = c.self.inside.number } m.0) (sym made.2)
    (rights_of_rest _ record { table = c.self.inside.token.table_id; rooms = c.self.inside.rooms; room = c.self.inside.room; number = c.self.inside.number } c.self.inside.token.id c.self.inside.token.me rights may.0 may.1 c.split_seat-token.new.seat.table_id made.0)
