-- Why `claim` meets its contract, and it may call `load`.
use Rattle.std.proofs.Common.{◌≡◌, ℕ, ◌<◌, ◌∙◌, ap, sym, subst, arith}
use mathlib.Core.Option.{none}
use Rattle.atomic_table.specs.Seated.{TableId}
use Rattle.atomic_table.specs.Table.{step}
use Rattle.rooms_hall.specs.declared.view.View.{View}
use Rattle.rooms_hall.specs.Claimed.{room_of}
use Rattle.rooms_hall.specs.RoomId.{AreNumbered}
use Rattle.rooms_hall.specs.Rule.{knows}
use Rattle.rooms_hall.specs.Steps.{number_in}
use Rattle.rooms_hall.proofs.Claims.{is_claim}
use Rattle.rooms_hall.proofs.Keeps.{names}
use Rattle.rooms_hall.proofs.drawn.Drawn.claim.Goals as goal

pub load-found-requires : goal.load-found-requires
load-found-requires g c =
    let h = c.self.invariant in
    let at : g.H.Naming.hall ≡ c.deref.result.now.shared.table_id = sym h.shared ∙ ap (λ t. t.shared.table_id) (sym c.deref.ensures) in
    let some_word : 0 < g.H.Naming.hall.words = let words : g.H.Naming.hall.words ≡ 1 = h.words in omega arith in (
      h.mine ∙ at,
      subst (λ (t : TableId). 0 < t.words) at some_word,
      names _ c.self.inside.token.id c.self.inside.token.me c.self.inside.number h.view g.C.Claiming.room (step {S = Unit {0}} 0 0 0 0 none),
    )

pub invariant_of-result : goal.invariant_of-result
invariant_of-result g c =
    let h = c.self.invariant in
    let told = c.load-found.ensures in
    is_claim g.H.Naming.hall _ _ c.self.inside.number g.C.Claiming.room c.load-found.new.seat.me.0 h.shared (told.0 ∙ h.mine) h.words
    (told.2 ∙ ap (λ (v : View). knows record { number = number_in v.drawn; room = g.C.Claiming.room }) h.view)
    (subst (λ (n : ℕ). AreNumbered n g.C.Claiming.room.places) (sym c.self.view_is) c.requires)

pub returns : goal.returns
returns g c =
    let h = c.self.invariant in
    let told = c.load-found.ensures in
    let view : c.load-found.new.seat.me.0 ≡ knows record { number = c.self.inside.number; room = g.C.Claiming.room } =
    told.2 ∙ ap (λ (v : View). knows record { number = number_in v.drawn; room = g.C.Claiming.room }) h.view in
    λ i. record { number = c.self.view_is i; room = ap (λ (v : View). room_of v) view i }
