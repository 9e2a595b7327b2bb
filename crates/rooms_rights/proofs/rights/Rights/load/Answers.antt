-- Why `load` may call `load`.
use Rattle.std.proofs.Common.{◌≡◌, sym, ap, ◌∙◌, subst}
use mathlib.Core.Option.{none}
use Rattle.atomic_table.specs.Table.{step}
use Rattle.rooms_table.specs.Places.{place_of}
use Rattle.rooms_rights.specs.Rights.{Held, MayStep}
use Rattle.rooms_rights.proofs.Stepping.{may_in_table, rights_after}
use Rattle.rooms_rights.proofs.rights.Rights.load.Goals as goal

pub load-requires : goal.load-requires
load-requires g c =
    let rights = c.self.invariant in
    let stands = subst (λ (h : Held). c.place-place.result ≡ place_of h.at.rooms h.at.room c.args.word) (sym c.self.view_is) c.place-place.ensures in
    let same = rights.same ∙ ap (λ t. t.shared.table_id) (sym c.deref.ensures) in
    let may = subst (λ (s : Held). MayStep s c.args.word (λ n. n) (g.M.Play.then (step s.at.table.slots c.args.word 0 0 none) s.me)) (sym c.self.view_is) c.requires in
    let both = may_in_table _ record { table = c.self.inside.token.table_id; rooms = c.self.inside.rooms; room = c.self.inside.room; number = c.self.inside.number } c.self.inside.token.id c.self.inside.token.me rights c.args.word c.place-place.result 0 0 g.M.Play.then stands (λ n. n) (λ n. n) may c.deref.result.now.shared.key c.deref.result.now.shared.table_id same in
    (same, both.0, both.1)

pub invariant_of-self : goal.invariant_of-self
invariant_of-self g c =
    let rights = c.self.invariant in
    let stands = subst (λ (h : Held). c.place-place.result ≡ place_of h.at.rooms h.at.room c.args.word) (sym c.self.view_is) c.place-place.ensures in
    let found = c.load.ensures in
    rights_after _ record { table = c.self.inside.token.table_id; rooms = c.self.inside.rooms; room = c.self.inside.room; number = c.self.inside.number } c.self.inside.token.id c.self.inside.token.me rights c.args.word c.place-place.result 0 0 g.M.Play.then stands c.deref.result.now.shared.table_id.slots c.load.result c.load.new.seat.me found.2 c.load.new.seat.table_id found.0
