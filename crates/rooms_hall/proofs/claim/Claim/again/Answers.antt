-- Why `again` may call `split_seat`.
use Rattle.std.proofs.Common.{◌≡◌, ◌<◌, ◌∙◌, ap, sym, subst, arith}
use Rattle.atomic_table.specs.Seated.{TableId}
use Rattle.rooms_hall.specs.declared.view.View.{View}
use Rattle.rooms_hall.proofs.Keeps.{splits}
use Rattle.rooms_hall.proofs.claim.Claim.again.Goals as goal

pub split_seat-token-requires : goal.split_seat-token-requires
split_seat-token-requires g c =
    let h = c.self.invariant in
    let at : g.H.Naming.hall ≡ c.deref.result.now.shared.table_id = sym h.shared ∙ ap (λ t. t.shared.table_id) (sym c.deref.ensures) in
    let some_word : 0 < g.H.Naming.hall.words = let words : g.H.Naming.hall.words ≡ 1 = h.words in omega arith in (
      h.mine ∙ at,
      subst (λ (t : TableId). 0 < t.words) at some_word,
      splits c.self.inside.token.id c.self.inside.token.me.0 (ap (λ (v : View). v.drawn) h.view),
    )
