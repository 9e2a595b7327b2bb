-- Why `draw` may call `load_new_seat` and `compare_exchange`.
use Rattle.std.proofs.Common.{◌≡◌, ℕ, ◌+◌, ◌<◌, ◌==◌, [], ◌∙◌, ap, sym, subst, arith}
use mathlib.Core.Option.{none}
use prog.Atomic.{either}
use Rattle.atomic_table.specs.Seated.{TableId}
use Rattle.atomic_table.specs.Table.{step, Allows}
use Rattle.rooms_hall.specs.Rule.{nothing, HallRule}
use Rattle.rooms_hall.specs.Steps.{Drew}
use Rattle.rooms_hall.proofs.Keeps.{draws, enters}
use Rattle.rooms_hall.proofs.hall.Hall.draw.Goals as goal

pub load_new_seat-found-requires : goal.load_new_seat-found-requires
load_new_seat-found-requires g c =
    let at : g.H.Naming.hall ≡ c.deref.result.now.shared.table_id = sym c.self.invariant.0 ∙ ap (λ t. t.shared.table_id) (sym c.deref.ensures) in
    let some_word : 0 < g.H.Naming.hall.words = let words : g.H.Naming.hall.words ≡ 1 = c.self.invariant.1 in omega arith in (
      subst (λ (t : TableId). 0 < t.words) at some_word,
      enters c.deref.result.now.shared.table_id.slots (step {S = Unit {0}} c.deref.result.now.shared.table_id.slots 0 0 0 none) (nothing, []),
    )

pub compare_exchange-found-requires : goal.compare_exchange-found-requires
compare_exchange-found-requires g c =
    let at : g.H.Naming.hall ≡ c.deref-in-loop-tried.result.now.shared.table_id = sym c.self.invariant.0 ∙ ap (λ t. t.shared.table_id) (sym c.deref-in-loop-tried.ensures) in
    let some_word : 0 < g.H.Naming.hall.words = let words : g.H.Naming.hall.words ≡ 1 = c.self.invariant.1 in omega arith in
    let first : c.load_new_seat-found.result.1.table_id ≡ g.H.Naming.hall = c.load_new_seat-found.ensures.0 ∙ (ap (λ t. t.shared.table_id) c.deref.ensures ∙ c.self.invariant.0) in
    let next : c.in-Some.next ≡ c.loop-tried.found + 1 = c.in-Some.ensures.1 in (
      c.loop-tried.invariant ∙ (first ∙ at),
      subst (λ (t : TableId). 0 < t.words) at some_word,
      subst (λ (m : ℕ). Allows {S = Unit {0}} HallRule c.deref-in-loop-tried.result.now.shared.table_id.slots c.loop-tried.token.id c.loop-tried.token.me 0 (λ n. either (n == c.loop-tried.found) m n)
          (Drew {S = Unit {0}} (step {S = Unit {0}} c.deref-in-loop-tried.result.now.shared.table_id.slots 0 c.loop-tried.found m none) c.loop-tried.token.me)) (sym next)
          (draws c.deref-in-loop-tried.result.now.shared.table_id.slots c.loop-tried.token.id c.loop-tried.token.me c.loop-tried.found),
    )
