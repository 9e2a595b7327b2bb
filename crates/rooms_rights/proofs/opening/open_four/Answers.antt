-- Why `open_four` may call `of_words` and `split_seat`.
use Rattle.std.proofs.Common.{ℕ, ◌<◌, sym, ap, ◌∙◌, subst, arith}
use Rattle.atomic_table.specs.Seated.{TableId}
use Rattle.atomic_table.specs.Table.{Me}
use Rattle.rooms_table.specs.Deal.{first_room, other_rooms}
use Rattle.rooms_table.specs.Family.{rooms_in}
use Rattle.rooms_table.specs.declared.view.Views.{Views}
use Rattle.rooms_table.proofs.Dealing.{deals_room}
use Rattle.rooms_table.proofs.Opening.{opens_so}
use Rattle.rooms_rights.proofs.Openings.{all_is, cut_first, cut_rest, cut_second, cut_third, one_of_four, some_first, some_second, some_third, some_words}
use Rattle.rooms_rights.proofs.opening.open_four.Goals as goal

pub of_words-requires : goal.of_words-requires
of_words-requires c = opens_so c.args.openings.now c.pairs_of-pairs.result c.opening_words-words.result c.pairs_of-pairs.ensures.value c.requires.can c.opening_words-words.ensures

pub split_seat-token0-requires : goal.split_seat-token0-requires
split_seat-token0-requires c =
    let table = c.in_ok-table.ensures in
    let all = all_is c.args.openings.now 4 c.in_ok-table.token.me.0 c.requires.rooms (ap (λ (m : Me (Unit {0}) Views). m.0) table.4) in
    let words = some_words c.args.openings.now c.requires.can c.requires.some c.pairs_of-pairs.result c.pairs_of-pairs.ensures.value c.opening_words-words.result c.opening_words-words.ensures.size in
    let positive = subst (λ (n : ℕ). 0 < n) (sym table.0) words in
    let at = ap (λ t. t.shared.table_id) (sym (c.deref.ensures ∙ (c.in_ok-board0.ensures.fourth ∙ c.in_ok-board.ensures.ok))) in (
      (table.2) ∙ at,
      subst (λ (t : TableId). 0 < t.words) at positive,
      deals_room {S = Unit {0}} c.deref.result.now.shared.key c.in_ok-table.token.id c.in_ok-table.token.me.0 (some_first c.args.openings.now c.in_ok-table.token.me.0 all),
    )

pub split_seat-token1-requires : goal.split_seat-token1-requires
split_seat-token1-requires c =
    let table = c.in_ok-table.ensures in
    let all = all_is c.args.openings.now 4 c.in_ok-table.token.me.0 c.requires.rooms (ap (λ (m : Me (Unit {0}) Views). m.0) table.4) in
    let words = some_words c.args.openings.now c.requires.can c.requires.some c.pairs_of-pairs.result c.pairs_of-pairs.ensures.value c.opening_words-words.result c.opening_words-words.ensures.size in
    let positive = subst (λ (n : ℕ). 0 < n) (sym table.0) words in
    let at = ap (λ t. t.shared.table_id) (sym (c.deref-2.ensures ∙ (c.in_ok-board0.ensures.fourth ∙ c.in_ok-board.ensures.ok))) in (
      (c.split_seat-token0.ensures.0 ∙ table.2) ∙ at,
      subst (λ (t : TableId). 0 < t.words) at positive,
      deals_room {S = Unit {0}} c.deref-2.result.now.shared.key c.split_seat-token0.new.seat.id c.split_seat-token0.new.seat.me.0 (subst (λ (v : Views). 0 < rooms_in v) (sym (ap (λ (m : Me (Unit {0}) Views). m.0) c.split_seat-token0.ensures.2)) (some_second c.args.openings.now c.in_ok-table.token.me.0 all)),
    )

pub split_seat-token2-requires : goal.split_seat-token2-requires
split_seat-token2-requires c =
    let table = c.in_ok-table.ensures in
    let all = all_is c.args.openings.now 4 c.in_ok-table.token.me.0 c.requires.rooms (ap (λ (m : Me (Unit {0}) Views). m.0) table.4) in
    let words = some_words c.args.openings.now c.requires.can c.requires.some c.pairs_of-pairs.result c.pairs_of-pairs.ensures.value c.opening_words-words.result c.opening_words-words.ensures.size in
    let positive = subst (λ (n : ℕ). 0 < n) (sym table.0) words in
    let at = ap (λ t. t.shared.table_id) (sym (c.deref-3.ensures ∙ (c.in_ok-board0.ensures.fourth ∙ c.in_ok-board.ensures.ok))) in (
      (c.split_seat-token1.ensures.0 ∙ (c.split_seat-token0.ensures.0 ∙ table.2)) ∙ at,
      subst (λ (t : TableId). 0 < t.words) at positive,
      deals_room {S = Unit {0}} c.deref-3.result.now.shared.key c.split_seat-token1.new.seat.id c.split_seat-token1.new.seat.me.0 (subst (λ (v : Views). 0 < rooms_in v) (sym (ap (λ (m : Me (Unit {0}) Views). m.0) c.split_seat-token1.ensures.2 ∙ ap (λ (m : Me (Unit {0}) Views). other_rooms m.0) c.split_seat-token0.ensures.2)) (some_third c.args.openings.now c.in_ok-table.token.me.0 all)),
    )

pub invariant_of-result : goal.invariant_of-result
invariant_of-result c =
    let table = c.in_ok-table.ensures in
    let all = all_is c.args.openings.now 4 c.in_ok-table.token.me.0 c.requires.rooms (ap (λ (m : Me (Unit {0}) Views). m.0) table.4) in
    let at = table.2 ∙ ap (λ b. b.shared.table_id) (sym (c.in_ok-board0.ensures.first ∙ c.in_ok-board.ensures.ok)) in
    one_of_four _ _ _ _ _ 0 (omega arith) (c.split_seat-token0.ensures.3 ∙ at) (ap (λ (m : Me (Unit {0}) Views). m.0) c.split_seat-token0.ensures.4 ∙ cut_first c.args.openings.now c.in_ok-table.token.me.0 all)

pub invariant_of-result-2 : goal.invariant_of-result-2
invariant_of-result-2 c =
    let table = c.in_ok-table.ensures in
    let all = all_is c.args.openings.now 4 c.in_ok-table.token.me.0 c.requires.rooms (ap (λ (m : Me (Unit {0}) Views). m.0) table.4) in
    let at = table.2 ∙ ap (λ b. b.shared.table_id) (sym (c.in_ok-board0.ensures.second ∙ c.in_ok-board.ensures.ok)) in
    one_of_four _ _ _ _ _ 1 (omega arith) (c.split_seat-token1.ensures.3 ∙ (c.split_seat-token0.ensures.0 ∙ at)) (ap (λ (m : Me (Unit {0}) Views). m.0) c.split_seat-token1.ensures.4 ∙ (ap (λ (m : Me (Unit {0}) Views). first_room m.0) c.split_seat-token0.ensures.2 ∙ cut_second c.args.openings.now c.in_ok-table.token.me.0 all))

pub invariant_of-result-3 : goal.invariant_of-result-3
invariant_of-result-3 c =
    let table = c.in_ok-table.ensures in
    let all = all_is c.args.openings.now 4 c.in_ok-table.token.me.0 c.requires.rooms (ap (λ (m : Me (Unit {0}) Views). m.0) table.4) in
    let at = table.2 ∙ ap (λ b. b.shared.table_id) (sym (c.in_ok-board0.ensures.third ∙ c.in_ok-board.ensures.ok)) in
    one_of_four _ _ _ _ _ 2 (omega arith) (c.split_seat-token2.ensures.3 ∙ (c.split_seat-token1.ensures.0 ∙ (c.split_seat-token0.ensures.0 ∙ at))) (ap (λ (m : Me (Unit {0}) Views). m.0) c.split_seat-token2.ensures.4 ∙ (ap (λ (m : Me (Unit {0}) Views). first_room m.0) c.split_seat-token1.ensures.2 ∙ (ap (λ (m : Me (Unit {0}) Views). first_room (other_rooms m.0)) c.split_seat-token0.ensures.2 ∙ cut_third c.args.openings.now c.in_ok-table.token.me.0 all)))

pub invariant_of-result-4 : goal.invariant_of-result-4
invariant_of-result-4 c =
    let table = c.in_ok-table.ensures in
    let all = all_is c.args.openings.now 4 c.in_ok-table.token.me.0 c.requires.rooms (ap (λ (m : Me (Unit {0}) Views). m.0) table.4) in
    let at = table.2 ∙ ap (λ b. b.shared.table_id) (sym (c.in_ok-board0.ensures.fourth ∙ c.in_ok-board.ensures.ok)) in
    one_of_four _ _ _ _ _ 3 (omega arith) (c.split_seat-token2.ensures.0 ∙ (c.split_seat-token1.ensures.0 ∙ (c.split_seat-token0.ensures.0 ∙ at))) (ap (λ (m : Me (Unit {0}) Views). m.0) c.split_seat-token2.ensures.2 ∙ (ap (λ (m : Me (Unit {0}) Views). other_rooms m.0) c.split_seat-token1.ensures.2 ∙ (ap (λ (m : Me (Unit {0}) Views). other_rooms (other_rooms m.0)) c.split_seat-token0.ensures.2 ∙ cut_rest c.args.openings.now c.in_ok-table.token.me.0 all)))
