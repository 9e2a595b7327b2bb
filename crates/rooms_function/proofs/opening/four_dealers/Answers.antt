-- Why `four_dealers` meets its contract, and it may call `open_four`.
use Rattle.std.proofs.Common.{◌≡◌, ℕ, ◌≤◌, take, sym, subst, ◌∙◌, arith}
use Rattle.rooms_function.proofs.Passes.{row_is, dealers_ok, settled_row}
use Rattle.rooms_function.proofs.opening.four_dealers.Goals as goal

pub open_four-requires-clause-first : goal.open_four-requires-clause-first
open_four-requires-clause-first c =
    let nodes : c.from-nodes.result ≡ c.args.quorums.nodes = c.from-nodes.ensures ∙ c.nodes.ensures.value in
    let most : c.from-nodes.result ≤ 7 = subst (λ (n : ℕ). n ≤ 7) (sym nodes) c.nodes.ensures.sizes.most in
    settled_row c.args.quorums c.args.kept.now 0 c.from-nodes.result c.parts_in-first.result c.parts_in-first.ensures (c.requires.size ∙ sym nodes) most
    (c.requires.settled 0 (omega arith))

pub open_four-requires-clause-second : goal.open_four-requires-clause-second
open_four-requires-clause-second c =
    let nodes : c.from-nodes.result ≡ c.args.quorums.nodes = c.from-nodes.ensures ∙ c.nodes.ensures.value in
    let most : c.from-nodes.result ≤ 7 = subst (λ (n : ℕ). n ≤ 7) (sym nodes) c.nodes.ensures.sizes.most in
    settled_row c.args.quorums c.args.kept.now 1 c.from-nodes.result c.parts_in-second.result c.parts_in-second.ensures (c.requires.size ∙ sym nodes) most
    (c.requires.settled 1 (omega arith))

pub open_four-requires-clause-third : goal.open_four-requires-clause-third
open_four-requires-clause-third c =
    let nodes : c.from-nodes.result ≡ c.args.quorums.nodes = c.from-nodes.ensures ∙ c.nodes.ensures.value in
    let most : c.from-nodes.result ≤ 7 = subst (λ (n : ℕ). n ≤ 7) (sym nodes) c.nodes.ensures.sizes.most in
    settled_row c.args.quorums c.args.kept.now 2 c.from-nodes.result c.parts_in-third.result c.parts_in-third.ensures (c.requires.size ∙ sym nodes) most
    (c.requires.settled 2 (omega arith))

pub open_four-requires-clause-fourth : goal.open_four-requires-clause-fourth
open_four-requires-clause-fourth c =
    let nodes : c.from-nodes.result ≡ c.args.quorums.nodes = c.from-nodes.ensures ∙ c.nodes.ensures.value in
    let most : c.from-nodes.result ≤ 7 = subst (λ (n : ℕ). n ≤ 7) (sym nodes) c.nodes.ensures.sizes.most in
    settled_row c.args.quorums c.args.kept.now 3 c.from-nodes.result c.parts_in-fourth.result c.parts_in-fourth.ensures (c.requires.size ∙ sym nodes) most
    (c.requires.settled 3 (omega arith))

pub returns : goal.returns
returns c =
    let nodes : c.from-nodes.result ≡ c.args.quorums.nodes = c.from-nodes.ensures ∙ c.nodes.ensures.value in
    let most : c.from-nodes.result ≤ 7 = subst (λ (n : ℕ). n ≤ 7) (sym nodes) c.nodes.ensures.sizes.most in
    let size = c.requires.size ∙ sym nodes in
    let kept = c.args.kept.now in
    let n = c.from-nodes.result in
    dealers_ok c.args.number c.args.quorums kept c.open_four.result (take n c.parts_in-first.result) (take n c.parts_in-second.result) (take n c.parts_in-third.result) (take n c.parts_in-fourth.result)
    (row_is kept 0 n c.parts_in-first.result c.parts_in-first.ensures size most) (row_is kept 1 n c.parts_in-second.result c.parts_in-second.ensures size most)
    (row_is kept 2 n c.parts_in-third.result c.parts_in-third.ensures size most) (row_is kept 3 n c.parts_in-fourth.result c.parts_in-fourth.ensures size most)
    c.open_four.ensures.first c.open_four.ensures.second c.open_four.ensures.third c.open_four.ensures.fourth
