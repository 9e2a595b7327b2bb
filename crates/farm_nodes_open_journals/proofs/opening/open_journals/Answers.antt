-- The next pair is opened, or refused.
use Rattle.std.proofs.Common.{◌≡◌, ◌∷◌, ℕ, List, drop, sym, subst, ◌∙◌, arith}
use Rattle.std.specs.Vec.Iter.{into_iter_items}
use Rattle.acceptor_log_form.specs.declared.header.Header.{Header}
use Rattle.farm_nodes_open_journals.specs.Journals.{header_of, IsOpened, IsRefused}
use Rattle.farm_nodes_open_journals.proofs.Next.{next_of, rest_of, opened_next}
use Rattle.farm_nodes_open_journals.proofs.opening.open_journals.Goals as goal

pub returns-in-Err-open_pair-clause-refused : goal.returns-in-Err-open_pair-clause-refused
returns-in-Err-open_pair-clause-refused g c =
    let given = c.args.pairs.items in
    let q = c.args.quorums in
    let node = c.loop-node.node in
    let digest : List ℕ = c.args.digest.now in
    let d = c.in-Some.pair in
    let rest = into_iter_items c.next.new.self in
    let left : drop node given ≡ d ∷ rest = sym c.loop-node.invariant.behind ∙ c.in-Some.ensures.items in
    let fault = c.in-Err-open_pair.fault in
    let refused : IsRefused g.P.Disk g.P.Pair (header_of q digest node) d c.in-Err-open_pair.pair fault =
    subst (λ (h : Header). IsRefused g.P.Disk g.P.Pair h d c.in-Err-open_pair.pair fault) c.header_of-header.ensures c.in-Err-open_pair.ensures in
    record {
      front = c.loop-node.invariant.opened;
      none = λ bad. absurd (cc);
      some = λ b is. (d, next_of given node d rest left, (let same : c.in-Err-open_pair.pair ≡ b = cc in subst (λ e. IsRefused g.P.Disk g.P.Pair (header_of q digest node) d e fault) same refused), rest_of given node d rest left);
    }

pub loop-node-preserved : goal.loop-node-preserved
loop-node-preserved g c =
    let given = c.args.pairs.items in
    let q = c.args.quorums in
    let node = c.loop-node.node in
    let digest : List ℕ = c.args.digest.now in
    let d = c.in-Some.pair in
    let rest = into_iter_items c.next.new.self in
    let left : drop node given ≡ d ∷ rest = sym c.loop-node.invariant.behind ∙ c.in-Some.ensures.items in
    let j = c.in-Ok-open_pair.found in
    let now : IsOpened g.P.Disk g.P.Pair (header_of q digest node) d j.0 j.1.items =
    subst (λ (h : Header). IsOpened g.P.Disk g.P.Pair h d j.0 j.1.items) c.header_of-header.ensures c.in-Ok-open_pair.ensures in
    record {
      opened = opened_next g.P.Disk g.P.Pair q digest given node c.loop-node.opened.items c.push.new.self.items j d c.loop-node.invariant.opened (next_of given node d rest left) now c.in-Ok-push.ensures.items;
      behind = rest_of given node d rest left;
      capacity = omega (arith, c.loop-node.invariant.capacity, c.in-Ok-push.ensures.capacity);
    }
