-- Why `guess` meets its contract.
use Rattle.std.proofs.Common.{◌≡◌, ◌≤◌, sym, ap, subst, ◌∙◌, arith}
use Rattle.std.proofs.lemmas.Option.{same_Some}
use Rattle.paxos_core_world.specs.Quorum.{majority_sizes, sizes, AreQuorums}
use Rattle.cfarm_sim_lines.proofs.FirstLine.{digit_accept, digit_nodes, digit_promise, is_long, is_short, some_iff}
use Rattle.cfarm_sim_lines.proofs.heads.guess.Goals as goal

pub returns-in_default : goal.returns-in_default
returns-in_default c q meet spelled = absurd (c.in_default.not-Some q.nodes (c.digit_at.ensures q.nodes (digit_nodes c.args.line.now q spelled)))

pub returns-then-line-eq7 : goal.returns-then-line-eq7
returns-then-line-eq7 c q meet spelled =
    let nodes : c.in-Some.nodes ≡ q.nodes = same_Some c.in-Some.nodes q.nodes (c.in-Some.ensures q.nodes (digit_nodes c.args.line.now q spelled)) in
    some_iff c.majorities.result ((2 ≤ c.in-Some.nodes) × (c.in-Some.nodes ≤ 7)) (majority_sizes c.in-Some.nodes) q c.majorities.ensures
    (omega (arith, nodes, meet.least), omega (arith, nodes, meet.most))
    (ap majority_sizes nodes ∙ sym (is_short c.args.line.now q spelled (omega (arith, c.if-line-eq7.true))))

pub returns-in_default-digit_at : goal.returns-in_default-digit_at
returns-in_default-digit_at c q meet spelled =
    let long = is_long c.args.line.now q spelled (λ seven. omega (arith, seven, c.if-line-eq7.false)) in
    absurd (c.in_default-digit_at.not-Some q.promise (c.digit_at-2.ensures q.promise (digit_promise c.args.line.now q long)))

pub returns-in_default-digit_at-2 : goal.returns-in_default-digit_at-2
returns-in_default-digit_at-2 c q meet spelled =
    let long = is_long c.args.line.now q spelled (λ seven. omega (arith, seven, c.if-line-eq7.false)) in
    absurd (c.in_default-digit_at-2.not-Some q.accept (c.digit_at-3.ensures q.accept (digit_accept c.args.line.now q long)))

pub returns : goal.returns
returns c q meet spelled =
    let line = c.args.line.now in
    let long = is_long line q spelled (λ seven. omega (arith, seven, c.if-line-eq7.false)) in
    let nodes : c.in-Some.nodes ≡ q.nodes = same_Some c.in-Some.nodes q.nodes (c.in-Some.ensures q.nodes (digit_nodes line q spelled)) in
    let promise : c.in-Some-digit_at.promise ≡ q.promise = same_Some c.in-Some-digit_at.promise q.promise (c.in-Some-digit_at.ensures q.promise (digit_promise line q long)) in
    let accept : c.in-Some-digit_at-2.accept ≡ q.accept = same_Some c.in-Some-digit_at-2.accept q.accept (c.in-Some-digit_at-2.ensures q.accept (digit_accept line q long)) in
    let told = sizes c.in-Some.nodes c.in-Some-digit_at.promise c.in-Some-digit_at-2.accept in
    let same : told ≡ q = (λ i. record { nodes = nodes i; promise = promise i; accept = accept i }) in
    some_iff c.of.result (AreQuorums told) told q c.of.ensures (subst AreQuorums (sym same) meet) same
