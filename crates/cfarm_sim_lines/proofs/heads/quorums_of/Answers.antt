-- Why `quorums_of` meets its clauses `none` and `some`.
use Rattle.std.proofs.Common.{◌≡◌, refl, sym, subst, rules}
use Rattle.std.proofs.lemmas.Option.{same_Some}
use Rattle.paxos_core_world.specs.Quorum.{Sizes}
use Rattle.cfarm_sim_lines.specs.FirstLine.{IsSpelled}
use Rattle.cfarm_sim_lines.proofs.FirstLine.{head_spelled, spelled_head}
use Rattle.cfarm_sim_lines.proofs.heads.quorums_of.Goals as goal

pub returns-in_default-clause-none : goal.returns-in_default-clause-none
returns-in_default-clause-none c none q head =
    let told = c.guess.ensures q head.0 (head_spelled c.args.line.now q head) in
    search rules

pub returns-then-is_spelled-clause-some : goal.returns-then-is_spelled-clause-some
returns-then-is_spelled-clause-some c = spelled_head c.args.line.now c.in-Some.quorums c.if-is_spelled.ensures.sizes (c.if-is_spelled.ensures.spelled.0 refl)

pub returns-else-is_spelled-clause-none : goal.returns-else-is_spelled-clause-none
returns-else-is_spelled-clause-none c none q head =
    let spelled = head_spelled c.args.line.now q head in
    let same : c.in-Some.quorums ≡ q = same_Some c.in-Some.quorums q (c.in-Some.ensures q head.0 spelled) in
    let yes_it_is = c.if-is_spelled.ensures.spelled.1 (subst (λ (p : Sizes). IsSpelled c.args.line.now p) (sym same) spelled) in
    absurd (cc)
