-- Why `meet` meets its clauses `strangers` and `numbers`.
use Rattle.std.proofs.Common.{◌≡◌, ◌≢◌, Bool, subst}
use Rattle.std.specs.Prelude.{MatchBool}
use Rattle.rooms_numbered.proofs.Same.{strangers, told_apart, told_one}
use Rattle.rooms_numbered.proofs.meeting.meet_numbered.Goals as goal

pub returns-then-not-compare-clause-strangers : goal.returns-then-not-compare-clause-strangers
returns-then-not-compare-clause-strangers g c e =
    let first = c.args.first.now in
    let second = c.args.second.now in
    strangers first.claim second.claim first.seat second.seat first.named second.named c.compare.ensures.numbered c.compare.ensures.others
    (subst (λ (b : Bool). MatchBool b (first.claim ≡ second.claim) (first.claim.number ≢ second.claim.number)) c.if-not-compare.true c.compare.ensures.told)

pub returns-then-not-compare-clause-numbers : goal.returns-then-not-compare-clause-numbers
returns-then-not-compare-clause-numbers g c =
    told_apart c.args.first.now.claim c.args.second.now.claim c.compare.result c.if-not-compare.true c.compare.ensures.told

pub returns-clause-numbers : goal.returns-clause-numbers
returns-clause-numbers g c =
    told_one c.args.first.now.claim c.args.second.now.claim c.compare.result c.meet_functions.result c.if-not-compare.false c.compare.ensures.told
