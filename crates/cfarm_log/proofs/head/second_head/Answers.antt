-- The header of the second form.
use Rattle.std.proofs.Common.{ℕ, ◌≤◌, List, length, sym, subst, ◌∙◌}
use Rattle.cfarm_log.proofs.HeadLemmas.{rest_is, second_is}
use Rattle.cfarm_log.proofs.head.second_head.Goals as goal

pub returns-clause-head : goal.returns-clause-head
returns-clause-head c =
    let rest = rest_is 8 c.args.bytes.now in
    second_is c.args.bytes.now c.digest_in.result.1.now c.digest_in.result.0 c.requires c.in-len8-up.len_at_least (subst (λ (l : List ℕ). 33 ≤ length l) rest c.if-rest-lt33.false)
    (sym c.belongs_to_first.ensures ∙ c.if-belongs_to_first.false) (sym rest ∙ c.digest_in.ensures.text) c.digest_in.ensures.size
