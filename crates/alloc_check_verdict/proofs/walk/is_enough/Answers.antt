-- Why `is_enough` meets its contract.
use Rattle.std.proofs.lemmas.Bool.{both_ways}
use Rattle.alloc_check_verdict.proofs.walk.is_enough.Goals as goal

pub returns-then-begins_right : goal.returns-then-begins_right
returns-then-begins_right c =
    let begins = c.begins_right.ensures.0 c.if-begins_right.true in
    (λ yes. (begins, c.are_among.ensures.0 yes), λ both. c.are_among.ensures.1 both.1)

pub returns-else-begins_right : goal.returns-else-begins_right
returns-else-begins_right c =
    (λ yes. absurd (both_ways c.begins_right.result c.if-begins_right.false yes), λ both. c.begins_right.ensures.1 both.0)
