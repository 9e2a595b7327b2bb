use Rattle.c_hints.proofs.Rows.{limit_said}
use Rattle.c_hints.proofs.hinting.said_of_limit.Goals as goal

-- src/hinting.rt:157:1
pub returns : goal.returns
returns c =
    limit_said c.args.text.now c.args.found.now c.quoted.result c.token_from-behind.result.word.now c.tokens_before-before.result c.limit_hint.result.now c.limit_hint.ensures c.quoted.ensures
