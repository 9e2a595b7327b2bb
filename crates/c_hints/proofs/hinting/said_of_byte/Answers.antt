use Rattle.c_hints.proofs.Rows.{byte_said}
use Rattle.c_hints.proofs.hinting.said_of_byte.Goals as goal

-- src/hinting.rt:121:1
pub returns : goal.returns
returns c = byte_said c.args.text.now c.args.found.now c.quoted.result c.token_from-behind.result.word.now c.byte_hint.result.now c.byte_hint.ensures c.quoted.ensures
