use Rattle.c_hints.proofs.Rows.{hinted}
use Rattle.c_hints.proofs.hinting.hint_at.Goals as goal

-- src/hinting.rt:167:1
pub returns-in-201 : goal.returns-in-201
returns-in-201 c = hinted c.args.text.now c.token_at-found.result.now c.said_of_byte.result c.args.at c.args.number 201 c.in-201.is c.token_at-found.ensures c.said_of_byte.ensures

-- src/hinting.rt:167:1
pub returns-in-210 : goal.returns-in-210
returns-in-210 c = hinted c.args.text.now c.token_at-found.result.now c.said_of_token.result c.args.at c.args.number 210 c.in-210.is c.token_at-found.ensures c.said_of_token.ensures

-- src/hinting.rt:167:1
pub returns-in-220 : goal.returns-in-220
returns-in-220 c = hinted c.args.text.now c.token_at-found.result.now c.said_of_name.result c.args.at c.args.number 220 c.in-220.is c.token_at-found.ensures c.said_of_name.ensures

-- src/hinting.rt:167:1
pub returns-in-221 : goal.returns-in-221
returns-in-221 c = hinted c.args.text.now c.token_at-found.result.now c.said_of_second.result c.args.at c.args.number 221 c.in-221.is c.token_at-found.ensures c.said_of_second.ensures

-- src/hinting.rt:167:1
pub returns-in-222 : goal.returns-in-222
returns-in-222 c = hinted c.args.text.now c.token_at-found.result.now c.said_of_count.result c.args.at c.args.number 222 c.in-222.is c.token_at-found.ensures c.said_of_count.ensures

-- src/hinting.rt:167:1
pub returns-in-228 : goal.returns-in-228
returns-in-228 c = hinted c.args.text.now c.token_at-found.result.now c.said_of_limit.result c.args.at c.args.number 228 c.in-228.is c.token_at-found.ensures c.said_of_limit.ensures
