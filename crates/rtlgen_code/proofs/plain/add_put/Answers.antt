-- Why `add_put` meets its contract.
use Rattle.cminor_syntax.specs.Views.{expression_tree}
use Rattle.rtlgen_code.proofs.StatementArms.{put_added}
use Rattle.rtlgen_code.proofs.plain.add_put.Goals as goal

pub returns : goal.returns
returns c = put_added c.args.temporary c.add_operand.new.graph c.args.target (expression_tree c.args.word.now) c.add_operand.result c.operand_register.ensures c.in_ok-last.ensures c.add_operand.ensures
