-- Why `push_left` meets its contract.
use Rattle.std.specs.Prelude.{codes}
use Rattle.text_keys.proofs.Appending.{function_written}
use Rattle.cfarm_explain_words.specs.Operators.{int_text}
use Rattle.cfarm_explain_words.proofs.operators.push_left.Goals as goal

pub returns : goal.returns
returns c =
    function_written c.push_bytes-2.result (int_text c.args.first) (codes " << ") (int_text c.args.second) (codes " shifts a negative number to the left")
    c.args.out.now.items c.push_int.new.out.items c.push_bytes.new.out.items c.push_int-2.new.out.items c.push_bytes-2.new.out.items
    c.in_ok-push_int.ensures c.in_ok-push_bytes.ensures c.in_ok-push_int-2.ensures c.push_bytes-2.ensures
