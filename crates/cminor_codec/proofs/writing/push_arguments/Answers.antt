-- Why `push_arguments` meets its contract.
use Rattle.std.proofs.Common.{[], ◌∷◌, length}
use Rattle.cminor_codec.proofs.Texts.{expressions_texts, expressions_length, appends_behind}
use Rattle.cminor_codec.proofs.writing.push_arguments.Goals as goal

pub returns : goal.returns
returns c =
    rw (expressions_texts c.args.arguments.now, expressions_length c.args.arguments.now)
    (appends_behind c.push_each.result (length c.args.arguments.now ∷ []) _ c.args.out.now.items c.push_byte.new.out.items c.push_each.new.out.items c.in_ok-push_byte.ensures c.push_each.ensures)
