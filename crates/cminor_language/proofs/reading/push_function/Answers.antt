-- Why `push_function` may call `push_statement`.
use Rattle.std.proofs.Common.{sym, subst}
use Rattle.cminor_codec.specs.Short.{HasShortLists}
use Rattle.cminor_language.proofs.Short.{short}
use Rattle.cminor_language.proofs.reading.push_function.Goals as goal

pub push_statement-requires : goal.push_statement-requires
push_statement-requires c = subst HasShortLists (sym c.body.ensures.tree) (short c.args.function.now.variables c.args.function.now.body c.body.ensures.in_range.body)
