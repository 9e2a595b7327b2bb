-- Why `text_of` may call `unreachable`.
use Rattle.farm_nodes_source.proofs.Names.{name_is_text}
use Rattle.farm_nodes_source.proofs.naming.text_of.Goals as goal

pub unreachable-requires : goal.unreachable-requires
unreachable-requires c = absurd (cc (c.in-Err.ensures.succeeds (name_is_text c.args.name.items c.requires)))
