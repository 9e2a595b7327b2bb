-- Why `carry` may call `put_in`.
use Rattle.rtl_passes_filled.proofs.Carrying.{rise_filter}
use Rattle.rtl_passes_facts.proofs.carry.carry.Goals as goal

pub put_in-requires : goal.put_in-requires
put_in-requires g c =
    rw c.keep.ensures (rise_filter g.R.Rules.rules.rank (g.R.Rules.keeps c.change_by-change.result) c.args.facts.now.items 0 c.requires)
