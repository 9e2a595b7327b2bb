-- Why `write_certificate` may call `write_rows`.
use Rattle.rtl_passes_facts.proofs.Shorts.{short_rows}
use Rattle.rtl_passes_facts.proofs.writing.write_certificate.Goals as goal

pub write_rows-requires : goal.write_rows-requires
write_rows-requires g c = short_rows g.R.Rules.rules c.args._input.now c.args.rows.now c.requires
