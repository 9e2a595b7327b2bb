-- Why `are_known` meets its contract.
use Rattle.std.proofs.Common.{get_or}
use Rattle.rtl_passes_facts.proofs.walk.are_known.Goals as goal

pub returns : goal.returns
returns g c =
    let laws = g.met.R.Rules.changes c.args.instruction.now c.args.before.now in
    let told = rw (laws.0, laws.1) at (rw c.change_by-change.ensures at c.are_made_or_kept.ensures) in (
      λ yes k d below. (g.met.R.Rules.known c.args.instruction.now c.args.before.now (get_or c.args.after.now k d) c.requires.before).1 (told.0 yes k d below),
      λ all. told.1 (λ k d below. (g.met.R.Rules.known c.args.instruction.now c.args.before.now (get_or c.args.after.now k d) c.requires.before).0 (all k d below)),
    )
