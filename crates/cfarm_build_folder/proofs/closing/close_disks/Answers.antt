-- Why `close_disks` meets its contract, and its loop over `disk` keeps the invariant.
use Rattle.std.proofs.Common.{ℕ, length, ap, sym, ◌∙◌, arith}
use Rattle.std.specs.Vec.Iter.{into_iter_items}
use Rattle.cfarm_files.specs.Using.{Closed}
use Rattle.cfarm_files.proofs.Uses.{leads_all, leads_first, leads_on}
use Rattle.cfarm_build_folder.specs.Used.{uses_from}
use Rattle.cfarm_build_folder.proofs.Making.{keeps_same, keeps_through}
use Rattle.cfarm_build_folder.proofs.Ordered.{none_left}
use Rattle.cfarm_build_folder.proofs.closing.close_disks.Goals as goal

pub loop-disk-init : goal.loop-disk-init
loop-disk-init g c =
    let gives = c.into_iter-disk-iterator.ensures.into_iter_gives in
    record {
      closes = leads_first _ _ _ (ap (λ l. uses_from Closed c.args.paths.now.folder.now 0 l) gives.0);
      counted = omega (arith, gives.1, ap length gives.0, c.args.disks.ok.0);
      there = omega (arith, gives.1, ap length gives.0, c.args.disks.ok.0, c.requires.there);
      fits = omega (arith, gives.2);
      kept = keeps_same (g.F.Files.placed c.args.files.now);
      others = λ path old_path disk is. is;
    }

pub close-requires-clause-there : goal.close-requires-clause-there
close-requires-clause-there g c =
    let i = c.loop-disk.invariant in
    let steps = c.in-Some.ensures.steps in
    omega (arith, steps.1, i.there)

pub loop-disk-preserved : goal.loop-disk-preserved
loop-disk-preserved g c =
    let i = c.loop-disk.invariant in
    let steps = c.in-Some.ensures.steps in
    record {
      closes = leads_on _ _ _ _ _ _ _ (ap (λ l. uses_from Closed c.args.paths.now.folder.now c.loop-disk.node l) steps.0) i.closes c.close.ensures.closes;
      counted = omega (arith, steps.1, ap length steps.0, i.counted);
      there = omega (arith, steps.1, i.there);
      fits = omega (arith, steps.1, i.fits);
      kept = keeps_through _ _ _ i.kept c.close.ensures.kept;
      others = λ path old_path d is. i.others path old_path d (c.close.ensures.others path old_path d is);
    }

pub returns-clause-closes : goal.returns-clause-closes
returns-clause-closes g c =
    let i = c.loop-disk.invariant in
    let left = into_iter_items c.loop-disk.disk-iterator in
    leads_all _ _ _ _ (none_left Closed c.args.paths.now.folder.now c.loop-disk.node left (omega (arith, c.in-None.ensures.steps.0, i.counted))) i.closes
