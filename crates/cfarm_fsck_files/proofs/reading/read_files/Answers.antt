-- Why `read_files` meets its clause `refused`, and its loop over `node` keeps the invariant.
use Rattle.std.proofs.Common.{length, ap, sym, subst, arith}
use Rattle.std.proofs.lemmas.List.{length_push}
use Rattle.cfarm_fsck_files.specs.Reading.{AreOfNode, AreSome, IsUnreadNode}
use Rattle.cfarm_fsck_files.proofs.Files.{one_more}
use Rattle.cfarm_fsck_files.proofs.reading.read_files.Goals as goal

-- a file of the next node is refused
pub returns-in-Err-clause-refused : goal.returns-in-Err-clause-refused
returns-in-Err-clause-refused g c = record {
  found = c.loop-node.found.items;
  some = c.loop-node.invariant.some;
  below = omega (arith, c.loop-node.invariant.count, c.loop-node-test.true);
  refused = subst (λ n. IsUnreadNode g.F.Files c.args.lock.now c.args.folder.now n c.in-Err.fault) (sym c.loop-node.invariant.count) c.in-Err.ensures.refused;
}

-- one more is read
pub loop-node-preserved : goal.loop-node-preserved
loop-node-preserved g c =
    let over = g.F.Files in
    let lock = c.args.lock.now in
    let folder = c.args.folder.now in
    let found = c.loop-node.found.items in
    let one = c.in-Ok.one in
    let more_is = c.in-Ok-push.ensures.items in
    record {
      count = omega (arith, ap length more_is, length_push found one, c.loop-node.invariant.count);
      some = subst (λ xs. AreSome over lock folder xs) (sym more_is)
          (one_more over lock folder found one c.loop-node.invariant.some
          (subst (λ n. AreOfNode over lock folder n one) (sym c.loop-node.invariant.count) c.in-Ok.ensures.read));
    }
