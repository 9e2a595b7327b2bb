-- Why `open_disks` meets its contract, and its loop over `node` keeps the invariant.
use Rattle.std.proofs.Common.{[], length, ap, refl, sym, subst, arith}
use Rattle.std.proofs.lemmas.List.{length_push}
use Rattle.cfarm_build_folder.specs.Disks.{AreSome, IsJournal, IsOfNode, IsRefusedOf}
use Rattle.cfarm_build_folder.proofs.Making.{makes_keeps, makes_none, makes_through, of_node}
use Rattle.cfarm_build_folder.proofs.Given.{none_given, one_more}
use Rattle.cfarm_build_folder.proofs.Ordered.{closes_again, opens_more}
use Rattle.cfarm_build_folder.specs.Used.{openings}
use Rattle.cfarm_files.specs.Using.{Uses}
use Rattle.cfarm_files.proofs.Uses.{uses_none}
use Rattle.cfarm_build_folder.proofs.opening.open_disks.Goals as goal

-- no disk is opened
pub returns-in_default-clause-refused : goal.returns-in_default-clause-refused
returns-in_default-clause-refused g c = record {
  given = [];
  some = none_given (g.F.Files.may_give c.args.files.now) c.args.paths.now.folder.now;
  below = c.args.paths.now.some;
  refused = tt;
  closed = uses_none (g.F.Files.used c.args.files.now);
}

pub loop-node-init : goal.loop-node-init
loop-node-init g c =
    let used = g.F.Files.used c.args.files.now in
    let folder = c.args.paths.now.folder.now in
    let may_give = g.F.Files.may_give c.args.files.now in
    let none = sym c.in-Ok.ensures.items in
    record {
      count = ap length c.in-Ok.ensures.items;
      capacity = c.in-Ok.ensures.capacity;
      some = subst (λ xs. AreSome may_give folder xs) none (none_given may_give folder);
      opened = subst (λ xs. Uses used used (openings folder xs)) none (uses_none used);
      made = makes_none (IsJournal folder) (g.F.Files.placed c.args.files.now);
      others = λ path old_path disk is. is;
    }

-- one more is given
pub loop-node-preserved : goal.loop-node-preserved
loop-node-preserved g c =
    let may_give = g.F.Files.may_give c.args.files.now in
    let folder = c.args.paths.now.folder.now in
    let i = c.loop-node.invariant in
    let disks = c.loop-node.disks.items in
    let disk = c.in-Ok-open.disk in
    let more_is = c.in-Ok-push.ensures.items in
    record {
      count = omega (arith, ap length more_is, length_push disks disk, i.count);
      capacity = omega (arith, i.capacity, c.in-Ok-push.ensures.capacity);
      some = subst (λ xs. AreSome may_give folder xs) (sym more_is)
          (one_more may_give folder disks disk i.some
          (subst (λ n. IsOfNode may_give folder n disk) (sym i.count)
          (i.others _ _ disk c.in-Ok-open.ensures.given)));
      opened = opens_more folder _ _ _ disks _ disk c.loop-node.node more_is (sym i.count) i.opened c.in-Ok-open.ensures.opens;
      made = makes_through (IsJournal folder) _ _ _ i.made (of_node folder c.loop-node.node _ _ c.in-Ok-open.ensures.made);
      others = λ path old_path d is. i.others path old_path d (c.in-Ok-open.ensures.others path old_path d is);
    }

-- that of the next node is refused, and those before it are closed
pub returns-in-Err-clause-refused : goal.returns-in-Err-clause-refused
returns-in-Err-clause-refused g c =
    let folder = c.args.paths.now.folder.now in
    let i = c.loop-node.invariant in
    let disks = c.loop-node.disks.items in
    record {
      given = disks;
      some = i.some;
      below = omega (arith, i.count, c.loop-node-test.true);
      refused = subst (λ n. IsRefusedOf folder n c.in-Err.fault) (sym i.count) c.in-Err.ensures.refused;
      closed = closes_again folder _ _ _ _ disks i.opened c.in-Err.ensures.opens c.close_disks.ensures.closes;
    }

pub returns-in-Err-clause-made : goal.returns-in-Err-clause-made
returns-in-Err-clause-made g c =
    let folder = c.args.paths.now.folder.now in
    makes_keeps (IsJournal folder) _ _ _
    (makes_through (IsJournal folder) _ _ _ c.loop-node.invariant.made (of_node folder c.loop-node.node _ _ c.in-Err.ensures.made))
    c.close_disks.ensures.kept

pub returns-in-Err-clause-others : goal.returns-in-Err-clause-others
returns-in-Err-clause-others g c path old_path disk is =
    c.loop-node.invariant.others path old_path disk (c.in-Err.ensures.others path old_path disk (c.close_disks.ensures.others path old_path disk is))
