-- Why `of` keeps the invariant of its loop over `node`.
use Rattle.std.proofs.Common.{length, ap, sym, subst, arith}
use Rattle.std.proofs.lemmas.List.{length_push}
use Rattle.cfarm_build_folder.specs.Named.{AreNamed, ArePathsOf}
use Rattle.cfarm_build_folder.proofs.Given.{one_named}
use Rattle.cfarm_build_folder.proofs.paths.JournalPaths.of.Goals as goal

pub loop-node-preserved : goal.loop-node-preserved
loop-node-preserved c =
    let folder = c.args.options.folder.now in
    let i = c.loop-node.invariant in
    let nodes = c.loop-node.nodes.items in
    let paths = c.in-Some.paths in
    let more_is = c.in-Ok.ensures.items in
    record {
      count = omega (arith, ap length more_is, length_push nodes paths, i.count);
      named = subst (λ l. AreNamed folder l) (sym more_is)
          (one_named folder nodes paths i.named (subst (λ n. ArePathsOf folder n paths) (sym i.count) c.in-Some.ensures));
    }
