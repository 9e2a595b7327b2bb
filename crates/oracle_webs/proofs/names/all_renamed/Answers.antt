-- Why the loop of `all_renamed` over `n` keeps the invariant.
use Rattle.std.proofs.Common.{sym, subst, arith}
use Rattle.std.proofs.lemmas.List.{length_push}
use Rattle.std.proofs.lemmas.List.Elements.{All-push}
use Rattle.rtl_language.specs.Function.{InstructionFits}
use Rattle.oracle_webs.proofs.names.all_renamed.Goals as goal

pub loop-n-preserved : goal.loop-n-preserved
loop-n-preserved c =
    rw c.in_ok-push.ensures.items (record {
      count = omega (arith, length_push c.loop-n.made.items c.in_ok-renamed.field-0, c.loop-n.invariant.count);
      fit = λ registers count fits. All-push (InstructionFits 65536 count) c.loop-n.made.items c.in_ok-renamed.field-0 (c.loop-n.invariant.fit registers count fits)
          (c.in_ok-renamed.ensures registers count (subst (InstructionFits registers count) (sym c.index-nodes-n.is) (fits c.loop-n.n c.index-nodes-n.result c.loop-n-test.true)));
    })
