-- Why `links_again` meets its contract.
use Rattle.rtl_language.specs.contracts.language.RtlLanguage.TheImpl as rtl_language
use Rattle.ltl.specs.contracts.language.LtlLanguage.TheImpl as ltl_language
use Rattle.linear_language.specs.contracts.language.LinearLanguage.TheImpl as linear_language
use Rattle.constprop_check.specs.contracts.pass.ConstPropPass.TheImpl as constants
use Rattle.cse_check.specs.contracts.pass.CsePass.TheImpl as expressions
use Rattle.alloc_check.specs.contracts.pass.AllocPass.TheImpl as allocation
use Rattle.linearize_check.specs.contracts.pass.LinearizePass.TheImpl as order
use Rattle.cfarm_build_crash.proofs.Linking.{build_links_again}
use Rattle.cfarm_build_crash.proofs.Offers.{told_apart}
use Rattle.cfarm_build_crash.proofs.law.links_again.Goals as goal

pub returns : goal.returns
returns g c =
    build_links_again g.D.Disk g.D.Pair g.H.Naming c.args.quorums c.nodes-count.ensures.sizes g.met.D.Pair.honest_spent g.met.D.Pair.new_is_left
    (record {
      constants = told_apart rtl_language.ghosts rtl_language.ghosts constants.ghosts c.one_text.ensures;
      expressions = told_apart rtl_language.ghosts rtl_language.ghosts expressions.ghosts c.one_text-2.ensures;
      allocation = told_apart rtl_language.ghosts ltl_language.ghosts allocation.ghosts c.one_text-3.ensures;
      order = told_apart ltl_language.ghosts linear_language.ghosts order.ghosts c.one_text-4.ensures;
    })
    c.args.source.now c.args.given.now c.args.back.now c.args.built.now c.args.left.now c.args.later.now
