-- The node's program is the translation of the C program.
use Rattle.std.proofs.Common.{sym, ap, subst, ◌∙◌}
use Rattle.lang_base.specs.Keeps.{Keeps}
use Rattle.rtl_language.specs.Meaning as rtl
use Rattle.linear_language.specs.Meaning as linear
use Rattle.c_checker_rules.specs.Checked.{program_tree}
use Rattle.cminor_lowering.specs.Programs.{low}
use Rattle.linker.specs.Chains.{names_of}
use Rattle.farm_nodes_link.specs.Learned.{learned_by}
use Rattle.farm_nodes_link.specs.Offered.{linked_offers, AllGoOn}
use Rattle.farm_nodes_link.specs.Refused.{IsRefusedTo}
use Rattle.farm_nodes_link.proofs.Lists.{names_translated}
use Rattle.farm_nodes_link.proofs.translated.linked_translated.Goals as goal

pub returns-in-Ok-clause-ok : goal.returns-in-Ok-clause-ok
returns-in-Ok-clause-ok g c = c.in-Ok.ensures.ok ∙ ap (λ p. linked_offers p (learned_by c.args.node.now.seats.items)) c.requires

pub returns-in-Ok-clause-chained : goal.returns-in-Ok-clause-chained
returns-in-Ok-clause-chained g c =
    subst (λ p. AllGoOn p.functions (learned_by c.args.node.now.seats.items)) c.requires c.in-Ok.ensures.chained

pub returns-in-Ok-clause-same_names : goal.returns-in-Ok-clause-same_names
returns-in-Ok-clause-same_names g c =
    c.in-Ok.ensures.same_names ∙ ap (λ p. names_of p.functions) c.requires ∙ names_translated (low (program_tree c.args.program.now)).functions

pub returns-in-Ok-clause-keeps : goal.returns-in-Ok-clause-keeps
returns-in-Ok-clause-keeps g c =
    c.keeps_composes.ensures _ _ _ c.translation_keeps.ensures
    (subst (λ p. Keeps (rtl.run p) (linear.run c.in-Ok.made)) c.requires c.in-Ok.ensures.keeps)

pub returns-in-Ok-clause-spelled : goal.returns-in-Ok-clause-spelled
returns-in-Ok-clause-spelled g c = λ names.
    c.same_head_fits.ensures (record {
      globals = ap (λ p. p.globals) c.in-Ok.ensures.ok ∙ ap (λ p. p.globals) c.requires;
      names = c.in-Ok.ensures.same_names ∙ ap (λ p. names_of p.functions) c.requires ∙ names_translated (low (program_tree c.args.program.now)).functions;
    }) names

pub returns-in-Err-clause-refused : goal.returns-in-Err-clause-refused
returns-in-Err-clause-refused g c =
    subst (λ p. IsRefusedTo p (learned_by c.args.node.now.seats.items) c.in-Err.fault) c.requires c.in-Err.ensures.refused

pub returns-in-Err-clause-whole : goal.returns-in-Err-clause-whole
returns-in-Err-clause-whole g c = λ all.
    c.in-Err.ensures.whole (subst (λ p. AllGoOn p.functions (learned_by c.args.node.now.seats.items)) (sym c.requires) all)
