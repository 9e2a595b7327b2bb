-- Why `linked_by_both` meets its clauses `one` and `decided`.
use Rattle.std.proofs.Common.{sym, ◌∙◌, ap}
use Rattle.c_checker_rules.specs.Checked.{program_tree}
use Rattle.cminor_lowering.specs.Programs.{low}
use Rattle.rtlgen_definition.specs.Gen.{gen}
use Rattle.farm_nodes_link.specs.Offered.{linked_offers}
use Rattle.farm_nodes_link.proofs.Alike.{none_undecided, one_learned}
use Rattle.farm_nodes.proofs.One.{one_program}
use Rattle.farm_nodes.proofs.laws.linked_by_both.Goals as goal

pub returns-clause-one : goal.returns-clause-one
returns-clause-one g c = λ text is. one_program text c.args.source.now is c.args.first.now.seats.items c.args.second.now.seats.items c.requires
    c.linked.result c.linked.ensures.ok c.linked.ensures.keeps c.linked.ensures.spelled

pub returns-clause-decided : goal.returns-clause-decided
returns-clause-decided g c = λ undecided. none_undecided c.args.first.now.seats.items c.args.second.now.seats.items c.requires (c.linked.ensures.undecided.0 undecided)
