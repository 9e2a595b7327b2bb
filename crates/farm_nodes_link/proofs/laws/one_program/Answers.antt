-- Why `one_program` meets its clauses `now` and `one`.
use Rattle.c_checker_rules.specs.Checked.{program_tree}
use Rattle.cminor_lowering.specs.Programs.{low}
use Rattle.rtlgen_definition.specs.Gen.{gen}
use Rattle.farm_nodes_link.proofs.Alike.{counted_now, link_one}
use Rattle.farm_nodes_link.proofs.laws.one_program.Goals as goal

pub returns-clause-now : goal.returns-clause-now
returns-clause-now g c = counted_now c.args.first.now.seats.items c.args.second.now.seats.items

pub returns-clause-one : goal.returns-clause-one
returns-clause-one g c = link_one (gen (low (program_tree c.args.program.now))) c.args.first.now.seats.items c.args.second.now.seats.items
