-- Why `check` meets its clauses `ok` and `program`, and it may call `new`.
use Rattle.std.proofs.Common.{rules, ◌≡◌, [], map, Some}
use Rattle.std.specs.Prelude.{codes}
use Rattle.std.specs.Option.{option_map}
use Rattle.std.specs.List.{AllByRecursion}
use Rattle.c_checker_scopes.specs.Bound.{found, binding_of}
use Rattle.c_syntax.specs.Heights.{IsLow}
use Rattle.c_syntax.specs.Views.{declaration_tree}
use Rattle.c_program.specs.Views.{function_tree}
use Rattle.c_syntax.specs.Units.{unit_tree}
use Rattle.c_checker_rules.specs.Units.{bodies_of, empty_file, declarations_faults, globals_from, functions_from}
use Rattle.c_checker.proofs.Whole.{well_formed, stands_for}
use Rattle.c_checker.proofs.checking.check.Goals as goal

pub new-requires : goal.new-requires
new-requires c =
    let u = unit_tree c.args.unit.now in
    let bodies = c.in_ok-progress.progress.functions.bodies in
    let same : c.in_ok-progress.progress.functions.bodies ≡ bodies_of (unit_tree c.args.unit.now) = search rules in
    let met : option_map binding_of (found (codes "main") c.in_ok-progress.progress.functions.bodies) ≡ Some c.in-Some.main = search rules in
    let none : declarations_faults c.in_ok-progress.progress.functions.bodies empty_file (map declaration_tree c.args.unit.now.declarations) ≡ [] = search rules in
    let globals : c.in_ok-progress.progress.globals.items ≡ globals_from empty_file (map declaration_tree c.args.unit.now.declarations) = search rules in
    let functions : map function_tree c.in_ok-progress.progress.defined.items ≡ functions_from c.in_ok-progress.progress.functions.bodies empty_file (map declaration_tree c.args.unit.now.declarations) = search rules in
    let low : AllByRecursion IsLow (map declaration_tree c.args.unit.now.declarations) = search rules in
    (u, low, well_formed u bodies same c.in-Some.main met none, stands_for u bodies same c.in-Some.main met _ _ globals functions)

pub returns-in-Some-clause-ok : goal.returns-in-Some-clause-ok
returns-in-Some-clause-ok c =
    let u = unit_tree c.args.unit.now in
    let bodies = c.in_ok-progress.progress.functions.bodies in
    let same : c.in_ok-progress.progress.functions.bodies ≡ bodies_of (unit_tree c.args.unit.now) = search rules in
    let met : option_map binding_of (found (codes "main") c.in_ok-progress.progress.functions.bodies) ≡ Some c.in-Some.main = search rules in
    let none : declarations_faults c.in_ok-progress.progress.functions.bodies empty_file (map declaration_tree c.args.unit.now.declarations) ≡ [] = search rules in
    well_formed u bodies same c.in-Some.main met none

pub returns-in-Some-clause-program : goal.returns-in-Some-clause-program
returns-in-Some-clause-program c =
    let u = unit_tree c.args.unit.now in
    let bodies = c.in_ok-progress.progress.functions.bodies in
    let same : c.in_ok-progress.progress.functions.bodies ≡ bodies_of (unit_tree c.args.unit.now) = search rules in
    let met : option_map binding_of (found (codes "main") c.in_ok-progress.progress.functions.bodies) ≡ Some c.in-Some.main = search rules in
    let globals : c.in_ok-progress.progress.globals.items ≡ globals_from empty_file (map declaration_tree c.args.unit.now.declarations) = search rules in
    let functions : map function_tree c.in_ok-progress.progress.defined.items ≡ functions_from c.in_ok-progress.progress.functions.bodies empty_file (map declaration_tree c.args.unit.now.declarations) = search rules in
    rw c.new.ensures (stands_for u bodies same c.in-Some.main met _ _ globals functions)
