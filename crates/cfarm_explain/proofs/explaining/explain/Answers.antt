-- Why `explain` meets its clauses `told` and `refused`.
use Rattle.std.proofs.Common.{ap, map, refl, subst}
use Rattle.std.proofs.lemmas.Result.{err_from_is_err_and}
use Rattle.c_syntax.specs.Declarations.{IsUnit}
use Rattle.c_syntax.specs.Units.{unit_tree}
use Rattle.c_syntax.specs.Views.{declaration_tree}
use Rattle.c_checker_rules.specs.Checked.{program_tree}
use Rattle.c_checker_rules.specs.Units.{program_of}
use Rattle.cfarm_explain.proofs.Telling.{told_as}
use Rattle.cfarm_explain.proofs.explaining.explain.Goals as goal

pub returns-in_err-program-clause-refused : goal.returns-in_err-program-clause-refused
returns-in_err-program-clause-refused c =
    let p = err_from_is_err_and c.from_residual-in_err-program.result c.from_residual-in_err-program.ensures.1 in
    let tree = unit_tree c.in_ok-unit.unit in
    rw (p.1, p.2) (record {
      tokens = c.in_ok-tokens.tokens.items;
      tree = tree;
      cut = c.in_ok-tokens.ensures.ok;
      spelled = subst (IsUnit tree) c.as_slice.ensures.value c.in_ok-unit.ensures.ok;
      low = c.in_ok-unit.ensures.low;
      told = c.in_err-program.ensures.err;
    })

pub returns-in-Ok-clause-told : goal.returns-in-Ok-clause-told
returns-in-Ok-clause-told c =
    let tree = unit_tree c.in_ok-unit.unit in
    let tokens = c.in_ok-tokens.tokens.items in (
      tree,
      record {
        tokens = tokens;
        cut = c.in_ok-tokens.ensures.ok;
        spelled = subst (IsUnit tree) c.as_slice.ensures.value c.in_ok-unit.ensures.ok;
        low = c.in_ok-unit.ensures.low;
        well_formed = c.in_ok-program.ensures.ok;
      },
      told_as c.args.path.now c.args.text.now c.as_slice-2.result.now tokens (map declaration_tree c.declarations.result.now) tree.declarations
          (program_tree c.in_ok-program.program) (program_of tree) c.args.depth _ c.as_slice-2.ensures.value
          (ap (map declaration_tree) c.declarations.ensures.items) c.in_ok-program.ensures.program c.in-Ok.ensures,
    )

pub returns-clause-refused : goal.returns-clause-refused
returns-clause-refused c =
    let tree = unit_tree c.in_ok-unit.unit in
    record {
      tokens = c.in_ok-tokens.tokens.items;
      tree = tree;
      cut = c.in_ok-tokens.ensures.ok;
      spelled = subst (IsUnit tree) c.as_slice.ensures.value c.in_ok-unit.ensures.ok;
      low = c.in_ok-unit.ensures.low;
      told = λ other. absurd (other refl);
    }
