-- Why `lowered_program_fits` meets its clauses `exact` and `fits`.
use Rattle.std.proofs.Common.{◌↔◌, ◌<◌, ◌^◌, All, IsTrue, sym, subst}
use Rattle.std.specs.List.{AllByRecursion}
use Rattle.c_checker_rules.specs.Checked.{program_tree}
use Rattle.c_lexer_lexemes.specs.Lexemes.{IsName}
use Rattle.cminor_syntax.specs.Fits.{IsFunction}
use Rattle.cminor_lowering.specs.Programs.{low}
use Rattle.lang.specs.Form.{IsProgram}
use Rattle.cminor_program_ranges.specs.Names.{HaveNames}
use Rattle.cminor_program_ranges.proofs.Programs.{program_in_range}
use Rattle.cminor_program_ranges.proofs.Rows.{by_recursion, names_of, each_name}
use Rattle.cminor_program_ranges.proofs.fitting.lowered_program_fits.Goals as goal

pub returns-clause-exact : goal.returns-clause-exact
returns-clause-exact c =
    let fs = c.args.program.now.functions in
    let names = subst (λ xs. IsTrue c.have_names.result ↔ All (λ f. IsName f.name) xs) c.functions.ensures c.have_names.ensures in
    ((λ t. names_of fs (names.0 t)), (λ named. names.1 (each_name fs named)))

pub returns-clause-fits : goal.returns-clause-fits
returns-clause-fits c t =
    let k = c.known.ensures in
    let p = program_tree c.args.program.now in
    let names = subst (λ xs. IsTrue c.have_names.result ↔ All (λ f. IsName f.name) xs) c.functions.ensures c.have_names.ensures in
    let named : HaveNames p = names_of c.args.program.now.functions (names.0 t) in
    let words = subst (λ xs. All (λ g. AllByRecursion (λ w. w < 2 ^ 32) g.first_words) xs) c.globals.ensures c.globals_words.ensures in
    let each_word : AllByRecursion (λ g. AllByRecursion (λ w. w < 2 ^ 32) g.first_words) p.globals = by_recursion _ c.args.program.now.globals words in
    let fit = subst (λ q. AllByRecursion (λ f. IsFunction f.function) (low q).functions) k.3 c.lowered_fits.ensures.fits in
    subst (λ q. IsProgram IsFunction (low q)) (sym k.3)
    (program_in_range k.0 k.1 k.2 fit (subst HaveNames k.3 named)
    (subst (λ q. AllByRecursion (λ g. AllByRecursion (λ w. w < 2 ^ 32) g.first_words) q.globals) k.3 each_word))
