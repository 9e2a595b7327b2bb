-- Why `told_of` meets its contract where the run goes wrong.
use Rattle.std.proofs.Common.{◌≡◌, ◌++◌, Some, map, sym, ap, ◌∙◌}
use Rattle.std.specs.Option.{option_map}
use Rattle.c_syntax.specs.Views.{declaration_tree}
use Rattle.c_program.specs.Views.{function_tree}
use Rattle.c_checker_rules.specs.Checked.{program_tree}
use Rattle.c_faults.specs.Faults.{fault_of}
use Rattle.c_faults_places.specs.Table.{places_of}
use Rattle.cfarm_explain.specs.Lines.{all_lines, fault_text}
use Rattle.cfarm_explain.proofs.explaining.told_of.Goals as goal

pub returns : goal.returns
returns c =
    let p = program_tree c.args.program.now in
    let ds = map declaration_tree c.args.declarations.now in
    let functions = ap (map function_tree) c.functions-functions.ensures in
    let places = c.deref.ensures.value ∙ c.in_ok-places.ensures ∙ ap (λ l. places_of ds l c.args.tokens.now) functions in
    let found : fault_of (places_of ds p.functions c.args.tokens.now) p c.args.depth ≡ Some c.in-Some.fault =
    ap (λ l. fault_of l p c.args.depth) (sym places) ∙ sym c.in_ok-fault.ensures ∙ c.in-Some.is in
    let lines : c.from_vec.result ≡ fault_text c.args.path.now c.args.text.now p.globals p.functions c.in-Some.fault =
    c.from_vec.ensures ∙ c.in_ok-push_fault-in-Some.ensures
    ∙ ap (λ l. l ++ all_lines c.args.path.now c.args.text.now c.globals-globals.result.now c.functions-functions.result.now c.in-Some.fault) c.new-out.ensures.items
    ∙ (λ i. fault_text c.args.path.now c.args.text.now (c.globals-globals.ensures i) (functions i) c.in-Some.fault) in
    ap Some lines ∙ sym (ap (option_map (fault_text c.args.path.now c.args.text.now p.globals p.functions)) found)
