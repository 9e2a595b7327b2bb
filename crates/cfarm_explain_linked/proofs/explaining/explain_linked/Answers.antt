-- Why `explain_linked` meets its contract where the run goes wrong.
use Rattle.std.proofs.Common.{◌≡◌, ◌++◌, Some, sym, ap, ◌∙◌}
use Rattle.std.specs.Option.{option_map}
use Rattle.linear_faults.specs.Faults.{fault_of}
use Rattle.cfarm_explain_linked.specs.Lines.{fault_text}
use Rattle.cfarm_explain_linked.proofs.explaining.explain_linked.Goals as goal

pub returns-in_ok-push_fault-in-Some : goal.returns-in_ok-push_fault-in-Some
returns-in_ok-push_fault-in-Some c =
    let path = c.args.path.now in
    let p = c.args.program.now in
    let fault = c.in-Some.fault in
    let found : fault_of p c.args.limit ≡ Some fault = sym c.in_ok-find_fault.ensures ∙ c.in-Some.is in
    let lines : c.from_vec.result ≡ fault_text path p fault =
    c.from_vec.ensures ∙ c.in_ok-push_fault-in-Some.ensures ∙ ap (λ l. l ++ fault_text path p fault) c.new-out.ensures.items in
    ap Some lines ∙ sym (ap (option_map (fault_text path p)) found)
