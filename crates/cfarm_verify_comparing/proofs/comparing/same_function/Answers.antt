-- Why `same_function` meets its contract.
use Rattle.std.proofs.Common.{◌≡◌, true, sym, subst}
use Rattle.linear_language.specs.Equal.{function_tells, same_function, same_laws}
use Rattle.cfarm_verify_comparing.proofs.comparing.same_function.Goals as goal

pub returns : goal.returns
returns c =
    let function = c.args.function.now in
    let other = c.args.other.now in
    rw c.eq.ensures (λ yes. sym (function_tells function other yes), λ e. subst (λ f. same_function function f ≡ true) (sym e) (same_laws.refl function))
