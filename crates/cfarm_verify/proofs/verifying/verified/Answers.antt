-- What is told of a text or a program of a verified one.
use Rattle.std.proofs.Common.{◌≢◌, subst}
use Rattle.std.specs.Prelude.{IfErr, IfOk}
use Rattle.lang_base.specs.declared.errors.FormError.TheVariants as form
use Rattle.bundle_reading.specs.Texts.{HasNoBundle}
use Rattle.farm_nodes_source.specs.Refused.{IsOnlyTooLarge}
use Rattle.cfarm_verify_reading.specs.Found.{IsSourceOf}
use Rattle.cfarm_verify_reading.specs.Spelled.{IsNoProgram, IsSpelled}
use Rattle.cfarm_verify.proofs.Exact.{program_wants, source_wants}
use Rattle.cfarm_verify.proofs.Small.{ready}
use Rattle.cfarm_verify.proofs.verifying.verified.Goals as goal

pub returns-in-Err-clause-only : goal.returns-in-Err-clause-only
returns-in-Err-clause-only g c = λ n is.
    source_wants c.args.text.now c.args.program.now c.args.bundle.now n is c.in-Err.fault
    (subst (λ r. IfErr r (IsOnlyTooLarge is.tree)) c.in-Err.is (c.requires.prepared.only is.tree is.accepted))

pub returns-in-Err-linear-clause-only : goal.returns-in-Err-linear-clause-only
returns-in-Err-linear-clause-only g c = λ n is.
    program_wants c.args.text.now c.args.program.now c.args.bundle.now n is c.in-Err-linear.fault
    (subst (λ r. IfErr r (λ fault. fault ≢ form.NoMemory → IsNoProgram c.args.program.now)) c.in-Err-linear.is c.requires.forms.no_program)

pub returns-in-Err-linear-clause-refused : goal.returns-in-Err-linear-clause-refused
returns-in-Err-linear-clause-refused g c =
    let program = c.args.program.now in
    let source = subst (λ r. IfOk r (IsSourceOf c.args.text.now)) c.in-Ok.is c.requires.prepared.source in (
      ready c.args.text.now c.in-Ok.source source,
      subst (λ r. IfErr r (λ fault. fault ≢ form.NoMemory → IsNoProgram program)) c.in-Err-linear.is c.requires.forms.no_program,
    )

pub returns-in-Err-found-clause-refused : goal.returns-in-Err-found-clause-refused
returns-in-Err-found-clause-refused g c =
    let program = c.args.program.now in
    let source = subst (λ r. IfOk r (IsSourceOf c.args.text.now)) c.in-Ok.is c.requires.prepared.source in
    let linear = subst (λ r. IfOk r (IsSpelled program)) c.in-Ok-linear.is c.requires.forms.spelled in (
      ready c.args.text.now c.in-Ok.source source,
      (c.in-Ok-linear.linear, linear),
      subst (λ r. IfErr r (λ fault. fault ≢ form.NoMemory → HasNoBundle c.args.bundle.now)) c.in-Err-found.is c.requires.forms.no_bundle,
    )
