-- What is told of a text or a program of a verified one.
use Rattle.cfarm_verify.proofs.Exact.{bundle_wants, program_wants, source_wants}
use Rattle.cfarm_verify.proofs.Small.{ready}
use Rattle.cfarm_library_verify.proofs.verifying.verified.Goals as goal

pub returns-in-Err-clause-only : goal.returns-in-Err-clause-only
returns-in-Err-clause-only c = λ n is.
    source_wants c.args.text.now c.args.program.now c.args.bundle.now n is c.in-Err.fault (c.in-Err.ensures.only is.tree is.accepted)

pub returns-in-Err-read_linear-clause-only : goal.returns-in-Err-read_linear-clause-only
returns-in-Err-read_linear-clause-only c = λ n is.
    program_wants c.args.text.now c.args.program.now c.args.bundle.now n is c.in-Err-read_linear.fault c.in-Err-read_linear.ensures.refused

pub returns-in-Err-read_bundle-clause-only : goal.returns-in-Err-read_bundle-clause-only
returns-in-Err-read_bundle-clause-only c = λ n is.
    bundle_wants c.args.text.now c.args.program.now c.args.bundle.now n is c.in-Err-read_bundle.fault c.in-Err-read_bundle.ensures.refused

pub returns-in-Err-read_linear-clause-refused : goal.returns-in-Err-read_linear-clause-refused
returns-in-Err-read_linear-clause-refused c = (ready c.args.text.now c.in-Ok.source c.in-Ok.ensures.source, c.in-Err-read_linear.ensures.refused)

pub returns-in-Err-read_bundle-clause-refused : goal.returns-in-Err-read_bundle-clause-refused
returns-in-Err-read_bundle-clause-refused c = (
  ready c.args.text.now c.in-Ok.source c.in-Ok.ensures.source,
  (c.in-Ok-read_linear.linear, c.in-Ok-read_linear.ensures.ok),
  c.in-Err-read_bundle.ensures.refused,
)
