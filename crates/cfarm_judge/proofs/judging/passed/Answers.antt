-- What was read, and what is told of it.
use Rattle.std.proofs.Common.{sym, subst}
use Rattle.lang_base.specs.declared.fault.Fault.{Fault}
use Rattle.offers.specs.Text.{text_of, PartsFit}
use Rattle.cfarm_judge.specs.Passing.{IsNotPassedBy}
use Rattle.cfarm_judge.proofs.Passing.{fails_of_any, not_passed}
use Rattle.cfarm_judge.proofs.judging.passed.Goals as goal

pub returns-in-Err-clause-refused : goal.returns-in-Err-clause-refused
returns-in-Err-clause-refused g c = λ memory. record {
  none = c.in-Err.ensures.refused memory;
  behind = λ parts first rest fits e. c.in-Err.ensures.behind parts first rest fits e memory;
}

pub returns-in-Ok-stands-clause-passed : goal.returns-in-Ok-stands-clause-passed
returns-in-Ok-stands-clause-passed g c = record {
  parts = c.in-Ok.parts;
  spelled = record { fits = c.in-Ok.ensures.fits; text = c.in-Ok.ensures.spelled; only = c.in-Ok.ensures.only };
  wanted = tt;
  accepted = c.in-Ok-stands.ensures.accepted;
}

pub returns-clause-refused : goal.returns-clause-refused
returns-clause-refused g c =
    let parts = c.in-Ok.parts in
    let fails = fails_of_any c.args.at parts.input (g.P.Pass.accepts parts.input parts.output parts.certificate) (λ fault. g.S.Reasons.tells parts.input parts.output parts.certificate fault)
    c.in-Err-stands.fault c.in-Err-stands.ensures.refused in
    let told = not_passed (PartsFit g.P.In.Language.fits g.P.Out.Language.fits g.P.Pass.cert_fits) (text_of g.P.In.Language g.P.Out.Language g.P.Pass) (λ p. Unit {0})
    (λ p. g.P.Pass.accepts p.input p.output p.certificate) c.args.bytes.now (λ p fault. g.S.Reasons.tells p.input p.output p.certificate fault)
    c.args.at parts c.in-Err-stands.fault
    (record { fits = c.in-Ok.ensures.fits; text = c.in-Ok.ensures.spelled; only = c.in-Ok.ensures.only }) fails in
    subst (λ e. IsNotPassedBy g.P.In.Language g.P.Out.Language g.P.Pass g.S.Reasons.tells c.args.at c.args.bytes.now e) (sym c.told.ensures) told
