-- What was read of pass 1, and what is told of it.
use Rattle.std.proofs.Common.{sym, subst}
use Rattle.bundle_offers.specs.declared.fault.PassNumber.TheVariants.{First}
use Rattle.cfarm_judge.specs.Passes.{AcceptsAt, FitsAt, IsNotPassedAt, text_at, WantedAt, WhyRefusedAt}
use Rattle.cfarm_judge.proofs.Passing.{not_passed}
use Rattle.cfarm_judge.proofs.judging.passed_first.Goals as goal

pub returns-in-Err-clause-refused : goal.returns-in-Err-clause-refused
returns-in-Err-clause-refused c = λ memory. record {
  none = c.in-Err.ensures.refused memory;
  behind = λ parts first rest fits e. c.in-Err.ensures.behind parts first rest fits e memory;
}

pub returns-in-Ok-stands-clause-passed : goal.returns-in-Ok-stands-clause-passed
returns-in-Ok-stands-clause-passed c = record {
  parts = c.in-Ok.parts;
  spelled = record { fits = c.in-Ok.ensures.fits; text = c.in-Ok.ensures.spelled; only = c.in-Ok.ensures.only };
  wanted = c.in-Ok-stands.ensures.chained;
  accepted = c.in-Ok-stands.ensures.accepted;
}

pub returns-clause-refused : goal.returns-clause-refused
returns-clause-refused c =
    let f = c.args.function.now in
    let told = not_passed (FitsAt First) (text_at First) (WantedAt f First) (AcceptsAt First) c.args.bytes.now (WhyRefusedAt First) First c.in-Ok.parts c.in-Err-stands.fault
    (record { fits = c.in-Ok.ensures.fits; text = c.in-Ok.ensures.spelled; only = c.in-Ok.ensures.only }) c.in-Err-stands.ensures.refused in
    subst (λ e. IsNotPassedAt f c.args.bytes.now First e) (sym c.told.ensures) told
