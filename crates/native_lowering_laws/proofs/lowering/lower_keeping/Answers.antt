-- Why `lower_keeping` meets its contract.
use Rattle.std.proofs.Common.{◌≡◌, sym, subst}
use Rattle.std.proofs.lemmas.Result.{IfOk-weaker}
use Rattle.native_lowering_definition.specs.Lowering.{lowered}
use Rattle.native_lowering_laws.specs.Laws.{StaysSafe}
use Rattle.native_lowering_laws.proofs.InRange.{stays_safe}
use Rattle.native_lowering_laws.proofs.lowering.lower_keeping.Goals as goal

pub returns-clause-safe : goal.returns-clause-safe
returns-clause-safe c =
    let p = c.args.program.now in
    IfOk-weaker c.lower.result (λ native. native ≡ lowered p) (StaysSafe p) (λ native same. subst (StaysSafe p) (sym same) (stays_safe p)) c.lower.ensures
