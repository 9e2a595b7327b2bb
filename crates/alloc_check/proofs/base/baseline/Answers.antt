use Rattle.alloc_check.proofs.base.baseline.Goals as goal

pub returns-clause-live : goal.returns-clause-live
returns-clause-live c =
    let kept = c.in_ok-beside.ensures.ok in
    rw kept.1 at c.live_equations-equations.ensures.live

pub returns-clause-accepted : goal.returns-clause-accepted
returns-clause-accepted c =
    let kept = c.in_ok-beside.ensures.ok in
    rw (kept.0, c.in_ok-output.ensures) (rw kept.1 at c.live_equations-equations.ensures.accepted)
