-- Why `run_bytes` meets its clauses `does`, `cause` and `stopped`.
use Rattle.std.specs.Prelude.{false, [], codes}
use Rattle.std.proofs.Common.{refl, inl, inr, sym, subst, ◌∙◌}
use Rattle.cfarm_explain.specs.Bounds.{limit_text}
use Rattle.cfarm_run.specs.Closings.{closing_line}
use Rattle.cfarm_run.specs.ExecLines.{exec_line}
use Rattle.cfarm_program_runs.specs.Explained.{is_asked}
use Rattle.cfarm_program_runs.specs.Outcomes.{closed_where, exec_fault}
use Rattle.cfarm_program_runs.specs.Saying.{IsBehindLinked, IsBehindStopped, IsLinkedTold, IsStoppedTold}
use Rattle.cfarm_program_status.proofs.Answering.{among, never_amid}
use Rattle.cfarm_program_runs.proofs.Asked.{unseen_where_unasked}
use Rattle.cfarm_program_runs.proofs.Causes.{refused_never, running_where, stopped_told, unstopped_told}
use Rattle.cfarm_program_runs.proofs.Linked.{linked_told, refused_never_wrong, unlinked_told}
use Rattle.cfarm_program_runs.proofs.doing.run_bytes.Goals as goal

pub returns-in-Ok-clause-does : goal.returns-in-Ok-clause-does
returns-in-Ok-clause-does g c =
    let shown = c.in-Ok.shown in
    let asked = c.is_asked-is_explained.ensures in (
      closed_where c.args.expected shown,
      inl (shown, c.in-Ok.ensures.ran, refl),
      among (is_asked c.args.is_seen c.args.explaining) _ _ _ _ (closing_line shown) _ _ _ c.status_where.ensures
          (λ unseen. never_amid c.args.is_seen _ _ c.is_amid-front.ensures (unseen_where_unasked c.args.is_seen c.args.explaining unseen))
          (λ unseen. c.as_str.ensures.value ∙ c.behind_exec-behind.ensures.unseen (asked ∙ unseen))
          (c.tell_among.ensures.told (closing_line shown) refl),
    )

pub returns-in-Err-clause-does : goal.returns-in-Err-clause-does
returns-in-Err-clause-does g c =
    let fault = c.in-Err.fault in (
      exec_fault fault,
      inr (fault, c.in-Err.ensures.refused, c.in-Err.ensures.beginning, refl),
      among (is_asked c.args.is_seen c.args.explaining) false (codes "") _ _ (exec_line fault) _ _ _ c.status.ensures
          (λ unseen. refl) (λ unseen. refl) (c.tell_among-in-Err.ensures.told (exec_line fault) refl),
    )

pub returns-in-Ok-clause-stopped : goal.returns-in-Ok-clause-stopped
returns-in-Ok-clause-stopped g c =
    let shown = c.in-Ok.shown in
    let asked = c.is_asked-is_explained.result in
    let told = stopped_told asked (limit_text c.args.limit) _ c.as_str.result.now _ _ _ _ shown
    (λ six. running_where shown c.args.expected (sym c.status_where.ensures ∙ six))
    (λ running. subst (λ b. IsBehindStopped asked (limit_text c.args.limit) b) (sym c.as_str.ensures.value) (c.behind_exec-behind.ensures.stopped running))
    (c.tell_among.ensures.told (closing_line shown) refl) in
    subst (λ b. IsStoppedTold b (limit_text c.args.limit) c.tell_among.result (g.E.ErrorLines.contents c.args.err.now) (g.E.ErrorLines.contents c.tell_among.new.err))
    c.is_asked-is_explained.ensures told

pub returns-in-Err-clause-stopped : goal.returns-in-Err-clause-stopped
returns-in-Err-clause-stopped g c =
    let line = exec_line c.in-Err.fault in
    unstopped_told (is_asked c.args.is_seen c.args.explaining) (limit_text c.args.limit) [] [] line _ _ _ _
    (λ six. refused_never c.in-Err.fault (sym c.status.ensures ∙ six))
    (c.tell_among-in-Err.ensures.told line refl)

pub returns-in-Ok-clause-cause : goal.returns-in-Ok-clause-cause
returns-in-Ok-clause-cause g c =
    let shown = c.in-Ok.shown in
    let asked = c.is_asked-is_explained.result in
    let told = linked_told asked c.args.path.now c.args.bytes.now c.args.limit _ c.as_str.result.now _ _ _ _ shown
    (λ wrong. subst (λ b. IsBehindLinked asked c.args.path.now c.args.bytes.now c.args.limit b) (sym c.as_str.ensures.value) (c.behind_exec-behind.ensures.wrong wrong))
    (c.tell_among.ensures.told (closing_line shown) refl) in
    subst (λ b. IsLinkedTold b c.args.path.now c.args.bytes.now c.args.limit c.tell_among.result (g.E.ErrorLines.contents c.args.err.now) (g.E.ErrorLines.contents c.tell_among.new.err))
    c.is_asked-is_explained.ensures told

pub returns-in-Err-clause-cause : goal.returns-in-Err-clause-cause
returns-in-Err-clause-cause g c =
    let line = exec_line c.in-Err.fault in
    unlinked_told (is_asked c.args.is_seen c.args.explaining) c.args.path.now c.args.bytes.now c.args.limit [] [] _ _ _ _ line
    (λ five. refused_never_wrong c.in-Err.fault (sym c.status.ensures ∙ five))
    (c.tell_among-in-Err.ensures.told line refl)
