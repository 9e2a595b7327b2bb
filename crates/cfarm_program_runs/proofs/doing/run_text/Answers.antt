-- Why `run_text` meets its clauses `does`, `cause` and `stopped`.
use Rattle.std.proofs.Common.{refl, inl, inr, sym, subst, ◌∙◌}
use Rattle.cfarm_explain.specs.Bounds.{depth_text}
use Rattle.cfarm_run.specs.Closings.{closing_line}
use Rattle.cfarm_program_runs.specs.Explained.{is_asked}
use Rattle.cfarm_program_runs.specs.Outcomes.{closed, text_fault}
use Rattle.cfarm_program_status.proofs.Answering.{among, never_amid}
use Rattle.cfarm_program_status.specs.Telling.{IsExplained}
use Rattle.cfarm_program_runs.proofs.Asked.{unseen_where_unasked}
use Rattle.cfarm_program_runs.proofs.Causes.{running_by_status, stopped_told, wrong_told}
use Rattle.cfarm_program_runs.specs.Saying.{IsBehindStopped, IsBehindWrong, IsStoppedTold, IsWrongTold}
use Rattle.cfarm_program_runs.proofs.doing.run_text.Goals as goal

pub returns-in-Ok-clause-does : goal.returns-in-Ok-clause-does
returns-in-Ok-clause-does g c =
    let shown = c.in-Ok.shown in
    let asked = c.is_asked-is_explained.ensures in (
      closed shown,
      inl (shown, c.in-Ok.ensures.ran, refl),
      among (is_asked c.args.is_seen c.args.explaining) _ _ _ _ (closing_line shown) _ _ _ c.status_of.ensures
          (λ unseen. never_amid c.args.is_seen _ _ c.is_amid-front.ensures (unseen_where_unasked c.args.is_seen c.args.explaining unseen))
          (λ unseen. c.as_str.ensures.value ∙ c.behind_run-behind.ensures.unseen (asked ∙ unseen))
          (c.tell_among.ensures.told (closing_line shown) refl),
    )

pub returns-in-Err-clause-does : goal.returns-in-Err-clause-does
returns-in-Err-clause-does g c =
    let fault = c.in-Err.fault in (
      text_fault fault,
      inr (fault, c.in-Err.ensures.refused, c.in-Err.ensures.beginning, refl),
      subst (λ b. IsExplained b (text_fault fault) c.tell_fault.result (g.E.ErrorLines.contents c.args.err.now) (g.E.ErrorLines.contents c.tell_fault.new.err))
          c.is_asked-is_explained.ensures c.tell_fault.ensures.told,
    )

pub returns-in-Ok-clause-cause : goal.returns-in-Ok-clause-cause
returns-in-Ok-clause-cause g c =
    let shown = c.in-Ok.shown in
    let asked = c.is_asked-is_explained.result in
    let same = c.as_str.ensures.value in
    let told = wrong_told asked c.args.path.now c.args.text.now c.args.depth _ c.as_str.result.now _ _ _ _ shown c.status_of.ensures
    (λ wrong. subst (λ b. IsBehindWrong asked c.args.path.now c.args.text.now c.args.depth b) (sym same) (c.behind_run-behind.ensures.wrong wrong))
    (c.tell_among.ensures.told (closing_line shown) refl) in
    subst (λ b. IsWrongTold b c.args.path.now c.args.text.now c.args.depth c.tell_among.result (g.E.ErrorLines.contents c.args.err.now) (g.E.ErrorLines.contents c.tell_among.new.err))
    c.is_asked-is_explained.ensures told

pub returns-in-Ok-clause-stopped : goal.returns-in-Ok-clause-stopped
returns-in-Ok-clause-stopped g c =
    let shown = c.in-Ok.shown in
    let asked = c.is_asked-is_explained.result in
    let told = stopped_told asked (depth_text c.args.depth) _ c.as_str.result.now _ _ _ _ shown
    (λ six. running_by_status shown (sym c.status_of.ensures ∙ six))
    (λ running. subst (λ b. IsBehindStopped asked (depth_text c.args.depth) b) (sym c.as_str.ensures.value) (c.behind_run-behind.ensures.stopped running))
    (c.tell_among.ensures.told (closing_line shown) refl) in
    subst (λ b. IsStoppedTold b (depth_text c.args.depth) c.tell_among.result (g.E.ErrorLines.contents c.args.err.now) (g.E.ErrorLines.contents c.tell_among.new.err))
    c.is_asked-is_explained.ensures told
