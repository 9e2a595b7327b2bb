-- Why `tell_object` meets its clause `told`.
use Rattle.std.specs.Prelude.{false, codes}
use Rattle.std.proofs.Common.{refl, subst, sym, ◌∙◌}
use Rattle.std.specs.String.{string_bytes}
use Rattle.c_hints.specs.Hints.{IsHint}
use Rattle.c_texts.specs.Refusals.{number_of}
use Rattle.cfarm_run.specs.TextLines.{error_line}
use Rattle.cfarm_program_status.proofs.Answering.{among}
use Rattle.cfarm_program_runs.specs.declared.objects.Refusal.{Refusal}
use Rattle.cfarm_program_runs.proofs.Placed.{object_told, unplaced}
use Rattle.cfarm_program_runs.proofs.doing.tell_object.Goals as goal

pub returns-in-Some-clause-told : goal.returns-in-Some-clause-told
returns-in-Some-clause-told g c =
    let text = c.args.text.now in
    let at = c.in-Some.at in
    let hint = string_bytes c.hint_where-said.result in
    let numbered = subst (λ n. IsHint text at n hint) c.number.ensures c.hint_where-said.ensures in
    let said = subst (IsHint text at (number_of c.in-Some.refused)) (sym c.as_str.ensures.value) numbered in
    let refusal : Refusal = record {
      path = c.args.path;
      text = c.args.text;
      fault = c.in-Some.refused;
      at = at;
      hint = c.as_str.result;
      declared = c.declared_of.result;
    } in
    object_told c.args.path.now text c.args.fault c.in-Some.refused at c.status.result c.tell_refusal.result refusal
    (sym c.placed.ensures ∙ c.in-Some.is) (refl, refl, refl, refl, said, c.declared_of.ensures) c.status.ensures c.tell_refusal.ensures.told

pub returns-in-None-clause-told : goal.returns-in-None-clause-told
returns-in-None-clause-told g c =
    let line = error_line c.args.fault in
    unplaced _ _ c.args.fault _ _ _ (sym c.placed.ensures ∙ c.in-None.is)
    (among false false (codes "") _ _ line _ _ _ c.status-in-None.ensures (λ unseen. refl) (λ unseen. refl) (c.tell_among.ensures.told line refl))
