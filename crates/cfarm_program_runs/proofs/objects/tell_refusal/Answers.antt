-- Why `tell_refusal` meets its clause `told`.
use Rattle.std.specs.Prelude.{Some, false, codes}
use Rattle.std.proofs.Common.{refl, ap, inl, inr, ◌∙◌}
use Rattle.cfarm_program_status.specs.Telling.{no_memory, told}
use Rattle.cfarm_program_status.proofs.Answering.{among}
use Rattle.cfarm_program_runs.specs.Objects.{fault_line}
use Rattle.cfarm_program_runs.proofs.objects.tell_refusal.Goals as goal

pub returns-in-Ok-clause-told : goal.returns-in-Ok-clause-told
returns-in-Ok-clause-told g c =
    let line = fault_line c.args.refusal in
    let is = ap (λ l. Some l) (c.as_str.ensures.value ∙ c.in-Ok.ensures) in
    (told c.args.status line, inr refl, among false false (codes "") _ _ line _ _ _ refl (λ unseen. refl) (λ unseen. refl) (c.tell_among.ensures.told line is))

pub returns-in-Err-clause-told : goal.returns-in-Err-clause-told
returns-in-Err-clause-told g c =
    let line = codes "memory" in
    (no_memory, inl refl, among false false (codes "") _ _ line _ _ _ refl (λ unseen. refl) (λ unseen. refl) (c.tell_among-in-Err.ensures.told line refl))
