-- Why `vouch` meets its clause `does`.
use Rattle.std.specs.Prelude.{Some}
use Rattle.std.proofs.Common.{◌≡◌, ℕ, List, ◌++◌, ap, refl, inl, inr, subst, ◌∙◌}
use Rattle.cfarm_program_status.proofs.Answering.{told_by}
use Rattle.cfarm_verify.specs.Lines.{status_of, verified_line, verify_line}
use Rattle.cfarm_verify.specs.declared.error.VerifyError.{VerifyError}
use Rattle.cfarm_program_looks.specs.Verifying.{verify_fault}
use Rattle.cfarm_program_looks.specs.Vouching.{Compared, in_memory}
use Rattle.cfarm_program_looks.proofs.vouching.vouch.Goals as goal

pub returns-in-Ok-clause-does : goal.returns-in-Ok-clause-does
returns-in-Ok-clause-does g c =
    let claim = c.args.claim in
    let v = c.in-Ok.ensures.verified in
    let it = rw c.deref.ensures.value at c.compare.ensures.does in
    let before = g.W.Write.contents c.args.out.now.taker in
    let after = g.W.Write.contents c.compare.new.out.taker in
    let line : c.verify.new.out.items ≡ verified_line v.0 claim.program.now = v.2 ∙ ap (λ (old : List ℕ). old ++ verified_line v.0 claim.program.now) c.new-line.ensures.items in
    (it.0, inl (v.0, v.1, subst (λ (l : List ℕ). Compared claim.program.now c.args.path.now c.args.native.now l it.0 before after) line it.1), it.2)

pub returns-clause-does : goal.returns-clause-does
returns-clause-does g c =
    let claim = c.args.claim in
    let fault = c.in-Err.fault in
    let kept = in_memory fault in
    let line = verify_line kept claim.program_path.now claim.path.now in (
      verify_fault claim.program_path.now claim.path.now kept,
      inr (fault, c.in-Err.ensures.refused, refl, refl),
      told_by _ _ line _ _ _ (c.status-status.ensures ∙ ap status_of c.in_memory-kept.ensures)
          (c.tell.ensures.told line (ap (λ (f : VerifyError). Some (verify_line f claim.program_path.now claim.path.now)) c.in_memory-kept.ensures)),
    )
