-- Why `read_front` meets its clauses `refused`, `fits` and `front`.
use Rattle.std.proofs.Common.{arith}
use Rattle.std.proofs.lemmas.Result.{err_from_is_err_and}
use Rattle.lang_base.proofs.Forms.{front_is, no_text}
use Rattle.lang_helpers.proofs.form.read_front.Goals as goal

pub returns-in_err-value-clause-refused : goal.returns-in_err-value-clause-refused
returns-in_err-value-clause-refused g c =
    let p = err_from_is_err_and c.from_residual.result c.from_residual.ensures.1 in
    rw (p.1, p.2) (λ memory value rest fits parts. no_text g.met.F.Form.form c.args.bytes.now c.in_err-value.field-0.0 (c.in_err-value.ensures memory) value rest fits parts)

pub overflow_sub-result : goal.overflow_sub-result
overflow_sub-result g c = (front_is g.met.F.Form.form c.args.bytes.now c.in_ok-value.value c.read_next.new.bytes.now (λ i. omega (arith, c.type_inv.bytes i)) c.in_ok-value.ensures).0

pub returns-clause-fits : goal.returns-clause-fits
returns-clause-fits g c = (front_is g.met.F.Form.form c.args.bytes.now c.in_ok-value.value c.read_next.new.bytes.now (λ i. omega (arith, c.type_inv.bytes i)) c.in_ok-value.ensures).2

pub returns-clause-front : goal.returns-clause-front
returns-clause-front g c = (front_is g.met.F.Form.form c.args.bytes.now c.in_ok-value.value c.read_next.new.bytes.now (λ i. omega (arith, c.type_inv.bytes i)) c.in_ok-value.ensures).1
