-- Why `read_cert` meets its clauses `refused`, `fits` and `front`.
use Rattle.std.proofs.Common.{◌≡◌, ◌≤◌, ◌^◌, length, sym, ap, subst, ◌∙◌, arith}
use Rattle.std.proofs.lemmas.Result.{err_from_is_err_and}
use Rattle.lang_base.proofs.Forms.{front_is, no_text}
use Rattle.linearize_check.specs.OrderForm.{OrderFits, CertFits, order_form}
use Rattle.linearize_check.proofs.pass.LinearizePass.read_cert.Goals as goal

pub returns-in_err-listed-clause-refused : goal.returns-in_err-listed-clause-refused
returns-in_err-listed-clause-refused c =
    let p = err_from_is_err_and c.from_residual.result c.from_residual.ensures.1 in
    let count : c.len-nodes.result ≡ length c.args.input.now.blocks = c.len-nodes.ensures ∙ ap length c.blocks-2.ensures.blocks in
    let few : c.len-nodes.result ≤ 2 ^ 16 = omega (arith, count, c.blocks-2.ensures.in_range.nodes) in
    rw (p.1, p.2) (λ memory listed rest fits parts. no_text (order_form c.len-nodes.result few) c.args.bytes.now c.in_err-listed.field-0.0 (c.in_err-listed.ensures memory) listed rest (subst (λ k. OrderFits k listed) (sym count) fits.each) parts)

pub overflow_sub-result : goal.overflow_sub-result
overflow_sub-result c =
    let count : c.len-nodes.result ≡ length c.args.input.now.blocks = c.len-nodes.ensures ∙ ap length c.blocks-2.ensures.blocks in
    let few : c.len-nodes.result ≤ 2 ^ 16 = omega (arith, count, c.blocks-2.ensures.in_range.nodes) in
    (front_is (order_form c.len-nodes.result few) c.args.bytes.now c.in_ok-listed.listed.items c.read_order.new.bytes.now (λ i. omega (arith, c.type_inv.bytes i)) c.in_ok-listed.ensures).0

pub returns-clause-fits : goal.returns-clause-fits
returns-clause-fits c =
    let count : c.len-nodes.result ≡ length c.args.input.now.blocks = c.len-nodes.ensures ∙ ap length c.blocks-2.ensures.blocks in
    let few : c.len-nodes.result ≤ 2 ^ 16 = omega (arith, count, c.blocks-2.ensures.in_range.nodes) in
    let front = front_is (order_form c.len-nodes.result few) c.args.bytes.now c.in_ok-listed.listed.items c.read_order.new.bytes.now (λ i. omega (arith, c.type_inv.bytes i)) c.in_ok-listed.ensures in
    subst (CertFits c.args.input.now) (sym c.from_vec.ensures)
    (record { few_nodes = c.blocks-2.ensures.in_range.nodes; each = subst (λ k. OrderFits k c.in_ok-listed.listed.items) count front.2 })

pub returns-clause-front : goal.returns-clause-front
returns-clause-front c =
    let count : c.len-nodes.result ≡ length c.args.input.now.blocks = c.len-nodes.ensures ∙ ap length c.blocks-2.ensures.blocks in
    let few : c.len-nodes.result ≤ 2 ^ 16 = omega (arith, count, c.blocks-2.ensures.in_range.nodes) in
    rw c.from_vec.ensures (front_is (order_form c.len-nodes.result few) c.args.bytes.now c.in_ok-listed.listed.items c.read_order.new.bytes.now (λ i. omega (arith, c.type_inv.bytes i)) c.in_ok-listed.ensures).1
