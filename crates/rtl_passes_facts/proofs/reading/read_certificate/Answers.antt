-- Why `read_certificate` meets its clauses `refused`, `fits` and `front`.
use Rattle.std.proofs.Common.{◌≡◌, ◌≤◌, ◌^◌, length, sym, ap, subst, ◌∙◌, arith}
use Rattle.std.proofs.lemmas.Result.{err_from_is_err_and}
use Rattle.lang_base.proofs.Forms.{front_is, no_text}
use Rattle.rtl_passes_marks.specs.RowForm.{RowsFit, rows_form}
use Rattle.rtl_passes_facts.specs.Certificates.{CertFits}
use Rattle.rtl_passes_facts.proofs.reading.read_certificate.Goals as goal

pub returns-in_err-rows-clause-refused : goal.returns-in_err-rows-clause-refused
returns-in_err-rows-clause-refused g c =
    let p = err_from_is_err_and c.from_residual.result c.from_residual.ensures.1 in
    let nodes : c.len-nodes.result ≡ length c.args.input.now.nodes = c.len-nodes.ensures ∙ ap length c.nodes.ensures.nodes in
    let few : c.registers.result ≤ 2 ^ 16 = omega (arith, c.registers.ensures, c.nodes.ensures.in_range.registers) in
    let many : c.len-nodes.result ≤ 2 ^ 16 = omega (arith, nodes, c.nodes.ensures.in_range.nodes) in
    rw (p.1, p.2) (λ memory facts rest fits parts. no_text (rows_form (g.met.R.Rules.form c.registers.result few) c.len-nodes.result many) c.args.bytes.now c.in_err-rows.field-0.0 (c.in_err-rows.ensures memory) facts rest (subst (λ r. RowsFit (g.R.Rules.rules.Fits r) c.len-nodes.result facts) (sym c.registers.ensures) (subst (λ n. RowsFit (g.R.Rules.rules.Fits c.args.input.now.registers) n facts) (sym nodes) fits.each)) parts)

pub overflow_sub-result : goal.overflow_sub-result
overflow_sub-result g c =
    let nodes : c.len-nodes.result ≡ length c.args.input.now.nodes = c.len-nodes.ensures ∙ ap length c.nodes.ensures.nodes in
    let few : c.registers.result ≤ 2 ^ 16 = omega (arith, c.registers.ensures, c.nodes.ensures.in_range.registers) in
    let many : c.len-nodes.result ≤ 2 ^ 16 = omega (arith, nodes, c.nodes.ensures.in_range.nodes) in
    (front_is (rows_form (g.met.R.Rules.form c.registers.result few) c.len-nodes.result many) c.args.bytes.now c.in_ok-rows.rows.items c.read_rows.new.bytes.now (λ i. omega (arith, c.type_inv.bytes i)) c.in_ok-rows.ensures).0

pub returns-clause-fits : goal.returns-clause-fits
returns-clause-fits g c =
    let nodes : c.len-nodes.result ≡ length c.args.input.now.nodes = c.len-nodes.ensures ∙ ap length c.nodes.ensures.nodes in
    let few : c.registers.result ≤ 2 ^ 16 = omega (arith, c.registers.ensures, c.nodes.ensures.in_range.registers) in
    let many : c.len-nodes.result ≤ 2 ^ 16 = omega (arith, nodes, c.nodes.ensures.in_range.nodes) in
    let front = front_is (rows_form (g.met.R.Rules.form c.registers.result few) c.len-nodes.result many) c.args.bytes.now c.in_ok-rows.rows.items c.read_rows.new.bytes.now (λ i. omega (arith, c.type_inv.bytes i)) c.in_ok-rows.ensures in
    subst (CertFits g.R.Rules.rules c.args.input.now) (sym c.from_vec.ensures)
    (record {
      few = omega (arith, c.nodes.ensures.in_range.registers);
      nodes = omega (arith, c.nodes.ensures.in_range.nodes);
      each = subst (λ r. RowsFit (g.R.Rules.rules.Fits r) (length c.args.input.now.nodes) c.in_ok-rows.rows.items) c.registers.ensures (subst (λ n. RowsFit (g.R.Rules.rules.Fits c.registers.result) n c.in_ok-rows.rows.items) nodes front.2);
    })

pub returns-clause-front : goal.returns-clause-front
returns-clause-front g c =
    let nodes : c.len-nodes.result ≡ length c.args.input.now.nodes = c.len-nodes.ensures ∙ ap length c.nodes.ensures.nodes in
    let few : c.registers.result ≤ 2 ^ 16 = omega (arith, c.registers.ensures, c.nodes.ensures.in_range.registers) in
    let many : c.len-nodes.result ≤ 2 ^ 16 = omega (arith, nodes, c.nodes.ensures.in_range.nodes) in
    rw c.from_vec.ensures (front_is (rows_form (g.met.R.Rules.form c.registers.result few) c.len-nodes.result many) c.args.bytes.now c.in_ok-rows.rows.items c.read_rows.new.bytes.now (λ i. omega (arith, c.type_inv.bytes i)) c.in_ok-rows.ensures).1
