-- Why `read_cert` meets its clauses `refused`, `fits` and `front`.
use Rattle.std.proofs.Common.{◌≡◌, ◌≤◌, ◌^◌, length, sym, ap, subst, ◌∙◌, arith}
use Rattle.std.proofs.lemmas.Result.{err_from_is_err_and}
use Rattle.lang_base.proofs.Forms.{front_is, no_text}
use Rattle.rtl_passes_marks.specs.RowForm.{RowsFit}
use Rattle.alloc_check_rules.specs.Rules.{EquationFits}
use Rattle.alloc_check_verdict.specs.Text.{CertFits}
use Rattle.alloc_check_verdict.proofs.Passed.{rows_of_equations}
use Rattle.alloc_check.proofs.pass.AllocPass.read_cert.Goals as goal

pub returns-in_err-rows-clause-refused : goal.returns-in_err-rows-clause-refused
returns-in_err-rows-clause-refused c =
    let p = err_from_is_err_and c.from_residual.result c.from_residual.ensures.1 in
    let nodes : c.len-nodes.result ≡ length c.args.input.now.nodes = c.len-nodes.ensures ∙ ap length c.nodes.ensures.nodes in
    let few : c.registers.result ≤ 2 ^ 16 = omega (arith, c.registers.ensures, c.nodes.ensures.in_range.registers) in
    let also : c.slots.result ≤ 2 ^ 16 = omega (arith, c.slots.ensures, c.blocks-blocks.ensures.in_range.slots) in
    let many : c.len-nodes.result ≤ 2 ^ 16 = omega (arith, nodes, c.nodes.ensures.in_range.nodes) in
    rw (p.1, p.2) (λ memory rows rest fits parts. no_text (rows_of_equations c.registers.result c.slots.result c.len-nodes.result few also many) c.args.bytes.now c.in_err-rows.field-0.0 (c.in_err-rows.ensures memory) rows rest (subst (λ r. RowsFit (EquationFits r c.slots.result) c.len-nodes.result rows) (sym c.registers.ensures) (subst (λ s. RowsFit (EquationFits c.args.input.now.registers s) c.len-nodes.result rows) (sym c.slots.ensures) (subst (λ n. RowsFit (EquationFits c.args.input.now.registers c.args.output.now.slots) n rows) (sym nodes) fits.each))) parts)

pub overflow_sub-result : goal.overflow_sub-result
overflow_sub-result c =
    let nodes : c.len-nodes.result ≡ length c.args.input.now.nodes = c.len-nodes.ensures ∙ ap length c.nodes.ensures.nodes in
    let few : c.registers.result ≤ 2 ^ 16 = omega (arith, c.registers.ensures, c.nodes.ensures.in_range.registers) in
    let also : c.slots.result ≤ 2 ^ 16 = omega (arith, c.slots.ensures, c.blocks-blocks.ensures.in_range.slots) in
    let many : c.len-nodes.result ≤ 2 ^ 16 = omega (arith, nodes, c.nodes.ensures.in_range.nodes) in
    (front_is (rows_of_equations c.registers.result c.slots.result c.len-nodes.result few also many) c.args.bytes.now c.in_ok-rows.rows.items c.read_rows.new.bytes.now (λ i. omega (arith, c.type_inv.bytes i)) c.in_ok-rows.ensures).0

pub returns-clause-fits : goal.returns-clause-fits
returns-clause-fits c =
    let nodes : c.len-nodes.result ≡ length c.args.input.now.nodes = c.len-nodes.ensures ∙ ap length c.nodes.ensures.nodes in
    let few : c.registers.result ≤ 2 ^ 16 = omega (arith, c.registers.ensures, c.nodes.ensures.in_range.registers) in
    let also : c.slots.result ≤ 2 ^ 16 = omega (arith, c.slots.ensures, c.blocks-blocks.ensures.in_range.slots) in
    let many : c.len-nodes.result ≤ 2 ^ 16 = omega (arith, nodes, c.nodes.ensures.in_range.nodes) in
    let front = front_is (rows_of_equations c.registers.result c.slots.result c.len-nodes.result few also many) c.args.bytes.now c.in_ok-rows.rows.items c.read_rows.new.bytes.now (λ i. omega (arith, c.type_inv.bytes i)) c.in_ok-rows.ensures in
    subst (CertFits c.args.input.now c.args.output.now) (sym c.from_vec.ensures)
    (record {
      registers = omega (arith, c.nodes.ensures.in_range.registers);
      slots = omega (arith, c.blocks-blocks.ensures.in_range.slots);
      nodes = omega (arith, c.nodes.ensures.in_range.nodes);
      each = subst (λ r. RowsFit (EquationFits r c.args.output.now.slots) (length c.args.input.now.nodes) c.in_ok-rows.rows.items) c.registers.ensures (subst (λ s. RowsFit (EquationFits c.registers.result s) (length c.args.input.now.nodes) c.in_ok-rows.rows.items) c.slots.ensures (subst (λ n. RowsFit (EquationFits c.registers.result c.slots.result) n c.in_ok-rows.rows.items) nodes front.2));
    })

pub returns-clause-front : goal.returns-clause-front
returns-clause-front c =
    let nodes : c.len-nodes.result ≡ length c.args.input.now.nodes = c.len-nodes.ensures ∙ ap length c.nodes.ensures.nodes in
    let few : c.registers.result ≤ 2 ^ 16 = omega (arith, c.registers.ensures, c.nodes.ensures.in_range.registers) in
    let also : c.slots.result ≤ 2 ^ 16 = omega (arith, c.slots.ensures, c.blocks-blocks.ensures.in_range.slots) in
    let many : c.len-nodes.result ≤ 2 ^ 16 = omega (arith, nodes, c.nodes.ensures.in_range.nodes) in
    rw c.from_vec.ensures (front_is (rows_of_equations c.registers.result c.slots.result c.len-nodes.result few also many) c.args.bytes.now c.in_ok-rows.rows.items c.read_rows.new.bytes.now (λ i. omega (arith, c.type_inv.bytes i)) c.in_ok-rows.ensures).1
