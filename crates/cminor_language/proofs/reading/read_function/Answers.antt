-- Why `read_function` may call `new`.
use Rattle.cminor_syntax.specs.Views.{statement_tree}
use Rattle.lang_base.proofs.Forms.{AreBytes, AreBytes-rest}
use Rattle.lang_base.proofs.Parts.{byte_form}
use Rattle.cminor_form.proofs.StatementForms.{Parts, parts_form, parts_fit}
use Rattle.cminor_language.proofs.reading.read_function.Goals as goal

pub new-requires : goal.new-requires
new-requires c =
    let are : AreBytes c.args.bytes.now.now = λ i. c.are_bytes.ensures i in
    let behind = byte_form.takes c.args.bytes.now.now c.in_ok-read_byte.field-0 c.read_byte.new.bytes.now are c.in_ok-read_byte.ensures in
    let are' = AreBytes-rest c.args.bytes.now.now c.in_ok-read_byte.field-0 c.read_byte.new.bytes.now are behind in
    let p : Parts = ((c.in_ok-parameters.parameters, c.in_ok-parameters.variables), statement_tree c.in_ok-parameters.body) in
    parts_fit p (parts_form.takes c.read_byte.new.bytes.now p c.read_parts.new.bytes.now are' c.in_ok-parameters.ensures).fits
