-- Why `read_function` may call `new`.
use Rattle.std.proofs.Common.{ℕ, List}
use Rattle.lang_base.proofs.Forms.{AreBytes, AreBytes-rest}
use Rattle.lang_base.proofs.Parts.{byte_form}
use Rattle.locations.specs.declared.location.Location.{Location}
use Rattle.linear_language.specs.declared.instruction.Instruction.{Instruction}
use Rattle.linear_language.specs.Forms.{parts_form, parts_fit}
use Rattle.linear_language.proofs.reading.read_function.Goals as goal

pub new-requires : goal.new-requires
new-requires c =
    let are : AreBytes c.args.bytes.now.now = λ i. c.are_bytes.ensures i in
    let behind = byte_form.takes c.args.bytes.now.now c.in_ok-read_byte.field-0 c.read_byte.new.bytes.now are c.in_ok-read_byte.ensures in
    let are' = AreBytes-rest c.args.bytes.now.now c.in_ok-read_byte.field-0 c.read_byte.new.bytes.now are behind in
    let p : (List Location × ℕ) × List Instruction = ((c.in_ok-parameters.parameters, c.in_ok-parameters.slots), c.in_ok-parameters.code) in
    parts_fit p (parts_form.takes c.read_byte.new.bytes.now p c.read_parts.new.bytes.now are' c.in_ok-parameters.ensures).fits
