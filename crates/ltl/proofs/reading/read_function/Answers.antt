-- Why `read_function` may call `new`.
use Rattle.std.proofs.Common.{ℕ, List}
use Rattle.machine.specs.Location.{Location}
use Rattle.ltl.specs.declared.block.Block.{Block}
use Rattle.lang_base.proofs.Forms.{AreBytes, AreBytes-rest}
use Rattle.lang_base.proofs.Parts.{byte_form}
use Rattle.ltl.specs.Forms.{parts_form, parts_fit}
use Rattle.ltl.proofs.reading.read_function.Goals as goal

pub new-requires : goal.new-requires
new-requires c =
    let are : AreBytes c.args.bytes.now.now = λ i. c.are_bytes.ensures i in
    let behind = byte_form.takes c.args.bytes.now.now c.in_ok-read_byte.field-0 c.read_byte.new.bytes.now are c.in_ok-read_byte.ensures in
    let are' = AreBytes-rest c.args.bytes.now.now c.in_ok-read_byte.field-0 c.read_byte.new.bytes.now are behind in
    let p : (List Location × ℕ) × (ℕ × List Block) = ((c.in_ok-parameters.parameters, c.in_ok-parameters.slots), (c.in_ok-parameters.entry, c.in_ok-parameters.blocks)) in
    parts_fit p (parts_form.takes c.read_byte.new.bytes.now p c.read_parts.new.bytes.now are' c.in_ok-parameters.ensures).fits
