-- Why `held` meets its clause `bytes`.
use Rattle.std.proofs.Common.{sym, subst}
use Rattle.bundle_form.specs.Form.{AreBytes}
use Rattle.bundle_reading.proofs.Blocks.{each_byte}
use Rattle.bundle_reading.proofs.writing.held.Goals as goal

pub returns-clause-bytes : goal.returns-clause-bytes
returns-clause-bytes c =
    let are = subst AreBytes c.as_slice.ensures.value (each_byte c.as_slice.result.now (λ i. c.are_bytes.ensures i)) in
    subst AreBytes (sym c.from_vec.ensures) are
