-- Each text is what was read.
use Rattle.std.proofs.Common.{sym, subst}
use Rattle.bundle_reading.specs.Read.{IsFound, IsText}
use Rattle.bundle_reading.specs.Texts.{FirstFits, FourthFits, SecondFits, ThirdFits, first_text, fourth_text, second_text, third_text}
use Rattle.bundle_reading.proofs.Readings.{four_read}
use Rattle.cfarm_library_verify.proofs.reading.read_texts.Goals as goal

pub returns : goal.returns
returns c =
    let one = c.read_one-one in
    let two = c.read_one-two in
    let three = c.read_one-three in
    let four = c.read_one-four in
    subst (λ r. IsFound c.args.texts.now r) (sym c.four_of.ensures)
    (four_read c.args.texts.now one.result two.result three.result four.result
    (subst (λ l. IsText FirstFits first_text l one.result) c.as_slice.ensures one.ensures)
    (subst (λ l. IsText SecondFits second_text l two.result) c.as_slice-2.ensures two.ensures)
    (subst (λ l. IsText ThirdFits third_text l three.result) c.as_slice-3.ensures three.ensures)
    (subst (λ l. IsText FourthFits fourth_text l four.result) c.as_slice-4.ensures four.ensures))
