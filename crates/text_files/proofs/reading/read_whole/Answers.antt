-- Why `read_whole` meets its clause `refused`.
use Rattle.std.proofs.Common.{arith}
use Rattle.text_files.proofs.Files.{nothing_behind}
use Rattle.text_files.proofs.reading.read_whole.Goals as goal

pub returns-then-length-bytes-clause-refused : goal.returns-then-length-bytes-clause-refused
returns-then-length-bytes-clause-refused g c = λ different p is.
    nothing_behind c.args.bytes.now c.in_ok-program.length c.in_ok-program.program p c.one_program.ensures c.in_ok-program.ensures.fits c.in_ok-program.ensures.front is (omega (arith, c.if-length-bytes.true))
