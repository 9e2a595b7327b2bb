-- Why `read_linear` meets its clause `refused`.
use Rattle.std.proofs.Common.{◌≡◌, [], ◌++◌, length, drop, sym, ap, ◌∙◌, arith}
use Rattle.std.proofs.lemmas.List.{take-append-drop, length-drop, append-nil}
use Rattle.linear_language.specs.Spelling.{spelling}
use Rattle.lang.specs.Form.{program_text}
use Rattle.cfarm_library_verify.proofs.reading.read_linear.Goals as goal

pub returns-then-length-bytes-clause-refused : goal.returns-then-length-bytes-clause-refused
returns-then-length-bytes-clause-refused c = λ different p spelled.
    let bytes = c.args.bytes.now in
    let found = c.in_ok-program.program in
    let n = c.in_ok-program.length in
    let behind = drop n bytes in
    let whole : program_text 4 spelling found ++ behind ≡ program_text 4 spelling p ++ [] =
    ap (λ t. t ++ behind) (sym c.in_ok-program.ensures.front) ∙ take-append-drop n bytes ∙ spelled.text ∙ sym (append-nil (program_text 4 spelling p)) in
    let none = (c.one_program.ensures found p behind [] c.in_ok-program.ensures.fits spelled.fits whole).1 in
    let left : length behind ≡ 0 = ap length none in
    absurd (omega (arith, length-drop n bytes, left, c.if-length-bytes.true))
