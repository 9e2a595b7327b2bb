-- Why `read_whole` meets its clauses `refused` and `behind`.
use Rattle.std.proofs.Common.{◌≡◌, [], ◌∷◌, ◌++◌, length, drop, sym, ap, ◌∙◌, arith}
use Rattle.std.proofs.lemmas.List.{take-append-drop, length-drop, append-nil}
use Rattle.std.proofs.lemmas.Result.{err_from_is_err_and}
use Rattle.linear_language.specs.Spelling.{spelling}
use Rattle.lang.specs.Form.{program_text}
use Rattle.cfarm_native.proofs.reading.read_whole.Goals as goal

pub returns-then-length-bytes-clause-refused : goal.returns-then-length-bytes-clause-refused
returns-then-length-bytes-clause-refused c = λ different p spelled.
    let bytes = c.args.bytes.now in
    let found = c.in_ok-program.program in
    let n = c.in_ok-program.length in
    let behind = drop n bytes in
    let whole : program_text 4 spelling found ++ behind ≡ program_text 4 spelling p ++ [] =
    ap (λ t. t ++ behind) (sym c.in_ok-program.ensures.front) ∙ take-append-drop n bytes ∙ spelled.text ∙ sym (append-nil (program_text 4 spelling p)) in
    let none = (c.one_program.ensures found p behind [] c.in_ok-program.ensures.fits spelled.fits whole).1 in
    let left : length behind ≡ 0 = ap length none in
    absurd (omega (arith, length-drop n bytes, left, c.if-length-bytes.true))

-- What is refused begins with no program.
pub returns-in_err-program-clause-behind : goal.returns-in_err-program-clause-behind
returns-in_err-program-clause-behind c =
    let p = err_from_is_err_and c.from_residual.result c.from_residual.ensures.1 in
    rw (p.1, p.2) (λ memory q first rest fits e. absurd (c.in_err-program.ensures.refused memory q (first ∷ rest) fits e))
