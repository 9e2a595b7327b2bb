-- Why `+push_number` meets its contract.
use Rattle.std.proofs.Common.{ℕ, ◌+◌, ◌/◌, ◌%◌, List, [], ◌∷◌, decimal, sym, subst, arith}
use Rattle.lang_base.specs.Texts.{Appends}
use Rattle.text_keys.proofs.Appending.{appends_behind}
use Rattle.text_keys.proofs.Digits.{more_digits}
use Rattle.text_keys.proofs.number.+push_number.Goals as goal

pub returns : goal.returns
returns t c =
    let n = c.args.number in
    subst (λ (l : List ℕ). Appends c.push_byte-2.result l c.args.out.now.items c.push_byte-2.new.out.items) (sym (more_digits n (omega (arith, c.if-number-lt10.false)) c.ranges.number.fits))
    (appends_behind c.push_byte-2.result (decimal (n / 10)) ((48 + n % 10) ∷ []) c.args.out.now.items c.push_number.new.out.items c.push_byte-2.new.out.items c.in_ok-push_number.ensures c.push_byte-2.ensures)
