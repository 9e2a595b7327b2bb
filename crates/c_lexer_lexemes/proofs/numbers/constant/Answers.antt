-- Why `constant` meets its contract.
use Rattle.std.proofs.Common.{sym, arith}
use Rattle.c_lexer_lexemes.proofs.IntConstants.{int_constant}
use Rattle.c_lexer_lexemes.proofs.numbers.constant.Goals as goal

pub returns-then-value-lt-INT_LIMIT : goal.returns-then-value-lt-INT_LIMIT
returns-then-value-lt-INT_LIMIT c = sym (int_constant c.args.word.now c.in_ok-value-2.value (sym c.if-is_suffixed.ensures) (sym c.in_ok-value-2.ensures) (omega arith))
