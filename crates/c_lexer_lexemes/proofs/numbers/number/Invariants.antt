use Rattle.std.proofs.Common.{◌≡◌, ◌<◌, ◌^◌, true, take, drop}
use Rattle.std.specs.List.{list_all}
use Rattle.c_lexer_lexemes.specs.Numbers.{is_digit_of, worth}
use Rattle.c_lexer_lexemes.proofs.Worths.{worth_behind}
use Rattle.c_lexer_lexemes.proofs.numbers.number.Given as goal

abbrev pub invariant-loop-digit : goal.invariant-loop-digit
invariant-loop-digit l =
    record {
      all : list_all (is_digit_of l.base) (take l.digit-index l.digits) ≡ true;
      whole : worth_behind l.base l.sum (drop l.digit-index l.digits) ≡ worth l.base l.digits;
      small : l.sum < 2 ^ 32;
    }
