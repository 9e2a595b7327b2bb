-- How many functions and globals a program has at most, how the number of one of them is read, and how many nodes a graph has.
use Rattle.std.specs.Prelude.{ℕ}
use Rattle.std.specs.Int.{w16}
use Rattle.lang_base.specs.Reading.{Reading, byte, number, below}

abbrev pub function_limit : ℕ
function_limit = 64

abbrev pub global_limit : ℕ
global_limit = 1024

abbrev pub node_limit : ℕ
node_limit = 65535

unfoldable pub function_number : Reading ℕ
function_number bytes = below function_limit byte bytes

unfoldable pub global : Reading ℕ
global bytes = below global_limit (number w16) bytes
