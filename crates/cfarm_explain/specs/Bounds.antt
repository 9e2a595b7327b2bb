-- What is told of a run that was stopped at its bound.
use Rattle.std.specs.Prelude.{ℕ, zero, suc, ◌/◌, ◌%◌, if◌then◌else◌, List, [], ◌++◌, nat_lt, codes}
use Rattle.std.specs.Fmt.{decimal}

-- a number below 1000 is written with three digits
abbrev pub zeros_before : ℕ → List ℕ
zeros_before n = if nat_lt n 10 then codes "00" else if nat_lt n 100 then codes "0" else codes ""

abbrev pub three_text : ℕ → List ℕ
three_text n = zeros_before n ++ decimal n

-- the decimal digits of a number in groups of three: 1,000,000; it is cut so often at most
abbrev pub grouped : ℕ → ℕ → List ℕ
grouped zero n = decimal n
grouped (suc cuts) n = if nat_lt n 1000 then decimal n else grouped cuts (n / 1000) ++ (codes "," ++ three_text (n % 1000))

-- a number of 64 bits is cut so often
abbrev pub groups : ℕ
groups = 6

-- of a linked program's run
abbrev pub limit_text : ℕ → List ℕ
limit_text limit = codes "stopped after " ++ (grouped groups limit ++ codes " instructions; --limit N allows more, --limit none all\n")

-- of a text's run
abbrev pub depth_text : ℕ → List ℕ
depth_text depth = codes "stopped at " ++ (grouped groups depth ++ codes " turns and calls in one another; --depth N allows more, --depth none all\n")
