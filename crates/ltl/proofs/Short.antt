-- A function's lists of moves and of arguments are short enough for a byte to say their lengths.
use Rattle.std.proofs.Common.{ℕ, zero, suc, ◌<◌, ◌≤◌, List, [], ◌∷◌, length, get_or, arith}
use Rattle.std.specs.List.{AllByRecursion}
use Rattle.machine.specs.Fits.{argument_limit}
use Rattle.ltl.specs.declared.block.Block.{Block}
use Rattle.ltl.specs.declared.block.Body.{Body}
use Rattle.ltl.specs.declared.block.Body.TheVariants.{Go, Call, Branch, Return}
use Rattle.ltl.specs.Function.{BodyFits, BlockFits, after_of, arguments_of, HasShortLists}

after_short : (slots nodes : ℕ) (b : Body) → BodyFits slots nodes b → length (after_of b) ≤ 255
after_short slots nodes (Go act after successor) fits = fits.1.few
after_short slots nodes (Call function arguments target after successor) fits = fits.1.few
after_short slots nodes (Branch test taken other) fits = omega arith
after_short slots nodes (Return value) fits = omega arith

arguments_short : (slots nodes : ℕ) (b : Body) → BodyFits slots nodes b → length (arguments_of b) ≤ argument_limit
arguments_short slots nodes (Go act after successor) fits = omega arith
arguments_short slots nodes (Call function arguments target after successor) fits = fits.0.few
arguments_short slots nodes (Branch test taken other) fits = omega arith
arguments_short slots nodes (Return value) fits = omega arith

pub all_short : (slots nodes : ℕ) (bs : List Block) → AllByRecursion (BlockFits slots nodes) bs → (k : ℕ) (d : Block) → k < length bs → HasShortLists (get_or bs k d)
all_short slots nodes [] fits k d below = absurd (omega arith)
all_short slots nodes (b ∷ bs) fits zero d below = record { before = fits.0.before.few; after = after_short slots nodes b.body fits.0.body; arguments = arguments_short slots nodes b.body fits.0.body }
all_short slots nodes (b ∷ bs) fits (suc k) d below = all_short slots nodes bs fits.1 k d (omega arith)
