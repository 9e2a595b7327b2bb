-- Blocks of moves write no words.
use Rattle.std.proofs.Common.{ℕ, ◌+◌, Bool, true, false, List, [], ◌∷◌, ◌++◌, drop}
use Rattle.std.specs.Prelude.{if◌then◌else◌, ◌==◌}
use Rattle.locations.specs.declared.location.Location.{Location}
use Rattle.locations.specs.declared.location.Location.TheVariants.{InRegister, InSlot}
use Rattle.x86_syntax.specs.declared.register.Register.{Register}
use Rattle.native_lowering_definition.specs.Frames.{Frame}
use Rattle.native_lowering_definition.specs.Locations.{passing}
use Rattle.native_lowering_definition.specs.Moving.{fetches, puts, keeps, takes, moves, fetches_each, keeps_each, passes, puts_each, takes_each, receives}
use Rattle.native_lowering_definition.specs.Operating.{Block, copy}
use Rattle.native_lowering_safe_words.specs.Narrow.{AreNarrow}

pub narrow_both : (xs ys : Block) → AreNarrow xs → AreNarrow ys → AreNarrow (xs ++ ys)
narrow_both [] ys first second = second
narrow_both (x ∷ xs) ys first second = (first.0, narrow_both xs ys first.1 second)

pub narrow_if : (b : Bool) (xs ys : Block) → AreNarrow xs → AreNarrow ys → AreNarrow (if b then xs else ys)
narrow_if true xs ys first second = first
narrow_if false xs ys first second = second

pub narrow_copy : (d a : ℕ) → AreNarrow (copy d a)
narrow_copy d a = narrow_if (a == d) _ _ tt (tt, tt)

module _ (frame : Frame) where
  pub narrow_fetches : (r : Register) (l : Location) → AreNarrow (fetches frame r l)
  narrow_fetches r (InRegister s) = (tt, tt)
  narrow_fetches r (InSlot s) = (tt, tt)

  pub narrow_puts : (l : Location) (r : Register) → AreNarrow (puts frame l r)
  narrow_puts (InRegister s) r = (tt, tt)
  narrow_puts (InSlot s) r = (tt, tt)

  pub narrow_keeps : (cell : ℕ) (l : Location) → AreNarrow (keeps frame cell l)
  narrow_keeps cell (InRegister s) = (tt, tt)
  narrow_keeps cell (InSlot s) = (tt, (tt, tt))

  pub narrow_takes : (l : Location) (cell : ℕ) → AreNarrow (takes frame l cell)
  narrow_takes (InRegister s) cell = (tt, tt)
  narrow_takes (InSlot s) cell = (tt, (tt, tt))

  pub narrow_moves : (l source : Location) → AreNarrow (moves frame l source)
  narrow_moves (InRegister r) source = narrow_fetches _ source
  narrow_moves (InSlot s) source = narrow_keeps _ source

  narrow_fetches_each : (rs : List Register) (ls : List Location) → AreNarrow (fetches_each frame rs ls)
  narrow_fetches_each [] ls = tt
  narrow_fetches_each (r ∷ rs) [] = tt
  narrow_fetches_each (r ∷ rs) (l ∷ ls) = narrow_both (fetches frame r l) _ (narrow_fetches r l) (narrow_fetches_each rs ls)

  narrow_keeps_each : (cell : ℕ) (ls : List Location) → AreNarrow (keeps_each frame cell ls)
  narrow_keeps_each cell [] = tt
  narrow_keeps_each cell (l ∷ ls) = narrow_both (keeps frame cell l) _ (narrow_keeps cell l) (narrow_keeps_each (cell + 1) ls)

  pub narrow_passes : (ls : List Location) → AreNarrow (passes frame ls)
  narrow_passes ls = narrow_both (keeps_each frame 0 (drop 4 ls)) _ (narrow_keeps_each 0 (drop 4 ls)) (narrow_fetches_each passing ls)

  narrow_puts_each : (ls : List Location) (rs : List Register) → AreNarrow (puts_each frame ls rs)
  narrow_puts_each [] rs = tt
  narrow_puts_each (l ∷ ls) [] = tt
  narrow_puts_each (l ∷ ls) (r ∷ rs) = narrow_both (puts frame l r) _ (narrow_puts l r) (narrow_puts_each ls rs)

  narrow_takes_each : (j : ℕ) (ls : List Location) → AreNarrow (takes_each frame j ls)
  narrow_takes_each j [] = tt
  narrow_takes_each j (l ∷ ls) = narrow_both (takes frame l _) _ (narrow_takes l _) (narrow_takes_each (j + 1) ls)

  pub narrow_receives : (ls : List Location) → AreNarrow (receives frame ls)
  narrow_receives ls = narrow_both (puts_each frame ls passing) _ (narrow_puts_each ls passing) (narrow_takes_each 0 (drop 4 ls))
