-- Blocks that have no label.
use Rattle.std.proofs.Common.{◌≡◌, ℕ, ◌+◌, Bool, true, false, List, [], ◌∷◌, ◌++◌, drop, None, refl}
use Rattle.std.specs.Prelude.{if◌then◌else◌, ◌==◌}
use Rattle.std.specs.List.{AllByRecursion}
use Rattle.locations.specs.declared.location.Location.{Location}
use Rattle.locations.specs.declared.location.Location.TheVariants.{InRegister, InSlot}
use Rattle.x86_syntax.specs.Labels.{label_of}
use Rattle.x86_syntax.specs.declared.register.Register.{Register}
use Rattle.native_lowering_definition.specs.Frames.{Frame}
use Rattle.native_lowering_definition.specs.Locations.{passing}
use Rattle.native_lowering_definition.specs.Moving.{fetches, puts, keeps, takes, moves, fetches_each, keeps_each, passes, puts_each, takes_each, receives}
use Rattle.native_lowering_definition.specs.Operating.{Block, copy}

abbrev pub IsFree : Block → Type 0
IsFree b = AllByRecursion (λ i. label_of i ≡ None) b

pub free_both : (xs ys : Block) → IsFree xs → IsFree ys → IsFree (xs ++ ys)
free_both [] ys free also = also
free_both (x ∷ xs) ys free also = (free.0, free_both xs ys free.1 also)

pub free_if : (b : Bool) (xs ys : Block) → IsFree xs → IsFree ys → IsFree (if b then xs else ys)
free_if true xs ys free also = free
free_if false xs ys free also = also

pub free_copy : (d a : ℕ) → IsFree (copy d a)
unfolding label_of
free_copy d a = free_if (a == d) _ _ tt (refl, tt)

module _ (frame : Frame) where
  pub free_fetches : (r : Register) (l : Location) → IsFree (fetches frame r l)
  unfolding label_of
  free_fetches r (InRegister s) = (refl, tt)
  free_fetches r (InSlot s) = (refl, tt)

  pub free_puts : (l : Location) (r : Register) → IsFree (puts frame l r)
  unfolding label_of
  free_puts (InRegister s) r = (refl, tt)
  free_puts (InSlot s) r = (refl, tt)

  pub free_keeps : (cell : ℕ) (l : Location) → IsFree (keeps frame cell l)
  unfolding label_of
  free_keeps cell (InRegister s) = (refl, tt)
  free_keeps cell (InSlot s) = (refl, (refl, tt))

  pub free_takes : (l : Location) (cell : ℕ) → IsFree (takes frame l cell)
  unfolding label_of
  free_takes (InRegister s) cell = (refl, tt)
  free_takes (InSlot s) cell = (refl, (refl, tt))

  pub free_moves : (l source : Location) → IsFree (moves frame l source)
  free_moves (InRegister r) source = free_fetches _ source
  free_moves (InSlot s) source = free_keeps _ source

  free_fetches_each : (rs : List Register) (ls : List Location) → IsFree (fetches_each frame rs ls)
  free_fetches_each [] ls = tt
  free_fetches_each (r ∷ rs) [] = tt
  free_fetches_each (r ∷ rs) (l ∷ ls) = free_both (fetches frame r l) _ (free_fetches r l) (free_fetches_each rs ls)

  free_keeps_each : (cell : ℕ) (ls : List Location) → IsFree (keeps_each frame cell ls)
  free_keeps_each cell [] = tt
  free_keeps_each cell (l ∷ ls) = free_both (keeps frame cell l) _ (free_keeps cell l) (free_keeps_each (cell + 1) ls)

  pub free_passes : (ls : List Location) → IsFree (passes frame ls)
  free_passes ls = free_both (keeps_each frame 0 (drop 4 ls)) _ (free_keeps_each 0 (drop 4 ls)) (free_fetches_each passing ls)

  free_puts_each : (ls : List Location) (rs : List Register) → IsFree (puts_each frame ls rs)
  free_puts_each [] rs = tt
  free_puts_each (l ∷ ls) [] = tt
  free_puts_each (l ∷ ls) (r ∷ rs) = free_both (puts frame l r) _ (free_puts l r) (free_puts_each ls rs)

  free_takes_each : (j : ℕ) (ls : List Location) → IsFree (takes_each frame j ls)
  free_takes_each j [] = tt
  free_takes_each j (l ∷ ls) = free_both (takes frame l _) _ (free_takes l _) (free_takes_each (j + 1) ls)

  pub free_receives : (ls : List Location) → IsFree (receives frame ls)
  free_receives ls = free_both (puts_each frame ls passing) _ (free_puts_each ls passing) (free_takes_each 0 (drop 4 ls))
