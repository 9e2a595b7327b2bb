-- Steps one after the other, and the instructions of calls and returns that go on below.
use Rattle.std.proofs.Common.{◌≡◌, ℕ, zero, suc, ◌+◌, List, Option, ap, ◌∙◌, arith, Bool, true, false, [], ◌∷◌, ◌++◌, drop}
use Rattle.std.specs.Prelude.{◌==◌, if◌then◌else◌}
use Rattle.lang_base.specs.declared.program.Named.{Named}
use Rattle.locations.specs.declared.location.Location.{Location}
use Rattle.locations.specs.declared.location.Location.TheVariants.{InRegister, InSlot}
use Rattle.x86_syntax.specs.declared.function.Function.{Function}
use Rattle.x86_syntax.specs.declared.instruction.Instruction.TheVariants.{Grow}
use Rattle.x86_syntax.specs.declared.register.Register.{Register}
use Rattle.x86_syntax.specs.declared.register.Register.TheVariants.{Eax}
use Rattle.x86_state.specs.State.{State, Step, Goes, Ends, Stops, Fills, Stuck}
use Rattle.x86.specs.Meaning.{next}
use Rattle.native_lowering_definition.specs.Blocks.{saves, restores, grows, opening}
use Rattle.native_lowering_definition.specs.Frames.{Frame, size_of, slot_cell, saved_cell, argument_cell}
use Rattle.native_lowering_definition.specs.Locations.{register_of, passing}
use Rattle.native_lowering_definition.specs.Moving.{fetches, puts, keeps, takes, fetches_each, keeps_each, passes, puts_each, takes_each, receives}
use Rattle.native_lowering_walks.specs.Walks.{then as onward, steps}
use Rattle.native_lowering_walks.proofs.Straight.{copy_below, take_below, keep_below, room_below, grow_below}
use Rattle.native_lowering_runs.proofs.Blocks.{AllBelow, below_both}

module _ (functions : List (Named Function)) (room : Option ℕ) where
  one_more : (x y : Step) (n m : ℕ) (t : State) → ((u : State) → steps functions room n u ≡ Goes t → steps functions room m u ≡ y) → onward x (steps functions room n) ≡ Goes t
      → onward x (steps functions room m) ≡ y
  one_more (Goes u) y n m t later go = later u go
  one_more (Ends w) y n m t later go = cc
  one_more Stops y n m t later go = cc
  one_more Fills y n m t later go = cc
  one_more Stuck y n m t later go = cc

  pub steps_then : (n m k : ℕ) (s t : State) (x : Step) → k ≡ n + m → steps functions room n s ≡ Goes t → steps functions room m t ≡ x → steps functions room k s ≡ x
  steps_then zero m k s t x e first second =
      let same : s ≡ t = cc in
      let count : k ≡ m = omega arith in
      ap (λ n. steps functions room n s) count ∙ ap (steps functions room m) same ∙ second
  steps_then (suc n) m zero s t x e first second = absurd (omega arith)
  steps_then (suc n) m (suc k) s t x e first second = one_more (next functions room s) x n k t (λ u go. steps_then n m k u t x (omega arith) go second) first

module _ (frame : Frame) where
  below_fetches : (r : Register) (l : Location) → AllBelow (fetches frame r l)
  below_fetches r (InRegister q) = (copy_below r (register_of q), tt)
  below_fetches r (InSlot s) = (take_below r (slot_cell frame s), tt)

  pub below_puts : (l : Location) (r : Register) → AllBelow (puts frame l r)
  below_puts (InRegister q) r = (copy_below (register_of q) r, tt)
  below_puts (InSlot s) r = (keep_below (slot_cell frame s) r, tt)

  below_keeps : (cell : ℕ) (l : Location) → AllBelow (keeps frame cell l)
  below_keeps cell (InRegister q) = (keep_below cell (register_of q), tt)
  below_keeps cell (InSlot s) = (take_below Eax (slot_cell frame s), (keep_below cell Eax, tt))

  below_takes : (l : Location) (cell : ℕ) → AllBelow (takes frame l cell)
  below_takes (InRegister q) cell = (take_below (register_of q) cell, tt)
  below_takes (InSlot s) cell = (take_below Eax cell, (keep_below (slot_cell frame s) Eax, tt))

  below_fetches_each : (rs : List Register) (ls : List Location) → AllBelow (fetches_each frame rs ls)
  below_fetches_each [] ls = tt
  below_fetches_each (r ∷ rs) [] = tt
  below_fetches_each (r ∷ rs) (l ∷ ls) = below_both (fetches frame r l) (fetches_each frame rs ls) (below_fetches r l) (below_fetches_each rs ls)

  below_keeps_each : (cell : ℕ) (ls : List Location) → AllBelow (keeps_each frame cell ls)
  below_keeps_each cell [] = tt
  below_keeps_each cell (l ∷ ls) = below_both (keeps frame cell l) (keeps_each frame (cell + 1) ls) (below_keeps cell l) (below_keeps_each (cell + 1) ls)

  pub below_passes : (ls : List Location) → AllBelow (passes frame ls)
  below_passes ls = below_both (keeps_each frame 0 (drop 4 ls)) (fetches_each frame passing ls) (below_keeps_each 0 (drop 4 ls)) (below_fetches_each passing ls)

  below_puts_each : (ls : List Location) (rs : List Register) → AllBelow (puts_each frame ls rs)
  below_puts_each [] rs = tt
  below_puts_each (l ∷ ls) [] = tt
  below_puts_each (l ∷ ls) (r ∷ rs) = below_both (puts frame l r) (puts_each frame ls rs) (below_puts l r) (below_puts_each ls rs)

  below_takes_each : (j : ℕ) (ls : List Location) → AllBelow (takes_each frame j ls)
  below_takes_each j [] = tt
  below_takes_each j (l ∷ ls) = below_both (takes frame l (argument_cell frame j)) (takes_each frame (j + 1) ls) (below_takes l (argument_cell frame j)) (below_takes_each (j + 1) ls)

  below_receives : (ls : List Location) → AllBelow (receives frame ls)
  below_receives ls = below_both (puts_each frame ls passing) (takes_each frame 0 (drop 4 ls)) (below_puts_each ls passing) (below_takes_each 0 (drop 4 ls))

pub below_saves : (cell : ℕ) (rs : List ℕ) → AllBelow (saves cell rs)
below_saves cell [] = tt
below_saves cell (r ∷ rs) = (keep_below cell (register_of r), below_saves (cell + 1) rs)

pub below_restores : (cell : ℕ) (rs : List ℕ) → AllBelow (restores cell rs)
below_restores cell [] = tt
below_restores cell (r ∷ rs) = (take_below (register_of r) cell, below_restores (cell + 1) rs)

grows_if : (b : Bool) (size : ℕ) → AllBelow (if b then [] else Grow size ∷ [])
grows_if true size = tt
grows_if false size = (grow_below size, tt)

pub below_opening : (frame : Frame) (parameters : List Location) → AllBelow (opening frame parameters)
below_opening frame parameters =
    let saving = saves (saved_cell frame) frame.saved in (
      room_below,
      below_both (grows (size_of frame)) (saving ++ receives frame parameters) (grows_if (size_of frame == 0) (size_of frame))
          (below_both saving (receives frame parameters) (below_saves (saved_cell frame) frame.saved) (below_receives frame parameters)),
    )
