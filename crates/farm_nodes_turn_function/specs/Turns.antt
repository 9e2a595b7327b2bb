-- What a turn in a room leaves of the journal, and what stands at the place of a list that a turn is taken at.
use Rattle.std.specs.Prelude.{◌≡◌, ℕ, List, Some, slice_get, Result}
use Rattle.lang_base.specs.declared.program.Named.{Named}
use Rattle.durable_model.specs.declared.disk.Disk as disks
use Rattle.acceptor_log.specs.declared.log.Log.{Log}
use Rattle.farm_nodes_turn_passes.specs.Halt.{Halt}
use Rattle.farm_nodes_turn_passes.specs.Halted.{left_over, HasHaltCause}
use Rattle.farm_nodes_turn_room.specs.declared.progress.Progress.{Progress}
use Rattle.farm_nodes_turn_room.specs.Played.{Played}
use Rattle.farm_nodes_turn_passes.specs.Numbers.{pass_of}
use Rattle.farm_nodes_turn_passes.specs.Fours.{Four, words_of}
use Rattle.farm_nodes_turn_passes.specs.Texts.{Texts, IsOwnTextIn}

-- so it is, in the sight of f, of the elements at this place of two lists
abbrev pub AtPlace : {X Y : Type 0} → (X → Y) → (Y → Y → Type 0) → ℕ → List X → List X → Type 0
AtPlace {X} f P at old new = (x y : X) → slice_get old at ≡ Some x → slice_get new at ≡ Some y → P (f x) (f y)

-- so it is of the function with this number
abbrev pub OfFunction : {F : Type 0} → List (Named F) → ℕ → (F → Type 0) → Type 0
OfFunction {F} functions number P = (x : Named F) → slice_get functions number ≡ Some x → P x.function

module _ {D T1 T2 T3 T4 : Type 0} where
  -- what a turn in a room leaves of the journal, by its result
  abbrev pub PlayedIn : Texts T1 T2 T3 T4 → disks.Ghosts D → Log D → Log D → ℕ → Result Progress Halt → Four T1 T2 T3 T4 → Four T1 T2 T3 T4 → Type 0
  PlayedIn texts disk old new room result s t =
      Played (IsOwnTextIn texts (pass_of room) t) disk old new room (words_of s (pass_of room)) (words_of t (pass_of room)) result

  -- why a turn in a room halts
  abbrev pub HaltsIn : disks.Ghosts D → (Four T1 T2 T3 T4 → Type 0) → Log D → Log D → ℕ → Halt → Four T1 T2 T3 T4 → Four T1 T2 T3 T4 → Type 0
  HaltsIn disk TooLarge old new room halt s t =
      HasHaltCause disk (TooLarge s) old new (left_over room (words_of t (pass_of room)) halt.pending) halt.fault
