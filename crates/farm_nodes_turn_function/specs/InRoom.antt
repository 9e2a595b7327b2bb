-- What a turn leaves of the journal of a disk, and why it halts: in the room of a pass of a function, and in a room of all.
use Rattle.std.specs.Prelude.{◌≡◌, ℕ, true, List, Result, IfErr}
use Rattle.rand_pcg.specs.Lcg.{Lcg}
use Rattle.durable_model.specs.declared.disk.Disk as disks
use Rattle.acceptor_log.specs.declared.log.Log.{Log}
use Rattle.rtl_language.specs.Function.{FunctionData}
use Rattle.rooms_hall.specs.declared.hall.Naming as naming
use Rattle.farm_nodes_turn_passes.specs.Halt.{Halt}
use Rattle.farm_nodes_turn_room.specs.Logged.{MayHaltFor}
use Rattle.farm_nodes_turn_room.specs.Played.{Played}
use Rattle.farm_nodes_turn_room.specs.declared.progress.Progress.{Progress}
use Rattle.farm_nodes_turn_passes.specs.Fours.{Four, four_of, words_of}
use Rattle.farm_nodes_turn_passes.specs.NumberedSeat.{NumberedSeat}
use Rattle.farm_nodes_turn_passes.specs.Numbers.{function_of, pass_of}
use Rattle.farm_nodes_turn_passes.specs.Offers.{ConstantsOffer, ExpressionsOffer, AllocationOffer, OrderOffer}
use Rattle.farm_nodes_turn_passes.specs.Texts.{pass_texts, IsOwnTextIn}
use Rattle.farm_nodes_turn_passes.specs.declared.which.Which.{Which}
use Rattle.farm_nodes_turn_function.specs.Turned.{DrawsIn, IsTooLargeFor, StandsAfter}
use Rattle.farm_nodes_turn_function.specs.Turns.{AtPlace, HaltsIn, PlayedIn}

module _ {H : Type 0} {h : naming.Ghosts H} where
  -- so it is of the seats of the room's function
  abbrev pub ForRoom : ℕ → (Four ConstantsOffer ExpressionsOffer AllocationOffer OrderOffer
      → Four ConstantsOffer ExpressionsOffer AllocationOffer OrderOffer → Type 0)
      → List (NumberedSeat H h) → List (NumberedSeat H h) → Type 0
  ForRoom room P old new = AtPlace four_of P (function_of room) old new

  -- what stands after a turn in the room that did not fail, the generator having gone from the one to the other
  abbrev pub StandsInRoom : ℕ → Lcg → Lcg → List (NumberedSeat H h) → List (NumberedSeat H h) → Type 0
  StandsInRoom room draws drawn old new = ForRoom room (StandsAfter (pass_of room) draws drawn) old new

  -- what any turn in it draws
  abbrev pub DrawsInRoom : ℕ → Lcg → Lcg → List (NumberedSeat H h) → List (NumberedSeat H h) → Type 0
  DrawsInRoom room draws drawn old new = ForRoom room (DrawsIn (pass_of room) draws drawn) old new

  module _ {D : Type 0} (disk : disks.Ghosts D) where
    -- a journal on an honest disk that went on stands for what the node keeps behind a turn in the room of this pass, and what
    -- the turn tells is so
    abbrev pub LogsTurnIn : Which → Log D → Log D → ℕ → NumberedSeat H h → NumberedSeat H h → Result Progress Halt → Type 0
    LogsTurnIn pass old new room s t result =
        disk.is_honest old.disk → old.going ≡ true
        → Played (IsOwnTextIn pass_texts pass (four_of t)) disk old new room (words_of (four_of s) pass) (words_of (four_of t) pass) result

    -- where the journal went on, a node that halts in the room of this pass has a cause for it
    abbrev pub HaltsInPass : FunctionData → Which → Log D → Log D → ℕ → NumberedSeat H h → NumberedSeat H h → Result Progress Halt → Type 0
    HaltsInPass function pass old new room s t result =
        MayHaltFor disk (IsTooLargeFor function pass (four_of s)) old new room (words_of (four_of t) pass) result

    -- the same of a room of all, by its function and its pass
    abbrev pub LogsTurnAmong : Log D → Log D → ℕ → List (NumberedSeat H h) → List (NumberedSeat H h) → Result Progress Halt → Type 0
    LogsTurnAmong old new room s t result =
        disk.is_honest old.disk → old.going ≡ true
        → ForRoom room (PlayedIn pass_texts disk old new room result) s t

    abbrev pub HaltsAmong : FunctionData → Log D → Log D → ℕ → List (NumberedSeat H h) → List (NumberedSeat H h) → Result Progress Halt → Type 0
    HaltsAmong function old new room s t result =
        old.going ≡ true
        → IfErr result (λ halt.
        ForRoom room (HaltsIn disk (IsTooLargeFor function (pass_of room)) old new room halt) s t)
