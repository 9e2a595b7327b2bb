-- The callers that wait, and their frames below that of the running function.
use Rattle.std.specs.Prelude.{◌≡◌, ℕ, ◌+◌, List, [], ◌∷◌, length, Option, Some, None, slice_get}
use Rattle.lang_base.specs.declared.program.Named.{Named}
use Rattle.lang_base.specs.declared.program.Program.{Program}
use Rattle.locations.specs.declared.location.Location.{Location}
use Rattle.machine.specs.Frames.{Frame as Caller, after_call}
use Rattle.linear_language.specs.declared.instruction.Instruction.TheVariants.{Call}
use Rattle.linear_language.specs.Function.{FunctionData}
use Rattle.x86_state.specs.declared.cell.Cell.{Cell}
use Rattle.x86_state.specs.declared.cell.Spot.{Spot}
use Rattle.native_lowering_definition.specs.Blocks.{arity_of}
use Rattle.native_lowering_definition.specs.Frames.{frame_of}
use Rattle.native_lowering_definition.specs.Layout.{place_in}
use Rattle.native_lowering_definition.specs.Lowering.{around_of}
use Rattle.native_lowering_definition.specs.Moving.{passes}
use Rattle.native_lowering_relation.specs.Standing.{Held, Holds, laid, put_back}

-- A caller goes on at this place: behind the call in the block of the instruction before its own place, which calls a function that
-- is there and takes so many arguments.
pub record GoesOnAt (p : Program FunctionData) (f : FunctionData) (caller : Caller) (to : Spot) : Type 0 where
  pub before : ℕ
  pub callee : ℕ
  pub arguments : List Location
  pub calls : slice_get f.code before ≡ Some (Call callee arguments caller.target)
  pub takes : arity_of (around_of p f) callee ≡ Some (length arguments)
  pub next : caller.place ≡ before + 1
  pub moves : caller.moves ≡ []
  pub function : to.function ≡ caller.function
  pub place : to.place ≡ place_in p f before + (length (passes (frame_of f) arguments) + 1)

-- A caller waits where the function above it goes back to, its words in these registers and in the frame on top; what is below is as
-- the last says of where that frame goes back to, of the registers once its saved ones are put back, and of the rest.
pub record Waits (p : Program FunctionData) (caller : Caller) (back : Option Spot) (words : List ℕ) (cells : List Cell)
    (Under : Option Spot → List ℕ → List Cell → Type 0) : Type 0 where
  pub to : Spot
  pub named : Named FunctionData
  pub held : Held
  pub further : Option Spot
  pub rest : List Cell
  pub goes_back : back ≡ Some to
  pub there : slice_get p.functions caller.function ≡ Some named
  pub goes_on : GoesOnAt p named.function caller to
  pub holds : Holds named.function (after_call caller.registers) caller.slots words held
  pub stands : cells ≡ laid held further rest
  pub under : Under further (put_back (frame_of named.function).saved held.saved words) rest

-- each caller waits so, and below the last, main, there is nothing
abbrev pub Wait : Program FunctionData → List Caller → Option Spot → List ℕ → List Cell → Type 0
Wait p [] back words cells = (back ≡ None) × (cells ≡ [])
Wait p (caller ∷ callers) back words cells = Waits p caller back words cells (Wait p callers)
