-- When a state of native code stands for one of Linear.
use Rattle.std.specs.Prelude.{◌≡◌, List, Option, Some, slice_get}
use Rattle.lang_base.specs.declared.program.Named.{Named}
use Rattle.lang_base.specs.declared.program.Program.{Program}
use Rattle.machine.specs.Frames.{State}
use Rattle.linear_language.specs.Function.{FunctionData}
use Rattle.x86_state.specs.declared.cell.Cell.{Cell}
use Rattle.x86_state.specs.declared.cell.Spot.{Spot}
use Rattle.x86_state.specs.State.{State as Native}
use Rattle.native_lowering_definition.specs.Frames.{frame_of}
use Rattle.native_lowering_definition.specs.Layout.{place_in, facts_in}
use Rattle.native_lowering_relation.specs.Knowing.{IsSo}
use Rattle.native_lowering_relation.specs.Standing.{Held, Holds, laid, put_back}
use Rattle.native_lowering_relation.specs.Waiting.{Wait}

-- Both run the same function, native code at the block of Linear's place. Globals and output are the same. Words that are defined are in
-- their registers and in the frame on top of the stack, what is known at the place is so, and below wait the callers.
pub record Related (p : Program FunctionData) (s : State) (t : Native) : Type 0 where
  pub named : Named FunctionData
  pub held : Held
  pub back : Option Spot
  pub under : List Cell
  pub there : slice_get p.functions s.function ≡ Some named
  pub function : t.function ≡ s.function
  pub place : t.place ≡ place_in p named.function s.place
  pub globals : t.globals ≡ s.here.globals
  pub output : t.output ≡ s.here.output
  pub known : IsSo (facts_in named.function s.place) s.here.registers t.flags t.registers
  pub holds : Holds named.function s.here.registers s.here.slots t.registers held
  pub stands : t.stack ≡ laid held back under
  pub callers : Wait p s.callers back (put_back (frame_of named.function).saved held.saved t.registers) under
