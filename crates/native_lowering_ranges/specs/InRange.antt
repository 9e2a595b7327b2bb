-- States of Linear in range: each defined word has 32 bits, and each global as many cells as are declared.
use Rattle.std.specs.Prelude.{◌≡◌, ℕ, ◌<◌, ◌^◌, List, Some, slice_get}
use Rattle.std.specs.List.{AllByRecursion}
use Rattle.lang_base.specs.declared.program.Global.{Global}
use Rattle.machine.specs.Data.{Data}
use Rattle.machine.specs.Frames.{State, Frame as Caller}
use Rattle.native_lowering_ranges.specs.Range.{AreWords, AreDeclared}

-- the cells of globals
abbrev pub AreCells : List (List ℕ) → Type 0
AreCells globals = (k i x : ℕ) (cells : List ℕ) → slice_get globals k ≡ Some cells → slice_get cells i ≡ Some x → x < 2 ^ 32

pub record DataInRange (declared : List Global) (d : Data) : Type 0 where
  pub registers : AreWords d.registers
  pub slots : AreWords d.slots
  pub globals : AreCells d.globals
  pub declared_so : AreDeclared declared d.globals

pub record CallerInRange (caller : Caller) : Type 0 where
  pub registers : AreWords caller.registers
  pub slots : AreWords caller.slots

pub record InRange (declared : List Global) (s : State) : Type 0 where
  pub here : DataInRange declared s.here
  pub callers : AllByRecursion CallerInRange s.callers
