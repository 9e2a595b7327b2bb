-- How an instruction and its body change what they work on, beside each other.
use Rattle.std.specs.Prelude.{◌≡◌, ℕ, Option, Some, slice_set}
use Rattle.locations.specs.declared.location.Location.{Location}
use Rattle.rtl_passes.specs.Data as rtl_data
use Rattle.ltl.specs.Data.{Data, put_at}
use Rattle.ltl.specs.Frames.{after_call}
use Rattle.alloc_check_rules.specs.declared.change.Change.{Change}
use Rattle.alloc_check_rules.specs.declared.change.Change.TheVariants.{Nothing, Defines, Drops, Copies}
use Rattle.alloc_check_rules.specs.Holding.{Covers}

-- the same words in registers and slots
pub record SameLocations (e e' : Data) : Type 0 where
  pub registers : e'.registers ≡ e.registers
  pub slots : e'.slots ≡ e.slots

pub record IsKept (d : rtl_data.Data) (e : Data) (d' : rtl_data.Data) (e' : Data) : Type 0 where
  pub registers : d'.registers ≡ d.registers
  pub locations : SameLocations e e'

-- the register and the location get one word, where the register gets one
pub record IsDefined (r : ℕ) (k : Location) (d : rtl_data.Data) (e : Data) (d' : rtl_data.Data) (e' : Data) : Type 0 where
  pub first : Option ℕ
  pub second : Option ℕ
  pub covers : Covers first second
  pub registers : d'.registers ≡ slice_set d.registers r first
  pub locations : SameLocations (put_at k second e) e'

pub record IsDropped (r : ℕ) (d : rtl_data.Data) (e : Data) (d' : rtl_data.Data) (e' : Data) : Type 0 where
  pub value : Option ℕ
  pub registers : d'.registers ≡ slice_set d.registers r value
  pub locations : SameLocations e e'

pub record IsCopied (target source : ℕ) (d : rtl_data.Data) (e : Data) (d' : rtl_data.Data) (e' : Data) : Type 0 where
  pub registers : d'.registers ≡ slice_set d.registers target (rtl_data.value_at source d)
  pub locations : SameLocations e e'

-- an instruction and its body come from d and e to d' and e'
abbrev pub Changed : Change → rtl_data.Data → Data → rtl_data.Data → Data → Type 0
Changed Nothing d e d' e' = IsKept d e d' e'
Changed (Defines r k) d e d' e' = IsDefined r k d e d' e'
Changed (Drops r) d e d' e' = IsDropped r d e d' e'
Changed (Copies target source) d e d' e' = IsCopied target source d e d' e'

-- callers that go on: r0 to r3 are lost in the second
pub record IsBack (d : rtl_data.Data) (e : Data) (d' : rtl_data.Data) (e' : Data) : Type 0 where
  pub registers : d'.registers ≡ d.registers
  pub locations : e'.registers ≡ after_call e.registers
  pub slots : e'.slots ≡ e.slots

-- the second comes to data as well, so changed beside the first's, with the same globals and output
pub record IsDone (change : Change) (d : rtl_data.Data) (e : Data) (d' : rtl_data.Data) (o : Option Data) : Type 0 where
  pub left : Data
  pub is : o ≡ Some left
  pub defines : Changed change d e d' left
  pub globals : left.globals ≡ d'.globals
  pub output : left.output ≡ d'.output
