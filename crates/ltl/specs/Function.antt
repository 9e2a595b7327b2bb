-- Functions of LTL as plain data, and those that are in range (Leroy 2009, section 3.3).
use Rattle.std.specs.Prelude.{ℕ, ◌<◌, ◌≤◌, List, [], length, Option, Some, None}
use Rattle.std.specs.List.{AllByRecursion}
use Rattle.machine.specs.Location.{Location}
use Rattle.machine.specs.Move.{Move}
use Rattle.machine.specs.declared.act.Act.{Act}
use Rattle.machine.specs.Fits.{ParametersFit, MovesFit, ActFits, CallFits, TestFits, ValueFits, slot_limit, move_limit, argument_limit}
use Rattle.ltl.specs.declared.block.Block.{Block}
use Rattle.ltl.specs.declared.block.Body.{Body}
use Rattle.ltl.specs.declared.block.Body.TheVariants.{Go, Call, Branch, Return}
pub use Rattle.lang_helpers.specs.Limits.{node_limit}

-- where the parameters lie, the number of slots, the entry, and the blocks by node number
pub record FunctionData : Type 0 where
  pub parameters : List Location
  pub slots : ℕ
  pub entry : ℕ
  pub blocks : List Block

abbrev pub MaybeActFits : Option Act → Type 0
MaybeActFits None = Unit {0}
MaybeActFits (Some act) = ActFits act

-- a body among so many slots and nodes
abbrev pub BodyFits : ℕ → ℕ → Body → Type 0
BodyFits slots nodes (Go act after successor) = MaybeActFits act × MovesFit slots after × (successor < nodes)
BodyFits slots nodes (Call function arguments target after successor) = CallFits slots function arguments target × MovesFit slots after × (successor < nodes)
BodyFits slots nodes (Branch test taken other) = TestFits test × (taken < nodes) × (other < nodes)
BodyFits slots nodes (Return value) = ValueFits value

pub record BlockFits (slots nodes : ℕ) (b : Block) : Type 0 where
  pub before : MovesFit slots b.before
  pub body : BodyFits slots nodes b.body

-- the moves behind a body's instruction
abbrev pub after_of : Body → List Move
after_of (Go act after successor) = after
after_of (Call function arguments target after successor) = after
after_of (Branch test taken other) = []
after_of (Return value) = []

-- where the arguments of a call lie
abbrev pub arguments_of : Body → List Location
arguments_of (Go act after successor) = []
arguments_of (Call function arguments target after successor) = arguments
arguments_of (Branch test taken other) = []
arguments_of (Return value) = []

-- lists whose lengths a byte can say
pub record HasShortLists (b : Block) : Type 0 where
  pub before : length b.before ≤ move_limit
  pub after : length (after_of b.body) ≤ move_limit
  pub arguments : length (arguments_of b.body) ≤ argument_limit

-- every part is in range
pub record IsFunction (f : FunctionData) : Type 0 where
  pub parameters : ParametersFit f.slots f.parameters
  pub slots : f.slots ≤ slot_limit
  pub entry : f.entry < length f.blocks
  pub nodes : length f.blocks ≤ node_limit
  pub each : AllByRecursion (BlockFits f.slots (length f.blocks)) f.blocks
