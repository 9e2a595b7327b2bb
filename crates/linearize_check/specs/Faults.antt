-- Where an output is not laid out by an order: the form first, and then node by node.
use Rattle.std.specs.Prelude.{◌≡◌, ℕ, zero, suc, ◌+◌, ◌<◌, ◌≤◌, List, [], ◌∷◌, ◌++◌, length, Option, Some, None, slice_get, slice_index, take, drop, min, All, Contains}
use Rattle.ltl.specs.declared.block.Block.{Block}
use Rattle.ltl.specs.Function as ltl
use Rattle.linear_language.specs.declared.instruction.Instruction.{Instruction}
use Rattle.linear_language.specs.Function as linear
use Rattle.lang_base.specs.declared.fault.Fault.{Fault}
use Rattle.lang_base.specs.declared.fault.Fault.TheVariants.{Shape, Node}
use Rattle.linearize_check_proof.specs.Layout.{stretch, order_code, successors_of}
use Rattle.linearize_check_proof.specs.Orders.{ListsNodes}
use Rattle.linearize_check_proof.specs.Rules.{HasFrame, IsLaidOut}

-- The form: the order lists nodes, the entry first; the frame is the same; no code stands behind the last stretch.
pub record HasShape (input : ltl.FunctionData) (output : linear.FunctionData) (order : List ℕ) : Type 0 where
  pub lists : ListsNodes input order
  pub frame : HasFrame input output
  pub no_more : length output.code ≤ length (order_code input.blocks order)

-- the node at a position of the order is not listed before it
abbrev pub IsFreshAt : List ℕ → ℕ → Type 0
IsFreshAt order i = ¬ Contains (take i order) (slice_index order i)

-- all its successors are listed
abbrev pub IsClosedAt : List Block → List ℕ → ℕ → Type 0
IsClosedAt blocks order i = All (Contains order) (successors_of (slice_get blocks (slice_index order i)))

-- the node at a position is where it may stand
abbrev pub IsOrderedAt : List Block → List ℕ → ℕ → Type 0
IsOrderedAt blocks order i = IsFreshAt order i × IsClosedAt blocks order i

-- the stretch of the first listed node
abbrev pub first_stretch : List Block → List ℕ → List Instruction
first_stretch blocks [] = []
first_stretch blocks (n ∷ ns) = stretch n (slice_get blocks n) ns []

-- how much code the stretches in front of a position are
abbrev pub place_at : List Block → List ℕ → ℕ → ℕ
place_at blocks [] i = 0
place_at blocks (n ∷ ns) zero = 0
place_at blocks (n ∷ ns) (suc i) = length (first_stretch blocks (n ∷ ns)) + place_at blocks ns i

abbrev pub BeginsWith : List Instruction → List Instruction → Type 0
BeginsWith code front = (rest : List Instruction) × (code ≡ front ++ rest)

-- at its place in the code its stretch stands
abbrev pub StandsAt : List Block → List Instruction → List ℕ → ℕ → Type 0
StandsAt blocks code order i = BeginsWith (drop (place_at blocks order i) code) (first_stretch blocks (drop i order))

-- nothing is wrong with the node at a position
pub record IsRightAt (blocks : List Block) (code : List Instruction) (order : List ℕ) (i : ℕ) : Type 0 where
  pub fresh : IsFreshAt order i
  pub closed : IsClosedAt blocks order i
  pub stands : StandsAt blocks code order i

-- the lowest node at the first so many positions with which something is wrong
pub record IsLowestWrong (Right : ℕ → Type 0) (order : List ℕ) (count n : ℕ) : Type 0 where
  pub position : ℕ
  pub within : position < count
  pub node : slice_index order position ≡ n
  pub wrong : ¬ Right position
  pub lower : (i : ℕ) → i < count → slice_index order i < n → Right i

-- that node, or none where all is right
abbrev pub TellsLowest : (ℕ → Type 0) → List ℕ → ℕ → Option ℕ → Type 0
TellsLowest Right order count None = (i : ℕ) → i < count → Right i
TellsLowest Right order count (Some n) = IsLowestWrong Right order count n

-- the lowest node whose stretch is not what the code has in its place
abbrev pub TellsMisplaced : List Block → List Instruction → List ℕ → Option ℕ → Type 0
TellsMisplaced blocks code order found = TellsLowest (StandsAt blocks code order) order (length order) found

-- code stands behind the last stretch
abbrev pub IsLonger : List Block → List Instruction → List ℕ → Type 0
IsLonger blocks code order = length (order_code blocks order) < length code

-- the lower of two nodes, where there are any
abbrev pub lesser : Option ℕ → Option ℕ → Option ℕ
lesser None b = b
lesser (Some a) None = Some a
lesser (Some a) (Some b) = Some (min a b)

-- What is said of an output and an order: none where the one is laid out by the other, else the form, else the lowest node.
abbrev pub TellsFault : ltl.FunctionData → linear.FunctionData → List ℕ → Option Fault → Type 0
TellsFault input output order None = IsLaidOut input output order
TellsFault input output order (Some Shape) = ¬ HasShape input output order
TellsFault input output order (Some (Node n)) = HasShape input output order × IsLowestWrong (IsRightAt input.blocks output.code order) order (length order) n
