-- A visit of a node in the search: the marks and the stack before it, and behind it.
use Rattle.std.specs.Prelude.{◌≡◌, ℕ, List, ◌++◌, Some, Bool, true, false, slice_get, slice_set, Result, OnOk}
use Rattle.ltl.specs.declared.block.Block.{Block}
use Rattle.linearize_check_proof.specs.Layout.{successors_of}

-- where the node has its mark, nothing changes
abbrev pub LeavesMarked : {A E : Type 0} → ℕ → List Bool → List ℕ → List Bool → List ℕ → Result A E → Type 0
LeavesMarked node marks pending marks' pending' visited =
    slice_get marks node ≡ Some true → OnOk visited ((marks' ≡ marks) × (pending' ≡ pending))

-- where it has none, it gets one, and its successors lie on the stack
abbrev pub MarksNew : {A E : Type 0} → List Block → ℕ → List Bool → List ℕ → List Bool → List ℕ → Result A E → Type 0
MarksNew blocks node marks pending marks' pending' visited =
    slice_get marks node ≡ Some false
    → OnOk visited ((marks' ≡ slice_set marks node true) × (pending' ≡ pending ++ successors_of (slice_get blocks node)))
