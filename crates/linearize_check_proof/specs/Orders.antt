-- The orders by which a function can be laid out.
use Rattle.std.specs.Prelude.{◌≡◌, ℕ, ◌<◌, ◌^◌, List, length, Some, slice_get, All, Contains}
use Rattle.linear_language.specs.Fits.{AreDistinct}
use Rattle.ltl.specs.Function as ltl
use Rattle.linearize_check_proof.specs.Layout.{successors_of}

-- not too many numbers (a written order has a count of 16 bits), each of them a node, and the entry first
pub record ListsNodes (f : ltl.FunctionData) (order : List ℕ) : Type 0 where
  pub few : length order < 2 ^ 16
  pub entry : slice_get order 0 ≡ Some f.entry
  pub nodes : All (λ n. n < length f.blocks) order

-- besides, no node twice, and each successor of a listed node listed
pub record IsOrder (f : ltl.FunctionData) (order : List ℕ) : Type 0 where
  pub lists : ListsNodes f order
  pub distinct : AreDistinct order
  pub closed : All (λ n. All (Contains order) (successors_of (slice_get f.blocks n))) order
