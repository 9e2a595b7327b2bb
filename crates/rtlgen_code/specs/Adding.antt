-- Code that adds a piece to a graph in the making. Where nodes were left out of the graph, more were to be added than can be
-- numbered.
use Rattle.std.specs.Prelude.{◌≡◌, ℕ, ◌+◌, ◌<◌, ◌≤◌, ◌++◌, length, true, false}
use Rattle.rtl_language.specs.Function.{node_limit}
use Rattle.rtlgen_definition.specs.Pieces.{Piece}
use Rattle.rtlgen_code.specs.declared.graph.Graph.{Graph}

-- the piece goes on at the node `next`, and begins at the node `begins`
pub record Adds (piece : Piece) (next : ℕ) (before after : Graph) (begins : ℕ) : Type 0 where
  pub had_space : after.is_full ≡ false → before.is_full ≡ false
  pub nodes : after.is_full ≡ false → after.nodes.items ≡ before.nodes.items ++ (piece next (length before.nodes.items)).nodes
  pub entry : after.is_full ≡ false → begins ≡ (piece next (length before.nodes.items)).entry
  pub too_many : after.is_full ≡ true → before.is_full ≡ false → node_limit < length before.nodes.items + length (piece next (length before.nodes.items)).nodes
  pub within : length before.nodes.items ≤ node_limit → length after.nodes.items ≤ node_limit
