-- What was made in an empty graph.
use Rattle.std.proofs.Common.{◌≡◌, ◌≤◌, ℕ, zero, suc, ◌+◌, [], ◌∷◌, ◌++◌, length, ap, subst, ◌∙◌, arith}
use Rattle.std.specs.Prelude.{false}
use Rattle.rtl_language.specs.Function.{node_limit}
use Rattle.rtlgen_definition.specs.Gen.{numbers_from}
use Rattle.rtlgen_definition.specs.Pieces.{Piece}
use Rattle.rtlgen_code.specs.declared.graph.Graph.{Graph}
use Rattle.rtlgen_code.specs.Adding.{Adds}

pub made_nodes : {piece : Piece} {next begins : ℕ} {g h : Graph} → Adds piece next g h begins → g.nodes.items ≡ [] → h.is_full ≡ false → h.nodes.items ≡ (piece next 0).nodes
made_nodes {piece} {next} {begins} {g} {h} a none space = subst (λ xs. h.nodes.items ≡ xs ++ (piece next (length xs)).nodes) none (a.nodes space)

pub made_entry : {piece : Piece} {next begins : ℕ} {g h : Graph} → Adds piece next g h begins → g.nodes.items ≡ [] → h.is_full ≡ false → begins ≡ (piece next 0).entry
made_entry {piece} {next} {begins} {g} {h} a none space = subst (λ xs. begins ≡ (piece next (length xs)).entry) none (a.entry space)

pub made_few : {piece : Piece} {next begins : ℕ} {g h : Graph} → Adds piece next g h begins → g.nodes.items ≡ [] → h.is_full ≡ false → length (piece next 0).nodes ≤ node_limit
made_few {piece} {next} {begins} {g} {h} a none space =
    let few : length g.nodes.items ≤ node_limit = omega (arith, ap length none) in
    subst (λ n. n ≤ node_limit) (ap length (made_nodes a none space)) (a.within few)

-- so many numbers, and one more
pub numbers_more : (first n : ℕ) → numbers_from first (suc n) ≡ numbers_from first n ++ (first + n) ∷ []
numbers_more first zero = ap (λ m. m ∷ []) (omega arith)
numbers_more first (suc n) = ap (λ l. first ∷ l) (numbers_more (suc first) n) ∙ ap (λ m. first ∷ (numbers_from (suc first) n ++ m ∷ [])) (omega arith)
