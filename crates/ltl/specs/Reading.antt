-- How a function of LTL is read.
use Rattle.std.specs.Prelude.{ℕ, List, [], ◌∷◌, Some, None}
use Rattle.lang_helpers.specs.Graphs.{node, graph_of}
use Rattle.lang_base.specs.Reading.{Reading, made, both, more, Table, follow, coded, tagged}
use Rattle.machine.specs.Location.{Location}
use Rattle.machine.specs.Move.{Move}
use Rattle.machine.specs.Reading.{moves, call, asked, value, act, frame}
use Rattle.ltl.specs.declared.block.Block.{Block}
use Rattle.ltl.specs.declared.block.Body.{Body}
use Rattle.ltl.specs.declared.block.Body.TheVariants.{Go, Call, Branch, Return}
use Rattle.ltl.specs.Function.{FunctionData}
use Rattle.ltl.specs.Spelling.{tag}

-- the successor, and the moves behind the instruction
unfoldable pub going : ℕ → ℕ → Reading (ℕ × List Move)
going slots nodes bytes = both (node nodes) (λ successor. moves slots) bytes

-- what a call names, its successor, and the moves behind it
unfoldable pub calling : ℕ → ℕ → Reading Body
calling slots nodes bytes = made (λ p. Call p.0.0 p.0.1.0 p.0.1.1 p.1.1 p.1.0) (both (call slots) (λ c. going slots nodes)) bytes

-- a test, and where it goes on
unfoldable pub branch : ℕ → Reading Body
branch nodes bytes = made (λ p. Branch p.0 p.1.0 p.1.1) (both asked (λ t. both (node nodes) (λ taken. node nodes))) bytes

-- what follows the codes that are not those of plain instructions, among so many slots and nodes
abbrev pub bodies : ℕ → ℕ → Table Body
bodies slots nodes =
    (0, made (λ p. Go None p.1 p.0) (going slots nodes)) ∷
    (6, calling slots nodes) ∷
    (8, branch nodes) ∷
    (9, made (λ value. Return value) value) ∷ []

-- the other codes are those of plain instructions
unfoldable pub plain : ℕ → ℕ → ℕ → Reading Body
plain slots nodes code bytes = made (λ p. Go (Some p.0) p.1.1 p.1.0) (both (act code) (λ a. going slots nodes)) bytes

unfoldable pub body : ℕ → ℕ → Reading Body
body slots nodes bytes = coded (follow (bodies slots nodes) (plain slots nodes)) bytes

unfoldable pub block : ℕ → ℕ → Reading Block
block slots nodes bytes = made (λ p. record { before = p.0; body = p.1 }) (both (moves slots) (λ before. body slots nodes)) bytes

-- as many blocks as there are nodes
unfoldable pub blocks : ℕ → ℕ → Reading (List Block)
blocks slots nodes bytes = more (λ before. block slots nodes) [] nodes bytes

-- the entry and the blocks
unfoldable pub graph : ℕ → Reading (ℕ × List Block)
graph slots bytes = graph_of (blocks slots) bytes

-- what stands behind the tag
unfoldable pub parts : Reading ((List Location × ℕ) × (ℕ × List Block))
parts bytes = both frame (λ f. graph f.1) bytes

unfoldable pub function : Reading FunctionData
function bytes = tagged tag (made (λ p. record { parameters = p.0.0; slots = p.0.1; entry = p.1.0; blocks = p.1.1 }) parts) bytes
