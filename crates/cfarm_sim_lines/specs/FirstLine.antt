-- The first line of a schedule, byte by byte: the sizes of quorums that meet have one digit each.
use Rattle.std.specs.Prelude.{◌≡◌, ◌⊎◌, ℕ, ◌+◌, List, [], ◌∷◌}
use Rattle.paxos_core_world.specs.Quorum.{majority_sizes, Sizes}

-- the line that says the number of nodes alone
abbrev pub short_line : ℕ → List ℕ
short_line n = 110 ∷ 111 ∷ 100 ∷ 101 ∷ 115 ∷ 32 ∷ (48 + n) ∷ []

-- the line that says all three numbers
abbrev pub long_line : Sizes → List ℕ
long_line q = 110 ∷ 111 ∷ 100 ∷ 101 ∷ 115 ∷ 32 ∷ (48 + q.nodes) ∷ 32 ∷ (48 + q.promise) ∷ 32 ∷ (48 + q.accept) ∷ []

-- the line is one of these
abbrev pub IsSpelled : List ℕ → Sizes → Type 0
IsSpelled line q = (line ≡ long_line q) ⊎ ((line ≡ short_line q.nodes) × (q ≡ majority_sizes q.nodes))
