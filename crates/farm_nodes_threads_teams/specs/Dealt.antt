-- How nodes are dealt to workers, each on its stack, and come back.
use Rattle.std.specs.Prelude.{◌≡◌, ℕ, zero, suc, ◌%◌, List, [], ◌∷◌, ◌++◌, length, replicate}
use Rattle.std.specs.List.{AllZip}

-- with x behind the list at this place
abbrev pub add_at : {X : Type 0} → ℕ → X → List (List X) → List (List X)
add_at place x [] = []
add_at zero x (team ∷ teams) = (team ++ x ∷ []) ∷ teams
add_at (suc place) x (team ∷ teams) = team ∷ add_at place x teams

-- dealt round to so many, the first of them being number i; the last is dealt first
abbrev pub deal : {X : Type 0} → ℕ → ℕ → List X → List (List X)
deal workers i [] = replicate workers []
deal workers i (x ∷ xs) = add_at (i % workers) x (deal workers (suc i) xs)

-- The first of these are here, each as R says, and the others are with the teams, each as S says.
pub record AreDealt {X P : Type 0} (R : X → X → Type 0) (S : X → P → Type 0) (workers : ℕ) (xs here : List X)
    (teams : List (List P)) : Type 0 where
  pub first : List X
  pub rest : List X
  pub whole : xs ≡ first ++ rest
  pub back : AllZip R first here
  pub out : AllZip (AllZip S) (deal workers (length first) rest) teams

-- one is as the other
abbrev pub IsSame : {X : Type 0} → X → X → Type 0
IsSame x y = y ≡ x

-- what was dealt, of whatever list, is so behind it
pub record StaysDealt {X P : Type 0} (R : X → X → Type 0) (S : X → P → Type 0) (workers : ℕ) (here : List X) (teams : List (List P))
    (now : List X) (later : List (List P)) : Type 0 where
  pub all : (xs : List X) → AreDealt R S workers xs here teams → AreDealt R S workers xs now later
