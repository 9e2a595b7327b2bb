-- What a seat has seen of a cell.
use Rattle.std.specs.Prelude.{◌≡◌, ℕ, List, length, map, Option, Some, None, IfSome, slice_index_or, slice_set}
use Rattle.rooms_cells.specs.declared.sight.Put.{Put}
use Rattle.rooms_cells.specs.declared.sight.Put.TheVariants as put

-- of which cell, and the value, if it was seen
pub record SightOf (T : Type 0) : Type 0 where
  pub cell : ℕ
  pub value : Option T

-- what is held is what the cell is known to show
abbrev pub Holds : {A T : Type 0} → (A → T) → Option A → Option A → Type 0
Holds f known None = Unit {0}
Holds f None (Some y) = ⊥
Holds f (Some x) (Some y) = f y ≡ f x

-- the value b, that is x, was put into the cell, or came back and left all as it was
abbrev pub IsPut : {B T : Type 0} → Put B → B → T → SightOf T → SightOf T → Type 0
IsPut put.Yes b x old new = (old.value ≡ None) × (new ≡ record old { value = Some x })
IsPut (put.No back) b x old new = (back ≡ b) × (new ≡ old)
IsPut (put.NoMemory back) b x old new = (back ≡ b) × (new ≡ old)

-- what is seen of no cell
abbrev pub nothing_seen : {T : Type 0} → SightOf T
nothing_seen = record { cell = 0; value = None }

-- what is seen of cell j
abbrev pub sight_at : {T : Type 0} → List (SightOf T) → ℕ → SightOf T
sight_at sights j = slice_index_or sights j nothing_seen

-- the value seen in cell j
abbrev pub value_at : {T : Type 0} → List (SightOf T) → ℕ → Option T
value_at sights j = (sight_at sights j).value

-- the names of the cells, in their order
abbrev pub names_of : {T : Type 0} → List (SightOf T) → List ℕ
names_of sights = map (λ s. s.cell) sights

-- what was seen stays
abbrev pub StaysSeen : {T : Type 0} → Option T → Option T → Type 0
StaysSeen before after = IfSome before (λ x. after ≡ Some x)

-- cell j alone was read
pub record Read {T : Type 0} (j : ℕ) (old new : List (SightOf T)) : Type 0 where
  pub at : SightOf T
  pub cell : at.cell ≡ (sight_at old j).cell
  pub stays : StaysSeen (value_at old j) at.value
  pub after : new ≡ slice_set old j at

-- nothing is seen of these cells
abbrev pub unseen : {T : Type 0} → List ℕ → List (SightOf T)
unseen names = map (λ c. record { cell = c; value = None }) names

-- the value b, that is x, was put into cell j, or came back
pub record IsPutAt {B T : Type 0} (told : Put B) (b : B) (x : T) (j : ℕ) (old new : List (SightOf T)) : Type 0 where
  pub at : SightOf T
  pub outcome : IsPut told b x (sight_at old j) at
  pub after : new ≡ slice_set old j at

-- the sights are of the cells of the shelf with these names
pub record IsOnShelf {T : Type 0} (shelf : List ℕ) (sights : List (SightOf T)) : Type 0 where
  pub size : length sights ≡ 7
  pub names : names_of sights ≡ shelf
