-- How the table finds the newest binding of a name without a search: each name has a number, its symbol, and the
-- entries of a symbol are linked, from the newest to the oldest. The place of an entry is the number of those older than
-- it; a list of links has the newest first.
use Rattle.std.specs.Prelude.{◌≡◌, ℕ, ◌<◌, ◌≤◌, ◌==◌, List, [], ◌∷◌, length, map, reverse, Option, Some, None, if◌then◌else◌, Vec}
use Rattle.std.specs.List.{slice_index_or}
use Rattle.c_checker_scopes.specs.declared.binding.Entry.{Entry}
use Rattle.c_checker_scopes.specs.declared.binding.Link.{Link}
use Rattle.c_checker_scopes.specs.Bound.{Bound}

-- the names, each at its symbol
abbrev pub names_of : {A : Type 0} → List (Vec ℕ A) → List (List ℕ)
names_of keys = map (λ key. key.items) keys

-- the name of a symbol
abbrev pub name_of : List (List ℕ) → ℕ → List ℕ
name_of names symbol = slice_index_or names symbol []

-- what an entry binds
abbrev pub bound_of : {T : Type 0} → List (List ℕ) → Entry T → Bound T
bound_of names e = record { name = name_of names e.link.symbol; depth = e.depth; value = e.value }

-- what the entries bind, where they come with the oldest first
abbrev pub bounds_of : {T : Type 0} → List (List ℕ) → List (Entry T) → List (Bound T)
bounds_of names entries = map (bound_of names) (reverse entries)

-- how they are linked
abbrev pub links_of : {T : Type 0} → List (Entry T) → List Link
links_of entries = map (λ e. e.link) (reverse entries)

-- the place of a symbol's newest entry
abbrev pub newest_of : ℕ → List Link → Option ℕ
newest_of symbol [] = None
newest_of symbol (k ∷ ks) = if symbol == k.symbol then Some (length ks) else newest_of symbol ks

-- each has the symbol of a name, and knows the newest of its symbol among those older than it
abbrev pub AreLinked : ℕ → List Link → Type 0
AreLinked count [] = Unit {0}
AreLinked count (k ∷ ks) = (k.symbol < count) × (k.shadowed ≡ newest_of k.symbol ks) × AreLinked count ks

-- what is always true of a table
pub record IsTable (names : List (List ℕ)) (latest : List (Option ℕ)) (links : List Link) : Type 0 where
  -- no name has two symbols
  pub distinct : (i j : ℕ) → i < length names → j < length names → name_of names i ≡ name_of names j → i ≡ j
  -- each symbol has a row; there may be one row more, which was made for a name that there was no memory for
  pub rows : length names ≤ length latest
  -- a symbol's row has the place of its newest entry
  pub newest : (symbol : ℕ) → symbol < length latest → slice_index_or latest symbol None ≡ newest_of symbol links
  -- the entries are linked by their symbols
  pub linked : AreLinked (length names) links

-- each symbol keeps its name
abbrev pub KeepsNames : List (List ℕ) → List (List ℕ) → Type 0
KeepsNames old new = (symbol : ℕ) → symbol < length old → name_of new symbol ≡ name_of old symbol

-- for whatever entries a table was right, it is right
abbrev pub StaysTable : List (List ℕ) → List (Option ℕ) → List (List ℕ) → List (Option ℕ) → Type 0
StaysTable names latest names' latest' = (links : List Link) → IsTable names latest links → IsTable names' latest' links
