-- How the files of a pair are opened.
use Rattle.std.specs.Prelude.{◌≡◌, ◌≤◌, ℕ, List, [], ◌∷◌, length, true, false, nat_eq, if◌then◌else◌}
use Rattle.std.specs.Fs.{asks_read, asks_write, asks_append, asks_truncate, asks_create, asks_create_new}
use Rattle.std.specs.declared.fs.options.OpenOptions.{OpenOptions}
use Rattle.durable_pair.specs.Images.{IsSpent}

-- to be read and written at any place, as it is: nothing is made and nothing cut
pub record OpensWhatIsThere (how : OpenOptions) : Type 0 where
  pub reads : asks_read how ≡ true
  pub writes : asks_write how ≡ true
  pub appends : asks_append how ≡ false
  pub cuts : asks_truncate how ≡ false
  pub makes : asks_create how ≡ false
  pub makes_new : asks_create_new how ≡ false

-- what is read of an old file with these bytes: all of it where it counts, that is begins with a C, else its first byte
abbrev pub as_read : List ℕ → List ℕ
as_read [] = []
as_read (first ∷ rest) = if nat_eq first 67 then first ∷ rest else first ∷ []

-- bytes of an old file that is not written: at most one, and they count no more
pub record AreSpent (bytes : List ℕ) : Type 0 where
  pub few : length bytes ≤ 1
  pub spent : IsSpent bytes
