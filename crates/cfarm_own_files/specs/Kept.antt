-- What is kept by a command that reads one file and puts another.
use Rattle.std.specs.Prelude.{◌≡◌, ◌⊎◌, ℕ, List, true, false}
use Rattle.cfarm_files.specs.declared.files.Files as filing
use Rattle.cfarm_options.specs.Names.{is_taken}
use Rattle.cfarm_own_files.specs.Own.{MayBeOne, MayBeTwo, beside}

module _ {F D L : Type 0} (over : filing.Ghosts F D L) (files : F) (read path : List ℕ) where
  -- what is put there takes the place of the file that is read, or of a file of a build's by its name
  abbrev pub IsKept : Type 0
  IsKept = (is_taken read path ≡ true) ⊎ MayBeOne over files read path ⊎ MayBeOne over files read (beside path)

  -- of none of these
  pub record IsNotKept : Type 0 where
    pub name : is_taken read path ≡ false
    pub not_read : MayBeTwo over files read path
    pub not_beside : MayBeTwo over files read (beside path)
