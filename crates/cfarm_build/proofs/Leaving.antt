-- What is left of the files behind a text that was made ready.
use Rattle.std.proofs.Common.{◌≡◌, ℕ, List, Option, inl, inr}
use Rattle.cfarm_files.specs.Locking.{lock_path}
use Rattle.cfarm_files.specs.Placing.{Placed, Makes}
use Rattle.cfarm_build_folder.proofs.Making.{makes_through, makes_weaker}
use Rattle.cfarm_build_folder.specs.Disks.{IsJournal, IsOwn}

pub of_lock : (folder : List ℕ) (a b : Option (List Placed)) → Makes a b (λ path. path ≡ lock_path folder) → Makes a b (IsOwn folder)
of_lock folder a b makes = makes_weaker (IsOwn folder) (λ path. path ≡ lock_path folder) a b (λ path is. inl is) makes

-- the lock's file, and then journals
pub of_both : (folder : List ℕ) (a b c : Option (List Placed)) → Makes a b (λ path. path ≡ lock_path folder) → Makes b c (IsJournal folder) → Makes a c (IsOwn folder)
of_both folder a b c lock journals = makes_through (IsOwn folder) a b c (of_lock folder a b lock)
    (makes_weaker (IsOwn folder) (IsJournal folder) b c (λ path is. inr is) journals)
