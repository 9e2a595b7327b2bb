-- A file that is refused is one of two.
use Rattle.std.proofs.Common.{List, ℕ, inl, inr}
use Rattle.cfarm_build_faults.specs.declared.error.BuildError.TheVariants.{NoMemory, NoThread, Source, Disks, Failed, Undecided, Unlinked, Names}
use Rattle.cfarm_build_folder.specs.Disks.{IsRefusedAt, IsRefusedAtEither}
use Rattle.cfarm_build_folder.specs.declared.error.BuildingError.{BuildingError}
use Rattle.cfarm_build_folder.specs.declared.error.BuildingError.TheVariants.{Build, File, Write}

module _ (path other : List ℕ) where
  pub first_refused : (e : BuildingError) → IsRefusedAt path e → IsRefusedAtEither path other e
  first_refused (Build NoMemory) is = tt
  first_refused (Build NoThread) is = is
  first_refused (Build (Source fault)) is = is
  first_refused (Build (Disks fault)) is = is
  first_refused (Build (Failed node fault)) is = is
  first_refused (Build Undecided) is = is
  first_refused (Build (Unlinked fault name)) is = is
  first_refused (Build Names) is = is
  first_refused (File told reason) is = inl is
  first_refused Write is = is

  pub other_refused : (e : BuildingError) → IsRefusedAt other e → IsRefusedAtEither path other e
  other_refused (Build NoMemory) is = tt
  other_refused (Build NoThread) is = is
  other_refused (Build (Source fault)) is = is
  other_refused (Build (Disks fault)) is = is
  other_refused (Build (Failed node fault)) is = is
  other_refused (Build Undecided) is = is
  other_refused (Build (Unlinked fault name)) is = is
  other_refused (Build Names) is = is
  other_refused (File told reason) is = inr is
  other_refused Write is = is
