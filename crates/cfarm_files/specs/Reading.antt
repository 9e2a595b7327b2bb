-- What is known of a file that was read.
use Rattle.std.specs.Prelude.{◌≡◌, ℕ, Bool, true, false, List, Option, None, Some, Result, Ok, Err, MatchOption, MatchResult}
use Rattle.std.specs.Global.{Vec}
use Rattle.cfarm_files.specs.declared.fault.FileFault.{FileFault}
use Rattle.cfarm_files.specs.declared.fault.FileFault.TheVariants.{NoMemory, Refused}
use Rattle.cfarm_files.specs.declared.reason.Reason.{Reason}

-- where it is known what a file is read as, this is it
abbrev pub IsKnownAs : Option (Result (List ℕ) FileFault) → Result (List ℕ) FileFault → Type 0
IsKnownAs None read = Unit {0}
IsKnownAs (Some known) read = read ≡ known

-- what was read, or why not, is so
abbrev pub IsFileRead : Option (Result (List ℕ) FileFault) → Result (Vec ℕ) FileFault → Type 0
IsFileRead known result = MatchResult result (λ bytes. IsKnownAs known (Ok bytes.items)) (λ fault. IsKnownAs known (Err fault))

-- where it is known whether something is so, this is it
abbrev pub IsKnownSo : Option Bool → Bool → Type 0
IsKnownSo None is_so = Unit {0}
IsKnownSo (Some known) is_so = is_so ≡ known

-- nothing is there, which is known as a file that is refused
abbrev pub IsNotThere : Option (Result (List ℕ) FileFault) → Option Bool → Type 0
IsNotThere known there = ((reason : Reason) × IsKnownAs known (Err (Refused reason))) × IsKnownSo there false

-- something is there, and it is refused for this reason
abbrev pub IsRefusedThere : Option (Result (List ℕ) FileFault) → Option Bool → Reason → Type 0
IsRefusedThere known there reason = IsKnownAs known (Err (Refused reason)) × IsKnownSo there true

-- there was no memory for the file, or it is there and refused
abbrev pub IsFaultThere : Option (Result (List ℕ) FileFault) → Option Bool → FileFault → Type 0
IsFaultThere known there NoMemory = IsKnownAs known (Err NoMemory)
IsFaultThere known there (Refused reason) = IsRefusedThere known there reason

-- what was read of a file that need not be there
abbrev pub IsFileReadIfThere : Option (Result (List ℕ) FileFault) → Option Bool → Result (Option (Vec ℕ)) FileFault → Type 0
IsFileReadIfThere known there result =
    MatchResult result (λ found. MatchOption found (IsNotThere known there) (λ bytes. IsKnownAs known (Ok bytes.items)))
    (IsFaultThere known there)
