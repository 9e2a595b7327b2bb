-- What `verify` comes to where a text of native code is verified with the program: what it wrote, and what it answers.
use Rattle.std.specs.Prelude.{◌≡◌, ◌≢◌, ◌⊎◌, ℕ, List, ◌++◌, Option, Some, None, Result, codes, option_copied}
use Rattle.std.specs.Borrow.{Bor}
use Rattle.std.specs.Io.KnownBytes.{Appends}
use Rattle.cfarm_files.specs.declared.fault.FileFault.{FileFault}
use Rattle.cfarm_native.specs.Told.{IsTextOfBytes, IsUnmade, code_text}
use Rattle.cfarm_output.specs.Begun.{IsBegun}
use Rattle.cfarm_run.specs.ExecLines.{exec_line}
use Rattle.cfarm_run.specs.ExecStatuses as exec
use Rattle.cfarm_run.specs.declared.exec_error.ExecError.{ExecError}
use Rattle.cfarm_verify.specs.Lines.{verified_line}
use Rattle.cfarm_verify.specs.Told.{IsUnverified, IsVerified}
use Rattle.cfarm_verify.specs.declared.error.VerifyError.{VerifyError}
use Rattle.cfarm_verify.specs.declared.error.VerifyError.TheVariants.{NoMemory, Write}
use Rattle.cfarm_program_looks.specs.Verifying.{Proven, verify_fault}
use Rattle.cfarm_program_looks.specs.declared.vouching.Claim.{Claim}
use Rattle.cfarm_program_status.specs.Reading.{Coming, OnFile}
use Rattle.cfarm_program_status.specs.Telling.{Answer, quiet, told, unwritten}

-- what is known of files
abbrev pub Known : Type 0
Known = List ℕ → Option (Result (List ℕ) FileFault)

-- the line for a text of native code that is not the program's
abbrev pub other_line : List ℕ → List ℕ
other_line path = codes "refused 605 OtherText in " ++ path

-- a line is printed, or a beginning of it and that is told
abbrev pub HasLine : List ℕ → Coming
HasLine line answer before after =
    (Appends before after line × (answer ≡ quiet)) ⊎ (IsBegun line before after × (answer ≡ unwritten))

module _ (program native : List ℕ) where
  -- the file's text is that of the native code of the program that the bytes spell
  abbrev pub IsNative : Type 0
  IsNative = IsTextOfBytes program (code_text None) native

  -- that is another
  abbrev pub IsAnother : Type 0
  IsAnother = (made : List ℕ) × IsTextOfBytes program (code_text None) made × (native ≢ made)

module _ (program path native : List ℕ) where
  -- it is another, which is told of its path
  abbrev pub TellsOther : Answer → Type 0
  TellsOther answer = IsAnother program native × (answer ≡ told 1 (other_line path))

  -- there was no memory to find out
  abbrev pub TellsUnmade : Answer → Type 0
  TellsUnmade answer = (fault : ExecError) × IsUnmade program fault × (answer ≡ told (exec.status_of fault) (exec_line fault))

  -- the line is printed where the text is the program's; else nothing is, and why is told
  abbrev pub Compared : List ℕ → Coming
  Compared line answer before after =
      (IsNative program native × HasLine line answer before after) ⊎ ((TellsOther answer ⊎ TellsUnmade answer) × (after ≡ before))

-- what it is that a line in memory could not be written
abbrev pub in_memory : VerifyError → VerifyError
in_memory Write = NoMemory
in_memory other = other

module _ (program_path path text program bundle : List ℕ) where
  -- The program is verified by the bundle, and the text of native code, of the file of this path, is compared with it; or the first reason why it is
  -- not verified is told.
  abbrev pub Vouched : (native_path native : List ℕ) → Coming
  Vouched native_path native answer before after =
      ((functions : ℕ) × IsVerified text program bundle functions
      × Compared program native_path native (verified_line functions program) answer before after)
      ⊎ ((fault : VerifyError) × IsUnverified text program bundle fault × (after ≡ before) × (answer ≡ verify_fault program_path path (in_memory fault)))

  -- the file of a text of native code is read, where one is given
  abbrev pub ProvenWith : Option (List ℕ) → Known → Coming
  ProvenWith None known = Proven program_path path text program bundle
  ProvenWith (Some native_path) known = OnFile known native_path (Vouched native_path)

-- the same of what a claim has
abbrev pub IsProven : Claim → Coming
IsProven claim = Proven claim.program_path.now claim.path.now claim.text.now claim.program.now claim.bundle.now

abbrev pub Vouches : Claim → (native_path native : List ℕ) → Coming
Vouches claim = Vouched claim.program_path.now claim.path.now claim.text.now claim.program.now claim.bundle.now

abbrev pub Proves : Claim → Option (Bor (List ℕ)) → Known → Coming
Proves claim native_path =
    ProvenWith claim.program_path.now claim.path.now claim.text.now claim.program.now claim.bundle.now (option_copied native_path)

-- The files are read in turn: the program's, the bundle's, and then that of the text of native code, where one is given.
abbrev pub VerifiedWith : Option (List ℕ) → Known → (program_path path text : List ℕ) → Coming
VerifiedWith native_path known program_path path text = OnFile known program_path (λ program. OnFile known path (λ bundle.
    ProvenWith program_path path text program bundle native_path known))
