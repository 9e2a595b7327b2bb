-- What the program does that is asked for, with what its file is read as.
use Rattle.std.specs.Prelude.{◌≡◌, ◌⊎◌, ℕ, List, Bool, Ok, Err, option_copied}
use Rattle.std.specs.declared.io.traits.Write as writing
use Rattle.cfarm_output.specs.declared.errors.ErrorLines as lines
use Rattle.cfarm_files.specs.Placing.{KeepsFolder}
use Rattle.cfarm_files.specs.Reading.{IsKnownAs}
use Rattle.cfarm_files.specs.Using.{UsesNone}
use Rattle.cfarm_files.specs.declared.fault.FileFault.{FileFault}
use Rattle.cfarm_files.specs.declared.files.Files as filing
use Rattle.cfarm_build.specs.declared.farm.Farm as farms
use Rattle.cfarm_options.specs.Quorums.{asked_quorums}
use Rattle.cfarm_options.specs.declared.options.BuildOptions.{BuildOptions}
use Rattle.cfarm_command_line_tasks.specs.declared.task.FsckOptions.{FsckOptions}
use Rattle.cfarm_command_line_tasks.specs.declared.task.Task.{Task}
use Rattle.cfarm_command_line_tasks.specs.declared.task.Task.TheVariants.{Check, Interpret, Build, Exec, Settle, Simulate, Show, Verify, Emit, Judge, Native, Fsck}
use Rattle.cfarm_command_line_tasks.specs.declared.task.Task.TheVariants as task
use Rattle.cfarm_program_status.specs.Reading.{Coming, Says, unread}
use Rattle.cfarm_program_status.specs.Telling.{Answer, IsToldAs, told}
use Rattle.cfarm_program_status.specs.Trace.{Changed, Trace}
use Rattle.cfarm_program_looks.specs.Showing.{Texted}
use Rattle.cfarm_program_looks.specs.Listing.{Listed}
use Rattle.cfarm_program_looks.specs.Vouching.{VerifiedWith}
use Rattle.cfarm_program_looks.specs.Emitting.{Formed}
use Rattle.cfarm_program_looks.specs.Judging.{Judged}
use Rattle.cfarm_fsck_files.specs.Saying.{LookedOver}
use Rattle.cfarm_program.specs.Met.{AreMet, IsUnmet, mistake_line}
use Rattle.cfarm_program.specs.declared.mistake.Mistake.{Mistake}
use Rattle.cfarm_program_native.specs.Nativing.{Nativing}
use Rattle.cfarm_program_runs.specs.Explained.{is_explained}
use Rattle.cfarm_program_runs.specs.Outcomes.{Checked, Executed, Interpreted, Settled, Simulated}
use Rattle.cfarm_program_runs.specs.Saying.{Explains}
use Rattle.cfarm_program.specs.Built.{Builds, BuildsApart}

-- the answer where this is wrong with a task
abbrev pub unmet : Mistake → Answer
unmet mistake = told 2 (mistake_line mistake)

-- `fsck` with these options over these files
abbrev pub LookedAt : {F D L : Type 0} → filing.Ghosts F D L → Changed F → FsckOptions → (bytes : List ℕ) → Coming
LookedAt over files options bytes = LookedOver over files options.folder.now (asked_quorums options.sizes) bytes

-- it came to that, which is told
abbrev pub Looks : {F D L W E : Type 0} → filing.Ghosts F D L → writing.Ghosts W → lines.Ghosts E → FsckOptions → (bytes : List ℕ) → Trace F W E → Type 0
Looks over output errors options bytes t = Says output.contents errors.contents (LookedAt over t.files options bytes) t.shows

-- What is said of a run: over this farm, with the files as they were found and as they are left.
module _ {F H D L : Type 0} (farm : farms.Ghosts F H D L) (files : Changed F) where
  -- no file was put, and no disk opened
  abbrev pub KeepsFiles : Type 0
  KeepsFiles = KeepsFolder (farm.files.placed files.entry.now) (farm.files.placed files.exit.now)
      × UsesNone (farm.files.used files.entry.now) (farm.files.used files.exit.now)

  -- a task on the bytes of its file, with what it wrote and answers; a build puts a file and alone opens disks, each of which it closes; `native`
  -- may put a file, and `fsck` makes the file of its folder's lock, under which it reads
  abbrev pub Comes : Task → (path bytes : List ℕ) → Coming
  Comes (Check format) path bytes answer before after = KeepsFiles × Checked format path bytes answer before after
  Comes (Interpret depth explaining) path bytes answer before after = KeepsFiles × Interpreted bytes depth answer before after
  Comes (Build options) path bytes answer before after = Builds farm files options path bytes answer before after
  Comes (Exec limit expected explaining) path bytes answer before after = KeepsFiles × Executed bytes limit expected answer before after
  Comes Settle path bytes answer before after = KeepsFiles × Settled bytes answer before after
  Comes (Simulate showing) path bytes answer before after = KeepsFiles × Simulated showing bytes answer before after
  Comes Show path bytes answer before after = KeepsFiles × Texted bytes answer before after
  Comes task.List path bytes answer before after = KeepsFiles × Listed bytes answer before after
  Comes (Verify paths) path bytes answer before after =
      KeepsFiles × VerifiedWith (option_copied paths.native) (farm.files.known files.entry.now) paths.program.now paths.bundle.now bytes
      answer before after
  Comes (Emit emitted seed) path bytes answer before after = KeepsFiles × Formed bytes emitted seed answer before after
  Comes (Judge offer) path bytes answer before after =
      KeepsFiles × Judged (farm.files.known files.entry.now) offer.function.now offer.path.now bytes answer before after
  Comes (Native options) path bytes answer before after = Nativing farm.files files options path bytes answer before after
  Comes (Fsck options) path bytes answer before after = LookedAt farm.files files options bytes answer before after

-- With an output and lines for a user, who sees them or not.
module _ {F H D L W E : Type 0} (farm : farms.Ghosts F H D L) (output : writing.Ghosts W) (errors : lines.Ghosts E) (is_seen : Bool) where
  -- the text of the file of this path was built, or not, with paths that may all be used
  abbrev pub BuiltApart : BuildOptions → (bytes : List ℕ) → Trace F W E → Type 0
  BuiltApart options bytes t = Explains output.contents errors.contents is_seen (BuildsApart farm t.files options bytes) t.shows

  -- the same, or one of its paths may not be used
  abbrev pub Built : BuildOptions → (path bytes : List ℕ) → Trace F W E → Type 0
  Built options path bytes t = Explains output.contents errors.contents is_seen (Builds farm t.files options path bytes) t.shows

  -- a task that was done on the bytes of its file
  abbrev pub Does : Task → (path bytes : List ℕ) → Trace F W E → Type 0
  Does task path bytes t = Explains output.contents errors.contents (is_explained is_seen task) (Comes farm t.files task path bytes) t.shows

  -- nothing is put and nothing printed, and this is told
  abbrev pub TellsAlone : Answer → Trace F W E → Type 0
  TellsAlone answer t =
      KeepsFiles farm t.files × (output.contents t.shows.out.exit.now.taker ≡ output.contents t.shows.out.entry.now.taker)
      × IsToldAs answer t.shows.status (errors.contents t.shows.err.entry.now) (errors.contents t.shows.err.exit.now)

  -- the file is read as it is known to be, and the task done; or it is not read, which is told
  abbrev pub Reads : Task → (path : List ℕ) → Trace F W E → Type 0
  Reads task path t =
      ((bytes : List ℕ) × IsKnownAs (farm.files.known t.files.entry.now path) (Ok bytes) × Does task path bytes t)
      ⊎ ((fault : FileFault) × IsKnownAs (farm.files.known t.files.entry.now path) (Err fault) × TellsAlone (unread path fault) t)

  -- a task with which something is wrong: that is told, and no file is read
  abbrev pub Declines : Task → Trace F W E → Type 0
  Declines task t = (mistake : Mistake) × IsUnmet task mistake × TellsAlone (unmet mistake) t

  -- that comes first, and then the file
  abbrev pub RunsTask : Task → (path : List ℕ) → Trace F W E → Type 0
  RunsTask task path t = Declines task t ⊎ (AreMet task × Reads task path t)
