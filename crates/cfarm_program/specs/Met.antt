-- Whether a task is in order before its file is read: its quorums meet, which a build and `fsck` alone ask for; and its prefix, which `native` alone
-- is given, is a C name, and is there where a header is asked for.
use Rattle.std.specs.Prelude.{◌≡◌, ℕ, List, ◌++◌, true, Option, codes, option_copied}
use Rattle.paxos_core_world.specs.Quorum.{AreQuorums}
use Rattle.cfarm_options.specs.Quorums.{asked_quorums, quorums_of}
use Rattle.cfarm_options.specs.Sizes.{sizes_line, sizes_of}
use Rattle.cfarm_options.specs.declared.options.AskedSizes.{AskedSizes}
use Rattle.cfarm_command_line_tasks.specs.declared.task.Task.{Task}
use Rattle.cfarm_command_line_tasks.specs.declared.task.Task.TheVariants.{Check, Interpret, Build, Exec, Settle, Simulate, Show, Verify, Emit, Judge, Native, Fsck}
use Rattle.cfarm_command_line_tasks.specs.declared.task.Task.TheVariants as task
use Rattle.cfarm_command_line_tasks.specs.declared.task.Written.{Written}
use Rattle.cfarm_program_native.specs.Chosen.{IsWrongPrefix, MayWrite, lacks_prefix}
use Rattle.cfarm_program.specs.declared.mistake.Mistake.{Mistake}
use Rattle.cfarm_program.specs.declared.mistake.Mistake.TheVariants.{Quorums, Prefix, Unexported}

-- the line for what is wrong with it
abbrev pub mistake_line : Mistake → List ℕ
mistake_line (Quorums sizes) = sizes_line sizes
mistake_line (Prefix prefix) = codes "prefix " ++ prefix.now
mistake_line Unexported = codes "header without --export"

abbrev pub AreMet : Task → Type 0
AreMet (Check format) = Unit {0}
AreMet (Interpret depth explaining) = Unit {0}
AreMet (Build options) = AreQuorums (quorums_of options)
AreMet (Exec limit expected explaining) = Unit {0}
AreMet Settle = Unit {0}
AreMet (Simulate showing) = Unit {0}
AreMet Show = Unit {0}
AreMet task.List = Unit {0}
AreMet (Verify paths) = Unit {0}
AreMet (Emit emitted seed) = Unit {0}
AreMet (Judge offer) = Unit {0}
AreMet (Native options) = MayWrite options.written (option_copied options.prefix)
AreMet (Fsck options) = AreQuorums (asked_quorums options.sizes)

-- quorums of such sizes need not meet, and these are the sizes
abbrev pub IsUnmetOf : (Meet : Type 0) → (sizes : AskedSizes) → Mistake → Type 0
IsUnmetOf Meet sizes (Quorums told) = (¬ Meet) × (told ≡ sizes)
IsUnmetOf Meet sizes (Prefix prefix) = ⊥
IsUnmetOf Meet sizes Unexported = ⊥

-- this is the prefix, and no C name; or there is none for a header
abbrev pub IsUnwritten : Written → Option (List ℕ) → Mistake → Type 0
IsUnwritten written given (Quorums sizes) = ⊥
IsUnwritten written given (Prefix prefix) = IsWrongPrefix given prefix.now
IsUnwritten written given Unexported = lacks_prefix written given ≡ true

-- this is wrong with it
abbrev pub IsUnmet : Task → Mistake → Type 0
IsUnmet (Check format) mistake = ⊥
IsUnmet (Interpret depth explaining) mistake = ⊥
IsUnmet (Build options) mistake = IsUnmetOf (AreQuorums (quorums_of options)) (sizes_of options) mistake
IsUnmet (Exec limit expected explaining) mistake = ⊥
IsUnmet Settle mistake = ⊥
IsUnmet (Simulate showing) mistake = ⊥
IsUnmet Show mistake = ⊥
IsUnmet task.List mistake = ⊥
IsUnmet (Verify paths) mistake = ⊥
IsUnmet (Emit emitted seed) mistake = ⊥
IsUnmet (Judge offer) mistake = ⊥
IsUnmet (Native options) mistake = IsUnwritten options.written (option_copied options.prefix) mistake
IsUnmet (Fsck options) mistake = IsUnmetOf (AreQuorums (asked_quorums options.sizes)) options.sizes mistake
