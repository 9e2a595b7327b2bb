-- What `fsck` comes to, over files as a call finds them and as it leaves them.
use Rattle.std.specs.Prelude.{ℕ, List}
use Rattle.paxos_core_world.specs.Quorum.{Sizes}
use Rattle.cfarm_files.specs.declared.files.Files as filing
use Rattle.cfarm_program_status.specs.Reading.{Coming}
use Rattle.cfarm_program_status.specs.Trace.{Changed}
use Rattle.cfarm_fsck_files.specs.Looking.{Looked}

-- what `fsck` of a text and a folder with these quorums comes to over these files
abbrev pub LookedOver : {F D L : Type 0} → filing.Ghosts F D L → Changed F → (folder : List ℕ) → Sizes → (text : List ℕ) → Coming
LookedOver over files folder q text = Looked over files.entry.now files.exit.now folder q text
