-- What is told of journals that a farm opens over.
use Rattle.std.specs.Prelude.{◌⊎◌, ℕ, List, length, Option, Result, MatchResult}
use Rattle.std.specs.Global.{Vec}
use Rattle.std.specs.Io.KnownBytes.{Appends, Keeps}
use Rattle.lang_base.specs.declared.program.Named.{Named}
use Rattle.rtl_language.specs.declared.function.Function.{Function}
use Rattle.paxos_core_world.specs.KeptPart.{KeptPart}
use Rattle.acceptor_log_form.specs.declared.record.Record.{Record}
use Rattle.cfarm_output.specs.Begun.{IsBegun}
use Rattle.cfarm_fsck.specs.declared.error.FsckError.{FsckError}
use Rattle.cfarm_fsck.specs.declared.error.FsckError.TheVariants.{Disks, Unchained, NoMemory, Write}
use Rattle.cfarm_fsck_chosen.specs.Linking.{AllGoOn, IsFirstUnchained}
use Rattle.cfarm_fsck.specs.Telling.{folder_lines, front_lines}

module _ (accept : ℕ) (functions : List (Named Function)) (journals : List (ℕ × Vec Record)) (kept : List (Vec KeptPart)) where
  -- the offers that are chosen of each function go on from it and one from the other
  abbrev pub AllChain : Type 0
  AllChain = AllGoOn accept journals kept functions (length functions)

  -- so it is, and all lines are told
  abbrev pub IsAllTold : Option (List ℕ) → Option (List ℕ) → Type 0
  IsAllTold before after = AllChain × Appends before after (folder_lines accept functions journals kept)

  -- this function is the first whose offers do not go on so, and all lines but the last are told
  abbrev pub IsFrontTold : ℕ → Option (List ℕ) → Option (List ℕ) → Type 0
  IsFrontTold f before after =
      IsFirstUnchained accept journals kept functions f × Appends before after (front_lines accept functions journals kept)

  -- a beginning of these was printed, and it may be nothing
  abbrev pub IsBegunOf : Option (List ℕ) → Option (List ℕ) → Type 0
  IsBegunOf before after =
      Keeps before after ⊎ (AllChain × IsBegun (folder_lines accept functions journals kept) before after)
      ⊎ ((f : ℕ) × IsFirstUnchained accept journals kept functions f × IsBegun (front_lines accept functions journals kept) before after)

  abbrev pub IsFaultTold : FsckError → Option (List ℕ) → Option (List ℕ) → Type 0
  IsFaultTold (Disks fault) before after = ⊥
  IsFaultTold (Unchained f) before after = IsFrontTold f before after
  IsFaultTold NoMemory before after = IsBegunOf before after
  IsFaultTold Write before after = IsBegunOf before after

  abbrev pub IsToldOfOpened : {T : Type 0} → Result T FsckError → Option (List ℕ) → Option (List ℕ) → Type 0
  IsToldOfOpened result before after = MatchResult result (λ _. IsAllTold before after) (λ e. IsFaultTold e before after)
