-- What is answered of a folder.
use Rattle.std.specs.Prelude.{◌≡◌, ◌⊎◌, ℕ, ◌<◌, List, length, Option, Result, MatchResult}
use Rattle.std.specs.Global.{Vec}
use Rattle.std.specs.Io.KnownBytes.{Keeps}
use Rattle.lang_base.specs.declared.program.Program.{Program}
use Rattle.rtl_language.specs.declared.function.Function.{Function}
use Rattle.paxos_core_world.specs.KeptPart.{KeptPart}
use Rattle.paxos_core_world.specs.Quorum.{Sizes}
use Rattle.acceptor_log_form.specs.declared.record.Record.{Record}
use Rattle.acceptor_log_form.specs.declared.errors.LogError.{LogError}
use Rattle.acceptor_log_form.specs.declared.errors.LogError.TheVariants as log
use Rattle.farm_nodes_open_seats.specs.Checked.{WereAccepted}
use Rattle.farm_nodes_open_seats.specs.Nodes.{AreMade}
use Rattle.farm_nodes_open_seats.specs.Read.{IsKeptPart}
use Rattle.farm_nodes_open_seats.specs.Kept.{AreSettled}
use Rattle.farm_nodes_open_seats.specs.Refused.{HasBadRecord, HasRefusedOffer, IsRoomUnopened}
use Rattle.farm_nodes_open_seats.specs.declared.fault.OpenFault.{OpenFault}
use Rattle.farm_nodes_open_seats.specs.declared.fault.OpenFault.TheVariants as open_fault
use Rattle.cfarm_fsck_journals.specs.declared.files.NodeFiles.{NodeFiles}
use Rattle.cfarm_fsck.specs.declared.error.FsckError.{FsckError}
use Rattle.cfarm_fsck.specs.declared.error.FsckError.TheVariants.{Disks, Unchained, NoMemory, Write}
use Rattle.cfarm_fsck.specs.Folder.{AreJournalsIn, IsRefusedFile}
use Rattle.cfarm_fsck.specs.Opened.{IsAllTold, IsBegunOf, IsFrontTold}

module _ (q : Sizes) (digest : List ℕ) (program : Program Function) (files : List NodeFiles) where
  -- A farm opens over the folder: its journals list these records, which are in order and leave these kept parts; the bytes of each
  -- offer among them spell one, which its pass accepts; and what was kept of each room is settled.
  pub record Opens (journals : List (ℕ × Vec Record)) (kept : List (Vec KeptPart)) : Type 0 where
    pub listed : AreJournalsIn q digest files journals
    pub are_kept : AreMade (IsKeptPart (length program.functions) (length journals)) journals (length journals) kept
    pub accepted : WereAccepted journals (length journals)
    pub settled : (f : ℕ) → f < length program.functions → AreSettled q kept f

  -- so it does, and so it is of the records and the kept parts
  abbrev pub WhereOpens : (List (ℕ × Vec Record) → List (Vec KeptPart) → Type 0) → Type 0
  WhereOpens Holds = (journals : List (ℕ × Vec Record)) × (kept : List (Vec KeptPart)) × Opens journals kept × Holds journals kept

  -- the lines are told, and the offers that are chosen in each function's rooms go on from it and one from the other
  abbrev pub IsTold : Option (List ℕ) → Option (List ℕ) → Type 0
  IsTold before after = WhereOpens (λ journals kept. IsAllTold q.accept program.functions journals kept before after)

  -- the journals are listed, and so it is of them
  abbrev pub OfListed : (List (ℕ × Vec Record) → Type 0) → Type 0
  OfListed Holds = (journals : List (ℕ × Vec Record)) × AreJournalsIn q digest files journals × Holds journals

  -- the fault with which a farm over the folder is refused: a journal's, or of its records; an offer's; or a room's
  abbrev pub IsFaultOf : OpenFault → Type 0
  IsFaultOf open_fault.NoMemory = Unit {0}
  IsFaultOf (open_fault.Journal node fault) =
      IsRefusedFile q digest files node fault
      ⊎ ((fault ≡ log.BadRecord) × OfListed (λ journals. HasBadRecord (length program.functions) journals node))
  IsFaultOf (open_fault.Refused node) = OfListed (λ journals. HasRefusedOffer (length program.functions) journals node)
  IsFaultOf (open_fault.Room room fault) = OfListed (λ journals. IsRoomUnopened (length program.functions) journals q room fault)

  -- a beginning of the lines was printed, and it may be nothing
  abbrev pub IsToldInPart : Option (List ℕ) → Option (List ℕ) → Type 0
  IsToldInPart before after =
      Keeps before after ⊎ WhereOpens (λ journals kept. IsBegunOf q.accept program.functions journals kept before after)

  -- It is told why not. Nothing is printed of a folder that is refused; and not the last line where the offers that are chosen of a function do
  -- not go on one from the other, of which the first is told.
  abbrev pub IsNotTold : FsckError → Option (List ℕ) → Option (List ℕ) → Type 0
  IsNotTold (Disks fault) before after = IsFaultOf fault × Keeps before after
  IsNotTold (Unchained f) before after = WhereOpens (λ journals kept. IsFrontTold q.accept program.functions journals kept f before after)
  IsNotTold NoMemory before after = IsToldInPart before after
  IsNotTold Write before after = IsToldInPart before after

  -- the lines are told, or why not
  abbrev pub IsToldOrRefused : {T : Type 0} → Result T FsckError → Option (List ℕ) → Option (List ℕ) → Type 0
  IsToldOrRefused result before after = MatchResult result (λ _. IsTold before after) (λ e. IsNotTold e before after)
