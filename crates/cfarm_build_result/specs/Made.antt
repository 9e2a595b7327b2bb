-- What is made of a program that was linked of what a node has learned.
use Rattle.std.specs.Prelude.{◌≡◌, ℕ, List, Option, IfSome}
use Rattle.std.specs.Global.{Vec}
use Rattle.std.specs.String.{string_bytes}
use Rattle.sha2.specs.Sha256.{sha256}
use Rattle.serde_json.specs.Written.{compact_text}
use Rattle.lang_base.specs.declared.program.Program.{Program}
use Rattle.lang.specs.Form.{program_text}
use Rattle.linear_language.specs.Function.{FunctionData}
use Rattle.linear_language.specs.Spelling.{spelling}
use Rattle.rooms_hall.specs.declared.hall.Naming as naming
use Rattle.farm_nodes_link.specs.NumberedSeat.{NumberedSeat}
use Rattle.farm_nodes_link.specs.Learned.{learned_by}
use Rattle.cfarm_build_result.specs.Bundled.{LinksLearned}
use Rattle.cfarm_build_result.specs.declared.function.FunctionRooms.{FunctionRooms}
use Rattle.cfarm_build_result.specs.Report.{report_of}
use Rattle.cfarm_build_result.specs.Told.{AreTold}
use Rattle.cfarm_build_result.specs.declared.built.Built.{Built}

-- the bundle of the learned offers, where there is one
abbrev pub IsBundleOf : {H : Type 0} {h : naming.Ghosts H} → List ℕ → List (NumberedSeat H h) → Option (Vec ℕ) → Type 0
IsBundleOf digest seats bundle = IfSome bundle (λ bytes. LinksLearned bytes.items digest (learned_by seats))

module _ {H : Type 0} {h : naming.Ghosts H} (names : List (List ℕ)) where
  -- the report of functions of these names, with what the node has learned, the digest of the bytes, and how many nodes there are
  pub record IsReportAt (seats : List (NumberedSeat H h)) (bytes : List ℕ) (count : ℕ) (report : List ℕ) : Type 0 where
    pub functions : List FunctionRooms
    pub told : AreTold names seats functions
    pub text : report ≡ compact_text (report_of functions (sha256 bytes) count)

  -- the program's text, the bundle of the learned offers where there is one, and the report of so many nodes
  pub record IsMadeOf (digest : List ℕ) (program : Program FunctionData) (seats : List (NumberedSeat H h)) (count : ℕ) (built : Built) : Type 0 where
    pub text : built.program.items ≡ program_text 4 spelling program
    pub bundled : IsBundleOf digest seats built.bundle
    pub report : IsReportAt seats built.program.items count (string_bytes built.report)
