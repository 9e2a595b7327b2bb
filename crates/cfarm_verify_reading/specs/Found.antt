-- What a text is made ready to, and what is found of a program and a bundle.
use Rattle.std.specs.Prelude.{◌≡◌, ◌≢◌, ℕ, List, Result, Ok, Err, IfOk, IfErr}
use Rattle.std.specs.Arc.{arc_value}
use Rattle.sha2.specs.Sha256.{sha256}
use Rattle.lang_base.specs.Keeps.{Keeps}
use Rattle.lang_base.specs.declared.errors.FormError.TheVariants as form
use Rattle.lang.specs.Form.{IsProgram}
use Rattle.c_syntax.specs.Trees.{UnitTree}
use Rattle.c_program.specs.Meaning.{crun}
use Rattle.c_checker_rules.specs.Checked.{program_tree}
use Rattle.c_texts.specs.Accepted.{IsAccepted, IsProgramOf}
use Rattle.cminor_lowering.specs.Programs.{low}
use Rattle.rtlgen_definition.specs.Gen.{gen}
use Rattle.rtl_language.specs.Function.{IsFunction}
use Rattle.rtl_language.specs.Meaning.{run}
use Rattle.bundle_offers.specs.Read.{offers_in}
use Rattle.bundle_offers.specs.Texts.{HasNoBundle, IsBundleOf}
use Rattle.bundle_offers.specs.Standing.{AreAlone}
use Rattle.bundle_offers.specs.declared.judged_bundle.JudgedBundle.{JudgedBundle}
use Rattle.cfarm_verify_reading.specs.Spelled.{IsNoProgram, IsSpelled}
use Rattle.cfarm_verify_reading.specs.declared.forms.Forms.{Forms}
use Rattle.farm_nodes_source.specs.Refused.{IsOnlyTooLarge, IsUnprepared}
use Rattle.farm_nodes_source.specs.declared.fault.SourceFault.{SourceFault}
use Rattle.cfarm_verify_reading.specs.declared.begun.Begun.{Begun}
use Rattle.farm_nodes_source.specs.declared.source.Source.{Source}

-- The text is accepted, this is its one program, and this is what that is translated to.
pub record IsBegunOf (text : List ℕ) (s : Begun) : Type 0 where
  pub accepted : (u : UnitTree) × IsAccepted text u × IsProgramOf u s.program
  pub translated : arc_value s.translated ≡ gen (low (program_tree s.program))
  pub keeps : Keeps (crun (program_tree s.program)) (run (arc_value s.translated))
  pub fits : IsProgram IsFunction (arc_value s.translated)
  pub only : (u : UnitTree) → IsAccepted text u → IsProgramOf u s.program

-- The same with the text's digest.
pub record IsSourceOf (text : List ℕ) (s : Source) : Type 0 where
  pub accepted : (u : UnitTree) × IsAccepted text u × IsProgramOf u s.program
  pub translated : arc_value s.translated ≡ gen (low (program_tree s.program))
  pub keeps : Keeps (crun (program_tree s.program)) (run (arc_value s.translated))
  pub digest : s.digest ≡ sha256 text
  pub fits : IsProgram IsFunction (arc_value s.translated)
  pub only : (u : UnitTree) → IsAccepted text u → IsProgramOf u s.program

-- what was made ready, with a digest
abbrev pub with_digest : List ℕ → Result Begun SourceFault → Result Source SourceFault
with_digest digest (Ok b) = Ok (record { program = b.program; translated = b.translated; digest = digest })
with_digest digest (Err fault) = Err fault

-- The bytes are those of a bundle of this digest and these offers, and this is answered of the offers by themselves.
pub record IsBundled (bytes : List ℕ) (b : JudgedBundle) : Type 0 where
  pub spelled : IsBundleOf bytes b.digest (offers_in b.fours.items)
  pub alone : AreAlone b.fours.items b.alone.items

-- The text was made ready, or why it was not. An accepted text is refused for a function of too many nodes alone, memory aside.
pub record IsPrepared (text : List ℕ) (found : Result Source SourceFault) : Type 0 where
  pub source : IfOk found (IsSourceOf text)
  pub refused : IfErr found (IsUnprepared text)
  pub only : (u : UnitTree) → IsAccepted text u → IfErr found (IsOnlyTooLarge u)

-- What two files' bytes spell: a program of Linear, with the bytes' SHA-256, and a bundle, with what is found of its offers by themselves.
pub record AreSpelled (program bundle : List ℕ) (found : Forms) : Type 0 where
  pub spelled : IfOk found.program (IsSpelled program)
  pub no_program : IfErr found.program (λ fault. fault ≢ form.NoMemory → IsNoProgram program)
  pub hash : found.hash ≡ sha256 program
  pub bundled : IfOk found.bundle (IsBundled bundle)
  pub no_bundle : IfErr found.bundle (λ fault. fault ≢ form.NoMemory → HasNoBundle bundle)
