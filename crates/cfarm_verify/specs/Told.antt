-- What `verify` says of a C text, a program and a bundle, each as bytes, and what it prints.
use Rattle.std.specs.Prelude.{◌≡◌, ◌≢◌, ℕ, List, All, length, Option}
use Rattle.std.specs.Io.KnownBytes.{Appends}
use Rattle.sha2.specs.Sha256.{sha256}
use Rattle.lang_base.specs.Keeps.{Keeps}
use Rattle.lang_base.specs.declared.program.Program as programs
use Rattle.lang_base.specs.declared.errors.FormError.TheVariants as form
use Rattle.c_syntax.specs.Trees.{UnitTree}
use Rattle.c_program.specs.Meaning.{crun}
use Rattle.c_checker_rules.specs.Units.{program_of}
use Rattle.c_texts.specs.Accepted.{IsAccepted}
use Rattle.cminor_lowering.specs.Programs.{low}
use Rattle.cfarm_verify_reading.specs.Refused.{HasFewNodes}
use Rattle.rtlgen_definition.specs.Gen.{gen}
use Rattle.rtl_language.specs.Function as rtl
use Rattle.linear_language.specs.Function as linear
use Rattle.linear_language.specs.Meaning.{run}
use Rattle.c_texts.specs.Refusals.{IsOutOfMemory}
use Rattle.farm_nodes_source.specs.Refused.{IsUnprepared}
use Rattle.farm_nodes_source.specs.declared.fault.SourceFault.{SourceFault}
use Rattle.farm_nodes_source.specs.declared.fault.SourceFault.TheVariants as source
use Rattle.cfarm_output.specs.Begun.{IsBegun}
use Rattle.chains.specs.declared.offering.Offers.{Offers}
use Rattle.chains.specs.Accepted.{AreAccepted}
use Rattle.chains.specs.Offered.{AllGoOn, linked_offers}
use Rattle.bundle_reading.specs.Texts.{HasNoBundle, IsBundleOf}
use Rattle.bundle_offers.specs.declared.fault.OfferFault.TheVariants as offer
use Rattle.cfarm_verify.specs.Checked.{IsUnchecked}
use Rattle.cfarm_verify.specs.Lines.{verified_line}
use Rattle.cfarm_verify_reading.specs.Spelled.{IsNoProgram, IsSpelled}
use Rattle.cfarm_verify.specs.declared.error.VerifyError.{VerifyError}
use Rattle.cfarm_verify.specs.declared.error.VerifyError.TheVariants.{NoMemory, Source, Program, Bundle, Offer, Write}

-- the RTL with which the first pass of each function begins
abbrev pub rtl_of : UnitTree → programs.Program rtl.FunctionData
rtl_of u = gen (low (program_of u))

-- none of its functions needs too many nodes
abbrev pub HasSmallFunctions : UnitTree → Type 0
HasSmallFunctions u = All HasFewNodes (low (program_of u)).functions

module _ (text program bundle : List ℕ) where
  -- The text is accepted, and the bundle is one of this very text. Each of its offers is accepted by its pass; the first of each
  -- function begins with the text's RTL, and each other one goes on from the one before it. The program's bytes are those of the
  -- program that the last offers come to, and that program keeps the text's meaning.
  pub record IsVerified (functions : ℕ) : Type 0 where
    pub tree : UnitTree
    pub accepted : IsAccepted text tree
    pub offers : List Offers
    pub bundled : IsBundleOf bundle (sha256 text) offers
    pub chained : AllGoOn (rtl_of tree).functions offers
    pub passed : All AreAccepted offers
    pub spelled : IsSpelled program (linked_offers (rtl_of tree) offers)
    pub keeps : Keeps (crun (program_of tree)) (run (linked_offers (rtl_of tree) offers))
    pub count : functions ≡ length offers

  -- the text is not refused: it is accepted, and none of its functions needs too many nodes
  abbrev IsText : Type 0
  IsText = (u : UnitTree) × IsAccepted text u × HasSmallFunctions u

  -- the text is not refused, the program is one of Linear, and the bundle is one
  pub record AreForms : Type 0 where
    pub tree : UnitTree
    pub accepted : IsAccepted text tree
    pub small : HasSmallFunctions tree
    pub linear : programs.Program linear.FunctionData
    pub spelled : IsSpelled program linear
    pub digest : List ℕ
    pub offers : List Offers
    pub bundled : IsBundleOf bundle digest offers

  -- The first of these that holds. That memory was refused says nothing.
  abbrev pub IsUnverified : VerifyError → Type 0
  IsUnverified NoMemory = Unit {0}
  IsUnverified (Source fault) = IsUnprepared text fault
  IsUnverified (Program fault) = IsText × (fault ≢ form.NoMemory → IsNoProgram program)
  IsUnverified (Bundle fault) = IsText × ((p : programs.Program linear.FunctionData) × IsSpelled program p) × (fault ≢ form.NoMemory → HasNoBundle bundle)
  IsUnverified Write = (n : ℕ) × IsVerified n
  IsUnverified other = (are : AreForms) × IsUnchecked (sha256 text) (rtl_of are.tree) are.linear are.digest are.offers other

  -- it is verified, and how many functions there are was printed, with the digest of the program's bytes
  abbrev pub HasVerified : Option (List ℕ) → Option (List ℕ) → Type 0
  HasVerified before after = (n : ℕ) × IsVerified n × Appends before after (verified_line n program)

  -- where it is not, nothing is printed; a writer that fails holds a beginning of the answer
  abbrev pub Printed : VerifyError → Option (List ℕ) → Option (List ℕ) → Type 0
  Printed Write before after = (n : ℕ) × IsVerified n × IsBegun (verified_line n program) before after
  Printed other before after = after ≡ before

-- ---- what is told of a program that is verified: that memory was refused, or that the answer could not be written

abbrev pub IsSourceWant : SourceFault → Type 0
IsSourceWant source.NoMemory = Unit {0}
IsSourceWant (source.Text fault) = IsOutOfMemory fault
IsSourceWant (source.TooManyNodes name) = ⊥

abbrev pub IsWant : VerifyError → Type 0
IsWant NoMemory = Unit {0}
IsWant (Source fault) = IsSourceWant fault
IsWant (Program fault) = fault ≡ form.NoMemory
IsWant (Bundle fault) = fault ≡ form.NoMemory
IsWant (Offer fault name) = fault ≡ offer.NoMemory
IsWant Write = Unit {0}
IsWant other = ⊥
