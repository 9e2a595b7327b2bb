-- What `judge` says of a C text, the name of a function and an offer, each as bytes, and what it prints.
use Rattle.std.specs.Prelude.{◌≡◌, ℕ, List, All, Option}
use Rattle.std.specs.Io.KnownBytes.{Appends}
use Rattle.lang_base.specs.declared.program.Named.{Named}
use Rattle.lang_base.specs.declared.errors.FormError.TheVariants as form
use Rattle.c_syntax.specs.Trees.{UnitTree}
use Rattle.c_checker_rules.specs.Units.{program_of}
use Rattle.c_texts.specs.Accepted.{IsAccepted}
use Rattle.c_texts.specs.Refusals.{IsOutOfMemory}
use Rattle.cminor_lowering.specs.Programs.{low}
use Rattle.rtlgen.specs.Refused.{HasFewNodes}
use Rattle.rtlgen_definition.specs.Gen.{gen}
use Rattle.rtl_language.specs.Function.{FunctionData}
use Rattle.farm_nodes_source.specs.Refused.{IsUnprepared}
use Rattle.farm_nodes_source.specs.declared.fault.SourceFault.{SourceFault}
use Rattle.farm_nodes_source.specs.declared.fault.SourceFault.TheVariants as source
use Rattle.cfarm_output.specs.Begun.{IsBegun}
use Rattle.bundle_offers.specs.declared.fault.PassNumber.{PassNumber}
use Rattle.cfarm_judge.specs.Judged.{IsNotJudged}
use Rattle.cfarm_judge.specs.Lines.{accepted_line}
use Rattle.cfarm_judge.specs.Under.{HasNone, IsUnder}
use Rattle.cfarm_judge.specs.Passes.{IsPassedAt}
use Rattle.cfarm_judge.specs.declared.error.JudgeError.{JudgeError}
use Rattle.cfarm_judge.specs.declared.error.JudgeError.TheVariants.{NoMemory, Source, NoFunction, Form, Write}

-- the RTL functions with which the first pass begins
abbrev pub begun_of : UnitTree → List (Named FunctionData)
begun_of u = (gen (low (program_of u))).functions

-- none of its functions needs too many nodes
abbrev pub HasSmallFunctions : UnitTree → Type 0
HasSmallFunctions u = All HasFewNodes (low (program_of u)).functions

module _ (text name offer : List ℕ) where
  -- the text is accepted and has no function that needs too many nodes, and this is the RTL of its function of the name
  pub record IsOfText (f : FunctionData) : Type 0 where
    pub tree : UnitTree
    pub accepted : IsAccepted text tree
    pub few : HasSmallFunctions tree
    pub named : IsUnder (begun_of tree) name f

  -- The pass of this number accepts the offer. The text is accepted and has the function, and where it is pass 1, the offer's
  -- input is that function's RTL.
  pub record IsJudged (pass : PassNumber) : Type 0 where
    pub function : FunctionData
    pub of_text : IsOfText function
    pub passed : IsPassedAt function offer pass

  -- The first of these that holds. That memory was refused says nothing.
  abbrev pub IsUnjudged : JudgeError → Type 0
  IsUnjudged NoMemory = Unit {0}
  IsUnjudged (Source fault) = IsUnprepared text fault
  IsUnjudged NoFunction = (u : UnitTree) × IsAccepted text u × HasSmallFunctions u × HasNone (begun_of u) name
  IsUnjudged Write = (pass : PassNumber) × IsJudged pass
  IsUnjudged other = (f : FunctionData) × IsOfText f × IsNotJudged f offer other

  -- the pass was printed
  abbrev pub HasJudged : Option (List ℕ) → Option (List ℕ) → Type 0
  HasJudged before after = (pass : PassNumber) × IsJudged pass × Appends before after (accepted_line pass)

  -- where it is not accepted, nothing is printed; a writer that fails holds a beginning of the answer
  abbrev pub Printed : Option (List ℕ) → Option (List ℕ) → JudgeError → Type 0
  Printed before after Write = (pass : PassNumber) × IsJudged pass × IsBegun (accepted_line pass) before after
  Printed before after other = after ≡ before

-- ---- what is told of an offer that is accepted: that memory was refused, or that the answer could not be written

abbrev pub IsSourceWant : SourceFault → Type 0
IsSourceWant source.NoMemory = Unit {0}
IsSourceWant (source.Text fault) = IsOutOfMemory fault
IsSourceWant (source.TooManyNodes name) = ⊥

abbrev pub IsWant : JudgeError → Type 0
IsWant NoMemory = Unit {0}
IsWant (Source fault) = IsSourceWant fault
IsWant (Form fault) = fault ≡ form.NoMemory
IsWant Write = Unit {0}
IsWant other = ⊥
