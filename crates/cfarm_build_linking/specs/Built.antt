-- What nodes make that link all functions.
use Rattle.std.specs.Prelude.{◌≡◌, ℕ, List, length, map, Option, Some, IfSome, slice_get}
use Rattle.std.specs.List.{AllByRecursion}
use Rattle.std.specs.String.{string_bytes}
use Rattle.lang_base.specs.Keeps.{Keeps}
use Rattle.lang_base.specs.declared.program.Program.{Program}
use Rattle.lang.specs.Form.{IsProgram, program_text}
use Rattle.linear_language.specs.Function as linear_function
use Rattle.linear_language.specs.Meaning as linear
use Rattle.linear_language.specs.Spelling.{spelling}
use Rattle.c_program.specs.Meaning.{crun}
use Rattle.c_checker_rules.specs.Checked.{program_tree}
use Rattle.cminor_lowering.specs.Programs.{low}
use Rattle.rtlgen_definition.specs.Gen.{gen}
use Rattle.rooms_hall.specs.declared.hall.Naming as naming
use Rattle.cfarm_build_result.specs.Source.{Source}
use Rattle.cfarm_build_result.specs.NumberedSeat.{NumberedSeat}
use Rattle.cfarm_build_result.specs.Alike.{HaveCounted}
use Rattle.cfarm_build_result.specs.Learned.{FourOffers, learned_by, IsUndecided}
use Rattle.cfarm_build_result.specs.Offered.{linked_offers}
use Rattle.cfarm_build_result.specs.Linking.{BundleLinks}
use Rattle.cfarm_build_result.specs.Made.{IsReportAt}
use Rattle.cfarm_build_result.specs.Neighbours.{EachTwo}
use Rattle.cfarm_build_result.specs.declared.built.Built.{Built}
use Rattle.cfarm_build_result.specs.Node.{Node}

-- Each two neighbours met, and all functions were counted.
abbrev pub AllCounted : {D : Type 0} {H : Type 0} {h : naming.Ghosts H} → List (Node D H h) → Type 0
AllCounted nodes = EachTwo (λ n m. HaveCounted n.seats m.seats) nodes

-- All nodes have learned these offers.
abbrev pub AllLearned : {D : Type 0} {H : Type 0} {h : naming.Ghosts H} → List (Option FourOffers) → List (Node D H h) → Type 0
AllLearned learned nodes = AllByRecursion (λ n. learned_by n.seats ≡ learned) nodes

-- The bytes are the text of the one program that all nodes link, each from the offers that it has learned. It keeps the meaning of
-- the C program.
pub record IsLinkedByAll {D : Type 0} {H : Type 0} {h : naming.Ghosts H} (source : Source) (nodes : List (Node D H h)) (bytes : List ℕ) : Type 0 where
  pub program : Program linear_function.FunctionData
  pub linked : AllByRecursion (λ n. program ≡ linked_offers (gen (low (program_tree source.program))) (learned_by n.seats)) nodes
  pub keeps : Keeps (crun (program_tree source.program)) (linear.run program)
  pub fits : IsProgram linear_function.IsFunction program
  pub text : bytes ≡ program_text 4 spelling program

-- The bundle, where there is one, is that of the offers which this program is linked of: each is accepted by its pass, they go on from
-- the text's translation, and the digest is the text's.
abbrev pub IsBundledOf : Source → Program linear_function.FunctionData → List ℕ → Type 0
IsBundledOf source program bytes = BundleLinks bytes source.digest (gen (low (program_tree source.program))) program

-- the report of the program's functions, with what the node has learned, the digest of the bytes, and how many nodes there are
abbrev pub IsReportOf : {H : Type 0} {h : naming.Ghosts H} → Source → List (NumberedSeat H h) → List ℕ → ℕ → List ℕ → Type 0
IsReportOf source seats bytes count report = IsReportAt (map (λ f. f.name) source.program.functions) seats bytes count report

-- each node links all functions
abbrev pub AllDecided : {D : Type 0} {H : Type 0} {h : naming.Ghosts H} → List (Node D H h) → Type 0
AllDecided nodes = AllByRecursion (λ n. IsUndecided (learned_by n.seats) → ⊥) nodes

-- Each two neighbours met, and all functions were counted. So all nodes have learned the offers of the first one, and link one program:
-- the bytes are its text, and the bundle, where there is one, is that of those offers. The report tells what the first has learned, and how
-- many they are.
pub record IsBuiltBy {D : Type 0} {H : Type 0} {h : naming.Ghosts H} (source : Source) (nodes : List (Node D H h)) (built : Built) : Type 0 where
  pub counted : AllCounted nodes
  pub decided : AllDecided nodes
  pub node : Node D H h
  pub first : slice_get nodes 0 ≡ Some node
  pub same : AllLearned (learned_by node.seats) nodes
  pub linked : IsLinkedByAll source nodes built.program.items
  pub bundled : IfSome built.bundle (λ bundle. IsBundledOf source linked.program bundle.items)
  pub report : IsReportOf source node.seats built.program.items (length nodes) (string_bytes built.report)
