-- What one of two nodes links that met, the other links.
use Rattle.std.proofs.Common.{◌≡◌, ℕ, List, Result, Ok, Err, IfOk, ap, ◌∙◌}
use Rattle.lang_base.specs.Keeps.{Keeps}
use Rattle.lang_base.specs.declared.program.Program.{Program}
use Rattle.lang.specs.Form.{IsProgram}
use Rattle.c_program.specs.Meaning.{crun}
use Rattle.c_checker_rules.specs.Checked.{program_tree}
use Rattle.cminor_lowering.specs.Programs.{low}
use Rattle.farm_nodes_source.specs.Names.{HaveNames}
use Rattle.linear_language.specs.Function as linear_function
use Rattle.linear_language.specs.Meaning as linear
use Rattle.rtlgen_definition.specs.Gen.{gen}
use Rattle.rooms_hall.specs.declared.hall.Naming as naming
use Rattle.farm_nodes_link.specs.Alike.{HaveCounted}
use Rattle.farm_nodes_link.specs.Learned.{learned_by}
use Rattle.farm_nodes_link.specs.Offered.{linked_offers}
use Rattle.farm_nodes_link.specs.NumberedSeat.{NumberedSeat}
use Rattle.farm_nodes_link.specs.declared.errors.LinkedError.{LinkedError}
use Rattle.farm_nodes_link.proofs.Alike.{one_learned}
use Rattle.farm_nodes_source.specs.declared.source.Source.{Source}
use Rattle.farm_nodes.specs.OneProgram.{IsOneProgram}
use Rattle.farm_nodes.specs.Prepared.{IsSourceOf}

pub one_program : {H : Type 0} {h : naming.Ghosts H} (text : List ℕ) (source : Source) → IsSourceOf text source → (first second : List (NumberedSeat H h))
    → HaveCounted first second → (r : Result (Program linear_function.FunctionData) LinkedError)
    → IfOk r (λ made. made ≡ linked_offers (gen (low (program_tree source.program))) (learned_by first))
    → IfOk r (λ made. Keeps (crun (program_tree source.program)) (linear.run made))
    → (HaveNames (program_tree source.program) → IfOk r (IsProgram linear_function.IsFunction))
    → IfOk r (IsOneProgram text source first second)
one_program text source is first second counted (Ok made) links keeps spelled = record {
  tree = is.tree;
  accepted = is.accepted;
  program = is.program;
  first_links = links;
  second_links = links ∙ ap (λ l. linked_offers (gen (low (program_tree source.program))) l) (one_learned first second counted);
  keeps = keeps;
  spelled = spelled is.names;
}
one_program text source is first second counted (Err e) links keeps spelled = tt
