-- The bundle of what nodes make carries the proof of their program.
use Rattle.std.proofs.Common.{ℕ, List, Option, Some, None}
use Rattle.std.specs.Global.{Vec}
use Rattle.std.specs.Prelude.{IfSome, option_map}
use Rattle.rooms_hall.specs.declared.hall.Naming as naming
use Rattle.c_checker_rules.specs.Checked.{program_tree}
use Rattle.cfarm_build_result.specs.Source.{Source}
use Rattle.cfarm_build_linking.specs.Built.{IsBuiltBy, IsBundledOf}
use Rattle.cfarm_build_linking.specs.Carried.{Carries, bundle_of}
use Rattle.cfarm_build_result.specs.Node.{Node}
use Rattle.cfarm_build_result.specs.declared.built.Built.{Built}

if_mapped : {V B : Type 0} (f : V → B) (P : V → Type 0) (Q : B → Type 0) (o : Option V) → ((v : V) → P v → Q (f v)) → IfSome o P → IfSome (option_map f o) Q
if_mapped f P Q None so is = tt
if_mapped f P Q (Some v) so is = so v is

pub carried : {D : Type 0} {H : Type 0} {h : naming.Ghosts H} (source : Source) (nodes : List (Node D H h)) (built : Built) → IsBuiltBy source nodes built
    → IfSome (bundle_of built) (λ bundle. Carries (program_tree source.program) source.digest built.program.items bundle)
carried source nodes built by =
    if_mapped (λ (v : Vec ℕ). v.items) (λ v. IsBundledOf source by.linked.program v.items)
    (λ bundle. Carries (program_tree source.program) source.digest built.program.items bundle) built.bundle
    (λ v links. record { linked = by.linked.program; bundled = links; keeps = by.linked.keeps; fits = by.linked.fits; text = by.linked.text })
    by.bundled
