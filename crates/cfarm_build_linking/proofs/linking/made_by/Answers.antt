-- The first of the nodes links what it has learned, or why not.
use Rattle.std.proofs.Common.{◌≡◌, length, map, refl, sym, ap, subst, ◌∙◌, arith}
use Rattle.std.specs.Arc.{arc_value}
use Rattle.std.specs.String.{string_bytes}
use Rattle.std.proofs.lemmas.List.{length-map}
use Rattle.c_checker_rules.specs.Checked.{program_tree}
use Rattle.cminor_lowering.specs.Programs.{low}
use Rattle.cfarm_build_result.specs.Numbers.{function_of_link_error}
use Rattle.cfarm_build_result.specs.Learned.{learned_by, IsUndecided}
use Rattle.cfarm_build_result.specs.Offered.{linked_offers}
use Rattle.cfarm_build_result.specs.Refused.{IsRefusedTo}
use Rattle.cfarm_build_result.specs.Bundled.{LinksLearned}
use Rattle.rtlgen_definition.specs.Gen.{gen}
use Rattle.cfarm_build_linking.specs.Built.{IsBundledOf, IsReportOf}
use Rattle.cfarm_build_result.specs.Node.{node}
use Rattle.cfarm_build_linking.proofs.Bundling.{bundled_so, if_some}
use Rattle.cfarm_build_linking.specs.Refused.{IsToldOf}
use Rattle.cfarm_build_result.proofs.Wanting.{seen_at}
use Rattle.cfarm_build_result.proofs.Learning.{all_at, all_mapped}
use Rattle.cfarm_build_linking.proofs.Firsts as firsts
use Rattle.cfarm_build_linking.proofs.Neighbours.{all_link, all_same, two_seen}
use Rattle.cfarm_build_linking.proofs.Refusing.{as_many, of_function, refused}
use Rattle.cfarm_build_linking.proofs.linking.made_by.Goals as goal

pub linked_translated-requires : goal.linked_translated-requires
linked_translated-requires g c =
    all_at (λ n. arc_value n.program ≡ arc_value c.args.source.now.translated) c.args.nodes.now 0 c.index-nodes-0.result c.requires.program c.requires.some c.index-nodes-0.is
    ∙ c.requires.translated

pub unlinked-requires-clause-number : goal.unlinked-requires-clause-number
unlinked-requires-clause-number g c = λ i e.
    let source = c.args.source.now in
    let x = c.index-nodes-0.result in
    let told = subst (λ f. IsRefusedTo (gen (low (program_tree source.program))) (learned_by x.seats.items) f) c.in-Err-Link.field-0-is c.in-Err-Link.ensures.refused in
    (of_function source.program (learned_by x.seats.items) c.in-Err-Link.fault i told (ap function_of_link_error (sym c.in-Err-Link.fault-is) ∙ e)).within

pub returns-in-Err-Link-clause-refused : goal.returns-in-Err-Link-clause-refused
returns-in-Err-Link-clause-refused g c =
    let source = c.args.source.now in
    let x = c.index-nodes-0.result in
    let told = subst (λ f. IsRefusedTo (gen (low (program_tree source.program))) (learned_by x.seats.items) f) c.in-Err-Link.field-0-is c.in-Err-Link.ensures.refused in
    let decided = all_mapped (λ n. node n.log n.seats.items n.halted) (λ n. IsUndecided (learned_by n.seats) → ⊥) c.args.nodes.now c.requires.decided in
    let first = seen_at (λ n. node n.log n.seats.items n.halted) c.args.nodes.now 0 x c.requires.some c.index-nodes-0.is in
    firsts.refused source (map (λ n. node n.log n.seats.items n.halted) c.args.nodes.now) (node x.log x.seats.items x.halted) decided first c.unlinked.result
    (refused source x.seats.items c.in-Err-Link.fault told c.unlinked.result
    (subst (λ f. IsToldOf (map (λ f. f.name) source.program.functions) f c.unlinked.result) c.in-Err-Link.fault-is c.unlinked.ensures))

pub made_of-requires-clause-fits : goal.made_of-requires-clause-fits
made_of-requires-clause-fits g c = c.in-Ok.ensures.spelled c.requires.names

pub made_of-requires-clause-count : goal.made_of-requires-clause-count
made_of-requires-clause-count g c =
    let source = c.args.source.now in
    let x = c.index-nodes-0.result in
    let here = all_at (λ n. arc_value n.program ≡ arc_value source.translated) c.args.nodes.now 0 x c.requires.program c.requires.some c.index-nodes-0.is in
    ap (λ l. length l) c.deref.ensures.value ∙ (x.covers ∙ (ap (λ q. length q.functions) (here ∙ c.requires.translated) ∙ as_many source.program.functions))

pub made_of-requires-clause-few : goal.made_of-requires-clause-few
made_of-requires-clause-few g c =
    let x = c.index-nodes-0.result in
    let here = all_at (λ n. arc_value n.program ≡ arc_value c.args.source.now.translated) c.args.nodes.now 0 x c.requires.program c.requires.some c.index-nodes-0.is in
    omega (arith, ap (λ l. length l) c.deref.ensures.value, x.covers, ap (λ q. length q.functions) here, c.requires.count)

pub made_of-requires-clause-decided : goal.made_of-requires-clause-decided
made_of-requires-clause-decided g c =
    subst (λ l. IsUndecided (learned_by l) → ⊥) (sym c.deref.ensures.value)
    (all_at (λ n. IsUndecided (learned_by n.seats.items) → ⊥) c.args.nodes.now 0 c.index-nodes-0.result c.requires.decided c.requires.some c.index-nodes-0.is)

pub returns-in-Ok-made_of-clause-built : goal.returns-in-Ok-made_of-clause-built
returns-in-Ok-made_of-clause-built g c =
    let source = c.args.source.now in
    let x = c.index-nodes-0.result in
    let made = c.in-Ok-made_of.ensures.made in
    let built = c.in-Ok-made_of.built in
    let count = length-map c.args.nodes.now (λ n. node n.log n.seats.items n.halted) in
    let same = all_same (λ n. n.seats.items) c.args.nodes.now x c.requires.some c.index-nodes-0.is c.requires.counted in
    record {
      counted = two_seen (λ n. n.seats.items) (λ n. node n.log n.seats.items n.halted) (λ n. n.seats) (λ n. refl) c.args.nodes.now c.requires.counted;
      decided = all_mapped (λ n. node n.log n.seats.items n.halted) (λ n. IsUndecided (learned_by n.seats) → ⊥) c.args.nodes.now c.requires.decided;
      node = node x.log x.seats.items x.halted;
      first = seen_at (λ n. node n.log n.seats.items n.halted) c.args.nodes.now 0 x c.requires.some c.index-nodes-0.is;
      same = all_mapped (λ n. node n.log n.seats.items n.halted) (λ n. learned_by n.seats ≡ learned_by x.seats.items) c.args.nodes.now same;
      linked = record {
        program = c.in-Ok.program;
        linked = all_mapped (λ n. node n.log n.seats.items n.halted)
            (λ n. c.in-Ok.program ≡ linked_offers (gen (low (program_tree source.program))) (learned_by n.seats)) c.args.nodes.now
            (all_link (λ n. n.seats.items) (gen (low (program_tree source.program))) c.in-Ok.program (learned_by x.seats.items) c.args.nodes.now
            c.in-Ok.ensures.ok same);
        keeps = c.in-Ok.ensures.keeps;
        fits = c.in-Ok.ensures.spelled c.requires.names;
        text = made.text;
      };
      bundled = if_some (λ b. LinksLearned b.items source.digest (learned_by c.deref.result.now))
          (λ b. IsBundledOf source c.in-Ok.program b.items) built.bundle
          (λ b links. bundled_so b.items source.digest (gen (low (program_tree source.program))) (learned_by c.deref.result.now) (learned_by x.seats.items)
          c.in-Ok.program (ap (λ l. learned_by l) c.deref.ensures.value) c.in-Ok.ensures.chained c.in-Ok.ensures.ok links)
          made.bundled;
      report = subst (λ l. IsReportOf source l built.program.items (length (map (λ n. node n.log n.seats.items n.halted) c.args.nodes.now)) (string_bytes built.report))
          c.deref.ensures.value
          (subst (λ n. IsReportOf source c.deref.result.now built.program.items n (string_bytes built.report)) (sym count) made.report);
    }
