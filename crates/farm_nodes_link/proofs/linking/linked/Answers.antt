-- What the linker answers, in the words of the offers that were learned.
use Rattle.std.proofs.Common.{◌≡◌, sym, ap, subst, ◌∙◌}
use Rattle.std.specs.Arc.{arc_value}
use Rattle.c_checker_rules.specs.Checked.{program_tree}
use Rattle.cminor_lowering.specs.Programs.{low}
use Rattle.rtlgen_definition.specs.Gen.{gen}
use Rattle.linker.specs.Chains.{names_beside, names_of}
use Rattle.farm_nodes_link.specs.Learned.{learned_by, IsUndecided}
use Rattle.farm_nodes_link.specs.Lent.{lent_beside}
use Rattle.farm_nodes_link.specs.declared.errors.LinkedError.TheVariants.{Link}
use Rattle.farm_nodes_link.proofs.Exits.{is_linked, go_on, chain, unlinked, not_true}
use Rattle.farm_nodes_link.proofs.Wanting.{none_wanting}
use Rattle.farm_nodes_link.proofs.linking.linked.Goals as goal

pub returns-then-is_undecided-clause-whole : goal.returns-then-is_undecided-clause-whole
returns-then-is_undecided-clause-whole g c = λ names few all.
    let is : IsUndecided (learned_by c.args.node.now.seats.items) = subst (λ l. IsUndecided (learned_by l)) c.deref.ensures.value (c.is_undecided.ensures.0 c.if-is_undecided.true) in
    absurd (none_wanting (gen (low (program_tree c.args.program.now))).functions (learned_by c.args.node.now.seats.items) is.function all is.wanting)

pub returns-in-Ok-link-clause-ok : goal.returns-in-Ok-link-clause-ok
returns-in-Ok-link-clause-ok g c =
    let named = c.deref-4.result.now in
    let same : lent_beside named ≡ learned_by c.args.node.now.seats.items =
    ap (λ l. lent_beside l) c.deref-4.ensures.value ∙ (c.in-Ok.ensures.offers ∙ ap (λ l. learned_by l) c.deref-3.ensures.value) in
    c.in-Ok-link.ensures.ok ∙ is_linked (gen (low (program_tree c.args.program.now))) (learned_by c.args.node.now.seats.items) named same

pub returns-in-Ok-link-clause-chained : goal.returns-in-Ok-link-clause-chained
returns-in-Ok-link-clause-chained g c =
    let named = c.deref-4.result.now in
    let same : lent_beside named ≡ learned_by c.args.node.now.seats.items =
    ap (λ l. lent_beside l) c.deref-4.ensures.value ∙ (c.in-Ok.ensures.offers ∙ ap (λ l. learned_by l) c.deref-3.ensures.value) in
    go_on (gen (low (program_tree c.args.program.now))) (learned_by c.args.node.now.seats.items) named same c.in-Ok-link.ensures.chained

pub returns-clause-refused : goal.returns-clause-refused
returns-clause-refused g c =
    let named = c.deref-4.result.now in
    let learned = learned_by c.args.node.now.seats.items in
    let same : lent_beside named ≡ learned_by c.args.node.now.seats.items =
    ap (λ l. lent_beside l) c.deref-4.ensures.value ∙ (c.in-Ok.ensures.offers ∙ ap (λ l. learned_by l) c.deref-3.ensures.value) in
    let beside : names_beside named ≡ names_of (arc_value c.args.node.now.program).functions =
    ap (λ l. names_beside l) c.deref-4.ensures.value ∙ (c.in-Ok.ensures.names ∙ ap (λ l. names_of l) (c.as_slice.ensures ∙ ap (λ p. p.functions) c.deref-2.ensures)) in
    let never = λ (u : IsUndecided (learned_by c.args.node.now.seats.items)).
    not_true c.is_undecided.result c.if-is_undecided.false (c.is_undecided.ensures.1 (subst (λ l. IsUndecided (learned_by l)) (sym c.deref.ensures.value) u)) in
    unlinked (low (program_tree c.args.program.now)) (learned_by c.args.node.now.seats.items) named same (names_of (arc_value c.args.node.now.program).functions) beside never
    c.in-Err-link.fault c.in-Err-link.ensures.refused

pub returns-clause-whole : goal.returns-clause-whole
returns-clause-whole g c = λ names few all.
    let named = c.deref-4.result.now in
    let same : lent_beside named ≡ learned_by c.args.node.now.seats.items =
    ap (λ l. lent_beside l) c.deref-4.ensures.value ∙ (c.in-Ok.ensures.offers ∙ ap (λ l. learned_by l) c.deref-3.ensures.value) in
    let beside : names_beside named ≡ names_of (arc_value c.args.node.now.program).functions =
    ap (λ l. names_beside l) c.deref-4.ensures.value ∙ (c.in-Ok.ensures.names ∙ ap (λ l. names_of l) (c.as_slice.ensures ∙ ap (λ p. p.functions) c.deref-2.ensures)) in
    let memory = c.in-Err-link.ensures.whole (beside ∙ names) few
    (chain (gen (low (program_tree c.args.program.now))) (learned_by c.args.node.now.seats.items) named same all) in
    λ i. Link (memory i)

pub returns-in-Ok-link-clause-names : goal.returns-in-Ok-link-clause-names
returns-in-Ok-link-clause-names g c = λ others.
    let named = c.deref-4.result.now in
    let beside : names_beside named ≡ names_of (arc_value c.args.node.now.program).functions =
    ap (λ l. names_beside l) c.deref-4.ensures.value ∙ (c.in-Ok.ensures.names ∙ ap (λ l. names_of l) (c.as_slice.ensures ∙ ap (λ p. p.functions) c.deref-2.ensures)) in
    absurd (c.in-Ok-link.ensures.names (λ same. others (sym beside ∙ same)))

pub returns-clause-names : goal.returns-clause-names
returns-clause-names g c = λ others decided room.
    let named = c.deref-4.result.now in
    let beside : names_beside named ≡ names_of (arc_value c.args.node.now.program).functions =
    ap (λ l. names_beside l) c.deref-4.ensures.value ∙ (c.in-Ok.ensures.names ∙ ap (λ l. names_of l) (c.as_slice.ensures ∙ ap (λ p. p.functions) c.deref-2.ensures)) in
    let told = c.in-Err-link.ensures.names (λ same. others (sym beside ∙ same)) (λ memory. room (λ i. Link (memory i))) in
    λ i. Link (told i)
