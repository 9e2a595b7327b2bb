-- What the linker answers, in the words of the offers that were learned.
use Rattle.std.proofs.Common.{◌≡◌, sym, ap, subst, ◌∙◌}
use Rattle.std.specs.Arc.{arc_value}
use Rattle.lang_base.specs.Keeps.{Keeps}
use Rattle.rtl_language.specs.Meaning as rtl
use Rattle.linear_language.specs.Meaning as linear
use Rattle.linker.specs.Chains.{linked, names_beside, names_of, AllChained, Refusal}
use Rattle.farm_nodes_link.specs.Learned.{learned_by, IsUndecided}
use Rattle.farm_nodes_link.specs.Lent.{lent_beside}
use Rattle.farm_nodes_link.specs.declared.errors.LinkedError.TheVariants.{Link}
use Rattle.farm_nodes_link.proofs.Exits.{is_linked, go_on, chain, unlinked_to, not_true}
use Rattle.farm_nodes_link.proofs.Wanting.{none_wanting}
use Rattle.farm_nodes_link.proofs.translated.linked_held.Goals as goal

pub returns-then-is_undecided-clause-whole : goal.returns-then-is_undecided-clause-whole
returns-then-is_undecided-clause-whole g c = λ all.
    let is : IsUndecided (learned_by c.args.node.now.seats.items) = subst (λ l. IsUndecided (learned_by l)) c.deref.ensures.value (c.is_undecided.ensures.0 c.if-is_undecided.true) in
    absurd (none_wanting (arc_value c.args.node.now.program).functions (learned_by c.args.node.now.seats.items) is.function all is.wanting)

pub returns-in-Ok-link_translated-clause-ok : goal.returns-in-Ok-link_translated-clause-ok
returns-in-Ok-link_translated-clause-ok g c =
    let named = c.deref-5.result.now in
    let same : lent_beside named ≡ learned_by c.args.node.now.seats.items =
    ap (λ l. lent_beside l) c.deref-5.ensures.value ∙ (c.in-Ok.ensures.offers ∙ ap (λ l. learned_by l) c.deref-3.ensures.value) in
    c.in-Ok-link_translated.ensures.ok ∙ ap (λ p. linked p named) c.deref-4.ensures
    ∙ is_linked (arc_value c.args.node.now.program) (learned_by c.args.node.now.seats.items) named same

pub returns-in-Ok-link_translated-clause-chained : goal.returns-in-Ok-link_translated-clause-chained
returns-in-Ok-link_translated-clause-chained g c =
    let named = c.deref-5.result.now in
    let same : lent_beside named ≡ learned_by c.args.node.now.seats.items =
    ap (λ l. lent_beside l) c.deref-5.ensures.value ∙ (c.in-Ok.ensures.offers ∙ ap (λ l. learned_by l) c.deref-3.ensures.value) in
    go_on (arc_value c.args.node.now.program) (learned_by c.args.node.now.seats.items) named same
    (subst (λ p. AllChained p.functions named) c.deref-4.ensures c.in-Ok-link_translated.ensures.chained)

pub returns-in-Ok-link_translated-clause-same_names : goal.returns-in-Ok-link_translated-clause-same_names
returns-in-Ok-link_translated-clause-same_names g c =
    c.in-Ok-link_translated.ensures.same_names ∙ ap (λ p. names_of p.functions) c.deref-4.ensures

pub returns-in-Ok-link_translated-clause-keeps : goal.returns-in-Ok-link_translated-clause-keeps
returns-in-Ok-link_translated-clause-keeps g c =
    subst (λ p. Keeps (rtl.run p) (linear.run c.in-Ok-link_translated.made)) c.deref-4.ensures c.in-Ok-link_translated.ensures.keeps

pub returns-clause-refused : goal.returns-clause-refused
returns-clause-refused g c =
    let named = c.deref-5.result.now in
    let same : lent_beside named ≡ learned_by c.args.node.now.seats.items =
    ap (λ l. lent_beside l) c.deref-5.ensures.value ∙ (c.in-Ok.ensures.offers ∙ ap (λ l. learned_by l) c.deref-3.ensures.value) in
    let beside : names_beside named ≡ names_of (arc_value c.args.node.now.program).functions =
    ap (λ l. names_beside l) c.deref-5.ensures.value ∙ (c.in-Ok.ensures.names ∙ ap (λ l. names_of l) (c.as_slice.ensures ∙ ap (λ p. p.functions) c.deref-2.ensures)) in
    let never = λ (u : IsUndecided (learned_by c.args.node.now.seats.items)).
    not_true c.is_undecided.result c.if-is_undecided.false (c.is_undecided.ensures.1 (subst (λ l. IsUndecided (learned_by l)) (sym c.deref.ensures.value) u)) in
    let told = subst (λ p. Refusal p.functions named c.in-Err-link_translated.fault) c.deref-4.ensures c.in-Err-link_translated.ensures.refused in
    unlinked_to (arc_value c.args.node.now.program) (learned_by c.args.node.now.seats.items) named same beside never c.in-Err-link_translated.fault told

pub returns-clause-whole : goal.returns-clause-whole
returns-clause-whole g c = λ all.
    let named = c.deref-5.result.now in
    let same : lent_beside named ≡ learned_by c.args.node.now.seats.items =
    ap (λ l. lent_beside l) c.deref-5.ensures.value ∙ (c.in-Ok.ensures.offers ∙ ap (λ l. learned_by l) c.deref-3.ensures.value) in
    let beside : names_beside named ≡ names_of (arc_value c.args.node.now.program).functions =
    ap (λ l. names_beside l) c.deref-5.ensures.value ∙ (c.in-Ok.ensures.names ∙ ap (λ l. names_of l) (c.as_slice.ensures ∙ ap (λ p. p.functions) c.deref-2.ensures)) in
    let chained = chain (arc_value c.args.node.now.program) (learned_by c.args.node.now.seats.items) named same all in
    let memory = c.in-Err-link_translated.ensures.whole (beside ∙ sym (ap (λ p. names_of p.functions) c.deref-4.ensures))
    (subst (λ p. AllChained p.functions named) (sym c.deref-4.ensures) chained) in
    λ i. Link (memory i)
