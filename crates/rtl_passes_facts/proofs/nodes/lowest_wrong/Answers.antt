-- Why `lowest_wrong` meets its contract, its loop over `n` keeps the invariant, and it may call `turn`.
use Rattle.std.proofs.Common.{◌≡◌, ◌+◌, ◌<◌, length, drop, refl, sym, ap, ◌∙◌, subst, arith}
use Rattle.std.proofs.lemmas.Bool.{iff_false}
use Rattle.std.proofs.lemmas.List.{take_at}
use Rattle.std.proofs.lemmas.Option.{slice_get_read}
use Rattle.rtl_passes_filled.proofs.Marked.{AreCarried}
use Rattle.rtl_passes_filled.proofs.Shapes.{rows_rise}
use Rattle.rtl_passes_facts.proofs.Tested.{IsTested, tested_first, rows_said, turn_facts, turn_said, tested_on, lowest_here}
use Rattle.rtl_passes_facts.proofs.nodes.lowest_wrong.Goals as goal

pub loop-n-init : goal.loop-n-init
loop-n-init g c =
    rw (c.into_vec-lists.ensures, c.in_ok-empty_lists.ensures, c.as_slice-inputs.ensures, c.nodes.ensures.nodes) (tested_first g.R.Rules.rules c.args.input.now c.args.output.now c.args.rows.now c.args.feeders.now c.requires.feeders)

pub turn-requires-clause-facts : goal.turn-requires-clause-facts
turn-requires-clause-facts g c =
    let rising = rows_rise g.R.Rules.rules c.args.input.now.registers (g.met.R.Rules.ranked c.args.input.now.registers (omega (arith, c.nodes.ensures.in_range.registers))) c.args.input.now.entry c.args.input.now.nodes c.args.rows.now c.requires.rows in
    let carried : AreCarried g.R.Rules.rules = record { along = g.met.R.Rules.along; known = λ i before fact rise either. (g.met.R.Rules.known i before fact rise).1 either } in
    let said = rows_said g.R.Rules.rules c.args.input.now c.args.output.now c.args.rows.now c.args.feeders.now c.requires.feeders c.requires.rows.rising c.in_ok-said.said (rw (c.as_slice-inputs.ensures, c.nodes.ensures.nodes) at c.in_ok-said.ensures) in
    let within : c.loop-n.n < length c.args.input.now.nodes = omega (arith, c.loop-n-test.true, ap length (c.as_slice-inputs.ensures ∙ c.nodes.ensures.nodes)) in
    rw c.deref_mut.ensures.value (turn_facts g.R.Rules.rules c.args.input.now c.args.output.now c.args.rows.now c.args.feeders.now c.requires.feeders carried rising c.in_ok-said.said said c.loop-n.lists.items c.loop-n.n within c.loop-n.invariant)

pub turn-requires-clause-said : goal.turn-requires-clause-said
turn-requires-clause-said g c =
    let rising = rows_rise g.R.Rules.rules c.args.input.now.registers (g.met.R.Rules.ranked c.args.input.now.registers (omega (arith, c.nodes.ensures.in_range.registers))) c.args.input.now.entry c.args.input.now.nodes c.args.rows.now c.requires.rows in
    let carried : AreCarried g.R.Rules.rules = record { along = g.met.R.Rules.along; known = λ i before fact rise either. (g.met.R.Rules.known i before fact rise).1 either } in
    let said = rows_said g.R.Rules.rules c.args.input.now c.args.output.now c.args.rows.now c.args.feeders.now c.requires.feeders c.requires.rows.rising c.in_ok-said.said (rw (c.as_slice-inputs.ensures, c.nodes.ensures.nodes) at c.in_ok-said.ensures) in
    let within : c.loop-n.n < length c.args.input.now.nodes = omega (arith, c.loop-n-test.true, ap length (c.as_slice-inputs.ensures ∙ c.nodes.ensures.nodes)) in
    turn_said g.R.Rules.rules c.args.input.now c.args.output.now c.args.rows.now c.args.feeders.now c.requires.feeders carried rising c.in_ok-said.said said c.loop-n.lists.items c.loop-n.n within c.loop-n.invariant

pub returns-then-not-branch : goal.returns-then-not-branch
returns-then-not-branch g c =
    let rising = rows_rise g.R.Rules.rules c.args.input.now.registers (g.met.R.Rules.ranked c.args.input.now.registers (omega (arith, c.nodes.ensures.in_range.registers))) c.args.input.now.entry c.args.input.now.nodes c.args.rows.now c.requires.rows in
    let carried : AreCarried g.R.Rules.rules = record { along = g.met.R.Rules.along; known = λ i before fact rise either. (g.met.R.Rules.known i before fact rise).1 either } in
    let said = rows_said g.R.Rules.rules c.args.input.now c.args.output.now c.args.rows.now c.args.feeders.now c.requires.feeders c.requires.rows.rising c.in_ok-said.said (rw (c.as_slice-inputs.ensures, c.nodes.ensures.nodes) at c.in_ok-said.ensures) in
    let within : c.loop-n.n < length c.args.input.now.nodes = omega (arith, c.loop-n-test.true, ap length (c.as_slice-inputs.ensures ∙ c.nodes.ensures.nodes)) in
    let beyond : c.loop-n.n < length c.as_slice-outputs.result.now = omega (arith, within, c.requires.same.nodes, ap length (c.as_slice-outputs.ensures ∙ c.nodes-2.ensures.nodes)) in
    let input = rw (c.as_slice-inputs.ensures, c.nodes.ensures.nodes) at (slice_get_read c.as_slice-inputs.result.now (length c.as_slice-inputs.result.now) c.loop-n.n c.index-inputs-n.result refl c.loop-n-test.true c.index-inputs-n.is) in
    let output = rw (c.as_slice-outputs.ensures, c.nodes-2.ensures.nodes) at (slice_get_read c.as_slice-outputs.result.now (length c.as_slice-outputs.result.now) c.loop-n.n c.index-outputs-n.result refl beyond c.index-outputs-n.is) in
    let told = rw (c.entry-entry.ensures, c.deref_mut.ensures.value) at c.in_ok-turn.ensures.right in
    lowest_here g.R.Rules.rules c.args.input.now c.args.output.now c.args.rows.now c.args.feeders.now c.requires.feeders carried rising c.in_ok-said.said said c.loop-n.lists.items c.loop-n.n within c.loop-n.invariant c.index-inputs-n.result c.index-outputs-n.result input output (iff_false told c.if-not-branch.true)

pub loop-n-preserved : goal.loop-n-preserved
loop-n-preserved g c =
    let rising = rows_rise g.R.Rules.rules c.args.input.now.registers (g.met.R.Rules.ranked c.args.input.now.registers (omega (arith, c.nodes.ensures.in_range.registers))) c.args.input.now.entry c.args.input.now.nodes c.args.rows.now c.requires.rows in
    let carried : AreCarried g.R.Rules.rules = record { along = g.met.R.Rules.along; known = λ i before fact rise either. (g.met.R.Rules.known i before fact rise).1 either } in
    let said = rows_said g.R.Rules.rules c.args.input.now c.args.output.now c.args.rows.now c.args.feeders.now c.requires.feeders c.requires.rows.rising c.in_ok-said.said (rw (c.as_slice-inputs.ensures, c.nodes.ensures.nodes) at c.in_ok-said.ensures) in
    let within : c.loop-n.n < length c.args.input.now.nodes = omega (arith, c.loop-n-test.true, ap length (c.as_slice-inputs.ensures ∙ c.nodes.ensures.nodes)) in
    let beyond : c.loop-n.n < length c.as_slice-outputs.result.now = omega (arith, within, c.requires.same.nodes, ap length (c.as_slice-outputs.ensures ∙ c.nodes-2.ensures.nodes)) in
    let input = rw (c.as_slice-inputs.ensures, c.nodes.ensures.nodes) at (slice_get_read c.as_slice-inputs.result.now (length c.as_slice-inputs.result.now) c.loop-n.n c.index-inputs-n.result refl c.loop-n-test.true c.index-inputs-n.is) in
    let output = rw (c.as_slice-outputs.ensures, c.nodes-2.ensures.nodes) at (slice_get_read c.as_slice-outputs.result.now (length c.as_slice-outputs.result.now) c.loop-n.n c.index-outputs-n.result refl beyond c.index-outputs-n.is) in
    let told = rw (c.entry-entry.ensures, c.deref_mut.ensures.value) at c.in_ok-turn.ensures.right in
    let on = rw c.deref_mut.ensures.value at (c.in_ok-turn.ensures.on c.if-not-branch.false) in
    let next : IsTested g.R.Rules.rules c.args.input.now c.args.output.now c.args.rows.now c.turn.new.lists (c.loop-n.n + 1) =
    tested_on g.R.Rules.rules c.args.input.now c.args.output.now c.args.rows.now c.args.feeders.now c.requires.feeders carried rising c.in_ok-said.said said c.loop-n.lists.items c.loop-n.n within c.loop-n.invariant c.index-inputs-n.result c.index-outputs-n.result input output c.turn.new.lists (told.0 c.if-not-branch.false) on in
    let len : length c.turn.new.lists ≡ c.loop-n.lists.len = omega (arith, next.walked.count, c.loop-n.invariant.walked.count, c.deref_mut.ensures.len, ap length c.deref_mut.ensures.value) in
    subst (λ lists. IsTested g.R.Rules.rules c.args.input.now c.args.output.now c.args.rows.now lists (c.loop-n.n + 1)) (sym (take_at c.turn.new.lists (drop (length c.turn.new.lists) c.loop-n.lists.items) c.loop-n.lists.len len)) next

pub returns : goal.returns
returns g c = λ k below. c.loop-n.invariant.right k (omega (arith, below, c.loop-n-test.false, ap length (c.as_slice-inputs.ensures ∙ c.nodes.ensures.nodes)))
