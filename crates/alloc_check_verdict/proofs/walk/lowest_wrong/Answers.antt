-- Why `lowest_wrong` meets its contract, its loop over `n` keeps the invariant, and it may call `go_back`.
use Rattle.std.proofs.Common.{◌≡◌, suc, ◌-◌, ◌<◌, ◌≤◌, [], length, replicate, drop, sym, ap, ◌∙◌, subst, arith}
use Rattle.std.proofs.lemmas.Bool.{iff_false}
use Rattle.rtl_passes_marks.specs.Handing.{spread_on}
use Rattle.alloc_check_rules.specs.Rules.{IsRightAt}
use Rattle.alloc_check_proof.specs.Allocated.{filled}
use Rattle.alloc_check_verdict.specs.Walk.{IsSaid, IsKnownFrom}
use Rattle.alloc_check_verdict.proofs.Known.{rows_said, known_first, marked_rises}
use Rattle.alloc_check_verdict.proofs.Lowest.{tells_right, tells_wrong, tells_last, take_all}
use Rattle.alloc_check_verdict.proofs.walk.lowest_wrong.Goals as goal

pub loop-n-init : goal.loop-n-init
loop-n-init c =
    let input = c.args.input.now in
    let output = c.args.output.now in
    let rows = c.args.rows.now in
    let instructions = c.as_slice-instructions.result.now in
    let nodes : instructions ≡ input.nodes = c.as_slice-instructions.ensures ∙ c.nodes.ensures.nodes in
    let count : length instructions ≡ length input.nodes = ap length nodes in (
      omega (arith, count),
      subst (IsKnownFrom input output rows (length instructions)) (sym (c.into_vec-lists.ensures ∙ c.in_ok-empty_lists.ensures ∙ ap (λ k. replicate k []) count))
          (known_first input output rows c.requires.form (length instructions) (omega (arith, count))),
      λ k from below. absurd (omega (arith, from, below, count)),
    )

pub go_back-requires-clause-rising : goal.go_back-requires-clause-rising
go_back-requires-clause-rising c = λ marked.
    let few : c.args.output.now.slots ≤ 65536 = omega (arith, c.blocks-2.ensures.in_range.slots) in
    let below : c.loop-n.n - 1 < length c.args.input.now.nodes = omega (arith, c.loop-n-test.true, c.loop-n.invariant.0) in
    let count = ap length (c.as_slice-instructions.ensures ∙ c.nodes.ensures.nodes) in
    let are_said : IsSaid c.args.input.now c.args.output.now c.args.rows.now c.in_ok-said.said = subst (IsSaid c.args.input.now c.args.output.now c.args.rows.now) (sym (c.in_ok-said.ensures ∙ ap (λ k. spread_on c.args.rows.now (replicate k [])) count)) (rows_said c.args.input.now c.args.output.now c.args.rows.now c.requires.form) in
    marked_rises c.args.input.now c.args.output.now c.args.rows.now c.requires.form few (c.loop-n.n - 1) c.in_ok-said.said below are_said marked

pub loop-n-preserved : goal.loop-n-preserved
loop-n-preserved c =
    let input = c.args.input.now in
    let output = c.args.output.now in
    let rows = c.args.rows.now in
    let n = c.loop-n.n in
    let new = c.go_back.new.lists in
    let next : n ≡ suc (n - 1) = omega (arith, c.loop-n-test.true) in
    let known : IsKnownFrom input output rows (suc (n - 1)) c.deref_mut.result.now =
    subst (IsKnownFrom input output rows (suc (n - 1))) (sym c.deref_mut.ensures.value) (subst (λ k. IsKnownFrom input output rows k c.loop-n.lists.items) next c.loop-n.invariant.1) in
    let count = ap length (c.as_slice-instructions.ensures ∙ c.nodes.ensures.nodes) in
    let are_said : IsSaid input output rows c.in_ok-said.said = subst (IsSaid input output rows) (sym (c.in_ok-said.ensures ∙ ap (λ k. spread_on rows (replicate k [])) count)) (rows_said input output rows c.requires.form) in
    let told = c.in_ok-right.ensures rows are_said known in
    let whole : length new ≡ c.loop-n.lists.len = omega (arith, c.go_back.auto.lists, c.deref_mut.ensures.len) in (
      omega (arith, c.loop-n.invariant.0),
      subst (IsKnownFrom input output rows (n - 1)) (sym (take_all new (drop (length new) c.loop-n.lists.items) c.loop-n.lists.len whole)) told.1,
      tells_right (IsRightAt input output (filled input output rows)) (length input.nodes) (n - 1) n c.loop-n.wrong next c.loop-n.invariant.2 (told.0.0 c.if-not-right.false),
    )

pub loop-n-preserved-then-not-right : goal.loop-n-preserved-then-not-right
loop-n-preserved-then-not-right c =
    let input = c.args.input.now in
    let output = c.args.output.now in
    let rows = c.args.rows.now in
    let n = c.loop-n.n in
    let new = c.go_back.new.lists in
    let next : n ≡ suc (n - 1) = omega (arith, c.loop-n-test.true) in
    let known : IsKnownFrom input output rows (suc (n - 1)) c.deref_mut.result.now =
    subst (IsKnownFrom input output rows (suc (n - 1))) (sym c.deref_mut.ensures.value) (subst (λ k. IsKnownFrom input output rows k c.loop-n.lists.items) next c.loop-n.invariant.1) in
    let count = ap length (c.as_slice-instructions.ensures ∙ c.nodes.ensures.nodes) in
    let are_said : IsSaid input output rows c.in_ok-said.said = subst (IsSaid input output rows) (sym (c.in_ok-said.ensures ∙ ap (λ k. spread_on rows (replicate k [])) count)) (rows_said input output rows c.requires.form) in
    let told = c.in_ok-right.ensures rows are_said known in
    let whole : length new ≡ c.loop-n.lists.len = omega (arith, c.go_back.auto.lists, c.deref_mut.ensures.len) in (
      omega (arith, c.loop-n.invariant.0),
      subst (IsKnownFrom input output rows (n - 1)) (sym (take_all new (drop (length new) c.loop-n.lists.items) c.loop-n.lists.len whole)) told.1,
      tells_wrong (IsRightAt input output (filled input output rows)) (length input.nodes) (n - 1) (omega (arith, c.loop-n-test.true, c.loop-n.invariant.0)) (iff_false told.0 c.if-not-right.true),
    )

pub returns : goal.returns
returns c =
    let input = c.args.input.now in
    let output = c.args.output.now in
    tells_last (IsRightAt input output (filled input output c.args.rows.now)) (length input.nodes) c.loop-n.wrong c.loop-n.n (omega (arith, c.loop-n-test.false)) c.loop-n.invariant.2
