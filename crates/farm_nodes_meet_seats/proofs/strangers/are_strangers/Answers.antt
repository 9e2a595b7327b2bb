-- One function more, whose rooms have two numbers; or one, and then the nodes are of one farm.
use Rattle.std.proofs.Common.{◌≡◌, ◌+◌, ◌<◌, ◌≤◌, length, refl, sym, ◌∙◌, arith, inl, inr}
use Rattle.farm_nodes_meet_seats.specs.Held.{held_of}
use Rattle.farm_nodes_meet_seats.proofs.Strange.{all_strange, none_strange, one_number, one_strange, read_at}
use Rattle.farm_nodes_meet_seats.proofs.strangers.are_strangers.Goals as goal

pub loop-function-init : goal.loop-function-init
loop-function-init g c = none_strange held_of c.args.first.now c.args.second.now

pub loop-function-preserved : goal.loop-function-preserved
loop-function-preserved g c =
    let n = c.loop-function.function in
    let xs = c.args.first.now in
    let ys = c.args.second.now in
    let a = c.index-first-function.result in
    let b = c.index-second-function.result in
    let there : n < length ys = omega (arith, c.if-function-second.false, c.loop-function.invariant.within) in
    one_strange held_of xs ys n (n + 1) a b refl
    (read_at xs n a c.loop-function-test.true c.index-first-function.is) (read_at ys n b there c.index-second-function.is)
    (λ same. c.if-number.false (c.number.ensures.value ∙ (same ∙ sym c.number-in-loop-function.ensures.value))) c.loop-function.invariant

pub returns-then-function-second : goal.returns-then-function-second
returns-then-function-second g c = (
  λ told. all_strange held_of c.args.first.now c.args.second.now c.loop-function.function (inr (omega (arith, c.if-function-second.true))) c.loop-function.invariant,
  λ two. refl,
)

pub returns-then-number : goal.returns-then-number
returns-then-number g c =
    let n = c.loop-function.function in
    let xs = c.args.first.now in
    let ys = c.args.second.now in
    let a = c.index-first-function.result in
    let b = c.index-second-function.result in
    let there : n < length ys = omega (arith, c.if-function-second.false, c.loop-function.invariant.within) in (
      λ told. absurd (cc told),
      λ far. absurd (one_number held_of xs ys n a b
          (read_at xs n a c.loop-function-test.true c.index-first-function.is) (read_at ys n b there c.index-second-function.is)
          (λ two. two (sym c.number.ensures.value ∙ (c.if-number.true ∙ c.number-in-loop-function.ensures.value))) far),
    )

pub returns : goal.returns
returns g c = (
  λ told. all_strange held_of c.args.first.now c.args.second.now c.loop-function.function (inl (omega (arith, c.loop-function-test.false))) c.loop-function.invariant,
  λ two. refl,
)
