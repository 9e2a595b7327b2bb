-- Why the loop of `shorten_to` over `self` keeps the invariant.
use Rattle.std.proofs.Common.{◌≡◌, ◌+◌, ◌-◌, length, drop, ap, ◌∙◌, arith}
use Rattle.std.proofs.lemmas.List.{drop-drop, length-drop}
use Rattle.c_checker_scopes.proofs.scopes.Scopes.shorten_to.Goals as goal

pub loop-self-preserved : goal.loop-self-preserved
loop-self-preserved g c =
    let all = c.args.self.now in
    let old = c.loop-self.self in
    let new = c.forget_newest.new.self in
    let gone = length all - length old in
    let len : length new ≡ length old - 1 = ap length c.forget_newest.ensures ∙ length-drop 1 old in
    let next : gone + 1 ≡ length all - length new = omega arith in
    record {
      left = omega arith;
      fewer = omega arith;
      oldest = c.forget_newest.ensures ∙ ap (drop 1) c.loop-self.invariant.oldest ∙ drop-drop 1 gone all ∙ ap (λ n. drop n all) next;
    }
