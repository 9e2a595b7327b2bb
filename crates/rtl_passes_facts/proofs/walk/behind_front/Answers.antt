-- Why the loop of `behind_front` over `left` keeps the invariant.
use Rattle.std.proofs.Common.{◌≡◌, ◌<◌, ◌-◌, List, length, get_or, drop, take, sym, ap, ◌∙◌, subst, arith, true, rules}
use Rattle.std.proofs.lemmas.List.{take_all, length-drop}
use Rattle.rtl_passes_filled.proofs.Rising.{IsBehind, behind_both}
use Rattle.rtl_passes_facts.proofs.walk.behind_front.Goals as goal

cut : {A : Type 0} (xs : List A) → take (length xs - 1) (drop 1 xs) ≡ drop 1 xs
cut xs = take_all (length xs - 1) (drop 1 xs) (omega (arith, length-drop 1 xs))

pub loop-left-preserved : goal.loop-left-preserved
loop-left-preserved g c =
    let rank = g.R.Rules.rules.rank in
    let makes = g.R.Rules.makes c.args.change in
    let keeps = g.R.Rules.keeps c.args.change in
    let before = c.args.before.now in
    let after = c.args.after.now in
    let left = c.loop-left.left.now in
    let rest = c.loop-left.rest.now in
    let some : 0 < length left = search rules in
    let others : 0 < length rest = search rules in
    let same : get_or left 0 c.first-item.result ≡ get_or rest 0 c.fact-item.result = sym c.first-item.is ∙ c.is_one.ensures.0 c.if-not-is_one.false ∙ c.fact-item.is in
    let kept : keeps (get_or rest 0 c.fact-item.result) ≡ true = ap keeps (sym c.fact-item.is) ∙ sym c.is_kept.ensures ∙ c.if-not-is_kept.false in
    let on = behind_both rank makes keeps before after left rest c.first-item.result c.fact-item.result some others same kept c.loop-left.invariant in
    subst (λ (es : List g.row.R-Fact.Denot). IsBehind rank makes keeps before after es (take (length rest - 1) (drop 1 rest))) (sym (cut left))
    (subst (λ (es : List g.row.R-Fact.Denot). IsBehind rank makes keeps before after (drop 1 left) es) (sym (cut rest)) on)
