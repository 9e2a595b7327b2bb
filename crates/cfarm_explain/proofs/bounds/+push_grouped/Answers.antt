-- Why `+push_grouped` meets its contract.
use Rattle.std.specs.Prelude.{codes}
use Rattle.std.proofs.Common.{ℕ, ◌-◌, ◌/◌, ◌%◌, List, ◌++◌, sym, subst}
use Rattle.std.proofs.lemmas.Bool.{le-ltb}
use Rattle.lang_base.specs.Texts.{Appends}
use Rattle.text_keys.proofs.Appending.{appends_behind}
use Rattle.cfarm_explain.specs.Bounds.{grouped, three_text}
use Rattle.cfarm_explain.proofs.Groups.{more}
use Rattle.cfarm_explain.proofs.bounds.+push_grouped.Goals as goal

pub returns : goal.returns
returns t c =
    let n = c.args.number in
    let k = c.args.cuts in
    let r = c.push_three.result in
    let end = c.push_three.new.out.items in
    let one = c.push_grouped.new.out.items in
    let two = c.push_bytes.new.out.items in
    subst (λ (l : List ℕ). Appends r l c.args.out.now.items end) (sym (more k n c.if-cuts-eq0.false (le-ltb n 1000 c.if-number-lt1000.false)))
    (appends_behind r (grouped (k - 1) (n / 1000)) (codes "," ++ three_text (n % 1000)) c.args.out.now.items one end c.in_ok-push_grouped.ensures
    (appends_behind r (codes ",") (three_text (n % 1000)) one two end c.in_ok-push_bytes.ensures c.push_three.ensures))
