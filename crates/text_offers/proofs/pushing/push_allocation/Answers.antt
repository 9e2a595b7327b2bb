-- Why `push_allocation` meets its contract.
use Rattle.std.proofs.Common.{codes, subst}
use Rattle.lang_base.specs.Texts.{Appends}
use Rattle.text_keys.proofs.Appending.{function_written}
use Rattle.text_rtl.specs.Shown as rtl
use Rattle.text_ltl.specs.Shown as ltl
use Rattle.text_offers.specs.Entries.{place_words}
use Rattle.text_offers.specs.Lines.{rows_lines}
use Rattle.text_offers.proofs.pushing.push_allocation.Goals as goal

pub returns : goal.returns
returns c =
    let p = c.args.parts.now in
    let r = c.push_rows.result in
    let third = c.push_named-2.new.out.items in
    let new = c.push_rows.new.out.items in
    function_written r (codes "offer pass 3\n") (rtl.shown_under (codes "input") p.input) (ltl.shown_under (codes "output") p.output) (rows_lines place_words p.certificate)
    c.args.out.now.items c.push_bytes.new.out.items c.push_named.new.out.items third new
    c.in_ok-push_bytes.ensures c.in_ok-push_named.ensures c.in_ok-push_named-2.ensures
    (subst (λ l. Appends r (rows_lines place_words l) third new) c.as_slice.ensures c.push_rows.ensures)
