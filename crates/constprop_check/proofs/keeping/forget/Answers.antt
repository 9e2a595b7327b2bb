-- Why `forget` meets its contract.
use Rattle.std.proofs.Common.{◌≡◌, ◌<◌, length, eqb, sym, ap, ◌∙◌, arith}
use Rattle.std.specs.Prelude.{not}
use Rattle.std.proofs.lemmas.List.{get_or_default}
use Rattle.rtl_passes_facts.proofs.Places.{one_is_removed, none_is_removed}
use Rattle.constprop_check_rules.specs.Rules.{rank}
use Rattle.constprop_check.proofs.Kept.{is_gone, is_kept}
use Rattle.constprop_check.proofs.keeping.forget.Goals.{else-at-len-via-then-at-len+else-index-register, else-at-len-via-else-at-len}
use Rattle.constprop_check.proofs.keeping.forget.Goals as goal

pub returns-then-index-register : goal.returns-then-index-register
returns-then-index-register c =
    let facts = c.args.facts.now.items in
    let register = c.args.register in
    let at = c.first_from-at.result in
    let below : at < length facts = omega (arith, c.if-at-len.true, c.len.ensures) in
    c.remove.ensures.items ∙ sym (one_is_removed rank register (λ fact. not (eqb register fact.register)) (is_kept register) (is_gone register) facts at c.requires below
    (λ d. ap rank (get_or_default facts at d c.index.result.now below ∙ sym c.index.ensures) ∙ c.if-index-register.true))

pub returns-else-at-len : goal.returns-else-at-len
returns-else-at-len c =
    let facts = c.args.facts.now.items in
    let register = c.args.register in
    let at = c.first_from-at.result in
    let first = rw c.as_slice.ensures.value at c.first_from-at.ensures in
    sym (none_is_removed rank register (λ fact. not (eqb register fact.register)) (is_kept register) (is_gone register) facts at c.requires first
    (λ d within is.
    elim c.else-at-len.branch [
      | else-at-len-via-then-at-len+else-index-register w ↦
          w.if-index-register.false (sym (ap rank (get_or_default facts at d w.index.result.now within ∙ sym w.index.ensures)) ∙ is)
      | else-at-len-via-else-at-len w ↦ omega (arith, within, w.if-at-len.false, c.len.ensures)
    ]))
