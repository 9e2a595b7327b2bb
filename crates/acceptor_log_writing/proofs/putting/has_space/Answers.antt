-- Why the loop of `has_space` over `entry` keeps the invariant, and what it says where it ends.
use Rattle.std.proofs.Common.{◌≡◌, ◌+◌, ℕ, List, [], ◌∷◌, ◌++◌, length, take, sym, ap, ◌∙◌, arith}
use Rattle.std.proofs.lemmas.List.{take_more}
use Rattle.std.proofs.lemmas.List.Elements.{All-push, All-same}
use Rattle.acceptor_log_form.specs.declared.record.Record.{Record}
use Rattle.acceptor_log_form.specs.Text.{blocks, body_text, Fits}
use Rattle.acceptor_log_writing.proofs.Crash.{length-front, length-more, length-one}
use Rattle.acceptor_log_writing.proofs.putting.has_space.Goals as goal

-- one record more of the front of a list
front_more : (rs : List Record) (k : ℕ) (r : Record) → take (k + 1) rs ≡ take k rs ++ r ∷ [] → length (blocks (take (k + 1) rs)) ≡ length (blocks (take k rs)) + 5 + length (body_text r)
front_more rs k r are = omega (arith, ap (λ (l : List Record). length (blocks l)) are, length-more (take k rs) r, length-one r)

pub loop-entry-preserved : goal.loop-entry-preserved
loop-entry-preserved c =
    let rs = c.args.entries.now in
    let r = c.entry-item.result in
    let k = c.loop-entry.entry-index in
    let i = c.loop-entry.invariant in
    let are : take (k + 1) rs ≡ take k rs ++ r ∷ [] = take_more rs k r (omega arith) ∙ ap (λ x. take k rs ++ x ∷ []) (sym c.entry-item.is) in
    record {
      next = omega (arith, i.next, c.in-Some.ensures.next, front_more rs k r are);
      space = c.in-Some.ensures.space;
      fit = All-same Fits (take (k + 1) rs) _ are (All-push Fits (take k rs) r i.fit c.in-Some.ensures.fits);
    }

pub returns-in-None-clause-over : goal.returns-in-None-clause-over
returns-in-None-clause-over c is =
    let rs = c.args.entries.now in
    let r = c.entry-item.result in
    let k = c.loop-entry.entry-index in
    let i = c.loop-entry.invariant in
    let are : take (k + 1) rs ≡ take k rs ++ r ∷ [] = take_more rs k r (omega arith) ∙ ap (λ x. take k rs ++ x ∷ []) (sym c.entry-item.is) in
    omega (arith, i.next, c.in-None.ensures.none, front_more rs k r are, length-front rs (k + 1))
