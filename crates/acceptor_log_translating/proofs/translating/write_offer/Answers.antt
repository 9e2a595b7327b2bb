-- Why `write_offer` meets its clause `added`.
use Rattle.std.proofs.Common.{◌≡◌, [], length, sym, ap, ◌∙◌}
use Rattle.std.proofs.lemmas.Bool.{eqb-false, eqb-true}
use Rattle.std.proofs.lemmas.List.{nil_from_length}
use Rattle.acceptor_log_translating.proofs.Written.{offer_added, no_offer_added}
use Rattle.acceptor_log_translating.proofs.translating.write_offer.Goals as goal

pub returns-then-is_empty-clause-added : goal.returns-then-is_empty-clause-added
returns-then-is_empty-clause-added c m o is fits =
    let nothing : c.args.block.now ≡ [] = nil_from_length _ (eqb-true (length c.args.block.now) 0 (sym c.is_empty.ensures ∙ c.if-is_empty.true)) in
    no_offer_added m o c.args.block.now c.args.out.now.items is nothing

pub returns-clause-added : goal.returns-clause-added
returns-clause-added c m o is fits =
    offer_added m o c.args.block.now c.args.out.now.items c.extend_from_slice.new.self.items is
    (λ nothing. eqb-false (length c.args.block.now) 0 (sym c.is_empty.ensures ∙ c.if-is_empty.false) (ap length nothing)) fits c.in_ok-extend_from_slice.ensures.items
