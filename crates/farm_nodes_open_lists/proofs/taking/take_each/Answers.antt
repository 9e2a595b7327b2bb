-- The next list's offer goes behind those in front of it, and the list is put back without it.
use Rattle.std.proofs.Common.{◌∷◌, ◌+◌, drop, set, sym, ap, ◌∙◌, arith}
use Rattle.std.proofs.lemmas.List.{drop_more, drop-set-lt}
use Rattle.farm_nodes_open_lists.specs.Rows.{offers_of, rows_of}
use Rattle.farm_nodes_open_lists.proofs.Columns.{moved_on, others_stay}
use Rattle.farm_nodes_open_lists.proofs.taking.take_each.Goals as goal

pub loop-list-preserved : goal.loop-list-preserved
loop-list-preserved g c =
    let i = c.loop-list.invariant in
    let lists = c.loop-list.list-items in
    let k = c.loop-list.list-index in
    let f = c.args.function in
    let old = c.list-item.result in
    let new = c.take_at-offer.new.offers in
    let stood = drop_more lists k old (omega arith) in
    let behind = drop-set-lt (k + 1) lists k new (omega arith) in
    record {
      whole =
          moved_on c.loop-list.offers.items c.push.new.self.items c.take_at-offer.result (offers_of (rows_of (drop k lists)) f)
          (offers_of (rows_of (drop (k + 1) (set lists k new))) f) (offers_of (rows_of c.args.lists.now.items) f) c.in-Ok.ensures.items
          (ap (λ ls. offers_of (rows_of ls) f) stood ∙ ap (λ o. o ∷ offers_of (rows_of (drop (k + 1) lists)) f) (sym c.take_at-offer.ensures.offer)
          ∙ ap (λ ls. c.take_at-offer.result ∷ offers_of (rows_of ls) f) (sym behind)) i.whole;
      others = λ h apart. others_stay f h apart lists k old new c.take_at-offer.ensures.rest ∙ i.others h apart;
    }
