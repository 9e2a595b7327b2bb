-- Each record adds its offer, if it is one of the pass.
use Rattle.std.proofs.Common.{◌≡◌, ℕ, ◌+◌, List, length, take, map, Some, refl, sym, ap, ◌∙◌, arith}
use Rattle.std.specs.Prelude.{slice_get}
use Rattle.std.proofs.lemmas.Option.{slice_get_read}
use Rattle.std.proofs.lemmas.List.Elements.{All-same}
use Rattle.offers.specs.Text.{text_of}
use Rattle.farm_nodes_open_offers.specs.Written.{all_written}
use Rattle.farm_nodes_open_offers.specs.Stored.{IsStored}
use Rattle.farm_nodes_open_offers.proofs.Walks.{written_none, stands_at}
use Rattle.farm_nodes_open_offers.proofs.Gathering.{Fit, one_more, of_all}
use Rattle.farm_nodes_open_offers.proofs.storing.stored_offers.Goals as goal
use Rattle.farm_nodes_open_offers.proofs.storing.stored_offers.Goals.{in-Some+in-Ok+in-Ok-add, in_default}

pub returns-in-Err-clause-refused : goal.returns-in-Err-clause-refused
returns-in-Err-clause-refused g c memory =
    let rs = c.args.records.now in
    let i = c.loop-entry.entry-index in
    let r = c.entry-item.result in
    let got : slice_get rs i ≡ Some r = slice_get_read rs (length rs) i r refl (omega arith) c.entry-item.is in
    let refused = c.in-Err.ensures.refused memory in (
      refused.0,
      record {
        at = length (all_written c.args.pass (take i rs));
        room = c.in-Some.room;
        text = c.in-Some.text.now;
        stands = stands_at c.args.pass rs i r (c.in-Some.room, c.in-Some.text.now) got c.in-Some.ensures;
        none = refused.1;
      },
    )

pub loop-entry-preserved : goal.loop-entry-preserved
loop-entry-preserved g c =
    let from = g.P.In.Language in
    let to = g.P.Out.Language in
    let by = g.P.Pass in
    let which = c.args.pass in
    let rs = c.args.records.now in
    let i = c.loop-entry.entry-index in
    let r = c.entry-item.result in
    let found = c.loop-entry.found in
    let next = c.match-written_offer.found in
    let is = c.loop-entry.invariant in
    let before : IsStored from to by which (take i rs) found = record { rooms = is.rooms; texts = is.texts; fit = is.fit } in
    let got : slice_get rs i ≡ Some r = slice_get_read rs (length rs) i r refl (omega arith) c.entry-item.is in
    elim c.match-written_offer.branch [
      | in-Some+in-Ok+in-Ok-add w ↦
          let after : IsStored from to by which (take (i + 1) rs) next =
          one_more from to by which rs i r w.in-Some.room w.in-Some.text.now w.in-Ok.parts found next got w.in-Some.ensures w.in-Ok.ensures.spelled w.in-Ok.ensures.fits
          (ap (λ f. f.rooms.items) w.found-is ∙ w.in-Ok-add.ensures.rooms)
          (ap (λ f. f.parts.items) w.found-is ∙ w.in-Ok-add.ensures.parts)
          before in
          record { rooms = after.rooms; texts = after.texts; fit = after.fit }
      | in_default w ↦
          let same : all_written which (take (i + 1) rs) ≡ all_written which (take i rs) = written_none which rs i r got w.in_default.ensures in
          record {
            rooms = ap (λ f. f.rooms.items) w.found-is ∙ is.rooms ∙ ap (map (λ (it : ℕ × List ℕ). it.0)) (sym same);
            texts = ap (λ f. map (text_of from to by) f.parts.items) w.found-is ∙ is.texts ∙ ap (map (λ (it : ℕ × List ℕ). it.1)) (sym same);
            fit = All-same (Fit from to by which rs i) next.parts.items found.parts.items (ap (λ f. f.parts.items) w.found-is) is.fit;
          }
    ]

pub returns-clause-stored : goal.returns-clause-stored
returns-clause-stored g c =
    let is = c.loop-entry.invariant in
    of_all g.P.In.Language g.P.Out.Language g.P.Pass c.args.pass c.args.records.now c.loop-entry.entry-index c.loop-entry.found c.loop-entry-test.false record { rooms = is.rooms; texts = is.texts; fit = is.fit }
