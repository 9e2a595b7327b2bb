use Rattle.std.proofs.Common.{◌≡◌, All, map, take}
use Rattle.offers.specs.Text.{text_of, PartsFit}
use Rattle.farm_nodes_open_offers.specs.Written.{all_written}
use Rattle.farm_nodes_open_offers.proofs.storing.stored_offers.Given as goal

-- what was found among the records so far
abbrev pub invariant-loop-entry : goal.invariant-loop-entry
invariant-loop-entry g l = record {
  rooms : l.found.rooms.items ≡ map (λ it. it.0) (all_written l.pass (take l.entry-index l.records));
  texts : map (text_of g.P.In.Language g.P.Out.Language g.P.Pass) l.found.parts.items ≡ map (λ it. it.1) (all_written l.pass (take l.entry-index l.records));
  fit : All (PartsFit g.P.In.Language.fits g.P.Out.Language.fits g.P.Pass.cert_fits) l.found.parts.items;
}
