-- Why the loop of `none_yet` over `function` keeps the invariant.
use Rattle.std.proofs.Common.{◌≡◌, ◌++◌, ◌∷◌, [], None, refl, rules}
use Rattle.std.proofs.lemmas.List.Elements.{All-push, All-same}
use Rattle.farm_nodes_open_offers.proofs.knowing.none_yet.Goals as goal

pub loop-function-preserved : goal.loop-function-preserved
loop-function-preserved g c = record {
  count = search rules;
  none =
      All-same (λ offer. offer ≡ None) c.push.new.self.items (c.loop-function.offers.items ++ None ∷ []) c.in-Ok.ensures.items
      (All-push (λ offer. offer ≡ None) c.loop-function.offers.items None c.loop-function.invariant.none refl);
}
