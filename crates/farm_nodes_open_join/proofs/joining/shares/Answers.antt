-- Another share is one of the same program.
use Rattle.std.proofs.Common.{◌≡◌, ◌++◌, ◌∷◌, [], length, ap, arith}
use Rattle.std.specs.Arc.{arc_value}
use Rattle.std.proofs.lemmas.List.{length_push}
use Rattle.std.proofs.lemmas.List.Elements.{All-push, All-same}
use Rattle.farm_nodes_open_join.proofs.joining.shares.Goals as goal

pub loop-share-preserved : goal.loop-share-preserved
loop-share-preserved g c =
    let shares = c.loop-share.shares.items in
    let share = c.in-Ok.share in
    let more_is = c.in-Ok-push.ensures.items in
    record {
      count = omega (arith, ap length more_is, length_push shares share, c.loop-share.invariant.count);
      same = All-same (λ p. arc_value p ≡ arc_value c.args.program.now) c.push.new.self.items (shares ++ share ∷ []) more_is
          (All-push (λ p. arc_value p ≡ arc_value c.args.program.now) shares share c.loop-share.invariant.same c.in-Ok.ensures.cases);
    }
