-- One empty list more.
use Rattle.std.proofs.Common.{◌≡◌, ◌++◌, [], ◌∷◌, length, ap, ◌∙◌, arith}
use Rattle.std.proofs.lemmas.List.{length_push, map_push}
use Rattle.std.proofs.lemmas.List.Elements.{All-nil, All-push, All-same}
use Rattle.farm_nodes_open_lists.specs.Rows.{rows_of}
use Rattle.farm_nodes_open_lists.proofs.adding.none_yet.Goals as goal

pub loop-list-init : goal.loop-list-init
loop-list-init g c = record {
  count = ap length c.new-lists.ensures.items;
  none = All-same (λ row. length row ≡ 0) (rows_of c.new-lists.result.items) [] (ap (λ ls. rows_of ls) c.new-lists.ensures.items) (All-nil (λ row. length row ≡ 0));
}

pub loop-list-preserved : goal.loop-list-preserved
loop-list-preserved g c =
    let lists = c.loop-list.lists.items in
    let i = c.loop-list.invariant in
    record {
      count = omega (arith, ap length c.in-Ok.ensures.items, length_push lists c.new.result, i.count);
      none = All-same (λ row. length row ≡ 0) (rows_of c.push.new.self.items) (rows_of lists ++ c.new.result.items ∷ []) (ap (λ ls. rows_of ls) c.in-Ok.ensures.items ∙ map_push (λ v. v.items) lists c.new.result)
          (All-push (λ row. length row ≡ 0) (rows_of lists) c.new.result.items i.none (ap length c.new.ensures.items));
    }
