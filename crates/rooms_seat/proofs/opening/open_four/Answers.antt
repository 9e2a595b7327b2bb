-- Why `open_four` may call `open_four`.
use Rattle.std.proofs.Common.{◌<◌, refl, sym, ap, ◌∙◌, subst}
use Rattle.rooms_words.specs.declared.view.Opening.{Opening}
use Rattle.rooms_meeting.proofs.Openings.{four_open, some_node}
use Rattle.rooms_seat.proofs.opening.open_four.Goals as goal

pub open_four-requires : goal.open_four-requires
open_four-requires c =
    let first = c.opening_of-opening1.ensures in
    let second = c.opening_of-opening2.ensures in
    let third = c.opening_of-opening3.ensures in
    let fourth = c.opening_of-opening4.ensures in
    let one = ap (λ (o : Opening). o.quorums.nodes) first.same in
    record {
      can = four_open c.args.number c.opening_of-opening1.result c.opening_of-opening2.result c.opening_of-opening3.result c.opening_of-opening4.result first.can second.can third.can fourth.can
          (ap (λ (o : Opening). o.quorums.nodes) second.same ∙ sym one)
          (ap (λ (o : Opening). o.quorums.nodes) third.same ∙ sym one)
          (ap (λ (o : Opening). o.quorums.nodes) fourth.same ∙ sym one);
      rooms = refl;
      some = subst (λ (o : Opening). 0 < o.quorums.nodes) (sym first.same) (some_node c.args.quorums first.sizes);
    }
