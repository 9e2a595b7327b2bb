-- What is made of the pieces shows what they are.
use Rattle.std.proofs.Common.{◌≡◌, None, length, sym, ap, subst, ◌∙◌, arith, rules}
use Rattle.std.specs.Arc.{arc_value}
use Rattle.std.proofs.lemmas.List.Elements.{All-weaker}
use Rattle.farm_nodes_turn_node.specs.Fours.{fours_of}
use Rattle.farm_nodes_turn_node.specs.Waiting.{IsWaiting}
use Rattle.farm_nodes_open_join.proofs.Moving.{all_of_both, as_long, made_same, made_shown, made_so, of_parts}
use Rattle.farm_nodes_turn_node.specs.Texts.{pass_texts}
use Rattle.farm_nodes_open_join.proofs.Sound.{all_asked}
use Rattle.farm_nodes_open_join.proofs.joining.join_nodes.Goals as goal

pub pieces_of-pieces-requires : goal.pieces_of-pieces-requires
pieces_of-pieces-requires g c =
    let count : c.len-count.result ≡ length c.args.journals.items = omega (arith, c.len-count.ensures, c.args.journals.ok.0) in
    record {
      none = c.in-Ok-with_capacity.ensures.items;
      capacity = omega (arith, c.in-Ok-with_capacity.ensures.capacity, c.len-count.ensures);
      seats = c.requires.held.count;
      programs = c.in-Ok-shares.ensures.count ∙ count;
      oracles = c.requires.oracles;
    }

pub made_of-requires : goal.made_of-requires
made_of-requires g c =
    let are = c.pieces_of-pieces.ensures in
    let ps = c.pieces_of-pieces.result in
    let long : length ps.items ≡ length c.args.journals.items = as_long (λ p. p.journal) ps.items c.args.journals.items are.journals in
    record {
      callable = all_of_both (λ p. p.seats) (λ p. p.program) (λ s. length s.items ≡ length (arc_value c.args.program.now).functions) (λ p. arc_value p ≡ arc_value c.args.program.now) _
          (λ p q r. q ∙ sym (ap (λ x. length x.functions) r)) ps.items c.args.seats.items c.in-Ok-shares.shares.items are.seats are.programs c.requires.functions c.in-Ok-shares.ensures.same;
      none = c.in-Ok.ensures.items;
      capacity = omega (arith, ps.ok.0, long, c.in-Ok.ensures.capacity, c.len-count.ensures, c.args.journals.ok.0);
    }

pub returns-clause-logs : goal.returns-clause-logs
returns-clause-logs g c = made_shown c.pieces_of-pieces.result.items c.made_of.result.items (λ j. j.0) (λ n. n.log) c.pieces_of-pieces.ensures.journals c.made_of.ensures (λ a b p. search rules)

pub returns-clause-seats : goal.returns-clause-seats
returns-clause-seats g c = made_same c.pieces_of-pieces.result.items c.made_of.result.items (λ n. n.seats) c.pieces_of-pieces.ensures.seats c.made_of.ensures (λ a b p. search rules)

pub returns-clause-oracles : goal.returns-clause-oracles
returns-clause-oracles g c = made_same c.pieces_of-pieces.result.items c.made_of.result.items (λ n. n.oracles) c.pieces_of-pieces.ensures.oracles c.made_of.ensures (λ a b p. search rules)

pub returns-clause-program : goal.returns-clause-program
returns-clause-program g c =
    let shares = made_same c.pieces_of-pieces.result.items c.made_of.result.items (λ n. n.program) c.pieces_of-pieces.ensures.programs c.made_of.ensures (λ a b p. search rules) in
    of_parts (λ n. n.program) (λ p. arc_value p ≡ arc_value c.args.program.now) c.made_of.result.items c.in-Ok-shares.shares.items shares c.in-Ok-shares.ensures.same

pub returns-clause-draws : goal.returns-clause-draws
returns-clause-draws g c = made_same c.pieces_of-pieces.result.items c.made_of.result.items (λ n. n.draws) c.pieces_of-pieces.ensures.draws c.made_of.ensures (λ a b p. search rules)

pub returns-clause-going : goal.returns-clause-going
returns-clause-going g c = made_so c.pieces_of-pieces.result.items c.made_of.result.items (λ n. n.halted ≡ None) c.made_of.ensures (λ a b p. search rules)

pub returns-clause-sound : goal.returns-clause-sound
returns-clause-sound g c =
    let logs = made_shown c.pieces_of-pieces.result.items c.made_of.result.items (λ j. j.0) (λ n. n.log) c.pieces_of-pieces.ensures.journals c.made_of.ensures (λ a b p. search rules) in
    let seats = made_same c.pieces_of-pieces.result.items c.made_of.result.items (λ n. n.seats) c.pieces_of-pieces.ensures.seats c.made_of.ensures (λ a b p. search rules) in
    let going = made_so c.pieces_of-pieces.result.items c.made_of.result.items (λ n. n.halted ≡ None) c.made_of.ensures (λ a b p. search rules) in
    all_asked pass_texts g.D.Disk (λ j. j.0) (λ s. fours_of s.items) (λ n. n.log) (λ n. n.seats) (λ n. n.halted)
    c.made_of.result.items c.args.journals.items c.args.seats.items logs seats going c.requires.held.each

pub returns-clause-waiting : goal.returns-clause-waiting
returns-clause-waiting g c =
    let going = made_so c.pieces_of-pieces.result.items c.made_of.result.items (λ n. n.halted ≡ None) c.made_of.ensures (λ a b p. search rules) in
    All-weaker (λ n. n.halted ≡ None) (λ n. IsWaiting n.seats.items n.halted) (λ n none. subst (λ h. IsWaiting n.seats.items h) (sym none) tt) c.made_of.result.items going
