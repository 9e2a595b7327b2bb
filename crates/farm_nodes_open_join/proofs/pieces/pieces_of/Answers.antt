-- The next of each go side by side.
use Rattle.std.proofs.Common.{◌≡◌, ◌+◌, length, sym, ap, ◌∙◌, arith}
use Rattle.std.specs.Vec.Iter.{into_iter_items}
use Rattle.farm_nodes_open_join.proofs.Moving.{begun, moved, no_draws, one_more, one_draw}
use Rattle.farm_nodes_open_join.specs.Words.{generator_of}
use Rattle.farm_nodes_open_join.proofs.pieces.pieces_of.Goals as goal

pub loop-journal-init : goal.loop-journal-init
loop-journal-init g c =
    let gives = c.into_iter-journal-iterator.ensures.into_iter_gives in
    let none = c.requires.none in
    let spare = c.args.spare.items in
    let ss = c.into_iter-seats_left.ensures.rest in
    let ps = c.into_iter-programs_left.ensures.rest in
    let os = c.into_iter-oracles_left.ensures.rest in
    record {
      journals = begun (λ p. p.journal) spare (into_iter_items c.into_iter-journal-iterator.result) c.args.journals.items none gives.0;
      seats = begun (λ p. p.seats) spare (into_iter_items c.into_iter-seats_left.result) c.args.seats.items none ss;
      programs = begun (λ p. p.program) spare (into_iter_items c.into_iter-programs_left.result) c.args.programs.items none ps;
      oracles = begun (λ p. p.oracles) spare (into_iter_items c.into_iter-oracles_left.result) c.args.oracles.items none os;
      draws = no_draws (λ p. p.draws) c.args.seed spare none;
      counted = omega (arith, gives.1, ap length gives.0, c.args.journals.ok.0);
      seats_left = ap length ss ∙ c.requires.seats ∙ sym (ap length gives.0);
      programs_left = ap length ps ∙ c.requires.programs ∙ sym (ap length gives.0);
      oracles_left = ap length os ∙ c.requires.oracles ∙ sym (ap length gives.0);
      capacity = omega (arith, ap length gives.0, c.args.journals.ok.0, c.requires.capacity, ap length none);
    }

pub loop-journal-preserved : goal.loop-journal-preserved
loop-journal-preserved g c =
    let i = c.loop-journal.invariant in
    let steps = c.in-Some.ensures.steps in
    let put = c.put.ensures in
    let s = c.next_of.ensures in
    let p = c.next_of-in-loop-journal.ensures in
    let o = c.next_of-in-loop-journal-2.ensures in
    let done = c.loop-journal.all.items in
    let long : length c.put.new.all.items ≡ length done + 1 = one_more done c.put.new.all.items _ put.items in
    record {
      journals = moved (λ p. p.journal) done i.journals put.items steps.0;
      seats = moved (λ p. p.seats) done i.seats put.items s;
      programs = moved (λ p. p.program) done i.programs put.items p;
      oracles = moved (λ p. p.oracles) done i.oracles put.items o;
      draws = one_draw (λ p. p.draws) c.args.seed done i.draws put.items (c.new.ensures ∙ ap (generator_of c.args.seed) (c.len.ensures ∙ c.loop-journal.all.ok.0));
      counted = omega (arith, steps.1, ap length steps.0, i.counted);
      seats_left = omega (arith, ap length s, ap length steps.0, i.seats_left);
      programs_left = omega (arith, ap length p, ap length steps.0, i.programs_left);
      oracles_left = omega (arith, ap length o, ap length steps.0, i.oracles_left);
      capacity = omega (arith, ap length steps.0, long, put.capacity, i.capacity);
    }
