-- Why `agreed` meets its clauses `learned`, `first`, `second` and `third`.
use Rattle.std.proofs.Common.{sym, ◌∙◌}
use Rattle.cfarm_settle_nodes.proofs.Meetings.{all_learned, both_learned, learned_alike}
use Rattle.cfarm_settle_nodes.proofs.Going.{remained, stays_if, stays_through}
use Rattle.cfarm_settle_nodes.proofs.meeting.agreed.Goals as goal

pub returns-clause-learned : goal.returns-clause-learned
returns-clause-learned g c =
    let one = c.meet_seats-first_two in
    let two = c.meet_seats-outer_two in
    learned_alike two.new.first.words.view.seen c.same.result one.result two.result c.meet_seats-last_two.result
    (λ v alike.
    let first = both_learned one.new.first.words.node.learned one.new.second.words.node.learned v one.ensures.same (sym one.ensures.answer ∙ alike.one) in
    let outer = both_learned two.new.first.words.node.learned two.new.second.words.node.learned v two.ensures.same (sym two.ensures.answer ∙ alike.two) in
    all_learned c.args.first.now.words c.args.second.now.words c.args.third.now.words one.new.first.words one.new.second.words two.new.first.words two.new.second.words v
    c.requires.first.opening c.requires.first.me c.requires.second.me c.requires.third.me one.ensures.met two.ensures.met
    c.known.ensures.run c.known-2.ensures.run c.known-3.ensures.run first.1 outer.0 outer.1)
    c.same.ensures

pub returns-clause-first : goal.returns-clause-first
returns-clause-first g c =
    let one = c.meet_seats-first_two in
    let two = c.meet_seats-outer_two in
    stays_through c.args.first.now one.new.first two.new.first
    (stays_if c.args.first.now one.new.first (remained c.args.first.now.words one.new.first.words one.ensures.met.first) one.ensures.first_sights)
    (stays_if one.new.first two.new.first (remained one.new.first.words two.new.first.words two.ensures.met.first) two.ensures.first_sights)

pub returns-clause-second : goal.returns-clause-second
returns-clause-second g c =
    let one = c.meet_seats-first_two in
    let last = c.meet_seats-last_two in
    stays_through c.args.second.now one.new.second last.new.first
    (stays_if c.args.second.now one.new.second (remained c.args.second.now.words one.new.second.words one.ensures.met.second) one.ensures.second_sights)
    (stays_if one.new.second last.new.first (remained one.new.second.words last.new.first.words last.ensures.met.first) last.ensures.first_sights)

pub returns-clause-third : goal.returns-clause-third
returns-clause-third g c =
    let two = c.meet_seats-outer_two in
    let last = c.meet_seats-last_two in
    stays_through c.args.third.now two.new.second last.new.second
    (stays_if c.args.third.now two.new.second (remained c.args.third.now.words two.new.second.words two.ensures.met.second) two.ensures.second_sights)
    (stays_if two.new.second last.new.second (remained two.new.second.words last.new.second.words last.ensures.met.second) last.ensures.second_sights)
