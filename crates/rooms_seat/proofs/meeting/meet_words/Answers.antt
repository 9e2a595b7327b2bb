-- Why `meet` meets its clauses `met` and `same`, and it may call `hear`.
use Rattle.std.proofs.Common.{◌≡◌, sym, ap, ◌∙◌, subst}
use Rattle.rooms_meeting.specs.Met.{told_by}
use Rattle.rooms_meeting.proofs.Looked.{same_table}
use Rattle.rooms_meeting.proofs.Meetings.{have_met, met_agree}
use Rattle.rooms_seat.specs.Meeting.{HaveMet}
use Rattle.rooms_meeting.specs.SeatState.{SeatState}
use Rattle.rooms_seat.proofs.meeting.meet_words.Goals as goal

pub hear-requires-2 : goal.hear-requires-2
hear-requires-2 c =
    let looked : c.look_at_all.new.self.table ≡ c.args.second.now.table =
    same_table _ _ _ c.look_at_all.ensures ∙ ap (λ (s : SeatState). s.table) c.hear.ensures.heard in
    ap (λ (s : SeatState). s.table) c.hear.ensures.other ∙ (c.requires ∙ sym looked)

pub returns-clause-met : goal.returns-clause-met
returns-clause-met c =
    subst (λ (s : SeatState). HaveMet c.args.first.now c.args.second.now c.look_at_all-2.new.self s) (sym c.hear-2.ensures.other)
    (have_met c.args.first.now c.args.second.now c.hear.new.self c.look_at_all.new.self c.hear-2.new.self c.look_at_all-2.new.self
    c.sound.ensures c.sound-2.ensures c.count.ensures.sizes c.count-2.ensures.sizes c.hear.ensures.heard c.look_at_all.ensures
    (subst (λ (s : SeatState). c.hear-2.new.self ≡ told_by c.look_at_all.new.self s) c.hear.ensures.other c.hear-2.ensures.heard) c.look_at_all-2.ensures)

pub returns-clause-same : goal.returns-clause-same
returns-clause-same c =
    met_agree c.args.first.now c.args.second.now c.look_at_all-2.new.self c.hear-2.new.other (returns-clause-met c)
    c.known.ensures c.known-2.ensures
