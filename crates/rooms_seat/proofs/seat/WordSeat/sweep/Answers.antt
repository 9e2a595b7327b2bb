-- Why `sweep` meets its clauses `all` and `from`.
use Rattle.std.proofs.Common.{◌≡◌, ℕ, suc, ◌+◌, ◌<◌, ◌≤◌, set, sym, ap, ◌∙◌, subst, arith}
use Rattle.rooms_meeting.specs.Met.{LookedAtFirst}
use Rattle.rooms_meeting.specs.Seen.{with_acceptor, IsKept}
use Rattle.rooms_meeting.proofs.Looked.{same_quorums}
use Rattle.rooms_meeting.proofs.Sweeps.{all_swept, seat_of, swept_until}
use Rattle.rooms_meeting.specs.RoomAt.{RoomAt}
use Rattle.rooms_meeting.specs.Sweep.{FoundChanged, FoundUnchanged}
use Rattle.rooms_meeting.specs.SeenWords.{SeenWords}
use Rattle.rooms_seat.proofs.seat.WordSeat.sweep.Goals as goal

pub invariant_of-self : goal.invariant_of-self
invariant_of-self c =
    let heard : c.count-count.result ≤ c.self.inside.heard = c.if-self-count.false in
    let whole : c.self.inside.node.quorums.nodes ≤ c.self.inside.heard = subst (λ (n : ℕ). n ≤ c.self.inside.heard) c.count-count.ensures.value heard in
    let told = subst (λ (n : ℕ). FoundUnchanged n c.self.inside.rights.me.0 c.self.inside.seen c.sweep.new.self.me.0 c.sweep.new.seen) c.count-count.ensures.value c.in_err-j.ensures.told in
    let all = all_swept c.self.inside.rights.at c.self.inside.proposed c.self.inside.heard c.self.inside.rights.me.0 c.self.inside.node c.self.inside.seen c.self.invariant whole c.sweep.new.self.me.0 c.sweep.new.seen told in
    subst (λ (u : RoomAt). IsKept c.self.inside.heard (seat_of u c.sweep.new.self.me.0 c.self.inside.node c.self.inside.proposed c.sweep.new.seen)) (sym c.sweep.ensures.at) all.0

pub returns-in_err-j-clause-all : goal.returns-in_err-j-clause-all
returns-in_err-j-clause-all c = λ _.
    let heard : c.count-count.result ≤ c.self.inside.heard = c.if-self-count.false in
    let whole : c.self.inside.node.quorums.nodes ≤ c.self.inside.heard = subst (λ (n : ℕ). n ≤ c.self.inside.heard) c.count-count.ensures.value heard in
    let told = subst (λ (n : ℕ). FoundUnchanged n c.self.inside.rights.me.0 c.self.inside.seen c.sweep.new.self.me.0 c.sweep.new.seen) c.count-count.ensures.value c.in_err-j.ensures.told in
    let all = all_swept c.self.inside.rights.at c.self.inside.proposed c.self.inside.heard c.self.inside.rights.me.0 c.self.inside.node c.self.inside.seen c.self.invariant whole c.sweep.new.self.me.0 c.sweep.new.seen told in
    rw (← c.self.view_is)
    (subst (λ (u : RoomAt). LookedAtFirst c.self.inside.node.quorums.nodes (seat_of c.self.inside.rights.at c.self.inside.rights.me.0 c.self.inside.node c.self.inside.proposed c.self.inside.seen) (seat_of u c.sweep.new.self.me.0 c.self.inside.node c.self.inside.proposed c.sweep.new.seen)) (sym c.sweep.ensures.at) all.1)

pub invariant_of-self-2 : goal.invariant_of-self-2
invariant_of-self-2 c =
    let heard : c.count-count.result ≤ c.self.inside.heard = c.if-self-count.false in
    let whole : c.self.inside.node.quorums.nodes ≤ c.self.inside.heard = subst (λ (n : ℕ). n ≤ c.self.inside.heard) c.count-count.ensures.value heard in
    let told = subst (λ (n : ℕ). FoundChanged c.in_ok-j.j c.in_ok-j.found n c.self.inside.rights.me.0 c.self.inside.seen c.sweep.new.self.me.0 c.sweep.new.seen) c.count-count.ensures.value c.in_ok-j.ensures.told in
    let put = ap (λ (y : SeenWords). set c.sweep.new.seen c.from.result y) c.note.ensures.seen ∙ ap (λ (i : ℕ). with_acceptor c.sweep.new.seen i c.in_ok-j.found) c.from.ensures in
    let until = swept_until c.self.inside.rights.at c.self.inside.proposed c.self.inside.heard c.self.inside.rights.me.0 c.self.inside.node c.self.inside.seen c.self.invariant whole c.in_ok-j.j c.in_ok-j.found c.sweep.new.self.me.0 c.sweep.new.seen told c.note.new.node c.note.ensures.node (set c.sweep.new.seen c.from.result c.note.new.seen) put in
    subst (λ (u : RoomAt). IsKept c.self.inside.heard (seat_of u c.sweep.new.self.me.0 c.note.new.node c.self.inside.proposed (set c.sweep.new.seen c.from.result c.note.new.seen))) (sym c.sweep.ensures.at) until.0

pub returns-clause-from : goal.returns-clause-from
returns-clause-from c =
    let heard : c.count-count.result ≤ c.self.inside.heard = c.if-self-count.false in
    let whole : c.self.inside.node.quorums.nodes ≤ c.self.inside.heard = subst (λ (n : ℕ). n ≤ c.self.inside.heard) c.count-count.ensures.value heard in
    let told = subst (λ (n : ℕ). FoundChanged c.in_ok-j.j c.in_ok-j.found n c.self.inside.rights.me.0 c.self.inside.seen c.sweep.new.self.me.0 c.sweep.new.seen) c.count-count.ensures.value c.in_ok-j.ensures.told in
    let put = ap (λ (y : SeenWords). set c.sweep.new.seen c.from.result y) c.note.ensures.seen ∙ ap (λ (i : ℕ). with_acceptor c.sweep.new.seen i c.in_ok-j.found) c.from.ensures in
    let until = swept_until c.self.inside.rights.at c.self.inside.proposed c.self.inside.heard c.self.inside.rights.me.0 c.self.inside.node c.self.inside.seen c.self.invariant whole c.in_ok-j.j c.in_ok-j.found c.sweep.new.self.me.0 c.sweep.new.seen told c.note.new.node c.note.ensures.node (set c.sweep.new.seen c.from.result c.note.new.seen) put in
    let e : suc c.in_ok-j.j ≡ c.in_ok-j.j + 1 = omega arith in
    let on = subst (λ (n : ℕ). LookedAtFirst n (seat_of c.self.inside.rights.at c.self.inside.rights.me.0 c.self.inside.node c.self.inside.proposed c.self.inside.seen) (seat_of c.sweep.new.self.at c.sweep.new.self.me.0 c.note.new.node c.self.inside.proposed (set c.sweep.new.seen c.from.result c.note.new.seen))) e
    (subst (λ (u : RoomAt). LookedAtFirst (suc c.in_ok-j.j) (seat_of c.self.inside.rights.at c.self.inside.rights.me.0 c.self.inside.node c.self.inside.proposed c.self.inside.seen) (seat_of u c.sweep.new.self.me.0 c.note.new.node c.self.inside.proposed (set c.sweep.new.seen c.from.result c.note.new.seen))) (sym c.sweep.ensures.at) until.1) in
    let below : c.in_ok-j.j < c.self.inside.node.quorums.nodes = told.node in
    rw (← c.self.view_is) record {
      within = omega arith;
      same = same_quorums _ _ _ on;
      looked = on;
    }
