-- Why `forget` meets its clauses `forgotten` and `found`, and it may call `load`.
use Rattle.std.proofs.Common.{◌≡◌, ℕ, ◌<◌, ◌∙◌, subst}
use Rattle.rooms_meeting.proofs.Looks.{forgets}
use Rattle.rooms_meeting.proofs.Moves.{forgot_sound, forgotten, found_own}
use Rattle.rooms_meeting.proofs.Sweeps.{none_heard}
use Rattle.rooms_seat.proofs.Steps.{word_below}
use Rattle.rooms_seat.proofs.seat.WordSeat.forget.Goals as goal

pub load-proposer-requires : goal.load-proposer-requires
load-proposer-requires c =
    let sound = c.self.invariant.sound in
    let at : c.from-place.result ≡ c.self.inside.node.me = c.from-place.ensures ∙ c.me.ensures.value in
    let mine : c.from-place.result < c.self.inside.node.quorums.nodes = rw at (subst (λ (i : ℕ). i < c.self.inside.node.quorums.nodes) c.me.ensures.value c.me.ensures.below) in
    record {
      seated = sound.seated;
      words = sound.words;
      below = (word_below _ sound c.from-place.result mine).0;
      allowed = λ o. forgets o _ _ c.self.inside.rights.me _ sound.seated;
    }

pub load-acceptor-requires : goal.load-acceptor-requires
load-acceptor-requires c =
    let found = c.load-proposer.ensures in
    let sound = forgot_sound _ c.self.invariant.sound c.load-proposer.new.self.at found.at c.load-proposer.new.self.me.0 found.told.forgot in
    let at : c.from-place.result ≡ c.self.inside.node.me = c.from-place.ensures ∙ c.me.ensures.value in
    let mine : c.from-place.result < c.self.inside.node.quorums.nodes = rw at (subst (λ (i : ℕ). i < c.self.inside.node.quorums.nodes) c.me.ensures.value c.me.ensures.below) in
    record {
      seated = sound.seated;
      words = sound.words;
      below = (word_below _ sound c.from-place.result mine).1;
      allowed = λ o. forgets o _ _ c.load-proposer.new.self.me _ sound.seated;
    }

pub invariant_of-self : goal.invariant_of-self
invariant_of-self c =
    let first = c.load-proposer.ensures in
    let second = c.load-acceptor.ensures in
    none_heard _
    ((forgotten _ c.self.invariant.sound c.load-proposer.new.self.at c.load-acceptor.new.self.at first.at second.at c.load-proposer.new.self.me.0 c.load-acceptor.new.self.me.0 first.told.forgot second.told.forgot
    c.forget.new.self c.forget.ensures.state).0)

pub returns-clause-forgotten : goal.returns-clause-forgotten
returns-clause-forgotten c =
    let first = c.load-proposer.ensures in
    let second = c.load-acceptor.ensures in
    rw (← c.self.view_is)
    (forgotten _ c.self.invariant.sound c.load-proposer.new.self.at c.load-acceptor.new.self.at first.at second.at c.load-proposer.new.self.me.0 c.load-acceptor.new.self.me.0 first.told.forgot second.told.forgot
    c.forget.new.self c.forget.ensures.state).1

pub returns-clause-found : goal.returns-clause-found
returns-clause-found c =
    let first = c.load-proposer.ensures in
    let second = c.load-acceptor.ensures in
    let at : c.from-place.result ≡ c.self.inside.node.me = c.from-place.ensures ∙ c.me.ensures.value in
    let mine : c.from-place.result < c.self.inside.node.quorums.nodes = rw at (subst (λ (i : ℕ). i < c.self.inside.node.quorums.nodes) c.me.ensures.value c.me.ensures.below) in
    rw (← c.self.view_is)
    (found_own _ c.self.invariant.sound c.load-proposer.new.self.at c.load-acceptor.new.self.at first.at second.at c.load-proposer.new.self.me.0 c.load-acceptor.new.self.me.0 c.from-place.result at mine
    c.load-proposer.result c.load-acceptor.result first.told second.told c.unpack.result c.unpack-2.result c.unpack.ensures.started c.unpack.ensures.proposed c.unpack-2.ensures.promised c.unpack-2.ensures.accepted)
