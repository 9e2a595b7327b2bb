-- Why `accept` may call `store` and `pack`.
use Rattle.std.proofs.Common.{◌≡◌, ℕ, ◌<◌, Option, Some, IfSome, refl, sym, ap, ◌∙◌, subst}
use Rattle.paxos_core_world.specs.declared.vote.Vote.{Vote}
use Rattle.rooms_words.specs.Act.TheVariants as act
use Rattle.rooms_words.specs.Steps.{StoresAcceptor}
use Rattle.rooms_words.specs.declared.proposer.ProposerWord.{ProposerWord}
use Rattle.rooms_meeting.specs.SeatState.{proposer_of, vote_by, SeatState}
use Rattle.rooms_meeting.proofs.Acts.{given_ballot, given_value, vote_allowed, vote_seen, vote_sound}
use Rattle.rooms_meeting.proofs.Hearing.{same_voted}
use Rattle.rooms_meeting.proofs.Sweeps.{kept_heard}
use Rattle.rooms_seat.proofs.Steps.{word_below}
use Rattle.rooms_seat.proofs.seat.WordSeat.accept.Goals as goal

pub store-requires : goal.store-requires
store-requires c =
    let sound = c.self.invariant.sound in
    let low : c.args.j < c.self.inside.node.quorums.nodes = subst (λ (s : SeatState). c.args.j < s.node.quorums.nodes) (sym c.self.view_is) c.requires in
    let seen = c.last_seen.ensures ∙ sym (ap (λ (s : SeatState). proposer_of s c.args.j) c.self.view_is) in
    let told = subst (λ (x : ProposerWord). Some c.in_ok-vote.vote ≡ vote_by c.self.inside.node x.started x.proposed) seen c.in_ok-vote.ensures in
    let at : c.from-place.result ≡ c.self.inside.node.me = c.from-place.ensures ∙ c.me.ensures.value in
    let mine : c.from-place.result < c.self.inside.node.quorums.nodes = rw at (subst (λ (i : ℕ). i < c.self.inside.node.quorums.nodes) c.me.ensures.value c.me.ensures.below) in
    record {
      seated = sound.seated;
      words = sound.words;
      below = (word_below _ sound c.from-place.result mine).1;
      allowed = λ o. vote_allowed _ o _ _ c.self.inside.rights.me _ _ _ _ sound c.from-place.result c.pack.result at c.args.j c.in_ok-vote.vote low told c.pack.ensures.word;
    }

pub invariant_of-self : goal.invariant_of-self
invariant_of-self c =
    let found = c.store.ensures in
    kept_heard _ _ _ c.self.invariant
    (vote_sound _ c.self.invariant.sound c.store.new.self.me.0 c.pack.result c.store.new.self.at found.at c.on-accepted.new.self c.in_ok-vote.vote
    (subst (λ (o : Option Vote). IfSome o (λ y. StoresAcceptor (act.Accept y.ballot y.value) c.pack.result c.self.inside.rights.me.0 c.store.new.self.me.0)) c.pack.ensures.word.tells_accepted found.told) c.on-accepted.ensures.state)
    refl (same_voted c.self.inside.node c.on-accepted.new.self c.in_ok-vote.vote c.on-accepted.ensures.state)

pub pack-requires : goal.pack-requires
pack-requires c =
    let told = vote_seen c.self.inside.node c.last_seen.result.started c.last_seen.result.proposed c.in_ok-vote.vote c.in_ok-vote.ensures in
    (given_ballot _ c.self.invariant.sound c.in_ok-vote.vote told.0, given_value _ c.self.invariant.sound c.in_ok-vote.vote told.0)
