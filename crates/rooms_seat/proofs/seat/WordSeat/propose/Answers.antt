-- Why `propose` may call `pack` and `store`.
use Rattle.std.proofs.Common.{◌≡◌, ℕ, ◌<◌, Some, refl, sym, ap, ◌∙◌, subst, arith}
use Rattle.paxos_core_world.specs.KeptPart.{KeptPart}
use Rattle.rooms_words.specs.Words.{IsProposerWord}
use Rattle.rooms_meeting.proofs.Acts.{proposed_value, propose_allowed, propose_sound}
use Rattle.rooms_meeting.proofs.Hearing.{same_proposed}
use Rattle.rooms_meeting.proofs.Sweeps.{kept_heard}
use Rattle.rooms_seat.proofs.Steps.{word_below}
use Rattle.rooms_seat.proofs.seat.WordSeat.propose.Goals as goal

pub overflow_cast-proposed : goal.overflow_cast-proposed
overflow_cast-proposed c =
    let low : c.in_ok-ballot.value < 255 = proposed_value _ c.self.invariant.sound c.in_ok-ballot.ballot c.in_ok-ballot.value (sym c.in_ok-ballot.ensures) in omega arith

pub pack-requires : goal.pack-requires
pack-requires c = proposed_value _ c.self.invariant.sound c.in_ok-ballot.ballot c.in_ok-ballot.value (sym c.in_ok-ballot.ensures)

pub store-requires : goal.store-requires
store-requires c =
    let sound = c.self.invariant.sound in
    let at : c.from-place.result ≡ c.self.inside.node.me = c.from-place.ensures ∙ c.me.ensures.value in
    let mine : c.from-place.result < c.self.inside.node.quorums.nodes = rw at (subst (λ (i : ℕ). i < c.self.inside.node.quorums.nodes) c.me.ensures.value c.me.ensures.below) in
    let is : c.started.result ≡ c.self.inside.node.kept.started = c.started.ensures ∙ ap (λ (k : KeptPart). k.started) c.kept.ensures in
    record {
      seated = sound.seated;
      words = sound.words;
      below = (word_below _ sound c.from-place.result mine).0;
      allowed = λ o. propose_allowed _ o _ _ c.self.inside.rights.me _ _ _ _ sound c.from-place.result c.pack.result at c.in_ok-ballot.ballot c.in_ok-ballot.value (sym c.in_ok-ballot.ensures)
          (subst (λ (b : ℕ). IsProposerWord c.pack.result b (Some c.in_ok-ballot.value)) is c.pack.ensures.word);
    }

pub invariant_of-self : goal.invariant_of-self
invariant_of-self c =
    let found = c.store.ensures in
    kept_heard _ _ _ c.self.invariant
    (propose_sound _ c.self.invariant.sound c.store.new.self.me.0 c.pack.result c.store.new.self.at found.at c.propose-propose.new.self c.in_ok-ballot.ballot c.in_ok-ballot.value
    found.told c.pack.ensures.word.tells_proposed (sym c.in_ok-ballot.ensures) c.propose-propose.ensures.state)
    refl (same_proposed c.self.inside.node c.propose-propose.new.self c.propose-propose.ensures.state)
