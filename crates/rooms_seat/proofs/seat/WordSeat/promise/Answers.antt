-- Why `promise` may call `pack` and `store`.
use Rattle.std.proofs.Common.{◌≡◌, ℕ, ◌<◌, ◌≤◌, Option, Some, None, IfSome, sym, ap, ◌∙◌, subst, refl}
use Rattle.paxos_core_world.specs.KeptPart.{KeptPart}
use Rattle.paxos_core_world.specs.declared.vote.Vote.{Vote}
use Rattle.rooms_words.specs.Act.TheVariants as act
use Rattle.rooms_words.specs.Words.{IsAcceptorWord, IsVoteInWord}
use Rattle.rooms_words.specs.Steps.{StoresAcceptor}
use Rattle.rooms_meeting.specs.SeatState.{proposer_of, SeatState}
use Rattle.rooms_meeting.proofs.Acts.{kept_value, promise_allowed, promise_sound}
use Rattle.rooms_meeting.proofs.Hearing.{same_promised}
use Rattle.rooms_meeting.proofs.Sweeps.{kept_heard}
use Rattle.rooms_seat.proofs.Steps.{word_below}
use Rattle.rooms_seat.proofs.seat.WordSeat.promise.Goals as goal

fits : (o : Option Vote) → ((x : Vote) → o ≡ Some x → (1 ≤ x.ballot) × (x.value < 256)) → IfSome o IsVoteInWord
fits None h = tt
fits (Some x) h = h x refl

within : (o : Option Vote) (p : ℕ) → IfSome o (λ x. (1 ≤ x.ballot) × (x.ballot ≤ p)) → (x : Vote) → o ≡ Some x → 1 ≤ x.ballot
within o p h x e = (subst (λ (q : Option Vote). IfSome q (λ y. (1 ≤ y.ballot) × (y.ballot ≤ p))) e h).0

pub pack-requires : goal.pack-requires
pack-requires c =
    let is : c.accepted.result ≡ c.self.inside.node.kept.accepted = c.accepted.ensures.value ∙ ap (λ (k : KeptPart). k.accepted) c.kept.ensures in
    fits c.accepted.result (λ x e. (
      within c.accepted.result _ (subst (λ (o : Option Vote). IfSome o (λ y. (1 ≤ y.ballot) × (y.ballot ≤ c.kept.result.promised))) (sym c.accepted.ensures.value) c.accepted.ensures.within) x e,
      kept_value _ c.self.invariant.sound x (sym is ∙ e),
    ))

pub store-requires : goal.store-requires
store-requires c =
    let sound = c.self.invariant.sound in
    let low : c.args.j < c.self.inside.node.quorums.nodes = subst (λ (s : SeatState). c.args.j < s.node.quorums.nodes) (sym c.self.view_is) c.requires in
    let seen = c.last_seen.ensures ∙ sym (ap (λ (s : SeatState). proposer_of s c.args.j) c.self.view_is) in
    let told = rw seen at c.in_ok-ballot.ensures in
    let at : c.from-place.result ≡ c.self.inside.node.me = c.from-place.ensures ∙ c.me.ensures.value in
    let mine : c.from-place.result < c.self.inside.node.quorums.nodes = rw at (subst (λ (i : ℕ). i < c.self.inside.node.quorums.nodes) c.me.ensures.value c.me.ensures.below) in
    let is : c.accepted.result ≡ c.self.inside.node.kept.accepted = c.accepted.ensures.value ∙ ap (λ (k : KeptPart). k.accepted) c.kept.ensures in
    record {
      seated = sound.seated;
      words = sound.words;
      below = (word_below _ sound c.from-place.result mine).1;
      allowed = λ o. promise_allowed _ o _ _ c.self.inside.rights.me _ _ _ _ sound c.from-place.result c.pack.result at c.args.j c.in_ok-ballot.ballot low told
          (subst (λ (o : Option Vote). IsAcceptorWord c.pack.result c.in_ok-ballot.ballot o) is c.pack.ensures.word);
    }

pub invariant_of-self : goal.invariant_of-self
invariant_of-self c =
    let found = c.store.ensures in
    kept_heard _ _ _ c.self.invariant
    (promise_sound _ c.self.invariant.sound c.store.new.self.me.0 c.pack.result c.store.new.self.at found.at c.on-promise.new.self c.in_ok-ballot.ballot
    (subst (λ (b : ℕ). StoresAcceptor (act.Promise b) c.pack.result c.self.inside.rights.me.0 c.store.new.self.me.0) c.pack.ensures.word.tells_promised found.told) c.on-promise.ensures.state)
    refl (same_promised c.self.inside.node c.on-promise.new.self c.in_ok-ballot.ballot c.on-promise.ensures.state)
