-- Why `start` may call `store`.
use Rattle.std.proofs.Common.{◌≡◌, ℕ, ◌<◌, false, true, None, ap, ◌∙◌, subst, arith}
use Rattle.paxos_core_world.specs.KeptPart.{KeptPart}
use Rattle.rooms_words.specs.NodeState.{NodeState}
use Rattle.rooms_words.specs.Proposer.{next_ballot}
use Rattle.rooms_words.specs.Words.{IsProposerWord}
use Rattle.rooms_meeting.proofs.Acts.{start_allowed, start_sound}
use Rattle.rooms_meeting.proofs.Sweeps.{none_heard}
use Rattle.rooms_seat.proofs.Steps.{word_below}
use Rattle.rooms_seat.proofs.seat.WordSeat.start.Goals as goal

pub store-requires : goal.store-requires
store-requires c =
    let sound = c.self.invariant.sound in
    let at : c.from-place.result ≡ c.self.inside.node.me = c.from-place.ensures ∙ c.me.ensures.value in
    let mine : c.from-place.result < c.self.inside.node.quorums.nodes = rw at (subst (λ (i : ℕ). i < c.self.inside.node.quorums.nodes) c.me.ensures.value c.me.ensures.below) in
    let spent : 65535 < next_ballot c.self.inside.node → ⊥ = λ h. let bad : false ≡ true = c.in-Ok.ensures.spent.1 h in cc in
    let is : c.started-started.result ≡ next_ballot c.self.inside.node =
    c.started-started.ensures ∙ (ap (λ (k : KeptPart). k.started) c.kept.ensures ∙ ap (λ (s : NodeState). s.kept.started) c.in-Ok.ensures.ok.1) in
    record {
      seated = sound.seated;
      words = sound.words;
      below = (word_below _ sound c.from-place.result mine).0;
      allowed = λ o. start_allowed _ o _ _ c.self.inside.rights.me _ _ _ _ sound c.from-place.result c.pack.result at (omega arith)
          (subst (λ (b : ℕ). IsProposerWord c.pack.result b None) is c.pack.ensures.word);
    }

pub invariant_of-self : goal.invariant_of-self
invariant_of-self c =
    let found = c.store.ensures in
    let spent : 65535 < next_ballot c.self.inside.node → ⊥ = λ h. let bad : false ≡ true = c.in-Ok.ensures.spent.1 h in cc in
    none_heard _
    (start_sound _ c.self.invariant.sound c.store.new.self.me.0 c.pack.result c.store.new.self.at found.at c.start.new.self found.told c.pack.ensures.word.tells_proposed (omega arith) c.in-Ok.ensures.ok.1)
