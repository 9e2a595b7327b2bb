-- Why the loop of `opening_words` over `pair` keeps the invariant, and it may call `acceptor_word`.
use Rattle.std.proofs.Common.{ℕ, ◌<◌, ◌≤◌, None, IfSome, sym, subst, arith}
use Rattle.paxos_core_world.specs.KeptPart.{KeptPart}
use Rattle.rooms_steps.specs.Words.{IsAcceptorWord, IsProposerWord, IsVoteInWord}
use Rattle.rooms_table.proofs.Opening.{one_more}
use Rattle.rooms_rights.proofs.Openings.{part_fits}
use Rattle.rooms_rights.proofs.opening.opening_words.Goals as goal

pub acceptor_word-requires : goal.acceptor_word-requires
acceptor_word-requires c =
    subst (λ (k : KeptPart). IfSome k.accepted IsVoteInWord) (sym c.part_at-kept.ensures)
    (part_fits c.args.openings.now c.requires c.loop-pair.pair (subst (λ (n : ℕ). c.loop-pair.pair < n) c.pairs_of-pair-end.ensures.value c.loop-pair-test.true))

pub loop-pair-preserved : goal.loop-pair-preserved
loop-pair-preserved c =
    let low : c.loop-pair.pair < c.pairs_of-pair-end.result = c.loop-pair-test.true in
    let most : c.pairs_of-pair-end.result ≤ 28 = c.pairs_of-pair-end.ensures.most in
    one_more c.args.openings.now c.loop-pair.pair c.loop-pair.words c.proposer_word.result c.acceptor_word.result (omega arith) c.loop-pair.invariant
    (subst (λ (k : KeptPart). IsProposerWord c.proposer_word.result k.started None) c.part_at-kept.ensures c.proposer_word.ensures)
    (subst (λ (k : KeptPart). IsAcceptorWord c.acceptor_word.result k.promised k.accepted) c.part_at-kept.ensures c.acceptor_word.ensures)
