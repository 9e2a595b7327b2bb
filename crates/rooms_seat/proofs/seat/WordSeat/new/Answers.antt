-- Why `new` meets its contract, and it may call `opened_words`.
use Rattle.std.proofs.Common.{◌≡◌, ◌<◌, ◌≤◌, List, [], ◌∷◌, length, map, get_or, sym, ◌∙◌, subst, arith}
use Rattle.paxos_core_world.specs.KeptPart.{KeptPart, nothing_kept}
use Rattle.rooms_meeting.specs.SeatState.{SeatState, opened_acceptor, opened_proposer}
use Rattle.rooms_meeting.specs.Seen.{acceptor_shown, proposer_shown, IsKept}
use Rattle.rooms_meeting.proofs.Sweeps.{none_heard}
use Rattle.rooms_meeting.proofs.Opened.{opened_sound, seven}
use Rattle.rooms_seat.proofs.Starting.{image_at, is_opened, kept_at, kept_fits}
use Rattle.rooms_seat.proofs.seat.WordSeat.new.Goals as goal

pub returns : goal.returns
returns c =
    let kept : List KeptPart = c.args.opening.now.kept in
    let size : length kept ≡ 7 = c.requires.opening.row in
    let most : c.args.opening.now.quorums.nodes ≤ 7 = c.requires.opening.sizes.most in
    let number : c.args.me < c.args.opening.now.quorums.nodes = c.requires.number in
    let proposers : _ ≡ map opened_proposer kept =
    (λ j. (image_at opened_proposer kept 0 c.index-kept-0.result nothing_kept (proposer_shown c.opened_words.result) (omega arith) c.opened_words.ensures.proposer) j
    ∷ (image_at opened_proposer kept 1 c.index-kept-1.result nothing_kept (proposer_shown c.opened_words-2.result) (omega arith) c.opened_words-2.ensures.proposer) j
    ∷ (image_at opened_proposer kept 2 c.index-kept-2.result nothing_kept (proposer_shown c.opened_words-3.result) (omega arith) c.opened_words-3.ensures.proposer) j
    ∷ (image_at opened_proposer kept 3 c.index-kept-3.result nothing_kept (proposer_shown c.opened_words-4.result) (omega arith) c.opened_words-4.ensures.proposer) j
    ∷ (image_at opened_proposer kept 4 c.index-kept-4.result nothing_kept (proposer_shown c.opened_words-5.result) (omega arith) c.opened_words-5.ensures.proposer) j
    ∷ (image_at opened_proposer kept 5 c.index-kept-5.result nothing_kept (proposer_shown c.opened_words-6.result) (omega arith) c.opened_words-6.ensures.proposer) j
    ∷ (image_at opened_proposer kept 6 c.index-kept-6.result nothing_kept (proposer_shown c.opened_words-7.result) (omega arith) c.opened_words-7.ensures.proposer) j ∷ [])
    ∙ seven opened_proposer nothing_kept kept size in
    let acceptors : _ ≡ map opened_acceptor kept =
    (λ j. (image_at opened_acceptor kept 0 c.index-kept-0.result nothing_kept (acceptor_shown c.opened_words.result) (omega arith) c.opened_words.ensures.acceptor) j
    ∷ (image_at opened_acceptor kept 1 c.index-kept-1.result nothing_kept (acceptor_shown c.opened_words-2.result) (omega arith) c.opened_words-2.ensures.acceptor) j
    ∷ (image_at opened_acceptor kept 2 c.index-kept-2.result nothing_kept (acceptor_shown c.opened_words-3.result) (omega arith) c.opened_words-3.ensures.acceptor) j
    ∷ (image_at opened_acceptor kept 3 c.index-kept-3.result nothing_kept (acceptor_shown c.opened_words-4.result) (omega arith) c.opened_words-4.ensures.acceptor) j
    ∷ (image_at opened_acceptor kept 4 c.index-kept-4.result nothing_kept (acceptor_shown c.opened_words-5.result) (omega arith) c.opened_words-5.ensures.acceptor) j
    ∷ (image_at opened_acceptor kept 5 c.index-kept-5.result nothing_kept (acceptor_shown c.opened_words-6.result) (omega arith) c.opened_words-6.ensures.acceptor) j
    ∷ (image_at opened_acceptor kept 6 c.index-kept-6.result nothing_kept (acceptor_shown c.opened_words-7.result) (omega arith) c.opened_words-7.ensures.acceptor) j ∷ [])
    ∙ seven opened_acceptor nothing_kept kept size in
    is_opened c.args.rights.at c.args.rights.me.0 c.args.opening.now c.args.me c.restart-node.result c.new.result (get_or kept c.from.result c.index-kept-from.result) _ _ c.requires.view c.new.ensures.state c.restart-node.ensures.state
    (kept_at kept c.from.result c.args.me c.index-kept-from.result c.from.ensures (omega arith)) proposers acceptors

pub invariant_of-result : goal.invariant_of-result
invariant_of-result c =
    subst (λ (s : SeatState). IsKept 0 s) (sym (returns c))
    (none_heard _ (opened_sound c.args.rights.at c.args.opening.now c.args.me c.requires.words c.requires.opening c.requires.number))

pub opened_words-requires : goal.opened_words-requires
opened_words-requires c = kept_fits c.args.opening.now c.requires.opening 0 c.index-kept-0.result (omega arith)

pub opened_words-requires-2 : goal.opened_words-requires-2
opened_words-requires-2 c = kept_fits c.args.opening.now c.requires.opening 1 c.index-kept-1.result (omega arith)

pub opened_words-requires-3 : goal.opened_words-requires-3
opened_words-requires-3 c = kept_fits c.args.opening.now c.requires.opening 2 c.index-kept-2.result (omega arith)

pub opened_words-requires-4 : goal.opened_words-requires-4
opened_words-requires-4 c = kept_fits c.args.opening.now c.requires.opening 3 c.index-kept-3.result (omega arith)

pub opened_words-requires-5 : goal.opened_words-requires-5
opened_words-requires-5 c = kept_fits c.args.opening.now c.requires.opening 4 c.index-kept-4.result (omega arith)

pub opened_words-requires-6 : goal.opened_words-requires-6
opened_words-requires-6 c = kept_fits c.args.opening.now c.requires.opening 5 c.index-kept-5.result (omega arith)

pub opened_words-requires-7 : goal.opened_words-requires-7
opened_words-requires-7 c = kept_fits c.args.opening.now c.requires.opening 6 c.index-kept-6.result (omega arith)
