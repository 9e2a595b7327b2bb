-- The old disk counts until the new text is durable.
use Rattle.std.proofs.Common.{List, ℕ, [], ◌∷◌, ◌∙◌, sym, ap, get_or}
use Rattle.durable_model_writes.specs.Writes.{overwritten}
use Rattle.durable_model.specs.Moments.{composed}
use Rattle.durable_pair.proofs.Results.{on_ok, both_on_ok}
use Rattle.acceptor_log_migrating.specs.Turning.{LeavesOld, Spends, Turns}
use Rattle.acceptor_log_migrating.proofs.Turned.{turns-laid, turns-spent, zero_first, both_ways, some_bytes, weaker}
use Rattle.acceptor_log_migrating.proofs.turning.turn.Goals as goal

pub returns-in-Err-clause-any_moment : goal.returns-in-Err-clause-any_moment
returns-in-Err-clause-any_moment g c whole only counts =
    let pair = g.P.Pair in
    let p = c.args.pair.now in
    weaker (c.lay_new.ensures.any_moment whole) (turns-laid (pair.old_may p) (pair.old_seen p) c.args.text.now only)

pub returns-in-Ok-clause-whole : goal.returns-in-Ok-clause-whole
returns-in-Ok-clause-whole g c = both_ways c.spend_old.ensures.whole c.lay_new.ensures.whole

pub returns-in-Ok-clause-any_moment : goal.returns-in-Ok-clause-any_moment
returns-in-Ok-clause-any_moment g c whole only counts =
    let pair = g.P.Pair in
    let disk = g.P.Disk in
    let p = c.args.pair.now in
    let q = c.lay_new.new.pair in
    let r = c.spend_old.new.pair in
    let still = c.lay_new.ensures.whole.1 whole in
    composed disk.moment pair.both_since p q r (LeavesOld (pair.old_may p)) (Spends (pair.new_may q) (pair.old_may q)) (Turns c.args.text.now (pair.old_seen p))
    (c.lay_new.ensures.any_moment whole) (c.spend_old.ensures.any_moment still)
    (turns-laid (pair.old_may p) (pair.old_seen p) c.args.text.now only)
    (turns-spent (pair.old_may p) (pair.old_seen p) c.args.text.now only (pair.new_may q) (pair.old_may q) (disk.seen p) counts
    (λ image left. c.in-Ok.ensures.durable whole image left ∙ c.in-Ok.ensures.written whole) (λ d left. (c.lay_new.ensures.beside_left whole d).0 left))

pub returns-in-Ok-clause-honest : goal.returns-in-Ok-clause-honest
returns-in-Ok-clause-honest g c whole =
    let pair = g.P.Pair in
    let q = c.lay_new.new.pair in
    let r = c.spend_old.new.pair in
    let still = c.lay_new.ensures.whole.1 whole in
    both_on_ok c.spend_old.result (c.spend_old.ensures.written still) (c.spend_old.ensures.durable still)
    (λ written durable. g.met.P.Pair.becomes r (c.spend_old.ensures.whole.1 still)
    (λ d left. zero_first (pair.old_seen q) d (durable d left ∙ written)))

pub returns-in-Ok-clause-written : goal.returns-in-Ok-clause-written
returns-in-Ok-clause-written g c whole =
    let still = c.lay_new.ensures.whole.1 whole in
    on_ok c.spend_old.result (c.spend_old.ensures.written still) (λ _. c.spend_old.ensures.beside still ∙ c.in-Ok.ensures.written whole)

pub returns-in-Ok-clause-turned : goal.returns-in-Ok-clause-turned
returns-in-Ok-clause-turned g c whole =
    let still = c.lay_new.ensures.whole.1 whole in
    on_ok c.spend_old.result (c.spend_old.ensures.written still)
    (λ written. written ∙ ap (λ (l : List ℕ). overwritten l 0 (0 ∷ [])) (c.lay_new.ensures.beside whole))

pub returns-in-Ok-clause-durable : goal.returns-in-Ok-clause-durable
returns-in-Ok-clause-durable g c whole =
    let r = c.spend_old.new.pair in
    let still = c.lay_new.ensures.whole.1 whole in
    on_ok c.spend_old.result (returns-in-Ok-clause-honest g c whole)
    (λ honest. λ image left. c.in-Ok.ensures.durable whole image ((c.spend_old.ensures.beside_left still image).0 (g.met.P.Pair.only_new r image honest left))
    ∙ sym (c.spend_old.ensures.beside still))

-- once the new text is laid no memory is wanted
pub returns-in-Ok-clause-unwritten : goal.returns-in-Ok-clause-unwritten
returns-in-Ok-clause-unwritten g c whole counts memory =
    let q = c.lay_new.new.pair in
    let long = some_bytes (g.P.Pair.old_seen q) (ap (λ (l : List ℕ). get_or l 0 0) (c.lay_new.ensures.beside whole) ∙ counts) in
    absurd (c.spend_old.ensures.memory (c.lay_new.ensures.whole.1 whole) long memory)

pub returns-in-Ok-clause-unwritten_old : goal.returns-in-Ok-clause-unwritten_old
returns-in-Ok-clause-unwritten_old g c whole counts memory =
    let q = c.lay_new.new.pair in
    let long = some_bytes (g.P.Pair.old_seen q) (ap (λ (l : List ℕ). get_or l 0 0) (c.lay_new.ensures.beside whole) ∙ counts) in
    absurd (c.spend_old.ensures.memory (c.lay_new.ensures.whole.1 whole) long memory)
