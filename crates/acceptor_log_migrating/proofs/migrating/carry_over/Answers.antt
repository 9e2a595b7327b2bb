-- The old journal counts until the new one is durable.
use Rattle.std.proofs.Common.{◌≡◌, inl, List, ℕ, sym, ◌∙◌, ap, subst, get_or}
use Rattle.acceptor_log_migrating.proofs.Turned.{weaker}
use Rattle.acceptor_log_form.specs.declared.errors.LogError.TheVariants.{Device}
use Rattle.acceptor_log_migrating.specs.Stands.{IsNotMigrated}
use Rattle.acceptor_log_migrating.proofs.Moved.{IsMade, never_device, made_for, moves, looks, laid-stands, old-counts, told_memory}
use Rattle.acceptor_log_migrating.proofs.migrating.carry_over.Goals as goal

pub returns-clause-any_moment : goal.returns-clause-any_moment
returns-clause-any_moment g c whole only rs can =
    let pair = g.P.Pair in
    let p = c.args.pair.now in
    weaker (looks g.P.Disk.moment pair.both_since pair.new_may pair.old_may pair.old_seen p (λ im left. g.met.P.Pair.both_only p im whole left) only) (λ im has. inl has)

pub returns-clause-stays : goal.returns-clause-stays
returns-clause-stays g c whole only memory device =
    let pair = g.P.Pair in
    let p = c.args.pair.now in
    looks g.P.Disk.moment pair.both_since pair.new_may pair.old_may pair.old_seen p (λ im left. g.met.P.Pair.both_only p im whole left) only

pub returns-clause-refused : goal.returns-clause-refused
returns-clause-refused g c whole memory device =
    subst (λ (b : List ℕ). IsNotMigrated c.args.header.now b c.in-Err.refused) (c.lent_old.ensures whole) (c.in-Err.ensures.refused memory)

pub returns-clause-failed : goal.returns-clause-failed
returns-clause-failed g c device =
    let is : c.in-Err.refused ≡ Device = cc in
    absurd (never_device c.args.header.now c.lent_old.result.now c.in-Err.refused c.in-Err.ensures.refused is)

pub returns-in-Ok-clause-any_moment : goal.returns-in-Ok-clause-any_moment
returns-in-Ok-clause-any_moment g c whole only rs can =
    let pair = g.P.Pair in
    let p = c.args.pair.now in
    let made = c.in-Ok.ensures.made in
    let old_is : c.lent_old.result.now ≡ pair.old_seen p = c.lent_old.ensures whole in
    let of : IsMade c.args.header.now (pair.old_seen p) c.as_slice.result.now made.0 = made_for c.args.header.now (pair.old_seen p) c.lent_old.result.now c.as_slice.result.now c.in-Ok.text made.0 old_is made.1 made.2 c.as_slice.ensures.value in
    moves g.P.Disk.moment pair.both_since pair.new_may pair.old_may pair.old_seen p (λ im left. g.met.P.Pair.both_only p im whole left) only c.turn.new.pair c.args.header.now rs made.0
    c.as_slice.result.now can of (λ counts. c.turn.ensures.any_moment whole only counts)

pub returns-in-Ok-turn-clause-any_moment : goal.returns-in-Ok-turn-clause-any_moment
returns-in-Ok-turn-clause-any_moment g c whole only rs can =
    let pair = g.P.Pair in
    let p = c.args.pair.now in
    let made = c.in-Ok.ensures.made in
    let old_is : c.lent_old.result.now ≡ pair.old_seen p = c.lent_old.ensures whole in
    let of : IsMade c.args.header.now (pair.old_seen p) c.as_slice.result.now made.0 = made_for c.args.header.now (pair.old_seen p) c.lent_old.result.now c.as_slice.result.now c.in-Ok.text made.0 old_is made.1 made.2 c.as_slice.ensures.value in
    moves g.P.Disk.moment pair.both_since pair.new_may pair.old_may pair.old_seen p (λ im left. g.met.P.Pair.both_only p im whole left) only c.turn.new.pair c.args.header.now rs made.0
    c.as_slice.result.now can of (λ counts. c.turn.ensures.any_moment whole only counts)

pub returns-in-Ok-turn-clause-rests : goal.returns-in-Ok-turn-clause-rests
returns-in-Ok-turn-clause-rests g c whole =
    let pair = g.P.Pair in
    let disk = g.P.Disk in
    let p = c.args.pair.now in
    let made = c.in-Ok.ensures.made in
    let old_is : c.lent_old.result.now ≡ pair.old_seen p = c.lent_old.ensures whole in
    let of : IsMade c.args.header.now (pair.old_seen p) c.as_slice.result.now made.0 = made_for c.args.header.now (pair.old_seen p) c.lent_old.result.now c.as_slice.result.now c.in-Ok.text made.0 old_is made.1 made.2 c.as_slice.ensures.value in (
      made.0,
      of.can,
      made.2.counted,
      record {
        honest = c.in-Ok-turn.ensures.honest whole;
        stands = laid-stands c.args.header.now made.0 (pair.old_seen p) c.as_slice.result.now (disk.seen p) (disk.seen c.turn.new.pair) of (c.in-Ok-turn.ensures.written whole);
        at_gate = made.2.at_gate;
        durable = c.in-Ok-turn.ensures.durable whole;
      },
    )

-- where it is out of memory nothing was written
pub returns-in-Ok-clause-unwritten : goal.returns-in-Ok-clause-unwritten
returns-in-Ok-clause-unwritten g c whole other =
    let pair = g.P.Pair in
    let p = c.args.pair.now in
    let made = c.in-Ok.ensures.made in
    let old_is : c.lent_old.result.now ≡ pair.old_seen p = c.lent_old.ensures whole in
    let counts : get_or (pair.old_seen p) 0 0 ≡ 67 = ap (λ (l : List ℕ). get_or l 0 0) (sym old_is) ∙ old-counts c.args.header.now made.0 c.lent_old.result.now made.1.stands in
    let memory = told_memory c.turn.result c.in-Err-turn.fault c.told.result c.in-Err-turn.is c.told.ensures other in
    (c.turn.ensures.unwritten whole counts memory, c.turn.ensures.unwritten_old whole counts memory)
