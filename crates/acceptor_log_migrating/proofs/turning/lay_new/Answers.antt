-- The old disk is as it was, whatever becomes of the new one.
use Rattle.std.proofs.Common.{Result, ℕ, List, [], length, sym, ◌∙◌}
use Rattle.std.specs.Prelude.{OnOk, OnErr, IsErrOf}
use Rattle.durable_model.specs.declared.error.DiskError.{DiskError}
use Rattle.durable_model.specs.declared.error.DiskError.TheVariants.{Device, NoMemory}
use Rattle.durable_model_writes.specs.declared.call.Call.{Call}
use Rattle.durable_model_writes.specs.declared.call.Call.TheVariants.{Wrote, Tore, Synced, Left}
use Rattle.durable_pair.proofs.Results.{on_ok, each_way, either_way}
use Rattle.acceptor_log_migrating.proofs.Turned.{old_started, new_goes_on, both_ways}
use Rattle.acceptor_log_migrating.proofs.turning.lay_new.Goals as goal

-- what a write did, however it ended
wrote : {T D : Type 0} (did : Call → List ℕ → D → D → Type 0) (r : Result T DiskError) (n : ℕ) (bytes : List ℕ) (p q : D)
    → OnOk r (did (Wrote 0 n) bytes p q) → (IsErrOf r Device → did (Tore 0 n) [] p q) → (IsErrOf r NoMemory → did Left [] p q)
    → (call : Call) × (written : List ℕ) × did call written p q
wrote did r n bytes p q done tore left =
    each_way r done (λ d. (Wrote 0 n, bytes, d)) (λ e. (Tore 0 n, [], tore e)) (λ e. (Left, [], left e))

synced : {T D : Type 0} (did : Call → List ℕ → D → D → Type 0) (r : Result T DiskError) (p q : D)
    → OnOk r (did Synced [] p q) → OnErr r (did Left [] p q) → (call : Call) × (written : List ℕ) × did call written p q
synced did r p q done left = either_way r done (λ d. (Synced, [], d)) left (λ d. (Left, [], d))

pub returns-in-Err-clause-whole : goal.returns-in-Err-clause-whole
returns-in-Err-clause-whole g c =
    let p = c.args.pair.now in
    let q = c.write_at.new.self in
    let w = wrote g.P.Disk.did c.write_at.result (length c.args.text.now) c.args.text.now p q c.write_at.ensures.done c.write_at.ensures.tore c.write_at.ensures.left in
    g.met.P.Pair.stays_whole w.0 w.1 p q w.2

pub returns-in-Err-clause-any_moment : goal.returns-in-Err-clause-any_moment
returns-in-Err-clause-any_moment g c whole =
    let pair = g.P.Pair in
    let disk = g.P.Disk in
    let p = c.args.pair.now in
    let q = c.write_at.new.self in
    let w = wrote disk.did c.write_at.result (length c.args.text.now) c.args.text.now p q c.write_at.ensures.done c.write_at.ensures.tore c.write_at.ensures.left in
    new_goes_on disk.moment pair.both_since pair.new_may pair.old_may disk.seen pair.old_seen p p q w.0 w.1
    (old_started disk.moment pair.both_since pair.new_may pair.old_may disk.seen pair.old_seen p (λ im. g.met.P.Pair.both_only p im whole)) (λ d left. left)
    (g.met.P.Pair.means w.0 w.1 p q whole w.2)

pub returns-in-Err-clause-beside : goal.returns-in-Err-clause-beside
returns-in-Err-clause-beside g c whole =
    let p = c.args.pair.now in
    let q = c.write_at.new.self in
    let w = wrote g.P.Disk.did c.write_at.result (length c.args.text.now) c.args.text.now p q c.write_at.ensures.done c.write_at.ensures.tore c.write_at.ensures.left in
    (g.met.P.Pair.means w.0 w.1 p q whole w.2).other_same

pub returns-in-Err-clause-beside_left : goal.returns-in-Err-clause-beside_left
returns-in-Err-clause-beside_left g c whole =
    let p = c.args.pair.now in
    let q = c.write_at.new.self in
    let w = wrote g.P.Disk.did c.write_at.result (length c.args.text.now) c.args.text.now p q c.write_at.ensures.done c.write_at.ensures.tore c.write_at.ensures.left in
    (g.met.P.Pair.means w.0 w.1 p q whole w.2).other_left

pub returns-in-Ok-clause-whole : goal.returns-in-Ok-clause-whole
returns-in-Ok-clause-whole g c =
    let p = c.args.pair.now in
    let q = c.write_at.new.self in
    let r = c.sync.new.self in
    let s = synced g.P.Disk.did c.sync.result q r c.sync.ensures.done c.sync.ensures.left in
    both_ways (g.met.P.Pair.stays_whole s.0 s.1 q r s.2)
    (g.met.P.Pair.stays_whole (Wrote 0 (length c.args.text.now)) c.args.text.now p q c.in-Ok.ensures.done)

pub returns-in-Ok-clause-any_moment : goal.returns-in-Ok-clause-any_moment
returns-in-Ok-clause-any_moment g c whole =
    let pair = g.P.Pair in
    let disk = g.P.Disk in
    let met = g.met.P.Pair in
    let p = c.args.pair.now in
    let q = c.write_at.new.self in
    let r = c.sync.new.self in
    let n = length c.args.text.now in
    let still = (met.stays_whole (Wrote 0 n) c.args.text.now p q c.in-Ok.ensures.done).1 whole in
    let does = met.means (Wrote 0 n) c.args.text.now p q whole c.in-Ok.ensures.done in
    let s = synced disk.did c.sync.result q r c.sync.ensures.done c.sync.ensures.left in
    new_goes_on disk.moment pair.both_since pair.new_may pair.old_may disk.seen pair.old_seen p q r s.0 s.1
    (new_goes_on disk.moment pair.both_since pair.new_may pair.old_may disk.seen pair.old_seen p p q (Wrote 0 n) c.args.text.now
    (old_started disk.moment pair.both_since pair.new_may pair.old_may disk.seen pair.old_seen p (λ im. met.both_only p im whole)) (λ d left. left) does)
    (λ d left. (does.other_left d).0 left) (met.means s.0 s.1 q r still s.2)

pub returns-in-Ok-clause-beside : goal.returns-in-Ok-clause-beside
returns-in-Ok-clause-beside g c whole =
    let met = g.met.P.Pair in
    let p = c.args.pair.now in
    let q = c.write_at.new.self in
    let r = c.sync.new.self in
    let n = length c.args.text.now in
    let still = (met.stays_whole (Wrote 0 n) c.args.text.now p q c.in-Ok.ensures.done).1 whole in
    let s = synced g.P.Disk.did c.sync.result q r c.sync.ensures.done c.sync.ensures.left in
    (met.means s.0 s.1 q r still s.2).other_same ∙ (met.means (Wrote 0 n) c.args.text.now p q whole c.in-Ok.ensures.done).other_same

pub returns-in-Ok-clause-beside_left : goal.returns-in-Ok-clause-beside_left
returns-in-Ok-clause-beside_left g c whole d =
    let met = g.met.P.Pair in
    let p = c.args.pair.now in
    let q = c.write_at.new.self in
    let r = c.sync.new.self in
    let n = length c.args.text.now in
    let still = (met.stays_whole (Wrote 0 n) c.args.text.now p q c.in-Ok.ensures.done).1 whole in
    let s = synced g.P.Disk.did c.sync.result q r c.sync.ensures.done c.sync.ensures.left in
    both_ways ((met.means s.0 s.1 q r still s.2).other_left d) ((met.means (Wrote 0 n) c.args.text.now p q whole c.in-Ok.ensures.done).other_left d)

pub returns-in-Ok-clause-written : goal.returns-in-Ok-clause-written
returns-in-Ok-clause-written g c whole =
    let met = g.met.P.Pair in
    let p = c.args.pair.now in
    let q = c.write_at.new.self in
    let n = length c.args.text.now in
    let still = (met.stays_whole (Wrote 0 n) c.args.text.now p q c.in-Ok.ensures.done).1 whole in
    on_ok c.sync.result c.sync.ensures.done
    (λ did. (met.means Synced [] q c.sync.new.self still did).sees ∙ (met.means (Wrote 0 n) c.args.text.now p q whole c.in-Ok.ensures.done).sees)

pub returns-in-Ok-clause-durable : goal.returns-in-Ok-clause-durable
returns-in-Ok-clause-durable g c whole =
    let met = g.met.P.Pair in
    let p = c.args.pair.now in
    let q = c.write_at.new.self in
    let still = (met.stays_whole (Wrote 0 (length c.args.text.now)) c.args.text.now p q c.in-Ok.ensures.done).1 whole in
    on_ok c.sync.result c.sync.ensures.done
    (λ did. let does = met.means Synced [] q c.sync.new.self still did in λ image left. does.left image left ∙ sym does.sees)
