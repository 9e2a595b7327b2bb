-- The disk rests on what is acknowledged, and after the two writes on all the records more.
use Rattle.std.proofs.Common.{◌≡◌, ◌≢◌, inl, ◌+◌, ℕ, Bool, true, eqb, List, [], ◌++◌, ◌∙◌, length, Err, refl, sym, ap, subst, arith, append-nil}
use Rattle.std.proofs.lemmas.Bool.{eqb-false, eqb-true}
use Rattle.std.proofs.lemmas.List.{length-append, nil_from_length}
use Rattle.durable_model.specs.Moments.{started}
use Rattle.acceptor_log_form.specs.declared.errors.LogError.TheVariants.{NoMemory, Device}
use Rattle.acceptor_log_form.specs.declared.record.Record.{Record}
use Rattle.acceptor_log_writing.specs.OneOf.{Either}
use Rattle.acceptor_log_form.specs.Text.{StandsFor}
use Rattle.acceptor_log_writing.specs.Written.{AreBlocks, with_block, with_records}
use Rattle.acceptor_log.specs.Rest.{Rests}
use Rattle.acceptor_log.specs.Acknowledged.{acknowledged}
use Rattle.acceptor_log_writing.proofs.Crash.{blocks-behind, with-some}
use Rattle.acceptor_log.proofs.Ready.{first_of, first_of-either, first_of-rests, rests-first_of, counted-first_of, rests-unchanged}
use Rattle.acceptor_log.proofs.log.Log.append_all.Goals as goal

memory_is_no_device : NoMemory ≢ Device
memory_is_no_device e = cc

-- ---- of none

nothing_asked : (entries : List Record) (answer : Bool) → answer ≡ eqb (length entries) 0 → answer ≡ true → entries ≡ []
nothing_asked entries answer is none = nil_from_length entries (eqb-true (length entries) 0 (sym is ∙ none))

pub returns-then-is_empty-clause-added : goal.returns-then-is_empty-clause-added
returns-then-is_empty-clause-added g c honest going =
    let rs = acknowledged g.D.Disk.seen c.args.self.now in
    let nothing = nothing_asked c.args.entries.now c.is_empty.result c.is_empty.ensures c.if-is_empty.true in
    subst (λ (l : List Record). rs ≡ rs ++ l) (sym nothing) (sym (append-nil rs))

pub returns-then-is_empty-clause-bytes : goal.returns-then-is_empty-clause-bytes
returns-then-is_empty-clause-bytes g c honest =
    let bytes = g.D.Disk.seen c.args.self.now.disk in
    let nothing = nothing_asked c.args.entries.now c.is_empty.result c.is_empty.ensures c.if-is_empty.true in
    subst (λ (l : List Record). bytes ≡ with_records bytes c.args.self.now.gate l) (sym nothing) refl

pub returns-then-is_empty-clause-any_moment : goal.returns-then-is_empty-clause-any_moment
returns-then-is_empty-clause-any_moment g c honest going =
    let disk = g.D.Disk in
    let old = c.args.self.now in
    let rs = acknowledged disk.seen old in
    let ready = c.requires honest going in
    started disk.moment disk.left_since old.disk (Either old.header rs (rs ++ c.args.entries.now))
    (λ (b : List ℕ) left. inl (subst (λ (l : List ℕ). StandsFor old.header rs l) (sym (ready.rests.durable b (g.met.D.Disk.only_now old.disk b honest left))) ready.rests.stands))

pub returns-then-is_empty-clause-too_long : goal.returns-then-is_empty-clause-too_long
returns-then-is_empty-clause-too_long g c going some over = absurd (some (nothing_asked c.args.entries.now c.is_empty.result c.is_empty.ensures c.if-is_empty.true))

-- ---- of some

pub returns-in-Ok-put-clause-any_moment : goal.returns-in-Ok-put-clause-any_moment
returns-in-Ok-put-clause-any_moment g c honest going =
    let old = c.args.self.now in
    let entries = c.args.entries.now in
    let ready = c.requires honest going in
    let some : entries ≢ [] = λ none. eqb-false (length entries) 0 (sym c.is_empty.ensures ∙ c.if-is_empty.false) (ap length none) in
    let are_blocks : AreBlocks entries c.as_slice.result.now = blocks-behind entries c.as_slice.result.now some c.in-Ok.ensures.fit (c.as_slice.ensures.value ∙ c.in-Ok.ensures.text) in
    c.put.ensures.any_moment old.header (acknowledged g.D.Disk.seen old) entries ready.rests are_blocks

pub returns-in-Err-NoMemory-clause-any_moment : goal.returns-in-Err-NoMemory-clause-any_moment
returns-in-Err-NoMemory-clause-any_moment g c honest going =
    let old = c.args.self.now in
    let entries = c.args.entries.now in
    let ready = c.requires honest going in
    let some : entries ≢ [] = λ none. eqb-false (length entries) 0 (sym c.is_empty.ensures ∙ c.if-is_empty.false) (ap length none) in
    let are_blocks : AreBlocks entries c.as_slice.result.now = blocks-behind entries c.as_slice.result.now some c.in-Ok.ensures.fit (c.as_slice.ensures.value ∙ c.in-Ok.ensures.text) in
    c.put.ensures.any_moment old.header (acknowledged g.D.Disk.seen old) entries ready.rests are_blocks

pub returns-clause-any_moment : goal.returns-clause-any_moment
returns-clause-any_moment g c honest going =
    let old = c.args.self.now in
    let entries = c.args.entries.now in
    let ready = c.requires honest going in
    let some : entries ≢ [] = λ none. eqb-false (length entries) 0 (sym c.is_empty.ensures ∙ c.if-is_empty.false) (ap length none) in
    let are_blocks : AreBlocks entries c.as_slice.result.now = blocks-behind entries c.as_slice.result.now some c.in-Ok.ensures.fit (c.as_slice.ensures.value ∙ c.in-Ok.ensures.text) in
    c.put.ensures.any_moment old.header (acknowledged g.D.Disk.seen old) entries ready.rests are_blocks

-- what a read gives after a failure is one of the images that a crash leaves
pub returns-clause-err : goal.returns-clause-err
returns-clause-err g c honest =
    let disk = g.D.Disk in
    let old = c.args.self.now in
    let new = c.put.new.disk in
    let ready = c.requires honest c.if-not-self.false in
    let run = returns-clause-any_moment g c honest c.if-not-self.false in
    let still = c.put.ensures.honest.1 honest in
    let left = g.met.D.Disk.counts_now new (disk.moment old.disk) (disk.seen new) still run.later (g.met.D.Disk.left_as_seen new still) in
    first_of-either old.header (acknowledged disk.seen old) c.args.entries.now (disk.seen new) old.count (run.each (disk.seen new) left) ready.counted

pub returns-in-Err-NoMemory-clause-unwritten : goal.returns-in-Err-NoMemory-clause-unwritten
returns-in-Err-NoMemory-clause-unwritten g c honest not_device =
    let old = c.args.self.now in
    let entries = c.args.entries.now in
    let ready = c.requires honest c.if-not-self.false in
    let some : entries ≢ [] = λ none. eqb-false (length entries) 0 (sym c.is_empty.ensures ∙ c.if-is_empty.false) (ap length none) in
    let are_blocks : AreBlocks entries c.as_slice.result.now = blocks-behind entries c.as_slice.result.now some c.in-Ok.ensures.fit (c.as_slice.ensures.value ∙ c.in-Ok.ensures.text) in
    (c.in-Err-NoMemory.ensures.unwritten old.header (acknowledged g.D.Disk.seen old) entries ready.rests are_blocks (ap (λ e. Err e) c.in-Err-NoMemory.field-0-is), refl)

pub returns-in-Err-NoMemory-clause-err : goal.returns-in-Err-NoMemory-clause-err
returns-in-Err-NoMemory-clause-err g c honest =
    ap (first_of c.args.self.now.header c.args.self.now.count) (returns-in-Err-NoMemory-clause-unwritten g c honest memory_is_no_device).0.same

pub returns-in-Err-NoMemory-clause-sound : goal.returns-in-Err-NoMemory-clause-sound
returns-in-Err-NoMemory-clause-sound g c honest going =
    let disk = g.D.Disk in
    let old = c.args.self.now in
    let new = c.put.new.disk in
    let was = c.put.ensures.honest.0 honest in
    let ready = c.requires was going in
    let same = (returns-in-Err-NoMemory-clause-unwritten g c was memory_is_no_device).0 in
    let rests = rests-unchanged disk old.header (acknowledged disk.seen old) old.gate old.disk new ready.rests honest same in
    record {
      rests = rests-first_of disk old.header (acknowledged disk.seen old) old.gate old.count new rests ready.counted;
      counted = counted-first_of disk old.header (acknowledged disk.seen old) old.gate old.count new rests ready.counted;
    }

pub returns-in-Ok-put-clause-added : goal.returns-in-Ok-put-clause-added
returns-in-Ok-put-clause-added g c honest going =
    let disk = g.D.Disk in
    let old = c.args.self.now in
    let entries = c.args.entries.now in
    let new = c.put.new.disk in
    let ready = c.requires honest going in
    let some : entries ≢ [] = λ none. eqb-false (length entries) 0 (sym c.is_empty.ensures ∙ c.if-is_empty.false) (ap length none) in
    let are_blocks : AreBlocks entries c.as_slice.result.now = blocks-behind entries c.as_slice.result.now some c.in-Ok.ensures.fit (c.as_slice.ensures.value ∙ c.in-Ok.ensures.text) in
    let more = acknowledged disk.seen old ++ entries in
    let rests = c.in-Ok-put.ensures.written old.header (acknowledged disk.seen old) entries ready.rests are_blocks in
    first_of-rests disk old.header more (old.gate + length c.as_slice.result.now) (old.count + length entries) new rests
    (omega (arith, ready.counted, length-append (acknowledged disk.seen old) entries))

pub returns-in-Ok-put-clause-sound : goal.returns-in-Ok-put-clause-sound
returns-in-Ok-put-clause-sound g c honest going =
    let disk = g.D.Disk in
    let old = c.args.self.now in
    let entries = c.args.entries.now in
    let new = c.put.new.disk in
    let ready = c.requires (c.put.ensures.honest.0 honest) going in
    let some : entries ≢ [] = λ none. eqb-false (length entries) 0 (sym c.is_empty.ensures ∙ c.if-is_empty.false) (ap length none) in
    let are_blocks : AreBlocks entries c.as_slice.result.now = blocks-behind entries c.as_slice.result.now some c.in-Ok.ensures.fit (c.as_slice.ensures.value ∙ c.in-Ok.ensures.text) in
    let more = acknowledged disk.seen old ++ entries in
    let gate = old.gate + length c.as_slice.result.now in
    let rests = c.in-Ok-put.ensures.written old.header (acknowledged disk.seen old) entries ready.rests are_blocks in
    let counted : old.count + length entries ≡ length more = omega (arith, ready.counted, length-append (acknowledged disk.seen old) entries) in
    let here : gate ≡ old.gate + c.len.result = omega (arith, ap length c.as_slice.ensures.value, c.in-Ok.block.ok.0) in
    record {
      rests = subst (λ at. Rests disk old.header (first_of old.header (old.count + length entries) (disk.seen new)) at new) here
          (rests-first_of disk old.header more gate (old.count + length entries) new rests counted);
      counted = counted-first_of disk old.header more gate (old.count + length entries) new rests counted;
    }

pub returns-in-Ok-put-clause-bytes : goal.returns-in-Ok-put-clause-bytes
returns-in-Ok-put-clause-bytes g c honest =
    let entries = c.args.entries.now in
    let some : entries ≢ [] = λ none. eqb-false (length entries) 0 (sym c.is_empty.ensures ∙ c.if-is_empty.false) (ap length none) in
    c.in-Ok-put.ensures.bytes honest
    ∙ ap (λ (l : List ℕ). with_block (g.D.Disk.seen c.args.self.now.disk) c.args.self.now.gate l) (c.as_slice.ensures.value ∙ c.in-Ok.ensures.text)
    ∙ with-some (g.D.Disk.seen c.args.self.now.disk) c.args.self.now.gate entries some
