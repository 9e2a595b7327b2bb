-- What was read stands in front of what is left.
use Rattle.std.proofs.Common.{◌≡◌, [], refl, sym, length, ◌∙◌, ap}
use Rattle.std.proofs.lemmas.Bool.{eqb-false, eqb-true}
use Rattle.std.proofs.lemmas.List.{nil_from_length}
use Rattle.std.proofs.lemmas.List.Elements.{All-push, All-same}
use Rattle.std.proofs.lemmas.Result.{err_from_is_err_and}
use Rattle.acceptor_log_form.specs.Text.{Fits}
use Rattle.acceptor_log_reading.proofs.ReadBlocks.{records_behind-cut, records_behind-no_gate, stands_behind, one_more_read}
use Rattle.acceptor_log_reading.proofs.reading.read_records.Goals as goal

pub returns-in_err-entry-clause-refused : goal.returns-in_err-entry-clause-refused
returns-in_err-entry-clause-refused c =
    let p = err_from_is_err_and c.from_residual.result c.from_residual.ensures.1 in
    let i = c.loop-behind.invariant in
    rw (p.1, p.2) (λ memory.
    let refused = c.in_err-entry.ensures.refused memory in
    (refused.0, records_behind-cut c.args.bytes.now c.loop-behind.rest.now c.in-Some.behind.now c.loop-behind.records.items i.read i.fits c.in-Some.ensures.opened refused.1))

pub loop-behind-preserved : goal.loop-behind-preserved
loop-behind-preserved c =
    let i = c.loop-behind.invariant in
    record {
      read = one_more_read c.args.bytes.now c.loop-behind.rest.now c.in-Some.behind.now c.in_ok-entry.after.now c.loop-behind.records.items c.push.new.self.items c.in_ok-entry.entry
          i.read c.in-Some.ensures.opened c.in_ok-entry.ensures.text c.in_ok-push.ensures.items;
      fits = All-same Fits c.push.new.self.items _ c.in_ok-push.ensures.items (All-push Fits c.loop-behind.records.items c.in_ok-entry.entry i.fits c.in_ok-entry.ensures.fits);
    }

pub returns-then-is_empty-clause-refused : goal.returns-then-is_empty-clause-refused
returns-then-is_empty-clause-refused c memory =
    let i = c.loop-behind.invariant in
    let nothing : c.loop-behind.rest.now ≡ [] = nil_from_length _ (eqb-true (length c.loop-behind.rest.now) 0 (sym c.is_empty.ensures ∙ c.if-is_empty.true)) in
    (refl, records_behind-no_gate c.args.bytes.now c.loop-behind.rest.now c.loop-behind.records.items i.read i.fits nothing)

pub returns-clause-ok : goal.returns-clause-ok
returns-clause-ok c =
    let i = c.loop-behind.invariant in
    stands_behind c.args.bytes.now c.loop-behind.rest.now c.loop-behind.records.items i.read i.fits c.in_default.ensures.closed
    (λ nothing. eqb-false (length c.loop-behind.rest.now) 0 (sym c.is_empty.ensures ∙ c.if-is_empty.false) (ap length nothing))
