-- What was read stands in front of what is left.
use Rattle.std.proofs.Common.{◌≡◌, ◌++◌, IfSome, true, inl, subst}
use Rattle.std.proofs.lemmas.List.Elements.{All-push, All-same}
use Rattle.acceptor_log_form.specs.Text.{block_text, Fits}
use Rattle.acceptor_log_reading.proofs.ReadBlocks.{one_more_read}
use Rattle.cfarm_log.specs.Forms.{has_version}
use Rattle.cfarm_log.proofs.FrontLemmas.{at_end, gate_is, had-more, none_left, some_left}
use Rattle.cfarm_log.proofs.front.read_front.Goals as goal

pub loop-behind-preserved : goal.loop-behind-preserved
loop-behind-preserved c =
    let i = c.loop-behind.invariant in
    let e = c.in-Ok-Some.ensures in
    let more = c.push.new.self.items in
    let r = c.in-Ok-Some.entry in
    let text : c.in-Some.behind.now ≡ block_text r ++ c.in-Ok-Some.after.now =
    subst (λ o. IfSome o (λ x. c.in-Some.behind.now ≡ block_text x.0 ++ x.1.now)) c.in-Ok-Some.field-0-is e.text in
    let fits : Fits r = subst (λ o. IfSome o (λ x. Fits x.0)) c.in-Ok-Some.field-0-is e.fits in
    let had : has_version c.args.version r ≡ true =
    subst (λ o. IfSome o (λ x. has_version c.args.version x.0 ≡ true)) c.in-Ok-Some.field-0-is e.had in
    let pushed = c.in_ok-push-in-Ok-Some.ensures.items in
    record {
      read = one_more_read c.args.bytes.now c.loop-behind.rest.now c.in-Some.behind.now c.in-Ok-Some.after.now c.loop-behind.records.items more r
          i.read c.in-Some.ensures.opened text pushed;
      fits = All-same Fits more _ pushed (All-push Fits c.loop-behind.records.items r i.fits fits);
      had = had-more c.args.version c.loop-behind.records.items more r pushed i.had had;
    }

pub returns : goal.returns
returns c =
    let i = c.loop-behind.invariant in
    let rest = c.loop-behind.rest.now in
    record {
      rest = rest;
      front = record { fits = i.fits; had = i.had; text = i.read };
      place = gate_is c.args.bytes.now rest c.loop-behind.records.items i.read;
      at_end = λ ends. at_end rest c.in_default.ensures.closed (some_left rest c.is_empty.result c.is_empty.ensures ends);
      at_cut = λ cut. inl (none_left rest c.is_empty.result c.is_empty.ensures cut);
    }
