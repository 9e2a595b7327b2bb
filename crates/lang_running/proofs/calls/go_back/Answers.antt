-- Why `go_back` meets its clause `fits`, and it may call `slice_mut`.
use Rattle.std.proofs.Common.{◌≡◌, ◌-◌, ◌∷◌, ◌≤◌, length, take, drop, sym, ap, subst, ◌∙◌, arith}
use Rattle.std.proofs.lemmas.List.{length-drop}
use Rattle.lang_running.specs.Waiting.{Waiting, waiting_in}
use Rattle.lang_running.specs.Fits.{FrameFits, CallersStand, CallersFit}
use Rattle.lang_running.specs.Runs.{callers_of}
use Rattle.lang_running.proofs.Fitting.{nearest_fits, nearest_stands}
use Rattle.lang_running.proofs.Stack.{nearest_apart, written_below, written_above, written_length}
use Rattle.lang_running.proofs.calls.go_back.Goals as goal

pub slice_mut-requires-clause-start_le_end : goal.slice_mut-requires-clause-start_le_end
slice_mut-requires-clause-start_le_end g c =
    let r = c.args.run.now in
    let both = nearest_apart c.in-Some.caller c.pop.new.self r.callers r.base c.in-Some.ensures c.requires.apart in
    omega (arith, both.0, c.truncate.ensures.len, c.requires.begun, r.words.ok.0)

pub returns-clause-fits : goal.returns-clause-fits
returns-clause-fits g c = λ functions all.
    let r = c.args.run.now in
    let caller = c.in-Some.caller in
    let below = take r.base r.words.items in
    let v = c.truncate.new.self in
    let both = nearest_apart caller c.pop.new.self r.callers r.base c.in-Some.ensures c.requires.apart in
    let within : caller.base ≤ v.len = omega (arith, both.0, c.truncate.ensures.len, c.requires.begun, r.words.ok.0) in
    let first : Waiting g.row.M-Place.Denot g.row.M-Target.Denot = record { function = caller.function; place = caller.place; words = drop caller.base below; target = caller.target } in
    let others = waiting_in c.pop.new.self (take caller.base below) in
    let e : callers_of r ≡ first ∷ others = ap (λ cs. waiting_in cs below) c.in-Some.ensures in
    let fit = nearest_fits g.M.Machine.fits g.M.Machine.can_resume functions first others (callers_of r) e all in
    let stands = nearest_stands g.M.Machine.can_resume first others (callers_of r) e c.requires.stand in
    let lent : length c.slice_mut.result.now ≡ length (drop caller.base v.items) =
    c.slice_mut.ensures.len ∙ ap (λ n. n - caller.base) v.ok.0 ∙ sym (length-drop caller.base v.items) in
    let same = c.resume.ensures.count ∙ lent in
    let later = c.resume.new.words in
    let others_same = ap (waiting_in c.pop.new.self) (written_below caller.base v.len v.items later v.ok.0 within same ∙ ap (take caller.base) c.truncate.ensures.items) in
    let as_many = ap length (written_above caller.base v.len v.items later v.ok.0 within same) ∙ same ∙ ap (λ xs. length (drop caller.base xs)) c.truncate.ensures.items in
    record {
      here = subst (FrameFits g.M.Machine.fits functions caller.function caller.place) (sym as_many) fit.0;
      stand = subst (CallersStand g.M.Machine.can_resume) (sym others_same) stands.1;
      callers = subst (CallersFit g.M.Machine.fits functions) (sym others_same) fit.1;
      begun = written_length caller.base v.len v.items later v.ok.0 within same;
      apart = both.1;
    }
