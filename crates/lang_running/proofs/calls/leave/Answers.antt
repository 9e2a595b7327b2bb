-- Why `leave` meets its clauses `turn` and `fits`, and it may call `leave` and `go_back`.
use Rattle.std.proofs.Common.{◌≡◌, length, take, drop, sym, ap, subst, ◌∙◌, arith}
use Rattle.lang_running.specs.Waiting.{waiting_in}
use Rattle.lang_running.specs.Fits.{CallersStand, CallersFit}
use Rattle.lang_running.specs.Runs.{within, callers_of}
use Rattle.lang_running.specs.Steps.{comes_back, left_by}
use Rattle.lang_running.proofs.Stack.{kept_below, kept_length}
use Rattle.lang_running.proofs.calls.leave.Goals as goal

pub leave-requires-clause-base : goal.leave-requires-clause-base
leave-requires-clause-base g c = c.requires.fits.begun

pub go_back-requires-clause-stand : goal.go_back-requires-clause-stand
go_back-requires-clause-stand g c =
    let r = c.args.run.now in
    let same = ap (waiting_in r.callers) (kept_below r.base r.words.items c.leave.new.words.items c.requires.fits.begun c.in_ok-callee.ensures.kept) in
    subst (CallersStand g.M.Machine.can_resume) (sym same) c.requires.fits.stand

pub go_back-requires-clause-begun : goal.go_back-requires-clause-begun
go_back-requires-clause-begun g c =
    omega (arith, c.requires.fits.begun, kept_length c.args.run.now.words.items c.leave.new.words.items c.in_ok-callee.ensures.kept)

pub go_back-requires-clause-apart : goal.go_back-requires-clause-apart
go_back-requires-clause-apart g c = c.requires.fits.apart

pub returns-in-Returns-clause-turn : goal.returns-in-Returns-clause-turn
returns-in-Returns-clause-turn g c = λ globals output.
    let r = c.args.run.now in
    let same : callers_of r ≡ waiting_in r.callers (take r.base c.leave.new.words.items) =
    ap (waiting_in r.callers) (sym (kept_below r.base r.words.items c.leave.new.words.items c.requires.fits.begun c.in_ok-callee.ensures.kept)) in
    c.in_ok-callee.ensures.step r.function c.requires.running.named globals (callers_of r) output c.requires.running.is c.requires.running.same
    ∙ ap (λ leaving. left_by g.M.Machine.state g.M.Machine.resumed r.function (within r globals).words (drop (length r.words.items) c.leave.new.words.items) leaving globals (callers_of r) output) c.in-Returns.is
    ∙ ap (λ cs. comes_back g.M.Machine.resumed cs c.in-Returns.value globals output) same ∙ c.go_back.ensures.turn globals output

pub returns-in-Returns-clause-fits : goal.returns-in-Returns-clause-fits
returns-in-Returns-clause-fits g c =
    let r = c.args.run.now in
    let same = ap (waiting_in r.callers) (kept_below r.base r.words.items c.leave.new.words.items c.requires.fits.begun c.in_ok-callee.ensures.kept) in
    c.go_back.ensures.fits c.args.functions.now (subst (CallersFit g.M.Machine.fits c.args.functions.now) (sym same) c.requires.fits.callers)
