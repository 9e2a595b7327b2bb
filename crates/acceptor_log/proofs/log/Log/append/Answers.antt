-- One record is a list of one.
use Rattle.std.proofs.Common.{◌≡◌, ◌≢◌, ℕ, List, [], ◌∷◌, ◌++◌, length, refl, sym, ap, ◌∙◌, subst, arith}
use Rattle.std.specs.Result.{OnOk}
use Rattle.acceptor_log_form.specs.declared.record.Record.{Record}
use Rattle.acceptor_log_writing.specs.OneOf.{Either}
use Rattle.acceptor_log_form.specs.Text.{blocks}
use Rattle.acceptor_log_writing.proofs.Either.{either-between}
use Rattle.acceptor_log.specs.Acknowledged.{acknowledged, text_with_all}
use Rattle.acceptor_log_writing.proofs.Crash.{length-one}
use Rattle.acceptor_log.proofs.Runs.{weaker}
use Rattle.acceptor_log.proofs.log.Log.append.Goals as goal

pub returns-clause-any_moment : goal.returns-clause-any_moment
returns-clause-any_moment g c honest going =
    let old = c.args.self.now in
    let rs = acknowledged g.D.Disk.seen old in
    let r = c.args.entry.now in
    weaker (c.append_all.ensures.any_moment honest going)
    (λ (b : List ℕ) either. either-between old.header rs (rs ++ r ∷ []) b (r ∷ [], refl)
    (subst (λ (l : List Record). Either old.header rs (rs ++ l) b) c.from_ref.ensures.value either))

pub returns-clause-added : goal.returns-clause-added
returns-clause-added g c honest going =
    let seen = g.D.Disk.seen in
    subst (λ (l : List Record). OnOk c.append_all.result (acknowledged seen c.append_all.new.self ≡ acknowledged seen c.args.self.now ++ l))
    c.from_ref.ensures.value (c.append_all.ensures.added honest going)

pub returns-clause-bytes : goal.returns-clause-bytes
returns-clause-bytes g c honest =
    let seen = g.D.Disk.seen in
    subst (λ (l : List Record). OnOk c.append_all.result (seen c.append_all.new.self.disk ≡ text_with_all seen c.args.self.now l))
    c.from_ref.ensures.value (c.append_all.ensures.bytes honest)

pub returns-clause-full : goal.returns-clause-full
returns-clause-full g c is =
    let r = c.args.entry.now in
    let over = c.append_all.ensures.full is in
    omega (arith, over, ap (λ (l : List Record). length (blocks l)) c.from_ref.ensures.value, length-one r)

pub returns-clause-too_long : goal.returns-clause-too_long
returns-clause-too_long g c going over =
    let r = c.args.entry.now in
    let some : c.from_ref.result.now ≢ [] = λ none. let bad = ap length (sym c.from_ref.ensures.value ∙ none) in omega (arith, bad) in
    c.append_all.ensures.too_long going some (omega (arith, over, ap (λ (l : List Record). length (blocks l)) c.from_ref.ensures.value, length-one r))
