-- Why `read_listed` meets its clauses `err` and `ok`.
use Rattle.std.proofs.Common.{◌≡◌, true, false, length, rules}
use Rattle.std.proofs.lemmas.Result.{err_from_is_err_and}
use Rattle.c_syntax.specs.declared.punctuator.Punctuator.TheVariants.{Comma}
use Rattle.c_reader_tokens.specs.Peeking.{is_sign_next}
use Rattle.c_reader_tokens.specs.Tokens.{sign}
use Rattle.c_reader_productions.specs.Combining.{◌▷◌, commas}
use Rattle.c_reader_statement_laws.proofs.Loops.{goes_on, stops, ends, is_done}
use Rattle.c_reader_statements.proofs.Trees.{mark_fails, behind_mark}
use Rattle.c_reader.proofs.Commas.{commas_fail}
use Rattle.c_reader_declaration_laws.specs.Reading.{open_parameter}
use Rattle.c_reader.proofs.parameters.read_listed.Goals as goal
use Rattle.c_reader.proofs.parameters.read_listed.Goals.{else-loop-test, then-loop-test+then-not-is_sign_next}

pub returns-in_err-first-clause-err : goal.returns-in_err-first-clause-err
returns-in_err-first-clause-err c =
    let p = err_from_is_err_and c.from_residual.result c.from_residual.ensures.1 in
    rw (p.1, p.2) (λ memory. commas_fail (open_parameter) c.args.tokens.now _ (c.in_err-first.ensures.err memory))

pub returns-in_err-behind-clause-err : goal.returns-in_err-behind-clause-err
returns-in_err-behind-clause-err c =
    let p = err_from_is_err_and c.from_residual-in_err-behind.result c.from_residual-in_err-behind.ensures.1 in
    let part = sign Comma ▷ open_parameter in
    let next : is_sign_next Comma c.loop.rest.now ≡ true = search rules in
    rw (p.1, p.2) (λ memory. stops (is_sign_next Comma) part (length c.in_ok-first.rest.now) (commas (open_parameter) c.args.tokens.now) c.in_err-behind.field-0.0 (c.loop.parameters.items) c.loop.counter c.loop.rest.now c.loop-test.true c.loop.invariant next
    (mark_fails (sign Comma) (open_parameter) c.loop.rest.now c.in_err-behind.field-0.0 c.in_err-behind.ensures.err))

pub returns-in_err-next-clause-err : goal.returns-in_err-next-clause-err
returns-in_err-next-clause-err c =
    let p = err_from_is_err_and c.from_residual-in_err-next.result c.from_residual-in_err-next.ensures.1 in
    let part = sign Comma ▷ open_parameter in
    let next : is_sign_next Comma c.loop.rest.now ≡ true = search rules in
    rw (p.1, p.2) (λ memory. stops (is_sign_next Comma) part (length c.in_ok-first.rest.now) (commas (open_parameter) c.args.tokens.now) c.in_err-next.field-0.0 (c.loop.parameters.items) c.loop.counter c.loop.rest.now c.loop-test.true c.loop.invariant next
    (behind_mark (sign Comma) (open_parameter) c.loop.rest.now c.in_ok-behind.behind.now _ c.in_ok-behind.ensures.ok (c.in_err-next.ensures.err memory)))

pub loop-preserved : goal.loop-preserved
loop-preserved c =
    let part = sign Comma ▷ open_parameter in
    let next : is_sign_next Comma c.loop.rest.now ≡ true = search rules in
    rw (c.in_ok-push-2.ensures.items)
    (goes_on (is_sign_next Comma) part (length c.in_ok-first.rest.now) (commas (open_parameter) c.args.tokens.now) (c.loop.parameters.items) c.loop.counter c.loop.rest.now (c.in_ok-next.next) c.in_ok-next.behind.now c.loop-test.true c.loop.invariant next
    (behind_mark (sign Comma) (open_parameter) c.loop.rest.now c.in_ok-behind.behind.now _ c.in_ok-behind.ensures.ok c.in_ok-next.ensures.ok))

pub returns-clause-ok : goal.returns-clause-ok
returns-clause-ok c =
    let part = sign Comma ▷ open_parameter in
    elim c.loop-test.branch [
      | else-loop-test w ↦ is_done (is_sign_next Comma) part (length c.in_ok-first.rest.now) (commas (open_parameter) c.args.tokens.now) (c.loop.parameters.items) c.loop.counter c.loop.rest.now w.loop-test.false c.loop.invariant
      | then-loop-test+then-not-is_sign_next w ↦
          let next : is_sign_next Comma c.loop.rest.now ≡ false = search rules in
          ends (is_sign_next Comma) part (length c.in_ok-first.rest.now) (commas (open_parameter) c.args.tokens.now) (c.loop.parameters.items) c.loop.counter c.loop.rest.now w.loop-test.true c.loop.invariant next
    ]
