-- Why `+statements` meets what its body asks for.
use Rattle.std.proofs.Common.{◌≡◌, true, false, length, map, rules}
use Rattle.std.proofs.lemmas.List.{map-append}
use Rattle.std.proofs.lemmas.Result.{err_from_is_err_and}
use Rattle.c_syntax.specs.declared.punctuator.Punctuator.TheVariants.{RightBrace}
use Rattle.c_syntax.specs.Views.{statement_tree}
use Rattle.c_reader_tokens.specs.Peeking.{is_sign_next}
use Rattle.c_reader_productions.specs.Combining.{each}
use Rattle.c_reader_statement_laws.specs.Reading as reading
use Rattle.c_reader_statement_laws.specs.Reading.{statement_at, items_in}
use Rattle.c_reader_statement_laws.proofs.Loops.{goes_on, stops, ends, is_done}
use Rattle.c_reader_statements.proofs.Trees.{goes_on-true, goes_on-false}
use Rattle.c_reader_statements.proofs.reading.+statements.Goals as goal
use Rattle.c_reader_statements.proofs.reading.+statements.Goals.{read_items-else-loop-test, read_items-then-loop-test+then-is_sign_next}

pub read_items-returns-in_err-statement-clause-err : goal.read_items-returns-in_err-statement-clause-err
unfolding items_in
read_items-returns-in_err-statement-clause-err t c =
    let p = err_from_is_err_and c.from_residual.result c.from_residual.ensures.1 in
    let next : is_sign_next RightBrace c.loop.rest.now ≡ false = search rules in
    rw (p.1, p.2) (λ memory. stops reading.goes_on (statement_at c.args.fuel true) (length c.args.tokens.now) (each reading.goes_on (statement_at c.args.fuel true) c.args.tokens.now) c.in_err-statement.field-0.0 (map statement_tree c.loop.statements.items) c.loop.counter c.loop.rest.now c.loop-test.true c.loop.invariant (goes_on-true c.loop.rest.now next) (c.in_err-statement.ensures.err memory))

pub read_items-loop-preserved : goal.read_items-loop-preserved
read_items-loop-preserved t c =
    let next : is_sign_next RightBrace c.loop.rest.now ≡ false = search rules in
    rw (c.in_ok-push.ensures.items, map-append)
    (goes_on reading.goes_on (statement_at c.args.fuel true) (length c.args.tokens.now) (each reading.goes_on (statement_at c.args.fuel true) c.args.tokens.now) (map statement_tree c.loop.statements.items) c.loop.counter c.loop.rest.now (statement_tree c.in_ok-statement.statement) c.in_ok-statement.behind.now c.loop-test.true c.loop.invariant (goes_on-true c.loop.rest.now next) c.in_ok-statement.ensures.ok)

pub read_items-returns-clause-ok : goal.read_items-returns-clause-ok
unfolding items_in
read_items-returns-clause-ok t c =
    elim c.loop-test.branch [
      | read_items-else-loop-test w ↦ is_done reading.goes_on (statement_at c.args.fuel true) (length c.args.tokens.now) (each reading.goes_on (statement_at c.args.fuel true) c.args.tokens.now) (map statement_tree c.loop.statements.items) c.loop.counter c.loop.rest.now w.loop-test.false c.loop.invariant
      | read_items-then-loop-test+then-is_sign_next w ↦
          let next : is_sign_next RightBrace c.loop.rest.now ≡ true = search rules in
          ends reading.goes_on (statement_at c.args.fuel true) (length c.args.tokens.now) (each reading.goes_on (statement_at c.args.fuel true) c.args.tokens.now) (map statement_tree c.loop.statements.items) c.loop.counter c.loop.rest.now w.loop-test.true c.loop.invariant (goes_on-false c.loop.rest.now next)
    ]
