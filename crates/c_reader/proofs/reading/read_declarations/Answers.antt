-- Why `read_declarations` meets its clauses `err` and `ok`.
use Rattle.std.proofs.Common.{◌≡◌, true, false, length, map, rules}
use Rattle.std.proofs.lemmas.List.{map-append}
use Rattle.c_syntax.specs.Heights.{highest}
use Rattle.c_syntax.specs.Views.{declaration_tree}
use Rattle.c_reader_statement_laws.proofs.Loops.{goes_on, stops, ends, is_done}
use Rattle.c_reader_declaration_laws.specs.Reading.{declaration, is_next_there, declarations}
use Rattle.c_reader.proofs.Telling.{tells_fault}
use Rattle.c_reader.proofs.reading.read_declarations.Goals as goal
use Rattle.c_reader.proofs.reading.read_declarations.Goals.{else-loop-test, then-loop-test+then-not-is_next_there}

pub returns-in-Err-clause-err : goal.returns-in-Err-clause-err
returns-in-Err-clause-err c =
    let next : is_next_there c.loop.rest.now ≡ true = search rules in
    rw c.told.ensures (tells_fault c.in-Err.misread.fault c.in-Err.misread.initial c.loop.rest.now c.args.end (declarations highest c.args.tokens.now)
    (λ memory. stops is_next_there (declaration highest) (length c.args.tokens.now) (declarations highest c.args.tokens.now) c.in-Err.misread.fault (map declaration_tree c.loop.read.items) c.loop.counter c.loop.rest.now c.loop-test.true c.loop.invariant next (c.in-Err.ensures.err memory)))

pub loop-preserved : goal.loop-preserved
loop-preserved c =
    let next : is_next_there c.loop.rest.now ≡ true = search rules in
    rw (c.in_ok-push-in-Ok.ensures.items, map-append)
    (goes_on is_next_there (declaration highest) (length c.args.tokens.now) (declarations highest c.args.tokens.now) (map declaration_tree c.loop.read.items) c.loop.counter c.loop.rest.now (declaration_tree c.in-Ok.declaration) c.in-Ok.behind.now c.loop-test.true c.loop.invariant next c.in-Ok.ensures.ok)

pub returns-clause-ok : goal.returns-clause-ok
returns-clause-ok c =
    elim c.loop-test.branch [
      | else-loop-test w ↦ is_done is_next_there (declaration highest) (length c.args.tokens.now) (declarations highest c.args.tokens.now) (map declaration_tree c.loop.read.items) c.loop.counter c.loop.rest.now w.loop-test.false c.loop.invariant
      | then-loop-test+then-not-is_next_there w ↦
          let next : is_next_there c.loop.rest.now ≡ false = search rules in
          ends is_next_there (declaration highest) (length c.args.tokens.now) (declarations highest c.args.tokens.now) (map declaration_tree c.loop.read.items) c.loop.counter c.loop.rest.now w.loop-test.true c.loop.invariant next
    ]
