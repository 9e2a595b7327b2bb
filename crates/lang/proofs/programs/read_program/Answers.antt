-- Why `read_program` meets its clauses `refused`, `fits` and `front`.
use Rattle.std.proofs.Common.{sym, ◌∙◌, arith}
use Rattle.std.proofs.lemmas.Result.{err_from_is_err_and}
use Rattle.lang_base.proofs.Forms.{AreBytes}
use Rattle.lang.proofs.Forms.{head_form}
use Rattle.lang.proofs.Whole.{whole, whole_text, no_head, no_functions, no_main, front_of}
use Rattle.lang.proofs.programs.read_program.Goals as goal

pub returns-in_err-globals-clause-refused : goal.returns-in_err-globals-clause-refused
returns-in_err-globals-clause-refused g c =
    let p = err_from_is_err_and c.from_residual.result c.from_residual.ensures.1 in
    rw (p.1, p.2) (λ memory. no_head g.L.Language.TAG g.L.Language.spelling g.L.Language.fits c.args.bytes.now c.in_err-globals.field-0.0 (rw (← c.TAG.ensures) (c.in_err-globals.ensures memory)))

pub returns-in_err-functions-clause-refused : goal.returns-in_err-functions-clause-refused
returns-in_err-functions-clause-refused g c =
    let are : AreBytes c.args.bytes.now = λ i. omega (arith, c.type_inv.bytes i) in
    let t = (head_form g.L.Language.TAG).takes c.args.bytes.now (c.in_ok-globals.globals, c.in_ok-globals.count) c.read_head.new.bytes.now are (rw (← c.TAG.ensures) c.in_ok-globals.ensures) in
    let p = err_from_is_err_and c.from_residual-in_err-functions.result c.from_residual-in_err-functions.ensures.1 in
    rw (p.1, p.2) (λ memory. no_functions g.L.Language.TAG g.L.Language.spelling g.L.Language.fits c.in_ok-globals.globals c.in_ok-globals.count c.args.bytes.now c.read_head.new.bytes.now t.fits t.parts (c.in_err-functions.ensures memory))

pub returns-then-not-is_taken-clause-refused : goal.returns-then-not-is_taken-clause-refused
returns-then-not-is_taken-clause-refused g c =
    let are : AreBytes c.args.bytes.now = λ i. omega (arith, c.type_inv.bytes i) in
    let t = (head_form g.L.Language.TAG).takes c.args.bytes.now (c.in_ok-globals.globals, c.in_ok-globals.count) c.read_head.new.bytes.now are (rw (← c.TAG.ensures) c.in_ok-globals.ensures) in
    let is = rw (c.as_slice.ensures, c.as_slice-main.ensures) at c.is_taken.ensures in
    let none = sym is ∙ c.if-not-is_taken.true in
    λ memory. no_main g.L.Language.TAG g.L.Language.spelling g.L.Language.fits g.met.L.Language.one_spelling c.in_ok-globals.globals c.in_ok-functions.functions c.in_ok-globals.count c.args.bytes.now c.read_head.new.bytes.now c.read_functions.new.bytes.now t.fits c.in_ok-functions.ensures.1 t.parts c.in_ok-functions.ensures.0 none

pub overflow_sub-result : goal.overflow_sub-result
overflow_sub-result g c =
    let are : AreBytes c.args.bytes.now = λ i. omega (arith, c.type_inv.bytes i) in
    let t = (head_form g.L.Language.TAG).takes c.args.bytes.now (c.in_ok-globals.globals, c.in_ok-globals.count) c.read_head.new.bytes.now are (rw (← c.TAG.ensures) c.in_ok-globals.ensures) in
    (front_of g.L.Language.TAG g.L.Language.spelling g.L.Language.fits _ c.args.bytes.now c.read_functions.new.bytes.now (whole_text g.L.Language.TAG g.L.Language.spelling g.L.Language.fits c.in_ok-globals.globals c.in_ok-functions.functions c.in_ok-globals.count c.args.bytes.now c.read_head.new.bytes.now c.read_functions.new.bytes.now c.in_ok-functions.ensures.1.0 t.parts c.in_ok-functions.ensures.0)).0

pub returns-clause-fits : goal.returns-clause-fits
returns-clause-fits g c =
    let are : AreBytes c.args.bytes.now = λ i. omega (arith, c.type_inv.bytes i) in
    let t = (head_form g.L.Language.TAG).takes c.args.bytes.now (c.in_ok-globals.globals, c.in_ok-globals.count) c.read_head.new.bytes.now are (rw (← c.TAG.ensures) c.in_ok-globals.ensures) in
    let is = rw (c.as_slice.ensures, c.as_slice-main.ensures) at c.is_taken.ensures in
    let main = sym is ∙ c.if-not-is_taken.false in
    whole g.L.Language.TAG g.L.Language.spelling g.L.Language.fits c.in_ok-globals.globals c.in_ok-functions.functions c.in_ok-globals.count t.fits c.in_ok-functions.ensures.1 main

pub returns-clause-front : goal.returns-clause-front
returns-clause-front g c =
    let are : AreBytes c.args.bytes.now = λ i. omega (arith, c.type_inv.bytes i) in
    let t = (head_form g.L.Language.TAG).takes c.args.bytes.now (c.in_ok-globals.globals, c.in_ok-globals.count) c.read_head.new.bytes.now are (rw (← c.TAG.ensures) c.in_ok-globals.ensures) in
    (front_of g.L.Language.TAG g.L.Language.spelling g.L.Language.fits _ c.args.bytes.now c.read_functions.new.bytes.now (whole_text g.L.Language.TAG g.L.Language.spelling g.L.Language.fits c.in_ok-globals.globals c.in_ok-functions.functions c.in_ok-globals.count c.args.bytes.now c.read_head.new.bytes.now c.read_functions.new.bytes.now c.in_ok-functions.ensures.1.0 t.parts c.in_ok-functions.ensures.0)).1
