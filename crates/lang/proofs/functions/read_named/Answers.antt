-- Why `read_named` meets its contract.
use Rattle.std.proofs.Common.{sym, ◌∙◌}
use Rattle.std.proofs.lemmas.Result.{err_from_is_err_and}
use Rattle.lang_base.proofs.Forms.{AreBytes}
use Rattle.lang.proofs.Forms.{name_form}
use Rattle.lang.proofs.NamedRows.{no_name, taken, no_function, named_front, not_taken, is_among, behind_front}
use Rattle.lang.proofs.functions.read_named.Goals as goal

pub returns-in_err-name : goal.returns-in_err-name
returns-in_err-name g c =
    let p = err_from_is_err_and c.from_residual.result c.from_residual.ensures.1 in
    rw (p.1, p.2) (λ memory. no_name g.L.Language.spelling g.L.Language.fits c.args.bytes.now.now c.in_err-name.field-0.0 c.args.before.now (c.in_err-name.ensures memory))

pub returns-then-is_taken : goal.returns-then-is_taken
returns-then-is_taken g c =
    let are : AreBytes c.args.bytes.now.now = λ i. c.are_bytes.ensures i in
    let t = name_form.takes c.args.bytes.now.now c.in_ok-name.name.items c.read_name.new.bytes.now are c.in_ok-name.ensures in
    let is = rw c.deref.ensures.value at c.is_taken.ensures in
    λ memory. taken g.L.Language.spelling g.L.Language.fits c.in_ok-name.name.items c.args.bytes.now.now c.read_name.new.bytes.now c.args.before.now t.fits t.parts (is_among c.in_ok-name.name.items c.args.before.now (sym is ∙ c.if-is_taken.true))

pub returns-in_err-function : goal.returns-in_err-function
returns-in_err-function g c =
    let are : AreBytes c.args.bytes.now.now = λ i. c.are_bytes.ensures i in
    let t = name_form.takes c.args.bytes.now.now c.in_ok-name.name.items c.read_name.new.bytes.now are c.in_ok-name.ensures in
    let p = err_from_is_err_and c.from_residual-in_err-function.result c.from_residual-in_err-function.ensures.1 in
    rw (p.1, p.2) (λ memory. no_function g.L.Language.spelling g.L.Language.fits c.in_ok-name.name.items c.args.bytes.now.now c.read_name.new.bytes.now c.args.before.now t.fits t.parts (c.in_err-function.ensures.refused memory))

pub returns : goal.returns
returns g c =
    let are : AreBytes c.args.bytes.now.now = λ i. c.are_bytes.ensures i in
    let t = name_form.takes c.args.bytes.now.now c.in_ok-name.name.items c.read_name.new.bytes.now are c.in_ok-name.ensures in
    let is = rw c.deref.ensures.value at c.is_taken.ensures in
    rw c.from_vec.ensures (named_front g.L.Language.spelling g.L.Language.fits c.in_ok-name.name.items c.args.bytes.now.now c.read_name.new.bytes.now c.args.before.now c.in_ok-function.function _ t.fits t.parts (not_taken c.in_ok-name.name.items c.args.before.now (sym is ∙ c.if-is_taken.false)) c.in_ok-function.ensures.fits (behind_front c.read_name.new.bytes.now _ c.in_ok-function.length c.in_ok-function.ensures.front))
