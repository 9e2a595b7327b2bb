-- All of the bytes are a bundle where one is read from them and nothing is left.
use Rattle.std.proofs.Common.{◌≡◌, ◌≢◌, [], arith}
use Rattle.std.proofs.lemmas.Bool.Decides.{nat_tests}
use Rattle.std.proofs.lemmas.List.{nil_from_length}
use Rattle.std.proofs.lemmas.Result.{err_from_is_err_and}
use Rattle.lang_base.proofs.Forms.{AreBytes}
use Rattle.bundle_form.proofs.Forms.{bundle_form}
use Rattle.bundle_form.proofs.Whole.{is_whole, has_behind, no_whole, whole_text, not_whole, none_whole}
use Rattle.bundle_form.proofs.reading.read.Goals as goal

pub returns-in_err-found-clause-refused : goal.returns-in_err-found-clause-refused
returns-in_err-found-clause-refused c =
    let p = err_from_is_err_and c.from_residual.result c.from_residual.ensures.1 in
    rw (p.1, p.2) (λ memory b fits. none_whole bundle_form c.args.bytes.now c.in_err-found.field-0.0 (c.in_err-found.ensures memory) b fits)

pub returns-in_err-found-clause-first : goal.returns-in_err-found-clause-first
returns-in_err-found-clause-first c =
    let p = err_from_is_err_and c.from_residual.result c.from_residual.ensures.1 in
    rw (p.1, p.2) (λ memory. no_whole bundle_form c.args.bytes.now c.in_err-found.field-0.0 (c.in_err-found.ensures memory))

pub returns-then-not-is_empty-clause-refused : goal.returns-then-not-is_empty-clause-refused
returns-then-not-is_empty-clause-refused c =
    let are : AreBytes c.args.bytes.now = λ i. c.are_bytes.ensures i in
    let some : c.read_bundle.new.bytes.now ≢ [] = λ none. grind (arith, nat_tests) in
    λ memory b fits. not_whole bundle_form c.args.bytes.now c.in_ok-found.found c.read_bundle.new.bytes.now are c.in_ok-found.ensures some b fits

pub returns-then-not-is_empty-clause-first : goal.returns-then-not-is_empty-clause-first
returns-then-not-is_empty-clause-first c =
    let some : c.read_bundle.new.bytes.now ≢ [] = λ none. grind (arith, nat_tests) in
    λ memory. has_behind bundle_form c.args.bytes.now c.in_ok-found.found c.read_bundle.new.bytes.now c.in_ok-found.ensures some

pub returns-clause-fits : goal.returns-clause-fits
returns-clause-fits c =
    let are : AreBytes c.args.bytes.now = λ i. c.are_bytes.ensures i in
    let none : c.read_bundle.new.bytes.now ≡ [] = nil_from_length _ (grind (arith, nat_tests)) in
    (whole_text bundle_form c.args.bytes.now c.in_ok-found.found c.read_bundle.new.bytes.now are c.in_ok-found.ensures none).1

pub returns-clause-spelled : goal.returns-clause-spelled
returns-clause-spelled c =
    let are : AreBytes c.args.bytes.now = λ i. c.are_bytes.ensures i in
    let none : c.read_bundle.new.bytes.now ≡ [] = nil_from_length _ (grind (arith, nat_tests)) in
    (whole_text bundle_form c.args.bytes.now c.in_ok-found.found c.read_bundle.new.bytes.now are c.in_ok-found.ensures none).0

pub returns-clause-first : goal.returns-clause-first
returns-clause-first c =
    let none : c.read_bundle.new.bytes.now ≡ [] = nil_from_length _ (grind (arith, nat_tests)) in
    is_whole bundle_form c.args.bytes.now c.in_ok-found.found c.read_bundle.new.bytes.now c.in_ok-found.ensures none
