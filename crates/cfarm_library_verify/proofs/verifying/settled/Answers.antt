-- What is found of the source is said of the text.
use Rattle.std.proofs.Common.{◌≡◌, [], length, sym, ◌∙◌, subst, arith}
use Rattle.std.proofs.lemmas.List.{length-map}
use Rattle.lang.specs.Form.{IsProgram}
use Rattle.lang_base.specs.Keeps.{Keeps}
use Rattle.c_program.specs.Meaning.{crun}
use Rattle.c_checker_rules.specs.Checked.{program_tree}
use Rattle.rtl_language.specs.Function.{IsFunction}
use Rattle.rtl_language.specs.Meaning as rtl
use Rattle.bundle_reading.specs.Read.{offers_in, offers_of}
use Rattle.cfarm_verify.proofs.Exact.{unchecked_wants}
use Rattle.cfarm_verify.proofs.Named.{are_names}
use Rattle.cfarm_verify.proofs.Small.{small_functions}
use Rattle.cfarm_verify.proofs.Verified.{unverified_by, verified_by}
use Rattle.cfarm_library_verify.proofs.verifying.settled.Goals as goal

pub checked-requires : goal.checked-requires
checked-requires c =
    let fits = subst (λ p. IsProgram IsFunction p) (sym c.deref.ensures) c.requires.source.fits in
    record { names = are_names IsFunction [] c.deref.result.now.functions fits.functions }

pub returns-in-Ok-clause-verified : goal.returns-in-Ok-clause-verified
returns-in-Ok-clause-verified c =
    let source = c.requires.source in
    let is = source.accepted in
    let tree = program_tree c.args.source.now.program in
    let fours = c.args.fours.now in
    let count : length fours ≡ length (offers_in fours) = omega (arith, length-map fours offers_of) in
    let made = c.deref.ensures ∙ source.translated in
    let fits = subst (λ p. IsProgram IsFunction p) (sym c.deref.ensures) source.fits in
    let first = subst (λ b. Keeps (crun tree) (rtl.run b)) (sym c.deref.ensures) source.keeps in
    verified_by c.args.text.now c.args.program.now c.args.bundle.now is.0 is.1 tree is.2 c.deref.result.now made
    (small_functions tree is.0 is.2 c.deref.result.now made fits) c.args.linear.now
    c.requires.spelled c.args.digest.now (offers_in fours) c.requires.bundled c.as_slice-hash.result.now (c.as_slice-hash.ensures ∙ source.digest) c.args.digest.now
    (λ i. c.args.digest.now) (length fours) count c.in-Ok.ensures.checked (c.keeps_composes.ensures _ _ _ first c.in-Ok.ensures.keeps)

pub returns-in-Err-clause-refused : goal.returns-in-Err-clause-refused
returns-in-Err-clause-refused c =
    let source = c.requires.source in
    let is = source.accepted in
    let tree = program_tree c.args.source.now.program in
    let made = c.deref.ensures ∙ source.translated in
    let fits = subst (λ p. IsProgram IsFunction p) (sym c.deref.ensures) source.fits in
    unverified_by c.args.text.now c.args.program.now c.args.bundle.now is.0 is.1 tree is.2 c.deref.result.now made
    (small_functions tree is.0 is.2 c.deref.result.now made fits) c.args.linear.now c.requires.spelled c.args.digest.now (offers_in c.args.fours.now) c.requires.bundled c.as_slice-hash.result.now (c.as_slice-hash.ensures ∙ source.digest)
    c.args.digest.now (λ i. c.args.digest.now) c.in-Err.fault c.in-Err.ensures.refused

pub returns-in-Err-clause-only : goal.returns-in-Err-clause-only
returns-in-Err-clause-only c = λ n is.
    let source = c.requires.source in
    unchecked_wants c.args.text.now c.args.program.now c.args.bundle.now n is (program_tree c.args.source.now.program) (source.only is.tree is.accepted) c.deref.result.now
    (c.deref.ensures ∙ source.translated) c.one_program.ensures c.args.linear.now c.requires.spelled c.one_bundle.ensures c.args.digest.now (offers_in c.args.fours.now)
    c.requires.bundled c.as_slice-hash.result.now (c.as_slice-hash.ensures ∙ source.digest) c.args.digest.now (λ i. c.args.digest.now) c.in-Err.fault c.in-Err.ensures.refused
