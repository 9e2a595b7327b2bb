-- What the offers come to is the program, where functions and globals are the same.
use Rattle.std.proofs.Common.{◌≡◌, ◌<◌, length, rules, sym, ap, ◌∙◌, subst, arith}
use Rattle.lang_base.specs.Keeps.{Keeps}
use Rattle.rtl_language.specs.Meaning as rtl
use Rattle.linear_language.specs.Meaning as linear
use Rattle.linker.specs.Chains.{names_of}
use Rattle.bundle_reading.specs.Offered.{ends_of, linked_offers}
use Rattle.bundle_reading.specs.Read.{offers_in}
use Rattle.cfarm_verify_comparing.proofs.Compared.{other_below}
use Rattle.cfarm_verify_comparing.proofs.Ends.{ends_many}
use Rattle.cfarm_library_verify.proofs.linking.links_to.Goals as goal

pub first_other-requires-clause-many : goal.first_other-requires-clause-many
first_other-requires-clause-many c = c.requires.many ∙ ap length (sym c.as_slice-functions.ensures)

pub first_other-requires-clause-names : goal.first_other-requires-clause-names
first_other-requires-clause-names c = ap (λ fs. names_of fs) c.as_slice.ensures ∙ c.requires.same ∙ ap (λ fs. names_of fs) (sym c.as_slice-functions.ensures)

pub other_function-requires-clause-number : goal.other_function-requires-clause-number
other_function-requires-clause-number c =
    let functions = c.as_slice-functions.result.now in
    let fours = c.args.fours.now in
    let ends = ends_of functions (offers_in fours) in
    let below : c.in-Some.number < length ends = other_below ends c.as_slice.result.now c.in-Some.number c.in-Some.ensures in
    let many : length fours ≡ length functions = c.requires.many ∙ ap length (sym c.as_slice-functions.ensures) in
    omega (arith, below, ends_many functions fours many)

pub returns-clause-keeps : goal.returns-clause-keeps
returns-clause-keeps c =
    let begun = c.args.begun.now in
    let is : c.args.program.now ≡ linked_offers begun (offers_in c.args.fours.now) = search rules in
    subst (λ p. Keeps (rtl.run begun) (linear.run p)) (sym is) c.linked_keeps.ensures
