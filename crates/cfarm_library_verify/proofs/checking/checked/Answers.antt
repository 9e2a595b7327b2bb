-- What is told of the parts is told of the whole.
use Rattle.std.proofs.Common.{◌≡◌, length, refl, sym, ap, ◌∙◌, subst, arith}
use Rattle.std.proofs.lemmas.List.{length-map}
use Rattle.linker.specs.Chains.{names_of}
use Rattle.bundle_reading.specs.Read.{offers_in, offers_of}
use Rattle.bundle_offers.specs.Standing.{AllStand}
use Rattle.cfarm_verify.specs.Checked.{IsFaulty}
use Rattle.cfarm_verify.proofs.Told.{faulty_unchecked, of_text, other_unchecked}
use Rattle.cfarm_library_verify.proofs.checking.checked.Goals as goal

pub returns-then-fours-len-clause-refused : goal.returns-then-fours-len-clause-refused
returns-then-fours-len-clause-refused c =
    let text = c.if-not-is_digest.ensures.0 refl in
    let names = ap (λ l. names_of l) (sym c.as_slice-2.ensures) ∙ c.if-not-same_names.ensures.0 refl ∙ ap (λ l. names_of l) c.as_slice.ensures in
    (text, names, λ e. omega (arith, e, length-map c.args.fours.now offers_of, c.len.ensures, c.if-fours-len.true))

pub returns-in-Err-clause-refused : goal.returns-in-Err-clause-refused
returns-in-Err-clause-refused c =
    let offers = offers_in c.args.fours.now in
    let many : length c.args.fours.now ≡ length c.args.begun.now.functions = omega (arith, c.len.ensures, c.if-fours-len.false) in
    let are =
    of_text c.args.hash.now c.args.begun.now c.args.program.now c.args.digest.now c.args.fours.now c.as_slice.result.now c.as_slice-2.result.now c.as_slice.ensures c.as_slice-2.ensures
    (c.if-not-is_digest.ensures.0 refl) (c.if-not-same_names.ensures.0 refl) many in
    let told =
    subst (λ fs. IsFaulty fs offers c.in-Err.fault) c.as_slice-3.ensures c.in-Err.ensures.refused in
    faulty_unchecked c.args.hash.now c.args.begun.now c.args.program.now c.args.digest.now offers are c.in-Err.fault told

pub links_to-requires-clause-many : goal.links_to-requires-clause-many
links_to-requires-clause-many c = omega (arith, c.len.ensures, c.if-fours-len.false)

pub returns-in-Ok-links_to-clause-checked : goal.returns-in-Ok-links_to-clause-checked
returns-in-Ok-links_to-clause-checked c =
    let offers = offers_in c.args.fours.now in
    let many : length c.args.fours.now ≡ length c.args.begun.now.functions = omega (arith, c.len.ensures, c.if-fours-len.false) in
    let are =
    of_text c.args.hash.now c.args.begun.now c.args.program.now c.args.digest.now c.args.fours.now c.as_slice.result.now c.as_slice-2.result.now c.as_slice.ensures c.as_slice-2.ensures
    (c.if-not-is_digest.ensures.0 refl) (c.if-not-same_names.ensures.0 refl) many in
    let stand = subst (λ fs. AllStand fs offers) c.as_slice-3.ensures c.in-Ok.ensures.stand in
    record { of_text = are; stand = stand; is = c.in-Ok-links_to.ensures.is }

pub returns-in-Err-links_to-clause-refused : goal.returns-in-Err-links_to-clause-refused
returns-in-Err-links_to-clause-refused c =
    let offers = offers_in c.args.fours.now in
    let many : length c.args.fours.now ≡ length c.args.begun.now.functions = omega (arith, c.len.ensures, c.if-fours-len.false) in
    let are =
    of_text c.args.hash.now c.args.begun.now c.args.program.now c.args.digest.now c.args.fours.now c.as_slice.result.now c.as_slice-2.result.now c.as_slice.ensures c.as_slice-2.ensures
    (c.if-not-is_digest.ensures.0 refl) (c.if-not-same_names.ensures.0 refl) many in
    let stand = subst (λ fs. AllStand fs offers) c.as_slice-3.ensures c.in-Ok.ensures.stand in
    other_unchecked c.args.hash.now c.args.begun.now c.args.program.now c.args.digest.now offers are c.in-Err-links_to.fault stand c.in-Err-links_to.ensures.refused
