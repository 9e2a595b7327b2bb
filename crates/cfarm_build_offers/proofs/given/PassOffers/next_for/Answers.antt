use Rattle.std.proofs.Common.{◌≡◌, length, slice_get, Some, refl, sym, ap, ◌∙◌}
use Rattle.std.proofs.lemmas.Option.{slice_get_read}
use Rattle.cfarm_build_offers.proofs.Proposed.{named_there, of_function}
use Rattle.cfarm_build_offers.proofs.given.PassOffers.next_for.Goals as goal

-- what is lent is the file that stands where it was found
pub returns : goal.returns
returns g c =
    let xs = c.args.self.now.given.items in
    let stands : slice_get xs c.in-Some.place ≡ Some c.in-Some-get_mut.given.now =
    slice_get_read xs c.args.self.now.given.len c.in-Some.place c.in-Some-get_mut.given.now
    (sym c.deref.ensures.len ∙ ap length c.deref.ensures.value) (c.in-Some-get_mut.ensures.variant.0 refl) c.in-Some-get_mut.ensures.value in
    of_function xs c.in-Some.place c.args.number c.in-Some-get_mut.given.now c.args.input.now c.taken.result stands
    (named_there c.deref.result.now xs c.in-Some.place c.args.number c.in-Some-get_mut.given.now c.deref.ensures.value stands c.in-Some.ensures) c.taken.ensures.parts
