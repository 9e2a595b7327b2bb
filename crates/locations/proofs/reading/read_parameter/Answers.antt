-- Why `read_parameter` meets its contract.
use Rattle.std.proofs.Common.{◌≡◌, refl}
use Rattle.locations.specs.declared.location.Location.{Location}
use Rattle.locations.specs.declared.location.Location.TheVariants.{InRegister, InSlot}
use Rattle.locations.specs.contracts.location.LocationPartialEq.TheImpl as location_eq
use Rattle.locations.specs.Reading.{parameter, same_location}
use Rattle.locations.proofs.reading.read_parameter.Goals as goal

eq_is_same : (a b : Location) → (location_eq.ghosts).eq a b ≡ same_location a b
eq_is_same (InRegister r) (InRegister q) = refl
eq_is_same (InRegister r) (InSlot s) = refl
eq_is_same (InSlot s) (InRegister r) = refl
eq_is_same (InSlot s) (InSlot t) = refl

pub returns-then-contains : goal.returns-then-contains
unfolding parameter
returns-then-contains c =
    let among = c.contains.ensures.value in
    let same = simp eq_is_same at among in
    rw (c.in_ok-location.ensures, ← same, c.if-contains.true) refl

pub returns : goal.returns
unfolding parameter
returns c =
    let among = c.contains.ensures.value in
    let same = simp eq_is_same at among in
    rw (c.in_ok-location.ensures, ← same, c.if-contains.false) refl
