-- Derived equalities tell values apart exactly.
use Rattle.std.proofs.Common.{ap}
use Rattle.std.proofs.lemmas.Bool.{eqb-true, and_parts, false≢true}
use Rattle.locations.specs.declared.location.Location.TheVariants.{InRegister, InSlot}
use Rattle.locations.specs.contracts.location.LocationPartialEq.TheImpl as location_eq
use Rattle.locations.specs.contracts.location.MovePartialEq.TheImpl as move_eq
pub use Rattle.lang_helpers.proofs.Equal.{Tells, tells_decides}

pub location_tells : Tells (location_eq.ghosts).eq
location_tells (InRegister r) (InRegister q) e = ap (λ n. InRegister n) (eqb-true r q e)
location_tells (InRegister r) (InSlot s) e = absurd (false≢true e)
location_tells (InSlot s) (InRegister r) e = absurd (false≢true e)
location_tells (InSlot s) (InSlot t) e = ap (λ n. InSlot n) (eqb-true s t e)

pub move_tells : Tells (move_eq.ghosts).eq
move_tells a b e =
    let p = and_parts ((location_eq.ghosts).eq a.target b.target) ((location_eq.ghosts).eq a.source b.source) e in
    λ i. record { target = location_tells a.target b.target p.0 i; source = location_tells a.source b.source p.1 i }
