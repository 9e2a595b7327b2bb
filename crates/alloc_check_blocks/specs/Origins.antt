-- Where words come from that moves carry, noted for each location that the moves write.
use Rattle.std.specs.Prelude.{◌≡◌, ℕ, ◌+◌, ◌*◌, List, Option, Some, None}
use Rattle.std.specs.Option.{unwrap_or}
use Rattle.std.specs.Ordering.{nat_cmp}
use Rattle.std.specs.BTreeMap.{BTreeMap, get}
use Rattle.locations.specs.declared.location.Location.{Location}
use Rattle.locations.specs.declared.location.Location.TheVariants.{InRegister, InSlot}
use Rattle.locations.specs.declared.location.Move.{Move}
use Rattle.alloc_check_rules.specs.Equations.{back}

-- a number for each location: even for registers, odd for slots
abbrev pub key : Location → ℕ
key (InRegister r) = r * 2
key (InSlot s) = s * 2 + 1

-- what is noted for a location, or else the location
abbrev pub origin : BTreeMap ℕ Location → Location → Location
origin sources l = unwrap_or (get nat_cmp sources (key l)) l

-- what is noted is found by going back through the moves
pub record AreOrigins (sources : BTreeMap ℕ Location) (ms : List Move) : Type 0 where
  pub each : (l : Location) → origin sources l ≡ back ms l
