-- A fault of a text has no number but whole ones.
use Rattle.std.proofs.Common.{◌≡◌, ◌||◌, false, Option, None, Some, refl, ap}
use Rattle.serde_json.specs.Written.{has_float}
use Rattle.c_places.specs.declared.place.Place.{Place}
use Rattle.cfarm_program_runs.specs.Objects.{declared_data, fault_data}
use Rattle.cfarm_program_runs.specs.declared.objects.Refusal.{Refusal}

declared_whole : (declared : Option Place) → has_float (declared_data declared) ≡ false
declared_whole None = refl
declared_whole (Some place) = refl

pub fault_whole : (told : Refusal) → has_float (fault_data told) ≡ false
fault_whole told = ap (λ whole. whole || false) (declared_whole told.declared)
