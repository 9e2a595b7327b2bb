-- Why `are_same` meets its contract.
use Rattle.std.proofs.lemmas.Slice.Eq.{slice_eq-Decides}
use Rattle.linearize_check_layout.proofs.Equal.{tells_decides, location_tells}
use Rattle.linearize_check_layout.specs.LocationEq.TheImpl.Laws as location_laws
use Rattle.linearize_check.proofs.verdict.are_same.Goals as goal

pub returns : goal.returns
returns c = slice_eq-Decides (tells_decides location_laws.laws-law location_tells) _ _ _ c.eq.ensures
