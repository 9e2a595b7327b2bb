-- Why `places_are_listed` meets its contract.
use Rattle.c_faults_places.proofs.Counting.{counted}
use Rattle.c_faults_places.proofs.law.places_are_listed.Goals as goal

pub returns : goal.returns
returns c = counted
