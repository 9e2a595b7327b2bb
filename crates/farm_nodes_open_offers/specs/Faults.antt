-- Why what a journal's records say of offers is refused.
use Rattle.std.specs.Prelude.{◌≡◌, ◌≢◌}
use Rattle.farm_nodes_open_offers.specs.declared.fault.RecordFault.{RecordFault}
use Rattle.farm_nodes_open_offers.specs.declared.fault.RecordFault.TheVariants.{NoMemory, BadRecord, Refused}

-- memory was refused, or a record is bad, for this cause
abbrev pub IsBadRecord : Type 0 → RecordFault → Type 0
IsBadRecord Cause fault = fault ≢ NoMemory → (fault ≡ BadRecord) × Cause

-- memory was refused, or an offer is not accepted, for this cause
abbrev pub IsRefusal : Type 0 → RecordFault → Type 0
IsRefusal Cause fault = fault ≢ NoMemory → (fault ≡ Refused) × Cause
