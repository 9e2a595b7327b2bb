-- What a failed call is told as, and why.
use Rattle.std.specs.Prelude.{◌≢◌, ℕ, List}
use Rattle.durable_model.specs.declared.error.DiskError.{DiskError}
use Rattle.durable_model.specs.declared.error.DiskError.TheVariants as disk
use Rattle.acceptor_log_form.specs.declared.errors.LogError.{LogError}
use Rattle.acceptor_log_form.specs.declared.errors.LogError.TheVariants as log
use Rattle.acceptor_log_form.specs.declared.header.Header.{Header}
use Rattle.acceptor_log_form.specs.Fault.{HasFault}

-- what a failed call of the disk is told as
abbrev pub log_fault : DiskError → LogError
log_fault disk.Device = log.Device
log_fault disk.NoMemory = log.NoMemory

-- unless the device failed
abbrev pub UnlessDevice : Type 0 → LogError → Type 0
UnlessDevice P e = e ≢ log.Device → P

-- unless memory or the device failed, the bytes have that fault as the journal with this header
abbrev pub HasCauseIn : Header → List ℕ → LogError → Type 0
HasCauseIn h bytes e = e ≢ log.NoMemory → e ≢ log.Device → HasFault h bytes e
