-- What each call leaves of the journal, whatever its disk does.
use Rattle.std.specs.Prelude.{◌≡◌, ◌≤◌, ◌↔◌}
use Rattle.durable_model.specs.declared.disk.Disk as disks
use Rattle.acceptor_log.specs.declared.log.Log.{Log}
use Rattle.acceptor_log.specs.Acknowledged.{IsSound}

pub record IsServed {D : Type 0} (disk : disks.Ghosts D) (old new : Log D) : Type 0 where
  pub sound : IsSound disk new
  pub honest : disk.is_honest new.disk ↔ disk.is_honest old.disk
  pub header : new.header ≡ old.header
  pub later : disk.faults old.disk ≤ disk.faults new.disk
