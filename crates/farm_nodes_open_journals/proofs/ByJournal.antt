-- What is said by the journal that counts, from what is said of each.
use Rattle.std.proofs.Common.{◌≡◌, ◌≢◌, List, []}
use Rattle.durable_model.specs.Moments.{LeavesOnly}
use Rattle.durable_model.specs.declared.disk.Disk as disks
use Rattle.durable_pair.specs.declared.pair.Pair as pairs
use Rattle.acceptor_log_form.specs.declared.errors.LogError.{LogError}
use Rattle.acceptor_log_form.specs.declared.errors.LogError.TheVariants.{Device, NoMemory}
use Rattle.acceptor_log_form.specs.declared.header.Header.{Header}
use Rattle.acceptor_log_form.specs.declared.record.Record.{Record}
use Rattle.acceptor_log.specs.declared.log.Log.{Log}
use Rattle.acceptor_log_migrating.specs.Stands.{CanMigrate}
use Rattle.farm_nodes_open_old.specs.OnPairs.{HasNone, HasNew, HasOld, MayShow}
use Rattle.farm_nodes_open_journals.specs.WhichJournal.{WhichJournal, None, New, Old, CountsOn}
use Rattle.farm_nodes_open_journals.specs.Journals.{IsListed, IsMigrated, IsOpenedOver, LeavesRefused, MayStay, MayTurn}

module _ {P : Type 0} (disk : disks.Ghosts P) (pair : pairs.Ghosts P) (h : Header) (p : P) where
  pub opened_over : (log : Log P) (rs : List Record) → (HasNone disk pair p → rs ≡ []) → (HasNew disk pair p → IsListed disk pair h p log rs)
      → (HasOld disk pair p → IsMigrated disk pair h p log rs) → (what : WhichJournal) → CountsOn disk pair what p → IsOpenedOver disk pair h p log rs what
  opened_over log rs none new old None = none
  opened_over log rs none new old New = new
  opened_over log rs none new old Old = old

  pub leaves_refused : (back : P) (fault : LogError) → (HasNew disk pair p → LeavesOnly disk.moment disk.left_since p back (MayShow disk pair p))
      → (HasOld disk pair p → (old : List Record) → CanMigrate h old (pair.old_seen p) → LeavesOnly disk.moment pair.both_since p back (MayTurn disk pair h old p))
      → (HasOld disk pair p → fault ≢ NoMemory → fault ≢ Device → LeavesOnly disk.moment pair.both_since p back (MayStay disk pair p))
      → (what : WhichJournal) → CountsOn disk pair what p → LeavesRefused disk pair h p back fault what
  leaves_refused back fault new turning stays None is = tt
  leaves_refused back fault new turning stays New is = new is
  leaves_refused back fault new turning stays Old is = (turning is, stays is)
