-- What an opening says once the old disk was read, and the journal's own call behind that.
use Rattle.std.proofs.Common.{◌≡◌, ◌≢◌, ◌⊎◌, inl, inr, ⊎_elim, ℕ, ◌≤◌, List, [], ◌∷◌, true, refl, sym, ap, ◌∙◌, subst, arith}
use Rattle.std.specs.Prelude.{◌↔◌, get_or}
use Rattle.durable_model.specs.Honest.{Only, Risen, Unchanged}
use Rattle.durable_model.specs.Moments.{LeavesOnly, composed}
use Rattle.durable_model_writes.specs.Writes.{overwritten}
use Rattle.durable_model.specs.declared.disk.Disk as disks
use Rattle.durable_pair.specs.declared.pair.Pair as pairs
use Rattle.durable_pair.specs.Images.{Images, IsSpent, Shows, Both}
use Rattle.acceptor_log_form.specs.Fault.{HasFault}
use Rattle.acceptor_log_form.specs.Text.{StandsFor}
use Rattle.acceptor_log_form.specs.declared.errors.LogError.{LogError}
use Rattle.acceptor_log_form.specs.declared.errors.LogError.TheVariants.{Device, NoMemory}
use Rattle.acceptor_log_form.specs.declared.header.Header.{Header}
use Rattle.acceptor_log_form.specs.declared.record.Record.{Record}
use Rattle.acceptor_log.specs.Acknowledged.{acknowledged, IsSound}
use Rattle.acceptor_log.specs.declared.log.Log.{Log}
use Rattle.acceptor_log_old.specs.Migrated.{migrated}
use Rattle.acceptor_log_migrating.specs.Stands.{CanMigrate, IsMigrating, IsNotMigrated}
use Rattle.acceptor_log_migrating.specs.Moving.{RefusalKeepsOld}
use Rattle.farm_nodes_open_old.specs.OnPairs.{HasNone, HasNew, MayShow, IsSame, IsUntouched}
use Rattle.farm_nodes_open_journals.specs.WhichJournal.{New, Old}
use Rattle.farm_nodes_open_journals.specs.Journals.{MayStay, MayTurn, IsOpened, IsRefused, IsListed, WasMigrated}
use Rattle.farm_nodes_open_old.proofs.Shows.{shows_first, shows_then}
use Rattle.farm_nodes_open_journals.proofs.ByJournal.{leaves_refused, opened_over}

module _ {P : Type 0} (disk : disks.Ghosts P) (pair : pairs.Ghosts P) where
  module _ (p m : P) (first : LeavesOnly disk.moment pair.both_since p m (Both pair.new_may pair.old_may p)) (h : Header) (old : List Record) where
    pub turns_first : LeavesOnly disk.moment pair.both_since p m (MayTurn disk pair h old p)
    turns_first = record {
      later = first.later;
      each = λ im left. inl (first.each im left);
      before = λ t im le left. ⊎_elim (λ past. inl past) (λ both. inr (inl both)) (first.before t im le left);
    }

    pub turns_then : (n : P) → LeavesOnly disk.moment pair.both_since m n (IsMigrating h old (pair.old_seen m)) → pair.old_seen m ≡ pair.old_seen p
        → LeavesOnly disk.moment pair.both_since p n (MayTurn disk pair h old p)
    turns_then n second same =
        composed disk.moment pair.both_since p m n (Both pair.new_may pair.old_may p) (IsMigrating h old (pair.old_seen m)) (MayTurn disk pair h old p) first second
        (λ im both. inl both) (λ im is. inr (subst (λ (bytes : List ℕ). IsMigrating h old bytes im) same is))

  module _ (p m : P) (first : LeavesOnly disk.moment pair.both_since p m (Both pair.new_may pair.old_may p)) where
    pub stays_then : (n : P) → LeavesOnly disk.moment pair.both_since m n (λ im. im.1 ≡ pair.old_seen m) → pair.old_seen m ≡ pair.old_seen p
        → LeavesOnly disk.moment pair.both_since p n (MayStay disk pair p)
    stays_then n second same =
        composed disk.moment pair.both_since p m n (Both pair.new_may pair.old_may p) (λ im. im.1 ≡ pair.old_seen m) (MayStay disk pair p) first second
        (λ im both. inl both) (λ im is. inr (is ∙ same))

  risen_from : (a b c : ℕ) → b ≡ a → Risen b c → Risen a c
  risen_from a b c same risen = subst (λ (n : ℕ). Risen n c) same risen

  -- the old disk was not read
  module _ (h : Header) (p m : P) (fault : LogError) (whole : pair.is_whole m ↔ pair.is_whole p) (same : pair.is_whole p → IsSame disk pair p m)
      (shown : (p : P) (t : ℕ) (im : Images) (c : List ℕ) → pair.both_since p t im → Shows im c → disk.left_since p t c)
      (of_both : (p : P) (t : ℕ) (c : List ℕ) → disk.left_since p t c → (im : Images) × pair.both_since p t im × Shows im c)
      (first : pair.is_whole p → LeavesOnly disk.moment pair.both_since p m (Both pair.new_may pair.old_may p)) where
    untouched : pair.is_whole p → IsUntouched disk pair p m
    untouched is = record {
      new_same = (same is).new_same;
      old_same = λ counts. (same is).old_same;
      spent = λ spent. subst IsSpent (sym (same is).old_same) spent;
    }

    pub unread : (fault ≢ Device → fault ≡ NoMemory) → (fault ≡ Device → Risen (disk.faults p) (disk.faults m)) → (fault ≢ Device → disk.faults m ≡ disk.faults p)
        → IsRefused disk pair h p m fault
    unread only failed unfailed = record {
      whole = λ is. whole.1 is;
      refused = λ is memory device. absurd (memory (only device));
      unwritten = λ is device. inl (untouched is);
      any_moment = λ is. leaves_refused disk pair h p m fault (λ new. shows_first disk pair shown of_both p m (first is)) (λ counts old can. turns_first p m (first is) h old)
          (λ counts memory device. absurd (memory (only device)));
      failed = failed;
      unfailed = unfailed;
    }

  -- the old disk counts no more, and the journal is that on the new disk
  module _ (h : Header) (p m : P) (whole : pair.is_whole m ↔ pair.is_whole p) (same : pair.is_whole p → IsSame disk pair p m)
      (shown : (p : P) (t : ℕ) (im : Images) (c : List ℕ) → pair.both_since p t im → Shows im c → disk.left_since p t c)
      (of_both : (p : P) (t : ℕ) (c : List ℕ) → disk.left_since p t c → (im : Images) × pair.both_since p t im × Shows im c)
      (honest_whole : (p : P) → disk.is_honest p → pair.is_whole p)
      (honest_spent : (p : P) (d : List ℕ) → disk.is_honest p → pair.old_may p d → IsSpent d)
      (only_new : (p : P) (c : List ℕ) → disk.is_honest p → disk.may_leave p c → pair.new_may p c)
      (both_as_seen : (p : P) → pair.is_whole p → Both pair.new_may pair.old_may p (disk.seen p, pair.old_seen p))
      (first : pair.is_whole p → LeavesOnly disk.moment pair.both_since p m (Both pair.new_may pair.old_may p))
      (honest : pair.is_whole p → disk.is_honest m) (spent : pair.is_whole p → IsSpent (pair.old_seen p)) (faults : disk.faults m ≡ disk.faults p) (X : Type 0) (has : pair.is_whole p → HasNew disk pair p → X) where
    pub new_left : pair.is_whole p → (c : List ℕ) → disk.may_leave m c → pair.new_may p c
    new_left is c left = (same is).new_left c (only_new m c (honest is) left)

    shows : pair.is_whole p → (c : List ℕ) → disk.may_leave m c → MayShow disk pair p c
    shows is c left = ((c, pair.old_seen p), (new_left is c left, (both_as_seen p is).1), inl (spent is, refl))

    pub moments : (n : P) → (disk.is_honest m → X → LeavesOnly disk.moment disk.left_since m n (disk.may_leave m)) → pair.is_whole p → HasNew disk pair p
        → LeavesOnly disk.moment disk.left_since p n (MayShow disk pair p)
    moments n second is new = shows_then disk pair shown of_both p m (first is) n (second (honest is) (has is new)) (shows is)

    module _ (log : Log P) (rs : List Record) where
      listed : (disk.is_honest m → X → StandsFor h rs (disk.seen m)) → (disk.is_honest m → X → Unchanged disk.seen disk.may_leave m log.disk)
          → (disk.is_honest m → X → LeavesOnly disk.moment disk.left_since m log.disk (disk.may_leave m)) → pair.is_whole p → HasNew disk pair p → IsListed disk pair h p log rs
      listed stands unchanged second is new =
          let un = unchanged (honest is) (has is new) in
          record {
            stands = subst (λ (bytes : List ℕ). StandsFor h rs bytes) (same is).new_same (stands (honest is) (has is new));
            shown = record { same = un.same ∙ (same is).new_same; nothing_new = λ c left. new_left is c (un.nothing_new c left) };
            any_moment = moments log.disk second is new;
          }

      pub opened_new : IsSound disk log → (log.going ≡ true) × (log.header ≡ h) → (disk.is_honest log.disk ↔ disk.is_honest m)
          → (disk.is_honest m → acknowledged disk.seen log ≡ rs) → (pair.is_whole p → HasNone disk pair p → rs ≡ []) → (disk.is_honest m → X → StandsFor h rs (disk.seen m))
          → (disk.is_honest m → X → Unchanged disk.seen disk.may_leave m log.disk) → (disk.is_honest m → X → LeavesOnly disk.moment disk.left_since m log.disk (disk.may_leave m))
          → disk.faults log.disk ≡ disk.faults m → IsOpened disk pair h p log rs
      opened_new sound ok as_honest acknowledged_are begun stands unchanged second unfailed = record {
        sound = sound;
        going = ok.0;
        header_is = ok.1;
        honest = (λ now. whole.0 (honest_whole m (as_honest.0 now)), λ is. as_honest.1 (honest is));
        acknowledged_are = λ is. acknowledged_are (honest is);
        over = λ is. opened_over disk pair h p log rs (begun is) (λ new. listed stands unchanged second is new) (λ counts. absurd (counts (spent is)));
        unfailed = unfailed ∙ faults;
      }

    pub refused_new : (back : P) (fault : LogError) → (disk.is_honest back ↔ disk.is_honest m) → (pair.is_whole p → fault ≢ NoMemory → fault ≢ Device → HasNone disk pair p → ⊥)
        → (disk.is_honest m → fault ≢ NoMemory → fault ≢ Device → HasFault h (disk.seen m) fault) → (disk.is_honest m → fault ≢ Device → disk.seen back ≡ disk.seen m)
        → (disk.is_honest m → X → LeavesOnly disk.moment disk.left_since m back (disk.may_leave m))
        → (fault ≡ Device → Risen (disk.faults m) (disk.faults back)) → (fault ≢ Device → disk.faults back ≡ disk.faults m) → IsRefused disk pair h p back fault
    refused_new back fault as_honest some cause unwritten second failed unfailed = record {
      whole = λ is. honest_whole back (as_honest.1 (honest is));
      refused = λ is memory device. (New, (spent is, some is memory device), subst (λ (bytes : List ℕ). HasFault h bytes fault) (same is).new_same (cause (honest is) memory device));
      unwritten = λ is device. let now = as_honest.1 (honest is) in
          inl (record {
            new_same = unwritten (honest is) device ∙ (same is).new_same;
            old_same = λ counts. absurd (counts (spent is));
            spent = λ was. honest_spent back (pair.old_seen back) now (both_as_seen back (honest_whole back now)).1;
          });
      any_moment = λ is. leaves_refused disk pair h p back fault (λ new. moments back second is new) (λ counts old can. absurd (counts (spent is)))
          (λ counts memory device. absurd (counts (spent is)));
      failed = λ device. risen_from (disk.faults p) (disk.faults m) (disk.faults back) faults (failed device);
      unfailed = λ device. unfailed device ∙ faults;
    }

  -- the old journal counts
  module _ (h : Header) (p m : P) (whole : pair.is_whole m ↔ pair.is_whole p) (same : pair.is_whole p → IsSame disk pair p m)
      (honest_whole : (p : P) → disk.is_honest p → pair.is_whole p)
      (first : pair.is_whole p → LeavesOnly disk.moment pair.both_since p m (Both pair.new_may pair.old_may p))
      (synced : pair.is_whole p → Only (pair.old_seen p) (pair.old_may m)) (counts : pair.is_whole p → get_or (pair.old_seen p) 0 0 ≡ 67) (faults : disk.faults m ≡ disk.faults p) where
    counts_still : pair.is_whole p → IsSpent (pair.old_seen p) → ⊥
    counts_still is spent = spent (counts is)

    synced_there : pair.is_whole p → Only (pair.old_seen m) (pair.old_may m)
    synced_there is d left = synced is d left ∙ sym (same is).old_same

    can_of : pair.is_whole p → (rs : List Record) → CanMigrate h rs (pair.old_seen p) → CanMigrate h rs (pair.old_seen m)
    can_of is rs can = subst (λ (bytes : List ℕ). CanMigrate h rs bytes) (sym (same is).old_same) can

    turning : (n : P) → (pair.is_whole m → Only (pair.old_seen m) (pair.old_may m) → (rs : List Record) → CanMigrate h rs (pair.old_seen m)
        → LeavesOnly disk.moment pair.both_since m n (IsMigrating h rs (pair.old_seen m))) → pair.is_whole p → (rs : List Record) → CanMigrate h rs (pair.old_seen p)
        → LeavesOnly disk.moment pair.both_since p n (MayTurn disk pair h rs p)
    turning n second is rs can = turns_then p m (first is) h rs n (second (whole.1 is) (synced_there is) rs (can_of is rs can)) (same is).old_same

    pub opened_old : (log : Log P) (rs : List Record) → IsSound disk log → (log.going ≡ true) × (log.header ≡ h)
        → (pair.is_whole log.disk ↔ pair.is_whole m) → (pair.is_whole m → disk.is_honest log.disk) → (pair.is_whole m → acknowledged disk.seen log ≡ rs)
        → (pair.is_whole m → (old : List Record) × CanMigrate h old (pair.old_seen m) × (rs ≡ migrated old))
        → (pair.is_whole m → pair.old_seen log.disk ≡ overwritten (pair.old_seen m) 0 (0 ∷ []))
        → (pair.is_whole m → Only (pair.old_seen m) (pair.old_may m) → (old : List Record) → CanMigrate h old (pair.old_seen m)
        → LeavesOnly disk.moment pair.both_since m log.disk (IsMigrating h old (pair.old_seen m)))
        → disk.faults log.disk ≡ disk.faults m → IsOpened disk pair h p log rs
    opened_old log rs sound ok as_whole honest acknowledged_are moved turned second unfailed = record {
      sound = sound;
      going = ok.0;
      header_is = ok.1;
      honest = (λ now. whole.0 (as_whole.0 (honest_whole log.disk now)), λ is. honest (whole.1 is));
      acknowledged_are = λ is. acknowledged_are (whole.1 is);
      over = λ is.
          let found = moved (whole.1 is) in
          let can = subst (λ (bytes : List ℕ). CanMigrate h found.0 bytes) (same is).old_same found.1 in
          opened_over disk pair h p log rs (λ none. absurd (omega (arith, counts is, ap (λ (bytes : List ℕ). get_or bytes 0 0) none.1))) (λ new. absurd (counts_still is new.0))
          (λ old. record {
            old = found.0;
            can = can;
            records_are = found.2;
            turned = turned (whole.1 is) ∙ ap (λ (bytes : List ℕ). overwritten bytes 0 (0 ∷ [])) (same is).old_same;
            any_moment = turning log.disk second is found.0 can;
          });
      unfailed = unfailed ∙ faults;
    }

    untouched_old : (back : P) → pair.is_whole p → (disk.seen back ≡ disk.seen m) × (pair.old_seen back ≡ pair.old_seen m) → IsUntouched disk pair p back
    untouched_old back is are = record {
      new_same = are.0 ∙ (same is).new_same;
      old_same = λ old. are.1 ∙ (same is).old_same;
      spent = λ spent. absurd (counts_still is spent);
    }

    migrated_old : (back : P) → pair.is_whole p → WasMigrated disk pair h m back → WasMigrated disk pair h p back
    migrated_old back is was = record {
      old = was.old;
      can = subst (λ (bytes : List ℕ). CanMigrate h was.old bytes) (same is).old_same was.can;
      stands = was.stands;
      turned = was.turned ∙ ap (λ (bytes : List ℕ). overwritten bytes 0 (0 ∷ [])) (same is).old_same;
    }

    pub refused_old : (back : P) (fault : LogError) → (pair.is_whole back ↔ pair.is_whole m)
        → (pair.is_whole m → fault ≢ NoMemory → fault ≢ Device → IsNotMigrated h (pair.old_seen m) fault)
        → (pair.is_whole m → fault ≢ Device → ((disk.seen back ≡ disk.seen m) × (pair.old_seen back ≡ pair.old_seen m)) ⊎ WasMigrated disk pair h m back)
        → (pair.is_whole m → Only (pair.old_seen m) (pair.old_may m) → (old : List Record) → CanMigrate h old (pair.old_seen m)
        → LeavesOnly disk.moment pair.both_since m back (IsMigrating h old (pair.old_seen m)))
        → (pair.is_whole m → RefusalKeepsOld disk pair m back fault)
        → (fault ≡ Device → Risen (disk.faults m) (disk.faults back)) → (fault ≢ Device → disk.faults back ≡ disk.faults m) → IsRefused disk pair h p back fault
    refused_old back fault as_whole cause unwritten second stay failed unfailed = record {
      whole = λ is. as_whole.1 (whole.1 is);
      refused = λ is memory device. (Old, counts_still is, subst (λ (bytes : List ℕ). IsNotMigrated h bytes fault) (same is).old_same (cause (whole.1 is) memory device));
      unwritten = λ is device. ⊎_elim (λ are. inl (untouched_old back is are)) (λ was. inr (migrated_old back is was)) (unwritten (whole.1 is) device);
      any_moment = λ is. leaves_refused disk pair h p back fault (λ new. absurd (counts_still is new.0)) (λ still old can. turning back second is old can)
          (λ still memory device. stays_then p m (first is) back (stay (whole.1 is) (synced_there is) memory device) (same is).old_same);
      failed = λ device. risen_from (disk.faults p) (disk.faults m) (disk.faults back) faults (failed device);
      unfailed = λ device. unfailed device ∙ faults;
    }
