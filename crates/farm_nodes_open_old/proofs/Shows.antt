-- What a crash shows at any moment of two calls, of which the first reads the old disk.
use Rattle.std.proofs.Common.{◌⊎◌, inl, inr, ⊎_elim, ℕ, ◌≤◌, List}
use Rattle.durable_model.specs.Moments.{LeavesOnly, composed}
use Rattle.durable_model.specs.declared.disk.Disk as disks
use Rattle.durable_pair.specs.declared.pair.Pair as pairs
use Rattle.durable_pair.specs.Images.{Images, Shows, Both}
use Rattle.farm_nodes_open_old.specs.OnPairs.{MayShow}

module _ {P : Type 0} (disk : disks.Ghosts P) (pair : pairs.Ghosts P) where
  module _ (shown : (p : P) (t : ℕ) (im : Images) (c : List ℕ) → pair.both_since p t im → Shows im c → disk.left_since p t c)
      (of_both : (p : P) (t : ℕ) (c : List ℕ) → disk.left_since p t c → (im : Images) × pair.both_since p t im × Shows im c)
      (p m : P) (first : LeavesOnly disk.moment pair.both_since p m (Both pair.new_may pair.old_may p)) where
    shows_each : (c : List ℕ) → disk.left_since m (disk.moment p) c → MayShow disk pair p c
    shows_each c left =
        let im = of_both m (disk.moment p) c left in
        (im.0, first.each im.0 im.1, im.2)

    shows_before : (t : ℕ) (c : List ℕ) → t ≤ disk.moment p → disk.left_since m t c → disk.left_since p t c ⊎ MayShow disk pair p c
    shows_before t c le left =
        let im = of_both m t c left in
        ⊎_elim (λ past. inl (shown p t im.0 c past im.2)) (λ both. inr (im.0, both, im.2)) (first.before t im.0 le im.1)

    pub shows_first : LeavesOnly disk.moment disk.left_since p m (MayShow disk pair p)
    shows_first = record { later = first.later; each = shows_each; before = shows_before }

    pub shows_then : (n : P) → LeavesOnly disk.moment disk.left_since m n (disk.may_leave m)
        → ((c : List ℕ) → disk.may_leave m c → MayShow disk pair p c) → LeavesOnly disk.moment disk.left_since p n (MayShow disk pair p)
    shows_then n second shows =
        composed disk.moment disk.left_since p m n (MayShow disk pair p) (disk.may_leave m) (MayShow disk pair p) shows_first second (λ c is. is) shows
