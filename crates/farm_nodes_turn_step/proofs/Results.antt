-- One call's result after another's.
use Rattle.std.proofs.Common.{◌≡◌, ℕ, ◌+◌, ◌<◌, ◌≤◌, Bool, true, false, ltb, ◌||◌, List, [], ◌∷◌, ◌++◌, length, length-append, Result, Ok, Err, refl, sym, ap, ◌∙◌, subst, arith}
use Rattle.std.proofs.lemmas.Bool.{ltb-true, ltb-false, lt-ltb, le-ltb}
use Rattle.durable_model.specs.declared.disk.Disk as disks
use Rattle.acceptor_log_form.specs.declared.record.Record.{Record}
use Rattle.acceptor_log_form.specs.Lists.{Begins}
use Rattle.acceptor_log.specs.declared.log.Log.{Log}
use Rattle.acceptor_log.specs.Acknowledged.{acknowledged, IsReady}
use Rattle.rooms_crash.specs.SeatState.{SeatState}
use Rattle.farm_nodes_turn_step.specs.declared.stop.Stop.{Stop}
use Rattle.farm_nodes_turn_step.specs.Noted.{pending_of}
use Rattle.farm_nodes_turn_step.specs.Journalled.{HasGrown, Journalled}
use Rattle.farm_nodes_turn_order.proofs.Orders.{IsSameNode}
use Rattle.farm_nodes_turn_step.proofs.Runs.{goes_at, none, then}
use Rattle.farm_nodes_turn_step.proofs.Steps.{no_more}

begins_length : (xs ys : List Record) → Begins xs ys → length xs ≤ length ys
begins_length xs ys p = let is : length ys ≡ length xs + length p.0 = ap length p.1 ∙ length-append xs p.0 in omega arith

either_by : (x y z : ℕ) (t : Bool) → ltb x y ≡ t → x ≤ y → y ≤ z → (t || ltb y z) ≡ ltb x z
either_by x y z true e p q = let low : x < y = ltb-true x y e in sym (lt-ltb x z (omega arith))
either_by x y z false e p q = let low : y ≤ x = ltb-false x y e in let same : y ≡ x = omega arith in ap (λ (n : ℕ). ltb n z) same

module _ {D : Type 0} (disk : disks.Ghosts D) where
  abbrev pub Grown : Log D → Log D → ℕ → SeatState → SeatState → Bool → Type 0
  Grown old new room s t moved = HasGrown disk old new room s t moved

  -- it speaks of what the seat's node is
  pub grown_at : (old new : Log D) (room : ℕ) (s t s2 t2 : SeatState) (a : Bool) → IsSameNode s s2 → IsSameNode t t2 → Grown old new room s t a → Grown old new room s2 t2 a
  grown_at old new room s t s2 t2 a p q grown = record {
    ready = grown.ready;
    advances = goes_at disk old new room s t s2 t2 (acknowledged disk.seen new) [] p q grown.advances;
    moved = grown.moved;
  }

  pub stopped_at : (old new : Log D) (room : ℕ) (s s2 t : SeatState) (stop : Stop) → IsSameNode s s2
      → Journalled disk old new room s t (Err stop) → Journalled disk old new room s2 t (Err stop)
  stopped_at old new room s s2 t stop p left =
      (left.0, goes_at disk old new room s t s2 t left.0 (pending_of room t stop.pending) p (record { me = refl; quorums = refl; kept = refl; ballot = refl; proposed = refl }) left.1)

  -- nothing was done
  pub idle : (log : Log D) (room : ℕ) (s : SeatState) → IsReady disk log
      → ((c : List ℕ) → disk.left_since log.disk (disk.moment log.disk) c → disk.may_leave log.disk c) → Grown log log room s s false
  idle log room s ready now = record {
    ready = ready;
    advances = none disk log room s ready now;
    moved = no_more (acknowledged disk.seen log);
  }

  pub grown_on : (old mid new : Log D) (room : ℕ) (s m t : SeatState) (a b : Bool) → mid.header ≡ old.header → Grown old mid room s m a → Grown mid new room m t b → Grown old new room s t (a || b)
  grown_on old mid new room s m t a b header first second = record {
    ready = second.ready;
    advances = then disk old mid new room s m t (acknowledged disk.seen new) [] header first.advances second.advances;
    moved =
        ap (λ (x : Bool). a || x) second.moved
        ∙ either_by (length (acknowledged disk.seen old)) (length (acknowledged disk.seen mid)) (length (acknowledged disk.seen new)) a (sym first.moved)
        (begins_length (acknowledged disk.seen old) (acknowledged disk.seen mid) first.advances.longer)
        (begins_length (acknowledged disk.seen mid) (acknowledged disk.seen new) second.advances.longer);
  }

  -- a call after one that took no step
  pub goes_on : (old mid new : Log D) (room : ℕ) (s m t : SeatState) (a : Bool) (r : Result Bool Stop) → mid.header ≡ old.header → Grown old mid room s m a → a ≡ false
      → Journalled disk mid new room m t r → Journalled disk old new room s t r
  goes_on old mid new room s m t a (Ok b) header first idle second = subst (λ (x : Bool). Grown old new room s t x) (ap (λ (x : Bool). x || b) idle) (grown_on old mid new room s m t a b header first second)
  goes_on old mid new room s m t a (Err stop) header first idle second =
      (second.0, then disk old mid new room s m t second.0 (pending_of room t stop.pending) header first.advances second.1)

  -- and one that was stopped
  pub stops_after : (old mid new : Log D) (room : ℕ) (s m t : SeatState) (a : Bool) (stop : Stop) → mid.header ≡ old.header → Grown old mid room s m a
      → Journalled disk mid new room m t (Err stop) → Journalled disk old new room s t (Err stop)
  stops_after old mid new room s m t a stop header first second =
      (second.0, then disk old mid new room s m t second.0 (pending_of room t stop.pending) header first.advances second.1)
