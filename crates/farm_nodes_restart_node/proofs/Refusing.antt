-- Why a node does not come back: by what the journal answers, and by what its records are.
use Rattle.std.proofs.Common.{◌≡◌, ◌≢◌, ◌≤◌, ℕ, List, Option, Some, None, Result, Ok, Err, IfErr, OnOk, refl, sym, ap, subst, inl, inr}
use Rattle.durable_model.specs.Honest.{Risen}
use Rattle.acceptor_log_form.specs.declared.errors.LogError.{LogError}
use Rattle.acceptor_log_form.specs.declared.errors.LogError.TheVariants as log
use Rattle.acceptor_log_form.specs.declared.header.Header.{Header}
use Rattle.acceptor_log_form.specs.declared.record.Record.{Record}
use Rattle.acceptor_log_form.specs.Fault.{HasFault}
use Rattle.acceptor_log_form.specs.Order.{AreInOrder}
use Rattle.acceptor_log_form.specs.Text.{StandsFor}
use Rattle.farm_nodes_turn_step.specs.declared.stop.Pending.{Pending}
use Rattle.farm_nodes_turn_step.specs.declared.stop.Pending.TheVariants.{Act, Offer}
use Rattle.farm_nodes_restart_records.specs.Fours.{Four}
use Rattle.farm_nodes_restart_seat.specs.declared.fault.RestartFault.{RestartFault}
use Rattle.farm_nodes_restart_seat.specs.declared.fault.RestartFault.TheVariants.{NoMemory, Journal, OtherRecords, CellRefused}
use Rattle.farm_nodes_restart_seat.specs.Refusals.{restart_fault}
use Rattle.farm_nodes_restart_seat.specs.Taken.{IsTakeFault}
use Rattle.farm_nodes_restart_records.specs.Found.{LeaveWith}
use Rattle.farm_nodes_restart_records.specs.Texts.{Texts}
use Rattle.farm_nodes_restart_node.specs.Back.{CountsFailures}
use Rattle.farm_nodes_restart_node.specs.Returned.{HasReason, HoldsBack, IsPendingFault}
use Rattle.farm_nodes_restart_records.proofs.Leaving.{IsRefused}

pub device_of : (e : LogError) → restart_fault e ≡ Journal log.Device → e ≡ log.Device
device_of log.NoMemory is = absurd (cc)
device_of log.Device is = refl
device_of log.NotAJournal is = absurd (cc)
device_of log.BadRecord is = absurd (cc)
device_of log.OtherSource is = absurd (cc)
device_of log.Stopped is = absurd (cc)
device_of log.Full is = absurd (cc)

-- ---- the failures of the device

-- where nothing failed, none is counted
pub none_failed : (before now : ℕ) → before ≤ now → now ≡ before → CountsFailures before now None
none_failed before now later same = record { later = later; failed = λ told. absurd (cc); unfailed = λ other. same }

-- nor where another fault is told
pub other_told : (before now : ℕ) (fault : RestartFault) → (fault ≡ Journal log.Device → ⊥) → before ≤ now → now ≡ before
    → CountsFailures before now (Some fault)
other_told before now fault other later same =
    record { later = later; failed = λ told. absurd (other (cc)); unfailed = λ told. same }

-- what the journal answers is counted
pub journal_told : (before now : ℕ) (e : LogError) → before ≤ now → (e ≡ log.Device → Risen before now) → (e ≢ log.Device → now ≡ before)
    → CountsFailures before now (Some (restart_fault e))
journal_told before now e later failed unfailed = record {
  later = later;
  failed = λ told. failed (device_of e (cc));
  unfailed = λ other. unfailed (λ is. other (ap (λ (f : LogError). Some (restart_fault f)) is));
}

module _ {X1 X2 X3 X4 : Type 0} (texts : Texts X1 X2 X3 X4) (h : Header) (rooms : ℕ) (seats : List (Four X1 X2 X3 X4)) (room : ℕ) (p : Option Pending) where
  pub not_opened : (bytes : List ℕ) (e : LogError) → (e ≢ log.NoMemory → e ≢ log.Device → HasFault h bytes e) → HasReason texts h rooms seats room p bytes (restart_fault e)
  not_opened bytes log.NoMemory fault = tt
  not_opened bytes log.Device fault = inl refl
  not_opened bytes log.NotAJournal fault = inr (inl (fault (λ e. absurd (cc)) (λ e. absurd (cc))))
  not_opened bytes log.BadRecord fault = inr (inl (fault (λ e. absurd (cc)) (λ e. absurd (cc))))
  not_opened bytes log.OtherSource fault = inr (inl (fault (λ e. absurd (cc)) (λ e. absurd (cc))))
  not_opened bytes log.Stopped fault = absurd (fault (λ e. absurd (cc)) (λ e. absurd (cc)))
  not_opened bytes log.Full fault = absurd (fault (λ e. absurd (cc)) (λ e. absurd (cc)))

  -- where records hold it back
  pub held_reason : (bytes : List ℕ) (rs : List Record) (fault : RestartFault) → StandsFor h rs bytes → HoldsBack texts h rooms seats room p rs fault
      → HasReason texts h rooms seats room p bytes fault
  held_reason bytes rs NoMemory stands held = tt
  held_reason bytes rs (Journal e) stands held = inr (inr (rs, stands, held))
  held_reason bytes rs OtherRecords stands held = (rs, stands, held)
  held_reason bytes rs CellRefused stands held = (rs, stands, held)

  module _ (rs : List Record) where
    pub out_of_order : (e : LogError) → IsRefused h.nodes h.node rooms rs e → HoldsBack texts h rooms seats room p rs (restart_fault e)
    out_of_order log.NoMemory refused = tt
    out_of_order log.Device refused = refused (λ e. absurd (cc))
    out_of_order log.NotAJournal refused = refused (λ e. absurd (cc))
    out_of_order log.BadRecord refused = refused (λ e. absurd (cc))
    out_of_order log.OtherSource refused = refused (λ e. absurd (cc))
    out_of_order log.Stopped refused = refused (λ e. absurd (cc))
    out_of_order log.Full refused = refused (λ e. absurd (cc))

    pub no_device : (fault : RestartFault) → HoldsBack texts h rooms seats room p rs fault → fault ≡ Journal log.Device → ⊥
    no_device fault held is =
        let bad : log.Device ≡ log.BadRecord = (subst (λ (f : RestartFault). HoldsBack texts h rooms seats room p rs f) is held).0 in
        absurd (cc)

module _ {X1 X2 X3 X4 : Type 0} (texts : Texts X1 X2 X3 X4) (h : Header) (rooms : ℕ) (seats : List (Four X1 X2 X3 X4)) (room : ℕ) (rs : List Record) (order : AreInOrder h.nodes h.node rooms rs) where
  not_taken : (p : Option Pending) → LeaveWith texts seats room p rs → (fault : RestartFault) → IsPendingFault p fault → HoldsBack texts h rooms seats room p rs fault
  not_taken None all fault is = absurd is
  not_taken (Some (Act a)) all fault is = absurd is
  not_taken (Some (Offer r)) all NoMemory is = tt
  not_taken (Some (Offer r)) all (Journal e) is = absurd is
  not_taken (Some (Offer r)) all OtherRecords is = absurd is
  not_taken (Some (Offer r)) all CellRefused is = (order, all, tt)

  pub held_taken : {A : Type 0} (p : Option Pending) (told : Result A RestartFault) → LeaveWith texts seats room p rs → IfErr told (IsPendingFault p)
      → IfErr told (HoldsBack texts h rooms seats room p rs)
  held_taken p (Ok a) all fault = tt
  held_taken p (Err e) all fault = not_taken p all e fault

pub when_ok : {A E P : Type 0} (told : Result A E) → P → OnOk told P
when_ok (Ok a) p = p
when_ok (Err e) p = tt

pub take_fault : {A : Type 0} (told : Result A RestartFault) (q : Option Pending) (p : Pending) → q ≡ Some p → IfErr told (IsTakeFault p) → IfErr told (IsPendingFault q)
take_fault told q p is fault = subst (λ (r : Option Pending). IfErr told (IsPendingFault r)) (sym is) fault
