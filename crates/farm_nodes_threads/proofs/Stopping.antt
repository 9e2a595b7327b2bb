-- Why a node is stopped, from a turn to the turns before it.
use Rattle.std.proofs.Common.{◌≡◌, ◌≤◌, ℕ, List, Option, Some, None, IfSome, sym, ap, subst, arith}
use Rattle.lang_base.specs.declared.program.Named.{Named}
use Rattle.rtl_language.specs.Function.{FunctionData}
use Rattle.durable_model.specs.declared.disk.Disk as disks
use Rattle.durable_model.specs.Honest.{risen_within}
use Rattle.acceptor_log_form.specs.declared.errors.LogError.TheVariants as log
use Rattle.acceptor_log_form.specs.declared.record.Record.{Record}
use Rattle.acceptor_log.specs.declared.log.Log.{Log}
use Rattle.farm_nodes_turn_offer.specs.Halted.{HasHaltCause}
use Rattle.farm_nodes_turn_offer.specs.declared.halt.Fault.{Fault}
use Rattle.farm_nodes_turn_offer.specs.declared.halt.Fault.TheVariants.{NoMemory, Journal, TooManyRegisters, OtherRecords, CellRefused}
use Rattle.farm_nodes_turn_node.specs.Fours.{Four}
use Rattle.farm_nodes_turn_node.specs.Held.{fault_in, pending_in}
use Rattle.farm_nodes_turn_node.specs.Offers.{ConstantsOffer, ExpressionsOffer, AllocationOffer, OrderOffer}
use Rattle.farm_nodes_turn_node.specs.Played.{IsLearnedOutput}
use Rattle.farm_nodes_turn_node.specs.Turned.{IsTooLargeFor, OthersStay}
use Rattle.farm_nodes_turn_node.specs.Which.{Which}
use Rattle.farm_nodes_turn_node.specs.Which.TheVariants.{Constants, Expressions, Allocation, Order}
use Rattle.farm_nodes_turn_node.specs.declared.halted.Halted.{Halted}
use Rattle.farm_nodes_threads.specs.Stopped.{IsStoppedFor, IsTooLarge}

-- the room before was left as it was, so what was learned in it is
pub too_large_still : (function : FunctionData) (p : Which) (s t : Four ConstantsOffer ExpressionsOffer AllocationOffer OrderOffer)
    → OthersStay p s t → IsTooLargeFor function p s → IsTooLargeFor function p t
too_large_still function Constants s t others large = large
too_large_still function Expressions s t others large =
    (large.0, subst (λ b. IsLearnedOutput b large.0) (sym (ap (λ (u : Four ConstantsOffer ExpressionsOffer AllocationOffer OrderOffer). u.constants) others)) large.1, large.2)
too_large_still function Allocation s t others large =
    (large.0, subst (λ b. IsLearnedOutput b large.0) (sym (ap (λ (u : Four ConstantsOffer ExpressionsOffer AllocationOffer OrderOffer). u.expressions) others)) large.1, large.2)
too_large_still function Order s t others large =
    (large.0, subst (λ b. IsLearnedOutput b large.0) (sym (ap (λ (u : Four ConstantsOffer ExpressionsOffer AllocationOffer OrderOffer). u.allocation) others)) large.1, large.2)

module _ {D : Type 0} (disk : disks.Ghosts D) where
  -- a cause between two journals is one since an earlier journal
  cause_since : (A B : Type 0) (old mid new : Log D) (pending : List Record) (fault : Fault) → (A → B)
      → disk.faults old.disk ≤ disk.faults mid.disk → (disk.is_honest old.disk → disk.is_honest mid.disk)
      → HasHaltCause disk A mid new pending fault → HasHaltCause disk B old new pending fault
  cause_since A B old mid new pending NoMemory wide later honest cause = tt
  cause_since A B old mid new pending (Journal log.NoMemory) wide later honest cause = tt
  cause_since A B old mid new pending (Journal log.Device) wide later honest cause =
      risen_within (disk.faults old.disk) (disk.faults mid.disk) (disk.faults new.disk) (disk.faults new.disk) later cause (omega arith)
  cause_since A B old mid new pending (Journal log.NotAJournal) wide later honest cause = cause
  cause_since A B old mid new pending (Journal log.BadRecord) wide later honest cause = cause
  cause_since A B old mid new pending (Journal log.OtherSource) wide later honest cause = cause
  cause_since A B old mid new pending (Journal log.Stopped) wide later honest cause = cause
  cause_since A B old mid new pending (Journal log.Full) wide later honest cause = λ h. cause (honest h)
  cause_since A B old mid new pending TooManyRegisters wide later honest cause = wide cause
  cause_since A B old mid new pending OtherRecords wide later honest cause = cause
  cause_since A B old mid new pending CellRefused wide later honest cause = cause

  module _ (functions : List (Named FunctionData)) (seats : List (Four ConstantsOffer ExpressionsOffer AllocationOffer OrderOffer)) where
    -- where a turn told the fault
    pub stop_told : (TooLarge : Type 0) (old new : Log D) (now : Option Halted) (told : Option Fault) → told ≡ fault_in now → (TooLarge → IsTooLarge functions seats)
        → IfSome told (λ fault. HasHaltCause disk TooLarge old new (pending_in seats now) fault)
        → IsStoppedFor disk functions old new seats now
    stop_told TooLarge old new None told is wide cause = tt
    stop_told TooLarge old new (Some h) told is wide cause =
        cause_since TooLarge (IsTooLarge functions seats) old old new (pending_in seats (Some h)) h.halt.fault wide (omega arith) (λ a. a)
        (subst (λ o. IfSome o (λ fault. HasHaltCause disk TooLarge old new (pending_in seats (Some h)) fault)) is cause)

    -- since an earlier journal
    pub stop_since : (old mid new : Log D) (now : Option Halted) → disk.faults old.disk ≤ disk.faults mid.disk → (disk.is_honest old.disk → disk.is_honest mid.disk)
        → IsStoppedFor disk functions mid new seats now → IsStoppedFor disk functions old new seats now
    stop_since old mid new None later honest cause = tt
    stop_since old mid new (Some h) later honest cause =
        cause_since (IsTooLarge functions seats) (IsTooLarge functions seats) old mid new (pending_in seats (Some h)) h.halt.fault (λ l. l) later honest cause
