-- What a crash leaves of a node's own disk, and that it is never told as other records.
use Rattle.std.proofs.Common.{◌≡◌, ℕ, ◌*◌, List, [], ◌++◌, length, Option, Some, None, refl, sym, subst, inl, inr}
use Rattle.std.specs.Prelude.{slice_get}
use Rattle.durable_model.specs.declared.disk.Disk as disks
use Rattle.acceptor_log_form.specs.declared.header.Header.{Header}
use Rattle.acceptor_log_form.specs.declared.record.Record.{Record}
use Rattle.acceptor_log_writing.specs.OneOf.{Either}
use Rattle.acceptor_log_form.specs.Order.{AreInOrder}
use Rattle.acceptor_log_form.specs.Text.{StandsFor}
use Rattle.acceptor_log_form.proofs.Between.{between-lists, between-no_fault}
use Rattle.acceptor_log_writing.proofs.Either.{either-between}
use Rattle.acceptor_log.specs.declared.log.Log.{Log}
use Rattle.farm_nodes_turn_step.specs.declared.stop.Pending.{Pending}
use Rattle.farm_nodes_restart_node.specs.Numbers.{function_of}
use Rattle.farm_nodes_restart_node.specs.Fours.{Four}
use Rattle.farm_nodes_restart_node.specs.Leaves.{left_in, pending_at}
use Rattle.farm_nodes_restart_node.specs.Texts.{Texts}
use Rattle.farm_nodes_turn_node.specs.declared.halted.Halted.{Halted}
use Rattle.farm_nodes_turn_node.specs.Held.{pending_in, IsSoundBy}
use Rattle.farm_nodes_restart_seat.specs.declared.fault.RestartFault.{RestartFault}
use Rattle.farm_nodes_restart_seat.specs.declared.fault.RestartFault.TheVariants.{NoMemory, Journal, OtherRecords, CellRefused}
use Rattle.farm_nodes_restart_node.specs.Found.{AreOther}
use Rattle.farm_nodes_restart_node.specs.Returned.{HasReason, HoldsBack}
use Rattle.farm_nodes_restart_node.proofs.Own.{own}
use Rattle.farm_nodes_restart_node.proofs.Leaving.{front_in_order}
use Rattle.durable_pair.specs.Images.{Images, IsSpent}
use Rattle.farm_nodes_restart_disks.specs.Cause.{HasCauseBefore, HasCauseOn}
use Rattle.farm_nodes_restart_disks.specs.Own.{IsOwnFault}
use Rattle.farm_nodes_restart_disks.specs.Stopped.{left_by, room_in}

module _ {T1 T2 T3 T4 : Type 0} where
  none_left : (o : Option (Four T1 T2 T3 T4)) (room : ℕ) → left_in o room None ≡ []
  none_left None room = refl
  none_left (Some s) room = refl

  pub pending_left : (seats : List (Four T1 T2 T3 T4)) (halted : Option Halted) → pending_in seats halted ≡ pending_at seats (room_in halted) (left_by halted)
  pending_left seats None = sym (none_left (slice_get seats (function_of 0)) 0)
  pending_left seats (Some h) = refl

  pub never_others : {D : Type 0} (texts : Texts T1 T2 T3 T4) (disk : disks.Ghosts D) (log : Log D) (seats : List (Four T1 T2 T3 T4))
      (halted : Option Halted) (bytes : List ℕ) (rs : List Record) → IsSoundBy texts disk log seats halted → disk.is_honest log.disk → disk.may_leave log.disk bytes
      → StandsFor log.header rs bytes → AreOther texts seats (room_in halted) (left_by halted) rs → ⊥
  never_others texts disk log seats halted bytes rs sound honest left stands others =
      let u = sound.upto honest in
      own texts seats (room_in halted) (left_by halted) log.header u.0 rs bytes u.1.leave
      (subst (λ (ps : List Record). Either log.header u.0 (u.0 ++ ps) bytes) (pending_left seats halted) (u.1.left bytes left))
      stands others

  module _ {D : Type 0} (texts : Texts T1 T2 T3 T4) (disk : disks.Ghosts D) (log : Log D) (seats : List (Four T1 T2 T3 T4))
      (halted : Option Halted) (bytes : List ℕ) (sound : IsSoundBy texts disk log seats halted) (honest : disk.is_honest log.disk) (left : disk.may_leave log.disk bytes) where
    -- its records are in order
    pub own_in_order : (rs : List Record) → StandsFor log.header rs bytes → AreInOrder log.header.nodes log.header.node (4 * length seats) rs
    own_in_order rs stands =
        let u = sound.upto honest in
        let between = either-between log.header u.0 (u.0 ++ pending_in seats halted) bytes (pending_in seats halted, refl) (u.1.left bytes left) in
        let begins = between-lists log.header u.0 (u.0 ++ pending_in seats halted) rs bytes between stands in
        front_in_order log.header.nodes log.header.node (4 * length seats) rs begins.1.0 (u.0 ++ pending_in seats halted) begins.1.1 u.1.in_order

    held_back : (rs : List Record) (fault : RestartFault) → StandsFor log.header rs bytes → HoldsBack texts log.header (4 * length seats) seats (room_in halted) (left_by halted) rs fault → IsOwnFault fault
    held_back rs NoMemory stands held = tt
    held_back rs (Journal e) stands held = absurd (held.1 (own_in_order rs stands))
    held_back rs OtherRecords stands held = absurd (never_others texts disk log seats halted bytes rs sound honest left stands held.1)
    held_back rs CellRefused stands held = tt

    -- and no fault is told of it but a failure
    pub own_fault : (fault : RestartFault) → HasReason texts log.header (4 * length seats) seats (room_in halted) (left_by halted) bytes fault → IsOwnFault fault
    own_fault NoMemory reason = tt
    own_fault (Journal e) (inl device) = subst (λ x. IsOwnFault (Journal x)) (sym device) tt
    own_fault (Journal e) (inr (inl journal)) =
        let u = sound.upto honest in
        let between = either-between log.header u.0 (u.0 ++ pending_in seats halted) bytes (pending_in seats halted, refl) (u.1.left bytes left) in
        absurd (between-no_fault log.header u.0 (u.0 ++ pending_in seats halted) bytes e between journal)
    own_fault (Journal e) (inr (inr held)) = held_back held.0 (Journal e) held.1 held.2
    own_fault OtherRecords held = held_back held.0 OtherRecords held.1 held.2
    own_fault CellRefused held = tt

module _ {T1 T2 T3 T4 : Type 0} (texts : Texts T1 T2 T3 T4) (h : Header) (rooms : ℕ) (seats : List (Four T1 T2 T3 T4)) (room : ℕ) (p : Option Pending) (im : Images) where
  -- where the old disk counts no more it is by the new one's bytes
  pub cause_of : (fault : RestartFault) → IsSpent im.1 → HasCauseOn texts h rooms seats room p im fault → HasReason texts h rooms seats room p im.0 fault
  cause_of NoMemory spent cause = tt
  cause_of (Journal e) spent (inl (inl device)) = inl device
  cause_of (Journal e) spent (inl (inr counts)) = absurd (counts.0 spent)
  cause_of (Journal e) spent (inr has) = has.1
  cause_of OtherRecords spent cause = cause.1
  cause_of CellRefused spent cause = cause.1

  -- so it is then
  pub cause_over : (fault : RestartFault) → IsSpent im.1 → HasReason texts h rooms seats room p im.0 fault → HasCauseOn texts h rooms seats room p im fault
  cause_over NoMemory spent reason = tt
  cause_over (Journal e) spent reason = inr (spent, reason)
  cause_over OtherRecords spent reason = (spent, reason)
  cause_over CellRefused spent reason = (spent, reason)

  -- and else before those are read
  pub cause_before : (fault : RestartFault) → HasCauseBefore im.1 fault → HasCauseOn texts h rooms seats room p im fault
  cause_before NoMemory before = tt
  cause_before (Journal e) before = inl before
  cause_before OtherRecords before = absurd before
  cause_before CellRefused before = absurd before
