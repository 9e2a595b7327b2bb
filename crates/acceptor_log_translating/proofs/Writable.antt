-- What was found of a room can be written.
use Rattle.std.proofs.Common.{◌≡◌, ◌<◌, ℕ, List, Some, sym, subst}
use Rattle.std.specs.Prelude.{◌^◌, slice_get, IfSome}
use Rattle.acceptor_log_form.specs.declared.record.Record.{Record}
use Rattle.acceptor_log_form.specs.Leaves.{kept_in}
use Rattle.acceptor_log_translating.specs.declared.stepping.Room.{Room}
use Rattle.acceptor_log_translating.specs.Found.{AreFound, CanBeWritten}
use Rattle.acceptor_log_old.proofs.Well.{well-in_order, well-byte}

pub all_writable : (n i : ℕ) (bytes : List ℕ) (rs : List Record) (rooms : List Room) → n < 256 → AreFound n i bytes rs rooms → (m : ℕ) (x : Room) → slice_get rooms m ≡ Some x → CanBeWritten bytes x
all_writable n i bytes rs rooms few are m x here =
    let found = are.each m x here in
    let k = kept_in rs m in
    record {
      at = found.offer.at;
      vote = subst (λ p. IfSome p.accepted (λ vote. vote.value < 256)) (sym found.kept) (well-byte n k.promised k.accepted few (well-in_order n i (2 ^ 16) rs are.in_order m).1);
    }
