-- Why `number` meets its clause `tables`.
use Rattle.std.proofs.Common.{◌≡◌, ℕ, sym, subst}
use Rattle.rooms_hall.specs.RoomId.{AreNumbered, RoomId}
use Rattle.rooms_numbered.specs.FunctionOf.{function_of}
use Rattle.rooms_numbered.proofs.seat.NumberedSeat.number.Goals as goal

pub returns-clause-tables : goal.returns-clause-tables
returns-clause-tables g c =
    let s = c.args.self.now in
    subst (λ (n : ℕ). AreNumbered n (function_of s.seat).places) (sym c.number.ensures.value)
    (subst (λ (r : RoomId). AreNumbered s.claim.number r.places) s.named c.number.ensures.tables)
