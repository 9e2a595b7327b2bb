-- Why `write_rooms` meets its clause `added`, its loop over `room` keeps the invariant, and it may call `write_room`.
use Rattle.std.proofs.Common.{◌≡◌, ℕ, ◌+◌, Some, List, length, refl, sym, ap, subst, arith}
use Rattle.std.specs.Prelude.{slice_get}
use Rattle.std.proofs.lemmas.Option.{slice_get_read}
use Rattle.acceptor_log_old.specs.Migrated.{migrated_below}
use Rattle.acceptor_log_translating.specs.Translating.{IsAdded}
use Rattle.acceptor_log_translating.proofs.Written.{room_added, nothing_added}
use Rattle.acceptor_log_translating.proofs.translating.write_rooms.Goals as goal

pub loop-room-init : goal.loop-room-init
loop-room-init c = record {
  added = λ rs each. subst (λ (l : List ℕ). IsAdded c.args.out.now.items l (migrated_below rs 0) 0) (sym c.in_ok-reserve.ensures.items) (nothing_added c.args.out.now.items);
  most = omega arith;
  grown = omega (arith, ap length c.in_ok-reserve.ensures.items);
}

pub write_room-requires : goal.write_room-requires
write_room-requires c =
    let rooms = c.args.rooms.now in
    let here : slice_get rooms c.loop-room.room ≡ Some c.index-rooms-room.result = slice_get_read rooms (length rooms) c.loop-room.room c.index-rooms-room.result refl (omega arith) c.index-rooms-room.is in
    c.requires.each c.loop-room.room c.index-rooms-room.result here

pub loop-room-preserved : goal.loop-room-preserved
loop-room-preserved c =
    let i = c.loop-room.invariant in
    let rooms = c.args.rooms.now in
    let here : slice_get rooms c.loop-room.room ≡ Some c.index-rooms-room.result = slice_get_read rooms (length rooms) c.loop-room.room c.index-rooms-room.result refl (omega arith) c.index-rooms-room.is in
    record {
      added = λ rs each. room_added c.args.out.now.items c.loop-room.out.items c.write_room.new.out.items rs c.loop-room.room (c.loop-room.room + 1) c.loop-room.count c.in_ok-count.field-0
          refl (i.added rs each) (c.in_ok-count.ensures.added rs (each c.loop-room.room c.index-rooms-room.result here));
      most = omega (arith, i.most, c.in_ok-count.ensures.most);
      grown = omega (arith, i.grown, c.in_ok-count.ensures.grown);
    }

pub returns-clause-added : goal.returns-clause-added
returns-clause-added c rs each =
    let rooms = c.args.rooms.now in
    let all_rooms : c.loop-room.room ≡ length rooms = omega arith in
    subst (λ (m : ℕ). IsAdded c.args.out.now.items c.loop-room.out.items (migrated_below rs m) c.loop-room.count) all_rooms (c.loop-room.invariant.added rs each)
