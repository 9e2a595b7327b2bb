-- Why `put_down` meets its contract.
use Rattle.std.proofs.Common.{◌≡◌, ◌<◌, Some, length, refl, sym, subst, arith}
use Rattle.std.specs.Prelude.{◌^◌, slice_get}
use Rattle.std.proofs.lemmas.Option.{slice_get_read}
use Rattle.acceptor_log_form.specs.Text.{room_of}
use Rattle.acceptor_log_translating.proofs.FoundNext.{widened, found_next, broken_here, room_fits}
use Rattle.acceptor_log_translating.proofs.finding.put_down.Goals as goal

pub returns-in_default : goal.returns-in_default
returns-in_default c bytes rs placed are =
    let h = c.args.header.now in
    let r = c.args.entry.now in
    let rooms = c.widen.new.rooms.items in
    let own : c.room-number.result ≡ room_of r = cc in
    let few : c.room-number.result < 2 ^ 16 = subst (λ m. m < 2 ^ 16) (sym own) (room_fits r placed.fits) in
    let wide = widened bytes rs h.nodes h.node c.room-number.result c.args.rooms.now.items rooms few are c.in_ok-widen.ensures in
    let k : c.from-room.result ≡ room_of r = cc in
    let there : c.from-room.result < length rooms = omega (arith, own, k, c.in_ok-widen.ensures.there) in
    let here : slice_get rooms c.from-room.result ≡ Some c.index.result.now = slice_get_read rooms (length rooms) c.from-room.result c.index.result.now refl there c.index.ensures in
    broken_here h.nodes h.node bytes rs rooms wide r c.from-room.result k c.index.result.now here c.in_default.ensures.refused

pub returns : goal.returns
returns c bytes rs placed are =
    let h = c.args.header.now in
    let r = c.args.entry.now in
    let rooms = c.widen.new.rooms.items in
    let own : c.room-number.result ≡ room_of r = cc in
    let few : c.room-number.result < 2 ^ 16 = subst (λ m. m < 2 ^ 16) (sym own) (room_fits r placed.fits) in
    let wide = widened bytes rs h.nodes h.node c.room-number.result c.args.rooms.now.items rooms few are c.in_ok-widen.ensures in
    let k : c.from-room.result ≡ room_of r = cc in
    let there : c.from-room.result < length rooms = omega (arith, own, k, c.in_ok-widen.ensures.there) in
    let here : slice_get rooms c.from-room.result ≡ Some c.index.result.now = slice_get_read rooms (length rooms) c.from-room.result c.index.result.now refl there c.index.ensures in
    let next = c.in-Some.ensures in
    found_next h.nodes h.node bytes rs rooms wide r c.from-room.result k c.index.result.now here c.args.place c.in-Some.next placed next.plain next.goes_on next.kept next.proposed next.place
