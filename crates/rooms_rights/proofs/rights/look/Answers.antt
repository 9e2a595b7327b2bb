-- Why `look` may call `load`.
use Rattle.std.proofs.Common.{refl}
use Rattle.rooms_rights.proofs.Sweeping.{may_after_proposer, may_look_acceptor, may_look_proposer}
use Rattle.rooms_rights.proofs.rights.look.Goals as goal

pub load-seen-requires : goal.load-seen-requires
load-seen-requires c =
    let can = c.requires in
    may_look_proposer c.args.board.now.table_id can.held can.count c.args.token.now.table_id c.args.token.now.me can.may can.node c.args.place can.below can.stands c.args.token.now.id c.args.board.now.key c.args.board.now.table_id refl

pub load-requires : goal.load-requires
load-requires c =
    let can = c.requires in
    let seen = c.load-seen.ensures in
    let may = may_after_proposer c.args.board.now.table_id can.held can.count c.args.token.now.table_id c.args.token.now.me can.may can.node c.args.place can.below can.stands c.args.board.now.table_id refl c.load-seen.result
    c.load-seen.new.seat.me seen.2 c.load-seen.new.seat.table_id seen.0 in
    may_look_acceptor c.args.board.now.table_id can.held can.count c.load-seen.new.seat.table_id c.load-seen.new.seat.me may can.node c.args.place can.below can.stands c.load-seen.new.seat.id c.args.board.now.key c.args.board.now.table_id refl
