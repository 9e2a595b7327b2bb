-- What is found of the rooms that are named is all there is.
use Rattle.std.proofs.Common.{◌<◌, ℕ, length, refl, sym, ap, subst, arith}
use Rattle.acceptor_log_translating.specs.Translating.{IsMigratedText}
use Rattle.acceptor_log_old.proofs.Rooms.{migrated-rooms}
use Rattle.acceptor_log_translating.proofs.Writable.{all_writable}
use Rattle.acceptor_log_translating.proofs.translating.text_of.Goals as goal

pub written-requires-clause-most : goal.written-requires-clause-most
written-requires-clause-most c = c.requires.1.most

pub written-requires-clause-each : goal.written-requires-clause-each
written-requires-clause-each c =
    let h = c.args.header.now in
    let few : h.nodes < 256 = subst (λ (n : ℕ). n < 256) c.nodes_of-nodes.ensures.is c.nodes_of-nodes.ensures.few in
    all_writable h.nodes h.node c.args.bytes.now c.requires.0 c.args.rooms.now few c.requires.1

pub returns-then-len-gt-MOST_BYTES-clause-refused : goal.returns-then-len-gt-MOST_BYTES-clause-refused
returns-then-len-gt-MOST_BYTES-clause-refused c memory rs are =
    let h = c.args.header.now in
    let made : IsMigratedText h _ c.in_ok-text.text = subst (λ l. IsMigratedText h l c.in_ok-text.text) (sym (migrated-rooms rs (length c.args.rooms.now) are.named are.most)) (c.in_ok-text.ensures.text rs are.each) in
    (refl, omega (arith, c.if-len-gt-MOST_BYTES.true, c.len.ensures, c.in_ok-text.text.bytes.ok.0, ap length made.bytes_are))

pub returns-clause-made : goal.returns-clause-made
returns-clause-made c rs are =
    let h = c.args.header.now in
    subst (λ l. IsMigratedText h l c.in_ok-text.text) (sym (migrated-rooms rs (length c.args.rooms.now) are.named are.most)) (c.in_ok-text.ensures.text rs are.each)
