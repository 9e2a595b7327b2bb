-- What is found of an old journal is found of one list of records, or that is broken.
use Rattle.std.proofs.Common.{inl, sym, subst}
use Rattle.acceptor_log_translating.specs.Found.{AreFound}
use Rattle.acceptor_log_translating.proofs.OldRead.{not_read, is_broken, can_migrate, made_of, too_long}
use Rattle.acceptor_log_translating.proofs.translating.translate.Goals as goal

pub returns-in-Err-clause-refused : goal.returns-in-Err-clause-refused
returns-in-Err-clause-refused c memory = inl c.in-Err.ensures.refused.1

pub returns-in-Err-find-clause-refused : goal.returns-in-Err-find-clause-refused
returns-in-Err-find-clause-refused c memory =
    let behind = c.in-Ok.ensures in
    let refused = c.in-Err-find.ensures.refused memory in
    not_read c.args.header.now c.args.bytes.now c.in-Ok.behind.now _ refused.0 behind.form behind.header behind.behind refused.1

pub returns-then-not-are_sound-clause-refused : goal.returns-then-not-are_sound-clause-refused
returns-then-not-are_sound-clause-refused c memory =
    let behind = c.in-Ok.ensures in
    let found = c.in-Ok-find.ensures.found in
    is_broken c.args.header.now c.args.bytes.now c.in-Ok.behind.now found.0 behind.form behind.header behind.behind found.1 (found.2.broken cc)

pub text_of-requires : goal.text_of-requires
text_of-requires c =
    let h = c.args.header.now in
    let found = c.in-Ok-find.ensures.found in
    (found.0, subst (AreFound h.nodes h.node c.in-Ok.behind.now found.0) (sym c.deref.ensures.value) (found.2.sound cc))

pub returns-clause-made : goal.returns-clause-made
returns-clause-made c =
    let h = c.args.header.now in
    let behind = c.in-Ok.ensures in
    let found = c.in-Ok-find.ensures.found in
    let are = found.2.sound cc in
    made_of h c.args.bytes.now c.in-Ok.behind.now c.deref.result.now found.0 c.text_of.result (can_migrate h c.args.bytes.now c.in-Ok.behind.now found.0 behind.header behind.behind found.1 are.plain are.in_order)
    (subst (AreFound h.nodes h.node c.in-Ok.behind.now found.0) (sym c.deref.ensures.value) are) c.text_of.ensures.made

pub returns-clause-refused : goal.returns-clause-refused
returns-clause-refused c =
    let h = c.args.header.now in
    let behind = c.in-Ok.ensures in
    let found = c.in-Ok-find.ensures.found in
    let are = found.2.sound cc in
    too_long h c.args.bytes.now c.in-Ok.behind.now c.deref.result.now found.0 c.text_of.result (can_migrate h c.args.bytes.now c.in-Ok.behind.now found.0 behind.header behind.behind found.1 are.plain are.in_order)
    (subst (AreFound h.nodes h.node c.in-Ok.behind.now found.0) (sym c.deref.ensures.value) are) c.text_of.ensures.refused
