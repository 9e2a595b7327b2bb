-- Why `note` meets its contract.
use Rattle.std.proofs.Common.{◌≡◌, true, [], ◌∷◌, ◌++◌, refl}
use Rattle.acceptor_log_translating.specs.declared.finding.Found.{Found}
use Rattle.acceptor_log_translating.proofs.FoundNext.{broken_more, found_in}
use Rattle.acceptor_log_translating.proofs.finding.note.Goals as goal

pub returns-then-not-found : goal.returns-then-not-found
returns-then-not-found c bytes rs placed was = record {
  sound = λ is. absurd cc;
  broken = λ is. broken_more c.args.header.now.nodes c.args.header.now.node rs c.args.entry.now (was.broken cc);
}

pub returns : goal.returns
returns c bytes rs placed was =
    let sound : c.args.found.now.are_sound ≡ true = cc in
    let found : Found = record { rooms = c.put_down.new.rooms; are_sound = c.in_ok-goes.goes } in
    found_in c.args.header.now.nodes c.args.header.now.node bytes (rs ++ c.args.entry.now ∷ []) found c.in_ok-goes.goes refl (c.in_ok-goes.ensures bytes rs placed (was.sound sound))
