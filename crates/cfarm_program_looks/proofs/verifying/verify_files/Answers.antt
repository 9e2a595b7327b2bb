-- What was read is what is told, or what the answer is of.
use denote.Param.Send.{sendable}
use Rattle.std.proofs.Common.{refl, Ok, Err, subst}
use Rattle.std.proofs.Crossing.{crosses}
use Rattle.cfarm_program_status.specs.Reading.{unread}
use Rattle.cfarm_program_looks.specs.Reading.{AreRead}
use Rattle.cfarm_program_looks.proofs.Sent.{fault_send, source_send}
use Rattle.cfarm_program_looks.proofs.verifying.verify_files.Goals as goal

pub returns-in-NoProgram-clause-does : goal.returns-in-NoProgram-clause-does
returns-in-NoProgram-clause-does g c =
    let fault = c.in-NoProgram.fault in
    let known = g.F.Files.known c.args.files.now in
    let read = subst (λ r. AreRead (known c.args.program_path.now) (known c.args.path.now) r) c.in-NoProgram.is c.join-source.ensures.second in
    (unread c.args.program_path.now fault, (Err fault, read, (refl, refl)), c.tell_unread.ensures.told)

pub returns-in-NoBundle-clause-does : goal.returns-in-NoBundle-clause-does
returns-in-NoBundle-clause-does g c =
    let fault = c.in-NoBundle.fault in
    let known = g.F.Files.known c.args.files.now in
    let read = subst (λ r. AreRead (known c.args.program_path.now) (known c.args.path.now) r) c.in-NoBundle.is c.join-source.ensures.second in
    (unread c.args.path.now fault, (Ok read.0.0, read.0.1, (Err fault, read.1, (refl, refl))), c.tell_unread-in-NoBundle.ensures.told)

pub returns-in-Both-clause-does : goal.returns-in-Both-clause-does
returns-in-Both-clause-does g c =
    let known = g.F.Files.known c.args.files.now in
    let read = subst (λ r. AreRead (known c.args.program_path.now) (known c.args.path.now) r) c.in-Both.is c.join-source.ensures.second in
    let first = rw c.as_slice-bytes.ensures.value at c.verify_claim.ensures.does in
    let it = rw c.as_slice-offers.ensures.value at first in
    (it.0, (Ok c.in-Both.program.items, read.0, (Ok c.in-Both.bundle.items, read.1, it.1)), it.2)

pub join-source-requires-send-A : goal.join-source-requires-send-A
join-source-requires-send-A g c κs within = search (source_send, fault_send, sendable, crosses) depth 60 fits 20000
