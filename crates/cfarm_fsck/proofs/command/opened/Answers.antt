-- The folder opens, or is refused.
use Rattle.std.proofs.Common.{◌≡◌, ℕ, ◌<◌, List, length, sym, ap, subst, ◌∙◌}
use Rattle.std.specs.Global.{Vec}
use Rattle.paxos_core_world.specs.KeptPart.{KeptPart}
use Rattle.acceptor_log_form.specs.declared.record.Record.{Record}
use Rattle.farm_nodes_open_seats.specs.Checked.{WereAccepted}
use Rattle.farm_nodes_open_seats.specs.Nodes.{AreMade}
use Rattle.farm_nodes_open_seats.specs.Read.{IsKeptPart}
use Rattle.farm_nodes_open_seats.specs.Kept.{AreSettled}
use Rattle.cfarm_fsck.proofs.Accepted.{all_accepted}
use Rattle.cfarm_fsck.proofs.Opening.{journals_refused, rooms_refused}
use Rattle.cfarm_fsck.proofs.command.opened.Goals as goal

pub returns-in-Err-clause-refused : goal.returns-in-Err-clause-refused
returns-in-Err-clause-refused g c =
    journals_refused c.args.quorums c.args.digest.now c.args.program.now c.args.files.now c.in-Err.fault c.in-Err.ensures.refused c.in-Err.ensures.others

pub rooms_of-requires-clause-size : goal.rooms_of-requires-clause-size
rooms_of-requires-clause-size g c κs lives = ap length c.as_slice-before.ensures.value ∙ c.in-Ok.ensures.listed.count ∙ c.requires.size

pub returns-in-Err-rooms_of-clause-refused : goal.returns-in-Err-rooms_of-clause-refused
returns-in-Err-rooms_of-clause-refused g c =
    let e = c.in-Err-rooms_of.ensures in
    rooms_refused c.args.quorums c.args.digest.now c.args.program.now c.args.files.now c.functions_of-functions.result c.as_slice-before.result.now c.in-Ok.journals.items
    c.in-Err-rooms_of.fault c.functions_of-functions.ensures c.as_slice-before.ensures.value c.in-Ok.ensures.listed e.bad e.refused e.unopened

pub returns-in-Ok-rooms_of-clause-opens : goal.returns-in-Ok-rooms_of-clause-opens
returns-in-Ok-rooms_of-clause-opens g c =
    let e = c.in-Ok-rooms_of.ensures in
    let kept = c.in-Ok-rooms_of.kept.items in
    let count = c.functions_of-functions.ensures in
    let functions = length c.args.program.now.functions in
    record {
      listed = c.in-Ok.ensures.listed;
      are_kept = subst (λ (js : List (ℕ × Vec Record)). AreMade (IsKeptPart functions (length js)) js (length js) kept) c.as_slice-before.ensures.value
          (subst (λ (n : ℕ). AreMade (IsKeptPart n (length c.as_slice-before.result.now)) c.as_slice-before.result.now (length c.as_slice-before.result.now) kept) count e.kept);
      accepted = subst (λ (js : List (ℕ × Vec Record)). WereAccepted js (length js)) c.as_slice-before.ensures.value
          (all_accepted c.args.quorums c.functions_of-functions.result c.as_slice-before.result.now _ e.seated);
      settled = subst (λ (n : ℕ). (f : ℕ) → f < n → AreSettled c.args.quorums kept f) count e.settled;
    }
