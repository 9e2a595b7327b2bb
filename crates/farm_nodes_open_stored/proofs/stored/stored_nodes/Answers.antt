-- What was read, and checked again, of each node.
use Rattle.std.proofs.Common.{length}
use Rattle.farm_nodes_open_stored.specs.Read.{IsKeptPart, IsStoredPart}
use Rattle.farm_nodes_open_stored.specs.Checked.{AreAccepted, AreAsMany, HasRefused, WasAccepted, WasRefused}
use Rattle.farm_nodes_open_stored.proofs.Nodes.{all_first, all_made, all_of, at_of, front_of}
use Rattle.farm_nodes_open_stored.proofs.Offered.{all_many, offers_of}
use Rattle.farm_nodes_open_stored.proofs.stored.stored_nodes.Goals as goal

pub returns-in-Err-clause-bad : goal.returns-in-Err-clause-bad
returns-in-Err-clause-bad g c told = c.in-Err.ensures.refused (λ memory. absurd (cc))

pub checked_nodes-requires-clause-rooms : goal.checked_nodes-requires-clause-rooms
checked_nodes-requires-clause-rooms g c κs within =
    all_of IsStoredPart c.args.journals.now c.in-Ok.read.1.items c.in-Ok.ensures.stored AreAsMany (λ i x y is. all_many x.1.items y is)

pub returns-in-Ok-checked_nodes-clause-offers : goal.returns-in-Ok-checked_nodes-clause-offers
returns-in-Ok-checked_nodes-clause-offers g c =
    offers_of c.args.functions c.args.journals.now c.in-Ok.read.1.items c.in-Ok-checked_nodes.offers c.in-Ok.ensures.stored c.in-Ok-checked_nodes.ensures.checked

pub returns-in-Err-checked_nodes-clause-in_front : goal.returns-in-Err-checked_nodes-clause-in_front
returns-in-Err-checked_nodes-clause-in_front g c =
    let js = c.args.journals.now in
    let node = c.in-Err-checked_nodes.bad.node in
    record {
      kept = all_first (IsKeptPart c.args.functions (length js)) js node (all_made (IsKeptPart c.args.functions (length js)) js c.in-Ok.read.0.items (length js) c.in-Ok.ensures.kept);
      stored = all_first IsStoredPart js node (all_made IsStoredPart js c.in-Ok.read.1.items (length js) c.in-Ok.ensures.stored);
    }

pub returns-in-Err-checked_nodes-clause-all_read : goal.returns-in-Err-checked_nodes-clause-all_read
returns-in-Err-checked_nodes-clause-all_read g c told =
    let js = c.args.journals.now in
    record {
      kept = all_made (IsKeptPart c.args.functions (length js)) js c.in-Ok.read.0.items (length js) c.in-Ok.ensures.kept;
      stored = all_made IsStoredPart js c.in-Ok.read.1.items (length js) c.in-Ok.ensures.stored;
    }

pub returns-in-Err-checked_nodes-clause-accepted : goal.returns-in-Err-checked_nodes-clause-accepted
returns-in-Err-checked_nodes-clause-accepted g c told =
    front_of IsStoredPart c.args.journals.now c.in-Ok.read.1.items c.in-Ok.ensures.stored AreAccepted WasAccepted c.in-Err-checked_nodes.bad.node
    (λ i x y is all. record { stored = y; written = is; accepted = all }) c.in-Err-checked_nodes.ensures.in_front

pub returns-in-Err-checked_nodes-clause-refused : goal.returns-in-Err-checked_nodes-clause-refused
returns-in-Err-checked_nodes-clause-refused g c told =
    at_of IsStoredPart c.args.journals.now c.in-Ok.read.1.items c.in-Ok.ensures.stored (λ i all. HasRefused all) (λ i j. WasRefused j) c.in-Err-checked_nodes.bad.node
    (λ i x y is bad. record { stored = y; written = is; refused = bad }) (c.in-Err-checked_nodes.ensures.refused (λ memory. absurd (cc)))
