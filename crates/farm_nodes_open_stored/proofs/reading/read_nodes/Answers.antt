-- The journal of each node is read in turn.
use Rattle.std.proofs.Common.{◌≡◌, List, length, get_or, refl, sym, ap, subst, ◌∙◌, arith}
use Rattle.std.proofs.lemmas.Option.{slice_get_read}
use Rattle.acceptor_log_form.specs.declared.record.Record.{Record}
use Rattle.farm_nodes_open_stored.specs.Read.{AreBad, AreKept, AreStored, IsKeptPart, IsStoredPart}
use Rattle.farm_nodes_open_stored.proofs.Nodes.{all_made, made_more}
use Rattle.farm_nodes_open_stored.proofs.reading.read_nodes.Goals as goal

pub returns-in-Err-put-clause-in_front : goal.returns-in-Err-put-clause-in_front
returns-in-Err-put-clause-in_front g c =
    let js = c.args.journals.now in
    let node = c.loop-node.node in
    record {
      kept = all_made (IsKeptPart c.args.functions (length js)) js c.loop-node.kept.items node c.loop-node.invariant.kept;
      stored = all_made IsStoredPart js c.loop-node.stored.items node c.loop-node.invariant.stored;
    }

pub returns-in-Err-clause-in_front : goal.returns-in-Err-clause-in_front
returns-in-Err-clause-in_front g c =
    let js = c.args.journals.now in
    let node = c.loop-node.node in
    record {
      kept = all_made (IsKeptPart c.args.functions (length js)) js c.loop-node.kept.items node c.loop-node.invariant.kept;
      stored = all_made IsStoredPart js c.loop-node.stored.items node c.loop-node.invariant.stored;
    }

pub returns-in-Err-clause-refused : goal.returns-in-Err-clause-refused
returns-in-Err-clause-refused g c memory =
    let js = c.args.journals.now in
    let node = c.loop-node.node in
    let j = c.index-journals-from.result in
    let records : c.as_slice-records.result.now ≡ j.1.items = c.as_slice-records.ensures.value ∙ ap (λ x. x.1.items) (sym c.index-journals-from.is) in
    let same : j ≡ get_or js node j = c.index-journals-from.is ∙ ap (λ k. get_or js k j) c.from.ensures in
    let got = slice_get_read js (length js) node j refl (omega arith) same in
    (j, got, subst (λ (rs : List Record). AreBad c.args.functions (length js) node rs) records (c.in-Err.ensures.refused memory).1)

pub returns-in-Err-clause-bad : goal.returns-in-Err-clause-bad
returns-in-Err-clause-bad g c memory = (c.in-Err.ensures.refused memory).0

pub loop-node-preserved : goal.loop-node-preserved
loop-node-preserved g c =
    let js = c.args.journals.now in
    let node = c.loop-node.node in
    let j = c.index-journals-from.result in
    let records : c.as_slice-records.result.now ≡ j.1.items = c.as_slice-records.ensures.value ∙ ap (λ x. x.1.items) (sym c.index-journals-from.is) in
    let same : j ≡ get_or js node j = c.index-journals-from.is ∙ ap (λ k. get_or js k j) c.from.ensures in
    let got = slice_get_read js (length js) node j refl (omega arith) same in
    let is = c.loop-node.invariant in
    let read = c.in-Ok.read in
    let e = c.in-Ok.ensures in
    let kept = subst (λ (rs : List Record). AreKept c.args.functions (length js) node rs read.0.items) records e.kept in
    let stored = subst (λ (rs : List Record). AreStored rs read.1) records e.stored in
    record {
      kept = made_more (IsKeptPart c.args.functions (length js)) js node c.loop-node.kept.items c.put.new.kept.items j read.0 is.kept got kept c.in-Ok-put.ensures.kept;
      stored = made_more IsStoredPart js node c.loop-node.stored.items c.put.new.stored.items j read.1 is.stored got stored c.in-Ok-put.ensures.stored;
    }
