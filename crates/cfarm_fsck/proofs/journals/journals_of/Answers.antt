-- The journal of each node is read in turn.
use Rattle.std.proofs.Common.{◌≡◌, ℕ, length, get_or, refl, sym, ap, subst, ◌∙◌, arith}
use Rattle.std.proofs.lemmas.Option.{slice_get_read}
use Rattle.acceptor_log_form.specs.declared.header.Header.{Header}
use Rattle.acceptor_log_form.specs.declared.errors.LogError.{LogError}
use Rattle.farm_nodes_open_journals.specs.Journals.{header_of}
use Rattle.farm_nodes_open_seats.proofs.Nodes.{all_made, made_more}
use Rattle.farm_nodes_open_seats.proofs.Told.{journals_fault, no_refusal, no_room}
use Rattle.cfarm_fsck_journals.specs.Listed.{AreListedIn, AreRefusedIn}
use Rattle.cfarm_fsck.specs.Folder.{IsJournalIn, IsRefusedFile}
use Rattle.cfarm_fsck.proofs.journals.journals_of.Goals as goal

pub returns-in-Err-clause-refused : goal.returns-in-Err-clause-refused
returns-in-Err-clause-refused c i e told =
    let q = c.args.quorums in
    let digest = c.args.digest.now in
    let files = c.args.files.now in
    let node = c.loop-node.node in
    let x = c.index-files-from.result in
    let fault = c.in-Err.fault in
    let is = journals_fault node fault i e (sym c.of_journal.ensures ∙ told) in
    let same : x ≡ get_or files node x = c.index-files-from.is ∙ ap (λ k. get_or files k x) c.from.ensures in
    let got = slice_get_read files (length files) node x refl (omega arith) same in
    let refused = subst (λ (h : Header). AreRefusedIn h x.new.items x.old.items fault) c.header_of-header.ensures (c.in-Err.ensures.refused is.no_memory) in
    subst (λ (n : ℕ). IsRefusedFile q digest files n e) is.node_is (subst (λ (f : LogError). IsRefusedFile q digest files node f) is.fault_is (record {
      front = all_made (IsJournalIn q digest) files c.loop-node.journals.items node c.loop-node.invariant;
      refused = (x, got, refused);
    }))

pub returns-in-Err-clause-others : goal.returns-in-Err-clause-others
returns-in-Err-clause-others c =
    let node = c.loop-node.node in
    let fault = c.in-Err.fault in (
      λ i is. no_refusal node fault i (sym c.of_journal.ensures ∙ is),
      λ m f is. no_room node fault m f (sym c.of_journal.ensures ∙ is),
    )

pub loop-node-preserved : goal.loop-node-preserved
loop-node-preserved c =
    let q = c.args.quorums in
    let digest = c.args.digest.now in
    let files = c.args.files.now in
    let node = c.loop-node.node in
    let x = c.index-files-from.result in
    let found = c.in-Ok.found in
    let same : x ≡ get_or files node x = c.index-files-from.is ∙ ap (λ k. get_or files k x) c.from.ensures in
    let got = slice_get_read files (length files) node x refl (omega arith) same in
    let listed = subst (λ (h : Header). AreListedIn h x.new.items x.old.items found.1.items) c.header_of-header.ensures c.in-Ok.ensures.listed in
    made_more (IsJournalIn q digest) files node c.loop-node.journals.items c.push.new.self.items x found c.loop-node.invariant got
    (record { listed = listed; size = c.in-Ok.ensures.size }) c.in-Ok-push.ensures.items
