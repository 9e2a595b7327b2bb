-- Why `find` meets its clauses `found`, `in_order` and `refused`.
use Rattle.std.proofs.Common.{◌≡◌, ◌≢◌, ◌*◌, List, length, sym, subst, arith}
use Rattle.std.proofs.lemmas.List.{length-map}
use Rattle.paxos_core_world.specs.KeptPart.{KeptPart}
use Rattle.acceptor_log_form.specs.Order.{AreInOrder}
use Rattle.farm_nodes_turn_passes.specs.Fours.{four_of, fours_of}
use Rattle.acceptor_log_form.specs.declared.errors.LogError.TheVariants.{BadRecord, NoMemory}
use Rattle.farm_nodes_turn_passes.specs.Texts.{pass_texts}
use Rattle.farm_nodes_restart_records.specs.Found.{IsFound, ShowFront, ShowParts}
use Rattle.farm_nodes_restart_records.specs.Told.{IsConfirmed}
use Rattle.farm_nodes_restart_records.proofs.Texts.{err_as, ok_as, on_ok}
use Rattle.farm_nodes_restart_records.proofs.Leaving.{found_judged, refused_of}
use Rattle.farm_nodes_restart_records.proofs.finding.find.Goals as goal

pub returns-in-Ok-clause-found : goal.returns-in-Ok-clause-found
returns-in-Ok-clause-found g c =
    ok_as c.confirmed.result (IsConfirmed pass_texts (fours_of c.args.seats.now.items) c.args.records.now c.judged-kept.result)
    (IsFound pass_texts (fours_of c.args.seats.now.items) c.args.room c.args.pending.now c.args.records.now) (λ f confirmed.
    let rooms = 4 * c.len.result in
    let rs = c.args.records.now in
    let seats = fours_of c.args.seats.now.items in
    let size : 4 * c.len.result ≡ 4 * length (fours_of c.args.seats.now.items) = omega (arith, c.len.ensures, c.args.seats.now.ok.0, length-map c.args.seats.now.items four_of) in
    found_judged c.args.header.now.nodes c.args.header.now.node rooms rs seats c.args.room c.args.pending.now
    c.as_slice.result.now c.as_slice-in-Ok.result.now c.is_last-last.result size c.in-Ok.ensures.in_order
    (subst (λ (l : List KeptPart). ShowParts rooms l rs) (sym c.as_slice.ensures.value) c.in-Ok.ensures.whole)
    (subst (λ (l : List KeptPart). ShowFront rooms l rs) (sym c.as_slice-in-Ok.ensures.value) c.in-Ok.ensures.front)
    c.is_last-last.ensures pass_texts c.judged-kept.result f c.judged-kept.ensures confirmed) c.confirmed.ensures.ok

pub returns-in-Ok-clause-in_order : goal.returns-in-Ok-clause-in_order
returns-in-Ok-clause-in_order g c =
    let size : 4 * c.len.result ≡ 4 * length c.args.seats.now.items = omega (arith, c.len.ensures, c.args.seats.now.ok.0) in
    on_ok c.confirmed.result (subst (λ m. AreInOrder c.args.header.now.nodes c.args.header.now.node m c.args.records.now) size c.in-Ok.ensures.in_order)

pub returns-in-Ok-clause-refused : goal.returns-in-Ok-clause-refused
returns-in-Ok-clause-refused g c =
    err_as c.confirmed.result (λ e. e ≡ NoMemory)
    (λ e. e ≢ NoMemory → (e ≡ BadRecord) × (AreInOrder c.args.header.now.nodes c.args.header.now.node (4 * length c.args.seats.now.items) c.args.records.now → ⊥))
    (λ e is other. absurd (other is)) c.confirmed.ensures.refused

pub returns-in-Err-clause-refused : goal.returns-in-Err-clause-refused
returns-in-Err-clause-refused g c =
    let size : 4 * c.len.result ≡ 4 * length c.args.seats.now.items = omega (arith, c.len.ensures, c.args.seats.now.ok.0) in
    refused_of c.args.header.now.nodes c.args.header.now.node (4 * c.len.result) (4 * length c.args.seats.now.items) c.args.records.now c.in-Err.error size c.in-Err.ensures.refused
