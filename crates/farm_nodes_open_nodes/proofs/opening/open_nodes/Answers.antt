-- The nodes of the pieces; or all disks, and what was refused.
use Rattle.std.proofs.Common.{◌≡◌, ◌++◌, inl, inr, ℕ, length, map, All, refl, sym, ap, subst, ◌∙◌, arith}
use Rattle.std.specs.Arc.{arc_value}
use Rattle.std.specs.Prelude.{option_to_list}
use Rattle.std.specs.Vec.Iter.{into_iter_items}
use Rattle.farm_nodes_open_join.specs.Words.{generators}
use Rattle.farm_nodes_open_lists.specs.Rows.{rows_of}
use Rattle.farm_nodes_open_nodes.proofs.Carried.{bad_of, refused_of, rows_from, seated_of, unopened_of}
use Rattle.farm_nodes_open_nodes.proofs.Disks.{all_of_them, back_at_fault, back_opened, back_same}
use Rattle.farm_nodes_open_nodes.proofs.FromJournals.{journals_on, open_from}
use Rattle.farm_nodes_open_nodes.proofs.Held.{held}
use Rattle.farm_nodes_open_seats.proofs.Lists.{all_map}
use Rattle.farm_nodes_open_nodes.proofs.FirstFault.{refused_journal}
use Rattle.farm_nodes_open_seats.proofs.Told.{no_refusal, no_room}
use Rattle.farm_nodes_open_nodes.proofs.opening.open_nodes.Goals as goal

pub returns-in_default-clause-back : goal.returns-in_default-clause-back
returns-in_default-clause-back g c = back_same g.P.Disk g.P.Pair c.args.quorums c.args.digest.now c.args.pairs.items

pub with_refused-requires : goal.with_refused-requires
with_refused-requires g c =
    let given = c.args.pairs.items in
    let refused = c.in-Err.refused in
    let all = all_of_them g.P.Disk g.P.Pair c.args.quorums c.args.digest.now given refused.node refused.fault refused.opened.items (into_iter_items refused.behind) refused.pair c.in-Err.ensures.refused in
    omega (arith, all, ap length c.in-Ok.ensures.items, c.in-Ok.ensures.capacity, c.len.ensures, c.args.pairs.ok.0)

pub returns-in-Err-clause-back : goal.returns-in-Err-clause-back
returns-in-Err-clause-back g c =
    let given = c.args.pairs.items in
    let refused = c.in-Err.refused in
    let none = ap (λ l. ((l ++ map (λ j. j.0.disk) refused.opened.items) ++ option_to_list refused.pair) ++ into_iter_items refused.behind) c.in-Ok.ensures.items in
    back_at_fault g.P.Disk g.P.Pair c.args.quorums c.args.digest.now given refused.node refused.fault refused.opened.items (into_iter_items refused.behind) refused.pair c.with_refused.result.items c.in-Err.ensures.refused (c.with_refused.ensures ∙ none)

pub returns-in-Err-clause-journal : goal.returns-in-Err-clause-journal
returns-in-Err-clause-journal g c node fault told =
    let refused = c.in-Err.refused in
    inl (refused_journal g.P.Disk g.P.Pair c.args.quorums c.args.digest.now c.args.pairs.items refused.node refused.fault refused.opened.items (into_iter_items refused.behind) refused.pair c.in-Err.ensures.refused node fault (sym c.of_journal-fault.ensures ∙ told))

pub returns-in-Err-clause-refused : goal.returns-in-Err-clause-refused
returns-in-Err-clause-refused g c node told = absurd (no_refusal c.in-Err.refused.node c.in-Err.refused.fault node (sym c.of_journal-fault.ensures ∙ told))

pub returns-in-Err-clause-unopened : goal.returns-in-Err-clause-unopened
returns-in-Err-clause-unopened g c room fault told = absurd (no_room c.in-Err.refused.node c.in-Err.refused.fault room fault (sym c.of_journal-fault.ensures ∙ told))

pub seats_of-requires-clause-size : goal.seats_of-requires-clause-size
seats_of-requires-clause-size g c κs within =
    ap length c.as_slice-before.ensures.value ∙ c.in-Ok-open_journals.ensures.opened.size ∙ c.requires.size

pub with_disks-requires : goal.with_disks-requires
with_disks-requires g c =
    omega (arith, c.in-Ok-open_journals.ensures.opened.size, ap length c.in-Ok.ensures.items, c.in-Ok.ensures.capacity, c.len.ensures, c.args.pairs.ok.0)

pub returns-in-Err-seats_of-clause-back : goal.returns-in-Err-seats_of-clause-back
returns-in-Err-seats_of-clause-back g c =
    let js = c.in-Ok-open_journals.journals.items in
    let is = c.with_disks.ensures.disks ∙ ap (λ l. l ++ map (λ j. j.0.disk) js) c.in-Ok.ensures.items in
    back_opened g.P.Disk g.P.Pair c.args.quorums c.args.digest.now c.args.pairs.items js c.with_disks.result.items c.in-Ok-open_journals.ensures.opened is

pub returns-in-Err-seats_of-clause-journal : goal.returns-in-Err-seats_of-clause-journal
returns-in-Err-seats_of-clause-journal g c node fault told =
    let bad = c.in-Err-seats_of.ensures.bad node fault told in
    let js = c.in-Ok-open_journals.journals.items in
    let count : c.len-functions.result ≡ length (arc_value c.args.program.now).functions = omega (arith, c.len-functions.ensures, ap (λ p. length p.functions) c.deref.ensures) in
    inr (bad.0, (js, c.in-Ok-open_journals.ensures.opened, bad_of c.len-functions.result (length (arc_value c.args.program.now).functions) c.as_slice-before.result.now js count c.as_slice-before.ensures.value node bad.1))

pub returns-in-Err-seats_of-clause-refused : goal.returns-in-Err-seats_of-clause-refused
returns-in-Err-seats_of-clause-refused g c node told =
    let js = c.in-Ok-open_journals.journals.items in
    let count : c.len-functions.result ≡ length (arc_value c.args.program.now).functions = omega (arith, c.len-functions.ensures, ap (λ p. length p.functions) c.deref.ensures) in
    (js, c.in-Ok-open_journals.ensures.opened, refused_of c.len-functions.result (length (arc_value c.args.program.now).functions) c.as_slice-before.result.now js count c.as_slice-before.ensures.value node (c.in-Err-seats_of.ensures.refused node told))

pub returns-in-Err-seats_of-clause-unopened : goal.returns-in-Err-seats_of-clause-unopened
returns-in-Err-seats_of-clause-unopened g c room fault told =
    let js = c.in-Ok-open_journals.journals.items in
    let count : c.len-functions.result ≡ length (arc_value c.args.program.now).functions = omega (arith, c.len-functions.ensures, ap (λ p. length p.functions) c.deref.ensures) in
    (js, c.in-Ok-open_journals.ensures.opened, unopened_of c.len-functions.result (length (arc_value c.args.program.now).functions) c.as_slice-before.result.now js count c.as_slice-before.ensures.value c.args.quorums room fault (c.in-Err-seats_of.ensures.unopened room fault told))

pub join_nodes-requires-clause-held : goal.join_nodes-requires-clause-held
join_nodes-requires-clause-held g c =
    let seats = c.in-Ok-seats_of.seats.items in
    held g.P.Disk g.P.Pair c.args.quorums c.args.digest.now c.args.pairs.items c.len-functions.result c.in-Ok-open_journals.journals.items seats c.in-Ok-open_journals.ensures.opened c.nodes-nodes.ensures.sizes
    (seated_of c.len-functions.result c.len-functions.result c.as_slice-before.result.now c.in-Ok-open_journals.journals.items refl c.as_slice-before.ensures.value c.args.quorums (rows_of seats) (rows_of seats) refl c.in-Ok-seats_of.ensures.seated)
    c.requires.size

pub join_nodes-requires-clause-functions : goal.join_nodes-requires-clause-functions
join_nodes-requires-clause-functions g c =
    let count : c.len-functions.result ≡ length (arc_value c.args.program.now).functions = omega (arith, c.len-functions.ensures, ap (λ p. length p.functions) c.deref.ensures) in
    let seats = c.in-Ok-seats_of.seats.items in
    subst (λ (n : ℕ). All (λ s. length s.items ≡ n) seats) count (all_map (λ s. s.items) (λ r. length r ≡ c.len-functions.result) seats c.in-Ok-seats_of.ensures.seated.long)

pub join_nodes-requires-clause-oracles : goal.join_nodes-requires-clause-oracles
join_nodes-requires-clause-oracles g c = c.requires.oracles ∙ sym c.in-Ok-open_journals.ensures.opened.size

pub returns-in-Err-join_nodes-clause-back : goal.returns-in-Err-join_nodes-clause-back
returns-in-Err-join_nodes-clause-back g c =
    let js = c.in-Ok-open_journals.journals.items in
    let same = ap (λ v. map (λ j. j.0.disk) v.items) c.in-Err-join_nodes.ensures.back in
    let is = c.with_disks-in-Err-join_nodes.ensures.disks ∙ ap (λ l. l ++ map (λ j. j.0.disk) c.in-Err-join_nodes.journals.items) c.in-Ok.ensures.items ∙ same in
    back_opened g.P.Disk g.P.Pair c.args.quorums c.args.digest.now c.args.pairs.items js c.with_disks-in-Err-join_nodes.result.items c.in-Ok-open_journals.ensures.opened is

pub returns-in-Ok-join_nodes-clause-journals : goal.returns-in-Ok-join_nodes-clause-journals
returns-in-Ok-join_nodes-clause-journals g c =
    journals_on g.P.Disk g.P.Pair c.args.quorums c.args.digest.now c.args.pairs.items c.in-Ok-open_journals.journals.items (map (λ n. n.log) c.in-Ok-join_nodes.nodes.items) c.in-Ok-open_journals.ensures.opened c.in-Ok-join_nodes.ensures.logs

pub returns-in-Ok-join_nodes-clause-draws : goal.returns-in-Ok-join_nodes-clause-draws
returns-in-Ok-join_nodes-clause-draws g c =
    c.in-Ok-join_nodes.ensures.draws ∙ ap (generators c.args.seed) c.in-Ok-open_journals.ensures.opened.size

pub returns-in-Ok-join_nodes-clause-rooms : goal.returns-in-Ok-join_nodes-clause-rooms
returns-in-Ok-join_nodes-clause-rooms g c =
    let count : c.len-functions.result ≡ length (arc_value c.args.program.now).functions = omega (arith, c.len-functions.ensures, ap (λ p. length p.functions) c.deref.ensures) in
    let js = c.in-Ok-open_journals.journals.items in
    let seats = c.in-Ok-seats_of.seats.items in
    let nodes = c.in-Ok-join_nodes.nodes.items in
    let rows_are = rows_from (λ n. n.seats) nodes seats c.in-Ok-join_nodes.ensures.seats in
    let seated = seated_of c.len-functions.result (length (arc_value c.args.program.now).functions) c.as_slice-before.result.now js count c.as_slice-before.ensures.value c.args.quorums (rows_of seats) (map (λ n. n.seats.items) nodes) rows_are c.in-Ok-seats_of.ensures.seated in
    open_from g.P.Disk g.P.Pair c.args.quorums c.args.digest.now c.args.pairs.items js (map (λ n. n.log) nodes) c.in-Ok-open_journals.ensures.opened c.in-Ok-join_nodes.ensures.logs (length (arc_value c.args.program.now).functions) (map (λ n. n.seats.items) nodes) seated
