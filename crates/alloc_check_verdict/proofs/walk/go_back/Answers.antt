-- Why `go_back` meets its contract, and it may call `take_behind`, `is_marked` and `is_enough`.
use Rattle.std.proofs.Common.{◌≡◌, ◌<◌, [], false, true, sym, ◌∙◌, subst, arith, length}
use Rattle.std.specs.Prelude.{◌↔◌, All, Contains, IsTrue}
use Rattle.std.proofs.lemmas.Bool.{iff_false}
use Rattle.std.proofs.lemmas.List.{get_or_default}
use Rattle.std.proofs.lemmas.Option.{slice_get_within}
use Rattle.alloc_check_rules.specs.Pairs.{successors_of}
use Rattle.alloc_check_rules.specs.Rules.{equations_at}
use Rattle.alloc_check_proof.specs.Fill.{needed}
use Rattle.alloc_check_proof.specs.Sets.{SameSet}
use Rattle.alloc_check_proof.proofs.Blocks.{same_through}
use Rattle.alloc_check_proof.specs.Allocated.{filled}
use Rattle.alloc_check_lists.specs.Ranks.{RiseFrom}
use Rattle.alloc_check_verdict.specs.Right.{BeginsRight}
use Rattle.alloc_check_verdict.specs.Walk.{found_in}
use Rattle.alloc_check_verdict.proofs.Turns.{behind_within, after_same, filled_same, right_unmarked, right_broken, right_marked}
use Rattle.alloc_check_verdict.proofs.Known.{marked_is, unmarked_is, known_marked, known_filled}
use Rattle.alloc_check_verdict.proofs.walk.go_back.Goals as goal

pub take_behind-requires : goal.take_behind-requires
take_behind-requires c =
    behind_within c.args.input.now c.args.output.now [] c.requires.input c.requires.nodes c.args.n c.args.instruction.now c.args.block.now c.requires.instruction c.requires.block c.args.lists.now c.requires.lists

pub is_marked-requires-clause-within : goal.is_marked-requires-clause-within
is_marked-requires-clause-within c = slice_get_within c.args.input.now.nodes c.args.n c.args.instruction.now c.requires.instruction

pub bounds-lists-n : goal.bounds-lists-n
bounds-lists-n c =
    let here = slice_get_within c.args.input.now.nodes c.args.n c.args.instruction.now c.requires.instruction in
    let count : length c.take_behind.new.lists ≡ length c.args.lists.now = c.in_ok-found.ensures.left.count in
    omega (arith, here, count, c.requires.lists)

pub returns-then-not-is_marked : goal.returns-then-not-is_marked
returns-then-not-is_marked c = λ rows are_said known.
    let input = c.args.input.now in
    let output = c.args.output.now in
    let n = c.args.n in
    let i = c.args.instruction.now in
    let b = c.args.block.now in
    let old = c.args.lists.now in
    let new = c.take_behind.new.lists in
    let found = found_in c.in_ok-found.found in
    let unmarked = unmarked_is input n (iff_false c.is_marked.ensures c.if-not-is_marked.true) in
    let same = after_same input output rows c.requires.input c.requires.nodes n i b c.requires.instruction c.requires.block c.args.feeders.now c.requires.feeders c.args.said.now old are_said known found c.in_ok-found.ensures.equations in
    let tidied = c.put_in_order.new.equations.items in
    let told = equations_at (filled input output rows) n in
    let filled' = filled_same input output rows c.requires.input c.requires.nodes n i b c.requires.instruction c.requires.block found same unmarked in
    let is_needed : c.told_before.new.out.items ≡ needed i b found = rw c.equations_in-found.ensures at c.in_ok-keeps.ensures.needed in
    let flipped : SameSet tidied (needed i b found) = subst (SameSet tidied) is_needed (λ e. ((c.put_in_order.ensures e).1, (c.put_in_order.ensures e).0)) in
    let set = same_through tidied (needed i b found) told flipped filled' in (
      right_unmarked input output rows c.requires.input c.requires.nodes n i b c.requires.instruction c.requires.block found same unmarked c.in_ok-keeps.keeps (rw c.equations_in-found.ensures at c.in_ok-keeps.ensures.keeps),
      rw c.from_vec.ensures (known_filled input output rows c.args.feeders.now c.requires.feeders n i c.requires.instruction old new known c.in_ok-found.ensures.left unmarked tidied set),
    )

pub returns-then-not-keeps : goal.returns-then-not-keeps
returns-then-not-keeps c = λ rows are_said known.
    let input = c.args.input.now in
    let output = c.args.output.now in
    let n = c.args.n in
    let i = c.args.instruction.now in
    let b = c.args.block.now in
    let old = c.args.lists.now in
    let found = found_in c.in_ok-found.found in
    let marked = marked_is input n (c.is_marked.ensures.0 c.if-not-is_marked.false) in
    let same = after_same input output rows c.requires.input c.requires.nodes n i b c.requires.instruction c.requires.block c.args.feeders.now c.requires.feeders c.args.said.now old are_said known found c.in_ok-found.ensures.equations in
    let broken = iff_false (rw c.equations_in-found.ensures at c.in_ok-keeps.ensures.keeps) c.if-not-keeps.true in (
      (
        λ no. absurd (let impossible : false ≡ true = no in cc),
        λ right. absurd (right_broken input output rows c.requires.input c.requires.nodes n i b c.requires.instruction c.requires.block found same broken right),
      ),
      known_marked input output rows c.args.feeders.now c.requires.feeders n i c.requires.instruction old c.take_behind.new.lists known c.in_ok-found.ensures.left marked,
    )

pub is_enough-requires : goal.is_enough-requires
is_enough-requires c =
    subst (RiseFrom 0) (sym c.at.ensures) (c.requires.rising (c.is_marked.ensures.0 c.if-not-is_marked.false))

pub returns : goal.returns
returns c = λ rows are_said known.
    let input = c.args.input.now in
    let output = c.args.output.now in
    let n = c.args.n in
    let i = c.args.instruction.now in
    let b = c.args.block.now in
    let old = c.args.lists.now in
    let new = c.take_behind.new.lists in
    let found = found_in c.in_ok-found.found in
    let here = slice_get_within input.nodes n i c.requires.instruction in
    let marked = marked_is input n (c.is_marked.ensures.0 c.if-not-is_marked.false) in
    let same = after_same input output rows c.requires.input c.requires.nodes n i b c.requires.instruction c.requires.block c.args.feeders.now c.requires.feeders c.args.said.now old are_said known found c.in_ok-found.ensures.equations in
    let keeps = (rw c.equations_in-found.ensures at c.in_ok-keeps.ensures.keeps).0 c.if-not-keeps.false in
    let is_needed : c.told_before.new.out.items ≡ needed i b found = rw c.equations_in-found.ensures at c.in_ok-keeps.ensures.needed in
    let enough = subst (λ es. IsTrue c.is_enough.result ↔ (BeginsRight input output n c.at.result.now × All (Contains c.at.result.now) es)) (c.as_slice.ensures.value ∙ is_needed) c.is_enough.ensures in (
      right_marked input output rows c.requires.input c.requires.nodes n i b c.requires.instruction c.requires.block found same keeps c.at.result.now
          (c.at.ensures ∙ are_said.marked n here marked) c.is_enough.result enough,
      known_marked input output rows c.args.feeders.now c.requires.feeders n i c.requires.instruction old new known c.in_ok-found.ensures.left marked,
    )
