-- Why `gather` meets its clauses `same` and `taken`, and its loop over `number` keeps the invariant.
use Rattle.std.proofs.Common.{◌≡◌, ℕ, ◌+◌, ◌%◌, ◌<◌, ◌≤◌, List, [], ◌∷◌, ◌++◌, length, map, take, drop, slice_index_or, vec_items, vec_len, vec_capacity, refl, sym, ap, ◌∙◌, subst, subst₂, arith}
use Rattle.std.proofs.lemmas.Nat.{mod_below}
use Rattle.farm_nodes_threads_pace.specs.After.{Goes}
use Rattle.farm_nodes_threads_teams.specs.Taken.{HasTaken}
use Rattle.farm_nodes_threads_teams.specs.Dealt.{add_at, AreDealt, IsSame}
use Rattle.farm_nodes_threads_teams.proofs.Stacks.{all_back, gathered_one, some_left, take_all}
use Rattle.farm_nodes_threads_teams.proofs.Taking.{has_taken}
use Rattle.farm_nodes_threads_teams.proofs.dealing.gather.Goals as goal

pub returns-in_default : goal.returns-in_default
returns-in_default g c =
    let i = c.loop-number.invariant in let turned = g.N.TakesTurns.turned in let fit = g.N.TakesTurns.is_fit in
    let w = vec_len c.args.teams in let here = c.loop-number.nodes.items in let at = c.loop-number.number % c.len.result in
    let many : length here ≡ c.loop-number.number = omega (arith, i.0, c.loop-number.nodes.ok.0) in
    let workers : c.len.result ≡ w = c.len.ensures ∙ i.2 in
    let same : at ≡ length here % w = ap (λ n. n % c.len.result) (sym many) ∙ ap (λ k. length here % k) workers in
    let low : at < w = subst (λ k. c.loop-number.number % c.len.result < k) workers (mod_below c.loop-number.number c.len.result (omega (arith, workers, c.requires.some))) in
    let short : (xs : List g.row.N.Denot) → length xs ≡ c.args.count → length here < length xs = λ xs long. omega (arith, long, many, c.loop-number-test.true) in
    let none = subst (λ l. slice_index_or (map vec_items l) at [] ≡ []) c.deref_mut.ensures.value (c.in_default.ensures.none refl) in
    record {
      same = λ xs long d. absurd (some_left IsSame (λ x p. p.node ≡ x) w xs here at (map vec_items c.loop-number.teams.items) same low (short xs long) (i.3 xs long d) none);
      taken = λ xs turns long d. absurd (some_left (HasTaken turned fit turns) (λ x p. Goes turned fit x turns p.node p.left) w xs here at
          (map vec_items c.loop-number.teams.items) same low (short xs long) (i.4 xs turns long d) none);
    }

pub loop-number-preserved : goal.loop-number-preserved
loop-number-preserved g c =
    let i = c.loop-number.invariant in let turned = g.N.TakesTurns.turned in let fit = g.N.TakesTurns.is_fit in
    let w = vec_len c.args.teams in let here = c.loop-number.nodes.items in let at = c.loop-number.number % c.len.result in
    let many : length here ≡ c.loop-number.number = omega (arith, i.0, c.loop-number.nodes.ok.0) in
    let workers : c.len.result ≡ w = c.len.ensures ∙ i.2 in
    let same : at ≡ length here % w = ap (λ n. n % c.len.result) (sym many) ∙ ap (λ k. length here % k) workers in
    let low : at < w = subst (λ k. c.loop-number.number % c.len.result < k) workers (mod_below c.loop-number.number c.len.result (omega (arith, workers, c.requires.some))) in
    let short : (xs : List g.row.N.Denot) → length xs ≡ c.args.count → length here < length xs = λ xs long. omega (arith, long, many, c.loop-number-test.true) in
    let node = c.into_node.result in let player = c.in-Some.player in let new = c.take.new.teams in
    let is = subst (λ l. map vec_items l ≡ add_at at player (map vec_items new)) c.deref_mut.ensures.value c.in-Some.ensures.some in
    let whole : length new ≡ c.loop-number.teams.len = omega (arith, c.take.auto.teams, c.deref_mut.ensures.len) in
    let back = sym (take_all new (drop (length new) c.loop-number.teams.items) c.loop-number.teams.len whole) in (
      omega (arith, c.put.ensures.len, i.0),
      omega (arith, c.put.ensures.capacity, i.1),
      i.2,
      (λ xs long d. subst₂ (λ h t. AreDealt IsSame (λ x p. p.node ≡ x) w xs h (map vec_items t)) (sym c.put.ensures.items) back
          (gathered_one IsSame (λ x p. p.node ≡ x) w xs here node player at (map vec_items c.loop-number.teams.items) (map vec_items new)
          (λ x s. c.into_node.ensures ∙ s) same low (short xs long) is (i.3 xs long d))),
      (λ xs turns long d. subst₂ (λ h t. AreDealt (HasTaken turned fit turns) (λ x p. Goes turned fit x turns p.node p.left) w xs h (map vec_items t))
          (sym c.put.ensures.items) back
          (gathered_one (HasTaken turned fit turns) (λ x p. Goes turned fit x turns p.node p.left) w xs here node player at
          (map vec_items c.loop-number.teams.items) (map vec_items new)
          (λ x s. has_taken turned fit x player.node node turns player.left c.into_node.ensures s) same low (short xs long) is (i.4 xs turns long d))),
    )

pub returns-clause-same : goal.returns-clause-same
returns-clause-same g c =
    let i = c.loop-number.invariant in
    λ xs long d. all_back IsSame (λ x p. p.node ≡ x) (vec_len c.args.teams) xs c.loop-number.nodes.items (map vec_items c.loop-number.teams.items)
    (omega (arith, long, i.0, c.loop-number.nodes.ok.0, c.loop-number-test.false)) (i.3 xs long d)

pub returns-clause-taken : goal.returns-clause-taken
returns-clause-taken g c =
    let i = c.loop-number.invariant in let turned = g.N.TakesTurns.turned in let fit = g.N.TakesTurns.is_fit in
    λ xs turns long d. all_back (HasTaken turned fit turns) (λ x p. Goes turned fit x turns p.node p.left) (vec_len c.args.teams) xs
    c.loop-number.nodes.items (map vec_items c.loop-number.teams.items)
    (omega (arith, long, i.0, c.loop-number.nodes.ok.0, c.loop-number-test.false)) (i.4 xs turns long d)
