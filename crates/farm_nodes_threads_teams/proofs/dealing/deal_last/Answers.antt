-- Why `deal_last` meets its clause `dealt`.
use Rattle.std.proofs.Common.{◌≡◌, ◌%◌, length, map, vec_items, ap, ◌∙◌, sym, subst, arith}
use Rattle.farm_nodes_threads_teams.specs.Dealt.{AreDealt, IsSame}
use Rattle.farm_nodes_threads_teams.proofs.Stacks.{dealt_one}
use Rattle.farm_nodes_threads_teams.proofs.dealing.deal_last.Goals as goal

pub returns-in-Ok-clause-dealt : goal.returns-in-Ok-clause-dealt
returns-in-Ok-clause-dealt g c =
    let turns = c.args.turns in
    let old = c.args.teams.now in let here = c.pop.new.self.items in let node = c.in-Some.node in let player = c.new.result in
    let number : c.len-number.result ≡ length here = omega (arith, c.len-number.ensures, c.pop.new.self.ok.0) in
    record {
      all = λ xs d. subst (λ l. AreDealt IsSame (λ x p. (p.node ≡ x) × (p.left ≡ turns)) (length old) xs here l) (sym c.in-Ok.ensures.ok)
          (dealt_one IsSame (λ x p. (p.node ≡ x) × (p.left ≡ turns)) (length old) xs here node player (c.len-number.result % length old) (map vec_items old)
          (λ x same. (c.new.ensures.node ∙ same, c.new.ensures.left))
          (ap (λ n. n % length old) number)
          (subst (λ l. AreDealt IsSame (λ x p. (p.node ≡ x) × (p.left ≡ turns)) (length old) xs l (map vec_items old)) c.in-Some.ensures.items d));
    }
