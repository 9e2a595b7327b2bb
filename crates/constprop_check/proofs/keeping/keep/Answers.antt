-- Why `keep` meets its contract.
use Rattle.std.proofs.Common.{◌≡◌, sym, subst}
use Rattle.std.specs.Prelude.{not}
use Rattle.std.specs.List.{filter}
use Rattle.constprop_check_rules.specs.Known.{names}
use Rattle.constprop_check.proofs.Kept.{all_kept}
use Rattle.constprop_check.proofs.keeping.keep.Goals as goal

pub returns-in-None : goal.returns-in-None
returns-in-None c =
    let facts = c.args.facts.now.items in
    subst (λ written. facts ≡ filter (λ fact. not (names written fact.register)) facts) (sym c.in-None.is) (sym (all_kept facts))
