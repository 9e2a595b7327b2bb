-- Why `keep` meets its contract.
use Rattle.std.proofs.Common.{rules, sym}
use Rattle.std.proofs.lemmas.Fn.{filter_same}
use Rattle.cse_check.specs.Change.{keeps}
use Rattle.cse_check.proofs.Kept.{all_kept}
use Rattle.cse_check.proofs.change.keep.Goals as goal

pub returns-then-not-changes_nothing : goal.returns-then-not-changes_nothing
returns-then-not-changes_nothing c = filter_same _ (keeps c.args.change) _ (λ x b f' k. search rules) _ _ c.retain.ensures.filtered

pub returns-else-not-changes_nothing : goal.returns-else-not-changes_nothing
returns-else-not-changes_nothing c = sym (all_kept c.args.change (c.changes_nothing.ensures c.if-not-changes_nothing.false) c.args.equations.now.items)
