-- Why `acts_agree` meets its contract.
use Rattle.alloc_check_rules.proofs.Acts.{act_done}
use Rattle.alloc_check_rules.proofs.law.acts_agree.Goals as goal

pub returns : goal.returns
returns c = act_done
