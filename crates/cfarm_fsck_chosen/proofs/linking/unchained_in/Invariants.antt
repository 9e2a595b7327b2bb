use Rattle.cfarm_fsck_chosen.specs.Linking.{AllGoOn}
use Rattle.cfarm_fsck_chosen.proofs.linking.unchained_in.Given as goal

-- the offers of the functions so far go on
abbrev pub invariant-loop-number : goal.invariant-loop-number
invariant-loop-number l = AllGoOn l.accept l.journals l.kept l.functions l.number
