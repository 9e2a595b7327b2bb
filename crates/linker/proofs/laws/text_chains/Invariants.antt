use Rattle.std.proofs.Common.{◌≡◌, length}
use Rattle.linker.proofs.SameTexts.{FollowBefore}
use Rattle.linker.proofs.laws.text_chains.Given as goal

-- as many names as functions, and the first functions' offers chain where their texts are equal
abbrev pub invariant-loop-number : goal.invariant-loop-number
invariant-loop-number g l =
    (length l.functions ≡ length l.named)
    × FollowBefore g.P1.In.Language.spelling g.P1.Out.Language.spelling g.P2.Out.Language.spelling g.P3.Out.Language.spelling l.functions l.named l.number
