-- Why `callers_go_on` meets its clauses `lost`, `kept`, `result`, `others` and 2 more.
use Rattle.std.proofs.Common.{◌≡◌, ℕ, ◌<◌, Option, None, Some, refl, sym, subst}
use Rattle.locations.specs.declared.location.Location.{Location}
use Rattle.locations.specs.declared.location.Location.TheVariants.{InRegister, InSlot}
use Rattle.machine.specs.Data.{Data}
use Rattle.machine.specs.Frames.{State}
use Rattle.machine.proofs.Outputs.{output-with_result}
use Rattle.machine.specs.Words.{LiesIn, words_after}
use Rattle.machine.proofs.Words.{after_call-lost, after_call-kept, length-after_call, put_at-itself, put_at-other, put_at-globals}
use Rattle.machine.proofs.callers.callers_go_on.Goals as goal

lies_after : (s : State) (before after : Data) (value : Option ℕ) (l : Location) → LiesIn before l → LiesIn (words_after s before after None value) l
lies_after s before after value (InRegister r) lies = subst (λ n. r < n) (sym (length-after_call before.registers)) lies
lies_after s before after value (InSlot slot) lies = lies

pub returns-clause-lost : goal.returns-clause-lost
returns-clause-lost c = λ s before after value r small. after_call-lost before.registers r small

pub returns-clause-kept : goal.returns-clause-kept
returns-clause-kept c = λ s before after value r high. after_call-kept before.registers r high

pub returns-clause-result : goal.returns-clause-result
returns-clause-result c = λ s before after value l lies. put_at-itself l value (words_after s before after None value) (lies_after s before after value l lies)

pub returns-clause-others : goal.returns-clause-others
returns-clause-others c = λ s before after value target l ne. put_at-other target l value (words_after s before after None value) ne

globals_after : (s : State) (before after : Data) (value : Option ℕ) (target : Option Location) → (words_after s before after target value).globals ≡ after.globals
globals_after s before after value None = refl
globals_after s before after value (Some l) = put_at-globals l value (words_after s before after None value)

pub returns-clause-globals : goal.returns-clause-globals
returns-clause-globals c = globals_after

pub returns-clause-output : goal.returns-clause-output
returns-clause-output c = λ s before after value target. output-with_result target value (words_after s before after None value)
