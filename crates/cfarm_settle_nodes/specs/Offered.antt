-- What a node offers of what its optimiser proposes, whatever the pass is.
use Rattle.std.specs.Prelude.{◌≡◌, Option, Result, IfOk, IfSome}
use Rattle.lang_base.specs.declared.pass.Pass as pass
use Rattle.offers.specs.declared.parts.Parts.{Parts}

-- what is proposed is offered where the pass accepts it
abbrev pub OffersAccepted : {P A B C I O E : Type 0} → pass.Ghosts P A B C I O → I → Option (O × C) → Result (Parts I O C) E → Type 0
OffersAccepted by input proposed result =
    IfSome proposed (λ it. by.accepts input it.0 it.1 → IfOk result (λ offer. offer ≡ record { input = input; output = it.0; certificate = it.1 }))
