-- What is printed of the code that three nodes agree on.
use Rattle.std.specs.Prelude.{◌≡◌, ℕ, List, Option}
use Rattle.std.proofs.Common.{Result, Ok, Some, IfOk, IfSome, refl, subst}
use Rattle.std.specs.Io.KnownBytes.{Appends}
use Rattle.ltl.specs.Function.{FunctionData}
use Rattle.ltl.specs.Spelling.{spelling}
use Rattle.cfarm_settle.specs.LaidOut.{AgreeOn, Seats}
use Rattle.cfarm_settle.specs.Settled.{HaveSettled, IsRefused, IsSettled, IsUnprinted, settled_text}
use Rattle.cfarm_settle.specs.declared.settle_error.SettleError.{SettleError}
use Rattle.cfarm_settle.specs.declared.settle_error.SettleError.TheVariants.{NoMemory, Form, Undecided, Write}

module _ (bytes code : List ℕ) (seats : Seats) (f : FunctionData) (read : bytes ≡ spelling f) (agreed : AgreeOn seats f code) where
  -- the bytes are read, and what is printed is the hex of what is agreed on
  is_settled : IsSettled bytes seats (settled_text code)
  is_settled = record { function = f; code = code; read = read; agreed = agreed; prints = refl }

  pub have_settled : (before after : Option (List ℕ)) → Appends before after (settled_text code) → HaveSettled bytes seats before after
  have_settled before after shown = (settled_text code, is_settled, shown)

  pub refused_unprinted : (fault : SettleError) (before after : Option (List ℕ)) → IsUnprinted (settled_text code) fault before after → IsRefused bytes fault before after
  refused_unprinted NoMemory before after h = h
  refused_unprinted Write before after h = (seats, settled_text code, is_settled, h)
  refused_unprinted (Form fault) before after h = absurd h
  refused_unprinted Undecided before after h = absurd h

-- what holds of whatever was found holds of what was
pub some_found : {V E : Type 0} (r : Result (Option V) E) (o : Option V) (v : V) (X : V → Type 0) → r ≡ Ok o → o ≡ Some v
    → IfOk r (λ found. IfSome found X) → X v
some_found {V} {E} r o v X e f h =
    subst (λ (x : Option V). IfSome x X) f (subst (λ (x : Result (Option V) E). IfOk x (λ found. IfSome found X)) e h)
