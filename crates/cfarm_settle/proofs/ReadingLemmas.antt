-- Bytes behind a function: the whole is no function.
use Rattle.std.specs.Prelude.{◌≡◌, ◌≢◌, ℕ, ◌<◌, List, [], ◌++◌, length, take, drop, Option}
use Rattle.std.proofs.Common.{arith, sym, ap, ◌∙◌}
use Rattle.std.proofs.lemmas.List.{take-append-drop, append-nil, length-drop}
use Rattle.lang_base.proofs.Forms.{one_text}
use Rattle.lang_base.specs.declared.errors.FormError.{FormError}
use Rattle.lang_base.specs.declared.errors.FormError.TheVariants as F
use Rattle.ltl.specs.Forms.{function_form}
use Rattle.ltl.specs.Function.{FunctionData, IsFunction}
use Rattle.ltl.specs.Spelling.{spelling}
use Rattle.cfarm_settle.specs.Settled.{IsBehindTold, IsNoFunction, IsRefused}
use Rattle.cfarm_settle.specs.SettleStatuses.{refusal_of}

pub no_longer_function : (f g : FunctionData) (bytes : List ℕ) (n : ℕ) → IsFunction f → IsFunction g → n < length bytes → take n bytes ≡ spelling f → bytes ≡ spelling g → ⊥
no_longer_function f g bytes n fits also below front whole =
    let parts : spelling f ++ drop n bytes ≡ spelling g ++ [] = ap (λ xs. xs ++ drop n bytes) (sym front) ∙ take-append-drop n bytes ∙ whole ∙ sym (append-nil (spelling g)) in
    let none : drop n bytes ≡ [] = (one_text function_form f g (drop n bytes) [] fits also parts).1 in
    absurd (omega (arith, below, length-drop n bytes, ap length none))

-- what `settle` tells of bytes that are refused, where nothing was printed
pub refused_of : (bytes : List ℕ) (e : FormError) (before after : Option (List ℕ)) → (e ≢ F.NoMemory → IsNoFunction bytes) → IsBehindTold bytes e → after ≡ before → IsRefused bytes (refusal_of e) before after
refused_of bytes F.NoMemory before after none behind same = same
refused_of bytes F.Short before after none behind same = (none (λ e. cc), behind, same)
refused_of bytes F.BadTag before after none behind same = (none (λ e. cc), behind, same)
refused_of bytes F.NotCanonical before after none behind same = (none (λ e. cc), behind, same)
refused_of bytes F.TooLarge before after none behind same = (none (λ e. cc), behind, same)
