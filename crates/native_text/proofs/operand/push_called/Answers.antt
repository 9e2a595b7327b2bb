-- Why `push_called` meets its contract where the function is there.
use Rattle.std.proofs.Common.{◌≡◌, List, ℕ, ◌++◌, codes, length, Some, refl, sym, ap, subst, ◌∙◌}
use Rattle.std.specs.Prelude.{slice_get}
use Rattle.std.proofs.lemmas.Option.{slice_get_read}
use Rattle.lang_base.specs.Texts.{Appends}
use Rattle.text_keys.proofs.Appending.{appends_behind}
use Rattle.native_text.specs.Operands.{Here, named}
use Rattle.native_text.proofs.operand.push_called.Goals as goal

pub returns-in-Some : goal.returns-in-Some
returns-in-Some c =
    let fs = c.here.inside.functions.now in
    let f = c.in-Some.named.now in
    let found = c.in-Some.ensures.lookup in
    let got : slice_get fs c.from.result ≡ Some f = slice_get_read fs (length fs) c.from.result f refl found.3.0 found.1 in
    let text : named (slice_get fs c.args.function) ≡ c.as_slice.result.now = ap (λ k. named (slice_get fs k)) (sym c.from.ensures) ∙ ap named got ∙ sym c.as_slice.ensures in
    let r = c.push_bytes-in-Some.result in
    let old = c.args.out.now.items in
    let new = c.push_bytes-in-Some.new.out.items in
    let written = appends_behind r (codes "f.") c.as_slice.result.now old c.push_bytes.new.out.items new c.in_ok-push_bytes.ensures c.push_bytes-in-Some.ensures in
    subst (λ (here : Here). Appends r (codes "f." ++ named (slice_get here.functions c.args.function)) old new) c.here.view_is
    (subst (λ (t : List ℕ). Appends r (codes "f." ++ t) old new) (sym text) written)
