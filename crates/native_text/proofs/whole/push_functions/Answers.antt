-- Why `push_functions` meets its contract, and its loop over `number` keeps the invariant.
use Rattle.std.proofs.Common.{◌≡◌, ℕ, length, Some, refl, sym}
use Rattle.std.specs.Prelude.{slice_get}
use Rattle.std.proofs.lemmas.Option.{slice_get_read}
use Rattle.std.proofs.lemmas.Result.{err_from_is_err_and}
use Rattle.lang_base.proofs.Beginnings.{IsBeginningOf-trans}
use Rattle.text_keys.proofs.Counting.{one_more}
use Rattle.native_text.specs.Whole.{function_text}
use Rattle.native_text.proofs.whole.push_functions.Goals as goal

-- what is there so far begins with what was there
pub returns-in_err-push_function : goal.returns-in_err-push_function
returns-in_err-push_function c =
    let p = err_from_is_err_and c.from_residual.result c.from_residual.ensures.1 in
    rw p.1 (IsBeginningOf-trans _ _ _ (_, sym c.loop-number.invariant) c.in_err-push_function.ensures)

pub loop-number-preserved : goal.loop-number-preserved
loop-number-preserved c =
    let all = c.args.functions.now in
    let k = c.loop-number.number in
    let x = c.index-functions-number.result in
    let got : slice_get all k ≡ Some x = slice_get_read all (length all) k x refl c.loop-number-test.true c.index-functions-number.is in
    one_more (λ (number : ℕ). function_text (record { functions = all; number = number })) c.args.out.now.items c.loop-number.out.items c.push_function.new.out.items all k x got c.loop-number.invariant c.in_ok-push_function.ensures
