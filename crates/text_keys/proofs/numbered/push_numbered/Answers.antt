-- Why `push_numbered` meets its contract, and its loop over `number` keeps the invariant.
use Rattle.std.proofs.Common.{◌≡◌, length, Some, refl, sym}
use Rattle.std.specs.Prelude.{slice_get}
use Rattle.std.proofs.lemmas.Option.{slice_get_read}
use Rattle.std.proofs.lemmas.Result.{err_from_is_err_and}
use Rattle.lang_base.proofs.Beginnings.{IsBeginningOf-trans}
use Rattle.text_keys.proofs.Counting.{one_more}
use Rattle.text_keys.proofs.numbered.push_numbered.Goals as goal

-- what is there so far begins with what was there
pub returns-in_err-push : goal.returns-in_err-push
returns-in_err-push g c =
    let p = err_from_is_err_and c.from_residual.result c.from_residual.ensures.1 in
    rw p.1 (IsBeginningOf-trans _ _ _ (_, sym c.loop-number.invariant) c.in_err-push.ensures)

pub loop-number-preserved : goal.loop-number-preserved
loop-number-preserved g c =
    let xs = c.args.items.now in
    let k = c.loop-number.number in
    let x = c.index-items-number.result in
    let got : slice_get xs k ≡ Some x = slice_get_read xs (length xs) k x refl c.loop-number-test.true c.index-items-number.is in
    one_more g.W.WriteNumbered.text c.args.out.now.items c.loop-number.out.items c.push.new.out.items xs k x got c.loop-number.invariant c.in_ok-push.ensures
