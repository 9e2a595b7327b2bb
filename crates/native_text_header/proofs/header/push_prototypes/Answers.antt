-- Why `push_prototypes` meets its contract, and its loop keeps the invariant.
use Rattle.std.proofs.Common.{◌≡◌, ℕ, ◌+◌, ◌<◌, List, [], ◌∷◌, ◌++◌, length, take, get_or, sym, ap, ◌∙◌}
use Rattle.std.specs.List.{flat_map}
use Rattle.std.proofs.lemmas.List.{flat_map_more, take_more}
use Rattle.std.proofs.lemmas.Result.{err_from_is_err_and}
use Rattle.lang_base.proofs.Beginnings.{IsBeginningOf-trans}
use Rattle.native_text_header.specs.Header.{prototype_text}
use Rattle.native_text_header.proofs.header.push_prototypes.Goals as goal

-- the text of one more is written
one_text : {A : Type 0} (text : A → List ℕ) (old here new : List ℕ) (xs : List A) (k : ℕ) (x : A) → k < length xs → x ≡ get_or xs k x
    → here ≡ old ++ flat_map text (take k xs) → new ≡ here ++ text x → new ≡ old ++ flat_map text (take (k + 1) xs)
one_text text old here new xs k x below is so one =
    one ∙ ap (λ t. t ++ text x) so ∙ flat_map_more text old (take k xs) x
    ∙ ap (λ y. old ++ flat_map text (take k xs ++ y ∷ [])) is ∙ ap (λ ys. old ++ flat_map text ys) (sym (take_more xs k x below))

-- what is there so far begins with what was there
pub returns-in_err-push_prototype : goal.returns-in_err-push_prototype
returns-in_err-push_prototype c =
    let p = err_from_is_err_and c.from_residual.result c.from_residual.ensures.1 in
    rw p.1 (IsBeginningOf-trans _ _ _ (_, sym c.loop-named.invariant) c.in_err-push_prototype.ensures)

pub loop-named-preserved : goal.loop-named-preserved
loop-named-preserved c =
    one_text (prototype_text c.args.prefix.now) c.args.out.now.items c.loop-named.out.items c.push_prototype.new.out.items c.args.functions.now c.loop-named.named-index
    c.named-item.result c.loop-named-test.true c.named-item.is c.loop-named.invariant c.in_ok-push_prototype.ensures
