-- One record more among those that were walked over.
use Rattle.std.proofs.Common.{◌≡◌, ℕ, zero, suc, ◌+◌, List, [], ◌∷◌, ◌++◌, length, take, Option, Some, None, ap, ◌∙◌, arith}
use Rattle.std.specs.Prelude.{slice_get, unwrap_or}
use Rattle.std.specs.List.{cons_option}
use Rattle.std.proofs.lemmas.List.{take_more, append-nil}
use Rattle.std.proofs.lemmas.List.Elements.{filter_map-append}
use Rattle.std.proofs.lemmas.Option.{slice_get_within, get_or_from_slice_get}
use Rattle.acceptor_log_form.specs.declared.record.Record.{Record}
use Rattle.farm_nodes_turn_passes.specs.declared.which.Which.{Which}
use Rattle.farm_nodes_open_offers.specs.Written.{written, all_written}

-- the items up to one are those before it and that one
pub taken_more : {X : Type 0} → (xs : List X) (i : ℕ) (x : X) → slice_get xs i ≡ Some x → take (i + 1) xs ≡ take i xs ++ x ∷ []
taken_more xs i x got =
    take_more xs i x (slice_get_within xs i x got) ∙ ap (λ y. take i xs ++ y ∷ []) (get_or_from_slice_get xs i x x got)

-- what a record adds to the offers of a pass
written_more : (pass : Which) (rs : List Record) (i : ℕ) (r : Record) → slice_get rs i ≡ Some r → all_written pass (take (i + 1) rs) ≡ all_written pass (take i rs) ++ cons_option (written pass r) []
written_more pass rs i r got =
    ap (all_written pass) (taken_more rs i r got) ∙ filter_map-append (written pass) (take i rs) (r ∷ [])

-- one that is no offer of the pass adds none
pub written_none : (pass : Which) (rs : List Record) (i : ℕ) (r : Record) → slice_get rs i ≡ Some r → written pass r ≡ None → all_written pass (take (i + 1) rs) ≡ all_written pass (take i rs)
written_none pass rs i r got none =
    written_more pass rs i r got
    ∙ ap (λ o. all_written pass (take i rs) ++ cons_option o []) none
    ∙ append-nil (all_written pass (take i rs))

-- behind what one record adds
shifted : {X : Type 0} → (o : Option X) (zs ws : List X) (x : X) → slice_get zs (length ws) ≡ Some x → slice_get (cons_option o zs) (length (cons_option o ws)) ≡ Some x
shifted None zs ws x got = got
shifted (Some z) zs ws x got = got

-- where it stands among all offers of the pass
pub stands_at : (pass : Which) (rs : List Record) (i : ℕ) (r : Record) (x : ℕ × List ℕ) → slice_get rs i ≡ Some r → written pass r ≡ Some x → slice_get (all_written pass rs) (length (all_written pass (take i rs))) ≡ Some x
stands_at pass [] i r x got one = absurd (omega (arith, slice_get_within [] i r got))
stands_at pass (y ∷ rs) zero r x got one =
    let first : written pass y ≡ Some x = ap (λ o. written pass (unwrap_or o y)) got ∙ one in
    ap (λ o. slice_get (cons_option o (all_written pass rs)) 0) first
stands_at pass (y ∷ rs) (suc i) r x got one =
    shifted (written pass y) (all_written pass rs) (all_written pass (take i rs)) x (stands_at pass rs i r x got one)

-- one that is adds it at the end
pub written_one : (pass : Which) (rs : List Record) (i : ℕ) (r : Record) (x : ℕ × List ℕ) → slice_get rs i ≡ Some r → written pass r ≡ Some x → all_written pass (take (i + 1) rs) ≡ all_written pass (take i rs) ++ x ∷ []
written_one pass rs i r x got one =
    written_more pass rs i r got ∙ ap (λ o. all_written pass (take i rs) ++ cons_option o []) one
