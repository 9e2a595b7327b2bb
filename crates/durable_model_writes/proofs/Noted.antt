-- What one call more adds to what a disk in memory has noted.
use Rattle.std.proofs.Common.{◌≡◌, ℕ, ◌+◌, ◌≤◌, List, [], ◌∷◌, ◌++◌, length, take, drop, refl, sym, ◌∙◌, ap, arith, length-drop, sum_by}
use Rattle.std.proofs.lemmas.List.{nil_from_length, take_all, take-append-le, drop-append-le}
use Rattle.std.proofs.lemmas.List.Sums.{sum_by-append}
use Rattle.durable_model_writes.specs.declared.call.Call.{Call}
use Rattle.durable_model_writes.specs.declared.call.Call.TheVariants.{Wrote, Tore, Synced, Left}
use Rattle.durable_model_writes.specs.Writes.{overwritten}
use Rattle.durable_model_writes.specs.History.{size_of, noted, after, seen_after}

-- a call that wrote nothing
pub noted_none : (calls : List Call) (written : List ℕ) (earlier : List (Call × List ℕ)) (call : Call) → size_of call ≡ 0
    → noted (calls ++ call ∷ []) written earlier ≡ (call, []) ∷ noted calls written earlier
noted_none [] written earlier call none = ap (λ n. (call, take n written) ∷ earlier) none
noted_none (c ∷ calls) written earlier call none =
    noted_none calls (drop (size_of c) written) ((c, take (size_of c) written) ∷ earlier) call none

-- a call whose bytes stand behind those of all others
pub noted_wrote : (calls : List Call) (written bytes : List ℕ) (earlier : List (Call × List ℕ)) (call : Call)
    → sum_by size_of calls ≡ length written → size_of call ≡ length bytes
    → noted (calls ++ call ∷ []) (written ++ bytes) earlier ≡ (call, bytes) ∷ noted calls written earlier
noted_wrote [] written bytes earlier call whole size =
    let only : written ++ bytes ≡ bytes = ap (λ (w : List ℕ). w ++ bytes) (nil_from_length written (sym whole)) in
    ap (λ (b : List ℕ). (call, b) ∷ earlier)
    (ap (take (size_of call)) only ∙ take_all (size_of call) bytes (omega (arith, size)))
noted_wrote (c ∷ calls) written bytes earlier call whole size =
    let s = size_of c in
    let sizes : sum_by size_of (c ∷ []) + sum_by size_of calls ≡ length written =
    sym (sum_by-append size_of (c ∷ []) calls) ∙ whole in
    let within : s ≤ length written = omega (arith, sizes) in
    ap (λ (w : List ℕ). noted (calls ++ call ∷ []) w ((c, take s (written ++ bytes)) ∷ earlier)) (drop-append-le s written bytes within)
    ∙ ap (λ (t : List ℕ). noted (calls ++ call ∷ []) (drop s written ++ bytes) ((c, t) ∷ earlier)) (take-append-le s written bytes within)
    ∙ noted_wrote calls (drop s written) bytes ((c, take s written) ∷ earlier) call (omega (arith, sizes, length-drop s written)) size

pub after_nothing : (call : Call) (seen : List ℕ) → size_of call ≡ 0 → after call [] seen ≡ seen
after_nothing (Wrote at n) seen none = refl
after_nothing (Tore at n) seen none = refl
after_nothing Synced seen none = refl
after_nothing Left seen none = refl

-- what was seen is still seen
pub kept_none : (calls new : List Call) (written bytes first : List ℕ) (call : Call) → size_of call ≡ 0 → new ≡ calls ++ call ∷ []
    → bytes ≡ seen_after (noted calls written []) first → bytes ≡ seen_after (noted new written []) first
kept_none calls new written bytes first call none is kept =
    let now : noted new written [] ≡ (call, []) ∷ noted calls written [] =
    ap (λ cs. noted cs written []) is ∙ noted_none calls written [] call none in
    kept ∙ sym (after_nothing call (seen_after (noted calls written []) first) none) ∙ sym (ap (λ h. seen_after h first) now)

-- a write is the last call
pub noted_last : (calls new : List Call) (written longer bytes : List ℕ) (at : ℕ) → sum_by size_of calls ≡ length written
    → new ≡ calls ++ Wrote at (length bytes) ∷ [] → longer ≡ written ++ bytes
    → noted new longer [] ≡ (Wrote at (length bytes), bytes) ∷ noted calls written []
noted_last calls new written longer bytes at whole is more =
    ap (λ cs. noted cs longer []) is
    ∙ ap (λ (w : List ℕ). noted (calls ++ Wrote at (length bytes) ∷ []) w []) more
    ∙ noted_wrote calls written bytes [] (Wrote at (length bytes)) whole refl

-- what was written is seen
pub kept_wrote : (calls new : List Call) (written longer bytes seen now first : List ℕ) (at : ℕ)
    → noted new longer [] ≡ (Wrote at (length bytes), bytes) ∷ noted calls written [] → now ≡ overwritten seen at bytes
    → seen ≡ seen_after (noted calls written []) first → now ≡ seen_after (noted new longer []) first
kept_wrote calls new written longer bytes seen now first at last over kept =
    over ∙ ap (λ (s : List ℕ). overwritten s at bytes) kept ∙ sym (ap (λ h. seen_after h first) last)

-- the bytes that were written are those of the calls
pub whole_more : (calls new : List Call) (written longer : List ℕ) (call : Call) → sum_by size_of calls ≡ length written
    → new ≡ calls ++ call ∷ [] → length longer ≡ length written + size_of call → sum_by size_of new ≡ length longer
whole_more calls new written longer call whole is more =
    ap (sum_by size_of) is ∙ omega (arith, sum_by-append size_of calls (call ∷ []), whole, more)
