-- Calls that are written one behind the other.
use Rattle.std.specs.List.{flat_map}
use Rattle.std.proofs.Common.{◌≡◌, ℕ, ◌+◌, ◌<◌, List, [], ◌∷◌, ◌++◌, length, get_or, take, sym, ap, ◌∙◌, append_assoc}
use Rattle.std.proofs.lemmas.List.{append-nil, take_more}
use Rattle.std.proofs.lemmas.List.Concat.{flat_map-append}
use Rattle.linear_faults.specs.declared.fault.Site.{Site}

pub one_more : (text : Site → List ℕ) (calls : List Site) (i : ℕ) (d : Site) (old now new : List ℕ) → i < length calls →
    now ≡ old ++ flat_map text (take i calls) → new ≡ now ++ text (get_or calls i d) → new ≡ old ++ flat_map text (take (i + 1) calls)
one_more text calls i d old now new h so more =
    let before = flat_map text (take i calls) in
    let one = text (get_or calls i d) in
    let last = ap (λ l. before ++ l) (append-nil one) in
    let all = ap (flat_map text) (take_more calls i d h) ∙ flat_map-append text (take i calls) (get_or calls i d ∷ []) ∙ last in
    more ∙ ap (λ l. l ++ one) so ∙ append_assoc old before one ∙ ap (λ l. old ++ l) (sym all)
