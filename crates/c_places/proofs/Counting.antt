-- How line feeds and the characters behind the last are counted, byte by byte.
use Rattle.std.specs.Prelude.{◌≡◌, ◌<◌, ℕ, ◌+◌, ◌==◌, Bool, true, false, if◌then◌else◌, List, [], ◌∷◌, ◌++◌, length, take, get_or}
use Rattle.std.proofs.Common.{refl, ap, ap₂, sym, ◌∙◌}
use Rattle.std.proofs.lemmas.List.{take_more}
use Rattle.std.proofs.lemmas.List.Sums.{count_by_more_no, count_by_more_yes}
use Rattle.c_places.specs.Places.{after, behind_all, behind_from, feeds, goes_on, with_byte}
use Rattle.c_places.specs.declared.place.Place.{Place}

behind_more : (xs : List ℕ) (b n : ℕ) → behind_from n (xs ++ b ∷ []) ≡ (if b == 10 then 0 else with_byte b (behind_from n xs))
behind_more [] b n = refl
behind_more (x ∷ xs) b n = behind_more xs b (if x == 10 then 0 else with_byte x n)

behind_step : (xs : List ℕ) (i : ℕ) → i < length xs →
    behind_from 0 (take (i + 1) xs) ≡ (if get_or xs i 0 == 10 then 0 else with_byte (get_or xs i 0) (behind_from 0 (take i xs)))
behind_step xs i h = ap (behind_from 0) (take_more xs i 0 h) ∙ behind_more (take i xs) (get_or xs i 0) 0

-- whichever of two numbers it is, one more is the same of both
if_more : (t : Bool) (n : ℕ) → (if t then n + 1 else n + 1 + 1) ≡ (if t then n else n + 1) + 1
if_more true n = refl
if_more false n = refl

-- one more character in front of a byte is one more behind it
one_more : (b n : ℕ) → with_byte b (n + 1) ≡ with_byte b n + 1
one_more b n = if_more (goes_on b) n

-- the place behind one more byte, where the byte is a line feed or none
by_case : (xs : List ℕ) (i : ℕ) → i < length xs → (b : Bool) → (get_or xs i 0 == 10) ≡ b →
    (if b then (record { line = feeds (take i xs) + 1 + 1; column = 1 }) else record { line = feeds (take i xs) + 1; column = with_byte (get_or xs i 0) (behind_from 0 (take i xs) + 1) })
    ≡ behind_all (take (i + 1) xs)
by_case xs i h true e =
    let column : behind_from 0 (take (i + 1) xs) ≡ 0 = behind_step xs i h ∙ ap (λ (b : Bool). if b then 0 else with_byte (get_or xs i 0) (behind_from 0 (take i xs))) e in
    ap₂ (λ (line column : ℕ). record { line = line + 1; column = column + 1 }) (sym (count_by_more_yes (λ x. x == 10) xs i 0 h e)) (sym column)
by_case xs i h false e =
    let column : behind_from 0 (take (i + 1) xs) ≡ with_byte (get_or xs i 0) (behind_from 0 (take i xs)) =
    behind_step xs i h ∙ ap (λ (b : Bool). if b then 0 else with_byte (get_or xs i 0) (behind_from 0 (take i xs))) e in
    ap₂ (λ (line column : ℕ). record { line = line + 1; column = column }) (sym (count_by_more_no (λ x. x == 10) xs i 0 h e))
    (one_more (get_or xs i 0) (behind_from 0 (take i xs)) ∙ sym (ap (λ n. n + 1) column))

pub after_more : (xs : List ℕ) (i : ℕ) (place : Place) → i < length xs → place ≡ behind_all (take i xs) → after place (get_or xs i 0) ≡ behind_all (take (i + 1) xs)
after_more xs i place h e = ap (λ (p : Place). after p (get_or xs i 0)) e ∙ by_case xs i h (get_or xs i 0 == 10) refl
