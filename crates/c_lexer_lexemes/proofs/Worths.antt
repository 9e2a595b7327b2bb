-- The number that digits stand for, from the left.
use Rattle.std.proofs.Common.{◌≡◌, ℕ, zero, suc, ◌+◌, ◌*◌, ◌^◌, ◌<◌, ◌≤◌, Bool, true, false, cond, ltb, ◌&&◌, Some, None, List, ◌∷◌, length, get_or, take, drop, refl, sym, ap, subst, ◌∙◌, arith}
use Rattle.std.proofs.Math.Nat.{pow-suc, pow-zero, one-le-mul, le-mul_of_pos_right}
use Rattle.std.proofs.lemmas.List.{drop_more, drop_all}
use Rattle.std.proofs.lemmas.List.Folds.{list_all_more}
use Rattle.std.proofs.lemmas.Bool.{lt-ltb, le-ltb, and_from}
use Rattle.std.specs.List.{list_all}
use Rattle.c_lexer_lexemes.specs.Numbers.{digit_worth, is_digit_of, worth, number_of}

-- what digits stand for behind others that stand for a number
abbrev pub worth_behind : ℕ → ℕ → List ℕ → ℕ
worth_behind base sum ds = sum * base ^ length ds + worth base ds

distribute : (s p b d w : ℕ) → s * (p * b) + (d * p + w) ≡ (s * b + d) * p + w
distribute s p b d w = omega arith

pub worth_cons : (base sum d : ℕ) (ds : List ℕ) → worth_behind base sum (d ∷ ds) ≡ worth_behind base (sum * base + digit_worth d) ds
worth_cons base sum d ds = ap (λ n. sum * n + (digit_worth d * base ^ length ds + worth base ds)) (pow-suc base (length ds)) ∙ distribute sum (base ^ length ds) base (digit_worth d) (worth base ds)

pub worth_more : (base sum : ℕ) (ds : List ℕ) (i : ℕ) → i < length ds → worth_behind base sum (drop i ds) ≡ worth_behind base (sum * base + digit_worth (get_or ds i 0)) (drop (i + 1) ds)
worth_more base sum ds i h = ap (worth_behind base sum) (drop_more ds i 0 h) ∙ worth_cons base sum (get_or ds i 0) (drop (i + 1) ds)

pub worth_done : (base sum : ℕ) (ds : List ℕ) (i : ℕ) → length ds ≤ i → worth_behind base sum (drop i ds) ≡ sum
worth_done base sum ds i h = ap (worth_behind base sum) (drop_all i ds h) ∙ (let unit : base ^ 0 ≡ 1 = pow-zero base in ap (λ n. sum * n + 0) unit ∙ omega arith)

power_some : (base : ℕ) → 0 < base → (n : ℕ) → 0 < base ^ n
power_some base h zero = subst (λ m. 0 < m) (sym (pow-zero base)) (omega arith)
power_some base h (suc n) =
    let here : 1 ≤ base = omega arith in
    let there : 1 ≤ base ^ n = omega (arith, power_some base h n) in
    let both : 1 ≤ base ^ n * base = one-le-mul there here in
    subst (λ m. 0 < m) (sym (pow-suc base n)) (omega arith)

-- digits behind a number make it no smaller
pub worth_least : (base sum : ℕ) (ds : List ℕ) → 0 < base → sum ≤ worth_behind base sum ds
worth_least base sum ds h =
    let scaled : sum ≤ sum * base ^ length ds = le-mul_of_pos_right sum (power_some base h (length ds)) in
    omega arith

-- a digit more
pub all_more : (base : ℕ) (ds : List ℕ) (i w : ℕ) → i < length ds → w ≡ digit_worth (get_or ds i 0) → w < base → list_all (is_digit_of base) (take i ds) ≡ true → list_all (is_digit_of base) (take (i + 1) ds) ≡ true
all_more base ds i w h e below all =
    let here : is_digit_of base (get_or ds i 0) ≡ true = lt-ltb (digit_worth (get_or ds i 0)) base (omega arith) in
    list_all_more (is_digit_of base) ds i 0 h ∙ and_from (list_all (is_digit_of base) (take i ds)) (is_digit_of base (get_or ds i 0)) all here

pub whole_more : (base sum : ℕ) (ds : List ℕ) (i w b : ℕ) → i < length ds → w ≡ digit_worth (get_or ds i 0) → b ≡ base → worth_behind base sum (drop i ds) ≡ worth base ds → worth_behind base (sum * b + w) (drop (i + 1) ds) ≡ worth base ds
whole_more base sum ds i w b h e f whole = (λ k. worth_behind base (sum * f k + e k) (drop (i + 1) ds)) ∙ sym (worth_more base sum ds i h) ∙ whole

none_at : (a b : Bool) (n : ℕ) → cond (a && (b && false)) (Some n) None ≡ None
none_at true true n = refl
none_at true false n = refl
none_at false b n = refl

-- what is too large is no number, whatever digits follow
pub too_large : (base sum : ℕ) (ds : List ℕ) (i : ℕ) → 0 < base → 2 ^ 32 ≤ sum → worth_behind base sum (drop i ds) ≡ worth base ds → number_of base ds ≡ None
too_large base sum ds i some large whole =
    let least : sum ≤ worth_behind base sum (drop i ds) = worth_least base sum (drop i ds) some in
    let no : ltb (worth base ds) (2 ^ 32) ≡ false = le-ltb (worth base ds) (2 ^ 32) (omega arith) in
    ap (λ b. cond (ltb 0 (length ds) && (list_all (is_digit_of base) ds && b)) (Some (worth base ds)) None) no ∙ none_at (ltb 0 (length ds)) (list_all (is_digit_of base) ds) (worth base ds)
