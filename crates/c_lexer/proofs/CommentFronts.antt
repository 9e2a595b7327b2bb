-- White space and comments at the front of a text.
use Rattle.std.proofs.Common.{◌≡◌, ◌≢◌, ℕ, true, suc, ◌+◌, ◌<◌, ◌≤◌, List, [], ◌∷◌, ◌++◌, length, get_or, take, drop, refl, sym, ap, ◌∙◌, subst, arith, ⊎_elim, take-append-drop, length-take-le, get_or-take, append_assoc, length-append, add-zero}
use Rattle.std.proofs.lemmas.List.{drop_more, drop-drop, get_or-append-add, drop_all, take_at}
use Rattle.std.proofs.lemmas.List.Elements.{All-from_get_or}
use Rattle.std.proofs.str.Laws.{order}
use Rattle.c_lexer_lexemes.specs.Bytes.{is_white}
use Rattle.c_lexer.specs.Closings.{IsClose, NoClose, IsFirstClose}
use Rattle.c_lexer_lexemes.specs.Faults.{IsOpenComment}
use Rattle.c_lexer_lexemes.specs.Parts.{IsLineEnd, ClosesFirst, IsGap}
use Rattle.c_lexer_lexemes.proofs.Starts.{first_byte, front_taken, length_of_front}

pub white_gap : (text : List ℕ) → 0 < length text → is_white (get_or text 0 0) ≡ true → (1 ≤ length text) × IsGap (take 1 text) (drop 1 text)
white_gap text some is = (omega arith, IsGap.white (get_or text 0 0) is (front_taken text (get_or text 0 0 ∷ []) (drop 1 text) 1 refl (first_byte text some)))

pub two_bytes : (text : List ℕ) (a b : ℕ) → 1 < length text → get_or text 0 0 ≡ a → get_or text 1 0 ≡ b → text ≡ a ∷ b ∷ drop 2 text
two_bytes [] a b h p q = absurd (omega arith)
two_bytes (x ∷ []) a b h p q = absurd (omega arith)
two_bytes (x ∷ y ∷ text) a b h p q = λ i. p i ∷ q i ∷ text

-- where a mark stands in a text that is cut before it
pub close_at : (text before behind : List ℕ) → text ≡ before ++ (42 ∷ 47 ∷ behind) → IsClose text (length before)
close_at text before behind e =
    let at : (n : ℕ) → get_or text (length before + n) 0 ≡ get_or (42 ∷ 47 ∷ behind) n 0 = λ n. ap (λ (l : List ℕ). get_or l (length before + n) 0) e ∙ get_or-append-add before (42 ∷ 47 ∷ behind) n 0 in
    (ap (λ n. get_or text n 0) (sym (add-zero (length before))) ∙ at 0, at 1)

-- a text that has the mark at a place is cut there
pub cut_at_close : (text : List ℕ) (n : ℕ) → n + 2 ≤ length text → IsClose text n → text ≡ take n text ++ (42 ∷ 47 ∷ drop (n + 2) text)
cut_at_close text n space (star, slash) =
    let here : drop n text ≡ get_or text n 0 ∷ drop (n + 1) text = drop_more text n 0 (omega arith) in
    let next : drop (n + 1) text ≡ get_or text (n + 1) 0 ∷ drop (n + 1 + 1) text = drop_more text (n + 1) 0 (omega arith) in
    let at : n + 1 + 1 ≡ n + 2 = omega arith in
    let behind : drop n text ≡ 42 ∷ 47 ∷ drop (n + 2) text = here ∙ ap (λ (l : List ℕ). get_or text n 0 ∷ l) next ∙ (λ i. star i ∷ slash i ∷ drop (at i) text) in
    sym (take-append-drop n text) ∙ ap (λ (l : List ℕ). take n text ++ l) behind

-- the body before the first mark is closed there for the first time
pub closes_first : (text : List ℕ) (n : ℕ) → IsFirstClose text n → ClosesFirst (take n text) (drop (n + 2) text)
closes_first text n first before behind e =
    let whole : text ≡ before ++ (42 ∷ 47 ∷ behind) = cut_at_close text n first.space first.closes ∙ e in
    let len : length (take n text) ≡ n = length-take-le n text (omega (arith, first.space)) in
    ⊎_elim
    (λ (earlier : length before < n). absurd (first.first (length before) earlier (close_at text before behind whole)))
    (λ (later : n ≤ length before). omega arith)
    (order (length before) n)

pub never_closed : (text before behind : List ℕ) → NoClose text (length text) → text ≡ before ++ (42 ∷ 47 ∷ behind) → ⊥
never_closed text before behind none e = none (length before) (omega (arith, length_of_front text before (42 ∷ 47 ∷ behind) e)) (close_at text before behind e)

line_end : (text : List ℕ) (n : ℕ) → (n < length text → get_or text n 0 ≡ 10) → IsLineEnd (drop n text)
line_end text n ends =
    ⊎_elim
    (λ (inside : n < length text). subst IsLineEnd (sym (drop_more text n 0 inside)) (ends inside))
    (λ (past : length text ≤ n). subst IsLineEnd (sym (drop_all n text past)) tt)
    (order n (length text))

module _ (text : List ℕ) (b : ℕ) (space : 1 < length text) (first : get_or text 0 0 ≡ 47) (second : get_or text 1 0 ≡ b) where
  -- the front of a text, from its third byte on
  front_is : (n : ℕ) → take (2 + n) text ≡ 47 ∷ b ∷ take n (drop 2 text)
  front_is n =
      let more : 2 + n ≡ suc (suc n) = omega arith in
      ap (λ (l : List ℕ). take (2 + n) l) (two_bytes text 47 b space first second) ∙ ap (λ m. take m (47 ∷ b ∷ drop 2 text)) more

  behind_is : (n : ℕ) → drop (2 + n) text ≡ drop n (drop 2 text)
  behind_is n = sym (drop-drop n 2 text)

-- so many bytes stand before the end of the line
pub record IsLine (text : List ℕ) (n : ℕ) : Type 0 where
  pub in_range : n ≤ length text
  pub each : (k : ℕ) → k < n → get_or text k 0 ≢ 10
  pub ends : n < length text → get_or text n 0 ≡ 10

pub line_gap : (text : List ℕ) (n : ℕ) → 1 < length text → get_or text 0 0 ≡ 47 → get_or text 1 0 ≡ 47 → IsLine (drop 2 text) n → IsGap (take (2 + n) text) (drop (2 + n) text)
line_gap text n space first second line =
    let len = length-take-le n (drop 2 text) line.in_range in
    IsGap.line (take n (drop 2 text))
    (front_is text 47 space first second n)
    (All-from_get_or (λ b. b ≢ 10) (take n (drop 2 text)) 0 (λ k h e. line.each k (omega arith) (sym (get_or-take n (drop 2 text) k 0 (omega arith)) ∙ e)))
    (subst IsLineEnd (sym (behind_is text 47 space first second n)) (line_end (drop 2 text) n line.ends))

pub block_gap : (text : List ℕ) (n : ℕ) → 1 < length text → get_or text 0 0 ≡ 47 → get_or text 1 0 ≡ 42 → IsFirstClose (drop 2 text) n → IsGap (take (n + 4) text) (drop (n + 4) text)
block_gap text n space first second closes =
    let at : 2 + (n + 2) ≡ n + 4 = omega arith in
    let rest = drop 2 text in
    let body = take n rest in
    let cut : rest ≡ body ++ (42 ∷ 47 ∷ drop (n + 2) rest) = cut_at_close rest n closes.space closes.closes in
    let len : length body ≡ n = length-take-le n rest (omega (arith, closes.space)) in
    let through : take (n + 2) rest ≡ body ++ (42 ∷ 47 ∷ []) =
    ap (λ (l : List ℕ). take (n + 2) l) (cut ∙ sym (append_assoc body (42 ∷ 47 ∷ []) (drop (n + 2) rest)))
    ∙ take_at (body ++ (42 ∷ 47 ∷ [])) (drop (n + 2) rest) (n + 2) (length-append body (42 ∷ 47 ∷ []) ∙ ap (λ m. m + 2) len) in
    subst (λ m. IsGap (take m text) (drop m text)) at
    (IsGap.block body
    (front_is text 42 space first second (n + 2) ∙ ap (λ (l : List ℕ). 47 ∷ 42 ∷ l) through)
    (subst (ClosesFirst body) (sym (behind_is text 42 space first second (n + 2))) (closes_first rest n closes)))

pub open_comment : (text : List ℕ) → 1 < length text → get_or text 0 0 ≡ 47 → get_or text 1 0 ≡ 42 → NoClose (drop 2 text) (length (drop 2 text)) → IsOpenComment text
open_comment text space first second none = record {
  body = drop 2 text;
  opened = two_bytes text 47 42 space first second;
  never_closed = λ before behind e. never_closed (drop 2 text) before behind none e;
}
