-- A text has one reading: the same parts up to the same end, and no fault where it has tokens.
use Rattle.std.proofs.Common.{◌≡◌, ◌≢◌, ℕ, ◌<◌, true, false, eqb, Option, Some, None, List, [], ◌∷◌, ◌++◌, length, get_or, refl, sym, ap, ◌∙◌, subst, arith, ◌⊎◌, ⊎_elim, inl, inr, append_assoc}
use Rattle.std.specs.Prelude.{codes}
use Rattle.std.proofs.lemmas.List.{append_cancel_left}
use Rattle.c_syntax.specs.declared.token.Token.{Token}
use Rattle.c_syntax.specs.declared.token.TokenKind.{TokenKind}
use Rattle.c_syntax.specs.declared.punctuator.Punctuator.TheVariants.{Slash}
use Rattle.c_lexer.specs.declared.errors.LexError.{LexError}
use Rattle.c_lexer.specs.declared.errors.LexError.TheVariants.{NoMemory, BadByte, OpenComment, LiteralRange, BadChar}
use Rattle.c_lexer_lexemes.specs.Bytes.{is_white, is_word_byte}
use Rattle.c_lexer_lexemes.specs.Faults.{IsBadByte, IsOpenComment, IsBadNumber, IsBadCharacter}
use Rattle.c_lexer.specs.FaultsAt.{IsFaultAt}
use Rattle.c_lexer_lexemes.specs.Lexemes.{IsLexeme, Spells}
use Rattle.c_lexer_lexemes.specs.Parts.{IsGap, IsPart}
use Rattle.c_lexer.specs.Texts.{Part, bytes_of, AreParts, tokens_of, ReadsTo, HasTokens, HasFault}
use Rattle.c_lexer_lexemes.proofs.Starts.{byte_of_front, length_of_front, word_first, punctuator_some, punctuator_quote, not_both}
use Rattle.c_lexer.proofs.Unique.{spelled_lexeme, spells_nothing, same_longest, lexeme_not_white, same_part, part_some}

-- no part begins here
abbrev Stops : List ℕ → Type 0
Stops text = (k : Option TokenKind) (bytes rest : List ℕ) → IsPart k bytes rest → text ≡ bytes ++ rest → ⊥

stops_end : Stops []
stops_end k bytes rest is e = let some = part_some k bytes rest is in let len = length_of_front [] bytes rest e in absurd (omega arith)

-- what a gap begins with
gap_first : (bytes rest text : List ℕ) → IsGap bytes rest → text ≡ bytes ++ rest → (is_white (get_or text 0 0) ≡ true) ⊎ (get_or text 0 0 ≡ 47)
gap_first bytes rest text (IsGap.white b is e) split = inl (ap (λ (l : List ℕ). is_white (get_or l 0 0)) (split ∙ ap (λ (l : List ℕ). l ++ rest) e) ∙ is)
gap_first bytes rest text (IsGap.line body e none end) split = inr (ap (λ (l : List ℕ). get_or l 0 0) (split ∙ ap (λ (l : List ℕ). l ++ rest) e))
gap_first bytes rest text (IsGap.block body e first) split = inr (ap (λ (l : List ℕ). get_or l 0 0) (split ∙ ap (λ (l : List ℕ). l ++ rest) e))

slash : IsLexeme (47 ∷ [])
slash = IsLexeme.punctuator Slash refl

bad_byte_first : (text : List ℕ) (bad : IsBadByte text) → get_or text 0 0 ≡ bad.byte
bad_byte_first text bad = ap (λ (l : List ℕ). get_or l 0 0) bad.first

-- a byte that begins nothing is no slash
bad_byte_no_slash : (text : List ℕ) → IsBadByte text → get_or text 0 0 ≢ 47
bad_byte_no_slash text bad is = bad.no_lexeme (47 ∷ []) bad.behind slash (bad.first ∙ ap (λ b. b ∷ bad.behind) (sym (bad_byte_first text bad) ∙ is))

bad_byte_stops : (text : List ℕ) → IsBadByte text → Stops text
bad_byte_stops text bad (Some k) bytes rest token e = bad.no_lexeme bytes rest (spelled_lexeme k bytes token.spelled) e
bad_byte_stops text bad None bytes rest gap e =
    ⊎_elim (λ white. not_both white (ap is_white (bad_byte_first text bad) ∙ bad.no_white)) (λ first. bad_byte_no_slash text bad first) (gap_first bytes rest text gap e)

open_first : (text : List ℕ) → IsOpenComment text → get_or text 0 0 ≡ 47
open_first text bad = ap (λ (l : List ℕ). get_or l 0 0) bad.opened

open_gap : (text bytes rest : List ℕ) → IsOpenComment text → IsGap bytes rest → text ≡ bytes ++ rest → ⊥
open_gap text bytes rest bad (IsGap.white b is e) split = not_both (sym (ap is_white (open_first text bad)) ∙ ap (λ (l : List ℕ). is_white (get_or l 0 0)) (split ∙ ap (λ (l : List ℕ). l ++ rest) e) ∙ is) refl
open_gap text bytes rest bad (IsGap.line body e none end) split =
    let second : 42 ≡ 47 = ap (λ (l : List ℕ). get_or l 1 0) (sym bad.opened ∙ split ∙ ap (λ (l : List ℕ). l ++ rest) e) in
    not_both {b = eqb 47 42} (ap (λ n. eqb n 42) (sym second)) refl
open_gap text bytes rest bad (IsGap.block body e first) split =
    bad.never_closed body rest (append_cancel_left (47 ∷ 42 ∷ []) bad.body (body ++ (codes "*/" ++ rest)) (sym bad.opened ∙ split ∙ ap (λ (l : List ℕ). l ++ rest) e ∙ ap (λ (l : List ℕ). 47 ∷ 42 ∷ l) (append_assoc body (codes "*/") rest)))

open_stops : (text : List ℕ) → IsOpenComment text → Stops text
open_stops text bad None bytes rest gap e = open_gap text bytes rest bad gap e
open_stops text bad (Some k) bytes rest token e = token.no_comment (bad.body, inr (sym e ∙ bad.opened))

number_first : (text : List ℕ) → IsBadNumber text → is_word_byte (get_or text 0 0) ≡ true
number_first text bad = ap is_word_byte (byte_of_front text bad.word bad.rest 0 bad.split bad.is_word.some) ∙ word_first bad.word bad.is_word

number_not_white : (text : List ℕ) → IsBadNumber text → is_white (get_or text 0 0) ≡ false
number_not_white text bad = ap is_white (byte_of_front text bad.word bad.rest 0 bad.split bad.is_word.some) ∙ lexeme_not_white bad.word (IsLexeme.word bad.is_word)

number_stops : (text : List ℕ) → IsBadNumber text → Stops text
number_stops text bad None bytes rest gap e =
    ⊎_elim (λ white. not_both white (number_not_white text bad)) (λ first. not_both (sym (ap is_word_byte first) ∙ number_first text bad) refl) (gap_first bytes rest text gap e)
number_stops text bad (Some k) bytes rest token e =
    let same = same_longest bytes rest bad.word bad.rest (spelled_lexeme k bytes token.spelled) (IsLexeme.word bad.is_word) token.longest bad.longest (sym e ∙ bad.split) in
    spells_nothing k bad.word bad.is_word bad.refused.digit_first bad.refused.no_constant (subst (Spells k) same token.spelled)

quote_first : (text : List ℕ) → IsBadCharacter text → get_or text 0 0 ≡ 39
quote_first text bad = ap (λ (l : List ℕ). get_or l 0 0) bad.quote

quote_lexeme : (text bytes rest : List ℕ) → IsBadCharacter text → IsLexeme bytes → text ≡ bytes ++ rest → ⊥
quote_lexeme text bytes rest bad (IsLexeme.word w) e = not_both (ap is_word_byte (sym (quote_first text bad) ∙ byte_of_front text bytes rest 0 e w.some) ∙ word_first bytes w) refl
quote_lexeme text bytes rest bad (IsLexeme.punctuator p q) e =
    let some = subst (λ (l : List ℕ). 0 < length l) (sym q) (punctuator_some p) in
    punctuator_quote p (sym (ap (λ (l : List ℕ). get_or l 0 0) q) ∙ sym (byte_of_front text bytes rest 0 e some) ∙ quote_first text bad)
quote_lexeme text bytes rest bad (IsLexeme.character n is) e = bad.no_character bytes rest n is e

quote_stops : (text : List ℕ) → IsBadCharacter text → Stops text
quote_stops text bad (Some k) bytes rest token e = quote_lexeme text bytes rest bad (spelled_lexeme k bytes token.spelled) e
quote_stops text bad None bytes rest gap e =
    ⊎_elim (λ white. not_both (sym (ap is_white (quote_first text bad)) ∙ white) refl) (λ first. absurd (let quote = quote_first text bad in omega arith)) (gap_first bytes rest text gap e)

-- no part begins where a fault is
fault_stops : (offset : ℕ) (text : List ℕ) (e : LexError) → IsFaultAt offset text e → Stops text
fault_stops offset text NoMemory fault = absurd fault
fault_stops offset text (BadByte at) fault = bad_byte_stops text fault.1
fault_stops offset text (OpenComment at) fault = open_stops text fault.1
fault_stops offset text (LiteralRange at) fault = number_stops text fault.1
fault_stops offset text (BadChar at) fault = quote_stops text fault.1

-- two faults at one place are one
fault_byte : (offset : ℕ) (text : List ℕ) (at : ℕ) (f : LexError) → IsFaultAt offset text (BadByte at) → IsFaultAt offset text f → BadByte at ≡ f
fault_byte offset text at NoMemory x y = absurd y
fault_byte offset text at (BadByte bt) x y = ap BadByte (x.0 ∙ sym y.0)
fault_byte offset text at (OpenComment bt) x y = absurd (bad_byte_no_slash text x.1 (open_first text y.1))
fault_byte offset text at (LiteralRange bt) x y = absurd (x.1.no_lexeme y.1.word y.1.rest (IsLexeme.word y.1.is_word) y.1.split)
fault_byte offset text at (BadChar bt) x y = absurd (x.1.no_quote (sym (bad_byte_first text x.1) ∙ quote_first text y.1))

fault_open : (offset : ℕ) (text : List ℕ) (at : ℕ) (f : LexError) → IsFaultAt offset text (OpenComment at) → IsFaultAt offset text f → OpenComment at ≡ f
fault_open offset text at NoMemory x y = absurd y
fault_open offset text at (BadByte bt) x y = absurd (bad_byte_no_slash text y.1 (open_first text x.1))
fault_open offset text at (OpenComment bt) x y = ap OpenComment (x.0 ∙ sym y.0)
fault_open offset text at (LiteralRange bt) x y = absurd (not_both (sym (ap is_word_byte (open_first text x.1)) ∙ number_first text y.1) refl)
fault_open offset text at (BadChar bt) x y = absurd (let first = open_first text x.1 in let quote = quote_first text y.1 in omega arith)

fault_number : (offset : ℕ) (text : List ℕ) (at : ℕ) (f : LexError) → IsFaultAt offset text (LiteralRange at) → IsFaultAt offset text f → LiteralRange at ≡ f
fault_number offset text at NoMemory x y = absurd y
fault_number offset text at (BadByte bt) x y = absurd (y.1.no_lexeme x.1.word x.1.rest (IsLexeme.word x.1.is_word) x.1.split)
fault_number offset text at (OpenComment bt) x y = absurd (not_both (sym (ap is_word_byte (open_first text y.1)) ∙ number_first text x.1) refl)
fault_number offset text at (LiteralRange bt) x y = ap LiteralRange (x.0 ∙ sym y.0)
fault_number offset text at (BadChar bt) x y = absurd (not_both (sym (ap is_word_byte (quote_first text y.1)) ∙ number_first text x.1) refl)

fault_quote : (offset : ℕ) (text : List ℕ) (at : ℕ) (f : LexError) → IsFaultAt offset text (BadChar at) → IsFaultAt offset text f → BadChar at ≡ f
fault_quote offset text at NoMemory x y = absurd y
fault_quote offset text at (BadByte bt) x y = absurd (y.1.no_quote (sym (bad_byte_first text y.1) ∙ quote_first text x.1))
fault_quote offset text at (OpenComment bt) x y = absurd (let first = open_first text y.1 in let quote = quote_first text x.1 in omega arith)
fault_quote offset text at (LiteralRange bt) x y = absurd (not_both (sym (ap is_word_byte (quote_first text x.1)) ∙ number_first text y.1) refl)
fault_quote offset text at (BadChar bt) x y = ap BadChar (x.0 ∙ sym y.0)

same_fault : (offset : ℕ) (text : List ℕ) (e f : LexError) → IsFaultAt offset text e → IsFaultAt offset text f → e ≡ f
same_fault offset text NoMemory f x y = absurd x
same_fault offset text (BadByte at) f x y = fault_byte offset text at f x y
same_fault offset text (OpenComment at) f x y = fault_open offset text at f x y
same_fault offset text (LiteralRange at) f x y = fault_number offset text at f x y
same_fault offset text (BadChar at) f x y = fault_quote offset text at f x y

same_parts : (ps qs : List Part) (a b : List ℕ) → AreParts ps a → AreParts qs b → Stops a → Stops b → bytes_of ps ++ a ≡ bytes_of qs ++ b → ps ≡ qs
same_parts [] [] a b x y stop_a stop_b e = refl
same_parts [] (q ∷ qs) a b x y stop_a stop_b e = absurd (stop_a q.kind q.bytes (bytes_of qs ++ b) y.0 (e ∙ append_assoc q.bytes (bytes_of qs) b))
same_parts (p ∷ ps) [] a b x y stop_a stop_b e = absurd (stop_b p.kind p.bytes (bytes_of ps ++ a) x.0 (sym e ∙ append_assoc p.bytes (bytes_of ps) a))
same_parts (p ∷ ps) (q ∷ qs) a b x y stop_a stop_b e =
    let whole : p.bytes ++ (bytes_of ps ++ a) ≡ q.bytes ++ (bytes_of qs ++ b) = sym (append_assoc p.bytes (bytes_of ps) a) ∙ e ∙ append_assoc q.bytes (bytes_of qs) b in
    let first = same_part p.kind q.kind p.bytes (bytes_of ps ++ a) q.bytes (bytes_of qs ++ b) x.0 y.0 whole in
    let behind : bytes_of ps ++ a ≡ bytes_of qs ++ b = append_cancel_left q.bytes (bytes_of ps ++ a) (bytes_of qs ++ b) (ap (λ (l : List ℕ). l ++ (bytes_of ps ++ a)) (sym first.1) ∙ whole) in
    let part : p ≡ q = λ i. record { bytes = first.1 i; kind = first.0 i } in
    let later = same_parts ps qs a b x.1 y.1 stop_a stop_b behind in
    λ i. part i ∷ later i

-- two readings up to where no part begins are one
record SameReading (xs ys : List Token) (m n : ℕ) (a b : List ℕ) : Type 0 where
  tokens : xs ≡ ys
  offset : m ≡ n
  rest : a ≡ b

same_reading : (text : List ℕ) (xs ys : List Token) (m n : ℕ) (a b : List ℕ) → ReadsTo text xs m a → ReadsTo text ys n b → Stops a → Stops b → SameReading xs ys m n a b
same_reading text xs ys m n a b x y stop_a stop_b =
    let whole : bytes_of x.parts ++ a ≡ bytes_of y.parts ++ b = sym x.whole ∙ y.whole in
    let parts = same_parts x.parts y.parts a b x.are_parts y.are_parts stop_a stop_b whole in
    record {
      tokens = x.tokens_are ∙ ap (tokens_of 0) parts ∙ sym y.tokens_are;
      offset = x.offset_is ∙ ap (λ ps. length (bytes_of ps)) parts ∙ sym y.offset_is;
      rest = append_cancel_left (bytes_of y.parts) a b (ap (λ ps. bytes_of ps ++ a) (sym parts) ∙ whole);
    }

pub same_tokens : (text : List ℕ) (xs ys : List Token) → HasTokens text xs → HasTokens text ys → xs ≡ ys
same_tokens text xs ys x y = (same_reading text xs ys (length text) (length text) [] [] x y stops_end stops_end).tokens

some_left : (offset : ℕ) (e : LexError) → IsFaultAt offset [] e → ⊥
some_left offset NoMemory fault = fault
some_left offset (BadByte at) fault = absurd (let len = ap (λ (l : List ℕ). length l) fault.1.first in omega arith)
some_left offset (OpenComment at) fault = absurd (let len = ap (λ (l : List ℕ). length l) fault.1.opened in omega arith)
some_left offset (LiteralRange at) fault = absurd (let len = length_of_front [] fault.1.word fault.1.rest fault.1.split in let some = fault.1.is_word.some in omega arith)
some_left offset (BadChar at) fault = absurd (let len = ap (λ (l : List ℕ). length l) fault.1.quote in omega arith)

-- a text with tokens has no fault
pub no_fault : (text : List ℕ) (xs : List Token) (e : LexError) → HasTokens text xs → HasFault text e → ⊥
no_fault text xs e x y =
    let same = same_reading text xs y.tokens (length text) y.offset [] y.rest x y.reads stops_end (fault_stops y.offset y.rest e y.fault) in
    some_left y.offset e (subst (λ (l : List ℕ). IsFaultAt y.offset l e) (sym same.rest) y.fault)

-- the first fault is one
pub one_fault : (text : List ℕ) (e f : LexError) → HasFault text e → HasFault text f → e ≡ f
one_fault text e f x y =
    let same = same_reading text x.tokens y.tokens x.offset y.offset x.rest y.rest x.reads y.reads (fault_stops x.offset x.rest e x.fault) (fault_stops y.offset y.rest f y.fault) in
    same_fault x.offset x.rest e f x.fault (subst (λ n. IsFaultAt n x.rest f) (sym same.offset) (subst (λ (l : List ℕ). IsFaultAt y.offset l f) (sym same.rest) y.fault))
