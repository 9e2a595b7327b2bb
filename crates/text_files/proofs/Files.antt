-- Files with one text are one file, and a file has the text of one language.
use Rattle.std.proofs.Common.{◌≡◌, ◌≢◌, ℕ, ◌<◌, List, [], ◌++◌, length, take, drop, Result, Ok, Err, sym, ap, ◌∙◌, arith}
use Rattle.std.proofs.lemmas.List.{take-append-drop, length-drop, append-nil}
use Rattle.std.specs.Global.{Vec}
use Rattle.std.specs.Prelude.{slice_index, IfOk, IfErr}
use Rattle.lang_base.specs.declared.errors.FormError.{FormError}
use Rattle.lang_base.specs.declared.program.Program.{Program}
use Rattle.lang.specs.Form.{IsProgram, program_text}
use Rattle.text_cminor.proofs.Programs as text_cminor
use Rattle.text_rtl.proofs.Programs as text_rtl
use Rattle.text_ltl.proofs.Programs as text_ltl
use Rattle.text_linear.proofs.Programs as text_linear
use Rattle.text_files.specs.Files.{IsFileOf, IsCminor, IsRtl, IsLtl, IsLinear, IsProgramTextOf, OfCminor, OfRtl, OfLtl, OfLinear, tag_of, HasNone, HasNoProgramText, IsShownText, OfProgram, OfOffer, HasNoText}
use Rattle.text_offers.specs.Files.{IsOfferTextOf, OfConstants, OfExpressions, OfAllocation, OfLayout, HasNoOfferText, first_of}
use Rattle.text_offers.proofs.Files.{one_offer, none_begins}

-- the same program has the same file
same_file : {F : Type 0} {tag : ℕ} {spelling : F → List ℕ} {Fits : F → Type 0} (a b : List ℕ) (p q : Program F) → IsFileOf tag spelling Fits a p → IsFileOf tag spelling Fits b q → p ≡ q → a ≡ b
same_file {tag = tag} {spelling = spelling} a b p q is is' e = is.text ∙ ap (program_text tag spelling) e ∙ sym is'.text

-- the first two bytes of a text: c, r, lt or li
abbrev first : List ℕ → ℕ
first text = slice_index text 0

abbrev second : List ℕ → ℕ
second text = slice_index text 1

one_program_file : (a b text : List ℕ) → IsProgramTextOf a text → IsProgramTextOf b text → a ≡ b
one_program_file a b text (OfCminor p is e) (OfCminor q is' e') = same_file a b p q is is' (text_cminor.one_program p q is.fits is'.fits (sym e ∙ e'))
one_program_file a b text (OfRtl p is e) (OfRtl q is' e') = same_file a b p q is is' (text_rtl.one_program p q is.fits is'.fits (sym e ∙ e'))
one_program_file a b text (OfLtl p is e) (OfLtl q is' e') = same_file a b p q is is' (text_ltl.one_program p q is.fits is'.fits (sym e ∙ e'))
one_program_file a b text (OfLinear p is e) (OfLinear q is' e') = same_file a b p q is is' (text_linear.one_program p q is.fits is'.fits (sym e ∙ e'))
one_program_file a b text (OfCminor p is e) (OfRtl q is' e') = absurd (let h : 99 ≡ 114 = ap first (sym e ∙ e') in omega arith)
one_program_file a b text (OfCminor p is e) (OfLtl q is' e') = absurd (let h : 99 ≡ 108 = ap first (sym e ∙ e') in omega arith)
one_program_file a b text (OfCminor p is e) (OfLinear q is' e') = absurd (let h : 99 ≡ 108 = ap first (sym e ∙ e') in omega arith)
one_program_file a b text (OfRtl p is e) (OfCminor q is' e') = absurd (let h : 114 ≡ 99 = ap first (sym e ∙ e') in omega arith)
one_program_file a b text (OfRtl p is e) (OfLtl q is' e') = absurd (let h : 114 ≡ 108 = ap first (sym e ∙ e') in omega arith)
one_program_file a b text (OfRtl p is e) (OfLinear q is' e') = absurd (let h : 114 ≡ 108 = ap first (sym e ∙ e') in omega arith)
one_program_file a b text (OfLtl p is e) (OfCminor q is' e') = absurd (let h : 108 ≡ 99 = ap first (sym e ∙ e') in omega arith)
one_program_file a b text (OfLtl p is e) (OfRtl q is' e') = absurd (let h : 108 ≡ 114 = ap first (sym e ∙ e') in omega arith)
one_program_file a b text (OfLtl p is e) (OfLinear q is' e') = absurd (let h : 116 ≡ 105 = ap second (sym e ∙ e') in omega arith)
one_program_file a b text (OfLinear p is e) (OfCminor q is' e') = absurd (let h : 108 ≡ 99 = ap first (sym e ∙ e') in omega arith)
one_program_file a b text (OfLinear p is e) (OfRtl q is' e') = absurd (let h : 108 ≡ 114 = ap first (sym e ∙ e') in omega arith)
one_program_file a b text (OfLinear p is e) (OfLtl q is' e') = absurd (let h : 105 ≡ 116 = ap second (sym e ∙ e') in omega arith)

-- ---- a file of another language has another tag

tagged : {F : Type 0} {tag : ℕ} {spelling : F → List ℕ} {Fits : F → Type 0} (bytes : List ℕ) (p : Program F) → IsFileOf tag spelling Fits bytes p → tag_of bytes ≡ tag
tagged bytes p is = ap (λ b. slice_index b 4) is.text

-- no file of a language
abbrev None : {F : Type 0} → (List ℕ → Program F → Type 0) → List ℕ → Type 0
None {F} Is bytes = (p : Program F) → Is bytes p → ⊥

pub no_text : (bytes : List ℕ) → None IsCminor bytes → None IsRtl bytes → None IsLtl bytes → None IsLinear bytes → (text : List ℕ) → IsProgramTextOf bytes text → ⊥
no_text bytes c r l n text (OfCminor p is e) = c p is
no_text bytes c r l n text (OfRtl p is e) = r p is
no_text bytes c r l n text (OfLtl p is e) = l p is
no_text bytes c r l n text (OfLinear p is e) = n p is

pub no_cminor : (bytes : List ℕ) → tag_of bytes ≢ 1 → None IsCminor bytes
no_cminor bytes ne p is = ne (tagged bytes p is)

pub no_rtl : (bytes : List ℕ) → tag_of bytes ≢ 2 → None IsRtl bytes
no_rtl bytes ne p is = ne (tagged bytes p is)

pub no_ltl : (bytes : List ℕ) → tag_of bytes ≢ 3 → None IsLtl bytes
no_ltl bytes ne p is = ne (tagged bytes p is)

pub no_linear : (bytes : List ℕ) → tag_of bytes ≢ 4 → None IsLinear bytes
no_linear bytes ne p is = ne (tagged bytes p is)

-- ---- where a language's files are refused

-- what is said of a refusal under another name
refused_by : {T : Type 0} (P Q : FormError → Type 0) → ((fault : FormError) → P fault → Q fault) → (r : Result T FormError) → IfErr r P → IfErr r Q
refused_by P Q to (Ok x) h = tt
refused_by P Q to (Err fault) h = to fault h

pub cminor_refused : {T : Type 0} (r : Result T FormError) (bytes : List ℕ) → tag_of bytes ≡ 1 → IfErr r (λ fault. HasNone IsCminor bytes fault) → IfErr r (λ fault. HasNoProgramText bytes fault)
cminor_refused r bytes is h =
    refused_by (λ fault. HasNone IsCminor bytes fault) (λ fault. HasNoProgramText bytes fault)
    (λ fault none ne. no_text bytes (none ne) (no_rtl bytes (λ e. omega (arith, is, e))) (no_ltl bytes (λ e. omega (arith, is, e))) (no_linear bytes (λ e. omega (arith, is, e)))) r h

pub rtl_refused : {T : Type 0} (r : Result T FormError) (bytes : List ℕ) → tag_of bytes ≡ 2 → IfErr r (λ fault. HasNone IsRtl bytes fault) → IfErr r (λ fault. HasNoProgramText bytes fault)
rtl_refused r bytes is h =
    refused_by (λ fault. HasNone IsRtl bytes fault) (λ fault. HasNoProgramText bytes fault)
    (λ fault none ne. no_text bytes (no_cminor bytes (λ e. omega (arith, is, e))) (none ne) (no_ltl bytes (λ e. omega (arith, is, e))) (no_linear bytes (λ e. omega (arith, is, e)))) r h

pub ltl_refused : {T : Type 0} (r : Result T FormError) (bytes : List ℕ) → tag_of bytes ≡ 3 → IfErr r (λ fault. HasNone IsLtl bytes fault) → IfErr r (λ fault. HasNoProgramText bytes fault)
ltl_refused r bytes is h =
    refused_by (λ fault. HasNone IsLtl bytes fault) (λ fault. HasNoProgramText bytes fault)
    (λ fault none ne. no_text bytes (no_cminor bytes (λ e. omega (arith, is, e))) (no_rtl bytes (λ e. omega (arith, is, e))) (none ne) (no_linear bytes (λ e. omega (arith, is, e)))) r h

pub linear_refused : {T : Type 0} (r : Result T FormError) (bytes : List ℕ) → tag_of bytes ≢ 1 → tag_of bytes ≢ 2 → tag_of bytes ≢ 3 → IfErr r (λ fault. HasNone IsLinear bytes fault) → IfErr r (λ fault. HasNoProgramText bytes fault)
linear_refused r bytes c t l h =
    refused_by (λ fault. HasNone IsLinear bytes fault) (λ fault. HasNoProgramText bytes fault) (λ fault none ne. no_text bytes (no_cminor bytes c) (no_rtl bytes t) (no_ltl bytes l) (none ne)) r h

-- ---- programs and offers

program_begins : (bytes text : List ℕ) → IsProgramTextOf bytes text → first_of bytes ≡ 67
program_begins bytes text (OfCminor p is e) = ap (λ b. slice_index b 0) is.text
program_begins bytes text (OfRtl p is e) = ap (λ b. slice_index b 0) is.text
program_begins bytes text (OfLtl p is e) = ap (λ b. slice_index b 0) is.text
program_begins bytes text (OfLinear p is e) = ap (λ b. slice_index b 0) is.text

program_title : (bytes text : List ℕ) → IsProgramTextOf bytes text → first text ≢ 111
program_title bytes text (OfCminor p is e) f = let h : 99 ≡ 111 = sym (ap first e) ∙ f in omega (arith, h)
program_title bytes text (OfRtl p is e) f = let h : 114 ≡ 111 = sym (ap first e) ∙ f in omega (arith, h)
program_title bytes text (OfLtl p is e) f = let h : 108 ≡ 111 = sym (ap first e) ∙ f in omega (arith, h)
program_title bytes text (OfLinear p is e) f = let h : 108 ≡ 111 = sym (ap first e) ∙ f in omega (arith, h)

offer_title : (bytes text : List ℕ) → IsOfferTextOf bytes text → first text ≡ 111
offer_title bytes text (OfConstants p is e) = ap first e
offer_title bytes text (OfExpressions p is e) = ap first e
offer_title bytes text (OfAllocation p is e) = ap first e
offer_title bytes text (OfLayout p is e) = ap first e

pub one_file : (a b text : List ℕ) → IsShownText a text → IsShownText b text → a ≡ b
one_file a b text (OfProgram p) (OfProgram q) = one_program_file a b text p q
one_file a b text (OfOffer p) (OfOffer q) = one_offer a b text p q
one_file a b text (OfProgram p) (OfOffer q) = absurd (program_title a text p (offer_title b text q))
one_file a b text (OfOffer p) (OfProgram q) = absurd (program_title b text q (offer_title a text p))

neither : (bytes : List ℕ) → ((text : List ℕ) → IsProgramTextOf bytes text → ⊥) → ((text : List ℕ) → IsOfferTextOf bytes text → ⊥) → (text : List ℕ) → IsShownText bytes text → ⊥
neither bytes p o text (OfProgram is) = p text is
neither bytes p o text (OfOffer is) = o text is

pub program_refused : {T : Type 0} (r : Result T FormError) (bytes : List ℕ) → first_of bytes ≡ 67 → IfErr r (λ fault. HasNoProgramText bytes fault) → IfErr r (λ fault. HasNoText bytes fault)
program_refused r bytes is h = refused_by (λ fault. HasNoProgramText bytes fault) (λ fault. HasNoText bytes fault) (λ fault none ne. neither bytes (none ne) (none_begins bytes is)) r h

pub offer_refused : {T : Type 0} (r : Result T FormError) (bytes : List ℕ) → first_of bytes ≢ 67 → IfErr r (λ fault. HasNoOfferText bytes fault) → IfErr r (λ fault. HasNoText bytes fault)
offer_refused r bytes ne h = refused_by (λ fault. HasNoOfferText bytes fault) (λ fault. HasNoText bytes fault) (λ fault none memory. neither bytes (λ text is. ne (program_begins bytes text is)) (none memory)) r h

shown_by : {T : Type 0} (P Q : T → Type 0) → ((text : T) → P text → Q text) → (r : Result T FormError) → IfOk r P → IfOk r Q
shown_by P Q to (Ok x) h = to x h
shown_by P Q to (Err fault) h = tt

pub program_shown : (r : Result (Vec ℕ) FormError) (bytes : List ℕ) → IfOk r (λ text. IsProgramTextOf bytes text.items) → IfOk r (λ text. IsShownText bytes text.items)
program_shown r bytes h = shown_by (λ text. IsProgramTextOf bytes text.items) (λ text. IsShownText bytes text.items) (λ text is. OfProgram is) r h

pub offer_shown : (r : Result (Vec ℕ) FormError) (bytes : List ℕ) → IfOk r (λ text. IsOfferTextOf bytes text.items) → IfOk r (λ text. IsShownText bytes text.items)
offer_shown r bytes h = shown_by (λ text. IsOfferTextOf bytes text.items) (λ text. IsShownText bytes text.items) (λ text is. OfOffer is) r h

-- ---- a file has nothing behind its program

pub nothing_behind : {F : Type 0} {tag : ℕ} {spelling : F → List ℕ} {Fits : F → Type 0} (bytes : List ℕ) (n : ℕ) (found p : Program F) →
    ((p q : Program F) (x y : List ℕ) → IsProgram Fits p → IsProgram Fits q → program_text tag spelling p ++ x ≡ program_text tag spelling q ++ y → (p ≡ q) × (x ≡ y)) →
    IsProgram Fits found → take n bytes ≡ program_text tag spelling found → IsFileOf tag spelling Fits bytes p → n < length bytes → ⊥
nothing_behind {tag = tag} {spelling = spelling} bytes n found p one fits front is more =
    let behind = drop n bytes in
    let whole : program_text tag spelling found ++ behind ≡ program_text tag spelling p ++ [] =
    ap (λ t. t ++ behind) (sym front) ∙ take-append-drop n bytes ∙ is.text ∙ sym (append-nil (program_text tag spelling p)) in
    let none = (one found p behind [] fits is.fits whole).1 in
    let left : length behind ≡ 0 = ap length none in
    omega (arith, length-drop n bytes, left, more)
