-- What a crash leaves of a journal in each of the two writes by which records are put down at once.
use Rattle.std.proofs.Common.{◌≡◌, ◌≢◌, ◌⊎◌, inl, inr, ⊎_elim, ℕ, ◌+◌, ◌<◌, ◌≤◌, List, [], ◌∷◌, ◌++◌, length, get_or, take, drop, refl, sym, ◌∙◌, ap, subst, append_assoc, append-nil, arith}
use Rattle.std.specs.Prelude.{All}
use Rattle.std.proofs.lemmas.Bool.{cases_eq}
use Rattle.std.proofs.lemmas.List.{take_at, drop_at, drop_all, drop_more, length-append, take-append-drop}
use Rattle.std.proofs.lemmas.List.Elements.{All-append, All-push, All-nil}
use Rattle.durable_model_writes.specs.Writes.{Torn, overwritten, overwritten_within, torn_before}
use Rattle.acceptor_log_form.specs.declared.header.Header.{Header}
use Rattle.acceptor_log_form.specs.declared.record.Record.{Record}
use Rattle.acceptor_log_form.specs.Text.{header_text, header_size, body_text, block_text, blocks, journal_text, Fits, StandsAs}
use Rattle.acceptor_log_form.proofs.Bodies.{length-block_text}
use Rattle.acceptor_log_form.proofs.Headers.{length-header_text}
use Rattle.acceptor_log_form.proofs.Texts.{before_gate, stands-pieces, pieces-stand, length-head_stands, text-stands}
use Rattle.acceptor_log_writing.proofs.Either.{blocks-append}
use Rattle.acceptor_log_writing.specs.Written.{MayTear, AreBlocks, behind_gate, with_block, with_record, with_records}

module _ (size : ℕ) (head : List ℕ) (rs : List Record) (bytes : List ℕ) (gate : ℕ) (stands : StandsAs size head rs bytes) (at_gate : gate ≡ size + length (blocks rs)) where
  abbrev Front : List ℕ
  Front = before_gate head rs

  long : length head ≡ size
  long = length-head_stands size head rs bytes stands

  front_size : length Front ≡ gate
  front_size = omega (arith, length-append head (blocks rs), long, at_gate)

  whole : bytes ≡ Front ++ stands.records.gate ∷ stands.records.behind
  whole = pieces-stand size head rs bytes stands

  -- the gate stands within the bytes
  pub gate-within : gate < length bytes
  gate-within = omega (arith, front_size, ap length whole, length-append Front (stands.records.gate ∷ stands.records.behind))

  through_gate : bytes ≡ (Front ++ stands.records.gate ∷ []) ++ stands.records.behind
  through_gate = whole ∙ sym (append_assoc Front (stands.records.gate ∷ []) stands.records.behind)

  size_through : length (Front ++ stands.records.gate ∷ []) ≡ gate + 1
  size_through = omega (arith, front_size, length-append Front (stands.records.gate ∷ []))

  front_through : take (gate + 1) bytes ≡ Front ++ stands.records.gate ∷ []
  front_through = ap (take (gate + 1)) through_gate ∙ take_at (Front ++ stands.records.gate ∷ []) stands.records.behind (gate + 1) size_through

  -- what keeps the bytes up to the closed gate stands for the same records
  pub stands-behind_gate : (c : List ℕ) → take (gate + 1) c ≡ take (gate + 1) bytes → StandsAs size head rs c
  stands-behind_gate c same =
      let front : take (gate + 1) c ≡ Front ++ stands.records.gate ∷ [] = same ∙ front_through in
      stands-pieces size head rs stands.records.gate (drop (gate + 1) c) c long stands.records.fits stands.records.closed
      (sym (take-append-drop (gate + 1) c) ∙ ap (λ (l : List ℕ). l ++ drop (gate + 1) c) front ∙ append_assoc Front (stands.records.gate ∷ []) (drop (gate + 1) c))

  -- while the block is written
  pub stands-torn : (n : ℕ) (c : List ℕ) → Torn (gate + 1) n bytes c → StandsAs size head rs c
  stands-torn n c torn = stands-behind_gate c (torn_before (omega (arith, gate-within)) torn)

  module _ (qs : List Record) (block : List ℕ) (are_blocks : AreBlocks qs block) where
    fit_all : All Fits (rs ++ qs)
    fit_all = All-append Fits rs qs stands.records.fits are_blocks.fit

    abbrev Rest : List ℕ
    Rest = drop (gate + 1 + length block) bytes

    abbrev Staged : ℕ → List ℕ
    Staged g = Front ++ g ∷ (block ++ Rest)

    -- once the blocks are written
    staged : overwritten bytes (gate + 1) block ≡ Staged stands.records.gate
    staged =
        overwritten_within bytes (gate + 1) block (omega (arith, gate-within))
        ∙ ap (λ (l : List ℕ). l ++ block ++ Rest) front_through
        ∙ append_assoc (Front ++ stands.records.gate ∷ []) block Rest
        ∙ append_assoc Front (stands.records.gate ∷ []) (block ++ Rest)

    -- behind an open gate they are the blocks of all, and a closed gate
    open-text : Staged 1 ≡ before_gate head (rs ++ qs) ++ 0 ∷ Rest
    open-text =
        ap (λ (l : List ℕ). Front ++ (l ++ Rest)) are_blocks.text
        ∙ ap (λ (l : List ℕ). Front ++ l) (append_assoc (blocks qs) (0 ∷ []) Rest)
        ∙ append_assoc head (blocks rs) (blocks qs ++ 0 ∷ Rest)
        ∙ ap (λ (l : List ℕ). head ++ l) (sym (append_assoc (blocks rs) (blocks qs) (0 ∷ Rest)))
        ∙ ap (λ (l : List ℕ). head ++ (l ++ 0 ∷ Rest)) (sym (blocks-append rs qs))
        ∙ sym (append_assoc head (blocks (rs ++ qs)) (0 ∷ Rest))

    stands-open : (c : List ℕ) → c ≡ Staged 1 → StandsAs size head (rs ++ qs) c
    stands-open c is = stands-pieces size head (rs ++ qs) 0 Rest c long fit_all (omega arith) (is ∙ open-text)

    stands-shut : (g : ℕ) (c : List ℕ) → g ≢ 1 → c ≡ Staged g → StandsAs size head rs c
    stands-shut g c shut is = stands-pieces size head rs g (block ++ Rest) c long stands.records.fits shut is

    abbrev AllOrNone : List ℕ → Type 0
    AllOrNone c = StandsAs size head rs c ⊎ StandsAs size head (rs ++ qs) c

    -- whatever stands in the gate, all of them count or none
    all_or_none : (g : ℕ) (c : List ℕ) → c ≡ Staged g → AllOrNone c
    all_or_none g c is =
        elim (cases_eq g 1) [
          | inl one ↦ inr (stands-open c (is ∙ ap Staged one))
          | inr shut ↦ inl (stands-shut g c shut is)
        ]

    length-staged : (g : ℕ) → gate < length (Staged g)
    length-staged g = omega (arith, front_size, length-append Front (g ∷ (block ++ Rest)))

    -- what stands before the gate and behind it, once they are written
    before_written : (written : List ℕ) → written ≡ overwritten bytes (gate + 1) block → take gate written ≡ Front
    before_written written is =
        let g = stands.records.gate in
        ap (take gate) (is ∙ staged) ∙ take_at Front (g ∷ (block ++ Rest)) gate front_size

    behind_written : (written : List ℕ) → written ≡ overwritten bytes (gate + 1) block → drop (gate + 1) written ≡ block ++ Rest
    behind_written written is =
        let g = stands.records.gate in
        ap (drop (gate + 1)) (is ∙ staged ∙ sym (append_assoc Front (g ∷ []) (block ++ Rest))) ∙ drop_at (Front ++ g ∷ []) (block ++ Rest) (gate + 1) size_through

    gate_in_written : (written : List ℕ) → written ≡ overwritten bytes (gate + 1) block → gate < length written
    gate_in_written written is = omega (arith, ap length (is ∙ staged), length-staged stands.records.gate)

    -- while the gate is opened
    torn-gate : (written c : List ℕ) → written ≡ overwritten bytes (gate + 1) block → Torn gate 1 written c → AllOrNone c
    torn-gate written c is torn =
        let longer = gate_in_written written is in
        let front : take gate c ≡ Front = torn_before (omega (arith, longer)) torn ∙ before_written written is in
        let behind : drop (gate + 1) c ≡ block ++ Rest = torn.after (omega arith) ∙ behind_written written is in
        let at = get_or c gate 0 in
        let rest : drop gate c ≡ at ∷ (block ++ Rest) = drop_more c gate 0 (omega (arith, longer, torn.no_shorter)) ∙ ap (λ (l : List ℕ). at ∷ l) behind in
        all_or_none at c (sym (take-append-drop gate c) ∙ ap (λ (l : List ℕ). l ++ drop gate c) front ∙ ap (λ (l : List ℕ). Front ++ l) rest)

    -- once the gate is open
    pub opened_is : (written c : List ℕ) → written ≡ overwritten bytes (gate + 1) block → c ≡ overwritten written gate (1 ∷ []) → c ≡ before_gate head (rs ++ qs) ++ 0 ∷ Rest
    opened_is written c is opened =
        opened ∙ overwritten_within written gate (1 ∷ []) (omega (arith, gate_in_written written is))
        ∙ ap (λ (l : List ℕ). l ++ (1 ∷ []) ++ drop (gate + 1) written) (before_written written is)
        ∙ ap (λ (l : List ℕ). Front ++ (1 ∷ []) ++ l) (behind_written written is)
        ∙ append_assoc Front (1 ∷ []) (block ++ Rest)
        ∙ open-text

    pub stands-written : (written c : List ℕ) → written ≡ overwritten bytes (gate + 1) block → c ≡ overwritten written gate (1 ∷ []) → StandsAs size head (rs ++ qs) c
    stands-written written c is opened = stands-pieces size head (rs ++ qs) 0 Rest c long fit_all (omega arith) (opened_is written c is opened)

    -- where the next gate stands
    pub next-gate : gate + length block ≡ size + length (blocks (rs ++ qs))
    next-gate = omega (arith, at_gate, ap length are_blocks.text, length-append (blocks qs) (0 ∷ []), ap length (blocks-append rs qs), length-append (blocks rs) (blocks qs))

    -- a crash within the first write
    pub all_or_none-first : (may_leave : List ℕ → Type 0) → ((c : List ℕ) → may_leave c → c ≡ bytes) → (n : ℕ) (c : List ℕ) → MayTear may_leave (gate + 1) n c → AllOrNone c
    all_or_none-first may_leave only n c left = inl (⊎_elim
        (λ was. subst (λ (l : List ℕ). StandsAs size head rs l) (sym (only c was)) stands)
        (λ tears. stands-torn n c (subst (λ (l : List ℕ). Torn (gate + 1) n l c) (only tears.0 tears.1) tears.2))
        left)

    -- a crash within the second
    pub all_or_none-second : (written : List ℕ) (may_leave : List ℕ → Type 0) → written ≡ overwritten bytes (gate + 1) block → ((c : List ℕ) → may_leave c → c ≡ written) → (c : List ℕ) → MayTear may_leave gate 1 c → AllOrNone c
    all_or_none-second written may_leave is only c left =
        ⊎_elim
        (λ was. all_or_none stands.records.gate c (only c was ∙ is ∙ staged))
        (λ tears. torn-gate written c is (subst (λ (l : List ℕ). Torn gate 1 l c) (only tears.0 tears.1) tears.2))
        left

-- what is written of some records are their blocks
pub blocks-behind : (qs : List Record) (block : List ℕ) → qs ≢ [] → All Fits qs → block ≡ behind_gate qs → AreBlocks qs block
blocks-behind [] block some fit is = absurd (some refl)
blocks-behind (r ∷ qs) block some fit is = record { fit = fit; text = ap (λ (l : List ℕ). 1 ∷ l) (is ∙ sym (append_assoc (block_text r) (blocks qs) (0 ∷ []))) }

-- and where they are put down
pub with-some : (bytes : List ℕ) (gate : ℕ) (qs : List Record) → qs ≢ [] → with_block bytes gate (behind_gate qs) ≡ with_records bytes gate qs
with-some bytes gate [] some = absurd (some refl)
with-some bytes gate (r ∷ qs) some = refl

-- a journal of no records, over what was there
pub stands-created : (size : ℕ) (head old bytes new : List ℕ) → length head ≡ size → bytes ≡ head ++ 0 ∷ [] → new ≡ overwritten old 0 bytes → StandsAs size head [] new
stands-created size head old bytes new long are is =
    stands-pieces size head [] 0 (drop (0 + length bytes) old) new long (All-nil Fits) (omega arith)
    (is ∙ overwritten_within old 0 bytes (omega arith) ∙ ap (λ (l : List ℕ). l ++ drop (0 + length bytes) old) are
    ∙ append_assoc head (0 ∷ []) (drop (0 + length bytes) old)
    ∙ ap (λ (l : List ℕ). l ++ 0 ∷ drop (0 + length bytes) old) (sym (append-nil head)))

-- on an empty disk
pub text-created : (h : Header) → overwritten [] 0 (journal_text h []) ≡ journal_text h []
text-created h =
    let text = journal_text h [] in
    overwritten_within [] 0 text (omega arith)
    ∙ ap (λ (l : List ℕ). text ++ l) (drop_all (0 + length text) [] (omega arith))
    ∙ append-nil text

cons_is_some : (r : Record) (qs : List Record) → r ∷ qs ≢ []
cons_is_some r qs none = let long = ap length none in omega (arith, long)

-- where nothing stands behind the closed gate, records that are put down make the text of the list with them
pub texts-grown : (h : Header) (rs qs : List Record) → length h.digest ≡ 32 → All Fits rs → All Fits qs → with_records (journal_text h rs) (header_size + length (blocks rs)) qs ≡ journal_text h (rs ++ qs)
texts-grown h rs [] long fit fits = ap (λ (l : List Record). journal_text h l) (sym (append-nil rs))
texts-grown h rs (r ∷ qs) long fit fits =
    let text = journal_text h rs in
    let gate = header_size + length (blocks rs) in
    let block = behind_gate (r ∷ qs) in
    let written = overwritten text (gate + 1) block in
    let none : drop (gate + 1 + length block) text ≡ [] =
    drop_all (gate + 1 + length block) text (omega (arith, length-header_text h long, length-append (header_text h) (blocks rs ++ 0 ∷ []), length-append (blocks rs) (0 ∷ []))) in
    opened_is header_size (header_text h) rs text gate (text-stands h rs long fit) refl (r ∷ qs) block (blocks-behind (r ∷ qs) block (cons_is_some r qs) fits refl) written (overwritten written gate (1 ∷ [])) refl refl
    ∙ ap (λ (l : List ℕ). before_gate (header_text h) (rs ++ r ∷ qs) ++ 0 ∷ l) none
    ∙ append_assoc (header_text h) (blocks (rs ++ r ∷ qs)) (0 ∷ [])

-- and one makes that with it
pub text-grown : (h : Header) (rs : List Record) (r : Record) → length h.digest ≡ 32 → All Fits rs → Fits r → with_record (journal_text h rs) (header_size + length (blocks rs)) r ≡ journal_text h (rs ++ r ∷ [])
text-grown h rs r long fit fits = texts-grown h rs (r ∷ []) long fit (All-push Fits [] r (All-nil Fits) fits)

-- there are at least as many bytes as records
pub length-blocks : (rs : List Record) → length rs ≤ length (blocks rs)
length-blocks [] = omega arith
length-blocks (r ∷ rs) = omega (arith, length-blocks rs, length-append (block_text r) (blocks rs))

-- one record: its gate, the length of its body, and that
pub length-one : (r : Record) → length (blocks (r ∷ [])) ≡ 5 + length (body_text r)
length-one r = omega (arith, length-append (block_text r) [], length-block_text r)

-- a front of a list has no more bytes than the list
pub length-front : (rs : List Record) (k : ℕ) → length (blocks (take k rs)) ≤ length (blocks rs)
length-front rs k =
    let both = ap (λ (l : List Record). length (blocks l)) (take-append-drop k rs) in
    omega (arith, both, ap length (blocks-append (take k rs) (drop k rs)), length-append (blocks (take k rs)) (blocks (drop k rs)))

-- with one record more its block stands behind them
pub length-more : (rs : List Record) (r : Record) → length (blocks (rs ++ r ∷ [])) ≡ length (blocks rs) + length (blocks (r ∷ []))
length-more rs r = ap length (blocks-append rs (r ∷ [])) ∙ length-append (blocks rs) (blocks (r ∷ []))

-- what is written is as long as the blocks: the first gate is there, and the last is new
pub length-behind : (qs : List Record) → qs ≢ [] → length (behind_gate qs) ≡ length (blocks qs)
length-behind [] some = absurd (some refl)
length-behind (r ∷ qs) some = omega (arith, length-append (block_text r) (blocks qs ++ 0 ∷ []), length-append (blocks qs) (0 ∷ []), length-append (block_text r) (blocks qs))
