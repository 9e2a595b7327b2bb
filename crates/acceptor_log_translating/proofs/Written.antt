-- Texts of records, one behind the other.
use Rattle.std.proofs.Common.{◌≡◌, ◌≢◌, ℕ, ◌+◌, ◌<◌, ◌≤◌, suc, false, cond, Option, Some, None, List, [], ◌∷◌, ◌++◌, length, refl, sym, ◌∙◌, ap, subst, arith, append-nil, append_assoc}
use Rattle.std.specs.Prelude.{All, ◌==◌, ◌&&◌, ◌^◌}
use Rattle.std.proofs.lemmas.List.{length-append}
use Rattle.std.proofs.lemmas.List.Elements.{All-append, All-nil, All-cons}
use Rattle.acceptor_log_form.specs.declared.header.Header.{Header}
use Rattle.acceptor_log_form.specs.declared.record.Record.{Record}
use Rattle.acceptor_log_form.specs.declared.record.Record.TheVariants.{Summary}
use Rattle.acceptor_log_form.specs.Text.{body_text, block_text, blocks, journal_text, header_text, header_size, Fits, FitsWidths}
use Rattle.acceptor_log_writing.proofs.Crash.{length-blocks}
use Rattle.paxos_core_world.specs.KeptPart.{KeptPart}
use Rattle.acceptor_log_old.specs.Migrated.{offered, summary_of, told, of_room, migrated_below}
use Rattle.acceptor_log_translating.specs.Translating.{IsAdded}

blocks-append : (xs ys : List Record) → blocks (xs ++ ys) ≡ blocks xs ++ blocks ys
blocks-append [] ys = refl
blocks-append (x ∷ xs) ys = ap (λ (l : List ℕ). 1 ∷ l) (ap (λ (l : List ℕ). block_text x ++ l) (blocks-append xs ys) ∙ sym (append_assoc (block_text x) (blocks xs) (blocks ys)))

pub nothing_added : (before : List ℕ) → IsAdded before before [] 0
nothing_added before = record { text = sym (append-nil before); counted = refl; fits = All-nil Fits }

pub one_added : (before gate after : List ℕ) (r : Record) → gate ≡ before ++ 1 ∷ [] → after ≡ gate ++ block_text r → Fits r → IsAdded before after (r ∷ []) 1
one_added before gate after r opened is fits = record {
  text = is ∙ ap (λ (l : List ℕ). l ++ block_text r) opened ∙ append_assoc before (1 ∷ []) (block_text r)
      ∙ ap (λ (l : List ℕ). before ++ 1 ∷ l) (sym (append-nil (block_text r)));
  counted = refl;
  fits = All-cons Fits r [] fits (All-nil Fits);
}

pub both_added : (before mid after : List ℕ) (xs ys : List Record) (n m : ℕ) → IsAdded before mid xs n → IsAdded mid after ys m → IsAdded before after (xs ++ ys) (n + m)
both_added before mid after xs ys n m one two = record {
  text = two.text ∙ ap (λ (l : List ℕ). l ++ blocks ys) one.text ∙ append_assoc before (blocks xs) (blocks ys) ∙ ap (λ (l : List ℕ). before ++ l) (sym (blocks-append xs ys));
  counted = omega (arith, one.counted, two.counted, length-append xs ys);
  fits = All-append Fits xs ys one.fits two.fits;
}

-- a closed gate behind them
pub gate_added : (h : Header) (bytes all : List ℕ) (rs : List Record) (n : ℕ) → IsAdded (header_text h) bytes rs n → all ≡ bytes ++ 0 ∷ [] → all ≡ journal_text h rs
gate_added h bytes all rs n added is = is ∙ ap (λ (l : List ℕ). l ++ 0 ∷ []) added.text ∙ append_assoc (header_text h) (blocks rs) (0 ∷ [])

-- the offer whose block stands there, if there is one
pub offer_added : (m : ℕ) (o : Option (List ℕ)) (block before after : List ℕ) → block ≡ blocks (offered m o) → block ≢ [] → All Fits (offered m o) → after ≡ before ++ block
    → IsAdded before after (offered m o) 1
offer_added m None block before after is some fits written = absurd (some is)
offer_added m (Some offer) block before after is some fits written = record { text = written ∙ ap (λ (l : List ℕ). before ++ l) is; counted = refl; fits = fits }

pub no_offer_added : (m : ℕ) (o : Option (List ℕ)) (block before : List ℕ) → block ≡ blocks (offered m o) → block ≡ [] → IsAdded before before (offered m o) 0
no_offer_added m None block before is none = nothing_added before
no_offer_added m (Some offer) block before is none = absurd (omega (arith, ap length is, ap length none))

-- what was written is no shorter than the records are many
pub grown_by : (before after : List ℕ) (rs : List Record) (n : ℕ) → IsAdded before after rs n → length before + n ≤ length after
grown_by before after rs n added = omega (arith, added.counted, ap length added.text, length-append before (blocks rs), length-blocks rs)

summary_short : (room s p : ℕ) (x : ℕ × ℕ) → length (body_text (Summary room s p x)) < 2 ^ 32
summary_short room s p x = omega arith

-- the summary of a room of which there is something to tell
pub summary_added : (room : ℕ) (k : KeptPart) (r : Record) (before gate after : List ℕ) → (k.started == 0 && k.promised == 0) ≡ false → r ≡ Summary room k.started k.promised (told k.accepted)
    → FitsWidths r → gate ≡ before ++ 1 ∷ [] → after ≡ gate ++ block_text r → IsAdded before after (summary_of room k) 1
summary_added room k r before gate after some is fits pushed written =
    let one : Record = Summary room k.started k.promised (told k.accepted) in
    subst (λ t. IsAdded before after (cond t [] (one ∷ [])) 1) (sym some)
    (one_added before gate after one pushed (written ∙ ap (λ x. gate ++ block_text x) is) (subst FitsWidths is fits, summary_short room k.started k.promised (told k.accepted)))

pub summary_same : (before after : List ℕ) (room : ℕ) (k j : KeptPart) (n : ℕ) → k ≡ j → IsAdded before after (summary_of room k) n → IsAdded before after (summary_of room j) n
summary_same before after room k j n same added = subst (λ (p : KeptPart). IsAdded before after (summary_of room p) n) same added

-- a room more
pub room_added : (head bytes more : List ℕ) (rs : List Record) (room next count n : ℕ) → next ≡ room + 1 → IsAdded head bytes (migrated_below rs room) count → IsAdded bytes more (of_room rs room) n
    → IsAdded head more (migrated_below rs next) (count + n)
room_added head bytes more rs room next count n is so_far added =
    let suc_is : suc room ≡ next = omega (arith, is) in
    subst (λ (m : ℕ). IsAdded head more (migrated_below rs m) (count + n)) suc_is (both_added head bytes more (migrated_below rs room) (of_room rs room) count n so_far added)

pub gate_at : (h : Header) (bytes : List ℕ) (rs : List Record) (n : ℕ) → length (header_text h) ≡ header_size → IsAdded (header_text h) bytes rs n → length bytes ≡ header_size + length (blocks rs)
gate_at h bytes rs n long added = ap length added.text ∙ length-append (header_text h) (blocks rs) ∙ ap (λ (m : ℕ). m + length (blocks rs)) long

pub no_more : (h : Header) (bytes : List ℕ) (rs : List Record) (n : ℕ) → IsAdded (header_text h) bytes rs n → n ≤ length bytes
no_more h bytes rs n added = omega (arith, added.counted, ap length added.text, length-append (header_text h) (blocks rs), length-blocks rs)
