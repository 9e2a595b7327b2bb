-- A body is of one record, and a record has one body.
use Rattle.std.proofs.Common.{◌≡◌, ℕ, ◌+◌, true, leb, cond, List, ◌++◌, length, take, Some, None, refl, sym, ap, ◌∙◌, arith}
use Rattle.std.specs.Int.{w32, from_be_bytes, to_be_bytes}
use Rattle.std.proofs.lemmas.Bool.{le-leb}
use Rattle.std.proofs.lemmas.List.{length-append, take_at}
use Rattle.std.proofs.lemmas.Nat.{from_be_bytes-to_be_bytes_2, from_be_bytes-to_be_bytes_4}
use Rattle.acceptor_log_form.specs.declared.record.Record.{Record}
use Rattle.acceptor_log_form.specs.declared.record.Record.TheVariants.{Offered, Started, Proposed, Promised, Accepted, Summary}
use Rattle.acceptor_log_form.specs.Text.{body_text, block_text, Fits, FitsWidths}
use Rattle.acceptor_log_form.specs.Reading.{record_of, block_size, first_record}

pub record_of-text : (r : Record) → FitsWidths r → record_of (body_text r) ≡ Some r
record_of-text (Offered room offer) fits = λ i. Some (Offered (from_be_bytes-to_be_bytes_2 room fits i) offer)
record_of-text (Started room b) fits = λ i. Some (Started (from_be_bytes-to_be_bytes_2 room fits.0 i) (from_be_bytes-to_be_bytes_2 b fits.1 i))
record_of-text (Proposed room b v) fits = λ i. Some (Proposed (from_be_bytes-to_be_bytes_2 room fits.0 i) (from_be_bytes-to_be_bytes_2 b fits.1 i) v)
record_of-text (Promised room b) fits = λ i. Some (Promised (from_be_bytes-to_be_bytes_2 room fits.0 i) (from_be_bytes-to_be_bytes_2 b fits.1 i))
record_of-text (Accepted room b v) fits = λ i. Some (Accepted (from_be_bytes-to_be_bytes_2 room fits.0 i) (from_be_bytes-to_be_bytes_2 b fits.1 i) v)
record_of-text (Summary room s p x) fits =
    λ i. Some (Summary (from_be_bytes-to_be_bytes_2 room fits.0 i) (from_be_bytes-to_be_bytes_2 s fits.1 i) (from_be_bytes-to_be_bytes_2 p fits.2 i) (from_be_bytes-to_be_bytes_2 x.0 fits.3 i, x.1))

pub length-block_text : (r : Record) → length (block_text r) ≡ 4 + length (body_text r)
length-block_text r = length-append (to_be_bytes w32 (length (body_text r))) (body_text r)

-- a block and what stands behind it: its size
pub block_size-text : (r : Record) (rest : List ℕ) → Fits r → block_size (block_text r ++ rest) ≡ length (block_text r)
block_size-text r rest fits = ap (λ (n : ℕ). 4 + n) (from_be_bytes-to_be_bytes_4 (length (body_text r)) fits.1) ∙ sym (length-block_text r)

-- and its record
pub first_record-text : (r : Record) (rest : List ℕ) → Fits r → first_record (block_text r ++ rest) ≡ Some r
first_record-text r rest fits =
    let size : from_be_bytes w32 (to_be_bytes w32 (length (body_text r))) ≡ length (body_text r) = from_be_bytes-to_be_bytes_4 (length (body_text r)) fits.1 in
    let whole : leb (length (body_text r)) (length (body_text r ++ rest)) ≡ true = le-leb _ _ (omega (arith, length-append (body_text r) rest)) in
    ap (λ n. cond (leb n (length (body_text r ++ rest))) (record_of (take n (body_text r ++ rest))) None) size
    ∙ ap (λ t. cond t (record_of (take (length (body_text r)) (body_text r ++ rest))) None) whole
    ∙ ap record_of (take_at (body_text r) rest (length (body_text r)) refl)
    ∙ record_of-text r fits.0
