-- What opening says of bytes with a header and the blocks of records.
use Rattle.std.proofs.Common.{◌≡◌, ◌≢◌, ◌⊎◌, inl, inr, ℕ, Bool, true, false, cond, List, [], ◌∷◌, ◌++◌, take, drop, length, Option, Some, None, refl, sym, ap, ◌∙◌, subst}
use Rattle.std.specs.Prelude.{◌&&◌, All}
use Rattle.std.proofs.lemmas.List.{take_at, drop_at}
use Rattle.acceptor_log_form.specs.declared.header.Header.{Header}
use Rattle.acceptor_log_form.specs.declared.record.Record.{Record}
use Rattle.acceptor_log_form.specs.declared.errors.LogError.TheVariants.{BadRecord}
use Rattle.acceptor_log_form.specs.Text.{blocks, header_size, Fits, StandsAs, StandsBehind}
use Rattle.acceptor_log_form.specs.Reading.{block_size, first_record, in_front, records_behind}
use Rattle.acceptor_log_form.proofs.Blocks.{records_behind-blocks, records_behind-drop}
use Rattle.acceptor_log_reading.proofs.ReadBlocks.{records_behind-blocks_none, records_behind-cut, records_behind-no_gate}
use Rattle.acceptor_log_old.specs.OldText.{are_plain, is_plain, old_header_size, old_listed, plain_only}
use Rattle.acceptor_log_old.proofs.OldTexts.{old_listed-cut, summary_none}
use Rattle.cfarm_log.specs.declared.version.Version.{Version}
use Rattle.cfarm_log.specs.declared.version.Version.TheVariants.{Old, New}
use Rattle.cfarm_log.specs.Forms.{header_bytes_of, header_size_of, IsRefusedAs, OpensAs}
use Rattle.cfarm_log.specs.Fronts.{if_had, IsAtEnd, IsCut, IsFront}
use Rattle.cfarm_log.specs.Heads.{IsHead}

taken : (v : Version) (h : Header) (bytes behind : List ℕ) → IsHead v h bytes behind → take (header_size_of v h) bytes ≡ header_bytes_of v h
taken v h bytes behind head = ap (take (header_size_of v h)) head.text ∙ take_at (header_bytes_of v h) behind (header_size_of v h) head.size

left : (v : Version) (h : Header) (bytes behind : List ℕ) → IsHead v h bytes behind → drop (header_size_of v h) bytes ≡ behind
left v h bytes behind head = ap (drop (header_size_of v h)) head.text ∙ drop_at (header_bytes_of v h) behind (header_size_of v h) head.size

stands : (v : Version) (h : Header) (rs : List Record) (bytes behind rest : List ℕ) → IsHead v h bytes behind → IsFront v rs rest behind → IsAtEnd rest
    → StandsAs (header_size_of v h) (header_bytes_of v h) rs bytes
stands v h rs bytes behind rest head front (gate, after, is, closed) = record {
  header = taken v h bytes behind head;
  records = record {
    gate = gate;
    behind = after;
    closed = closed;
    fits = front.fits;
    text = left v h bytes behind head ∙ front.text ∙ ap (λ (l : List ℕ). blocks rs ++ l) is;
  };
}

-- records up to a closed gate are those that opening lists
pub opens : (v : Version) (h : Header) (rs : List Record) (bytes behind rest : List ℕ) → IsHead v h bytes behind → IsFront v rs rest behind → IsAtEnd rest
    → OpensAs v h rs bytes
opens Old h rs bytes behind rest head front end = record { stands = stands Old h rs bytes behind rest head front end; plain = front.had }
opens New h rs bytes behind rest head front end = stands New h rs bytes behind rest head front end

had-new : (o : Option Record) → if_had New o ≡ None → o ≡ None
had-new None is = refl
had-new (Some r) is = is

-- no list where there is no gate, or no record behind an open one
cut_none : (bytes rest : List ℕ) (rs : List Record) → bytes ≡ blocks rs ++ rest → All Fits rs
    → (rest ≡ []) ⊎ ((behind : List ℕ) × (rest ≡ 1 ∷ behind) × (first_record behind ≡ None)) → records_behind 0 bytes ≡ None
cut_none bytes rest rs text fits (inl nothing) = records_behind-no_gate bytes rest rs text fits nothing
cut_none bytes rest rs text fits (inr (behind, opened, none)) = records_behind-cut bytes rest behind rs text fits opened none

and_false : (t : Bool) → (t && false) ≡ false
and_false true = refl
and_false false = refl

-- a summary among records
with_summary : (rs zs : List Record) (r : Record) → is_plain r ≡ false → are_plain (rs ++ r ∷ zs) ≡ false
with_summary [] zs r other = ap (λ t. t && are_plain zs) other
with_summary (x ∷ rs) zs r other = ap (λ t. is_plain x && t) (with_summary rs zs r other) ∙ and_false (is_plain x)

-- no list of an old journal where the next record is a summary
summary_cut : (bytes rest : List ℕ) (rs : List Record) (r : Record) (x : Option (List Record)) → bytes ≡ blocks rs ++ rest → All Fits rs → is_plain r ≡ false
    → records_behind 0 rest ≡ in_front (Some r) x → plain_only (records_behind 0 bytes) ≡ None
summary_cut bytes rest rs r None text fits other is =
    ap (λ (l : List ℕ). plain_only (records_behind 0 l)) text ∙ ap plain_only (records_behind-blocks_none rs rest fits is)
summary_cut bytes rest rs r (Some zs) text fits other is =
    ap (λ (l : List ℕ). plain_only (records_behind 0 l)) text ∙ ap plain_only (records_behind-blocks rs (r ∷ zs) rest fits is)
    ∙ summary_none (rs ++ r ∷ zs) (with_summary rs zs r other)

not_plain : (t : Bool) (r : Record) → cond t (Some r) None ≡ None → t ≡ false
not_plain true r is = absurd cc
not_plain false r is = refl

old_cut : (h : Header) (rs : List Record) (bytes behind rest after : List ℕ) (o : Option Record) → IsHead Old h bytes behind → IsFront Old rs rest behind
    → rest ≡ 1 ∷ after → first_record after ≡ o → if_had Old o ≡ None → old_listed h bytes ≡ None
old_cut h rs bytes behind rest after None head front opened is none =
    old_listed-cut h bytes behind (sym (left Old h bytes behind head)) (records_behind-cut behind rest after rs front.text front.fits opened is)
old_cut h rs bytes behind rest after (Some r) head front opened is none =
    let next : records_behind 0 rest ≡ in_front (Some r) (records_behind (block_size after) after) =
    ap (λ (l : List ℕ). records_behind 0 l) opened ∙ ap (λ o. in_front o (records_behind (block_size after) after)) is in
    ap plain_only (records_behind-drop (old_header_size h) bytes ∙ ap (λ (l : List ℕ). records_behind 0 l) (left Old h bytes behind head))
    ∙ summary_cut behind rest rs r (records_behind (block_size after) after) front.text front.fits (not_plain (is_plain r) r none) next

new_cut : (v : Version) (rs : List Record) (rest behind : List ℕ) → IsFront v rs rest behind
    → (rest ≡ []) ⊎ ((after : List ℕ) × (rest ≡ 1 ∷ after) × (first_record after ≡ None)) → records_behind 0 behind ≡ None
new_cut v rs rest behind front cut = cut_none behind rest rs front.text front.fits cut

-- records that are cut are refused
pub refuses : (v : Version) (h : Header) (rs : List Record) (bytes behind rest : List ℕ) → IsHead v h bytes behind → IsFront v rs rest behind → IsCut v rest
    → IsRefusedAs v h bytes BadRecord
refuses Old h rs bytes behind rest head front (inl nothing) = (
  head.form,
  taken Old h bytes behind head,
  old_listed-cut h bytes behind (sym (left Old h bytes behind head)) (new_cut Old rs rest behind front (inl nothing)),
)
refuses Old h rs bytes behind rest head front (inr (after, opened, none)) = (
  head.form,
  taken Old h bytes behind head,
  old_cut h rs bytes behind rest after (first_record after) head front opened refl none,
)
refuses New h rs bytes behind rest head front (inl nothing) = (
  head.form,
  taken New h bytes behind head,
  records_behind-drop header_size bytes ∙ ap (λ (l : List ℕ). records_behind 0 l) (left New h bytes behind head) ∙ new_cut New rs rest behind front (inl nothing),
)
refuses New h rs bytes behind rest head front (inr (after, opened, none)) = (
  head.form,
  taken New h bytes behind head,
  records_behind-drop header_size bytes ∙ ap (λ (l : List ℕ). records_behind 0 l) (left New h bytes behind head)
      ∙ new_cut New rs rest behind front (inr (after, opened, had-new (first_record after) none)),
)
