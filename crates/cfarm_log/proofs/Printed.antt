-- What was printed of a listing.
use Rattle.std.proofs.Common.{◌≡◌, ◌⊎◌, inl, inr, ℕ, ◌+◌, ◌-◌, ◌<◌, Bool, true, false, List, [], ◌∷◌, ◌++◌, Option, Result, Ok, Err, OnOk, OnErr, IfErr, length, take, drop, get_or, refl, sym, ap, ◌∙◌, subst, append_assoc, append-nil, arith}
use Rattle.std.specs.Io.KnownBytes.{Appends, Keeps}
use Rattle.std.proofs.KnownBytes.{Appends-kept, Appends-nil, Appends-trans}
use Rattle.std.proofs.lemmas.List.{length-append, take_more, take-append-drop}
use Rattle.lang_base.proofs.Beginnings.{IsBeginningOf-trans}
use Rattle.acceptor_log_form.specs.declared.header.Header.{Header}
use Rattle.acceptor_log_form.specs.declared.record.Record.{Record}
use Rattle.acceptor_log_form.specs.declared.errors.LogError.TheVariants as log
use Rattle.cfarm_output.specs.Begun.{IsBegun}
use Rattle.cfarm_output.proofs.Beginnings.{begun_by}
use Rattle.cfarm_log_lines.specs.Lines.{end_line, record_line, record_lines}
use Rattle.cfarm_log.specs.declared.version.Version.{Version}
use Rattle.cfarm_log.specs.declared.error.ListingError.{ListingError}
use Rattle.cfarm_log.specs.declared.error.ListingError.TheVariants.{NoMemory, Journal, Write}
use Rattle.cfarm_log.specs.declared.front.Front.{Front}
use Rattle.cfarm_log.specs.declared.head.HeadFault.{HeadFault}
use Rattle.cfarm_log.specs.declared.head.HeadFault.TheVariants as head
use Rattle.cfarm_log.specs.Faults.{head_told}
use Rattle.cfarm_log.specs.Forms.{header_bytes_of}
use Rattle.cfarm_log.specs.Fronts.{HasFront, IsAtEnd, IsCut, IsFront}
use Rattle.cfarm_log.specs.Heads.{HasNoHead, IsHead}
use Rattle.cfarm_log.specs.Listing.{gate_behind, lines_to, IsCutAt, IsInPart, IsListedAs, IsStoppedAt, IsListed}
use Rattle.cfarm_log.proofs.Opens.{opens, refuses}

-- a beginning of more, behind what was printed before
pub begun_behind : (front text : List ℕ) (before mid after : Option (List ℕ)) → Appends before mid front → IsBegun text mid after → IsBegun (front ++ text) before after
begun_behind front text before mid after first begun =
    let rest = begun.1.0 in
    (front ++ begun.0, (rest, append_assoc front begun.0 rest ∙ ap (λ l. front ++ l) begun.1.1), Appends-trans before mid after front begun.0 first begun.2)

-- a beginning of a front is one of all
pub begun_longer : (front text : List ℕ) (before after : Option (List ℕ)) → IsBegun front before after → IsBegun (front ++ text) before after
begun_longer front text before after begun =
    (begun.0, IsBeginningOf-trans begun.0 front (front ++ text) begun.1 (text, refl), begun.2)

-- the lines of one record more
pub lines-more : (rs : List Record) (r : Record) → record_lines (rs ++ r ∷ []) ≡ record_lines rs ++ record_line r
lines-more [] r = append-nil (record_line r)
lines-more (x ∷ rs) r = ap (λ l. record_line x ++ l) (lines-more rs r) ∙ sym (append_assoc (record_line x) (record_lines rs) (record_line r))

lines-append : (xs ys : List Record) → record_lines (xs ++ ys) ≡ record_lines xs ++ record_lines ys
lines-append [] ys = refl
lines-append (x ∷ xs) ys = ap (λ m. record_line x ++ m) (lines-append xs ys) ∙ sym (append_assoc (record_line x) (record_lines xs) (record_lines ys))

-- the next record of a list
lines_next : (rs : List Record) (n : ℕ) (r : Record) → n < length rs → r ≡ get_or rs n r → record_lines (take (n + 1) rs) ≡ record_lines (take n rs) ++ record_line r
lines_next rs n r low is = ap record_lines (take_more rs n r low ∙ ap (λ (x : Record). take n rs ++ x ∷ []) (sym is)) ∙ lines-more (take n rs) r

pub printed_next : (rs : List Record) (n : ℕ) (r : Record) (before now after : Option (List ℕ)) → n < length rs → r ≡ get_or rs n r
    → Appends before now (record_lines (take n rs)) → Appends now after (record_line r) → Appends before after (record_lines (take (n + 1) rs))
printed_next rs n r before now after low is first more =
    subst (λ l. Appends before after l) (sym (lines_next rs n r low is)) (Appends-trans before now after (record_lines (take n rs)) (record_line r) first more)

pub begun_next : (rs : List Record) (n : ℕ) (r : Record) (before now after : Option (List ℕ)) → n < length rs → r ≡ get_or rs n r
    → Appends before now (record_lines (take n rs)) → IsBegun (record_line r) now after → IsBegun (record_lines rs) before after
begun_next rs n r before now after low is first more =
    let next = subst (λ l. IsBegun l before after) (sym (lines_next rs n r low is)) (begun_behind (record_lines (take n rs)) (record_line r) before now after first more) in
    let all = begun_longer (record_lines (take (n + 1) rs)) (record_lines (drop (n + 1) rs)) before after next in
    subst (λ l. IsBegun l before after) (sym (lines-append (take (n + 1) rs) (drop (n + 1) rs)) ∙ ap record_lines (take-append-drop (n + 1) rs)) all

-- ---- what is answered

is_cut_at : (v : Version) (h : Header) (rs : List Record) (bytes behind rest : List ℕ) → IsHead v h bytes behind → IsFront v rs rest behind → IsCut v rest
    → IsCutAt bytes (gate_behind v h rs) (lines_to v h rs)
is_cut_at v h rs bytes behind rest head front cut = record {
  version = v;
  header = h;
  records = rs;
  behind = behind;
  rest = rest;
  refused = refuses v h rs bytes behind rest head front cut;
  head = head;
  front = front;
  cut = cut;
  at_gate = refl;
  lines = refl;
}

is_listed_as : (v : Version) (h : Header) (rs : List Record) (bytes behind rest : List ℕ) → IsHead v h bytes behind → IsFront v rs rest behind → IsAtEnd rest
    → IsListedAs bytes (lines_to v h rs ++ end_line (length rs) (gate_behind v h rs + 1))
is_listed_as v h rs bytes behind rest head front end = record {
  version = v;
  header = h;
  records = rs;
  opens = opens v h rs bytes behind rest head front end;
  lines = refl;
}

-- memory or the writer failed
pub failed : (e : ListingError) (bytes : List ℕ) (before after : Option (List ℕ)) → (e ≡ NoMemory) ⊎ (e ≡ Write) → IsInPart bytes before after → IsStoppedAt bytes e before after
failed e bytes before after (inl is) part = subst (λ (x : ListingError). IsStoppedAt bytes x before after) (sym is) part
failed e bytes before after (inr is) part = subst (λ (x : ListingError). IsStoppedAt bytes x before after) (sym is) part

-- nothing was printed
pub none_printed : (bytes : List ℕ) (before : Option (List ℕ)) → IsInPart bytes before before
none_printed bytes before = inl (Appends-nil before)

-- the lines of the records were begun, whatever stands behind them
pub begun_front : (v : Version) (h : Header) (rs : List Record) (bytes behind rest : List ℕ) (ends : (IsAtEnd rest) ⊎ (IsCut v rest)) (before after : Option (List ℕ))
    → IsHead v h bytes behind → IsFront v rs rest behind → IsBegun (lines_to v h rs) before after → IsInPart bytes before after
begun_front v h rs bytes behind rest (inl end) before after head front begun =
    let last = end_line (length rs) (gate_behind v h rs + 1) in
    inr (lines_to v h rs ++ last, inl (is_listed_as v h rs bytes behind rest head front end), begun_longer (lines_to v h rs) last before after begun)
begun_front v h rs bytes behind rest (inr cut) before after head front begun =
    inr (lines_to v h rs, inr (gate_behind v h rs, is_cut_at v h rs bytes behind rest head front cut), begun)

-- all of them were printed, and the last line was
pub whole : (v : Version) (h : Header) (rs : List Record) (bytes behind rest : List ℕ) (size : ℕ) (before mid after : Option (List ℕ))
    → IsHead v h bytes behind → IsFront v rs rest behind → IsAtEnd rest → size ≡ gate_behind v h rs + 1
    → Appends before mid (lines_to v h rs) → Appends mid after (end_line (length rs) size) → IsListed bytes before after
whole v h rs bytes behind rest size before mid after head front end is first last = (
  lines_to v h rs ++ end_line (length rs) (gate_behind v h rs + 1),
  is_listed_as v h rs bytes behind rest head front end,
  Appends-trans before mid after (lines_to v h rs) (end_line (length rs) (gate_behind v h rs + 1)) first
      (subst (λ n. Appends mid after (end_line (length rs) n)) is last),
)

-- or was begun
pub begun_end : (v : Version) (h : Header) (rs : List Record) (bytes behind rest : List ℕ) (size : ℕ) (before mid after : Option (List ℕ))
    → IsHead v h bytes behind → IsFront v rs rest behind → IsAtEnd rest → size ≡ gate_behind v h rs + 1
    → Appends before mid (lines_to v h rs) → IsBegun (end_line (length rs) size) mid after → IsInPart bytes before after
begun_end v h rs bytes behind rest size before mid after head front end is first last =
    let all = end_line (length rs) (gate_behind v h rs + 1) in
    inr (
      lines_to v h rs ++ all,
      inl (is_listed_as v h rs bytes behind rest head front end),
      begun_behind (lines_to v h rs) all before mid after first (subst (λ n. IsBegun (end_line (length rs) n) mid after) is last),
    )

-- they are cut, and what was printed is flushed
pub stopped : (e : ListingError) (v : Version) (h : Header) (rs : List Record) (bytes behind rest : List ℕ) (place : ℕ) (before mid after : Option (List ℕ))
    → IsHead v h bytes behind → IsFront v rs rest behind → IsCut v rest → place ≡ gate_behind v h rs
    → Appends before mid (lines_to v h rs) → Keeps mid after → (e ≡ Journal log.BadRecord place) ⊎ (e ≡ Write) → IsStoppedAt bytes e before after
stopped e v h rs bytes behind rest place before mid after head front cut is first kept (inl told) =
    subst (λ (x : ListingError). IsStoppedAt bytes x before after) (sym told) (
      lines_to v h rs,
      subst (λ n. IsCutAt bytes n (lines_to v h rs)) (sym is) (is_cut_at v h rs bytes behind rest head front cut),
      Appends-kept before mid after (lines_to v h rs) first kept,
    )
stopped e v h rs bytes behind rest place before mid after head front cut is first kept (inr told) =
    subst (λ (x : ListingError). IsStoppedAt bytes x before after) (sym told)
    (begun_front v h rs bytes behind rest (inr cut) before after head front
    (begun_by (lines_to v h rs) before after (Appends-kept before mid after (lines_to v h rs) first kept)))

-- bytes with no header
pub no_head : (bytes : List ℕ) (f : HeadFault) (before : Option (List ℕ)) → HasNoHead bytes f → IsStoppedAt bytes (head_told f) before before
no_head bytes head.NotAJournal before none = ([], (none.0, none.1, refl, refl), Appends-nil before)
no_head bytes head.EvenNodes before none = ([], (none.0, none.1, refl, refl), Appends-nil before)

-- what was read ends or is cut
pub either : (v : Version) (bytes : List ℕ) (found : Front) → (is : HasFront v bytes found) → IsAtEnd is.rest ⊎ IsCut v is.rest
either v bytes found is = by found.ends refl
  where
    by : (t : Bool) → found.ends ≡ t → IsAtEnd is.rest ⊎ IsCut v is.rest
    by true ends = inl (is.at_end ends)
    by false ends = inr (is.at_cut ends)

-- where its gate stands
pub place_is : (v : Version) (h : Header) (bytes behind : List ℕ) (found : Front) → IsHead v h bytes behind → HasFront v behind found
    → length bytes - length behind + found.gate ≡ gate_behind v h found.records.items
place_is v h bytes behind found head front =
    let long = ap length head.text ∙ length-append (header_bytes_of v h) behind in
    let size = head.size in
    let gate = front.place in
    omega (arith, long, size, gate)

pub on_ok : {T : Type 0} (r : Result T ListingError) (P Q : Type 0) → OnOk r P → (P → Q) → OnOk r Q
on_ok (Ok x) P Q h f = f h
on_ok (Err e) P Q h f = tt

pub on_err : {T : Type 0} (r : Result T ListingError) (P Q : Type 0) → OnErr r P → (P → Q) → OnErr r Q
on_err (Ok x) P Q h f = tt
on_err (Err e) P Q h f = f h

pub failed_by : {T : Type 0} (r : Result T ListingError) (bytes : List ℕ) (before after : Option (List ℕ)) (P : Type 0)
    → IfErr r (λ e. (e ≡ NoMemory) ⊎ (e ≡ Write)) → OnErr r P → (P → IsInPart bytes before after) → IfErr r (λ e. IsStoppedAt bytes e before after)
failed_by (Ok x) bytes before after P kinds begun f = tt
failed_by (Err e) bytes before after P kinds begun f = failed e bytes before after kinds (f begun)
