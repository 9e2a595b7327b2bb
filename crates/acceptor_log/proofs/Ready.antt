-- What a log has acknowledged, from what its disk's bytes stand for.
use Rattle.std.proofs.Common.{◌≡◌, ℕ, List, [], ◌++◌, length, take, refl, sym, ◌∙◌, ap, subst, append-nil}
use Rattle.std.specs.Prelude.{unwrap_or}
use Rattle.std.proofs.lemmas.List.{take_at}
use Rattle.durable_model.specs.declared.disk.Disk as disks
use Rattle.durable_model.specs.Honest.{Unchanged}
use Rattle.acceptor_log_form.specs.declared.header.Header.{Header}
use Rattle.acceptor_log_form.specs.declared.record.Record.{Record}
use Rattle.acceptor_log_form.specs.Text.{StandsFor}
use Rattle.acceptor_log_form.specs.Reading.{listed}
use Rattle.acceptor_log_form.specs.Lists.{Begins, Between}
use Rattle.acceptor_log_writing.specs.OneOf.{Either}
use Rattle.acceptor_log_writing.proofs.Either.{either-between}
use Rattle.acceptor_log_form.proofs.Texts.{listed-stands}
use Rattle.acceptor_log.specs.Rest.{Rests}

-- the first so many of the records that bytes stand for
abbrev pub first_of : Header → ℕ → List ℕ → List Record
first_of h count bytes = take count (unwrap_or (listed h bytes) [])

pub first_of-stands : (h : Header) (xs ys : List Record) (bytes : List ℕ) (count : ℕ) → StandsFor h ys bytes → Begins xs ys → count ≡ length xs → first_of h count bytes ≡ xs
first_of-stands h xs ys bytes count stands begins counted =
    ap (λ o. take count (unwrap_or o [])) (listed-stands h ys bytes stands) ∙ ap (take count) begins.1 ∙ take_at xs begins.0 count (sym counted)

-- where the bytes are between xs and more, they are the first so many
pub first_of-between : (h : Header) (xs more : List Record) (bytes : List ℕ) (count : ℕ) → Between h xs more bytes → count ≡ length xs → first_of h count bytes ≡ xs
first_of-between h xs more bytes count between counted = first_of-stands h xs between.records bytes count between.stands between.all_of_low counted

-- so they are where the bytes are of one of the two
pub first_of-either : (h : Header) (xs qs : List Record) (bytes : List ℕ) (count : ℕ) → Either h xs (xs ++ qs) bytes → count ≡ length xs → first_of h count bytes ≡ xs
first_of-either h xs qs bytes count either counted = first_of-between h xs (xs ++ qs) bytes count (either-between h xs (xs ++ qs) bytes (qs, refl) either) counted

module _ {D : Type 0} (disk : disks.Ghosts D) (h : Header) where
  -- a disk that rests on so many records: they are what is acknowledged
  pub first_of-rests : (rs : List Record) (gate count : ℕ) (now : D) → Rests disk h rs gate now → count ≡ length rs → first_of h count (disk.seen now) ≡ rs
  first_of-rests rs gate count now rests counted = first_of-stands h rs rs (disk.seen now) count rests.stands ([], sym (append-nil rs)) counted

  pub rests-first_of : (rs : List Record) (gate count : ℕ) (now : D) → Rests disk h rs gate now → count ≡ length rs → Rests disk h (first_of h count (disk.seen now)) gate now
  rests-first_of rs gate count now rests counted = subst (λ l. Rests disk h l gate now) (sym (first_of-rests rs gate count now rests counted)) rests

  pub counted-first_of : (rs : List Record) (gate count : ℕ) (now : D) → Rests disk h rs gate now → count ≡ length rs → count ≡ length (first_of h count (disk.seen now))
  counted-first_of rs gate count now rests counted = counted ∙ ap length (sym (first_of-rests rs gate count now rests counted))

  -- a call that changed nothing leaves it at rest
  pub rests-unchanged : (rs : List Record) (gate : ℕ) (old new : D) → Rests disk h rs gate old → disk.is_honest new → Unchanged disk.seen disk.may_leave old new → Rests disk h rs gate new
  rests-unchanged rs gate old new rests honest same = record {
    honest = honest;
    stands = subst (λ (l : List ℕ). StandsFor h rs l) (sym same.same) rests.stands;
    at_gate = rests.at_gate;
    durable = λ c left. rests.durable c (same.nothing_new c left) ∙ sym same.same;
  }
