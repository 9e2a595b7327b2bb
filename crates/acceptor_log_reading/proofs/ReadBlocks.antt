-- Blocks of records that were read, and what is left behind them.
use Rattle.std.proofs.Common.{◌≡◌, ◌≢◌, ℕ, List, [], ◌∷◌, ◌++◌, None, Some, refl, sym, ap, ◌∙◌, append_assoc}
use Rattle.std.specs.List.{AllByRecursion}
use Rattle.std.specs.Prelude.{All}
use Rattle.std.proofs.lemmas.List.Elements.{recursion_from_All}
use Rattle.acceptor_log_form.specs.declared.record.Record.{Record}
use Rattle.acceptor_log_form.specs.Text.{block_text, blocks, Fits, StandsBehind}
use Rattle.acceptor_log_form.specs.Reading.{block_size, first_record, in_front, records_behind}
use Rattle.acceptor_log_form.proofs.Blocks.{blocks-push_rest, records_behind-block}

-- behind an open gate there is no list where there is no record
pub no_first_record : (bytes : List ℕ) → first_record bytes ≡ None → records_behind 0 (1 ∷ bytes) ≡ None
no_first_record bytes none = ap (λ o. in_front o (records_behind (block_size bytes) bytes)) none

none_behind : (rs : List Record) (rest : List ℕ) → AllByRecursion Fits rs → records_behind 0 rest ≡ None → records_behind 0 (blocks rs ++ rest) ≡ None
none_behind [] rest fit none = none
none_behind (r ∷ rs) rest fit none =
    ap (λ (l : List ℕ). records_behind 0 (1 ∷ l)) (append_assoc (block_text r) (blocks rs) rest)
    ∙ records_behind-block r (blocks rs ++ rest) fit.0
    ∙ ap (λ o. in_front (Some r) o) (none_behind rs rest fit.1 none)

-- where that is no list they are none either
pub records_behind-blocks_none : (rs : List Record) (rest : List ℕ) → All Fits rs → records_behind 0 rest ≡ None → records_behind 0 (blocks rs ++ rest) ≡ None
records_behind-blocks_none rs rest fit none = none_behind rs rest (recursion_from_All Fits rs fit) none

-- the bytes behind whole records, at an open gate with no record behind it
pub records_behind-cut : (bytes rest behind : List ℕ) (rs : List Record) → bytes ≡ blocks rs ++ rest → All Fits rs → rest ≡ 1 ∷ behind → first_record behind ≡ None → records_behind 0 bytes ≡ None
records_behind-cut bytes rest behind rs read fit opened none =
    ap (λ (l : List ℕ). records_behind 0 l) read
    ∙ records_behind-blocks_none rs rest fit (ap (λ (l : List ℕ). records_behind 0 l) opened ∙ no_first_record behind none)

-- and with no gate
pub records_behind-no_gate : (bytes rest : List ℕ) (rs : List Record) → bytes ≡ blocks rs ++ rest → All Fits rs → rest ≡ [] → records_behind 0 bytes ≡ None
records_behind-no_gate bytes rest rs read fit nothing =
    ap (λ (l : List ℕ). records_behind 0 l) read
    ∙ records_behind-blocks_none rs rest fit (ap (λ (l : List ℕ). records_behind 0 l) nothing)

-- at a closed gate the bytes stand for the records
pub stands_behind : (bytes rest : List ℕ) (rs : List Record) → bytes ≡ blocks rs ++ rest → All Fits rs → ((behind : List ℕ) → rest ≢ 1 ∷ behind) → rest ≢ [] → StandsBehind rs bytes
stands_behind bytes [] rs read fit closed some = absurd (some refl)
stands_behind bytes (gate ∷ behind) rs read fit closed some =
    record { gate = gate; behind = behind; closed = λ is. closed behind (ap (λ x. x ∷ behind) is); fits = fit; text = read }

-- one more record was read
pub one_more_read : (bytes rest behind after : List ℕ) (rs more : List Record) (r : Record) → bytes ≡ blocks rs ++ rest → rest ≡ 1 ∷ behind → behind ≡ block_text r ++ after → more ≡ rs ++ r ∷ [] → bytes ≡ blocks more ++ after
one_more_read bytes rest behind after rs more r read opened text are =
    read ∙ ap (λ (l : List ℕ). blocks rs ++ l) (opened ∙ ap (λ (l : List ℕ). 1 ∷ l) text) ∙ sym (blocks-push_rest rs r after) ∙ ap (λ l. blocks l ++ after) (sym are)
