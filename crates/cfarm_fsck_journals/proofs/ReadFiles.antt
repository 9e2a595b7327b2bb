-- What the files of a node are read as.
use Rattle.std.proofs.Common.{◌≡◌, ℕ, ◌+◌, ◌≤◌, List, ◌∷◌, Some, length, get_or, sym, ap, ◌∙◌, arith}
use Rattle.std.proofs.lemmas.List.{length-append, length-drop}
use Rattle.durable_pair.specs.Images.{IsSpent}
use Rattle.acceptor_log_form.specs.declared.header.Header.{Header}
use Rattle.acceptor_log_form.specs.declared.record.Record.{Record}
use Rattle.acceptor_log_form.specs.Text.{blocks, header_size, StandsFor}
use Rattle.acceptor_log_form.specs.Reading.{listed}
use Rattle.cfarm_fsck_journals.specs.Listed.{HasNoFile}

-- the closed gate stands within the bytes
pub gate_within : (h : Header) (rs : List Record) (bytes : List ℕ) → StandsFor h rs bytes → header_size + length (blocks rs) + 1 ≤ length bytes
gate_within h rs bytes stands =
    let text = ap length stands.records.text ∙ length-append (blocks rs) (stands.records.gate ∷ stands.records.behind) in
    let cut = length-drop header_size bytes in
    omega (arith, text, cut)

-- bytes stand for one list
pub one_reading : (h : Header) (xs ys : List Record) (bytes : List ℕ) → listed h bytes ≡ Some xs → listed h bytes ≡ Some ys → xs ≡ ys
one_reading h xs ys bytes one two = let same : Some xs ≡ Some ys = sym one ∙ two in cc

-- an old file that counts has bytes
pub has_file : (new old : List ℕ) → (IsSpent old → ⊥) → HasNoFile new old → ⊥
has_file new old counts none =
    let first : get_or old 0 0 ≡ 0 = ap (λ bytes. get_or bytes 0 0) none.1 in counts (λ is. absurd (omega (arith, first, is)))
