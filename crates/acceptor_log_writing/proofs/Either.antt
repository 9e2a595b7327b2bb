-- Bytes of one of two lists, and the blocks of one list behind another.
use Rattle.std.proofs.Common.{◌≡◌, ◌⊎◌, ℕ, List, [], ◌∷◌, ◌++◌, Some, inl, inr, refl, sym, ap, ◌∙◌, append-nil, append_assoc}
use Rattle.acceptor_log_form.specs.declared.header.Header.{Header}
use Rattle.acceptor_log_form.specs.declared.record.Record.{Record}
use Rattle.acceptor_log_form.specs.Lists.{Begins, Between}
use Rattle.acceptor_log_form.specs.Text.{block_text, blocks, StandsFor}
use Rattle.acceptor_log_form.proofs.Texts.{listed-stands}
use Rattle.acceptor_log_writing.specs.OneOf.{Either}

pub blocks-append : (rs qs : List Record) → blocks (rs ++ qs) ≡ blocks rs ++ blocks qs
blocks-append [] qs = refl
blocks-append (r ∷ rs) qs = ap (λ (l : List ℕ). 1 ∷ (block_text r ++ l)) (blocks-append rs qs) ∙ ap (λ (l : List ℕ). 1 ∷ l) (sym (append_assoc (block_text r) (blocks rs) (blocks qs)))

pub either-between : (h : Header) (low high : List Record) (bytes : List ℕ) → Begins low high → Either h low high bytes → Between h low high bytes
either-between h low high bytes begins (inl stands) = record { records = low; stands = stands; all_of_low = ([], sym (append-nil low)); none_else = begins }
either-between h low high bytes begins (inr stands) = record { records = high; stands = stands; all_of_low = begins; none_else = ([], sym (append-nil high)) }

-- bytes stand for one list
same_list : (h : Header) (xs ys : List Record) (bytes : List ℕ) → StandsFor h xs bytes → StandsFor h ys bytes → xs ≡ ys
same_list h xs ys bytes first second =
    let some : Some xs ≡ Some ys = sym (listed-stands h xs bytes first) ∙ listed-stands h ys bytes second in
    cc

-- so what is read of them is one of the two
pub either-lists : (h : Header) (low high rs : List Record) (bytes : List ℕ) → Either h low high bytes → StandsFor h rs bytes → (rs ≡ low) ⊎ (rs ≡ high)
either-lists h low high rs bytes (inl stands) read = inl (same_list h rs low bytes read stands)
either-lists h low high rs bytes (inr stands) read = inr (same_list h rs high bytes read stands)
