-- Bytes have one fault at most.
use Rattle.std.proofs.Common.{◌≡◌, ◌≢◌, ◌⊎◌, inl, inr, ℕ, List, take, refl, sym, ◌∙◌}
use Rattle.acceptor_log_form.specs.declared.header.Header.{Header}
use Rattle.acceptor_log_form.specs.declared.errors.LogError.{LogError}
use Rattle.acceptor_log_form.specs.declared.errors.LogError.TheVariants.{NoMemory, Device, NotAJournal, BadRecord, OtherSource, Stopped, Full}
use Rattle.acceptor_log_old.specs.OldText.{old_header_text, old_header_size}
use Rattle.acceptor_log_old.specs.OldFault.{IsInOldForm, IsInNoOldForm, HasOldFault}
use Rattle.acceptor_log_old.proofs.OldHeaders.{form-or_none}

-- the three faults and what shows each
abbrev Told : Header → List ℕ → LogError → Type 0
Told h bytes e =
    ((e ≡ NotAJournal) × IsInNoOldForm bytes)
    ⊎ ((e ≡ OtherSource) × IsInOldForm bytes × (take (old_header_size h) bytes ≢ old_header_text h))
    ⊎ ((e ≡ BadRecord) × IsInOldForm bytes × (take (old_header_size h) bytes ≡ old_header_text h))

told : (h : Header) (bytes : List ℕ) (e : LogError) → HasOldFault h bytes e → Told h bytes e
told h bytes NotAJournal fault = inl (refl, fault)
told h bytes OtherSource fault = inr (inl (refl, fault.0, fault.1))
told h bytes BadRecord fault = inr (inr (refl, fault.0, fault.1))
told h bytes NoMemory fault = absurd fault
told h bytes Device fault = absurd fault
told h bytes Stopped fault = absurd fault
told h bytes Full fault = absurd fault

same : (h : Header) (bytes : List ℕ) (d e : LogError) → Told h bytes d → Told h bytes e → d ≡ e
same h bytes d e (inl x) (inl y) = x.0 ∙ sym y.0
same h bytes d e (inl x) (inr (inl y)) = absurd (form-or_none bytes y.1 x.1)
same h bytes d e (inl x) (inr (inr y)) = absurd (form-or_none bytes y.1 x.1)
same h bytes d e (inr (inl x)) (inl y) = absurd (form-or_none bytes x.1 y.1)
same h bytes d e (inr (inr x)) (inl y) = absurd (form-or_none bytes x.1 y.1)
same h bytes d e (inr (inl x)) (inr (inl y)) = x.0 ∙ sym y.0
same h bytes d e (inr (inl x)) (inr (inr y)) = absurd (x.2 y.2)
same h bytes d e (inr (inr x)) (inr (inl y)) = absurd (y.2 x.2)
same h bytes d e (inr (inr x)) (inr (inr y)) = x.0 ∙ sym y.0

pub one-old_fault : (h : Header) (bytes : List ℕ) (d e : LogError) → HasOldFault h bytes d → HasOldFault h bytes e → d ≡ e
one-old_fault h bytes d e one two = same h bytes d e (told h bytes d one) (told h bytes e two)
