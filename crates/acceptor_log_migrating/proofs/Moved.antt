-- What the old journal and the new text stand for.
use Rattle.std.proofs.Common.{◌≡◌, ◌≢◌, inl, inr, ⊎_elim, ℕ, Result, Err, List, [], ◌∷◌, ◌++◌, length, get_or, Some, refl, sym, ◌∙◌, ap, subst, append_assoc, arith}
use Rattle.std.specs.Prelude.{All, IsErrOf}
use Rattle.durable_model.specs.declared.error.DiskError.{DiskError}
use Rattle.durable_model.specs.declared.error.DiskError.TheVariants as disk
use Rattle.durable_model_writes.specs.Writes.{overwritten}
use Rattle.durable_model.specs.Honest.{Only}
use Rattle.durable_model.specs.Moments.{LeavesOnly, started}
use Rattle.durable_pair.specs.Images.{Both}
use Rattle.acceptor_log_migrating.proofs.Turned.{weaker, begins_with}
use Rattle.acceptor_log_form.specs.declared.errors.LogError.{LogError}
use Rattle.acceptor_log_form.specs.declared.errors.LogError.TheVariants as log
use Rattle.acceptor_log.specs.Faults.{log_fault}
use Rattle.acceptor_log_migrating.specs.Stands.{CanMigrate, IsNotMigrated, HasOld}
use Rattle.std.proofs.lemmas.List.{get_or-take}
use Rattle.durable_pair.specs.Images.{Images}
use Rattle.acceptor_log_form.specs.declared.header.Header.{Header}
use Rattle.acceptor_log_form.specs.declared.record.Record.{Record}
use Rattle.acceptor_log_form.specs.Text.{header_text, header_size, blocks, journal_text, Fits, StandsFor}
use Rattle.acceptor_log_form.proofs.Texts.{stands-pieces}
use Rattle.acceptor_log_old.specs.OldText.{old_header_size, OldStandsFor}
use Rattle.acceptor_log_old.proofs.OldHeaders.{either_form, text-first, text-second, size-first, size-second}
use Rattle.acceptor_log_old.proofs.OldTexts.{old_listed-stands}
use Rattle.acceptor_log_migrating.specs.Turning.{BeginsWith, Turns}
use Rattle.acceptor_log_translating.specs.declared.translating.Text.{Text}
use Rattle.acceptor_log_old.specs.Migrated.{migrated}
use Rattle.acceptor_log_translating.specs.Translating.{IsMigratedText}
use Rattle.acceptor_log_migrating.specs.Stands.{IsMigrating}

-- what begins with a journal's text stands for its records
pub begins-stands : (h : Header) (rs : List Record) (c : List ℕ) → length (header_text h) ≡ header_size → All Fits rs
    → BeginsWith (journal_text h rs) c → StandsFor h rs c
begins-stands h rs c long fit begins =
    stands-pieces header_size (header_text h) rs 0 begins.0 c long fit (omega arith)
    (begins.1 ∙ regrouped (header_text h) (blocks rs) begins.0)
  where
    regrouped : (a b d : List ℕ) → (a ++ (b ++ 0 ∷ [])) ++ d ≡ (a ++ b) ++ 0 ∷ d
    regrouped a b d = simp append_assoc

-- the old journal is of one list
pub same_old : (h : Header) (xs ys : List Record) (bytes : List ℕ) → OldStandsFor h xs bytes → OldStandsFor h ys bytes → xs ≡ ys
same_old h xs ys bytes one two =
    let some : Some xs ≡ Some ys = sym (old_listed-stands h xs bytes one) ∙ old_listed-stands h ys bytes two in
    cc

-- its first byte is C
pub old-counts : (h : Header) (rs : List Record) (bytes : List ℕ) → OldStandsFor h rs bytes → get_or bytes 0 0 ≡ 67
old-counts h rs bytes old = elim (either_form h) [
  | inl is ↦
      sym (get_or-take (old_header_size h) bytes 0 0 (omega (arith, size-first h is)))
      ∙ ap (λ (l : List ℕ). get_or l 0 0) (old.stands.header ∙ text-first h is)
  | inr is ↦
      sym (get_or-take (old_header_size h) bytes 0 0 (omega (arith, size-second h is)))
      ∙ ap (λ (l : List ℕ). get_or l 0 0) (old.stands.header ∙ text-second h is)
]

-- while a pair turns to the text of the migrated records
pub turns-migrating : (h : Header) (rs : List Record) (old text : List ℕ) → text ≡ journal_text h (migrated rs) → length (header_text h) ≡ header_size
    → All Fits (migrated rs) → (im : Images) → Turns text old im → IsMigrating h rs old im
turns-migrating h rs old text is long fit im turns =
    ⊎_elim (λ same. inl same)
    (λ spent. inr (spent.0, begins-stands h (migrated rs) im.0 long fit (subst (λ (l : List ℕ). BeginsWith l im.0) is spent.1)))
    turns

-- a text was made for the old journal
pub record IsMade (h : Header) (old text : List ℕ) (rs : List Record) : Type 0 where
  pub can : CanMigrate h rs old
  pub is : text ≡ journal_text h (migrated rs)
  pub head : length (header_text h) ≡ header_size
  pub fits : All Fits (migrated rs)

pub made_for : (h : Header) (old lent bytes : List ℕ) (text : Text) (rs : List Record) → lent ≡ old → CanMigrate h rs lent → IsMigratedText h (migrated rs) text → bytes ≡ text.bytes.items
    → IsMade h old bytes rs
made_for h old lent bytes text rs same can made is =
    record { can = subst (CanMigrate h rs) same can; is = is ∙ made.bytes_are; head = made.head; fits = made.fits }

module _ {D : Type 0} (moment : D → ℕ) (both_since : D → ℕ → Images → Type 0) (new_may old_may : D → List ℕ → Type 0) (old_seen : D → List ℕ) (p : D)
    (start : (im : Images) → both_since p (moment p) im → Both new_may old_may p im) (only : Only (old_seen p) (old_may p)) where
  -- while the old journal is looked at
  pub looks : LeavesOnly moment both_since p p (HasOld (old_seen p))
  looks = started moment both_since p (HasOld (old_seen p)) (λ im left. only im.1 (start im left).1)

  -- and while the pair turns to the new one
  pub moves : (r : D) (h : Header) (rs made : List Record) (text : List ℕ) → CanMigrate h rs (old_seen p) → IsMade h (old_seen p) text made
      → (get_or (old_seen p) 0 0 ≡ 67 → LeavesOnly moment both_since p r (Turns text (old_seen p))) → LeavesOnly moment both_since p r (IsMigrating h rs (old_seen p))
  moves r h rs made text can of turned =
      let same : made ≡ rs = same_old h made rs (old_seen p) of.can.stands can.stands in
      let text_is : text ≡ journal_text h (migrated rs) = of.is ∙ ap (λ l. journal_text h (migrated l)) same in
      let fit : All Fits (migrated rs) = subst (λ l. All Fits (migrated l)) same of.fits in
      weaker (turned (old-counts h rs (old_seen p) can.stands)) (λ im turns. turns-migrating h rs (old_seen p) text text_is of.head fit im turns)

-- what stands for the records once the text is laid
pub laid-stands : (h : Header) (rs : List Record) (old text was now : List ℕ) → IsMade h old text rs → now ≡ overwritten was 0 text → StandsFor h (migrated rs) now
laid-stands h rs old text was now of is =
    begins-stands h (migrated rs) now of.head of.fits (subst (λ (l : List ℕ). BeginsWith l now) of.is (begins_with was text now is))

-- a call that failed for another reason than the device was out of memory
pub told_memory : {T : Type 0} (r : Result T DiskError) (fault : DiskError) (e : LogError) → r ≡ Err fault → e ≡ log_fault fault → e ≢ log.Device → IsErrOf r disk.NoMemory
told_memory r disk.NoMemory e is told other = subst (λ x. IsErrOf x disk.NoMemory) (sym is) refl
told_memory r disk.Device e is told other = absurd (other told)

-- no old journal is refused for the device
not_for_device : (h : Header) (old : List ℕ) → IsNotMigrated h old log.Device → ⊥
not_for_device h old why = elim why [
  | inl fault ↦ fault
  | inr other ↦ elim other [
    | inl broken ↦ (let bad = broken.2 in absurd cc)
    | inr long ↦ (let bad = long.2 in absurd cc)
  ]
]

pub never_device : (h : Header) (old : List ℕ) (e : LogError) → (e ≢ log.NoMemory → IsNotMigrated h old e) → e ≡ log.Device → ⊥
never_device h old e refused is =
    not_for_device h old (subst (IsNotMigrated h old) is (refused (λ memory. (let both = sym is ∙ memory in absurd cc))))
