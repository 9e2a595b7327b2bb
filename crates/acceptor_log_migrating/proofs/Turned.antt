-- What a crash leaves at each moment of the turn from an old disk to a new one.
use Rattle.std.proofs.Common.{◌≡◌, ◌≢◌, ◌⊎◌, inl, inr, ⊎_elim, ℕ, ◌+◌, ◌<◌, List, [], ◌∷◌, ◌++◌, length, get_or, drop, sym, ◌∙◌, ap, subst, arith}
use Rattle.std.specs.Prelude.{◌↔◌}
use Rattle.std.proofs.lemmas.Bool.{cases_eq}
use Rattle.std.proofs.lemmas.List.{drop_more}
use Rattle.durable_model_writes.specs.declared.call.Call.{Call}
use Rattle.durable_model_writes.specs.Writes.{overwritten, Torn, overwritten_within}
use Rattle.durable_model.specs.Honest.{Only}
use Rattle.durable_model.specs.Moments.{LeavesOnly, started, goes_on}
use Rattle.durable_pair.specs.Images.{Images, IsSpent, Both}
use Rattle.durable_pair.specs.Does.{Does}
use Rattle.acceptor_log_migrating.specs.Turning.{BeginsWith, LeavesOld, TearsFirst, Spends, Turns}

module _ {D : Type 0} (moment : D → ℕ) (both_since : D → ℕ → Images → Type 0) (new_may old_may : D → List ℕ → Type 0) (seen old_seen : D → List ℕ) where
  -- before the first call
  pub old_started : (p : D) → ((im : Images) → both_since p (moment p) im → Both new_may old_may p im)
      → LeavesOnly moment both_since p p (LeavesOld (old_may p))
  old_started p only = started moment both_since p (LeavesOld (old_may p)) (λ im left. (only im left).1)

  -- a call on the new disk more
  pub new_goes_on : (p q r : D) (call : Call) (bytes : List ℕ) → LeavesOnly moment both_since p q (LeavesOld (old_may p))
      → ((d : List ℕ) → old_may q d → old_may p d) → Does moment both_since (Both new_may old_may) seen new_may old_seen old_may call bytes q r
      → LeavesOnly moment both_since p r (LeavesOld (old_may p))
  new_goes_on p q r call bytes run same does =
      goes_on moment both_since p q r (LeavesOld (old_may p)) (Both new_may old_may) run does.time (λ im now. same im.1 ((does.other_left im.1).0 now.1))

  pub spend_started : (p : D) → ((im : Images) → both_since p (moment p) im → Both new_may old_may p im)
      → LeavesOnly moment both_since p p (Spends (new_may p) (old_may p))
  spend_started p only = started moment both_since p (Spends (new_may p) (old_may p)) (λ im left. let both = only im left in (both.0, inl both.1))

  -- a call on the old disk more
  pub spend_goes_on : (p q r : D) (call : Call) (bytes : List ℕ) → LeavesOnly moment both_since p q (Spends (new_may p) (old_may p))
      → ((c : List ℕ) → new_may q c → new_may p c) → ((d : List ℕ) → old_may r d → TearsFirst (old_may p) d)
      → Does moment both_since (Both new_may old_may) old_seen old_may seen new_may call bytes q r
      → LeavesOnly moment both_since p r (Spends (new_may p) (old_may p))
  spend_goes_on p q r call bytes run same tears does =
      goes_on moment both_since p q r (Spends (new_may p) (old_may p)) (Both new_may old_may) run does.time
      (λ im now. (same im.0 ((does.other_left im.0).0 now.0), tears im.1 now.1))

-- a run after which less is said
pub weaker : {D : Type 0} {moment : D → ℕ} {both_since : D → ℕ → Images → Type 0} {old new : D} {P Q : Images → Type 0}
    → LeavesOnly moment both_since old new P → ((im : Images) → P im → Q im) → LeavesOnly moment both_since old new Q
weaker run says = record {
  later = run.later;
  each = λ im left. says im (run.each im left);
  before = λ t im le left. ⊎_elim (λ past. inl past) (λ has. inr (says im has)) (run.before t im le left);
}

-- both ways through a state between
pub both_ways : {A B C : Type 0} → (C ↔ B) → (B ↔ A) → (C ↔ A)
both_ways last first = (λ c. first.0 (last.0 c), λ a. last.1 (first.1 a))

-- a first byte is one of at least one
pub some_bytes : (l : List ℕ) → get_or l 0 0 ≡ 67 → 0 < length l
some_bytes [] is = absurd (omega (arith, is))
some_bytes (b ∷ l) is = omega arith

-- the first byte torn: all is as it was, or it counts no more
torn_first : (old d : List ℕ) → get_or old 0 0 ≡ 67 → Torn 0 1 old d → (d ≡ old) ⊎ IsSpent d
torn_first old d counts torn =
    let long = some_bytes old counts in
    elim (cases_eq (get_or d 0 0) 67) [
      | inl same ↦ inl (
          drop_more d 0 0 (omega (arith, long, torn.no_shorter))
          ∙ ap (λ (b : ℕ). b ∷ drop 1 d) (same ∙ sym counts)
          ∙ ap (λ (l : List ℕ). get_or old 0 0 ∷ l) (torn.after (omega arith))
          ∙ sym (drop_more old 0 0 long))
      | inr other ↦ inr other
    ]

pub begins_with : (s text c : List ℕ) → c ≡ overwritten s 0 text → BeginsWith text c
begins_with s text c is = (drop (0 + length text) s, is ∙ overwritten_within s 0 text (omega arith))

pub zero_first : (old d : List ℕ) → d ≡ overwritten old 0 (0 ∷ []) → IsSpent d
zero_first old d is counts =
    let begins = begins_with old (0 ∷ []) d is in
    omega (arith, counts, ap (λ (l : List ℕ). get_or l 0 0) begins.1)

module _ (old_may : List ℕ → Type 0) (old text : List ℕ) (only : Only old old_may) where
  -- while the new text is put down
  pub turns-laid : (im : Images) → LeavesOld old_may im → Turns text old im
  turns-laid im left = inl (only im.1 left)

  -- while the old one is spent
  pub turns-spent : (new_may was_may : List ℕ → Type 0) (s : List ℕ) → get_or old 0 0 ≡ 67 → ((c : List ℕ) → new_may c → c ≡ overwritten s 0 text)
      → ((d : List ℕ) → was_may d → old_may d) → (im : Images) → Spends new_may was_may im → Turns text old im
  turns-spent new_may was_may s counts fresh was im left =
      ⊎_elim (λ here. inl (only im.1 (was im.1 here)))
      (λ tears. ⊎_elim (λ same. inl same) (λ spent. inr (spent, begins_with s text im.0 (fresh im.0 left.0)))
      (torn_first old im.1 counts (subst (λ (l : List ℕ). Torn 0 1 l im.1) (only tears.0 (was tears.0 tears.1)) tears.2)))
      left.1
