-- The offer that is pending, and that it was made again.
use Rattle.std.proofs.Common.{◌≡◌, ◌↔◌, ℕ, Bool, List, Some, Result, Ok, Err, IfOk, IsTrue, OnOk, sym, ap, ◌∙◌, subst}
use Rattle.acceptor_log_form.specs.declared.record.Record.{Record}
use Rattle.acceptor_log_form.specs.declared.record.Record.TheVariants.{Offered}
use Rattle.farm_nodes_turn_offer.specs.SeatValue.{SeatValue, offer_of}
use Rattle.farm_nodes_turn_offer.specs.Offered.{PutsOffer}
use Rattle.farm_nodes_turn_offer.specs.Pending.{IsOfferLeft}
use Rattle.farm_nodes_turn_offer.specs.Told.{IsOwnText}
use Rattle.farm_nodes_restart_seat.specs.Taken.{TookOffer}

module _ {T : Type 0} (IsText : List ℕ → T → Type 0) (room : ℕ) (s : SeatValue T) (m : ℕ) (bytes : List ℕ) (r : Record) (is : r ≡ Offered m bytes) (left : IsOfferLeft IsText room s r) where
  bytes_are : left.2 ≡ bytes
  bytes_are = let e : Offered m bytes ≡ Offered room left.2 = sym is ∙ left.3 in cc

  room_is : m ≡ room
  room_is = let e : Offered m bytes ≡ Offered room left.2 = sym is ∙ left.3 in cc

  -- its bytes are the text of an offer that the pass accepts
  pub has_text : (now : List ℕ) → now ≡ bytes → (x : T) × IsText now x
  has_text now same = (left.1, subst (λ (b : List ℕ). IsText b left.1) (bytes_are ∙ sym same) left.4)

  -- what was made of them is what was pending
  pub took_offer : {A E : Type 0} (now : List ℕ) (t : SeatValue T) (told : Result A E) → now ≡ bytes → OnOk told ((x : T) × IsText now x × PutsOffer x s t) → OnOk told (TookOffer IsText room r s t)
  took_offer now t (Ok u) same made = (made.0, bytes, is ∙ ap (λ (i : ℕ). Offered i bytes) room_is, subst (λ (b : List ℕ). IsText b made.0) same made.1, made.2)
  took_offer now t (Err e) same made = tt

-- ---- whether a text is that of the offer in the node's own cell

pub own_if : {T E : Type 0} (IsText : List ℕ → T → Type 0) (s : SeatValue T) (j : ℕ) (x : T) (text : List ℕ) (told : Result Bool E) → j ≡ s.words.node.me → offer_of s j ≡ Some x
    → IfOk told (λ yes. IsTrue yes ↔ IsText text x) → IfOk told (λ yes. IsTrue yes ↔ IsOwnText IsText s text)
own_if {T} IsText s j x text (Ok b) me seen iff =
    let there : offer_of s s.words.node.me ≡ Some x = ap (λ (k : ℕ). offer_of s k) (sym me) ∙ seen in (
      λ yes. (x, there, iff.0 yes),
      λ own.
          let both : Some own.0 ≡ Some x = sym own.1 ∙ there in
          let same : own.0 ≡ x = cc in
          iff.1 (subst (λ (y : T). IsText text y) same own.2),
    )
own_if {T} IsText s j x text (Err e) me seen iff = tt
