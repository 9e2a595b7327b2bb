-- The offer of a function is that of its text among the records, and its pass accepts it.
use Rattle.std.proofs.Common.{◌≡◌, ℕ, ◌<◌, ◌/◌, Bool, true, false, cond, eqb, List, [], ◌∷◌, All, Option, Some, None, IfSome, refl, sym, ap, ◌∙◌, subst}
use Rattle.std.specs.Prelude.{slice_get}
use Rattle.std.proofs.lemmas.List.Elements.{All-head, All-tail}
use Rattle.lang_base.specs.declared.language.Language as language
use Rattle.lang_base.specs.declared.pass.Pass as pass
use Rattle.acceptor_log_form.specs.Leaves.{kept_in}
use Rattle.acceptor_log_form.specs.declared.record.Record.{Record}
use Rattle.offers.specs.Text.{PartsFit}
use Rattle.offers.specs.declared.parts.Parts.{Parts}
use Rattle.farm_nodes_open_offers.proofs.Told.{offered_told}
use Rattle.farm_nodes_open_offers.specs.FarmNodesTurnOfferPending as pending
use Rattle.farm_nodes_open_offers.specs.Known.{last_in, IsAccepted}
use Rattle.farm_nodes_open_offers.specs.Numbers.{room_at}
use Rattle.farm_nodes_open_offers.specs.Stored.{IsStoredText}
use Rattle.farm_nodes_open_offers.specs.Which.{Which}
use Rattle.farm_nodes_open_offers.specs.Written.{last_offer_in}
use Rattle.farm_nodes_open_offers.proofs.Writing.{known_from}
use Rattle.farm_nodes_open_stored.specs.Checked.{AreOffers}

if_either : {T : Type 0} (Q : T → Type 0) (b : Bool) (x : T) (given : Option T) → Q x → IfSome given Q → IfSome (cond b (Some x) given) Q
if_either Q true x given own is = own
if_either Q false x given own is = is

-- what is so of all is so of the last in rooms of a function
last_so : {T : Type 0} (Q : T → Type 0) (f : ℕ) (given : Option T) (rooms : List ℕ) (xs : List T) → All Q xs → IfSome given Q → IfSome (last_in f given rooms xs) Q
last_so Q f given [] xs all is = is
last_so Q f given (room ∷ rooms) [] all is = is
last_so {T} Q f given (room ∷ rooms) (x ∷ xs) all is =
    last_so Q f (cond (eqb (room / 4) f) (Some x) given) rooms xs (All-tail Q x xs all) (if_either Q (eqb (room / 4) f) x given (All-head Q x xs all) is)

module _ {P A B C I O : Type 0} (from : language.Ghosts A I) (to : language.Ghosts B O) (by : pass.Ghosts P A B C I O) (which : Which) where
  -- it is there, and this is its text
  abbrev pub IsToldBy : Option (Parts I O C) → List ℕ → Type 0
  IsToldBy offer text = (x : Parts I O C) × (offer ≡ Some x) × pending.IsOfferText from to by text x

  told_by : (offer : Option (Parts I O C)) (text : List ℕ) → IsStoredText from to by (Some text) offer → IfSome offer (PartsFit from.fits to.fits by.cert_fits) → IfSome offer (IsAccepted by.accepts) → IsToldBy offer text
  told_by None text is fits accepted = absurd is
  told_by (Some x) text is fits accepted = (x, refl, record { fits = fits; accepted = accepted; text = is })

  pub offer_told : (functions f : ℕ) (rs : List Record) (offers : List (Option (Parts I O C))) (offer : Option (Parts I O C)) → AreOffers from to by which functions rs offers
      → f < functions → slice_get offers f ≡ Some offer → (kept_in rs (room_at f which)).offered ≡ true → (text : List ℕ) × (last_offer_in rs (room_at f which) ≡ Some text) × IsToldBy offer text
  offer_told functions f rs offers offer ours below got offered =
      let rooms : List ℕ = ours.stored.rooms.items in
      let parts : List (Parts I O C) = ours.stored.parts.items in
      let both : Some (last_in f None ours.stored.rooms.items ours.stored.parts.items) ≡ Some offer = sym (ours.known.each f below) ∙ got in
      let same : last_in f None ours.stored.rooms.items ours.stored.parts.items ≡ offer = cc in
      let told = offered_told rs (room_at f which) offered in
      let is : IsStoredText from to by (last_offer_in rs (room_at f which)) (last_in f None ours.stored.rooms.items ours.stored.parts.items) =
      known_from from to by which f rs None None rooms parts tt ours.written.rooms ours.written.texts in
      let text_is : IsStoredText from to by (Some told.0) offer =
      subst (λ (o : Option (Parts I O C)). IsStoredText from to by (Some told.0) o) same
      (subst (λ (t : Option (List ℕ)). IsStoredText from to by t (last_in f None ours.stored.rooms.items ours.stored.parts.items)) told.1 is) in (
        told.0,
        told.1,
        told_by offer told.0 text_is
            (subst (λ (o : Option (Parts I O C)). IfSome o (PartsFit from.fits to.fits by.cert_fits)) same (last_so (PartsFit from.fits to.fits by.cert_fits) f None rooms parts ours.written.fit tt))
            (subst (λ (o : Option (Parts I O C)). IfSome o (IsAccepted by.accepts)) same (last_so (IsAccepted by.accepts) f None rooms parts ours.accepted tt)),
      )
