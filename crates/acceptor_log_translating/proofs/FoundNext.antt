-- What is found of the rooms once one record more was read.
use Rattle.std.proofs.Common.{◌≡◌, ◌≢◌, ◌⊎◌, inl, inr, ℕ, zero, suc, ◌+◌, ◌-◌, ◌<◌, ◌≤◌, Bool, true, false, cond, List, [], ◌∷◌, ◌++◌, length, take, drop, set, Option, Some, None, refl, sym, ◌∙◌, ap, subst, arith, append-nil, append_assoc}
use Rattle.std.specs.Prelude.{All, ◌^◌, ◌&&◌, slice_get, MatchBool}
use Rattle.std.proofs.lemmas.Bool.{eq-eqb, ne_eqb, and_parts}
use Rattle.std.proofs.lemmas.List.{length-append, length-set, take-append-le, take_at, drop_at}
use Rattle.std.proofs.lemmas.List.Elements.{All-nil, All-cons, All-head, All-push, All-weaker, recursion_from_All}
use Rattle.std.proofs.lemmas.Option.{none-some, same_Some, slice_get_within}
use Rattle.paxos_core_world.specs.KeptPart.{KeptPart, nothing_kept}
use Rattle.acceptor_log_form.specs.declared.header.Header.{Header}
use Rattle.acceptor_log_form.specs.declared.record.Record.{Record}
use Rattle.acceptor_log_form.specs.declared.record.Record.TheVariants.{Offered, Started, Proposed, Promised, Accepted, Summary}
use Rattle.acceptor_log_form.specs.Text.{block_text, blocks, room_of, Fits, FitsWidths}
use Rattle.acceptor_log_form.specs.Leaves.{kept_by_record, proposed_by, kept_in, proposed_in}
use Rattle.acceptor_log_form.specs.Order.{MayComeNext, MayFollow, AreInOrder}
use Rattle.acceptor_log_form.proofs.LeavesLemmas.{left_from-own, left_from-other}
use Rattle.acceptor_log_reading.proofs.ReadBlocks.{one_more_read}
use Rattle.acceptor_log_old.specs.OldText.{is_plain, are_plain}
use Rattle.acceptor_log_translating.specs.Noted.{IsNoted}
use Rattle.acceptor_log_old.proofs.Plain.{plain-more}
use Rattle.acceptor_log_translating.specs.declared.stepping.Room.{Room}
use Rattle.acceptor_log_translating.specs.declared.finding.Found.{Found}
use Rattle.acceptor_log_old.specs.Migrated.{AreOfRooms, first_offer_in, offered}
use Rattle.acceptor_log_translating.specs.Found.{nothing_found, place_by, ArePlaced, IsFound, AreFound, AreBroken, IsBroken, AreWidened, IsFoundIn}
use Rattle.acceptor_log_old.proofs.Offers.{or_else, or_none, offer_in-append}
use Rattle.acceptor_log_old.proofs.Kept.{some-offered}
use Rattle.acceptor_log_old.proofs.InOrder.{in_order-push}
use Rattle.acceptor_log_old.proofs.Rooms.{no_offer, none_left}

-- a block that was read stands between what is left before it and behind it
pub block_placed : (bytes rest behind after : List ℕ) (rs : List Record) (r : Record) (place : ℕ × ℕ) → bytes ≡ blocks rs ++ rest → rest ≡ 1 ∷ behind → behind ≡ block_text r ++ after
    → place.0 ≡ length bytes - length rest → place.1 ≡ length bytes - length after → Fits r → ArePlaced bytes (r ∷ []) place
block_placed bytes rest behind after rs r place read opened text from to fits =
    let one : List ℕ = 1 ∷ block_text r in
    let split : bytes ≡ (blocks rs ++ one) ++ after =
    read ∙ ap (λ (l : List ℕ). blocks rs ++ l) (opened ∙ ap (λ (l : List ℕ). 1 ∷ l) text) ∙ sym (append_assoc (blocks rs) one after) in
    let start : length (blocks rs) ≡ place.0 = omega (arith, from, ap length read, length-append (blocks rs) rest) in
    let end : length (blocks rs ++ one) ≡ place.1 = omega (arith, to, ap length split, length-append (blocks rs ++ one) after) in
    record {
      at = record {
        ends = omega (arith, start, end, length-append (blocks rs) one);
        within = omega (arith, end, ap length split, length-append (blocks rs ++ one) after);
      };
      text = ap (λ (l : List ℕ). drop place.0 (take place.1 l)) split ∙ ap (λ (l : List ℕ). drop place.0 l) (take_at (blocks rs ++ one) after place.1 end)
          ∙ drop_at (blocks rs) one place.0 start ∙ ap (λ (l : List ℕ). 1 ∷ l) (sym (append-nil (block_text r)));
      fits = All-cons Fits r [] fits (All-nil Fits);
    }

-- a record more was read, and noted
pub more_found : (h : Header) (bytes behind after : List ℕ) (rs : List Record) (r : Record) (place : ℕ × ℕ) (old new : Found) → IsNoted h r place old new
    → bytes ≡ blocks rs ++ 1 ∷ behind → All Fits rs → IsFoundIn h.nodes h.node bytes rs old → behind ≡ block_text r ++ after → Fits r
    → place.0 ≡ length bytes - length behind - 1 → place.1 ≡ length bytes - length after
    → (xs : List Record) × (bytes ≡ blocks xs ++ after) × All Fits xs × IsFoundIn h.nodes h.node bytes xs new
more_found h bytes behind after rs r place old new noted read fit was text fits from to =
    let start : place.0 ≡ length bytes - length (1 ∷ behind) = omega (arith, from) in (
      rs ++ r ∷ [],
      one_more_read bytes (1 ∷ behind) behind after rs (rs ++ r ∷ []) r read refl text refl,
      All-push Fits rs r fit fits,
      noted bytes rs (block_placed bytes (1 ∷ behind) behind after rs r place read refl text start to fits) was,
    )

-- an element of a list in which one was set
set_get : {X : Type 0} (xs : List X) (k : ℕ) (next y : X) (m : ℕ) → k < length xs → slice_get (set xs k next) m ≡ Some y
    → ((m ≡ k) × (next ≡ y)) ⊎ ((m ≢ k) × (slice_get xs m ≡ Some y))
set_get [] k next y m less got = absurd (omega (arith, less))
set_get (x ∷ xs) zero next y zero less got = inl (refl, same_Some next y got)
set_get (x ∷ xs) zero next y (suc m) less got = inr (λ bad. absurd (omega (arith, bad)), got)
set_get (x ∷ xs) (suc k) next y zero less got = inr (λ bad. absurd (omega (arith, bad)), got)
set_get (x ∷ xs) (suc k) next y (suc m) less got = elim (set_get xs k next y m (omega (arith, less)) got) [
  | inl same ↦ inl (omega (arith, same.0), same.1)
  | inr other ↦ inr (λ bad. other.0 (omega (arith, bad)), other.1)
]

front_get : {X : Type 0} (xs ys : List X) (k : ℕ) (x : X) → slice_get xs k ≡ Some x → slice_get (xs ++ ys) k ≡ Some x
front_get [] ys k x got = absurd (none-some x got)
front_get (y ∷ xs) ys zero x got = got
front_get (y ∷ xs) ys (suc k) x got = front_get xs ys k x got

last_get : {X : Type 0} (xs : List X) (x : X) → slice_get (xs ++ x ∷ []) (length xs) ≡ Some x
last_get [] x = refl
last_get (y ∷ xs) x = last_get xs x

-- of records in order that end with this one
module _ (n i rooms : ℕ) (rs : List Record) (r : Record) (order : AreInOrder n i rooms (rs ++ r ∷ [])) where
  front_in_order : AreInOrder n i rooms rs
  front_in_order k x got =
      subst (λ l. MayFollow n i rooms l x) (take-append-le k rs (r ∷ []) (omega (arith, slice_get_within rs k x got))) (order k x (front_get rs (r ∷ []) k x got))

  last_follows : MayFollow n i rooms rs r
  last_follows = subst (λ l. MayFollow n i rooms l r) (take_at rs (r ∷ []) (length rs) refl) (order (length rs) r (last_get rs r))

plain_parts : (rs : List Record) (r : Record) → are_plain (rs ++ r ∷ []) ≡ true → (are_plain rs ≡ true) × (is_plain r ≡ true)
plain_parts [] r all = (refl, (and_parts (is_plain r) true all).0)
plain_parts (x ∷ rs) r all =
    let both = and_parts (is_plain x) (are_plain (rs ++ r ∷ [])) all in
    let rest = plain_parts rs r both.1 in
    (λ i. both.0 i && rest.0 i, rest.1)

-- what is broken stays so
pub broken_more : (n i : ℕ) (rs : List Record) (r : Record) → AreBroken n i rs → AreBroken n i (rs ++ r ∷ [])
broken_more n i rs r broken plain order = broken (plain_parts rs r plain).0 (front_in_order n i (2 ^ 16) rs r order)

pub found_in : (n i : ℕ) (bytes : List ℕ) (rs : List Record) (found : Found) (goes : Bool) → found.are_sound ≡ goes → MatchBool goes (AreFound n i bytes rs found.rooms.items) (AreBroken n i rs)
    → IsFoundIn n i bytes rs found
found_in n i bytes rs found true is found_all = record { sound = λ yes. found_all; broken = λ no. absurd cc }
found_in n i bytes rs found false is broken = record { sound = λ yes. absurd cc; broken = λ no. broken }

-- before the first record
pub nothing_read : (n i : ℕ) (bytes : List ℕ) (rooms : List Room) → rooms ≡ [] → AreFound n i bytes [] rooms
nothing_read n i bytes rooms none = record {
  plain = refl;
  in_order = λ k r got. absurd (none-some r got);
  most = omega (arith, ap length none);
  named = All-nil (λ r. room_of r < length rooms);
  each = λ m x got. absurd (none-some x (ap (λ l. slice_get l m) (sym none) ∙ got));
}

module _ (bytes : List ℕ) (rs : List Record) where
  -- of a room that no record names
  unnamed : (rooms m : ℕ) → AreOfRooms rooms rs → rooms ≤ m → IsFound bytes rs m nothing_found
  unnamed rooms m named past =
      let each = recursion_from_All (λ r. room_of r < rooms) rs named in
      record {
        kept = sym (none_left rooms m past kept_by_record rs nothing_kept each);
        proposed = sym (none_left rooms m past proposed_by rs 0 each);
        offer = subst (λ o. ArePlaced bytes (offered m o) (0, 0)) (sym (no_offer rooms m past rs each))
            (record { at = record { ends = omega arith; within = omega arith }; text = refl; fits = All-nil Fits });
      }

  pub widened : (n i number : ℕ) (old new : List Room) → number < 2 ^ 16 → AreFound n i bytes rs old → AreWidened number old new → AreFound n i bytes rs new
  widened n i number old new few are wide = record {
    plain = are.plain;
    in_order = are.in_order;
    most = elim wide.no_more [ inl same ↦ omega (arith, same, are.most) | inr more ↦ omega (arith, more, few) ];
    named = All-weaker (λ r. room_of r < length old) (λ r. room_of r < length new) (λ r less. omega (arith, less, wide.no_less)) rs are.named;
    each = λ m x got. elim (wide.each m x got) [
      | inl was ↦ are.each m x was
      | inr none ↦ subst (IsFound bytes rs m) (sym none.1) (unnamed (length old) m are.named none.0)
    ];
  }

not_offered : (rs : List Record) (m : ℕ) → (kept_in rs m).offered ≡ false → first_offer_in rs m ≡ None
not_offered rs m none = by (first_offer_in rs m) refl
  where
    by : (o : Option (List ℕ)) → first_offer_in rs m ≡ o → o ≡ None
    by None is = refl
    by (Some offer) is = let some = some-offered rs nothing_kept m offer is in absurd cc

pub room_fits : (r : Record) → All Fits (r ∷ []) → room_of r < 2 ^ 16
room_fits r fits = by r (All-head Fits r [] fits).0
  where
    by : (x : Record) → FitsWidths x → room_of x < 2 ^ 16
    by (Offered room o) fit = fit
    by (Started room b) fit = fit.0
    by (Proposed room b v) fit = fit.0
    by (Promised room b) fit = fit.0
    by (Accepted room b v) fit = fit.0
    by (Summary room s p x) fit = fit.0

other_offer : (r : Record) (m : ℕ) → room_of r ≢ m → first_offer_in (r ∷ []) m ≡ None
other_offer (Offered room o) m other = ap (λ t. cond t (Some o) None) (ne_eqb room m other)
other_offer (Started room b) m other = refl
other_offer (Proposed room b v) m other = refl
other_offer (Promised room b) m other = refl
other_offer (Accepted room b v) m other = refl
other_offer (Summary room s p x) m other = refl

-- where a room's offer stands
module _ (bytes : List ℕ) (rs : List Record) (m : ℕ) (was now : ℕ × ℕ) (before : ArePlaced bytes (offered m (first_offer_in rs m)) was) where
  same_offer : (r : Record) → first_offer_in (r ∷ []) m ≡ None → ArePlaced bytes (offered m (first_offer_in (rs ++ r ∷ []) m)) was
  same_offer r none =
      subst (λ o. ArePlaced bytes (offered m o) was) (sym (offer_in-append rs (r ∷ []) m ∙ ap (or_else (first_offer_in rs m)) none ∙ or_none (first_offer_in rs m))) before

  first_offer : (o : List ℕ) → first_offer_in rs m ≡ None → ArePlaced bytes (Offered m o ∷ []) now → ArePlaced bytes (offered m (first_offer_in (rs ++ Offered m o ∷ []) m)) now
  first_offer o none here =
      subst (λ x. ArePlaced bytes (offered m x) now)
      (sym (offer_in-append rs (Offered m o ∷ []) m ∙ ap (λ x. or_else x (first_offer_in (Offered m o ∷ []) m)) none ∙ ap (λ t. cond t (Some o) None) (eq-eqb m m refl))) here

  own_offer : (n i : ℕ) (kept : KeptPart) (proposed : ℕ) (r : Record) → room_of r ≡ m → kept ≡ kept_in rs m → MayComeNext n i kept proposed r → ArePlaced bytes (r ∷ []) now
      → ArePlaced bytes (offered m (first_offer_in (rs ++ r ∷ []) m)) (place_by was now r)
  own_offer n i kept proposed (Offered room o) own is goes here =
      subst (λ k. ArePlaced bytes (offered m (first_offer_in (rs ++ Offered k o ∷ []) m)) now) (sym own)
      (first_offer o (not_offered rs m (sym (ap (λ k. k.offered) is) ∙ goes)) (subst (λ k. ArePlaced bytes (Offered k o ∷ []) now) own here))
  own_offer n i kept proposed (Started room b) own is goes here = same_offer (Started room b) refl
  own_offer n i kept proposed (Proposed room b v) own is goes here = same_offer (Proposed room b v) refl
  own_offer n i kept proposed (Promised room b) own is goes here = same_offer (Promised room b) refl
  own_offer n i kept proposed (Accepted room b v) own is goes here = same_offer (Accepted room b v) refl
  own_offer n i kept proposed (Summary room s p x) own is goes here = same_offer (Summary room s p x) refl

-- one record more, of a room of which this was found
module _ (n i : ℕ) (bytes : List ℕ) (rs : List Record) (rooms : List Room) (are : AreFound n i bytes rs rooms) (r : Record) (k : ℕ) (own : k ≡ room_of r) (x : Room) (here : slice_get rooms k ≡ Some x) where
  there : k < length rooms
  there = slice_get_within rooms k x here

  goes_on_here : MayComeNext n i x.kept x.proposed r → MayFollow n i (2 ^ 16) rs r
  goes_on_here goes =
      let found = are.each k x here in (
        omega (arith, own, there, are.most),
        subst (λ m. MayComeNext n i (kept_in rs m) (proposed_in rs m) r) own
            (subst (λ p. MayComeNext n i p (proposed_in rs k) r) found.kept (subst (λ b. MayComeNext n i x.kept b r) found.proposed goes)),
      )

  pub found_next : (place : ℕ × ℕ) (next : Room) → ArePlaced bytes (r ∷ []) place → is_plain r ≡ true → MayComeNext n i x.kept x.proposed r → next.kept ≡ kept_by_record x.kept r
      → next.proposed ≡ proposed_by x.proposed r → next.place ≡ place_by x.place place r → AreFound n i bytes (rs ++ r ∷ []) (set rooms k next)
  found_next place next placed plain goes kept proposed moved =
      let found = are.each k x here in
      let long : length (set rooms k next) ≡ length rooms = length-set rooms k next in
      let own_is : IsFound bytes (rs ++ r ∷ []) k next = record {
        kept = kept ∙ ap (λ p. kept_by_record p r) found.kept ∙ sym (left_from-own kept_by_record nothing_kept rs (rs ++ r ∷ []) r k refl (sym own));
        proposed = proposed ∙ ap (λ b. proposed_by b r) found.proposed ∙ sym (left_from-own proposed_by 0 rs (rs ++ r ∷ []) r k refl (sym own));
        offer = subst (ArePlaced bytes (offered k (first_offer_in (rs ++ r ∷ []) k))) (sym moved)
            (own_offer bytes rs k x.place place found.offer n i x.kept x.proposed r (sym own) found.kept goes placed);
      } in
      record {
        plain = plain-more rs (rs ++ r ∷ []) r refl are.plain plain;
        in_order = in_order-push n i (2 ^ 16) rs r are.in_order (goes_on_here goes);
        most = omega (arith, long, are.most);
        named = subst (λ m. AreOfRooms m (rs ++ r ∷ [])) (sym long) (All-push (λ y. room_of y < length rooms) rs r are.named (subst (λ m. m < length rooms) own there));
        each = λ m y got. elim (set_get rooms k next y m there got) [
          | inl same ↦ subst (λ (z : Room). IsFound bytes (rs ++ r ∷ []) m z) same.1 (subst (λ (j : ℕ). IsFound bytes (rs ++ r ∷ []) j next) (sym same.0) own_is)
          | inr other ↦
              let was = are.each m y other.1 in
              let away : room_of r ≢ m = λ bad. other.0 (sym bad ∙ sym own) in
              record {
                kept = was.kept ∙ sym (left_from-other kept_by_record nothing_kept rs (rs ++ r ∷ []) r m refl away);
                proposed = was.proposed ∙ sym (left_from-other proposed_by 0 rs (rs ++ r ∷ []) r m refl away);
                offer = same_offer bytes rs m y.place place was.offer r (other_offer r m away);
              }
        ];
      }

  pub broken_here : IsBroken n i x.kept x.proposed r → AreBroken n i (rs ++ r ∷ [])
  broken_here broken plain order =
      let found = are.each k x here in
      broken (plain_parts rs r plain).1
      (subst (λ b. MayComeNext n i x.kept b r) (sym found.proposed) (subst (λ p. MayComeNext n i p (proposed_in rs k) r) (sym found.kept)
      (subst (λ m. MayComeNext n i (kept_in rs m) (proposed_in rs m) r) (sym own) (last_follows n i (2 ^ 16) rs r order).1)))
