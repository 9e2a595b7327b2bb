-- The offer of a room among records: there is one exactly where the room's node has offered, and no record behind it is of another.
use Rattle.std.proofs.Common.{◌≡◌, ◌≢◌, ◌⊎◌, inl, inr, ℕ, zero, suc, Bool, true, false, cond, eqb, List, [], ◌∷◌, ◌++◌, length, take, append-nil, append_assoc, Option, Some, None, is_some, refl, sym, ap, ◌∙◌, subst}
use Rattle.std.specs.Prelude.{slice_get}
use Rattle.std.proofs.lemmas.Bool.{cases_eq, eqb-true}
use Rattle.paxos_core_world.specs.KeptPart.{KeptPart, nothing_kept}
use Rattle.acceptor_log_form.specs.declared.record.Record.{Record}
use Rattle.acceptor_log_form.specs.declared.record.Record.TheVariants.{Offered, Started, Proposed, Promised, Accepted, Summary}
use Rattle.acceptor_log_form.specs.Text.{room_of}
use Rattle.acceptor_log_form.specs.Leaves.{left_from, kept_by_record, kept_in, proposed_in}
use Rattle.acceptor_log_form.specs.Order.{AreInOrder, MayComeNext, MayFollow}
use Rattle.acceptor_log_form.specs.Lists.{Begins}
use Rattle.paxos_core_node_steps.specs.declared.step.Step.{Step}
use Rattle.paxos_core_node_steps.specs.declared.step.Step.TheVariants as step
use Rattle.farm_nodes_turn_order.specs.OfferIn.{offer_by, last_offer_in}
use Rattle.farm_nodes_turn_order.specs.Recorded.{record_of, records_of}
use Rattle.farm_nodes_turn_order.proofs.Records.{kept_own, kept_other, left_own, left_other}

pub offer_own : (rs : List Record) (r : Record) (m : ℕ) → room_of r ≡ m → last_offer_in (rs ++ r ∷ []) m ≡ offer_by (last_offer_in rs m) r
offer_own rs r m own = left_own offer_by None rs r m own

pub offer_other : (rs : List Record) (r : Record) (m : ℕ) → room_of r ≢ m → last_offer_in (rs ++ r ∷ []) m ≡ last_offer_in rs m
offer_other rs r m other = left_other offer_by None rs r m other

-- the record of a step is of no offer
pub offer_step : (o : Option (List ℕ)) (room : ℕ) (x : Step) → offer_by o (record_of room x) ≡ o
offer_step o room (step.Start b) = refl
offer_step o room (step.Promise b) = refl
offer_step o room (step.Propose b v) = refl
offer_step o room (step.Accept b v) = refl

pub offer_acted : (o : Option (List ℕ)) (room : ℕ) (told : Option Step) (last : Record) → records_of room told ≡ last ∷ [] → offer_by o last ≡ o
offer_acted o room None last e = absurd (cc)
offer_acted o room (Some x) last e = let same : record_of room x ≡ last = cc in ap (λ (r : Record). offer_by o r) (sym same) ∙ offer_step o room x

-- ---- there is one where the node has offered

some_by : (k : KeptPart) (o : Option (List ℕ)) (r : Record) → k.offered ≡ is_some o → (kept_by_record k r).offered ≡ is_some (offer_by o r)
some_by k o (Offered room text) e = refl
some_by k o (Started room b) e = e
some_by k o (Proposed room b v) e = e
some_by k o (Promised room b) e = e
some_by k o (Accepted room b v) e = e
some_by k o (Summary room s p x) e = e

some_cond : (c : Bool) (k : KeptPart) (o : Option (List ℕ)) (r : Record) → k.offered ≡ is_some o → (cond c (kept_by_record k r) k).offered ≡ is_some (cond c (offer_by o r) o)
some_cond true k o r e = some_by k o r e
some_cond false k o r e = e

some_from : (rs : List Record) (k : KeptPart) (o : Option (List ℕ)) (m : ℕ) → k.offered ≡ is_some o → (left_from kept_by_record k rs m).offered ≡ is_some (left_from offer_by o rs m)
some_from [] k o m e = e
some_from (r ∷ rs) k o m e =
    some_from rs (cond (eqb (room_of r) m) (kept_by_record k r) k) (cond (eqb (room_of r) m) (offer_by o r) o) m (some_cond (eqb (room_of r) m) k o r e)

some_of : {A : Type 0} (o : Option A) → is_some o ≡ true → (x : A) × (o ≡ Some x)
some_of None e = absurd (cc)
some_of (Some x) e = (x, refl)

pub offered_told : (rs : List Record) (m : ℕ) → (kept_in rs m).offered ≡ true → (text : List ℕ) × (last_offer_in rs m ≡ Some text)
offered_told rs m e = some_of (last_offer_in rs m) (sym (some_from rs nothing_kept None m refl) ∙ e)

pub told_offered : (rs : List Record) (m : ℕ) (text : List ℕ) → last_offer_in rs m ≡ Some text → (kept_in rs m).offered ≡ true
told_offered rs m text e = some_from rs nothing_kept None m refl ∙ ap (λ (o : Option (List ℕ)). is_some o) e

-- ---- records in order have no other behind it

stays_by : (n i p : ℕ) (k : KeptPart) (o : Option (List ℕ)) (r : Record) → MayComeNext n i k p r → k.offered ≡ true → (offer_by o r ≡ o) × ((kept_by_record k r).offered ≡ true)
stays_by n i p k o (Offered room text) goes is = let bad : true ≡ false = sym is ∙ goes in absurd (cc)
stays_by n i p k o (Started room b) goes is = (refl, is)
stays_by n i p k o (Proposed room b v) goes is = (refl, is)
stays_by n i p k o (Promised room b) goes is = (refl, is)
stays_by n i p k o (Accepted room b v) goes is = (refl, is)
stays_by n i p k o (Summary room s q x) goes is = (refl, is)

at_length : (old more : List Record) (r : Record) → slice_get (old ++ r ∷ more) (length old) ≡ Some r
at_length [] more r = refl
at_length (x ∷ old) more r = at_length old more r

take_length : (old more : List Record) → take (length old) (old ++ more) ≡ old
take_length [] more = refl
take_length (x ∷ old) more = ap (λ (l : List Record). x ∷ l) (take_length old more)

follows : (n i rooms : ℕ) (old more : List Record) (r : Record) → AreInOrder n i rooms (old ++ r ∷ more) → MayFollow n i rooms old r
follows n i rooms old more r order = subst (λ (l : List Record). MayFollow n i rooms l r) (take_length old (r ∷ more)) (order (length old) r (at_length old more r))

one_on : (n i : ℕ) (old : List Record) (r : Record) (m : ℕ) → MayComeNext n i (kept_in old (room_of r)) (proposed_in old (room_of r)) r → (kept_in old m).offered ≡ true
    → (last_offer_in (old ++ r ∷ []) m ≡ last_offer_in old m) × ((kept_in (old ++ r ∷ []) m).offered ≡ true)
one_on n i old r m goes is = elim (cases_eq (room_of r) m) [
  | inl own ↦
      let here : MayComeNext n i (kept_in old m) (proposed_in old m) r = subst (λ (k : ℕ). MayComeNext n i (kept_in old k) (proposed_in old k) r) own goes in
      let stays = stays_by n i (proposed_in old m) (kept_in old m) (last_offer_in old m) r here is in
      (offer_own old r m own ∙ stays.0, ap (λ (k : KeptPart). k.offered) (kept_own old r m own) ∙ stays.1)
  | inr other ↦ (offer_other old r m other, ap (λ (k : KeptPart). k.offered) (kept_other old r m other) ∙ is)
]

later : (n i rooms m : ℕ) (more old : List Record) → AreInOrder n i rooms (old ++ more) → (kept_in old m).offered ≡ true → last_offer_in (old ++ more) m ≡ last_offer_in old m
later n i rooms m [] old order is = ap (λ (l : List Record). last_offer_in l m) (append-nil old)
later n i rooms m (r ∷ more) old order is =
    let one = one_on n i old r m (follows n i rooms old more r order).1 is in
    let same : (old ++ r ∷ []) ++ more ≡ old ++ r ∷ more = append_assoc old (r ∷ []) more in
    ap (λ (l : List Record). last_offer_in l m) (sym same)
    ∙ (later n i rooms m more (old ++ r ∷ []) (subst (λ (l : List Record). AreInOrder n i rooms l) (sym same) order) one.1 ∙ one.0)

-- what begins a list in order tells the offer of all of it
pub offer_stays : (n i rooms m : ℕ) (old new : List Record) → Begins old new → AreInOrder n i rooms new → (kept_in old m).offered ≡ true → last_offer_in new m ≡ last_offer_in old m
offer_stays n i rooms m old new begins order is =
    ap (λ (l : List Record). last_offer_in l m) begins.1
    ∙ later n i rooms m begins.0 old (subst (λ (l : List Record). AreInOrder n i rooms l) begins.1 order) is

-- ---- it is that of its record

split_at : (rs : List Record) (k : ℕ) (r : Record) → slice_get rs k ≡ Some r → (front : List Record) × (more : List Record) × (rs ≡ front ++ r ∷ more)
split_at [] k r at = absurd (cc)
split_at (x ∷ rs) zero r at = let same : x ≡ r = cc in ([], rs, ap (λ (y : Record). y ∷ rs) same)
split_at (x ∷ rs) (suc k) r at = let rest = split_at rs k r at in (x ∷ rest.0, rest.1, ap (λ (l : List Record). x ∷ l) rest.2)

pub stands_alone : (n i rooms : ℕ) (rs : List Record) (k m : ℕ) (text : List ℕ) → AreInOrder n i rooms rs → slice_get rs k ≡ Some (Offered m text) → last_offer_in rs m ≡ Some text
stands_alone n i rooms rs k m text order at =
    let parts = split_at rs k (Offered m text) at in
    let upto : List Record = parts.0 ++ Offered m text ∷ [] in
    let begins : Begins (parts.0 ++ Offered m text ∷ []) rs = (parts.1, parts.2 ∙ sym (append_assoc parts.0 (Offered m text ∷ []) parts.1)) in
    let offered : (kept_in (parts.0 ++ Offered m text ∷ []) m).offered ≡ true = ap (λ (p : KeptPart). p.offered) (kept_own parts.0 (Offered m text) m refl) in
    offer_stays n i rooms m (parts.0 ++ Offered m text ∷ []) rs begins order offered ∙ offer_own parts.0 (Offered m text) m refl

found_here : (r : Record) (o : Option (List ℕ)) (m : ℕ) (text : List ℕ) (c : Bool) → eqb (room_of r) m ≡ c → cond c (offer_by o r) o ≡ Some text → (o ≡ Some text) ⊎ (r ≡ Offered m text)
found_here r o m text false is e = inl e
found_here (Offered room other) o m text true is e =
    let same : other ≡ text = cc in
    inr (ap (λ (k : ℕ). Offered k other) (eqb-true room m is) ∙ ap (λ (t : List ℕ). Offered m t) same)
found_here (Started room b) o m text true is e = inl e
found_here (Proposed room b v) o m text true is e = inl e
found_here (Promised room b) o m text true is e = inl e
found_here (Accepted room b v) o m text true is e = inl e
found_here (Summary room s p x) o m text true is e = inl e

found_from : (rs : List Record) (o : Option (List ℕ)) (m : ℕ) (text : List ℕ) → left_from offer_by o rs m ≡ Some text → (o ≡ Some text) ⊎ ((k : ℕ) × (slice_get rs k ≡ Some (Offered m text)))
found_from [] o m text e = inl e
found_from (r ∷ rs) o m text e = elim (found_from rs (cond (eqb (room_of r) m) (offer_by o r) o) m text e) [
  | inl before ↦ elim (found_here r o m text (eqb (room_of r) m) refl before) [
    | inl is ↦ inl is
    | inr is ↦ inr (zero, ap (λ (x : Record). Some x) is)
  ]
  | inr there ↦ inr (suc there.0, there.1)
]

pub stands_there : (rs : List Record) (m : ℕ) (text : List ℕ) → last_offer_in rs m ≡ Some text → (k : ℕ) × (slice_get rs k ≡ Some (Offered m text))
stands_there rs m text e = elim (found_from rs None m text e) [
  | inl none ↦ absurd (cc)
  | inr there ↦ there
]
