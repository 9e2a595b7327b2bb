-- One call of a turn after another: what stays of a seat, what its offer is, and why it halts.
use Rattle.std.proofs.Common.{◌≡◌, ◌≢◌, inl, ℕ, zero, suc, ◌%◌, ◌≤◌, ◌↔◌, Bool, true, false, cond, eqb, List, [], ◌∷◌, set, get_or-set_other, Option, Some, None, IfSome, Result, Ok, Err, OnOk, OnErr, IfErr, refl, sym, ap, ◌∙◌, subst, arith}
use Rattle.std.proofs.lemmas.Bool.{eqb-true, eq-eqb}
use Rattle.rand_pcg.specs.Lcg.{Lcg}
use Rattle.rand_pcg.specs.Pcg.{pcg32}
use Rattle.durable_model.specs.declared.disk.Disk as disks
use Rattle.durable_model.specs.Honest.{risen_within}
use Rattle.acceptor_log_form.specs.declared.errors.LogError.{LogError}
use Rattle.acceptor_log_form.specs.declared.errors.LogError.TheVariants as log
use Rattle.acceptor_log_form.specs.declared.record.Record.{Record}
use Rattle.acceptor_log_form.specs.declared.record.Record.TheVariants.{Offered}
use Rattle.acceptor_log.specs.declared.log.Log.{Log}
use Rattle.acceptor_log.specs.Acknowledged.{acknowledged}
use Rattle.offers.specs.declared.parts.Parts.{Parts}
use Rattle.rooms_cells.specs.Seen.{SightOf, Read, nothing_seen, value_at, names_of}
use Rattle.rooms_seat_state.specs.SeatState.{SeatState}
use Rattle.farm_nodes_turn_offer.specs.SeatValue.{SeatValue, IsOneRoom, offer_of}
use Rattle.farm_nodes_turn_offer.specs.OfRun.{GoesOn}
use Rattle.farm_nodes_turn_offer.proofs.Keeping.{goes_offering, goes_through, goes_to}
use Rattle.farm_nodes_turn_offer.specs.Cause.{HasCause}
use Rattle.farm_nodes_turn_offer.specs.FarmNodesTurnStepPending.{Pending}
use Rattle.farm_nodes_turn_offer.specs.FarmNodesTurnStepPending.TheVariants.{Act, Offer}
use Rattle.farm_nodes_turn_offer.specs.Noted.{IsActAmong}
use Rattle.farm_nodes_turn_leading.specs.Leading.{StaysInRoom, IsOldOrStarted, may_start, drawn_to_lead, DrawsOneOrNone, DrawsToLead, HasDrawn, OffersNone, StartsByLot}
use Rattle.farm_nodes_turn_leading.proofs.UnderWay.{way_through}
use Rattle.farm_nodes_turn_offer.specs.declared.halt.Fault.{Fault}
use Rattle.farm_nodes_turn_offer.specs.declared.halt.Fault.TheVariants as fault
use Rattle.farm_nodes_turn_offer.proofs.Results.{Grown}
use Rattle.farm_nodes_turn_offer.specs.declared.halt.Halt.{Halt}
use Rattle.farm_nodes_turn_offer.specs.Halted.{HasHaltCause, HasLeft, Recorded, left_over}
use Rattle.farm_nodes_turn_offer.specs.Offered.{PutsOffer, IsOfferPending}
use Rattle.farm_nodes_turn_offer.specs.Pending.{MayPendOn}
use Rattle.farm_nodes_turn_offer.specs.Told.{IsOwnText, TellNew}
use Rattle.farm_nodes_turn_room.specs.declared.progress.Progress.{Progress}
use Rattle.farm_nodes_turn_room.specs.Played.{HeldOffer, IsChoiceFault, IsMadeOn, Played, SeesOn, StaysInTurn, progress_of}

-- ---- a seat's room and what it has seen

pub one_room : {T : Type 0} (s t : SeatValue T) → t ≡ s → IsOneRoom s t
one_room s t e = subst (λ u. IsOneRoom s u) (sym e) (record { table = refl; cells = refl })

room_through : {T : Type 0} (a b c : SeatValue T) → IsOneRoom a b → IsOneRoom b c → IsOneRoom a c
room_through a b c p q = record { table = p.table ∙ q.table; cells = p.cells ∙ q.cells }

pub seen_same : {T : Type 0} (s t : SeatValue T) → t ≡ s → SeesOn s t
seen_same s t e j x is = ap (λ u. offer_of u j) e ∙ is

pub held_same : {T : Type 0} (s t : SeatValue T) → t ≡ s → HeldOffer s t
held_same s t e = record {
  room = one_room s t e;
  me = ap (λ u. u.words.node.me) e;
  quorums = ap (λ u. u.words.node.quorums) e;
  learned = ap (λ u. u.words.node.learned) e;
  offered = λ o. ap (λ u. u.words.node.kept.offered) e ∙ o;
  under_way = (ap (λ u. u.words.node.kept.started) e, ap (λ u. u.words.node.ballot) e);
  seen = seen_same s t e;
  run = goes_to s.words t.words (ap (λ u. u.words) e);
}

own_or : {T : Type 0} (x : T) (s t : SeatValue T) (j : ℕ) (y : T) (b : Bool) → eqb j s.words.node.me ≡ b → PutsOffer x s t → offer_of s j ≡ Some y → offer_of t j ≡ Some y
own_or x s t j y true e has is =
    let same : j ≡ s.words.node.me = eqb-true j s.words.node.me e in
    let bad : Some y ≡ None = sym is ∙ (ap (λ (k : ℕ). offer_of s k) same ∙ has.empty) in
    absurd (cc)
own_or x s t j y false e has is =
    has.others j (λ (same : j ≡ s.words.node.me). let bad : true ≡ false = sym (eq-eqb j s.words.node.me same) ∙ e in absurd (cc)) ∙ is

-- an offer leaves all but itself
pub held_offered : {T : Type 0} (x : T) (s t : SeatValue T) → PutsOffer x s t → IsOneRoom s t → HeldOffer s t
held_offered x s t has room = record {
  room = room;
  me = ap (λ (u : SeatState). u.node.me) has.words;
  quorums = ap (λ (u : SeatState). u.node.quorums) has.words;
  learned = ap (λ (u : SeatState). u.node.learned) has.words;
  offered = λ o. ap (λ (u : SeatState). u.node.kept.offered) has.words;
  under_way = (ap (λ (u : SeatState). u.node.kept.started) has.words, ap (λ (u : SeatState). u.node.ballot) has.words);
  seen = λ j y is. own_or x s t j y (eqb j s.words.node.me) refl has is;
  run = subst (λ (u : SeatState). GoesOn s.words u) (sym has.words) (goes_offering s.words);
}

pub offered_now : {T : Type 0} (x : T) (s t : SeatValue T) → PutsOffer x s t → t.words.node.kept.offered ≡ true
offered_now x s t has = ap (λ (u : SeatState). u.node.kept.offered) has.words

-- taking part leaves the cells alone
pub stays_on : {T : Type 0} (s m t : SeatValue T) → HeldOffer s m → StaysInRoom m.words t.words → t.sights ≡ m.sights → StaysInTurn s t
stays_on {T} s m t held remains sights = record {
  room = record { table = held.room.table ∙ sym remains.table; cells = held.room.cells ∙ ap (λ (ss : List (SightOf T)). names_of ss) (sym sights) };
  me = remains.me ∙ held.me;
  quorums = remains.quorums ∙ held.quorums;
  learned = λ v e. remains.learned v (held.learned ∙ e);
  offered = λ o. remains.offered ∙ held.offered o;
  under_way = way_through s.words.node m.words.node t.words.node (inl held.under_way) remains.under_way;
  seen = λ j x is. ap (λ (ss : List (SightOf T)). value_at ss j) sights ∙ held.seen j x is;
  run = goes_through s.words m.words t.words held.run remains.run;
}

pub stays_taking : {T : Type 0} (s m : SeatValue T) (w v : SeatState) (ss : List (SightOf T)) → record { words = w; sights = ss } ≡ m → HeldOffer s m → StaysInRoom w v
    → StaysInTurn s record { words = v; sights = ss }
stays_taking {T} s m w v ss is held remains =
    stays_on s (record { words = w; sights = ss }) (record { words = v; sights = ss })
    (subst (λ (u : SeatValue T). HeldOffer s u) (sym is) held) remains refl

pub stays_held : {T : Type 0} (s t : SeatValue T) → HeldOffer s t → StaysInTurn s t
stays_held s t held = record { room = held.room; me = held.me; quorums = held.quorums; learned = λ v e. held.learned ∙ e; offered = held.offered; under_way = inl held.under_way; seen = held.seen; run = held.run }

-- and looking at a cell the words
pub stays_seeing : {T : Type 0} (s m t : SeatValue T) → StaysInTurn s m → t.words ≡ m.words → IsOneRoom m t → SeesOn m t → StaysInTurn s t
stays_seeing s m t stays words room seen = record {
  room = room_through s m t stays.room room;
  me = ap (λ (u : SeatState). u.node.me) words ∙ stays.me;
  quorums = ap (λ (u : SeatState). u.node.quorums) words ∙ stays.quorums;
  learned = λ v e. ap (λ (u : SeatState). u.node.learned) words ∙ stays.learned v e;
  offered = λ o. ap (λ (u : SeatState). u.node.kept.offered) words ∙ stays.offered o;
  under_way = subst (λ (u : SeatState). IsOldOrStarted s.words.node u.node) (sym words) stays.under_way;
  seen = λ j x is. seen j x (stays.seen j x is);
  run = subst (λ (u : SeatState). GoesOn s.words u) (sym words) stays.run;
}

seen_at : {T : Type 0} (xs : List (SightOf T)) (j : ℕ) (at : SightOf T) (x : T) → value_at xs j ≡ Some x → at.value ≡ Some x → value_at (set xs j at) j ≡ Some x
seen_at [] j at x e h = e
seen_at (y ∷ ys) zero at x e h = h
seen_at (y ∷ ys) (suc j) at x e h = seen_at ys j at x e h

seen_or : {T : Type 0} (j i : ℕ) (old new : List (SightOf T)) (x : T) (b : Bool) → eqb i j ≡ b → Read j old new → value_at old i ≡ Some x → value_at new i ≡ Some x
seen_or {T} j i old new x true e read is =
    let same : i ≡ j = eqb-true i j e in
    let here : value_at old j ≡ Some x = subst (λ (k : ℕ). value_at old k ≡ Some x) same is in
    let stays : read.at.value ≡ Some x = subst (λ (o : Option T). IfSome o (λ y. read.at.value ≡ Some y)) here read.stays in
    subst (λ (k : ℕ). value_at new k ≡ Some x) (sym same)
    (ap (λ (ss : List (SightOf T)). value_at ss j) read.after ∙ seen_at old j read.at x here stays)
seen_or {T} j i old new x false e read is =
    let other : i ≢ j = (λ (same : i ≡ j). let bad : true ≡ false = sym (eq-eqb i j same) ∙ e in absurd (cc)) in
    ap (λ (ss : List (SightOf T)). value_at ss i) read.after
    ∙ (ap (λ (s : SightOf T). s.value) (get_or-set_other old j i read.at nothing_seen other) ∙ is)

pub seen_read : {T : Type 0} (j : ℕ) (s t : SeatValue T) → Read j s.sights t.sights → SeesOn s t
seen_read j s t read i x is = seen_or j i s.sights t.sights x (eqb i j) refl read is

-- ---- what it draws

module _ {T : Type 0} (s m : SeatValue T) (w v : SeatState) (ss : List (SightOf T)) (is : record { words = w; sights = ss } ≡ m) (held : HeldOffer s m)
    (before between behind : Lcg) where
  held_words : HeldOffer s record { words = w; sights = ss }
  held_words = subst (λ (u : SeatValue T). HeldOffer s u) (sym is) held

  -- taking part behind an offer, or behind none
  pub lots_taking : (s.words.node.kept.offered ≡ true → between ≡ before) → StartsByLot (pcg32 between).0 w v → DrawsOneOrNone between behind
      → DrawsToLead before behind s.words v
  lots_taking none lot once = record {
    started = λ changed.
        let by = lot (λ (e : v.node.kept.started ≡ w.node.kept.started). changed (e ∙ held_words.under_way.0)) in (
          ap (λ (o : Option ℕ). may_start (record v.node { ballot = o })) (sym held_words.under_way.1) ∙ by.0,
          λ o. ap (λ (g : Lcg). (pcg32 g).0 % 4) (sym (none o)) ∙ by.1 (held_words.offered o),
        );
    once = λ o. subst (λ (g : Lcg). DrawsOneOrNone g behind) (none o) once;
  }

  pub drawn_taking : (w.node.kept.offered ≡ s.words.node.kept.offered → between ≡ before) → v.node.kept.offered ≡ w.node.kept.offered
      → behind ≡ drawn_to_lead between w v → HasDrawn before behind s.words v
  drawn_taking none same drawn no_offer =
      drawn ∙ (ap (λ (o : Option ℕ). cond (may_start (record v.node { ballot = o })) (pcg32 between).1 between) held_words.under_way.1
      ∙ ap (λ (g : Lcg). drawn_to_lead g s.words v) (none (sym same ∙ no_offer)))

-- an offer that was made
pub drawn_offering : {A T : Type 0} (r : Result A Halt) (x : T) (s t : SeatValue T) (draws drawn : Lcg) → s.words.node.kept.offered ≡ false
    → OnOk r (PutsOffer x s t) → OnOk r (OffersNone s.words t.words → drawn ≡ draws)
drawn_offering (Ok a) x s t draws drawn first has =
    λ none. let both : true ≡ false = sym (offered_now x s t has) ∙ (none ∙ first) in absurd (cc)
drawn_offering (Err h) x s t draws drawn first has = tt

-- ---- its offer

module _ {I O C : Type 0} where
  -- no offer was made
  pub made_none : (input : Option I) (s t : SeatValue (Parts I O C)) → t ≡ s → IsMadeOn input s t
  made_none input s t e before_is after_is =
      let both : true ≡ false = sym after_is ∙ (ap (λ (u : SeatValue (Parts I O C)). u.words.node.kept.offered) e ∙ before_is) in
      absurd (cc)

  pub made_own : (i : I) (x : Parts I O C) (s t : SeatValue (Parts I O C)) → x.input ≡ i → PutsOffer x s t → IsMadeOn (Some i) s t
  made_own i x s t same has before_is after_is =
      (x, ap (λ (k : ℕ). offer_of t k) (ap (λ (u : SeatState). u.node.me) has.words) ∙ has.own, ap (λ (y : I). Some y) (sym same))

  pub made_on : (input : Option I) (s m t : SeatValue (Parts I O C)) → IsMadeOn input s m → t.words.node.me ≡ m.words.node.me
      → t.words.node.kept.offered ≡ m.words.node.kept.offered → SeesOn m t → IsMadeOn input s t
  made_on input s m t made me offered seen before_is after_is =
      let before = made before_is (sym offered ∙ after_is) in
      (before.0, ap (λ (k : ℕ). offer_of t k) me ∙ seen m.words.node.me before.0 before.1, before.2)

  pub made_either : {A E : Type 0} (r : Result A E) (input : Option I) (i : I) (x : Parts I O C) (s t : SeatValue (Parts I O C)) → input ≡ Some i → x.input ≡ i
      → OnOk r (PutsOffer x s t) → OnErr r (t ≡ s) → IsMadeOn input s t
  made_either (Ok a) input i x s t known same has none = subst (λ (o : Option I). IsMadeOn o s t) (sym known) (made_own i x s t same has)
  made_either (Err e) input i x s t known same has none = made_none input s t none

  -- taking part leaves the offer
  pub made_taking : (input : Option I) (s m : SeatValue (Parts I O C)) (w v : SeatState) (ss : List (SightOf (Parts I O C))) → record { words = w; sights = ss } ≡ m
      → IsMadeOn input s m → StaysInRoom w v → IsMadeOn input s record { words = v; sights = ss }
  made_taking input s m w v ss is made remains =
      made_on input s (record { words = w; sights = ss }) (record { words = v; sights = ss })
      (subst (λ (u : SeatValue (Parts I O C)). IsMadeOn input s u) (sym is) made) remains.me remains.offered (λ j x e. e)

-- ---- why it halts

pub choice_cause : {D : Type 0} (disk : disks.Ghosts D) (TooLarge : Type 0) (old new : Log D) (pending : List Record) (f : Fault)
    → IsChoiceFault TooLarge f → HasHaltCause disk TooLarge old new pending f
choice_cause disk TooLarge old new pending fault.NoMemory is = tt
choice_cause disk TooLarge old new pending (fault.Journal e) is = absurd is
choice_cause disk TooLarge old new pending fault.TooManyRegisters is = is
choice_cause disk TooLarge old new pending fault.OtherRecords is = absurd is
choice_cause disk TooLarge old new pending fault.CellRefused is = absurd is

-- a cause where no input is too large is one for any
pub wider_cause : {D : Type 0} (disk : disks.Ghosts D) (TooLarge : Type 0) (old new : Log D) (pending : List Record) (f : Fault)
    → HasHaltCause disk ⊥ old new pending f → HasHaltCause disk TooLarge old new pending f
wider_cause disk TooLarge old new pending fault.NoMemory cause = tt
wider_cause disk TooLarge old new pending (fault.Journal e) cause = cause
wider_cause disk TooLarge old new pending fault.TooManyRegisters cause = absurd cause
wider_cause disk TooLarge old new pending fault.OtherRecords cause = cause
wider_cause disk TooLarge old new pending fault.CellRefused cause = cause

-- a cause in a part of a run is one of the run
pub later_cause : {D : Type 0} (disk : disks.Ghosts D) (old mid new : Log D) (pending : List Record) (e : LogError)
    → (disk.is_honest mid.disk ↔ disk.is_honest old.disk) → disk.faults old.disk ≤ disk.faults mid.disk
    → HasCause disk mid new pending e → HasCause disk old new pending e
later_cause disk old mid new pending log.NoMemory honest later cause = tt
later_cause disk old mid new pending log.Device honest later cause =
    risen_within (disk.faults old.disk) (disk.faults mid.disk) (disk.faults new.disk) (disk.faults new.disk) later cause (omega arith)
later_cause disk old mid new pending log.Full honest later cause = λ h. cause (honest.1 h)
later_cause disk old mid new pending log.NotAJournal honest later cause = cause
later_cause disk old mid new pending log.BadRecord honest later cause = cause
later_cause disk old mid new pending log.OtherSource honest later cause = cause
later_cause disk old mid new pending log.Stopped honest later cause = cause

-- ---- what it leaves of the journal

module _ {D : Type 0} (Is : List ℕ → Type 0) (disk : disks.Ghosts D) (old new : Log D) (room : ℕ) (s t : SeatState) where
  pub recorded_ok : (r : Result Bool Halt) (a b : Bool) → r ≡ Ok a → a ≡ b → Grown disk old new room s t b
      → TellNew Is room s t (acknowledged disk.seen old) (acknowledged disk.seen new) → Recorded Is disk old new room s t r
  recorded_ok r a b e same grown told =
      subst (λ (x : Result Bool Halt). Recorded Is disk old new room s t x) (sym e)
      (subst (λ (x : Bool). Grown disk old new room s t x) (sym same) grown, told)

  pub recorded_err : (r : Result Bool Halt) (h k : Halt) → r ≡ Err h → h ≡ k → HasLeft Is disk old new room s t (left_over room t k.pending)
      → Recorded Is disk old new room s t r
  recorded_err r h k e same left =
      subst (λ (x : Result Bool Halt). Recorded Is disk old new room s t x) (sym e)
      (subst (λ (x : Halt). HasLeft Is disk old new room s t (left_over room t x.pending)) (sym same) left)

-- ---- the text of its offer

-- it is so of words with the same node's number
pub own_taking : {T : Type 0} (IsText : List ℕ → T → Type 0) (w v : SeatState) (ss : List (SightOf T)) → v.node.me ≡ w.node.me → (text : List ℕ)
    → IsOwnText IsText record { words = w; sights = ss } text → IsOwnText IsText record { words = v; sights = ss } text
own_taking {T} IsText w v ss me text has = (has.0, ap (λ (j : ℕ). value_at ss j) me ∙ has.1, has.2)

-- and where what was seen stays
pub own_seeing : {T : Type 0} (IsText : List ℕ → T → Type 0) (s t : SeatValue T) → t.words.node.me ≡ s.words.node.me → SeesOn s t → (text : List ℕ) → IsOwnText IsText s text → IsOwnText IsText t text
own_seeing {T} IsText s t me seen text has = (has.0, ap (λ (j : ℕ). offer_of t j) me ∙ seen s.words.node.me has.0 has.1, has.2)

-- looking at a cell behind what a call left of the journal
pub played_seeing : {D T : Type 0} (IsText : List ℕ → T → Type 0) (disk : disks.Ghosts D) (old new : Log D) (room : ℕ)
    (s : SeatState) (m t : SeatValue T) (moved : Bool) (progress : Progress) → t.words ≡ m.words → SeesOn m t → Recorded (IsOwnText IsText m) disk old new room s m.words (Ok moved)
    → progress ≡ progress_of s.node.learned t.words.node.learned moved → Played (IsOwnText IsText t) disk old new room s t.words (Ok progress)
played_seeing {D} {T} IsText disk old new room s m t moved progress words sees left told = (
  moved,
  subst (λ (u : SeatState). Grown disk old new room s u moved) (sym words) left.0,
  λ rooms low ordered first now.
      let is = left.1 rooms low ordered first (ap (λ (u : SeatState). u.node.kept.offered) (sym words) ∙ now) in
      (is.0, is.1, own_seeing IsText m t (ap (λ (u : SeatState). u.node.me) words) sees is.0 is.2),
  told,
)

-- what is so of the seat's value is so of its two parts
pub seat_is : {T : Type 0} (P : SeatValue T → Type 0) (s : SeatValue T) (w : SeatState) (ss : List (SightOf T)) → record { words = w; sights = ss } ≡ s → P s → P record { words = w; sights = ss }
seat_is {T} P s w ss is holds = subst P (sym is) holds

-- ---- what is pending where it halts

module _ {T : Type 0} (IsText : List ℕ → T → Type 0) (room : ℕ) where
  left_offer : (text : List ℕ) (x : T) (s t : SeatValue T) (p : Option Pending) → IsText text x → s.words.node.kept.offered ≡ false → t ≡ s
      → IsOfferPending room text p → MayPendOn IsText room t p
  left_offer text x s t None is first same told = tt
  left_offer text x s t (Some (Act a)) is first same told = absurd (cc)
  left_offer text x s t (Some (Offer r)) is first same told =
      let what : r ≡ Offered room text = cc in
      (ap (λ (u : SeatValue T). u.words.node.kept.offered) same ∙ first, x, text, what, is)

  -- the offer
  pub left_offering : {A : Type 0} (text : List ℕ) (x : T) (s t : SeatValue T) (r : Result A Halt) → IsText text x → s.words.node.kept.offered ≡ false
      → OnErr r (t ≡ s) → IfErr r (λ halt. IsOfferPending room text halt.pending) → IfErr r (λ halt. MayPendOn IsText room t halt.pending)
  left_offering text x s t (Ok a) is first same told = told
  left_offering text x s t (Err halt) is first same told = left_offer text x s t halt.pending is first same told

  -- an act
  pub left_acting : (s : SeatValue T) (p : Pending) → IsActAmong s.words.node.quorums.nodes p → MayPendOn IsText room s (Some p)
  left_acting s (Act a) is = is
  left_acting s (Offer r) is = absurd is

module _ {A : Type 0} (P : Halt → Type 0) where
  pub if_went_on : (r : Result A Halt) (a : A) → r ≡ Ok a → IfErr r P
  if_went_on r a e = subst (λ (x : Result A Halt). IfErr x P) (sym e) tt

  pub if_halted : (r : Result A Halt) (h k : Halt) → r ≡ Err h → h ≡ k → P k → IfErr r P
  if_halted r h k e same holds = subst (λ (x : Result A Halt). IfErr x P) (sym e) (subst (λ (x : Halt). P x) (sym same) holds)

module _ {A : Type 0} (P : Type 0) where
  pub on_result : (r : Result A Halt) → P → OnOk r P
  on_result (Ok a) p = p
  on_result (Err h) p = tt

  pub on_halt : (r : Result A Halt) (h : Halt) → r ≡ Err h → OnOk r P
  on_halt r h e = subst (λ (x : Result A Halt). OnOk x P) (sym e) tt
