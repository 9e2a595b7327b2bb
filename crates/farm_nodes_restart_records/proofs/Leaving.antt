-- What records leave of a node's seats: from the kept parts by room, and with the last record or without.
use Rattle.std.proofs.Common.{◌≡◌, ◌≢◌, ◌⊎◌, ℕ, zero, suc, ◌+◌, ◌*◌, ◌<◌, ◌≤◌, ◌↔◌, Bool, true, false, cond, List, [], ◌∷◌, ◌++◌, length, length-append, map, get_or, Option, Some, None, Result, Ok, Err, IfOk, IfErr, IsTrue, refl, sym, ap, ◌∙◌, subst, arith, inl, inr}
use Rattle.std.specs.Prelude.{slice_get, IsSome}
use Rattle.std.proofs.lemmas.Bool.{ne_eqb}
use Rattle.std.proofs.lemmas.List.{length-map, take-append-le}
use Rattle.std.proofs.lemmas.Option.{slice_get_within}
use Rattle.paxos_core_world.specs.KeptPart.{KeptPart, nothing_kept}
use Rattle.acceptor_log_form.specs.declared.errors.LogError.{LogError}
use Rattle.acceptor_log_form.specs.declared.errors.LogError.TheVariants.{BadRecord, NoMemory}
use Rattle.acceptor_log_form.specs.declared.record.Record.{Record}
use Rattle.acceptor_log_form.specs.declared.record.Record.TheVariants.{Offered}
use Rattle.acceptor_log_form.specs.Text.{room_of}
use Rattle.acceptor_log_form.specs.Leaves.{kept_by_record, kept_in, left_from}
use Rattle.acceptor_log_form.specs.Order.{AreInOrder, MayFollow}
use Rattle.farm_nodes_restart_seat.specs.SeatValue.{SeatValue}
use Rattle.farm_nodes_turn_step.specs.declared.stop.Pending.{Pending}
use Rattle.farm_nodes_turn_step.specs.declared.stop.Pending.TheVariants.{Act, Offer}
use Rattle.farm_nodes_turn_step.specs.Noted.{pending_of}
use Rattle.farm_nodes_turn_passes.specs.FarmNodesTurnOfferPending.{IsAsked, IsPendingOn}
use Rattle.farm_nodes_turn_passes.specs.Numbers.{function_of, pass_of, place_of}
use Rattle.farm_nodes_turn_passes.specs.declared.which.Which.{Which}
use Rattle.farm_nodes_turn_passes.specs.declared.which.Which.TheVariants.{Constants, Expressions, Allocation, Order}
use Rattle.farm_nodes_turn_passes.specs.Fours.{words_of, Four}
use Rattle.farm_nodes_turn_passes.specs.Leaves.{left_in, pending_at, IsPendingIn, Leave, MayAsk, MayPend}
use Rattle.farm_nodes_turn_passes.specs.Texts.{Texts, IsOwnTextIn}
use Rattle.farm_nodes_turn_passes.specs.Told.{last_offer_in}
use Rattle.farm_nodes_turn_step.proofs.Told.{offered_told, stands_alone, stands_there, told_offered}
use Rattle.farm_nodes_restart_records.specs.declared.finding.Found.{Found}
use Rattle.farm_nodes_restart_records.specs.declared.finding.Found.TheVariants as found
use Rattle.farm_nodes_restart_records.specs.Found.{AreKept, AreKeptAt, EndsSo, EndsWith, IsButLast, IsFound, IsJudged, LeaveWith, ShowFront, ShowParts}
use Rattle.farm_nodes_restart_records.specs.Told.{AreTold, IsConfirmed}
use Rattle.farm_nodes_restart_seat.proofs.Places.{lent_at, seen_at, some_same, there_is}
use Rattle.farm_nodes_restart_records.proofs.Rooms.{function_at, pass_at_room, room_above, room_below, room_is}

-- ---- rooms of no record

untouched : (k : KeptPart) (rs : List Record) (m : ℕ) → ((i : ℕ) (r : Record) → slice_get rs i ≡ Some r → room_of r ≢ m) → left_from kept_by_record k rs m ≡ k
untouched k [] m others = refl
untouched k (r ∷ rs) m others =
    ap (λ (t : Bool). left_from kept_by_record (cond t (kept_by_record k r) k) rs m) (ne_eqb (room_of r) m (others zero r refl))
    ∙ untouched k rs m (λ i q at. others (suc i) q at)

pub nothing_above : (n i rooms : ℕ) (rs : List Record) (m : ℕ) → AreInOrder n i rooms rs → rooms ≤ m → kept_in rs m ≡ nothing_kept
nothing_above n i rooms rs m order above =
    untouched nothing_kept rs m (λ k r at e. let below : room_of r < rooms = (order k r at).0 in absurd (omega (arith, below, above, e)))

-- ---- a beginning of records in order is in order

get_front : (front more : List Record) (k : ℕ) (r : Record) → slice_get front k ≡ Some r → slice_get (front ++ more) k ≡ Some r
get_front [] more k r at = absurd (cc)
get_front (x ∷ front) more zero r at = at
get_front (x ∷ front) more (suc k) r at = get_front front more k r at

pub front_in_order : (n i rooms : ℕ) (front more rs : List Record) → rs ≡ front ++ more → AreInOrder n i rooms rs → AreInOrder n i rooms front
front_in_order n i rooms front more rs is order k r at =
    let within : k < length front = slice_get_within front k r at in
    let whole : AreInOrder n i rooms (front ++ more) = subst (λ (l : List Record). AreInOrder n i rooms l) is order in
    subst (λ (l : List Record). MayFollow n i rooms l r) (take-append-le k front more (omega (arith, within))) (whole k r (get_front front more k r at))

-- ---- the kept parts by room

module _ {X1 X2 X3 X4 : Type 0} (seats : List (Four X1 X2 X3 X4)) (rs : List Record) where
  -- they leave what the seats keep,
  abbrev pub LeaveRooms : Type 0
  LeaveRooms = (m : ℕ) (s : Four X1 X2 X3 X4) → slice_get seats (function_of m) ≡ Some s → kept_in rs m ≡ (words_of s (pass_of m)).node.kept

  -- and nothing else
  pub record Keeps : Type 0 where
    pub rooms : LeaveRooms
    pub no_others : (m : ℕ) → length seats ≤ function_of m → kept_in rs m ≡ nothing_kept

module _ {X1 X2 X3 X4 : Type 0} (parts : List KeptPart) (place : ℕ) (s : Four X1 X2 X3 X4) where
  part_at : AreKeptAt parts place s → (w : Which) → slice_get parts (place + place_of w) ≡ Some (words_of s w).node.kept
  part_at kept Constants = ap (λ (i : ℕ). slice_get parts i) (omega arith) ∙ kept.constants
  part_at kept Expressions = kept.expressions
  part_at kept Allocation = kept.allocation
  part_at kept Order = kept.order

  parts_at : ((w : Which) → slice_get parts (place + place_of w) ≡ Some (words_of s w).node.kept) → AreKeptAt parts place s
  parts_at each = record {
    constants = ap (λ (i : ℕ). slice_get parts i) (omega arith) ∙ each Constants;
    expressions = each Expressions;
    allocation = each Allocation;
    order = each Order;
  }

module _ {X1 X2 X3 X4 : Type 0} (n i rooms : ℕ) (rs : List Record) (parts : List KeptPart) (seats : List (Four X1 X2 X3 X4))
    (size : rooms ≡ 4 * length seats) (shows : (m : ℕ) → m < rooms → slice_get parts m ≡ Some (kept_in rs m)) (order : AreInOrder n i rooms rs) where
  kept_leave : AreKept parts seats → Keeps seats rs
  kept_leave kept = record {
    rooms = λ m s there.
        let below : function_of m < length seats = slice_get_within seats (function_of m) s there in
        let part : slice_get parts (4 * function_of m + place_of (pass_of m)) ≡ Some (words_of s (pass_of m)).node.kept = part_at parts (4 * function_of m) s (kept (function_of m) s there) (pass_of m) in
        some_same (slice_get parts m) (kept_in rs m) (words_of s (pass_of m)).node.kept
        (shows m (omega (arith, size, room_below m (length seats) below)))
        (ap (λ (j : ℕ). slice_get parts j) (room_is m) ∙ part);
    no_others = λ m above. nothing_above n i rooms rs m order (omega (arith, size, room_above m (length seats) above));
  }

  leave_kept : LeaveRooms seats rs → AreKept parts seats
  leave_kept leave f s there =
      parts_at parts (4 * f) s (λ w.
      let m : ℕ = 4 * f + place_of w in
      let function : function_of (4 * f + place_of w) ≡ f = function_at f w in
      let at : slice_get seats (function_of (4 * f + place_of w)) ≡ Some s = ap (λ (j : ℕ). slice_get seats j) function ∙ there in
      let below : function_of (4 * f + place_of w) < length seats = slice_get_within seats (function_of (4 * f + place_of w)) s at in
      shows (4 * f + place_of w) (omega (arith, size, room_below (4 * f + place_of w) (length seats) below))
      ∙ ap (λ (k : KeptPart). Some k) (leave (4 * f + place_of w) s at ∙ ap (λ (v : Which). (words_of s v).node.kept) (pass_at_room f w)))

-- ---- the last record

no_end : (ys : List Record) (y : Record) → [] ≡ ys ++ y ∷ [] → ⊥
no_end ys y e = absurd (omega (arith, ap length e, length-append ys (y ∷ [])))

pub same_end : (xs ys : List Record) (x y : Record) → xs ++ x ∷ [] ≡ ys ++ y ∷ [] → (xs ≡ ys) × (x ≡ y)
same_end [] [] x y e = (refl, cc)
same_end [] (b ∷ ys) x y e = let t : [] ≡ ys ++ y ∷ [] = cc in absurd (no_end ys y t)
same_end (a ∷ xs) [] x y e = let t : [] ≡ xs ++ x ∷ [] = cc in absurd (no_end xs x t)
same_end (a ∷ xs) (b ∷ ys) x y e =
    let head : a ≡ b = cc in
    let tail : xs ++ x ∷ [] ≡ ys ++ y ∷ [] = cc in
    let rest = same_end xs ys x y tail in
    (ap (λ (c : Record). c ∷ xs) head ∙ ap (λ (l : List Record). b ∷ l) rest.0, rest.1)

-- what stands in front of the pending record is one list
pub same_front : (pending front other rs : List Record) → EndsWith pending front rs → EndsWith pending other rs → front ≡ other
same_front pending front other rs p q = (same_end front other p.0 q.0 (sym p.2 ∙ q.2)).0

-- the list in front of the last record is that one
front_is : (rs f g : List Record) (l : Record) → IsButLast rs f → rs ≡ g ++ l ∷ [] → f ≡ g
front_is rs f g l (inl none) e = absurd (no_end g l (sym none.0 ∙ e))
front_is rs f g l (inr is) e = (same_end f g is.0 l (sym is.1 ∙ e)).0

but_last_in_order : (n i rooms : ℕ) (front rs : List Record) → IsButLast rs front → AreInOrder n i rooms rs → AreInOrder n i rooms front
but_last_in_order n i rooms front rs (inl none) order = subst (λ (l : List Record). AreInOrder n i rooms l) (none.0 ∙ sym none.1) order
but_last_in_order n i rooms front rs (inr is) order = front_in_order n i rooms front (is.0 ∷ []) rs is.1 order

nothing_pends : {X1 X2 X3 X4 : Type 0} (o : Option (Four X1 X2 X3 X4)) (room : ℕ) (last : Record) → left_in o room None ≡ last ∷ [] → ⊥
nothing_pends None room last e = absurd (cc)
nothing_pends (Some s) room last e = absurd (cc)

pub no_pending : {X1 X2 X3 X4 : Type 0} (seats : List (Four X1 X2 X3 X4)) (room : ℕ) (front rs : List Record) → EndsWith (pending_at seats room None) front rs → ⊥
no_pending seats room front rs ends = nothing_pends (slice_get seats (function_of room)) room ends.0 ends.1

pub pends : {X1 X2 X3 X4 : Type 0} (texts : Texts X1 X2 X3 X4) (seats : List (Four X1 X2 X3 X4)) (room : ℕ) (p : Option Pending) (rs : List Record) → LeaveWith texts seats room p rs → IsSome p
pends texts seats room None rs all = absurd (no_pending seats room all.front rs all.ends)
pends texts seats room (Some p) rs all = refl

-- ---- the texts of the offers

module _ {X1 X2 X3 X4 : Type 0} (texts : Texts X1 X2 X3 X4) where
  -- those of a beginning
  told_before : (seats : List (Four X1 X2 X3 X4)) (front more rs : List Record) → rs ≡ front ++ more → AreTold texts seats rs → AreTold texts seats front
  told_before seats front more rs is told k r at = told k r (ap (λ (l : List Record). slice_get l k) is ∙ get_front front more k r at)

  module _ (n i rooms : ℕ) (rs : List Record) (seats : List (Four X1 X2 X3 X4)) where
    -- records that leave what the seats keep, and whose texts are those of their offers, tell them
    leave_of : Keeps seats rs → AreTold texts seats rs → Leave texts seats rs
    leave_of keeps told = record {
      rooms = keeps.rooms;
      no_others = keeps.no_others;
      offers = λ m s at now.
          let one = offered_told rs m (ap (λ (k : KeptPart). k.offered) (keeps.rooms m s at) ∙ now) in
          let there = stands_there rs m one.0 one.1 in
          let is = told there.0 (Offered m one.0) there.1 m one.0 refl in
          let same : is.0 ≡ s = some_same (slice_get seats (function_of m)) is.0 s is.1 at in
          (one.0, one.1, subst (λ (u : Four X1 X2 X3 X4). IsOwnTextIn texts (pass_of m) u one.0) same is.2);
    }

    -- and no other texts stand there
    told_of : rooms ≡ 4 * length seats → AreInOrder n i rooms rs → Leave texts seats rs → AreTold texts seats rs
    told_of size order leave k r at m text is =
        let here : slice_get rs k ≡ Some (Offered m text) = at ∙ ap (λ (x : Record). Some x) is in
        let below : m < rooms = (order k (Offered m text) here).0 in
        let s = there_is seats (function_of m) (omega (arith, below, size)) in
        let first : last_offer_in rs m ≡ Some text = stands_alone n i rooms rs k m text order here in
        let now : (words_of s.0 (pass_of m)).node.kept.offered ≡ true = ap (λ (k : KeptPart). k.offered) (sym (leave.rooms m s.0 s.1)) ∙ told_offered rs m text first in
        let one = leave.offers m s.0 s.1 now in
        let same : one.0 ≡ text = some_same (last_offer_in rs m) one.0 text one.1 first in
        (s.0, s.1, subst (λ (t : List ℕ). IsOwnTextIn texts (pass_of m) s.0 t) same one.2)

-- ---- what may be pending is asked

asked_on : {T : Type 0} (IsText : List ℕ → T → Type 0) (room : ℕ) (s : SeatValue T) (p : Pending) → IsPendingOn IsText room s p → IsAsked s.words p
asked_on IsText room s (Act a) may = may
asked_on IsText room s (Offer r) may = tt

module _ {X1 X2 X3 X4 : Type 0} (IsText1 : List ℕ → X1 → Type 0) (IsText2 : List ℕ → X2 → Type 0)
    (IsText3 : List ℕ → X3 → Type 0) (IsText4 : List ℕ → X4 → Type 0) (room : ℕ) where
  asked_in : (w : Which) (s : Four X1 X2 X3 X4) (p : Pending) → IsPendingIn IsText1 IsText2 IsText3 IsText4 room w s p → IsAsked (words_of s w) p
  asked_in Constants s p may = asked_on IsText1 room s.constants p may
  asked_in Expressions s p may = asked_on IsText2 room s.expressions p may
  asked_in Allocation s p may = asked_on IsText3 room s.allocation p may
  asked_in Order s p may = asked_on IsText4 room s.order p may

  pub asked : (seats : List (Four X1 X2 X3 X4)) (p : Option Pending) → MayPend IsText1 IsText2 IsText3 IsText4 room seats p → MayAsk seats room p
  asked seats None may = tt
  asked seats (Some p) may = (may.0, may.1, asked_in (pass_of room) may.0 p may.2)

-- ---- what calls answer

-- why records are refused
abbrev pub IsRefused : ℕ → ℕ → ℕ → List Record → LogError → Type 0
IsRefused n i rooms rs e = e ≢ NoMemory → (e ≡ BadRecord) × (AreInOrder n i rooms rs → ⊥)

pub refused_of : (n i rooms all : ℕ) (rs : List Record) (e : LogError) → rooms ≡ all → IsRefused n i rooms rs e → IsRefused n i all rs e
refused_of n i rooms all rs e same h other = let r = h other in (r.0, λ order. r.1 (subst (λ (m : ℕ). AreInOrder n i m rs) (sym same) order))

pub refused_front : {A : Type 0} (n i rooms : ℕ) (front rs : List Record) (told : Result A LogError) → IsButLast rs front → IfErr told (IsRefused n i rooms front) → IfErr told (IsRefused n i rooms rs)
refused_front n i rooms front rs (Ok answer) is h = tt
refused_front n i rooms front rs (Err e) is h = λ other. let r = h other in (r.0, λ order. r.1 (but_last_in_order n i rooms front rs is order))

pub show_front : {A : Type 0} (items : A → List KeptPart) (rooms : ℕ) (front rs : List Record) (told : Result A LogError) → IsButLast rs front
    → IfOk told (λ parts. length (items parts) ≡ rooms) → IfOk told (λ parts. (m : ℕ) → m < rooms → slice_get (items parts) m ≡ Some (kept_in front m))
    → IfOk told (λ parts. ShowFront rooms (items parts) rs)
show_front items rooms front rs (Ok parts) is size shows = (front, is, (size, shows))
show_front items rooms front rs (Err e) is size shows = tt

module _ {X1 X2 X3 X4 : Type 0} (n i rooms : ℕ) (rs : List Record) (seats : List (Four X1 X2 X3 X4)) (room : ℕ) (p : Option Pending)
    (whole front : List KeptPart) (last : Bool) (size : rooms ≡ 4 * length seats) (order : AreInOrder n i rooms rs)
    (shows : ShowParts rooms whole rs) (behind : ShowFront rooms front rs) (ends : IsTrue last ↔ EndsSo (pending_at seats room p) rs) where
  kept_front : (f : List Record) → EndsWith (pending_at seats room p) f rs → AreKept front seats → Keeps seats f
  kept_front f e kept =
      let same : behind.0 ≡ f = front_is rs behind.0 f e.0 behind.1 e.2 in
      subst (λ (l : List Record). Keeps seats l) same
      (kept_leave n i rooms behind.0 front seats size behind.2.1 (but_last_in_order n i rooms behind.0 rs behind.1 order) kept)

  front_kept : (f : List Record) → EndsWith (pending_at seats room p) f rs → LeaveRooms seats f → AreKept front seats
  front_kept f e leave =
      let same : behind.0 ≡ f = front_is rs behind.0 f e.0 behind.1 e.2 in
      leave_kept n i rooms behind.0 front seats size behind.2.1 (but_last_in_order n i rooms behind.0 rs behind.1 order)
      (subst (λ (l : List Record). LeaveRooms seats l) (sym same) leave)

  module _ (texts : Texts X1 X2 X3 X4) where
    front_order : (f : List Record) → EndsWith (pending_at seats room p) f rs → AreInOrder n i rooms f
    front_order f e = front_in_order n i rooms f (e.0 ∷ []) rs e.2 order

    with_last : LeaveWith texts seats room p rs → IsTrue last × AreKept front seats
    with_last all = (ends.1 (all.front, all.ends), front_kept all.front all.ends all.leave.rooms)

    whole_kept : Leave texts seats rs → AreKept whole seats
    whole_kept leave = leave_kept n i rooms rs whole seats size shows.1 order leave.rooms

    -- where what the seats keep stands in front of the pending record
    pending_found : (r f : List Record) (g : Found) → EndsWith (pending_at seats room p) r rs → IsButLast rs f → AreKept front seats
        → (AreTold texts seats f × (g ≡ found.Pending)) ⊎ ((AreTold texts seats f → ⊥) × (g ≡ found.Neither)) → IsFound texts seats room p rs g
    pending_found r f g e is kept (inl told) =
        let same : f ≡ r = front_is rs f r e.0 is e.2 in
        subst (λ (x : Found). IsFound texts seats room p rs x) (sym told.1)
        (record {
          front = r;
          ends = e;
          leave = leave_of texts n i rooms r seats (kept_front r e kept) (subst (λ (l : List Record). AreTold texts seats l) same told.0);
        })
    pending_found r f g e is kept (inr not) =
        let same : f ≡ r = front_is rs f r e.0 is e.2 in
        let never : AreTold texts seats r → ⊥ = (λ told. not.0 (subst (λ (l : List Record). AreTold texts seats l) (sym same) told)) in
        subst (λ (x : Found). IsFound texts seats room p rs x) (sym not.1)
        (record {
          whole = λ leave. never (told_before texts seats r (e.0 ∷ []) rs e.2 (told_of texts n i rooms rs seats size order leave));
          pending = λ all.
              let one : all.front ≡ r = same_front (pending_at seats room p) all.front r rs all.ends e in
              never (subst (λ (l : List Record). AreTold texts seats l) one (told_of texts n i rooms all.front seats size (front_order all.front all.ends) all.leave));
        })

    whole_found : (g : Found) → (IsTrue last × AreKept front seats → ⊥) → AreKept whole seats
        → (AreTold texts seats rs × (g ≡ found.Whole)) ⊎ ((AreTold texts seats rs → ⊥) × (g ≡ found.Neither)) → IsFound texts seats room p rs g
    whole_found g alone kept (inl told) =
        subst (λ (x : Found). IsFound texts seats room p rs x) (sym told.1)
        (λ all. alone (with_last all), leave_of texts n i rooms rs seats (kept_leave n i rooms rs whole seats size shows.1 order kept) told.0)
    whole_found g alone kept (inr not) =
        subst (λ (x : Found). IsFound texts seats room p rs x) (sym not.1)
        (record { whole = λ leave. not.0 (told_of texts n i rooms rs seats size order leave); pending = λ all. alone (with_last all) })

    -- by what the seats keep, and then by their offers
    pub found_judged : (k r : Found) → IsJudged last whole front seats k → IsConfirmed texts seats rs k r → IsFound texts seats room p rs r
    found_judged found.Pending r j c = let e = ends.0 j.0 in pending_found e.0 c.0 r e.1 c.1 j.1 c.2
    found_judged found.Whole r j c = whole_found r j.0 j.1 c
    found_judged found.Neither r j c =
        subst (λ (x : Found). IsFound texts seats room p rs x) (sym c)
        (record { whole = λ leave. j.1 (whole_kept leave); pending = λ all. j.0 (with_last all) })

pub judged_is : {X1 X2 X3 X4 : Type 0} (seats : List (Four X1 X2 X3 X4)) (whole front : List KeptPart) (last with_it all : Bool) (before : Type 0) (r : Found)
    → before ↔ AreKept front seats → IsTrue all ↔ AreKept whole seats → IsTrue with_it ↔ (IsTrue last × before)
    → (with_it ≡ true → r ≡ found.Pending) → (with_it ≡ false → all ≡ true → r ≡ found.Whole) → (with_it ≡ false → all ≡ false → r ≡ found.Neither)
    → IsJudged last whole front seats r
judged_is seats whole front last true all before r kept full both pending alone neither =
    let b = both.0 refl in
    subst (λ (f : Found). IsJudged last whole front seats f) (sym (pending refl)) (b.0, kept.0 b.1)
judged_is seats whole front last false true before r kept full both pending alone neither =
    subst (λ (f : Found). IsJudged last whole front seats f) (sym (alone refl refl))
    (λ all. let e : false ≡ true = both.1 (all.0, kept.1 all.1) in absurd (cc), full.0 refl)
judged_is seats whole front last false false before r kept full both pending alone neither =
    subst (λ (f : Found). IsJudged last whole front seats f) (sym (neither refl refl))
    (λ all. let e : false ≡ true = both.1 (all.0, kept.1 all.1) in absurd (cc), λ all. let e : false ≡ true = full.1 all in absurd (cc))

-- ---- the seat of a room, as it is lent

module _ {S X1 X2 X3 X4 : Type 0} (view : S → Four X1 X2 X3 X4) (seats : List S) (room : ℕ) (p : Pending) where
  -- it is there
  pub room_within : MayAsk (map view seats) room (Some p) → function_of room < length seats
  room_within may = omega (arith, slice_get_within (map view seats) (function_of room) may.0 may.1, length-map seats view)

  module _ (i : ℕ) (s : S) (w : Which) (function : i ≡ function_of room) (pass : w ≡ pass_of room) (is : s ≡ get_or seats i s) (may : MayAsk (map view seats) room (Some p)) where
    pub seat_here : slice_get (map view seats) (function_of room) ≡ Some (view s)
    seat_here =
        ap (λ (j : ℕ). slice_get (map view seats) j) (sym function)
        ∙ seen_at view seats i s (lent_at view seats i (function_of room) may.0 s function may.1 is)

    pub asked_here : IsAsked (words_of (view s) w) p
    asked_here =
        subst (λ (v : Which). IsAsked (words_of (view s) v) p) (sym pass)
        (subst (λ (t : Four X1 X2 X3 X4). IsAsked (words_of t (pass_of room)) p)
        (some_same (slice_get (map view seats) (function_of room)) may.0 (view s) may.1 seat_here) may.2)

    pub pending_here : (told : Type 0) (last : Record) → told ↔ (pending_of room (words_of (view s) w) p ≡ last ∷ [])
        → told ↔ (pending_at (map view seats) room (Some p) ≡ last ∷ [])
    pending_here told last iff =
        subst (λ (ps : List Record). told ↔ (ps ≡ last ∷ []))
        (ap (λ (v : Which). pending_of room (words_of (view s) v) p) pass ∙ ap (λ (o : Option (Four X1 X2 X3 X4)). left_in o room (Some p)) (sym seat_here))
        iff

-- ---- what is told of the last record

pub no_last : (pending : List Record) → IsTrue false ↔ EndsSo pending []
no_last pending = (λ holds. let e : false ≡ true = holds in absurd (cc), λ ends. absurd (no_end ends.0 ends.1.0 ends.1.2))

pub nothing_last : {X1 X2 X3 X4 : Type 0} (seats : List (Four X1 X2 X3 X4)) (room : ℕ) (rs : List Record) → IsTrue false ↔ EndsSo (pending_at seats room None) rs
nothing_last seats room rs = (λ holds. let e : false ≡ true = holds in absurd (cc), λ ends. absurd (no_pending seats room ends.0 rs ends.1))

pub last_is : (pending front rs : List Record) (last : Record) (told : Type 0) → told ↔ (pending ≡ last ∷ []) → rs ≡ front ++ last ∷ [] → told ↔ EndsSo pending rs
last_is pending front rs last told iff is = (
  λ holds. (front, (last, iff.0 holds, is)),
  λ ends.
      let same : last ≡ ends.1.0 = (same_end front ends.0 last ends.1.0 (sym is ∙ ends.1.2)).1 in
      iff.1 (ends.1.1 ∙ ap (λ (r : Record). r ∷ []) (sym same)),
)
