-- Seats as their room opens, one after the other.
use Rattle.std.proofs.Common.{◌≡◌, ℕ, zero, suc, ◌+◌, ◌<◌, ◌≤◌, Bool, true, if◌then◌else◌, List, [], ◌∷◌, ◌++◌, length, get_or, get_or-set_other, Option, Some, None, is_some, Result, Ok, Err, IfOk, slice_set, refl, sym, ap, ◌∙◌, subst, arith}
use Rattle.rooms_cells.specs.declared.sight.Put.{Put}
use Rattle.rooms_cells.specs.declared.sight.Put.TheVariants as put
use Rattle.rooms_cells.specs.Seen.{SightOf, IsPut, IsPutAt, sight_at}
use Rattle.rooms_seat.specs.Opening.{Opening}
use Rattle.rooms_seat.specs.RoomAt.{RoomAt}
use Rattle.paxos_core_world.specs.KeptPart.{KeptPart}
use Rattle.paxos_core_world.specs.Quorum.{Sizes}
use Rattle.rooms_seat.specs.SeatState.{opening_of}
use Rattle.rooms_seat.specs.Dealing.{Dealing}
use Rattle.rooms.specs.Opened.{offer_at, opened, opened_first, with_seen, AnyOffered, AreDealt, AreFit, AreOpened, IsFit}
use Rattle.rooms.specs.SeatValue.{SeatValue}

-- the offers that are not yet taken are those that were given
pub take_left : {T : Type 0} (left given : List (Option T)) (node : ℕ) (x : Option T) → ((j : ℕ) → node ≤ j → offer_at left j ≡ offer_at given j) → (j : ℕ) → node + 1 ≤ j → offer_at (slice_set left node x) j ≡ offer_at given j
take_left left given node x h j le = get_or-set_other left node j x None (λ e. omega arith) ∙ h j (omega arith)

any_default : {A : Type 0} (xs : List A) (j : ℕ) (d e : A) → j < length xs → get_or xs j d ≡ get_or xs j e
any_default [] j d e lt = absurd (omega arith)
any_default (x ∷ xs) zero d e lt = refl
any_default (x ∷ xs) (suc j) d e lt = any_default xs j d e (omega arith)

-- what is taken is what was given
pub taken : {T : Type 0} (left given : List (Option T)) (node : ℕ) (x y : Option T) → node < length left → y ≡ x → x ≡ get_or left node x → ((j : ℕ) → node ≤ j → offer_at left j ≡ offer_at given j) → y ≡ offer_at given node
taken left given node x y lt out is h = out ∙ (is ∙ (any_default left node x None lt ∙ h node (omega arith)))

-- an error is the same, whatever else the result might have been
pub same_error : {A B E : Type 0} (a b : E) → ◌≡◌ {A = Result A E} (Err a) (Err b) → ◌≡◌ {A = Result B E} (Err a) (Err b)
same_error a b e = let same : a ≡ b = cc in ap (λ y. Err y) same

-- what a push that did not fail leaves
pub pushed : {A : Type 0} (t : Bool) (x y z : List A) → t ≡ true → x ≡ (if t then y else z) → x ≡ y
pushed t x y z e h = h ∙ ap (λ (b : Bool). if b then y else z) e

-- an offer was given
pub any_offer : {T : Type 0} (given : List (Option T)) (j : ℕ) (o : Option T) → o ≡ offer_at given j → is_some o ≡ true → AnyOffered given
any_offer given j None e s = absurd (cc)
any_offer given j (Some x) e s = (j, x, sym e)

-- what was put into a cell is seen there
pub put_seen : {B T : Type 0} (told : Put B) (b : B) (x : T) (j : ℕ) (old new : List (SightOf T)) → told ≡ put.Yes → IsPutAt told b x j old new → new ≡ with_seen j (Some x) old
put_seen {B} {T} told b x j old new is h =
    let outcome : IsPut put.Yes b x (sight_at old j) h.at = subst (λ (t : Put B). IsPut t b x (sight_at old j) h.at) is h.outcome in
    h.after ∙ ap (λ (s : SightOf T). slice_set old j s) outcome.1

-- the offer that is taken is the node's, if it has made one
pub fit_next : {T : Type 0} (given : List (Option T)) (node : ℕ) (y : Option T) (d0 d : Dealing) → d ≡ record d0 { next = node } → AreFit d0.opening given → node < d0.opening.quorums.nodes
    → y ≡ offer_at given node → IsFit d.opening d.next y
fit_next {T} given node y d0 d at fit lt is =
    subst (λ (x : Dealing). IsFit x.opening x.next y) (sym at) (subst (λ (o : Option T). IsFit d0.opening node o) (sym is) (fit node lt))

-- one seat more
pub seats_more : {T : Type 0} (table : RoomAt) (cells : List ℕ) (o : Opening) (given : List (Option T)) (node : ℕ) (dealer : Dealing) (x : Option T) (seats more : List (SeatValue T)) (seat : SeatValue T)
    → dealer ≡ record { table = table; opening = o; next = node } → seats ≡ opened_first table cells o given node → x ≡ offer_at given node
    → seat ≡ opened dealer.table cells dealer.opening dealer.next x → more ≡ seats ++ seat ∷ [] → more ≡ opened_first table cells o given (node + 1)
seats_more {T} table cells o given node dealer x seats more seat dealt before same is after =
    let new : seat ≡ opened table cells o node (offer_at given node) =
    is ∙ (ap (λ (d : Dealing). opened d.table cells d.opening d.next x) dealt ∙ ap (λ (y : Option T). opened table cells o node y) same) in
    let next : suc node ≡ node + 1 = omega arith in
    subst (λ (n : ℕ). more ≡ opened_first table cells o given n) next
    (after ∙ (ap (λ (xs : List (SeatValue T)). xs ++ seat ∷ []) before ∙ ap (λ (s : SeatValue T). opened_first table cells o given node ++ s ∷ []) new))

-- what is dealt out of a room that was opened from these kept parts
pub opened_all : {A E T : Type 0} (items : A → List (SeatValue T)) (q : Sizes) (kept : List KeptPart) (offers : List (Option T)) (d : Dealing) (r : Result A E) → d.opening ≡ opening_of q kept
    → IfOk r (λ seats. AreDealt d.table d.opening offers (items seats)) → IfOk r (λ seats. AreOpened q kept offers (items seats))
opened_all items q kept offers d (Err x) e h = tt
opened_all items q kept offers d (Ok seats) e h =
    record {
      table = d.table;
      cells = h.cells;
      size = h.size;
      seats_are = h.seats_are ∙ ap (λ (o : Opening). opened_first d.table h.cells o offers o.quorums.nodes) e;
    }
