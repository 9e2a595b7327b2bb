-- What turns leave of a node: none, one, and one after another.
use Rattle.std.proofs.Common.{◌≡◌, ◌≢◌, ℕ, zero, suc, ◌<◌, Bool, true, false, eqb, List, [], ◌++◌, length, map, slice_get, Option, Some, None, refl, sym, ap, ◌∙◌, subst, subst₂, arith, append_assoc, append-nil}
use Rattle.std.proofs.lemmas.Bool.{eqb-true, eq-eqb}
use Rattle.std.proofs.lemmas.Option.{slice_get_within}
use Rattle.durable_model.specs.declared.disk.Disk as disks
use Rattle.durable_model.specs.Moments.{started, composed}
use Rattle.acceptor_log_form.specs.declared.header.Header.{Header}
use Rattle.acceptor_log_form.specs.declared.record.Record.{Record}
use Rattle.acceptor_log_form.specs.Lists.{Begins, Between}
use Rattle.acceptor_log_writing.proofs.Either.{either-between}
use Rattle.acceptor_log_form.specs.Text.{StandsFor}
use Rattle.acceptor_log.specs.declared.log.Log.{Log}
use Rattle.acceptor_log.specs.Acknowledged.{acknowledged}
use Rattle.lang_base.specs.declared.program.Named.{Named}
use Rattle.offers.specs.declared.parts.Parts.{Parts}
use Rattle.farm_nodes_turn_node.specs.SeatValue.{SeatValue}
use Rattle.farm_nodes_turn_node.specs.Served.{IsServed}
use Rattle.farm_nodes_turn_node.proofs.Keeping.{goes_same, goes_through}
use Rattle.farm_nodes_turn_node.proofs.UnderWay.{way_same, way_through}
use Rattle.farm_nodes_turn_node.specs.Played.{StaysInTurn}
use Rattle.farm_nodes_turn_node.specs.Numbers.{function_of, pass_of}
use Rattle.farm_nodes_turn_node.specs.Fours.{Four}
use Rattle.farm_nodes_turn_node.specs.Texts.{Texts}
use Rattle.farm_nodes_turn_node.specs.Which.{Which}
use Rattle.farm_nodes_turn_node.specs.Which.TheVariants.{Constants, Expressions, Allocation, Order}
use Rattle.farm_nodes_turn_node.specs.Turned.{LeavesSeats, StaysIn, OthersStay}
use Rattle.farm_nodes_turn_node.specs.Turns.{AtPlace, OfFunction}
use Rattle.farm_nodes_turn_node.proofs.Places.{found, mapped}
use Rattle.farm_nodes_turn_node.specs.declared.halted.Halted.{Halted}
use Rattle.farm_nodes_turn_node.specs.Held.{IsSoundBy, IsJournalOf, pending_in}
use Rattle.farm_nodes_turn_node.specs.Stood.{TurnsBy}
use Rattle.farm_nodes_threads.specs.CameBack.{Keep, CameBackBy}

-- a seat
stays_so : {T : Type 0} (s : SeatValue T) → StaysInTurn s s
stays_so s = record {
  room = record { table = refl; cells = refl };
  me = refl;
  quorums = refl;
  learned = λ v e. e;
  offered = λ e. e;
  under_way = way_same s.words.node;
  seen = λ j x e. e;
  run = goes_same s.words;
}

stays_on : {T : Type 0} (s t : SeatValue T) → t ≡ s → StaysInTurn s t
stays_on s t e = subst (λ u. StaysInTurn s u) (sym e) (stays_so s)

stays_through : {T : Type 0} (s t u : SeatValue T) → StaysInTurn s t → StaysInTurn t u → StaysInTurn s u
stays_through s t u a b = record {
  room = record { table = a.room.table ∙ b.room.table; cells = a.room.cells ∙ b.room.cells };
  me = b.me ∙ a.me;
  quorums = b.quorums ∙ a.quorums;
  learned = λ v e. b.learned v (a.learned v e);
  offered = λ e. b.offered (a.offered e);
  under_way = way_through s.words.node t.words.node u.words.node a.under_way b.under_way;
  seen = λ j x e. b.seen j x (a.seen j x e);
  run = goes_through s.words t.words u.words a.run b.run;
}

-- the seats of a function
module _ {T1 T2 T3 T4 : Type 0} where
  keep_so : (s : Four T1 T2 T3 T4) → Keep s s
  keep_so s = record { constants = stays_so s.constants; expressions = stays_so s.expressions; allocation = stays_so s.allocation; order = stays_so s.order; number = refl }

  pub keep_same : (s t : Four T1 T2 T3 T4) → t ≡ s → Keep s t
  keep_same s t e = subst (λ (u : Four T1 T2 T3 T4). Keep s u) (sym e) (keep_so s)

  keep_through : (s t u : Four T1 T2 T3 T4) → Keep s t → Keep t u → Keep s u
  keep_through s t u a b = record {
    constants = stays_through s.constants t.constants u.constants a.constants b.constants;
    expressions = stays_through s.expressions t.expressions u.expressions a.expressions b.expressions;
    allocation = stays_through s.allocation t.allocation u.allocation a.allocation b.allocation;
    order = stays_through s.order t.order u.order a.order b.order;
    number = b.number ∙ a.number;
  }

  pub keep_by : (p : Which) (s t : Four T1 T2 T3 T4) → StaysIn p s t → OthersStay p s t → Keep s t
  keep_by Constants s t stays others = record {
    constants = stays;
    expressions = stays_on s.expressions t.expressions (ap (λ (u : Four T1 T2 T3 T4). u.expressions) others);
    allocation = stays_on s.allocation t.allocation (ap (λ (u : Four T1 T2 T3 T4). u.allocation) others);
    order = stays_on s.order t.order (ap (λ (u : Four T1 T2 T3 T4). u.order) others);
    number = ap (λ (u : Four T1 T2 T3 T4). u.number) others;
  }
  keep_by Expressions s t stays others = record {
    constants = stays_on s.constants t.constants (ap (λ (u : Four T1 T2 T3 T4). u.constants) others);
    expressions = stays;
    allocation = stays_on s.allocation t.allocation (ap (λ (u : Four T1 T2 T3 T4). u.allocation) others);
    order = stays_on s.order t.order (ap (λ (u : Four T1 T2 T3 T4). u.order) others);
    number = ap (λ (u : Four T1 T2 T3 T4). u.number) others;
  }
  keep_by Allocation s t stays others = record {
    constants = stays_on s.constants t.constants (ap (λ (u : Four T1 T2 T3 T4). u.constants) others);
    expressions = stays_on s.expressions t.expressions (ap (λ (u : Four T1 T2 T3 T4). u.expressions) others);
    allocation = stays;
    order = stays_on s.order t.order (ap (λ (u : Four T1 T2 T3 T4). u.order) others);
    number = ap (λ (u : Four T1 T2 T3 T4). u.number) others;
  }
  keep_by Order s t stays others = record {
    constants = stays_on s.constants t.constants (ap (λ (u : Four T1 T2 T3 T4). u.constants) others);
    expressions = stays_on s.expressions t.expressions (ap (λ (u : Four T1 T2 T3 T4). u.expressions) others);
    allocation = stays_on s.allocation t.allocation (ap (λ (u : Four T1 T2 T3 T4). u.allocation) others);
    order = stays;
    number = ap (λ (u : Four T1 T2 T3 T4). u.number) others;
  }

-- lists of records
same_begins : (xs : List Record) → Begins xs xs
same_begins xs = ([], sym (append-nil xs))

through : (xs ys zs : List Record) → Begins xs ys → Begins ys zs → Begins xs zs
through xs ys zs p q = (p.0 ++ q.0, q.1 ∙ (ap (λ (l : List Record). l ++ q.0) p.1 ∙ append_assoc xs p.0 q.0))

longer : (xs ys more : List Record) → Begins xs ys → Begins xs (ys ++ more)
longer xs ys more p = through xs ys (ys ++ more) p (more, refl)

wider : (h g : Header) (low high low2 high2 : List Record) (c : List ℕ) → h ≡ g → Begins low2 low → Begins high high2 → Between h low high c → Between g low2 high2 c
wider h g low high low2 high2 c same p q b = record {
  records = b.records;
  stands = subst (λ (x : Header). StandsFor x b.records c) same b.stands;
  all_of_low = through low2 low b.records p b.all_of_low;
  none_else = through b.records high high2 b.none_else q;
}

-- whether it is stopped
pub by_halt : {P : Type 0} (h : Option Halted) → (h ≡ None → P) → (h ≢ None → P) → P
by_halt None none some = none refl
by_halt (Some h) none some = some (λ (e : Some h ≡ None). absurd (cc))

module _ {D T1 T2 T3 T4 : Type 0} (texts : Texts T1 T2 T3 T4) (disk : disks.Ghosts D) where
  abbrev pub Came : Log D → Log D → List (Four T1 T2 T3 T4) → List (Four T1 T2 T3 T4) → Option Halted → Option Halted → Type 0
  Came old new seats after halted now = CameBackBy texts disk old new seats after halted now

  abbrev pub Into : Log D → Log D → List (Four T1 T2 T3 T4) → Option Halted → Type 0
  Into old new after now = TurnsBy texts disk old new after now

  -- no turn
  into_none : (log : Log D) (seats : List (Four T1 T2 T3 T4)) (halted : Option Halted) (upto : List Record)
      → ((c : List ℕ) → disk.left_since log.disk (disk.moment log.disk) c → disk.may_leave log.disk c)
      → IsJournalOf texts disk log seats halted upto → upto ≡ acknowledged disk.seen log → Into log log seats halted
  into_none log seats halted upto now stands all = record {
    upto = upto;
    longer = subst (λ (l : List Record). Begins (acknowledged disk.seen log) l) (sym all) (same_begins (acknowledged disk.seen log));
    stands = stands;
    all = λ none. all;
    any_moment = started disk.moment disk.left_since log.disk (Between log.header (acknowledged disk.seen log) (upto ++ pending_in seats halted))
        (λ c left. subst (λ (l : List Record). Between log.header l (upto ++ pending_in seats halted) c) all
        (either-between log.header upto (upto ++ pending_in seats halted) c (pending_in seats halted, refl) (stands.left c (now c left))));
  }

  pub came_none : (log : Log D) (seats : List (Four T1 T2 T3 T4)) (halted : Option Halted)
      → (disk.is_honest log.disk → (c : List ℕ) → disk.left_since log.disk (disk.moment log.disk) c → disk.may_leave log.disk c)
      → IsSoundBy texts disk log seats halted → Came log log seats seats halted halted
  came_none log seats halted now sound = record {
    functions = refl;
    rooms = λ f s t e g. keep_same s t (let same : Some s ≡ Some t = sym e ∙ g in cc);
    header = refl;
    honest = (λ h. h, λ h. h);
    journal = λ honest none. let u = sound.upto honest in into_none log seats halted u.0 (now honest) u.1 (u.2 none);
    stopped = λ some. (refl, refl, refl);
  }

  -- one turn, in this room
  keep_at : (old new : Log D) (seats after : List (Four T1 T2 T3 T4)) (halted now : Option Halted) (room : ℕ)
      → ((f : ℕ) → f ≢ function_of room → slice_get after f ≡ slice_get seats f)
      → ((s t : Four T1 T2 T3 T4) → slice_get seats (function_of room) ≡ Some s → slice_get after (function_of room) ≡ Some t → halted ≡ None → Keep s t)
      → (halted ≢ None → (new ≡ old) × (after ≡ seats) × (now ≡ halted))
      → (f : ℕ) (s t : Four T1 T2 T3 T4) → slice_get seats f ≡ Some s → slice_get after f ≡ Some t → (b : Bool) → eqb f (function_of room) ≡ b → Keep s t
  keep_at old new seats after halted now room others keeps stopped f s t e g true b =
      let same : f ≡ function_of room = eqb-true f (function_of room) b in
      by_halt halted (keeps s t (ap (λ (k : ℕ). slice_get seats k) (sym same) ∙ e) (ap (λ (k : ℕ). slice_get after k) (sym same) ∙ g))
      (λ some. let still : after ≡ seats = (stopped some).1 in
      let both : Some t ≡ Some s = sym g ∙ (ap (λ (l : List (Four T1 T2 T3 T4)). slice_get l f) still ∙ e) in keep_same s t (let it : t ≡ s = cc in it))
  keep_at old new seats after halted now room others keeps stopped f s t e g false b =
      let apart : f ≢ function_of room = (λ (same : f ≡ function_of room). let bad : true ≡ false = sym (eq-eqb f (function_of room) same) ∙ b in absurd (cc)) in
      let both : Some t ≡ Some s = sym g ∙ (others f apart ∙ e) in
      keep_same s t (let it : t ≡ s = cc in it)

  pub came_once : (old new : Log D) (seats after : List (Four T1 T2 T3 T4)) (halted now : Option Halted) (room : ℕ)
      → length after ≡ length seats → ((f : ℕ) → f ≢ function_of room → slice_get after f ≡ slice_get seats f)
      → ((s t : Four T1 T2 T3 T4) → slice_get seats (function_of room) ≡ Some s → slice_get after (function_of room) ≡ Some t → halted ≡ None → Keep s t)
      → IsServed disk old new → (disk.is_honest old.disk → halted ≡ None → Into old new after now)
      → (halted ≢ None → (new ≡ old) × (after ≡ seats) × (now ≡ halted)) → Came old new seats after halted now
  came_once old new seats after halted now room long others keeps served into stopped = record {
    functions = long;
    rooms = λ f s t e g. keep_at old new seats after halted now room others keeps stopped f s t e g (eqb f (function_of room)) refl;
    header = served.header;
    honest = served.honest;
    journal = into;
    stopped = stopped;
  }

  -- turns behind turns
  into_through : (old mid new : Log D) (seats after : List (Four T1 T2 T3 T4)) (now : Option Halted) → mid.header ≡ old.header
      → Into old mid seats None → Into mid new after now → Into old new after now
  into_through old mid new seats after now header a b =
      let all : a.upto ≡ acknowledged disk.seen mid = a.all refl in
      let begins : Begins a.upto b.upto = subst (λ (l : List Record). Begins l b.upto) (sym all) b.longer in
      let pending : List Record = pending_in after now in
      record {
        upto = b.upto;
        longer = through (acknowledged disk.seen old) a.upto b.upto a.longer begins;
        stands = b.stands;
        all = b.all;
        any_moment = composed disk.moment disk.left_since old.disk mid.disk new.disk
            (Between old.header (acknowledged disk.seen old) (a.upto ++ []))
            (Between mid.header (acknowledged disk.seen mid) (b.upto ++ pending))
            (Between old.header (acknowledged disk.seen old) (b.upto ++ pending))
            a.any_moment b.any_moment
            (λ c w. wider old.header old.header (acknowledged disk.seen old) (a.upto ++ []) (acknowledged disk.seen old) (b.upto ++ pending) c refl (same_begins (acknowledged disk.seen old))
            (subst (λ (rs : List Record). Begins rs (b.upto ++ pending)) (sym (append-nil a.upto)) (longer a.upto b.upto pending begins)) w)
            (λ c w. wider mid.header old.header (acknowledged disk.seen mid) (b.upto ++ pending) (acknowledged disk.seen old) (b.upto ++ pending) c header
            (subst (λ (l : List Record). Begins (acknowledged disk.seen old) l) all a.longer) (same_begins (b.upto ++ pending)) w);
      }

  pub came_through : (old mid new : Log D) (seats among after : List (Four T1 T2 T3 T4)) (halted then now : Option Halted)
      → Came old mid seats among halted then → Came mid new among after then now → Came old new seats after halted now
  came_through old mid new seats among after halted then now a b = record {
    functions = b.functions ∙ a.functions;
    rooms = λ f s u e g.
        let low : f < length seats = slice_get_within seats f s e in
        let same : length among ≡ length seats = a.functions in
        let t = found among f (omega arith) in
        keep_through s t.0 u (a.rooms f s t.0 e t.1) (b.rooms f t.0 u t.1 g);
    header = b.header ∙ a.header;
    honest = (λ h. a.honest.0 (b.honest.0 h), λ h. b.honest.1 (a.honest.1 h));
    journal = λ honest none.
        by_halt then (λ going. into_through old mid new among after now a.header
        (subst (λ (h : Option Halted). Into old mid among h) going (a.journal honest none)) (b.journal (a.honest.1 honest) going))
        (λ some. let still = b.stopped some in
        subst (λ (l : Log D). Into old l after now) (sym still.0)
        (subst (λ (l : List (Four T1 T2 T3 T4)). Into old mid l now) (sym still.1)
        (subst (λ (h : Option Halted). Into old mid among h) (sym still.2) (a.journal honest none))));
    stopped = λ some.
        let first = a.stopped some in
        let later = b.stopped (λ none. some (sym first.2 ∙ none)) in
        (later.0 ∙ first.0, later.1 ∙ first.1, later.2 ∙ first.2);
  }

-- the seats of the function of the room that a turn was taken in
pub keeps_at : {X A1 A2 A3 A4 A5 C1 C2 C3 C4 : Type 0} (f : X → Four (Parts A1 A2 C1) (Parts A2 A3 C2) (Parts A3 A4 C3) (Parts A4 A5 C4))
    (functions : List (Named A1)) (room : ℕ) (old new : List X) → function_of room < length functions
    → OfFunction functions (function_of room) (λ function. AtPlace f (LeavesSeats function (pass_of room)) (function_of room) old new)
    → (s t : Four (Parts A1 A2 C1) (Parts A2 A3 C2) (Parts A3 A4 C3) (Parts A4 A5 C4))
    → slice_get (map f old) (function_of room) ≡ Some s → slice_get (map f new) (function_of room) ≡ Some t → Keep s t
keeps_at f functions room old new low leaves s t e g =
    let named = found functions (function_of room) low in
    let x = mapped f old (function_of room) s e in
    let y = mapped f new (function_of room) t g in
    let it = leaves named.0 named.1 x.0 y.0 x.1 y.1 in
    subst₂ (λ a b. Keep a b) x.2 y.2 (keep_by (pass_of room) (f x.0) (f y.0) it.stays it.others)
