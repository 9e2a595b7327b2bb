-- The rule holds as a hall opens, and each step on its word keeps it.
use Rattle.std.proofs.Common.{◌≡◌, ◌≢◌, ℕ, zero, suc, ◌+◌, ◌<◌, ◌≤◌, ◌==◌, ◌⊎◌, List, [], ◌∷◌, ◌++◌, length, set, get_or, get_or-set_same, refl, sym, ap, ◌∙◌, subst, inl, inr, arith}
use Rattle.std.proofs.lemmas.List.{length-set, set-get_or}
use mathlib.Core.Option.{Option, some, none, some-injective, some-ne-none}
use lib.ListN.{get_elem?}
use prog.Atomic.{either}
use Rattle.atomic_table.specs.Table.{State, Me, Step, Act, keeps, Valid, stepped, Allows, Enters, Splits, Joins, carried_after, step}
use Rattle.atomic_table.specs.Table as table
use Rattle.atomic_table.proofs.Lists.{at_set, at_snoc, exchanged}
use Rattle.rooms_hall.specs.declared.view.Given.{Given}
use Rattle.rooms_hall.specs.declared.view.View.{View}
use Rattle.rooms_hall.specs.RoomId.{RoomId}
use Rattle.rooms_hall.specs.Rule.{Among, IsIn, IsGiven, HasDrawn, HallRule, both, drew, knows, nothing}
use Rattle.rooms_hall.specs.Steps.{Compared, Drew, Entered, Named, number_in, own}

-- ---- what is known after a step

among_both : (c : Given) (cs ds : List Given) → Among c (cs ++ ds) → Among c cs ⊎ Among c ds
among_both c [] ds h = inr h
among_both c (x ∷ cs) ds (inl e) = inl (inl e)
among_both c (x ∷ cs) ds (inr h) = elim (among_both c cs ds h) [ inl p ↦ inl (inr p) | inr p ↦ inr p ]

among_own : (c : Given) (cs : List Given) → Among c (own cs) → Among c cs
among_own c [] h = h
among_own c (x ∷ cs) (inl e) = inl e
among_own c (x ∷ cs) (inr h) = absurd h

-- after one view was changed, what is known stands in the new view or was known
given_after : (views : List View) (id : ℕ) (w : View) (c : Given) → IsGiven (set views id w) c → Among c w.claims ⊎ IsGiven views c
given_after views id w c h =
    elim (at_set views id h.0 w h.1 h.2) [
      | inl p ↦ inl (subst (λ (v : View). Among c v.claims) (sym p.1) h.3)
      | inr p ↦ inr (h.0, h.1, p.1, h.3)
    ]

-- where a view was put behind the others
given_longer : (views : List View) (w : View) (c : Given) → IsGiven (views ++ w ∷ []) c → Among c w.claims ⊎ IsGiven views c
given_longer views w c h =
    elim (at_snoc views w h.1 h.0 h.2) [
      | inl p ↦ inr (h.0, h.1, p, h.3)
      | inr p ↦ inl (subst (λ (v : View). Among c v.claims) (sym p) h.3)
    ]

-- after one view was changed, what a seat has drawn stands in its new view, or it is another seat
drawn_after : (views : List View) (id : ℕ) (w : View) (seat n : ℕ) → HasDrawn (set views id w) seat n → ((seat ≡ id) × IsIn n w.drawn) ⊎ ((seat ≢ id) × HasDrawn views seat n)
drawn_after views id w seat n h =
    elim (at_set views id seat w h.0 h.1) [
      | inl p ↦ inl (p.0, subst (λ (v : View). IsIn n v.drawn) (sym p.1) h.2)
      | inr p ↦ inr (p.0, (h.0, p.1, h.2))
    ]

-- where a view was put behind the others
drawn_longer : (views : List View) (w : View) (seat n : ℕ) → HasDrawn (views ++ w ∷ []) seat n → IsIn n w.drawn ⊎ HasDrawn views seat n
drawn_longer views w seat n h =
    elim (at_snoc views w h.0 seat h.1) [
      | inl p ↦ inr (h.0, p, h.2)
      | inr p ↦ inl (subst (λ (v : View). IsIn n v.drawn) (sym p) h.2)
    ]

-- where a view was changed to one that has drawn nothing
drawn_less : (views : List View) (id : ℕ) (w : View) → w.drawn ≡ [] → (seat n : ℕ) → HasDrawn (set views id w) seat n → (seat ≢ id) × HasDrawn views seat n
drawn_less views id w none_left seat n h =
    elim (drawn_after views id w seat n h) [ inl p ↦ absurd (subst (λ (ns : List ℕ). IsIn n ns) none_left p.1) | inr p ↦ p ]

-- a step after which no more is known, and the word is not lower
pub fewer : {S : Type 0} (s t : State S View) → HallRule s → length t.words ≡ 1 → get_or s.words 0 0 ≤ get_or t.words 0 0 → ((c : Given) → IsGiven t.views c → IsGiven s.views c)
    → ((seat n : ℕ) → HasDrawn t.views seat n → HasDrawn s.views seat n) → HallRule t
fewer s t rule size low old held =
    record {
      size = size;
      below = λ c h. let a : c.number < get_or s.words 0 0 = rule.below c (old c h) in omega arith;
      one = λ c d hc hd e. rule.one c d (old c hc) (old d hd) e;
      ahead = λ seat n h. let a : n < get_or s.words 0 0 = rule.ahead seat n (held seat n h) in omega arith;
      alone = λ seat other n h k. rule.alone seat other n (held seat n h) (held other n k);
      free = λ seat n c h k. rule.free seat n c (held seat n h) (old c k);
    }

-- ---- opening and coming in

no_number : (c : Given) (j : ℕ) (v : View) → get_elem? (nothing ∷ []) j ≡ some v → Among c v.claims → ⊥
no_number c zero v e h = subst (λ (x : View). Among c x.claims) (sym (some-injective nothing v e)) h
no_number c (suc j) v e h = absurd (some-ne-none v (sym e))

none_drawn : (n j : ℕ) (v : View) → get_elem? (nothing ∷ []) j ≡ some v → IsIn n v.drawn → ⊥
none_drawn n zero v e h = subst (λ (x : View). IsIn n x.drawn) (sym (some-injective nothing v e)) h
none_drawn n (suc j) v e h = absurd (some-ne-none v (sym e))

pub opens : HallRule (table.opening {S = Unit {0}} (0 ∷ []) [] nothing)
opens =
    record {
      size = refl;
      below = λ c h. absurd (no_number c h.0 h.1 h.2 h.3);
      one = λ c d h k e. absurd (no_number c h.0 h.1 h.2 h.3);
      ahead = λ seat n h. absurd (none_drawn n seat h.0 h.1 h.2);
      alone = λ seat other n h k. absurd (none_drawn n seat h.0 h.1 h.2);
      free = λ seat n c h k. absurd (none_drawn n seat h.0 h.1 h.2);
    }

pub enters : {S : Type 0} (slots : ℕ) (st : Step S) (me : Me S View) → Enters {S = S} HallRule slots 0 (λ n w. Entered st me n (w, []))
enters {S} slots st me s rule homes bound =
    (nothing, fewer s record { words = s.words; homes = s.homes; views = s.views ++ nothing ∷ [] } rule rule.size (omega arith) old held, refl)
  where
    old : (c : Given) → IsGiven (s.views ++ nothing ∷ []) c → IsGiven s.views c
    old c h = elim (given_longer s.views nothing c h) [ inl a ↦ absurd a | inr k ↦ k ]

    held : (seat n : ℕ) → HasDrawn (s.views ++ nothing ∷ []) seat n → HasDrawn s.views seat n
    held seat n h = elim (drawn_longer s.views nothing seat n h) [ inl a ↦ absurd a | inr k ↦ k ]

-- ---- a load, after which the seat knows no more

module _ {S : Type 0} (s : State S View) (id : ℕ) (v w : View) (rule : HallRule s) (at : get_elem? s.views id ≡ some v) (less : (c : Given) → Among c w.claims → Among c v.claims)
    (fewer_drawn : (n : ℕ) → IsIn n w.drawn → IsIn n v.drawn) where
  pub loaded : (homes : List (Option S)) → HallRule {S = S} record { words = set s.words 0 (get_or s.words 0 0); homes = homes; views = set s.views id w }
  loaded homes =
      fewer s record { words = set s.words 0 (get_or s.words 0 0); homes = homes; views = set s.views id w } rule (length-set s.words 0 (get_or s.words 0 0) ∙ rule.size)
      (subst (λ (ws : List ℕ). get_or s.words 0 0 ≤ get_or ws 0 0) (sym (set-get_or s.words 0 0)) (omega arith)) old held
    where
      old : (c : Given) → IsGiven (set s.views id w) c → IsGiven s.views c
      old c h = elim (given_after s.views id w c h) [ inl a ↦ (id, v, at, less c a) | inr k ↦ k ]

      held : (seat n : ℕ) → HasDrawn (set s.views id w) seat n → HasDrawn s.views seat n
      held seat n h =
          elim (drawn_after s.views id w seat n h) [ inl p ↦ (v, (ap (λ (i : ℕ). get_elem? s.views i) p.0 ∙ at), fewer_drawn n p.1) | inr p ↦ p.1 ]

pub compares : {S : Type 0} (slots id : ℕ) (me : Me S View) (st : Step S) → Allows HallRule slots id me 0 (λ n. n) (Compared st me)
compares slots id me st s rule homes at bound = (
  record { claims = own me.0.claims; drawn = [] },
  keeps,
  tt,
  loaded s id me.0 record { claims = own me.0.claims; drawn = [] } rule at (λ c h. among_own c me.0.claims h) (λ n h. absurd h) s.homes,
  record { one = λ c d hc hd e. rule.one c d (id, me.0, at, hc) (id, me.0, at, hd) e; after = refl },
)

-- ---- drawing a number

module _ {S : Type 0} (s : State S View) (id : ℕ) (rule : HallRule s) (number : ℕ) (is : number ≡ get_or s.words 0 0) where
  new_word : get_or (set s.words 0 (number + 1)) 0 0 ≡ number + 1
  new_word = get_or-set_same s.words 0 (number + 1) 0 (let one : length s.words ≡ 1 = rule.size in omega arith)

  old_given : (c : Given) → IsGiven (set s.views id (drew number)) c → IsGiven s.views c
  old_given c h = elim (given_after s.views id (drew number) c h) [ inl a ↦ absurd a | inr k ↦ k ]

  -- who has drawn a number has drawn this one now, or had drawn a lower one
  new_or_old : (seat n : ℕ) → HasDrawn (set s.views id (drew number)) seat n → ((seat ≡ id) × (n ≡ number)) ⊎ (HasDrawn s.views seat n × (n < number))
  new_or_old seat n h =
      elim (drawn_after s.views id (drew number) seat n h) [
        | inl p ↦ elim p.1 [ inl e ↦ inl (p.0, e) | inr b ↦ absurd b ]
        | inr p ↦ inr (p.1, (let low : n < get_or s.words 0 0 = rule.ahead seat n p.1 in omega arith))
      ]

  drawn : (homes : List (Option S)) → HallRule {S = S} record { words = set s.words 0 (number + 1); homes = homes; views = set s.views id (drew number) }
  drawn homes =
      record {
        size = length-set s.words 0 (number + 1) ∙ rule.size;
        below = λ c h.
            let top : get_or (set s.words 0 (number + 1)) 0 0 ≡ number + 1 = new_word in
            let low : c.number < get_or s.words 0 0 = rule.below c (old_given c h) in omega arith;
        one = λ c d hc hd e. rule.one c d (old_given c hc) (old_given d hd) e;
        ahead = λ seat n h.
            let top : get_or (set s.words 0 (number + 1)) 0 0 ≡ number + 1 = new_word in
            elim (new_or_old seat n h) [ inl p ↦ (let e : n ≡ number = p.1 in omega arith) | inr p ↦ (let low : n < number = p.1 in omega arith) ];
        alone = λ seat other n h k.
            elim (new_or_old seat n h) [
              | inl p ↦ elim (new_or_old other n k) [
                | inl q ↦ p.0 ∙ sym q.0
                | inr q ↦ let e : n ≡ number = p.1 in let low : n < number = q.1 in absurd (omega arith)
              ]
              | inr p ↦ elim (new_or_old other n k) [
                | inl q ↦ let e : n ≡ number = q.1 in let low : n < number = p.1 in absurd (omega arith)
                | inr q ↦ rule.alone seat other n p.0 q.0
              ]
            ];
        free = λ seat n c h k.
            let low : c.number < get_or s.words 0 0 = rule.below c (old_given c k) in
            elim (new_or_old seat n h) [
              | inl p ↦ λ e. let m : n ≡ number = p.1 in let same : c.number ≡ n = e in absurd (omega arith)
              | inr p ↦ rule.free seat n c p.0 (old_given c k)
            ];
      }

module _ {S : Type 0} (slots id : ℕ) (me : Me S View) (number : ℕ) where
  pub draws : Allows HallRule slots id me 0 (λ n. either (n == number) (number + 1) n) (Drew (step slots 0 number (number + 1) none) me)
  draws s rule homes at bound = exchanged (get_or s.words 0 0) number (number + 1) Goes hit miss
    where
      Goes : ℕ → Type 0
      Goes m =
          (w : View) × (a : Act S) × Valid s.homes me.1 a × HallRule (stepped s 0 m id me.1 w a)
          × Drew (step slots 0 number (number + 1) none) me (get_or s.words 0 0) (w, carried_after me.1 a)

      hit : get_or s.words 0 0 ≡ number → Goes (number + 1)
      hit e = (
        drew number,
        keeps,
        tt,
        drawn s id rule number (sym e) s.homes,
        record { taken = λ same. ap (λ (n : ℕ). drew n) (sym e); missed = λ d. absurd (d e) },
      )

      miss : get_or s.words 0 0 ≢ number → Goes (get_or s.words 0 0)
      miss d = (me.0, keeps, tt, loaded s id me.0 me.0 rule at (λ c h. h) (λ n h. h) s.homes, record { taken = λ e. absurd (d e); missed = λ _. refl })

-- ---- giving it to a room

module _ {S : Type 0} (s : State S View) (id : ℕ) (rule : HallRule s) (number : ℕ) (at : get_elem? s.views id ≡ some (drew number)) (room : RoomId) where
  abbrev given : Given
  given = record { number = number; room = room }

  mine : HasDrawn s.views id number
  mine = (drew number, at, inl refl)

  given_or_old : (c : Given) → IsGiven (set s.views id (knows given)) c → (c ≡ given) ⊎ IsGiven s.views c
  given_or_old c h = elim (given_after s.views id (knows given) c h) [ inl a ↦ elim a [ inl e ↦ inl e | inr b ↦ absurd b ] | inr k ↦ inr k ]

  still_drawn : (seat n : ℕ) → HasDrawn (set s.views id (knows given)) seat n → (seat ≢ id) × HasDrawn s.views seat n
  still_drawn seat n h = drawn_less s.views id (knows given) refl seat n h

  named : (words : List ℕ) (homes : List (Option S)) → words ≡ s.words → HallRule {S = S} record { words = words; homes = homes; views = set s.views id (knows given) }
  named words homes same =
      let word : get_or words 0 0 ≡ get_or s.words 0 0 = ap (λ (ws : List ℕ). get_or ws 0 0) same in
      record {
        size = ap length same ∙ rule.size;
        below = λ c h.
            elim (given_or_old c h) [
              | inl e ↦ let n : c.number ≡ number = ap (λ (x : Given). x.number) e in let low : number < get_or s.words 0 0 = rule.ahead id number mine in omega arith
              | inr k ↦ let n : c.number < get_or s.words 0 0 = rule.below c k in omega arith
            ];
        one = λ c d hc hd e.
            elim (given_or_old c hc) [
              | inl a ↦ elim (given_or_old d hd) [
                | inl b ↦ a ∙ sym b
                | inr k ↦ absurd (rule.free id number d mine k (sym e ∙ ap (λ (x : Given). x.number) a))
              ]
              | inr k ↦ elim (given_or_old d hd) [
                | inl b ↦ absurd (rule.free id number c mine k (e ∙ ap (λ (x : Given). x.number) b))
                | inr l ↦ rule.one c d k l e
              ]
            ];
        ahead = λ seat n h. let low : n < get_or s.words 0 0 = rule.ahead seat n (still_drawn seat n h).1 in omega arith;
        alone = λ seat other n h k. rule.alone seat other n (still_drawn seat n h).1 (still_drawn other n k).1;
        free = λ seat n c h k.
            let held = still_drawn seat n h in
            elim (given_or_old c k) [
              | inl e ↦ λ same_number.
                  let n_is : n ≡ number = sym same_number ∙ ap (λ (x : Given). x.number) e in
                  absurd (held.0 (rule.alone seat id n held.1 (subst (λ (m : ℕ). HasDrawn s.views id m) (sym n_is) mine)))
              | inr l ↦ rule.free seat n c held.1 l
            ];
      }

pub names : {S : Type 0} (slots id : ℕ) (me : Me S View) (number : ℕ) → me.0 ≡ drew number → (room : RoomId) (st : Step S) → Allows HallRule slots id me 0 (λ n. n) (Named room st me)
names {S} slots id me number is room st s rule homes at bound = (
  knows record { number = number; room = room },
  keeps,
  tt,
  named s id rule number (at ∙ ap (λ (v : View). some v) is) room (set s.words 0 (get_or s.words 0 0)) s.homes (set-get_or s.words 0 0),
  ap (λ (v : View). knows record { number = number_in v.drawn; room = room }) (sym is),
)

-- ---- telling

pub splits : {S : Type 0} (id : ℕ) (v : View) → v.drawn ≡ [] → Splits {S = S} HallRule id v v v
splits {S} id v none_left s rule at =
    fewer s record { words = s.words; homes = s.homes; views = set s.views id v ++ v ∷ [] } rule rule.size (omega arith) old held
  where
    held : (seat n : ℕ) → HasDrawn (set s.views id v ++ v ∷ []) seat n → HasDrawn s.views seat n
    held seat n h =
        elim (drawn_longer (set s.views id v) v seat n h) [
          | inl a ↦ absurd (subst (λ (ns : List ℕ). IsIn n ns) none_left a)
          | inr k ↦ (drawn_less s.views id v none_left seat n k).1
        ]

    old : (c : Given) → IsGiven (set s.views id v ++ v ∷ []) c → IsGiven s.views c
    old c h =
        elim (given_longer (set s.views id v) v c h) [
          | inl a ↦ (id, v, at, a)
          | inr k ↦ elim (given_after s.views id v c k) [ inl a ↦ (id, v, at, a) | inr l ↦ l ]
        ]

pub joins : {S : Type 0} (id : ℕ) (v : View) (other : ℕ) (w : View) → Joins {S = S} HallRule id v other w (both v w) nothing
joins {S} id v other w s rule at away there =
    fewer s record { words = s.words; homes = s.homes; views = set (set s.views id (both v w)) other nothing } rule rule.size (omega arith) old held
  where
    held : (seat n : ℕ) → HasDrawn (set (set s.views id (both v w)) other nothing) seat n → HasDrawn s.views seat n
    held seat n h = (drawn_less s.views id (both v w) refl seat n (drawn_less (set s.views id (both v w)) other nothing refl seat n h).1).1

    before : get_elem? s.views other ≡ some w
    before = elim (at_set s.views id other (both v w) w there) [ inl p ↦ absurd (away p.0) | inr p ↦ p.1 ]

    old : (c : Given) → IsGiven (set (set s.views id (both v w)) other nothing) c → IsGiven s.views c
    old c h =
        elim (given_after (set s.views id (both v w)) other nothing c h) [
          | inl a ↦ absurd a
          | inr k ↦ elim (given_after s.views id (both v w) c k) [
            | inl a ↦ elim (among_both c v.claims w.claims a) [ inl b ↦ (id, v, at, b) | inr b ↦ (other, w, before, b) ]
            | inr l ↦ l
          ]
        ]
