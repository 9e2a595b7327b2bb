-- What records leave of a node's seats once what was pending is done, and once the seats have forgotten.
use Rattle.std.proofs.Common.{◌≡◌, ◌≢◌, ℕ, ◌<◌, true, List, [], ◌∷◌, length, map, get_or, Option, Some, None, Result, Ok, Err, OnOk, OnErr, set, refl, sym, ap, ◌∙◌, subst, arith, inl, inr}
use Rattle.std.specs.Prelude.{slice_get}
use Rattle.std.proofs.lemmas.Bool.{cases_eq}
use Rattle.std.proofs.lemmas.List.{length-map, length-set}
use Rattle.std.proofs.lemmas.Option.{slice_get_within}
use Rattle.paxos_core_world.specs.KeptPart.{KeptPart}
use Rattle.acceptor_log_form.specs.declared.record.Record.{Record}
use Rattle.acceptor_log_form.specs.Leaves.{kept_by_record, kept_in}
use Rattle.rooms_seat_state.specs.SeatState.{SeatState}
use Rattle.farm_nodes_turn_step.specs.declared.stop.Pending.{Pending}
use Rattle.farm_nodes_turn_step.specs.Noted.{pending_of}
use Rattle.farm_nodes_turn_order.proofs.Records.{kept_own, kept_other}
use Rattle.farm_nodes_restart_records.specs.Numbers.{function_of, pass_of}
use Rattle.farm_nodes_restart_records.specs.Which.{Which}
use Rattle.farm_nodes_restart_records.specs.Which.TheVariants.{Constants, Expressions, Allocation, Order}
use Rattle.farm_nodes_restart_records.specs.Fours.{words_of, Four}
use Rattle.farm_nodes_restart_records.specs.Leaves.{left_in, pending_at, IsPendingIn, Leave, MayPend}
use Rattle.farm_nodes_restart_records.specs.Texts.{Texts, texts_by, IsOwnTextIn}
use Rattle.farm_nodes_restart_seat.specs.Told.{offer_by, last_offer_in, IsToldAs}
use Rattle.farm_nodes_turn_order.proofs.Told.{offer_other, offer_own}
use Rattle.farm_nodes_restart_records.specs.Found.{EndsWith, IsFound, LeaveWith}
use Rattle.farm_nodes_restart_records.specs.declared.finding.Found.{Found}
use Rattle.farm_nodes_restart_seat.specs.Places.{AllChanged}
use Rattle.farm_nodes_restart_node.specs.Returned.{HasStepped, HaveForgotten, HaveReturned, IsTaken, TookAt, TookIn}
use Rattle.farm_nodes_restart_seat.proofs.Records.{forgotten_kept, forgotten_own, took_record, took_told, IsRecordOf}
use Rattle.farm_nodes_restart_seat.proofs.Places.{get_set_other, get_set_same, lent_at, ok_changed_at, seen_at, some_same, there_is}
use Rattle.farm_nodes_restart_records.proofs.Rooms.{same_room}

-- ---- with the four of a function

module _ {X1 X2 X3 X4 : Type 0} (IsText1 : List ℕ → X1 → Type 0) (IsText2 : List ℕ → X2 → Type 0)
    (IsText3 : List ℕ → X3 → Type 0) (IsText4 : List ℕ → X4 → Type 0) (room : ℕ) where
  abbrev Taken : Which → Pending → Four X1 X2 X3 X4 → Four X1 X2 X3 X4 → Type 0
  Taken w p old new = TookIn IsText1 IsText2 IsText3 IsText4 room w p old new

  taken_record : (w : Which) (p : Pending) (old new : Four X1 X2 X3 X4) (last : Record) → Taken w p old new → pending_of room (words_of old w) p ≡ last ∷ [] → IsRecordOf room (words_of old w) (words_of new w) last
  taken_record Constants p old new last took e = took_record IsText1 room p old.constants new.constants last took.0 e
  taken_record Expressions p old new last took e = took_record IsText2 room p old.expressions new.expressions last took.0 e
  taken_record Allocation p old new last took e = took_record IsText3 room p old.allocation new.allocation last took.0 e
  taken_record Order p old new last took e = took_record IsText4 room p old.order new.order last took.0 e

  pub others_words : (w v : Which) (p : Pending) (old new : Four X1 X2 X3 X4) → Taken w p old new → v ≢ w → words_of new v ≡ words_of old v
  others_words Constants Constants p old new took other = absurd (other refl)
  others_words Constants Expressions p old new took other = ap (λ (s : Four X1 X2 X3 X4). s.expressions.words) took.1
  others_words Constants Allocation p old new took other = ap (λ (s : Four X1 X2 X3 X4). s.allocation.words) took.1
  others_words Constants Order p old new took other = ap (λ (s : Four X1 X2 X3 X4). s.order.words) took.1
  others_words Expressions Constants p old new took other = ap (λ (s : Four X1 X2 X3 X4). s.constants.words) took.1
  others_words Expressions Expressions p old new took other = absurd (other refl)
  others_words Expressions Allocation p old new took other = ap (λ (s : Four X1 X2 X3 X4). s.allocation.words) took.1
  others_words Expressions Order p old new took other = ap (λ (s : Four X1 X2 X3 X4). s.order.words) took.1
  others_words Allocation Constants p old new took other = ap (λ (s : Four X1 X2 X3 X4). s.constants.words) took.1
  others_words Allocation Expressions p old new took other = ap (λ (s : Four X1 X2 X3 X4). s.expressions.words) took.1
  others_words Allocation Allocation p old new took other = absurd (other refl)
  others_words Allocation Order p old new took other = ap (λ (s : Four X1 X2 X3 X4). s.order.words) took.1
  others_words Order Constants p old new took other = ap (λ (s : Four X1 X2 X3 X4). s.constants.words) took.1
  others_words Order Expressions p old new took other = ap (λ (s : Four X1 X2 X3 X4). s.expressions.words) took.1
  others_words Order Allocation p old new took other = ap (λ (s : Four X1 X2 X3 X4). s.allocation.words) took.1
  others_words Order Order p old new took other = absurd (other refl)

  -- the record tells the text of the offer that stands then, if one does
  taken_told : (w : Which) (p : Pending) (old new : Four X1 X2 X3 X4) (last : Record) (told : Option (List ℕ)) → Taken w p old new → pending_of room (words_of old w) p ≡ last ∷ []
      → ((words_of old w).node.kept.offered ≡ true → IsToldAs (IsOwnTextIn (texts_by IsText1 IsText2 IsText3 IsText4) w old) told) → (words_of new w).node.kept.offered ≡ true → IsToldAs (IsOwnTextIn (texts_by IsText1 IsText2 IsText3 IsText4) w new) (offer_by told last)
  taken_told Constants p old new last told took e had now = took_told IsText1 room p old.constants new.constants last told took.0 e had now
  taken_told Expressions p old new last told took e had now = took_told IsText2 room p old.expressions new.expressions last told took.0 e had now
  taken_told Allocation p old new last told took e had now = took_told IsText3 room p old.allocation new.allocation last told took.0 e had now
  taken_told Order p old new last told took e had now = took_told IsText4 room p old.order new.order last told took.0 e had now

  others_own : (w v : Which) (p : Pending) (old new : Four X1 X2 X3 X4) → Taken w p old new → v ≢ w → (text : List ℕ) → IsOwnTextIn (texts_by IsText1 IsText2 IsText3 IsText4) v old text → IsOwnTextIn (texts_by IsText1 IsText2 IsText3 IsText4) v new text
  others_own Constants Constants p old new took other text own = absurd (other refl)
  others_own Constants Expressions p old new took other text own = subst (λ (s : Four X1 X2 X3 X4). IsOwnTextIn (texts_by IsText1 IsText2 IsText3 IsText4) Expressions s text) (sym took.1) own
  others_own Constants Allocation p old new took other text own = subst (λ (s : Four X1 X2 X3 X4). IsOwnTextIn (texts_by IsText1 IsText2 IsText3 IsText4) Allocation s text) (sym took.1) own
  others_own Constants Order p old new took other text own = subst (λ (s : Four X1 X2 X3 X4). IsOwnTextIn (texts_by IsText1 IsText2 IsText3 IsText4) Order s text) (sym took.1) own
  others_own Expressions Constants p old new took other text own = subst (λ (s : Four X1 X2 X3 X4). IsOwnTextIn (texts_by IsText1 IsText2 IsText3 IsText4) Constants s text) (sym took.1) own
  others_own Expressions Expressions p old new took other text own = absurd (other refl)
  others_own Expressions Allocation p old new took other text own = subst (λ (s : Four X1 X2 X3 X4). IsOwnTextIn (texts_by IsText1 IsText2 IsText3 IsText4) Allocation s text) (sym took.1) own
  others_own Expressions Order p old new took other text own = subst (λ (s : Four X1 X2 X3 X4). IsOwnTextIn (texts_by IsText1 IsText2 IsText3 IsText4) Order s text) (sym took.1) own
  others_own Allocation Constants p old new took other text own = subst (λ (s : Four X1 X2 X3 X4). IsOwnTextIn (texts_by IsText1 IsText2 IsText3 IsText4) Constants s text) (sym took.1) own
  others_own Allocation Expressions p old new took other text own = subst (λ (s : Four X1 X2 X3 X4). IsOwnTextIn (texts_by IsText1 IsText2 IsText3 IsText4) Expressions s text) (sym took.1) own
  others_own Allocation Allocation p old new took other text own = absurd (other refl)
  others_own Allocation Order p old new took other text own = subst (λ (s : Four X1 X2 X3 X4). IsOwnTextIn (texts_by IsText1 IsText2 IsText3 IsText4) Order s text) (sym took.1) own
  others_own Order Constants p old new took other text own = subst (λ (s : Four X1 X2 X3 X4). IsOwnTextIn (texts_by IsText1 IsText2 IsText3 IsText4) Constants s text) (sym took.1) own
  others_own Order Expressions p old new took other text own = subst (λ (s : Four X1 X2 X3 X4). IsOwnTextIn (texts_by IsText1 IsText2 IsText3 IsText4) Expressions s text) (sym took.1) own
  others_own Order Allocation p old new took other text own = subst (λ (s : Four X1 X2 X3 X4). IsOwnTextIn (texts_by IsText1 IsText2 IsText3 IsText4) Allocation s text) (sym took.1) own
  others_own Order Order p old new took other text own = absurd (other refl)

  -- ---- with all

  module _ (p : Pending) (old new : List (Four X1 X2 X3 X4)) (took : TookAt IsText1 IsText2 IsText3 IsText4 room p old new) (front rs : List Record)
      (ends : EndsWith (pending_at old room (Some p)) front rs) (leave : Leave (texts_by IsText1 IsText2 IsText3 IsText4) old front) where
    own : IsRecordOf room (words_of took.before (pass_of room)) (words_of took.after (pass_of room)) ends.0
    own =
        taken_record (pass_of room) p took.before took.after ends.0 took.change
        (ap (λ (o : Option (Four X1 X2 X3 X4)). left_in o room (Some p)) (sym took.there) ∙ ends.1)

    now_at : (f : ℕ) → slice_get new f ≡ slice_get (set old (function_of room) took.after) f
    now_at f = ap (λ (l : List (Four X1 X2 X3 X4)). slice_get l f) took.new_is

    is_after : (f : ℕ) (s : Four X1 X2 X3 X4) → f ≡ function_of room → slice_get new f ≡ Some s → took.after ≡ s
    is_after f s same at =
        some_same (slice_get new f) took.after s
        (now_at f ∙ (ap (λ (j : ℕ). slice_get (set old (function_of room) took.after) j) same ∙ get_set_same old (function_of room) took.before took.after took.there)) at

    elsewhere : (m : ℕ) → m ≢ room → kept_in rs m ≡ kept_in front m
    elsewhere m other =
        ap (λ (l : List Record). kept_in l m) ends.2
        ∙ kept_other front ends.0 m (λ e. other (sym e ∙ own.0))

    room_here : (m : ℕ) (s : Four X1 X2 X3 X4) → m ≡ room → slice_get new (function_of m) ≡ Some s → kept_in rs m ≡ (words_of s (pass_of m)).node.kept
    room_here m s same at =
        let after : took.after ≡ s = is_after (function_of m) s (ap function_of same) at in
        ap (λ (l : List Record). kept_in l m) ends.2
        ∙ (kept_own front ends.0 m (own.0 ∙ sym same)
        ∙ (ap (λ (k : KeptPart). kept_by_record k ends.0) (ap (λ (j : ℕ). kept_in front j) same ∙ leave.rooms room took.before took.there)
        ∙ (own.1
        ∙ (ap (λ (t : Four X1 X2 X3 X4). (words_of t (pass_of room)).node.kept) after
        ∙ ap (λ (j : ℕ). (words_of s (pass_of j)).node.kept) (sym same)))))

    beside : (m : ℕ) (s : Four X1 X2 X3 X4) → m ≢ room → function_of m ≡ function_of room → slice_get new (function_of m) ≡ Some s → kept_in rs m ≡ (words_of s (pass_of m)).node.kept
    beside m s other same at =
        let after : took.after ≡ s = is_after (function_of m) s same at in
        let there : slice_get old (function_of m) ≡ Some took.before = ap (λ (j : ℕ). slice_get old j) same ∙ took.there in
        let words : words_of took.after (pass_of m) ≡ words_of took.before (pass_of m) =
        others_words (pass_of room) (pass_of m) p took.before took.after took.change (λ e. other (same_room m room same e)) in
        elsewhere m other
        ∙ (leave.rooms m took.before there
        ∙ (ap (λ (u : SeatState). u.node.kept) (sym words)
        ∙ ap (λ (t : Four X1 X2 X3 X4). (words_of t (pass_of m)).node.kept) after))

    away : (m : ℕ) (s : Four X1 X2 X3 X4) → m ≢ room → function_of m ≢ function_of room → slice_get new (function_of m) ≡ Some s → kept_in rs m ≡ (words_of s (pass_of m)).node.kept
    away m s other apart at =
        elsewhere m other
        ∙ leave.rooms m s (sym (get_set_other old (function_of room) (function_of m) took.after apart) ∙ (sym (now_at (function_of m)) ∙ at))

    -- the texts of the offers
    abbrev Tells : Four X1 X2 X3 X4 → ℕ → Type 0
    Tells s m = (words_of s (pass_of m)).node.kept.offered ≡ true → IsToldAs (IsOwnTextIn (texts_by IsText1 IsText2 IsText3 IsText4) (pass_of m) s) (last_offer_in rs m)

    told_elsewhere : (m : ℕ) → m ≢ room → last_offer_in rs m ≡ last_offer_in front m
    told_elsewhere m other =
        ap (λ (l : List Record). last_offer_in l m) ends.2
        ∙ offer_other front ends.0 m (λ e. other (sym e ∙ own.0))

    tells_here : Tells took.after room
    tells_here now =
        let told = taken_told (pass_of room) p took.before took.after ends.0 (last_offer_in front room) took.change
        (ap (λ (o : Option (Four X1 X2 X3 X4)). left_in o room (Some p)) (sym took.there) ∙ ends.1)
        (leave.offers room took.before took.there) now in (
          told.0,
          ap (λ (l : List Record). last_offer_in l room) ends.2 ∙ (offer_own front ends.0 room own.0 ∙ told.1),
          told.2,
        )

    tells_room : (m : ℕ) (s : Four X1 X2 X3 X4) → m ≡ room → slice_get new (function_of m) ≡ Some s → Tells s m
    tells_room m s same at =
        let after : took.after ≡ s = is_after (function_of m) s (ap function_of same) at in
        subst (λ (j : ℕ). Tells s j) (sym same) (subst (λ (t : Four X1 X2 X3 X4). Tells t room) after tells_here)

    tells_beside : (m : ℕ) (s : Four X1 X2 X3 X4) → m ≢ room → function_of m ≡ function_of room → slice_get new (function_of m) ≡ Some s → Tells s m
    tells_beside m s other same at =
        let after : took.after ≡ s = is_after (function_of m) s same at in
        let there : slice_get old (function_of m) ≡ Some took.before = ap (λ (j : ℕ). slice_get old j) same ∙ took.there in
        let apart : pass_of m ≢ pass_of room = (λ e. other (same_room m room same e)) in
        subst (λ (t : Four X1 X2 X3 X4). Tells t m) after
        (λ now.
        let words : words_of took.after (pass_of m) ≡ words_of took.before (pass_of m) = others_words (pass_of room) (pass_of m) p took.before took.after took.change apart in
        let told = leave.offers m took.before there (ap (λ (u : SeatState). u.node.kept.offered) (sym words) ∙ now) in
        (told.0, told_elsewhere m other ∙ told.1, others_own (pass_of room) (pass_of m) p took.before took.after took.change apart told.0 told.2))

    tells_away : (m : ℕ) (s : Four X1 X2 X3 X4) → m ≢ room → function_of m ≢ function_of room → slice_get new (function_of m) ≡ Some s → Tells s m
    tells_away m s other apart at now =
        let told = leave.offers m s (sym (get_set_other old (function_of room) (function_of m) took.after apart) ∙ (sym (now_at (function_of m)) ∙ at)) now in
        (told.0, told_elsewhere m other ∙ told.1, told.2)

    leave_taken : Leave (texts_by IsText1 IsText2 IsText3 IsText4) new rs
    leave_taken = record {
      rooms = λ m s at.
          elim (cases_eq m room) [
            | inl same ↦ room_here m s same at
            | inr other ↦ elim (cases_eq (function_of m) (function_of room)) [
              | inl same ↦ beside m s other same at
              | inr apart ↦ away m s other apart at
            ]
          ];
      no_others = λ m above.
          let size : length new ≡ length old = ap length took.new_is ∙ length-set old (function_of room) took.after in
          let within : function_of room < length old = slice_get_within old (function_of room) took.before took.there in
          let apart : m ≢ room = (λ e. let same : function_of m ≡ function_of room = ap function_of e in absurd (omega (arith, above, size, within, same))) in
          elsewhere m apart ∙ leave.no_others m (omega (arith, above, size));
      offers = λ m s at.
          elim (cases_eq m room) [
            | inl same ↦ tells_room m s same at
            | inr other ↦ elim (cases_eq (function_of m) (function_of room)) [
              | inl same ↦ tells_beside m s other same at
              | inr apart ↦ tells_away m s other apart at
            ]
          ];
    }

  leave_done : (p : Option Pending) (old new : List (Four X1 X2 X3 X4)) (rs : List Record) → LeaveWith (texts_by IsText1 IsText2 IsText3 IsText4) old room p rs → IsTaken IsText1 IsText2 IsText3 IsText4 room p old new → Leave (texts_by IsText1 IsText2 IsText3 IsText4) new rs
  leave_done None old new rs all taken = absurd taken
  leave_done (Some p) old new rs all taken = leave_taken p old new taken all.front rs all.ends all.leave

  leave_stepped : (p : Option Pending) (old new : List (Four X1 X2 X3 X4)) (rs : List Record) → HasStepped IsText1 IsText2 IsText3 IsText4 room p rs old new → Leave (texts_by IsText1 IsText2 IsText3 IsText4) new rs
  leave_stepped p old new rs (inl done) = leave_done p old new rs done.0 done.1
  leave_stepped p old new rs (inr none) = subst (λ (l : List (Four X1 X2 X3 X4)). Leave (texts_by IsText1 IsText2 IsText3 IsText4) l rs) (sym none.2) none.1

-- ---- once they have forgotten

four_kept : {X1 X2 X3 X4 : Type 0} (old new : Four X1 X2 X3 X4) (w : Which) → HaveForgotten old new → (words_of new w).node.kept ≡ (words_of old w).node.kept
four_kept old new Constants forgot = forgotten_kept old.constants new.constants forgot.constants
four_kept old new Expressions forgot = forgotten_kept old.expressions new.expressions forgot.expressions
four_kept old new Allocation forgot = forgotten_kept old.allocation new.allocation forgot.allocation
four_kept old new Order forgot = forgotten_kept old.order new.order forgot.order

four_own : {X1 X2 X3 X4 : Type 0} (texts : Texts X1 X2 X3 X4) (old new : Four X1 X2 X3 X4) (w : Which) → HaveForgotten old new → (text : List ℕ) → IsOwnTextIn texts w old text → IsOwnTextIn texts w new text
four_own texts old new Constants forgot text own = forgotten_own texts.constants old.constants new.constants forgot.constants text own
four_own texts old new Expressions forgot text own = forgotten_own texts.expressions old.expressions new.expressions forgot.expressions text own
four_own texts old new Allocation forgot text own = forgotten_own texts.allocation old.allocation new.allocation forgot.allocation text own
four_own texts old new Order forgot text own = forgotten_own texts.order old.order new.order forgot.order text own

leave_forgot : {X1 X2 X3 X4 : Type 0} (texts : Texts X1 X2 X3 X4) (old new : List (Four X1 X2 X3 X4)) (rs : List Record) → AllChanged HaveForgotten old new → Leave texts old rs → Leave texts new rs
leave_forgot texts old new rs forgot leave = record {
  rooms = λ m t at.
      let within : function_of m < length new = slice_get_within new (function_of m) t at in
      let before = there_is old (function_of m) (omega (arith, within, forgot.count)) in
      leave.rooms m before.0 before.1
      ∙ sym (four_kept before.0 t (pass_of m) (forgot.each (function_of m) before.0 t before.1 at));
  no_others = λ m above. leave.no_others m (omega (arith, above, forgot.count));
  offers = λ m t at now.
      let within : function_of m < length new = slice_get_within new (function_of m) t at in
      let before = there_is old (function_of m) (omega (arith, within, forgot.count)) in
      let changed = forgot.each (function_of m) before.0 t before.1 at in
      let told = leave.offers m before.0 before.1 (ap (λ (k : KeptPart). k.offered) (sym (four_kept before.0 t (pass_of m) changed)) ∙ now) in
      (told.0, told.1, four_own texts before.0 t (pass_of m) changed told.0 told.2);
}

module _ {X1 X2 X3 X4 : Type 0} (IsText1 : List ℕ → X1 → Type 0) (IsText2 : List ℕ → X2 → Type 0)
    (IsText3 : List ℕ → X3 → Type 0) (IsText4 : List ℕ → X4 → Type 0) (room : ℕ) where
  pub returned : (p : Option Pending) (rs : List Record) (old mid new : List (Four X1 X2 X3 X4)) → HasStepped IsText1 IsText2 IsText3 IsText4 room p rs old mid → AllChanged HaveForgotten mid new
      → HaveReturned IsText1 IsText2 IsText3 IsText4 room p rs old new
  returned p rs old mid new stepped forgot = record {
    between = mid;
    stepped = stepped;
    forgot = forgot;
    leave = leave_forgot (texts_by IsText1 IsText2 IsText3 IsText4) mid new rs forgot (leave_stepped IsText1 IsText2 IsText3 IsText4 room p old mid rs stepped);
  }

-- ---- what calls answer

pub ok_with : {A E P Q : Type 0} (told : Result A E) → (P → Q) → OnOk told P → OnOk told Q
ok_with (Ok a) f p = f p
ok_with (Err e) f p = tt

pub err_with : {A E P Q : Type 0} (told : Result A E) → (P → Q) → OnErr told P → OnErr told Q
err_with (Ok a) f p = tt
err_with (Err e) f p = f p

module _ {X1 X2 X3 X4 : Type 0} (IsText1 : List ℕ → X1 → Type 0) (IsText2 : List ℕ → X2 → Type 0)
    (IsText3 : List ℕ → X3 → Type 0) (IsText4 : List ℕ → X4 → Type 0) where
  -- with the seats of the room's function, as they are lent
  module _ {S : Type 0} (view : S → Four X1 X2 X3 X4) (seats : List S) (room : ℕ) (p : Pending) (may : MayPend IsText1 IsText2 IsText3 IsText4 room (map view seats) (Some p)) where
    pub pending_within : function_of room < length seats
    pending_within = omega (arith, slice_get_within (map view seats) (function_of room) may.0 may.1, length-map seats view)

    module _ (i : ℕ) (s : S) (function : i ≡ function_of room) (is : s ≡ get_or seats i s) where
      pub pending_there : slice_get seats i ≡ Some s
      pending_there = lent_at view seats i (function_of room) may.0 s function may.1 is

      pub pending_lent : (w : Which) → w ≡ pass_of room → IsPendingIn IsText1 IsText2 IsText3 IsText4 room w (view s) p
      pending_lent w pass =
          let here : slice_get (map view seats) (function_of room) ≡ Some (view s) =
          ap (λ (j : ℕ). slice_get (map view seats) j) (sym function) ∙ seen_at view seats i s pending_there in
          subst (λ (v : Which). IsPendingIn IsText1 IsText2 IsText3 IsText4 room v (view s) p) (sym pass)
          (subst (λ (t : Four X1 X2 X3 X4). IsPendingIn IsText1 IsText2 IsText3 IsText4 room (pass_of room) t p)
          (some_same (slice_get (map view seats) (function_of room)) may.0 (view s) may.1 here) may.2)

      pub took_lent : {A E : Type 0} (w : Which) (t : S) (told : Result A E) → w ≡ pass_of room
          → OnOk told (TookIn IsText1 IsText2 IsText3 IsText4 room w p (view s) (view t))
          → OnOk told (TookAt IsText1 IsText2 IsText3 IsText4 room p (map view seats) (map view (set seats i t)))
      took_lent w t told pass took =
          ok_changed_at view (TookIn IsText1 IsText2 IsText3 IsText4 room (pass_of room) p) i (function_of room) seats s t told function pending_there
          (subst (λ (v : Which). OnOk told (TookIn IsText1 IsText2 IsText3 IsText4 room v p (view s) (view t))) pass took)

  pub may_at : (room : ℕ) (seats : List (Four X1 X2 X3 X4)) (p q : Option Pending) → p ≡ q → MayPend IsText1 IsText2 IsText3 IsText4 room seats p
      → MayPend IsText1 IsText2 IsText3 IsText4 room seats q
  may_at room seats p q same may = subst (λ (r : Option Pending). MayPend IsText1 IsText2 IsText3 IsText4 room seats r) same may

  pub is_taken : {A E : Type 0} (told : Result A E) (room : ℕ) (q : Option Pending) (p : Pending) (old new : List (Four X1 X2 X3 X4)) → q ≡ Some p
      → OnOk told (TookAt IsText1 IsText2 IsText3 IsText4 room p old new) → OnOk told (IsTaken IsText1 IsText2 IsText3 IsText4 room q old new)
  is_taken told room q p old new is took = subst (λ (r : Option Pending). OnOk told (IsTaken IsText1 IsText2 IsText3 IsText4 room r old new)) (sym is) took

  -- the record of what is pending stands last, and it is done
  pub stepped_taken : {A E : Type 0} (told : Result A E) (room : ℕ) (p : Option Pending) (rs : List Record) (old new : List (Four X1 X2 X3 X4)) → LeaveWith (texts_by IsText1 IsText2 IsText3 IsText4) old room p rs
      → OnOk told (IsTaken IsText1 IsText2 IsText3 IsText4 room p old new) → OnOk told (HasStepped IsText1 IsText2 IsText3 IsText4 room p rs old new)
  stepped_taken (Ok a) room p rs old new all taken = inl (all, taken)
  stepped_taken (Err e) room p rs old new all taken = tt

  pub returned_over : (room : ℕ) (p : Option Pending) (rs qs : List Record) (old new : List (Four X1 X2 X3 X4)) → rs ≡ qs
      → HaveReturned IsText1 IsText2 IsText3 IsText4 room p rs old new → HaveReturned IsText1 IsText2 IsText3 IsText4 room p qs old new
  returned_over room p rs qs old new same back = subst (λ (l : List Record). HaveReturned IsText1 IsText2 IsText3 IsText4 room p l old new) same back

-- what the records were found to be
module _ {X1 X2 X3 X4 : Type 0} (texts : Texts X1 X2 X3 X4) (seats : List (Four X1 X2 X3 X4)) (room : ℕ) (p : Option Pending) (rs : List Record) (f : Found) where
  pub found_at : (g : Found) → f ≡ g → IsFound texts seats room p rs f → IsFound texts seats room p rs g
  found_at g is found = subst (λ (x : Found). IsFound texts seats room p rs x) is found
