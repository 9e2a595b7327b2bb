-- Each two neighbours meet, one pair more at a time, from the first node to the last and back.
use Rattle.std.proofs.Common.{◌≡◌, ◌<◌, ◌≤◌, ◌+◌, ℕ, zero, suc, List, [], ◌∷◌, ◌++◌, length, Some, refl, sym, ap, subst, ◌∙◌, append_assoc, arith}
use Rattle.std.specs.List.{AllZip}
use Rattle.std.specs.Prelude.{slice_get}
use Rattle.std.proofs.lemmas.Option.{slice_get_within}
use Rattle.paxos_core_world.specs.Quorum.{Sizes}
use Rattle.rooms_hall.specs.declared.hall.Naming as naming
use Rattle.rooms_crash_heard.specs.Heard.{back, forth}
use Rattle.farm_nodes_turn_node.specs.Fours.{four_of, fours_of, words_of}
use Rattle.farm_nodes_turn_node.specs.NumberedSeat.{NumberedSeat}
use Rattle.farm_nodes_turn_node.proofs.Places.{found, map_length, mapped}
use Rattle.farm_nodes_meetings.specs.Meetings.{FunctionSeats, NodeSeats, NodesMeetings}
use Rattle.cfarm_build_result.specs.Alike.{HaveCounted}
use Rattle.cfarm_build_result.specs.Going.{SeatsGoOn}
use Rattle.cfarm_build_result.specs.Neighbours.{EachTwo}
use Rattle.cfarm_build_result.proofs.Zips.{as_long, zipped}
use Rattle.cfarm_build_meeting.specs.Counted.{AreCountedAt}
use Rattle.cfarm_build_meeting.specs.Twice.{AreOfFunctions, AreOneAt, HadLearned, HaveMetTwice, MeetAt, MetTwice, by_number, seats_in}
use Rattle.cfarm_build_meeting.proofs.Learned.{counted_learned, goes_learned, same_learned}
use Rattle.cfarm_build_meeting.proofs.Meets.{seats_of}
use Rattle.cfarm_build_meeting.proofs.Ones.{counted_one, seats_before, seats_still}

module _ {N H : Type 0} {h : naming.Ghosts H} (seats : N → List (NumberedSeat H h)) where
  -- each two neighbours are of one room, of each function and pass
  abbrev pub AreAllOne : List N → Type 0
  AreAllOne nodes = (k : ℕ) → AreOneAt seats nodes k

  -- where they are, the nodes came from the ones to the others by these meetings
  abbrev pub CameBy : List (ℕ × ℕ) → List N → List N → Type 0
  CameBy pairs old new =
      (q : Sizes) (functions : ℕ) → q.nodes ≡ length old → AreOfFunctions functions (seats_in seats old) → AreAllOne old
      → NodesMeetings q functions pairs (by_number (seats_in seats old)) (by_number (seats_in seats new))

  module _ (Are : N → N → Type 0) where
    -- the first so many nodes have met, one less than this
    pub record AreForth (old now : List N) (next : ℕ) : Type 0 where
      pub done : ℕ
      pub next_is : next ≡ suc done
      pub within : 0 < length old → next ≤ length old
      pub came : CameBy (forth done) old now
      pub stay : AllZip Are old now

    -- Behind the way forth, the last pairs have met on the way back, one less than this. At the last node all functions were counted as it began.
    pub record AreBackSo (old now : List N) (done : ℕ) : Type 0 where
      pub last : ℕ
      pub long : length old ≡ suc last
      pub between : List N
      pub came : CameBy (forth last) old between
      pub there : AllZip Are old between
      pub counted : (k : ℕ) → last ≡ suc k → AreCountedAt seats between k
      pub pairs : List (ℕ × ℕ)
      pub left : ℕ
      pub left_is : left + done ≡ suc last
      pub pairs_are : back left ++ pairs ≡ back last
      pub back_so : CameBy pairs between now
      pub stay : AllZip Are between now

    -- where there is a node
    abbrev pub AreBackIf : List N → List N → ℕ → Type 0
    AreBackIf old now done = 0 < length old → AreBackSo old now done

  pub came_nowhere : (nodes : List N) → CameBy [] nodes nodes
  came_nowhere nodes q functions count all one k = refl

  module _ (Are : N → N → Type 0) (on : (n m : N) → Are n m → SeatsGoOn (seats n) (seats m)) where
    functions_still : (functions : ℕ) (old new : List N) → AllZip Are old new → AreOfFunctions functions (seats_in seats old)
        → AreOfFunctions functions (seats_in seats new)
    functions_still functions [] [] z all = tt
    functions_still functions [] (m ∷ new) z all = absurd z
    functions_still functions (n ∷ old) [] z all = absurd z
    functions_still functions (n ∷ old) (m ∷ new) z all = (
      map_length (λ (s : NumberedSeat H h). four_of s) (seats m)
          ∙ ((on n m z.0).count ∙ (sym (map_length (λ (s : NumberedSeat H h). four_of s) (seats n)) ∙ all.0)),
      functions_still functions old new z.1 all.1,
    )

    ones_still : (old new : List N) → AllZip Are old new → AreAllOne old → AreAllOne new
    ones_still old new z one k n' m' en em =
        let n = zipped Are old new k n' z en in
        let m = zipped Are old new (suc k) m' z em in
        seats_still (seats n.0) (seats m.0) (seats n') (seats m') (on n.0 n' n.2) (on m.0 m' m.2) (one k n.0 m.0 n.1 m.1)

    ones_before : (old new : List N) → AllZip Are old new → AreAllOne new → AreAllOne old
    ones_before old new z one k n m en em =
        let low = slice_get_within old (suc k) m em in
        let long = as_long Are old new z in
        let n' = found new k (omega (arith, low, long)) in
        let m' = found new (suc k) (omega (arith, low, long)) in
        let was = zipped Are old new k n'.0 z n'.1 in
        let next = zipped Are old new (suc k) m'.0 z m'.1 in
        let first = subst (λ x. SeatsGoOn (seats x) (seats n'.0)) (one_item old k was.0 n was.1 en) (on was.0 n'.0 was.2) in
        let second = subst (λ x. SeatsGoOn (seats x) (seats m'.0)) (one_item old (suc k) next.0 m next.1 em) (on next.0 m'.0 next.2) in
        seats_before (seats n) (seats m) (seats n'.0) (seats m'.0) first second (one k n'.0 m'.0 n'.1 m'.1)
      where
        one_item : (xs : List N) (i : ℕ) (x y : N) → slice_get xs i ≡ Some x → slice_get xs i ≡ Some y → x ≡ y
        one_item xs i x y e f = let same : Some x ≡ Some y = sym e ∙ f in cc

    -- one meeting more
    came_on : (pairs : List (ℕ × ℕ)) (number : ℕ) (first old new : List N) → AllZip Are first old → CameBy pairs first old → MeetAt seats old new number
        → CameBy ((number, suc number) ∷ pairs) first new
    came_on pairs number first old new z so_far at q functions count all one = (
      by_number (seats_in seats old),
      so_far q functions count all one,
      at q functions (count ∙ sym (as_long Are first old z)) (functions_still functions first old z all) (ones_still first old z one number),
    )

    -- ---- forth

    pub forth_begins : (nodes : List N) → AllZip Are nodes nodes → AreForth Are nodes nodes 1
    forth_begins nodes same = record { done = 0; next_is = refl; within = λ some. some; came = came_nowhere nodes; stay = same }

    pub forth_on : (old now new : List N) (next number : ℕ) → AreForth Are old now next → next ≡ suc number → next < length old → MeetAt seats now new number
        → AllZip Are old new → AreForth Are old new (next + 1)
    forth_on old now new next number so_far is low at stay =
        let done_is : number ≡ so_far.done = omega (arith, is, so_far.next_is) in
        record {
          done = suc so_far.done;
          next_is = omega (arith, so_far.next_is);
          within = λ some. omega (arith, low);
          came = came_on (forth so_far.done) so_far.done old now new so_far.stay so_far.came (subst (λ k. MeetAt seats now new k) done_is at);
          stay = stay;
        }

    -- ---- and back

    pub back_begins : (old now : List N) (next : ℕ) → AreForth Are old now next → length now ≤ next → ((k : ℕ) → next ≡ suc (suc k) → AreCountedAt seats now k)
        → AllZip Are now now → AreBackIf Are old now 1
    back_begins old now next so end counted same some =
        let long = as_long Are old now so.stay in
        let whole = so.within some in
        record {
          last = so.done;
          long = omega (arith, long, end, whole, so.next_is);
          between = now;
          came = so.came;
          there = so.stay;
          counted = λ k is. counted k (omega (arith, is, so.next_is));
          pairs = [];
          left = so.done;
          left_is = omega arith;
          pairs_are = append_none (back so.done);
          back_so = came_nowhere now;
          stay = same;
        }
      where
        append_none : (ps : List (ℕ × ℕ)) → ps ++ [] ≡ ps
        append_none [] = refl
        append_none (p ∷ ps) = ap (λ (l : List (ℕ × ℕ)). p ∷ l) (append_none ps)

    -- one pair less is left
    one_less : (left number : ℕ) (pairs all : List (ℕ × ℕ)) → left ≡ suc number → back left ++ pairs ≡ all → back number ++ ((number, suc number) ∷ pairs) ≡ all
    one_less left number pairs all is are =
        sym (append_assoc (back number) ((number, suc number) ∷ []) pairs) ∙ (ap (λ k. back k ++ pairs) (sym is) ∙ are)

    pub back_on : (old now new : List N) (done number : ℕ) → AreBackIf Are old now done → number + 1 + done ≡ length old → MeetAt seats now new number
        → AllZip Are now new → ((x y z : N) → Are x y → Are y z → Are x z) → AreBackIf Are old new (done + 1)
    back_on old now new done number so_far at_is at stay through some =
        let so = so_far some in
        let less : so.left ≡ suc number = omega (arith, so.left_is, so.long, at_is) in
        record {
          last = so.last;
          long = so.long;
          between = so.between;
          came = so.came;
          there = so.there;
          counted = so.counted;
          pairs = (number, suc number) ∷ so.pairs;
          left = number;
          left_is = omega (arith, so.left_is, less);
          pairs_are = one_less so.left number so.pairs (back so.last) less so.pairs_are;
          back_so = came_on so.pairs number so.between now new so.stay so.back_so at;
          stay = zips so.between now new so.stay stay;
        }
      where
        zips : (xs ys zs : List N) → AllZip Are xs ys → AllZip Are ys zs → AllZip Are xs zs
        zips [] [] zs z w = w
        zips [] (y ∷ ys) zs z w = absurd z
        zips (x ∷ xs) [] zs z w = absurd z
        zips (x ∷ xs) (y ∷ ys) [] z w = absurd w
        zips (x ∷ xs) (y ∷ ys) (u ∷ us) z w = (through x y u z.0 w.0, zips xs ys us z.1 w.1)

    -- ---- the last node

    module _ (old new : List N) (done : ℕ) (end : length old ≤ done) (so : AreBackSo Are old new done) where
      nothing_left : so.left ≡ 0
      nothing_left = omega (arith, end, so.left_is, so.long)

      all_back : so.pairs ≡ back so.last
      all_back = ap (λ k. back k ++ so.pairs) (sym nothing_left) ∙ so.pairs_are

      last_node : (n : N) × (slice_get new so.last ≡ Some n)
      last_node =
          let one = as_long Are old so.between so.there in
          let two = as_long Are so.between new so.stay in
          found new so.last (omega (arith, one, two, so.long))

      knew_counted : (k : ℕ) → so.last ≡ suc k → HadLearned (by_number (seats_in seats so.between) so.last) (by_number (seats_in seats new) so.last)
      knew_counted k is f pass s t v es et learned =
          let n' = last_node in
          let n = zipped Are so.between new so.last n'.0 so.stay n'.1 in
          let low = slice_get_within so.between so.last n.0 n.1 in
          let m = found so.between k (omega (arith, low, is)) in
          let has = so.counted k is m.0 n.0 m.1 (ap (λ j. slice_get so.between j) (sym is) ∙ n.1) in
          let a = mapped (λ (x : NumberedSeat H h). four_of x) (seats n.0) f s (ap (λ (x : NodeSeats). slice_get x f) (sym (seats_of seats so.between so.last n.0 n.1)) ∙ es) in
          let b = mapped (λ (x : NumberedSeat H h). four_of x) (seats n'.0) f t (ap (λ (x : NodeSeats). slice_get x f) (sym (seats_of seats new so.last n'.0 n'.1)) ∙ et) in
          let had = counted_learned (seats m.0) (seats n.0) has f a.0 a.1 pass in
          let still = goes_learned a.0 b.0 ((on n.0 n'.0 n.2).each f a.0 b.0 a.1 b.1) pass had.0 had.1 in
          let same : had.0 ≡ v = same_learned (words_of (four_of b.0) pass) had.0 v still (ap (λ (x : FunctionSeats). (words_of x pass).node.learned) b.2 ∙ learned) in
          ap (λ (x : FunctionSeats). (words_of x pass).node.learned) (sym a.2) ∙ (had.1 ∙ ap (λ w. Some w) same)

      -- a node alone met nobody
      knew_alone : (q : Sizes) (functions : ℕ) → NodesMeetings q functions (back so.last) (by_number (seats_in seats so.between)) (by_number (seats_in seats new)) → so.last ≡ 0
          → HadLearned (by_number (seats_in seats so.between) so.last) (by_number (seats_in seats new) so.last)
      knew_alone q functions met is f pass s t v es et learned =
          let none : NodesMeetings q functions (back 0) (by_number (seats_in seats so.between)) (by_number (seats_in seats new)) =
          subst (λ k. NodesMeetings q functions (back k) (by_number (seats_in seats so.between)) (by_number (seats_in seats new))) is met in
          let here : by_number (seats_in seats new) so.last ≡ by_number (seats_in seats so.between) so.last = none so.last in
          let same : Some t ≡ Some s = sym et ∙ (ap (λ (x : NodeSeats). slice_get x f) here ∙ es) in
          let one : t ≡ s = cc in
          ap (λ (x : FunctionSeats). (words_of x pass).node.learned) (sym one) ∙ learned

      knew : (q : Sizes) (functions : ℕ) (last : ℕ) → so.last ≡ last → NodesMeetings q functions (back so.last) (by_number (seats_in seats so.between)) (by_number (seats_in seats new))
          → HadLearned (by_number (seats_in seats so.between) so.last) (by_number (seats_in seats new) so.last)
      knew q functions zero is met = knew_alone q functions met is
      knew q functions (suc k) is met = knew_counted k is

      -- each two were counted at the end, so their rooms were one as they began
      met_so : EachTwo (λ n m. HaveCounted (seats n) (seats m)) new → (q : Sizes) (functions : ℕ) → q.nodes ≡ length old
          → AreOfFunctions functions (seats_in seats old) → MetTwice q functions (by_number (seats_in seats old)) (by_number (seats_in seats new))
      met_so counted q functions nodes all =
          let ones_now : AreAllOne new = λ k n m en em. counted_one (seats n) (seats m) (counted k n m en em) in
          let ones_then = ones_before so.between new so.stay ones_now in
          let ones = ones_before old so.between so.there ones_then in
          let again = so.back_so q functions (nodes ∙ sym (as_long Are old so.between so.there)) (functions_still functions old so.between so.there all) ones_then in
          let met_again : NodesMeetings q functions (back so.last) (by_number (seats_in seats so.between)) (by_number (seats_in seats new)) =
          subst (λ ps. NodesMeetings q functions ps (by_number (seats_in seats so.between)) (by_number (seats_in seats new))) all_back again in
          record {
            met = record {
              last = so.last;
              nodes = nodes ∙ so.long;
              between = by_number (seats_in seats so.between);
              met = so.came q functions nodes all ones;
              met_again = met_again;
            };
            knew = knew q functions so.last refl met_again;
          }

    pub met_twice : (old new : List N) (done : ℕ) → length old ≤ done → AreBackIf Are old new done → EachTwo (λ n m. HaveCounted (seats n) (seats m)) new
        → HaveMetTwice (seats_in seats old) (seats_in seats new)
    met_twice old new done end so counted q functions count some all =
        let long : length (seats_in seats old) ≡ length old = map_length (λ (x : N). fours_of (seats x)) old in
        met_so old new done end (so (omega (arith, some, long))) counted q functions (count ∙ long) all
