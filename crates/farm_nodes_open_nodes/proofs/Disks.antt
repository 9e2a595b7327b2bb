-- All disks come back.
use Rattle.std.proofs.Common.{◌≡◌, ◌⊎◌, inl, inr, ℕ, zero, suc, ◌+◌, List, [], ◌∷◌, ◌++◌, length, map, drop, Option, Some, None, refl, sym, ap, subst, ◌∙◌, arith}
use Rattle.std.specs.Prelude.{slice_get, option_to_list}
use Rattle.std.specs.Global.{Vec}
use Rattle.std.proofs.lemmas.List.{length-append, length-drop, length-map}
use Rattle.std.proofs.lemmas.Option.{slice_get_within}
use Rattle.durable_model.specs.declared.disk.Disk as disks
use Rattle.durable_pair.specs.declared.pair.Pair as pairs
use Rattle.paxos_core_world.specs.Quorum.{Sizes}
use Rattle.acceptor_log_form.specs.declared.errors.LogError.{LogError}
use Rattle.acceptor_log_form.specs.declared.errors.LogError.TheVariants.{NoMemory}
use Rattle.acceptor_log_form.specs.declared.record.Record.{Record}
use Rattle.acceptor_log.specs.declared.log.Log.{Log}
use Rattle.farm_nodes_open_journals.specs.Journals.{header_of, AreOpened, IsRefused, IsRefusedAt}
use Rattle.farm_nodes_open_seats.specs.Nodes.{AreMade}
use Rattle.farm_nodes_open_nodes.specs.Back.{IsBack}
use Rattle.farm_nodes_open_seats.proofs.Lists.{map_at}

-- what stands in two lists
at_append : {X : Type 0} (xs ys : List X) (i : ℕ) (z : X) → slice_get (xs ++ ys) i ≡ Some z → (slice_get xs i ≡ Some z) ⊎ ((k : ℕ) × (i ≡ length xs + k) × (slice_get ys k ≡ Some z))
at_append [] ys i z got = inr (i, omega arith, got)
at_append (x ∷ xs) ys zero z got = inl got
at_append {X} (x ∷ xs) ys (suc i) z got = on (at_append xs ys i z got)
  where
    on : (slice_get xs i ≡ Some z) ⊎ ((k : ℕ) × (i ≡ length xs + k) × (slice_get ys k ≡ Some z)) → (slice_get (x ∷ xs) (suc i) ≡ Some z) ⊎ ((k : ℕ) × (suc i ≡ length (x ∷ xs) + k) × (slice_get ys k ≡ Some z))
    on (inl front) = inl front
    on (inr w) = inr (w.0, omega (arith, w.1), w.2)

-- and behind some of a list
at_drop : {X : Type 0} (n : ℕ) (xs : List X) (k : ℕ) → slice_get (drop n xs) k ≡ slice_get xs (n + k)
at_drop zero xs k = let same : k ≡ 0 + k = omega arith in ap (λ m. slice_get xs m) same
at_drop (suc n) [] zero = refl
at_drop (suc n) [] (suc k) = refl
at_drop (suc n) (x ∷ xs) k =
    let same : suc (n + k) ≡ suc n + k = omega arith in
    at_drop n xs k ∙ ap (λ m. slice_get (x ∷ xs) m) same

at_one : {X : Type 0} (x z : X) (k : ℕ) → slice_get (x ∷ []) k ≡ Some z → (k ≡ 0) × (x ≡ z)
at_one x z zero got = (refl, let same : Some x ≡ Some z = got in cc)
at_one x z (suc zero) got = absurd (cc)
at_one x z (suc (suc k)) got = absurd (cc)

module _ {D : Type 0} (disk : disks.Ghosts D) (pair : pairs.Ghosts D) (q : Sizes) (digest : List ℕ) (given : List D) where
  abbrev Back : ℕ → D → D → Type 0
  Back i d b = IsBack disk pair q digest i d b

  -- where none was opened
  pub back_same : AreMade Back given (length given) given
  back_same = record { count = refl; each = λ i d b got there. let both : Some b ≡ Some d = sym there ∙ got in inl cc }

  module _ (journals : List (Log D × Vec Record)) (so_far : ℕ) (opened : AreOpened disk pair q digest given so_far journals) where
    of_journal : (i : ℕ) (d b : D) → slice_get given i ≡ Some d → slice_get (map (λ (j : Log D × Vec Record). j.0.disk) journals) i ≡ Some b → Back i d b
    of_journal i d b got there =
        let found : (j : Log D × Vec Record) × (slice_get journals i ≡ Some j) × (j.0.disk ≡ b) = map_at (λ (j : Log D × Vec Record). j.0.disk) journals i b there in
        inr (inl (found.0.0, (found.0.1.items, opened.each i found.0 d found.1 got), found.2))

  -- where all journals were opened
  pub back_opened : (journals : List (Log D × Vec Record)) (backs : List D) → AreOpened disk pair q digest given (length given) journals → backs ≡ map (λ (j : Log D × Vec Record). j.0.disk) journals
      → AreMade Back given (length given) backs
  back_opened journals backs opened is = record {
    count = ap length is ∙ length-map journals _ ∙ opened.size;
    each = λ i d b got there. of_journal journals (length given) opened i d b got (ap (λ l. slice_get l i) (sym is) ∙ there);
  }

  module _ (node : ℕ) (fault : LogError) (opened : List (Log D × Vec Record)) (behind : List D) where
    -- how many there are
    pub all_of_them : (back : Option D) → IsRefusedAt disk pair q digest given node fault opened back behind → length opened + length (option_to_list back) + length behind ≡ length given
    all_of_them None refused =
        let none = refused.none refl in
        omega (arith, refused.front.size, none.1, ap length none.2)
    all_of_them (Some b) refused =
        let some = refused.some b refl in
        omega (arith, refused.front.size, slice_get_within given node some.0 some.1, ap length some.3, length-drop (node + 1) given)

    -- where the journal of a node was refused
    back_refused : (back : Option D) (backs : List D) → IsRefusedAt disk pair q digest given node fault opened back behind
        → backs ≡ (map (λ (j : Log D × Vec Record). j.0.disk) opened ++ option_to_list back) ++ behind → (i : ℕ) (d b : D) → slice_get given i ≡ Some d → slice_get backs i ≡ Some b → Back i d b
    back_refused None backs refused is i d b got there = on (at_append (map (λ (j : Log D × Vec Record). j.0.disk) opened ++ []) behind i b (ap (λ l. slice_get l i) (sym is) ∙ there))
      where
        none : (fault ≡ NoMemory) × (node ≡ 0) × (behind ≡ given)
        none = refused.none refl

        front : List D
        front = map (λ (j : Log D × Vec Record). j.0.disk) opened ++ []

        empty : length front ≡ 0
        empty = omega (arith, length-append (map (λ (j : Log D × Vec Record). j.0.disk) opened) [], length-map opened (λ (j : Log D × Vec Record). j.0.disk), refused.front.size, none.1)

        on : (slice_get front i ≡ Some b) ⊎ ((k : ℕ) × (i ≡ length front + k) × (slice_get behind k ≡ Some b)) → Back i d b
        on (inl here) = absurd (omega (arith, slice_get_within front i b here, empty))
        on (inr w) =
            let place : w.0 ≡ i = omega (arith, w.1, empty) in
            let same : slice_get given i ≡ Some b = ap (λ l. slice_get l i) (sym none.2) ∙ ap (λ k. slice_get behind k) (sym place) ∙ w.2 in
            let both : Some b ≡ Some d = sym same ∙ got in
            inl cc
    back_refused (Some x) backs refused is i d b got there = on (at_append front behind i b (ap (λ l. slice_get l i) (sym is) ∙ there))
      where
        some : (d : D) × (slice_get given node ≡ Some d) × IsRefused disk pair (header_of q digest node) d x fault × (behind ≡ drop (node + 1) given)
        some = refused.some x refl

        opened_disks : List D
        opened_disks = map (λ (j : Log D × Vec Record). j.0.disk) opened

        front : List D
        front = opened_disks ++ x ∷ []

        in_front : length opened_disks ≡ node
        in_front = length-map opened (λ (j : Log D × Vec Record). j.0.disk) ∙ refused.front.size

        on_front : (slice_get opened_disks i ≡ Some b) ⊎ ((k : ℕ) × (i ≡ length opened_disks + k) × (slice_get (x ∷ []) k ≡ Some b)) → Back i d b
        on_front (inl here) = of_journal opened node refused.front i d b got here
        on_front (inr w) =
            let last : (w.0 ≡ 0) × (x ≡ b) = at_one x b w.0 w.2 in
            let place : i ≡ node = omega (arith, w.1, last.0, in_front) in
            let both : Some d ≡ Some some.0 = sym got ∙ ap (λ k. slice_get given k) place ∙ some.1 in
            let disk_is : some.0 ≡ d = cc in
            let of_d : IsRefused disk pair (header_of q digest node) d x fault = subst (λ (e : D). IsRefused disk pair (header_of q digest node) e x fault) disk_is some.2 in
            let of_b : IsRefused disk pair (header_of q digest node) d b fault = subst (λ (e : D). IsRefused disk pair (header_of q digest node) d e fault) last.1 of_d in
            inr (inr (fault, subst (λ (k : ℕ). IsRefused disk pair (header_of q digest k) d b fault) (sym place) of_b))

        on : (slice_get front i ≡ Some b) ⊎ ((k : ℕ) × (i ≡ length front + k) × (slice_get behind k ≡ Some b)) → Back i d b
        on (inl here) = on_front (at_append opened_disks (x ∷ []) i b here)
        on (inr w) =
            let size : length front ≡ node + 1 = omega (arith, length-append opened_disks (x ∷ []), in_front) in
            let place : node + 1 + w.0 ≡ i = omega (arith, w.1, size) in
            let same : slice_get given i ≡ Some b =
            ap (λ k. slice_get given k) (sym place) ∙ sym (at_drop (node + 1) given w.0) ∙ ap (λ l. slice_get l w.0) (sym some.3) ∙ w.2 in
            let both : Some b ≡ Some d = sym same ∙ got in
            inl cc

    pub back_at_fault : (back : Option D) (backs : List D) → IsRefusedAt disk pair q digest given node fault opened back behind
        → backs ≡ (map (λ (j : Log D × Vec Record). j.0.disk) opened ++ option_to_list back) ++ behind → AreMade Back given (length given) backs
    back_at_fault back backs refused is = record {
      count =
          ap length is ∙ omega (
            arith,
            all_of_them back refused,
            length-append (map (λ (j : Log D × Vec Record). j.0.disk) opened ++ option_to_list back) behind,
            length-append (map (λ (j : Log D × Vec Record). j.0.disk) opened) (option_to_list back),
            length-map opened (λ (j : Log D × Vec Record). j.0.disk),
          );
      each = back_refused back backs refused is;
    }
