-- What keeps a table right, and what a right table answers.
use Rattle.std.proofs.Common.{◌≡◌, ◌≢◌, ℕ, zero, suc, ◌+◌, ◌<◌, ◌≤◌, Bool, true, false, cond, eqb, ltb, ◌||◌, ◌⊎◌, not, List, [], ◌∷◌, ◌++◌, length, map, reverse, get_or, set, Option, Some, None, inl, inr, refl, sym, ap, subst, ◌∙◌, arith, true≢false}
use Rattle.std.specs.Prelude.{MatchOption, position, Vec}
use Rattle.std.specs.List.{list_any, position_or_len}
use Rattle.std.specs.Str.{bytes_eq}
use Rattle.std.proofs.lemmas.Bool.{eqb-true, eq-eqb, cases_lt, false_from_ne_true}
use Rattle.std.proofs.lemmas.List.{length-map, length-reverse, length-set, length_push, map-append, reverse-append, reverse-reverse, get_or_append_left, get_or_push, get_or_default, get_or-set_same, get_or-set_other}
use Rattle.std.proofs.lemmas.List.Quantifiers.{position-Some}
use Rattle.std.proofs.lemmas.Slice.Eq.{bytes_eq-Decides}
use Rattle.c_checker_scopes.specs.declared.binding.Entry.{Entry}
use Rattle.c_checker_scopes.specs.declared.binding.Link.{Link}
use Rattle.c_checker_scopes.specs.Bound.{found}
use Rattle.c_checker_scopes.specs.Table.{names_of, name_of, bound_of, bounds_of, links_of, newest_of, AreLinked, IsTable}

-- whether two numbers are equal, with what follows
by_eqb : {P : Type 0} (a b : ℕ) → (eqb a b ≡ true → a ≡ b → P) → (eqb a b ≡ false → a ≢ b → P) → P
by_eqb {P} a b same differ = at (eqb a b) refl
  where
    at : (t : Bool) → eqb a b ≡ t → P
    at true e = same e (eqb-true a b e)
    at false e = differ e (λ i. true≢false (sym (eq-eqb a b i) ∙ e))

-- ---- links

-- a number that is no symbol has no entry
pub newest_of-none : (count : ℕ) (links : List Link) (symbol : ℕ) → AreLinked count links → count ≤ symbol → newest_of symbol links ≡ None
newest_of-none count [] symbol linked past = refl
newest_of-none count (k ∷ ks) symbol linked past =
    let differ : symbol ≢ k.symbol = λ e. omega (arith, linked.0, e) in
    ap (λ t. cond t (Some (length ks)) (newest_of symbol ks)) (false_from_ne_true _ (λ e. differ (eqb-true symbol k.symbol e)))
    ∙ newest_of-none count ks symbol linked.2 past

pub AreLinked-more : (count more : ℕ) (links : List Link) → count ≤ more → AreLinked count links → AreLinked more links
AreLinked-more count more [] le linked = tt
AreLinked-more count more (k ∷ ks) le linked = (omega (arith, linked.0), linked.1, AreLinked-more count more ks le linked.2)

-- ---- tables

-- one row more, for a name to come
pub more_row : (names : List (List ℕ)) (latest : List (Option ℕ)) (links : List Link) → IsTable names latest links → IsTable names (latest ++ None ∷ []) links
more_row names latest links table = record {
  distinct = table.distinct;
  rows = omega (arith, table.rows, length_push latest None);
  newest = λ symbol lt.
      elim (cases_lt symbol (length latest)) [
        | inl old ↦ get_or_append_left latest (None ∷ []) None symbol old ∙ table.newest symbol old
        | inr past ↦
            let here : length latest ≡ symbol = omega (arith, length_push latest None, lt) in
            get_or_push latest None None symbol here ∙ sym (newest_of-none (length names) links symbol table.linked (omega (arith, table.rows)))
      ];
  linked = table.linked;
}

name_of-push : (names : List (List ℕ)) (name : List ℕ) → name_of (names ++ name ∷ []) (length names) ≡ name
name_of-push names name = get_or_push names name [] (length names) refl

name_of-old : (names : List (List ℕ)) (name : List ℕ) (symbol : ℕ) → symbol < length names → name_of (names ++ name ∷ []) symbol ≡ name_of names symbol
name_of-old names name symbol lt = get_or_append_left names (name ∷ []) [] symbol lt

-- one name more, for which there is a row
pub more_name : (names : List (List ℕ)) (latest : List (Option ℕ)) (links : List Link) (name : List ℕ) → length names < length latest
    → ((symbol : ℕ) → symbol < length names → name_of names symbol ≢ name) → IsTable names latest links → IsTable (names ++ name ∷ []) latest links
more_name names latest links name space new table = record {
  distinct = apart;
  rows = omega (arith, length_push names name);
  newest = table.newest;
  linked = AreLinked-more (length names) (length (names ++ name ∷ [])) links (omega (arith, length_push names name)) table.linked;
}
  where
    last : (i : ℕ) → i < length (names ++ name ∷ []) → length names ≤ i → name_of (names ++ name ∷ []) i ≡ name
    last i lt past =
        let at : length names ≡ i = omega (arith, length_push names name) in
        get_or_push names name [] i at

    apart : (i j : ℕ) → i < length (names ++ name ∷ []) → j < length (names ++ name ∷ []) → name_of (names ++ name ∷ []) i ≡ name_of (names ++ name ∷ []) j → i ≡ j
    apart i j li lj e =
        elim (cases_lt i (length names)) [
          | inl a ↦
              elim (cases_lt j (length names)) [
                | inl b ↦ table.distinct i j a b (sym (name_of-old names name i a) ∙ e ∙ name_of-old names name j b)
                | inr b ↦ absurd (new i a (sym (name_of-old names name i a) ∙ e ∙ last j lj b))
              ]
          | inr a ↦
              elim (cases_lt j (length names)) [
                | inl b ↦ absurd (new j b (sym (name_of-old names name j b) ∙ sym e ∙ last i li a))
                | inr b ↦ omega (arith, length_push names name)
              ]
        ]

-- one entry more, of a symbol
pub more_entry : (names : List (List ℕ)) (latest : List (Option ℕ)) (links : List Link) (symbol : ℕ) → symbol < length names → IsTable names latest links
    → IsTable names (set latest symbol (Some (length links))) (record { symbol = symbol; shadowed = get_or latest symbol None } ∷ links)
more_entry names latest links symbol within table = record {
  distinct = table.distinct;
  rows = omega (arith, table.rows, length-set latest symbol (Some (length links)));
  newest = λ s lt.
      let old : s < length latest = omega (arith, lt, length-set latest symbol (Some (length links))) in
      by_eqb s symbol
      (λ test same. get_or-row s same old ∙ sym (ap (λ t. cond t (Some (length links)) (newest_of s links)) test))
      (λ test differ. get_or-set_other latest symbol s (Some (length links)) None differ ∙ table.newest s old ∙ sym (ap (λ t. cond t (Some (length links)) (newest_of s links)) test));
  linked = (within, table.newest symbol (omega (arith, table.rows)), table.linked);
}
  where
    get_or-row : (s : ℕ) → s ≡ symbol → s < length latest → get_or (set latest symbol (Some (length links))) s None ≡ Some (length links)
    get_or-row s same old = ap (λ i. get_or (set latest symbol (Some (length links))) i None) same ∙ get_or-set_same latest symbol (Some (length links)) None (omega arith)

-- the newest entry goes
pub less_entry : (names : List (List ℕ)) (latest : List (Option ℕ)) (k : Link) (links : List Link) → IsTable names latest (k ∷ links) → IsTable names (set latest k.symbol k.shadowed) links
less_entry names latest k links table = record {
  distinct = table.distinct;
  rows = omega (arith, table.rows, length-set latest k.symbol k.shadowed);
  newest = λ s lt.
      let old : s < length latest = omega (arith, lt, length-set latest k.symbol k.shadowed) in
      by_eqb s k.symbol
      (λ test same.
      ap (λ i. get_or (set latest k.symbol k.shadowed) i None) same ∙ get_or-set_same latest k.symbol k.shadowed None (omega arith) ∙ table.linked.1
      ∙ ap (λ i. newest_of i links) (sym same))
      (λ test differ.
      get_or-set_other latest k.symbol s k.shadowed None differ ∙ table.newest s old ∙ ap (λ t. cond t (Some (length links)) (newest_of s links)) test);
  linked = table.linked.2;
}

-- ---- what the entries bind

module _ {T : Type 0} where
  pub bounds_of-push : (names : List (List ℕ)) (entries : List (Entry T)) (e : Entry T) → bounds_of names (entries ++ e ∷ []) ≡ bound_of names e ∷ bounds_of names entries
  bounds_of-push names entries e = ap (map (bound_of names)) (reverse-append entries (e ∷ []))

  pub links_of-push : (entries : List (Entry T)) (e : Entry T) → links_of (entries ++ e ∷ []) ≡ e.link ∷ links_of entries
  links_of-push entries e = ap (map (λ f. f.link)) (reverse-append entries (e ∷ []))

  pub length-links_of : (entries : List (Entry T)) → length (links_of entries) ≡ length entries
  length-links_of entries = length-map (reverse entries) (λ f. f.link) ∙ length-reverse entries

  bounds_same : (names names' : List (List ℕ)) → ((symbol : ℕ) → symbol < length names → name_of names' symbol ≡ name_of names symbol)
      → (stack : List (Entry T)) → AreLinked (length names) (map (λ f. f.link) stack) → map (bound_of names') stack ≡ map (bound_of names) stack
  bounds_same names names' same [] linked = refl
  bounds_same names names' same (e ∷ stack) linked =
      let name = same e.link.symbol linked.0 in
      let rest = bounds_same names names' same stack linked.2 in
      λ i. record { name = name i; depth = e.depth; value = e.value } ∷ rest i

  -- where the names stay, the entries bind what they bound
  pub bounds_of-same : (names names' : List (List ℕ)) (latest : List (Option ℕ)) (entries : List (Entry T)) → IsTable names latest (links_of entries)
      → ((symbol : ℕ) → symbol < length names → name_of names' symbol ≡ name_of names symbol) → bounds_of names' entries ≡ bounds_of names entries
  bounds_of-same names names' latest entries table same = bounds_same names names' same (reverse entries) table.linked

-- ---- what a name means

module _ {T : Type 0} (names : List (List ℕ)) (name : List ℕ) where
  -- what a place says: nothing is bound where there is none, and else the entry there is what the name means
  abbrev pub Means : List (Entry T) → Option ℕ → Type 0
  Means stack place = MatchOption place (found name (map (bound_of names) stack) ≡ None)
      (λ p. (p < length stack) × ((d : Entry T) → found name (map (bound_of names) stack) ≡ Some (bound_of names (get_or (reverse stack) p d))))

  reverse-cons : (e : Entry T) (stack : List (Entry T)) → reverse (e ∷ stack) ≡ reverse stack ++ e ∷ []
  reverse-cons e stack = reverse-append (e ∷ []) stack

  -- the entry is here
  means_here : (e : Entry T) (stack : List (Entry T)) → bytes_eq name (name_of names e.link.symbol) ≡ true → Means (e ∷ stack) (Some (length (map (λ f. f.link) stack)))
  means_here e stack test =
      let len : length (map (λ (f : Entry T). f.link) stack) ≡ length stack = length-map stack (λ f. f.link) in (
        omega (arith, len),
        λ d.
            let at : length (reverse stack) ≡ length (map (λ (f : Entry T). f.link) stack) = length-reverse stack ∙ sym len in
            let is : get_or (reverse (e ∷ stack)) (length (map (λ (f : Entry T). f.link) stack)) d ≡ e =
            ap (λ l. get_or l (length (map (λ (f : Entry T). f.link) stack)) d) (reverse-cons e stack) ∙ get_or_push (reverse stack) e d _ at in
            ap (λ t. cond t (Some (bound_of names e)) (found name (map (bound_of names) stack))) test ∙ ap (λ f. Some (bound_of names f)) (sym is),
      )

  -- it is further down
  means_below : (e : Entry T) (stack : List (Entry T)) (place : Option ℕ) → bytes_eq name (name_of names e.link.symbol) ≡ false → Means stack place → Means (e ∷ stack) place
  means_below e stack None test means = ap (λ t. cond t (Some (bound_of names e)) (found name (map (bound_of names) stack))) test ∙ means
  means_below e stack (Some p) test means = (
    omega (arith, means.0),
    λ d.
        let within : p < length (reverse stack) = omega (arith, means.0, length-reverse stack) in
        let is : get_or (reverse (e ∷ stack)) p d ≡ get_or (reverse stack) p d =
        ap (λ l. get_or l p d) (reverse-cons e stack) ∙ get_or_append_left (reverse stack) (e ∷ []) d p within in
        ap (λ t. cond t (Some (bound_of names e)) (found name (map (bound_of names) stack))) test ∙ means.1 d ∙ ap (λ f. Some (bound_of names f)) (sym is),
  )

  means_known : (symbol : ℕ) → symbol < length names → name_of names symbol ≡ name
      → ((i j : ℕ) → i < length names → j < length names → name_of names i ≡ name_of names j → i ≡ j)
      → (stack : List (Entry T)) → AreLinked (length names) (map (λ f. f.link) stack) → Means stack (newest_of symbol (map (λ f. f.link) stack))
  means_known symbol within named distinct [] linked = refl
  means_known symbol within named distinct (e ∷ stack) linked =
      let links : List Link = map (λ f. f.link) stack in
      by_eqb symbol e.link.symbol
      (λ test same.
      subst (Means (e ∷ stack)) (sym (ap (λ t. cond t (Some (length links)) (newest_of symbol links)) test))
      (means_here e stack ((bytes_eq-Decides name (name_of names e.link.symbol)).1 (sym named ∙ ap (name_of names) same))))
      (λ test differ.
      let other : bytes_eq name (name_of names e.link.symbol) ≡ false =
      false_from_ne_true _ (λ h. differ (distinct symbol e.link.symbol within linked.0 (named ∙ (bytes_eq-Decides name (name_of names e.link.symbol)).0 h))) in
      subst (Means (e ∷ stack)) (sym (ap (λ t. cond t (Some (length links)) (newest_of symbol links)) test))
      (means_below e stack (newest_of symbol links) other (means_known symbol within named distinct stack linked.2)))

  means_unknown : ((symbol : ℕ) → symbol < length names → name_of names symbol ≢ name)
      → (stack : List (Entry T)) → AreLinked (length names) (map (λ f. f.link) stack) → found name (map (bound_of names) stack) ≡ None
  means_unknown none [] linked = refl
  means_unknown none (e ∷ stack) linked =
      let other : bytes_eq name (name_of names e.link.symbol) ≡ false =
      false_from_ne_true _ (λ h. none e.link.symbol linked.0 (sym ((bytes_eq-Decides name (name_of names e.link.symbol)).0 h))) in
      means_below e stack None other (means_unknown none stack linked.2)

module _ {T : Type 0} (names : List (List ℕ)) (latest : List (Option ℕ)) (entries : List (Entry T)) (table : IsTable names latest (links_of entries)) (name : List ℕ) where
  -- the row of a name's symbol says what the name means
  abbrev pub Answers : Option ℕ → Type 0
  Answers place = MatchOption place (found name (bounds_of names entries) ≡ None)
      (λ p. (p < length entries) × ((d : Entry T) → found name (bounds_of names entries) ≡ Some (bound_of names (get_or entries p d))))

  answers_from_means : (place : Option ℕ) → Means names name (reverse entries) place → Answers place
  answers_from_means None means = means
  answers_from_means (Some p) means =
      (omega (arith, means.0, length-reverse entries), λ d. means.1 d ∙ ap (λ l. Some (bound_of names (get_or l p d))) (reverse-reverse entries))

  pub found-known : (symbol : ℕ) → symbol < length names → name_of names symbol ≡ name → Answers (get_or latest symbol None)
  found-known symbol within named =
      answers_from_means _
      (subst (Means names name (reverse entries)) (sym (table.newest symbol (omega (arith, table.rows))))
      (means_known names name symbol within named table.distinct (reverse entries) table.linked))

  -- a name that has no symbol means nothing
  pub found-unknown : ((symbol : ℕ) → symbol < length names → name_of names symbol ≢ name) → found name (bounds_of names entries) ≡ None
  found-unknown none = means_unknown names name none (reverse entries) table.linked

-- ---- symbols

module _ {A : Type 0} (name : List ℕ) where
  abbrev IsNamed : Vec ℕ A → Bool
  IsNamed key = bytes_eq name key.items

  position_or_len-names : (keys : List (Vec ℕ A)) → position_or_len IsNamed keys ≡ position_or_len (bytes_eq name) (names_of keys)
  position_or_len-names [] = refl
  position_or_len-names (key ∷ keys) = ap (λ n. cond (not (IsNamed key)) (1 + n) 0) (position_or_len-names keys)

  position-names : (keys : List (Vec ℕ A)) → position IsNamed keys ≡ position (bytes_eq name) (names_of keys)
  position-names keys =
      let at = position_or_len-names keys in
      let len : length keys ≡ length (names_of keys) = sym (length-map keys (λ key. key.items)) in
      λ i. cond (ltb (at i) (len i)) (Some (at i)) None

  -- the symbol that is found is the name's
  pub symbol-named : (keys : List (Vec ℕ A)) (symbol : ℕ) → position IsNamed keys ≡ Some symbol → (symbol < length (names_of keys)) × (name_of (names_of keys) symbol ≡ name)
  symbol-named keys symbol e =
      let p = position-Some (bytes_eq name) (names_of keys) symbol [] (sym (position-names keys) ∙ e) in
      (p.0, sym ((bytes_eq-Decides name (name_of (names_of keys) symbol)).0 p.1))

  -- where none is found, no symbol is the name's
  pub symbol-none : (keys : List (Vec ℕ A)) → list_any IsNamed keys ≡ false → (symbol : ℕ) → symbol < length (names_of keys) → name_of (names_of keys) symbol ≢ name
  symbol-none [] none symbol lt is = omega arith
  symbol-none (key ∷ keys) none zero lt is =
      true≢false (sym (ap (λ t. t || list_any IsNamed keys) ((bytes_eq-Decides name key.items).1 (sym is))) ∙ none)
  symbol-none (key ∷ keys) none (suc symbol) lt is = symbol-none keys (later (IsNamed key) (list_any IsNamed keys) none) symbol (omega arith) is
    where
      later : (a b : Bool) → (a || b) ≡ false → b ≡ false
      later true b e = absurd (true≢false e)
      later false b e = e

  -- the names, after the key of a new one went into the set
  pub names_of-insert : (keys new : List (Vec ℕ A)) (key : Vec ℕ A) → key.items ≡ name → list_any IsNamed keys ≡ false
      → new ≡ cond (list_any (λ y. bytes_eq key.items y.items) keys) keys (keys ++ key ∷ []) → names_of new ≡ names_of keys ++ name ∷ []
  names_of-insert keys new key is none put =
      let none' : list_any (λ (y : Vec ℕ A). bytes_eq key.items y.items) keys ≡ false = subst (λ n. list_any (λ (y : Vec ℕ A). bytes_eq n y.items) keys ≡ false) (sym is) none in
      ap names_of (put ∙ ap (λ t. cond t keys (keys ++ key ∷ [])) none') ∙ map-append (λ (k : Vec ℕ A). k.items) keys (key ∷ [])
      ∙ ap (λ n. names_of keys ++ n ∷ []) is

-- what `latest` is before a name goes in: as it was where it has a row to spare, and else one row longer
pub ready : (names names' : List (List ℕ)) (latest latest' : List (Option ℕ)) (links : List Link) (name : List ℕ)
    → ((latest' ≡ latest ++ None ∷ []) ⊎ ((latest' ≡ latest) × (length latest ≢ length names)))
    → names' ≡ names ++ name ∷ [] → ((symbol : ℕ) → symbol < length names → name_of names symbol ≢ name) → IsTable names latest links → IsTable names' latest' links
ready names names' latest latest' links name way is new table =
    subst (λ n. IsTable n latest' links) (sym is)
    (elim way [
      | inl more ↦
          subst (λ l. IsTable (names ++ name ∷ []) l links) (sym more)
          (more_name names (latest ++ None ∷ []) links name (omega (arith, table.rows, length_push latest None)) new (more_row names latest links table))
      | inr same ↦
          subst (λ l. IsTable (names ++ name ∷ []) l links) (sym same.0)
          (more_name names latest links name (let apart = same.1 in omega (arith, table.rows)) new table)
    ])

-- what the row says that stands at the symbol of a name
pub found-row : {A T : Type 0} (keys : List (Vec ℕ A)) (latest : List (Option ℕ)) (entries : List (Entry T)) (table : IsTable (names_of keys) latest (links_of entries))
    → (name : List ℕ) (symbol : ℕ) → Some symbol ≡ position (λ k. bytes_eq name k.items) keys → (row : Option ℕ) → row ≡ get_or latest symbol row
    → Answers (names_of keys) latest entries table name row
found-row keys latest entries table name symbol at row read =
    let named = symbol-named name keys symbol (sym at) in
    let is : get_or latest symbol None ≡ row = get_or_default latest symbol None row (let within = named.0 in omega (arith, table.rows)) ∙ sym read in
    subst (Answers (names_of keys) latest entries table name) is (found-known (names_of keys) latest entries table name symbol named.0 named.1)

-- an entry more, by the row that was read
pub more_entry_read : {T : Type 0} (names : List (List ℕ)) (latest : List (Option ℕ)) (entries : List (Entry T)) (e : Entry T) → e.link.symbol < length names
    → IsTable names latest (links_of entries) → e.link.shadowed ≡ get_or latest e.link.symbol e.link.shadowed
    → IsTable names (set latest e.link.symbol (Some (length entries))) (links_of (entries ++ e ∷ []))
more_entry_read names latest entries e within table read =
    let is : get_or latest e.link.symbol None ≡ e.link.shadowed =
    get_or_default latest e.link.symbol None e.link.shadowed (omega (arith, table.rows)) ∙ sym read in
    let more = more_entry names latest (links_of entries) e.link.symbol within table in
    subst (IsTable names (set latest e.link.symbol (Some (length entries)))) (sym (links_of-push entries e))
    (subst (λ n. IsTable names (set latest e.link.symbol (Some n)) (e.link ∷ links_of entries)) (length-links_of entries)
    (subst (λ o. IsTable names (set latest e.link.symbol (Some (length (links_of entries)))) (record { symbol = e.link.symbol; shadowed = o } ∷ links_of entries)) is more))
