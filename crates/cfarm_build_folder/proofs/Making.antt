-- Files that are made, one after another.
use Rattle.std.proofs.Common.{◌≡◌, ℕ, List, [], ◌∷◌, ◌++◌, map, Option, None, Some, refl, sym, ap, subst, ◌∙◌}
use Rattle.std.specs.List.{AllByRecursion}
use Rattle.std.proofs.lemmas.List.{append_assoc, append-nil, map-append}
use Rattle.cfarm_files.specs.Placing.{Placed, KeepsFolder, Makes, Places, made_at}
use Rattle.cfarm_options.specs.Paths.{journal_path}
use Rattle.cfarm_build_folder.specs.Disks.{IsJournal}
use Rattle.cfarm_build_folder.specs.Putting.{PlacesBundle}

all_both : {A : Type 0} (P : A → Type 0) (xs ys : List A) → AllByRecursion P xs → AllByRecursion P ys → AllByRecursion P (xs ++ ys)
all_both P [] ys all more = more
all_both P (x ∷ xs) ys all more = (all.0, all_both P xs ys all.1 more)

all_weaker : {A : Type 0} (P Q : A → Type 0) → ((x : A) → P x → Q x) → (xs : List A) → AllByRecursion P xs → AllByRecursion Q xs
all_weaker P Q so [] all = tt
all_weaker P Q so (x ∷ xs) all = (so x all.0, all_weaker P Q so xs all.1)

module _ (IsSuch : List ℕ → Type 0) where
  pub makes_none : (o : Option (List Placed)) → Makes o o IsSuch
  makes_none None = tt
  makes_none (Some before) = ([], ap (λ l. Some l) (sym (append-nil before)), tt)

  pub makes_weaker : (IsOne : List ℕ → Type 0) (a b : Option (List Placed)) → ((path : List ℕ) → IsOne path → IsSuch path) → Makes a b IsOne → Makes a b IsSuch
  makes_weaker IsOne None b so makes = tt
  makes_weaker IsOne (Some before) b so makes = (makes.0, makes.1, all_weaker IsOne IsSuch so makes.0 makes.2)

  pub makes_through : (a b c : Option (List Placed)) → Makes a b IsSuch → Makes b c IsSuch → Makes a c IsSuch
  makes_through None b c one two = tt
  makes_through (Some before) None c one two = absurd (cc one.1)
  makes_through (Some before) (Some mid) c one two =
      let same : mid ≡ before ++ map made_at one.0 = (let both : Some mid ≡ Some (before ++ map made_at one.0) = one.1 in cc both) in (
        one.0 ++ two.0,
        two.1 ∙ ap (λ l. Some l) (ap (λ l. l ++ map made_at two.0) same ∙ (append_assoc before (map made_at one.0) (map made_at two.0)
            ∙ ap (λ l. before ++ l) (sym (map-append made_at one.0 two.0)))),
        all_both IsSuch one.0 two.0 one.2 two.2,
      )

  -- nothing is made behind
  pub makes_keeps : (a b c : Option (List Placed)) → Makes a b IsSuch → KeepsFolder b c → Makes a c IsSuch
  makes_keeps None b c makes keeps = tt
  makes_keeps (Some before) None c makes keeps = absurd (cc makes.1)
  makes_keeps (Some before) (Some mid) c makes keeps = (makes.0, keeps ∙ makes.1, makes.2)

-- what is known of the files after a put, and after none
pub keeps_same : (o : Option (List Placed)) → KeepsFolder o o
keeps_same None = tt
keeps_same (Some placed) = refl

pub keeps_through : (a b c : Option (List Placed)) → KeepsFolder a b → KeepsFolder b c → KeepsFolder a c
keeps_through None b c one two = tt
keeps_through (Some before) None c one two = absurd (cc one)
keeps_through (Some before) (Some mid) c one two = two ∙ one

places_keeps : (a b c : Option (List Placed)) (path bytes : List ℕ) → Places a b path bytes → KeepsFolder b c → Places a c path bytes
places_keeps None b c path bytes puts keeps = tt
places_keeps (Some before) None c path bytes puts keeps = absurd (cc puts)
places_keeps (Some before) (Some mid) c path bytes puts keeps = keeps ∙ puts

pub bundle_keeps : (path bundle : Option (List ℕ)) (a b c : Option (List Placed)) → PlacesBundle path bundle a b → KeepsFolder b c
    → PlacesBundle path bundle a c
bundle_keeps None bundle a b c puts keeps = keeps_through a b c puts keeps
bundle_keeps (Some path) None a b c puts keeps = puts
bundle_keeps (Some path) (Some bytes) a b c puts keeps = places_keeps a b c path bytes puts keeps

-- the journal of a node is one
pub of_node : (folder : List ℕ) (node : ℕ) (a b : Option (List Placed)) → Makes a b (λ path. path ≡ journal_path folder node) → Makes a b (IsJournal folder)
of_node folder node a b makes = makes_weaker (IsJournal folder) (λ path. path ≡ journal_path folder node) a b (λ path is. (node, is)) makes

-- those of this folder are those of that one
pub journals_of : (folder other : List ℕ) (a b : Option (List Placed)) → folder ≡ other → Makes a b (IsJournal folder) → Makes a b (IsJournal other)
journals_of folder other a b same makes = subst (λ f. Makes a b (IsJournal f)) same makes
