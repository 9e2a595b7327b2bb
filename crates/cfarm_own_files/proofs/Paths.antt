-- Which of the paths are barred, one after another.
use Rattle.std.proofs.Common.{◌≡◌, ℕ, List, Bool, true, false, Option, None, Some, Result, Ok, Err, IfOk, IfSome, IsNone, sym, subst}
use Rattle.cfarm_files.specs.declared.files.Files as filing
use Rattle.cfarm_options.specs.Names.{is_taken}
use Rattle.cfarm_options.specs.Paths.{linked_path}
use Rattle.cfarm_options.specs.declared.options.BuildOptions.{BuildOptions}
use Rattle.cfarm_own_files.specs.Barred.{AreAllFree, AreBundlesFree, AreOffersFree, IsBarredBundle, IsBundle, IsBundleBarred, IsBundleFree, MayBeFound, MayBeFree, MayBeOffers}
use Rattle.cfarm_own_files.specs.Own.{IsNoOwn, MayBeTwo, beside}

module _ {F D L : Type 0} {E : Type 0} (over : filing.Ghosts F D L) (files : F) (text : List ℕ) where
  pub bundle_free : (folder path : List ℕ) (r : Result Bool E) → is_taken text path ≡ false → MayBeTwo over files text path
      → MayBeTwo over files text (beside path) → MayBeFree over files path → IfOk r (λ own. own ≡ false → IsNoOwn over files folder path)
      → IfOk r (λ own. own ≡ false → IsBundleFree over files folder text path)
  bundle_free folder path (Ok own) name other next free none =
      λ no. record { name = name; not_text = other; not_beside = next; not_own = none no; free = free }
  bundle_free folder path (Err e) name other next free none = tt

  pub offers_free : (folder path : List ℕ) (r : Result Bool E) → MayBeFound over files path → IfOk r (λ own. own ≡ false → IsNoOwn over files folder path)
      → IfOk r (λ own. own ≡ false → MayBeOffers over files folder path)
  offers_free folder path (Ok own) found none = λ no. record { found = found; not_own = none no }
  offers_free folder path (Err e) found none = tt

  module _ {S : Type 0} (options : BuildOptions) where
    pub bundle_barred : (bytes : S → List ℕ) (path : List ℕ) (is_barred : Bool) (r : Result (Option S) E)
        → IfOk r (λ found. IfSome found (λ at. bytes at ≡ path)) → IfOk r (λ found. IfSome found (λ at. is_barred ≡ true))
        → IsBundle over files options path → (is_barred ≡ true → IsBundleBarred over files options.folder.now text path)
        → IfOk r (λ found. IfSome found (λ at. IsBarredBundle over files options text (bytes at)))
    bundle_barred bytes path is_barred (Ok (Some at)) is so bundle barred =
        subst (λ p. IsBarredBundle over files options text p) (sym is) (bundle, barred so)
    bundle_barred bytes path is_barred (Ok None) is so bundle barred = tt
    bundle_barred bytes path is_barred (Err e) is so bundle barred = tt

    pub all_free : (r : Result (Option S) E) → IsNoOwn over files options.folder.now text → AreBundlesFree over files options text
        → AreOffersFree over files options → IfOk r (λ found. IsNone found → MayBeFree over files (linked_path options.folder.now))
        → IfOk r (λ found. IsNone found → AreAllFree over files options text)
    all_free (Ok found) own bundles offers program = λ none. record { not_own = own; bundle = bundles; offers = offers; program = program none }
    all_free (Err e) own bundles offers program = tt
