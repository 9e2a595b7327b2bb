-- The paths that a build is given, and those of them that it may not use.
use Rattle.std.specs.Prelude.{◌≡◌, ◌⊎◌, ℕ, List, Option, Some, Result, IfOk, IfSome, IsNone, String, true, false, option_copied, string_bytes}
use Rattle.cfarm_files.specs.Reading.{IsKnownSo}
use Rattle.cfarm_files.specs.declared.files.Files as filing
use Rattle.cfarm_options.specs.Names.{is_taken}
use Rattle.cfarm_options.specs.Paths.{linked_path}
use Rattle.cfarm_options.specs.declared.options.BuildOptions.{BuildOptions}
use Rattle.cfarm_own_files.specs.Own.{IsNoOwn, IsOwn, MayBeOne, MayBeTwo, beside}

-- the path that is found, if one is, is such a path
abbrev pub Finds : {E Z : Type 0} → (List ℕ → Type 0) → Result (Option (String Z)) E → Type 0
Finds IsSuch result = IfOk result (λ found. IfSome found (λ path. IsSuch (string_bytes path)))

-- where none is found, this holds
abbrev pub FindsNone : {E Z : Type 0} → Type 0 → Result (Option (String Z)) E → Type 0
FindsNone Holds result = IfOk result (λ found. IsNone found → Holds)

module _ {F D L : Type 0} (over : filing.Ghosts F D L) (files : F) where
  -- something else than a plain file is there, unless it is known that there is not
  abbrev pub MayBeInUse : List ℕ → Type 0
  MayBeInUse path = IsKnownSo (over.free files path) false

  -- nothing or a plain file is there, unless it is known that there is not
  abbrev pub MayBeFree : List ℕ → Type 0
  MayBeFree path = IsKnownSo (over.free files path) true

  -- it leads to nothing, unless it is known to lead to something
  abbrev pub MayBeMissing : List ℕ → Type 0
  MayBeMissing path = IsKnownSo (over.found files path) false

  -- it leads to something, unless it is known to lead to nothing
  abbrev pub MayBeFound : List ℕ → Type 0
  MayBeFound path = IsKnownSo (over.found files path) true

  module _ (folder : List ℕ) where
    -- no offers are read of this path: it leads to nothing, or to a file of the build's
    abbrev pub IsNoOffers : List ℕ → Type 0
    IsNoOffers path = MayBeMissing path ⊎ IsOwn over files folder path

    -- they may be read of this one
    pub record MayBeOffers (path : List ℕ) : Type 0 where
      pub found : MayBeFound path
      pub not_own : IsNoOwn over files folder path

  module _ (folder text : List ℕ) where
    -- What is put at this path takes the place of a file of the build's by its name, of the text, of a file of the build's that it is, or
    -- of what is no plain file.
    abbrev pub IsBundleBarred : List ℕ → Type 0
    IsBundleBarred path = (is_taken text path ≡ true) ⊎ MayBeOne over files text path ⊎ MayBeOne over files text (beside path)
        ⊎ IsOwn over files folder path ⊎ MayBeInUse path

    -- it takes the place of none of these
    pub record IsBundleFree (path : List ℕ) : Type 0 where
      pub name : is_taken text path ≡ false
      pub not_text : MayBeTwo over files text path
      pub not_beside : MayBeTwo over files text (beside path)
      pub not_own : IsNoOwn over files folder path
      pub free : MayBeFree path

  module _ (options : BuildOptions) where
    -- this is the path of the bundle, where one is to be put
    abbrev pub IsBundle : List ℕ → Type 0
    IsBundle path = option_copied options.bundle ≡ Some path

    -- this is that of the folder of offers, where one is given
    abbrev pub IsOffers : List ℕ → Type 0
    IsOffers path = option_copied options.offers ≡ Some path

    -- that of the offers leads to nothing, or to a file of the build's
    abbrev pub IsBarredOffers : List ℕ → Type 0
    IsBarredOffers path = IsOffers path × IsNoOffers options.folder.now path

    -- whatever it is, it leads to something else
    abbrev pub AreOffersFree : Type 0
    AreOffersFree = (path : List ℕ) → IsOffers path → MayBeOffers options.folder.now path

    -- this is that of the program, and something else than a plain file is there
    abbrev pub IsBarredProgram : List ℕ → Type 0
    IsBarredProgram path = (path ≡ linked_path options.folder.now) × MayBeInUse path

    module _ (text : List ℕ) where
      -- that of the text leads to a file of the build's
      abbrev pub IsBarredText : List ℕ → Type 0
      IsBarredText path = (path ≡ text) × IsOwn over files options.folder.now path

      -- that of the bundle takes the place of what is kept
      abbrev pub IsBarredBundle : List ℕ → Type 0
      IsBarredBundle path = IsBundle path × IsBundleBarred options.folder.now text path

      -- whatever it is, it takes the place of nothing that is kept
      abbrev pub AreBundlesFree : Type 0
      AreBundlesFree = (path : List ℕ) → IsBundle path → IsBundleFree options.folder.now text path

      -- a build of this text may not use this path, which is one of these four
      abbrev pub IsBarred : List ℕ → Type 0
      IsBarred path = IsBarredText path ⊎ IsBarredBundle path ⊎ IsBarredOffers path ⊎ IsBarredProgram path

      -- it may use all of them
      pub record AreAllFree : Type 0 where
        pub not_own : IsNoOwn over files options.folder.now text
        pub bundle : AreBundlesFree
        pub offers : AreOffersFree
        pub program : MayBeFree (linked_path options.folder.now)
