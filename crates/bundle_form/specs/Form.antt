-- The bytes of a bundle, and which bundles have such.
use Rattle.std.specs.Prelude.{◌≡◌, ◌<◌, ◌≤◌, ◌^◌, ℕ, List, ◌∷◌, ◌++◌, All, length}
use Rattle.std.specs.Int.{w32, to_be_bytes}
use Rattle.std.specs.List.{AllByRecursion, flat_map}
use Rattle.lang_helpers.specs.Limits.{function_limit}
use Rattle.bundle_form.specs.declared.bundle.Texts.{Texts}
use Rattle.bundle_form.specs.declared.bundle.Bundle.{Bundle}

-- the number of an offer's bytes, and the bytes
abbrev pub block_text : List ℕ → List ℕ
block_text bytes = to_be_bytes w32 (length bytes) ++ bytes

-- the offers of a function, in the order of the passes
abbrev pub texts_text : Texts → List ℕ
texts_text t = block_text t.constants ++ (block_text t.expressions ++ (block_text t.allocation ++ block_text t.order))

-- `CFB1`, the digest, the number of functions, and the offers of each
abbrev pub bundle_text : Bundle → List ℕ
bundle_text b = 67 ∷ 70 ∷ 66 ∷ 49 ∷ (b.digest ++ (length b.functions ∷ flat_map texts_text b.functions))

-- ---- what has a text

abbrev pub AreBytes : List ℕ → Type 0
AreBytes bytes = AllByRecursion (λ b. b < 256) bytes

-- bytes whose number four bytes can say
pub record BlockFits (block : List ℕ) : Type 0 where
  pub short : length block < 2 ^ 32
  pub bytes : AreBytes block

pub record TextsFit (t : Texts) : Type 0 where
  pub constants : BlockFits t.constants
  pub expressions : BlockFits t.expressions
  pub allocation : BlockFits t.allocation
  pub order : BlockFits t.order

-- a digest of 32 bytes, and as many functions as a program has at most
pub record IsBundle (b : Bundle) : Type 0 where
  pub digest : length b.digest ≡ 32
  pub bytes : AreBytes b.digest
  pub few : length b.functions ≤ function_limit
  pub functions : AllByRecursion TextsFit b.functions

-- ---- what is asked where one is written: the numbers can be said

pub record AreShort (t : Texts) : Type 0 where
  pub constants : length t.constants < 2 ^ 32
  pub expressions : length t.expressions < 2 ^ 32
  pub allocation : length t.allocation < 2 ^ 32
  pub order : length t.order < 2 ^ 32

pub record IsShort (b : Bundle) : Type 0 where
  pub few : length b.functions ≤ function_limit
  pub functions : All AreShort b.functions
