-- Which declaration a name means where scopes nest (C99 6.2.1, paragraphs 2 and 4): one of an inner scope hides those
-- of the same name in outer scopes until its scope ends.
use Rattle.std.specs.Prelude.{ℕ, List, [], ◌∷◌, Option, Some, None, if◌then◌else◌}
use Rattle.std.specs.Str.{bytes_eq}
use Rattle.c_checker_scopes.specs.declared.binding.Binding.{Binding}

-- a name that means something here: its bytes, how deep the scope of its declaration is (0 is the file's), and what it was bound to
pub record Bound (T : Type 0) : Type 0 where
  pub name : List ℕ
  pub depth : ℕ
  pub value : T

-- what a name means: the newest of that name, where the newest stands first
abbrev pub found : {T : Type 0} → List ℕ → List (Bound T) → Option (Bound T)
found name [] = None
found name (b ∷ bs) = if bytes_eq name b.name then Some b else found name bs

-- what it was bound to, and how deep
abbrev pub binding_of : {T : Type 0} → Bound T → Binding T
binding_of b = record { depth = b.depth; value = b.value }
