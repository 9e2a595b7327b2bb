-- Which programs have a spelling, and the bytes of each.
use Rattle.std.specs.Prelude.{◌≢◌, ℕ, ◌+◌, ◌-◌, ◌<◌, ◌≤◌, ◌^◌, Bool, not, ◌||◌, nat_eq, List, [], ◌∷◌, ◌++◌, length, slice_index, codes, IsTrue}
use Rattle.std.specs.Int.{w16, w32, to_be_bytes}
use Rattle.std.specs.List.{AllByRecursion, list_any, flat_map}
use Rattle.std.specs.Str.{bytes_eq}
use Rattle.lang_base.specs.Texts.{counted_text, EachFits}
use Rattle.lang_base.specs.declared.program.Global.{Global}
use Rattle.lang_base.specs.declared.program.Named.{Named}
use Rattle.lang_base.specs.declared.program.Program.{Program}
use Rattle.c_lexer_lexemes.specs.Lexemes.{IsName}
pub use Rattle.lang_helpers.specs.Limits.{global_limit, function_limit}

-- a program has at most so many cells, of all globals together
abbrev pub cell_limit : ℕ
cell_limit = 65536

-- a name is so long at most
abbrev pub name_limit : ℕ
name_limit = 255

-- the last of these words is not 0, where there are any
abbrev pub ends_well : List ℕ → Bool
ends_well ws = nat_eq (length ws) 0 || not (nat_eq (slice_index ws (length ws - 1)) 0)

-- a global has a cell, and no more words are listed than it has cells; zeros behind the last other word are not listed
pub record GlobalFits (g : Global) : Type 0 where
  pub some : 0 < g.cells
  pub listed : length g.first_words ≤ g.cells
  pub words : AllByRecursion (λ w. w < 2 ^ 32) g.first_words
  pub last : IsTrue (ends_well g.first_words)

abbrev pub cells_of_all : List Global → ℕ
cells_of_all [] = 0
cells_of_all (g ∷ gs) = g.cells + cells_of_all gs

-- a named function behind others: its name is one (C99 6.4.2), and is none of theirs
pub record FunctionFits {F : Type 0} (Fits : F → Type 0) (before : List (Named F)) (f : Named F) : Type 0 where
  pub name : IsName f.name
  pub short : length f.name ≤ name_limit
  pub new : AllByRecursion (λ g. g.name ≢ f.name) before
  pub function : Fits f.function

-- one of the functions is main
abbrev pub has_main : {F : Type 0} → List (Named F) → Bool
has_main fs = list_any (λ f. bytes_eq f.name (codes "main")) fs

-- a program that has a spelling, where these functions have one
pub record IsProgram {F : Type 0} (Fits : F → Type 0) (p : Program F) : Type 0 where
  pub few_globals : length p.globals ≤ global_limit
  pub few_cells : cells_of_all p.globals ≤ cell_limit
  pub globals : AllByRecursion GlobalFits p.globals
  pub few_functions : length p.functions ≤ function_limit
  pub functions : EachFits (FunctionFits Fits) [] p.functions
  pub main : IsTrue (has_main p.functions)

-- ---- the bytes

abbrev pub byte_text : ℕ → List ℕ
byte_text n = n ∷ []

-- the number of cells, and the listed words behind their number
abbrev pub global_text : Global → List ℕ
global_text g = to_be_bytes w32 g.cells ++ counted_text (to_be_bytes w32) (to_be_bytes w32) g.first_words

abbrev pub globals_text : List Global → List ℕ
globals_text gs = counted_text (to_be_bytes w16) global_text gs

-- `CFP1`, the language's tag, the globals, and the number of functions
abbrev pub head_text : ℕ → List Global × ℕ → List ℕ
head_text tag h = 67 ∷ 70 ∷ 80 ∷ 49 ∷ tag ∷ (globals_text h.0 ++ byte_text h.1)

-- the length of the name, and its bytes
abbrev pub name_text : List ℕ → List ℕ
name_text name = length name ∷ name

-- a name, and the function
abbrev pub named_text : {F : Type 0} → (F → List ℕ) → Named F → List ℕ
named_text spelling f = name_text f.name ++ spelling f.function

-- the head, and the functions
abbrev pub program_text : {F : Type 0} → ℕ → (F → List ℕ) → Program F → List ℕ
program_text tag spelling p = head_text tag (p.globals, length p.functions) ++ flat_map (named_text spelling) p.functions
