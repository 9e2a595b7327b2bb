-- What the words of `native` ask for.
use Rattle.std.specs.Prelude.{◌≡◌, ℕ, List, Bool, true, false, Option, Some, None, codes, if◌then◌else◌}
use Rattle.std.specs.Str.{bytes_eq}
use Rattle.c_lexer_lexemes.specs.Lexemes.{IsName}
use Rattle.cfarm_command_line_tasks.specs.declared.task.Written.{Written}
use Rattle.cfarm_command_line_tasks.specs.declared.task.Written.TheVariants.{Assembly, Header}
use Rattle.cfarm_native.specs.Told.{Texts, code_text}
use Rattle.native_text_header.specs.Header.{header_text}

-- names may begin with this prefix, where there is one
abbrev pub MayPrefix : Option (List ℕ) → Type 0
MayPrefix None = Unit {0}
MayPrefix (Some prefix) = IsName prefix

-- this is the prefix, and no C name
abbrev pub IsWrongPrefix : Option (List ℕ) → List ℕ → Type 0
IsWrongPrefix prefix wrong = (prefix ≡ Some wrong) × (¬ IsName wrong)

-- a header declares what is exported, under a prefix
abbrev pub lacks_prefix : Written → Option (List ℕ) → Bool
lacks_prefix Assembly prefix = false
lacks_prefix Header None = true
lacks_prefix Header (Some prefix) = false

abbrev pub MayWrite : Written → Option (List ℕ) → Type 0
MayWrite written prefix = (lacks_prefix written prefix ≡ false) × MayPrefix prefix

-- what is asked for; a header without a prefix is refused before
abbrev pub text_asked : Written → Option (List ℕ) → Texts
text_asked Assembly prefix = code_text prefix
text_asked Header None = code_text None
text_asked Header (Some prefix) = header_text prefix

-- the file that the text is put in, where `-` and nothing are the output
abbrev pub file_of : Option (List ℕ) → Option (List ℕ)
file_of None = None
file_of (Some path) = if bytes_eq path (codes "-") then None else Some path
