-- The first line of a function, up to what is told of its size: its name, and its parameters in parentheses.
use Rattle.std.specs.Prelude.{ℕ, List, [], ◌∷◌, ◌++◌, codes}
use Rattle.std.specs.List.{flat_map}
use Rattle.text_keys.specs.declared.word.Word.{Word}
use Rattle.text_keys.specs.Words.{word_text}

-- a parameter behind another
abbrev pub next_parameter : {A : Type 0} → (A → Word) → A → List ℕ
next_parameter word x = 44 ∷ 32 ∷ word_text (word x)

-- the parameters with a comma and a blank between each two
abbrev pub parameters_text : {A : Type 0} → (A → Word) → List A → List ℕ
parameters_text word [] = []
parameters_text word (x ∷ xs) = word_text (word x) ++ flat_map (next_parameter word) xs

-- `function NAME(PARAMETERS)`
abbrev pub named_head : {A : Type 0} → (A → Word) → List ℕ → List A → List ℕ
named_head word name parameters = codes "function " ++ (name ++ (codes "(" ++ (parameters_text word parameters ++ codes ")")))
