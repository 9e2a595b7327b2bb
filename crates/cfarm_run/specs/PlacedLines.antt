-- The line that compilers tell editors.
use Rattle.std.specs.Prelude.{ℕ, ◌==◌, if◌then◌else◌, List, ◌++◌, length, codes}
use Rattle.std.specs.Fmt.{decimal}
use Rattle.cfarm_shown_paths.specs.Shown.{shown_path}
use Rattle.c_places.specs.declared.place.Place.{Place}

-- what stands behind the sentence: [NUMBER]
abbrev pub numbered : ℕ → List ℕ
numbered number = codes " [" ++ (decimal number ++ codes "]")

-- FILE:LINE:COLUMN: error: SENTENCE [NUMBER], the file's path as it is shown
abbrev pub placed_line : List ℕ → Place → List ℕ → ℕ → List ℕ
placed_line path place sentence number = shown_path path ++ (codes ":" ++ (decimal place.line ++ (codes ":" ++ (decimal place.column
    ++ (codes ": error: " ++ (sentence ++ numbered number))))))

-- FILE:LINE:COLUMN: error: SENTENCE: HINT [NUMBER]
abbrev pub hinted_line : List ℕ → Place → List ℕ → List ℕ → ℕ → List ℕ
hinted_line path place sentence hint number = shown_path path ++ (codes ":" ++ (decimal place.line ++ (codes ":" ++ (decimal place.column
    ++ (codes ": error: " ++ (sentence ++ (codes ": " ++ (hint ++ numbered number))))))))

-- with the hint, where there is one
abbrev pub told_line : List ℕ → Place → List ℕ → List ℕ → ℕ → List ℕ
told_line path place sentence hint number =
    if length hint == 0 then placed_line path place sentence number else hinted_line path place sentence hint number
