-- A fault of a text as an object of JSON.
use Rattle.std.specs.Prelude.{ℕ, List, Option, None, Some, codes}
use Rattle.serde_json.specs.Data.{Data, null, unsigned, number, string, object, no_members, member}
use Rattle.serde_json.specs.Written.{compact_text}
use Rattle.c_places.specs.Places.{place_of}
use Rattle.c_places.specs.declared.place.Place.{Place}
use Rattle.c_texts.specs.Lines.{name_of, text_line}
use Rattle.c_texts.specs.Refusals.{number_of}
use Rattle.cfarm_run.specs.Sentences.{sentence_of}
use Rattle.cfarm_program_runs.specs.declared.objects.Refusal.{Refusal}

abbrev pub count : ℕ → Data
count n = number (unsigned n)

-- where a name is declared before, if it is
abbrev pub declared_data : Option Place → Data
declared_data None = null
declared_data (Some place) = object (member (codes "column") (count place.column) (member (codes "line") (count place.line) no_members))

-- where a fault is, at an offset of the text of this file
abbrev pub place_data : List ℕ → ℕ → Place → Data
place_data path at place = object (member (codes "column") (count place.column) (member (codes "file") (string path)
    (member (codes "line") (count place.line) (member (codes "offset") (count at) no_members))))

-- the fault: its line as ever, its number and name, its place, its sentence, the hint and where its name is declared before
abbrev pub fault_data : Refusal → Data
fault_data told = object (member (codes "declared") (declared_data told.declared) (member (codes "fault") (string (text_line told.fault))
    (member (codes "hint") (string told.hint.now) (member (codes "name") (string (name_of told.fault))
    (member (codes "number") (count (number_of told.fault)) (member (codes "place") (place_data told.path.now told.at (place_of told.text.now told.at))
    (member (codes "sentence") (string (sentence_of told.fault)) no_members)))))))

abbrev pub fault_line : Refusal → List ℕ
fault_line told = compact_text (fault_data told)
