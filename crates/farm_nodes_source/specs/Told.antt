-- What a user is told of a C text that is not compiled.
use Rattle.std.specs.Prelude.{ℕ, List, ◌++◌, Option, None, codes}
use Rattle.std.specs.String.{string_bytes}
use Rattle.c_texts.specs.Refusals as texts
use Rattle.c_texts.specs.Lines.{text_line}
use Rattle.farm_nodes_source.specs.declared.fault.SourceFault.{SourceFault}
use Rattle.farm_nodes_source.specs.declared.fault.SourceFault.TheVariants.{NoMemory, Text, TooManyNodes}

abbrev pub number_of : SourceFault → ℕ
number_of NoMemory = 1
number_of (Text fault) = texts.number_of fault
number_of (TooManyNodes name) = 240

abbrev pub offset_of : SourceFault → Option ℕ
offset_of NoMemory = None
offset_of (Text fault) = texts.offset_of fault
offset_of (TooManyNodes name) = None

-- a fault of the text with its place, a function with its name
abbrev pub source_line : SourceFault → List ℕ
source_line NoMemory = codes "memory"
source_line (Text fault) = text_line fault
source_line (TooManyNodes name) = codes "refused 240 TooManyNodes in " ++ string_bytes name
