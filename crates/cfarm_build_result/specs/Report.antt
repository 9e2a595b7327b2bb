-- The report of a build, as JSON.
use Rattle.std.specs.Prelude.{ℕ, List, map, codes}
use Rattle.std.specs.String.{string_bytes}
use Rattle.hex.specs.Hex.{encode_lower}
use Rattle.serde_json.specs.Data.{Data, unsigned, number, string, array, object, no_items, item, no_members, member}
use Rattle.serde_json.specs.View.{items_of}
use Rattle.cfarm_build_result.specs.declared.function.FunctionRooms.{FunctionRooms}

-- a number of a node
abbrev pub node_of : ℕ → Data
node_of n = number (unsigned n)

-- a function with what was learned in its four rooms, in the order of the passes
abbrev pub entry_of : FunctionRooms → Data
entry_of f = object (member (codes "name") (string (string_bytes f.name))
    (member (codes "rooms") (array (item (node_of f.first) (item (node_of f.second) (item (node_of f.third) (item (node_of f.fourth) no_items)))))
    no_members))

-- the functions, the digest of what was linked in lower case hex, and how many nodes there are
abbrev pub report_of : List FunctionRooms → List ℕ → ℕ → Data
report_of functions digest nodes = object (member (codes "functions") (array (items_of (map entry_of functions)))
    (member (codes "linked") (string (encode_lower digest)) (member (codes "nodes") (node_of nodes) no_members)))
