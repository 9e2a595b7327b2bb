-- Graphs: an entry, a number of nodes of which it is one, and as many nodes.
use Rattle.std.specs.Prelude.{ℕ, List, ◌++◌, nat_lt}
use Rattle.std.specs.Int.{w16, to_be_bytes}
use Rattle.lang_base.specs.declared.errors.FormError.TheVariants.{NotCanonical}
use Rattle.lang_base.specs.Reading.{Reading, number, made, tested, below, both}
use Rattle.lang_base.specs.Texts.{counted_text}

-- one of so many nodes
unfoldable pub node : ℕ → Reading ℕ
node nodes bytes = below nodes (number w16) bytes

-- the entry and the number of nodes, of which it is one
unfoldable pub ends : Reading (ℕ × ℕ)
ends bytes = tested (λ p. nat_lt p.0 p.1) NotCanonical (both (number w16) (λ entry. number w16)) bytes

-- the entry, and the nodes, which their number says how to read
abbrev pub graph_of : {A : Type 0} → (ℕ → Reading (List A)) → Reading (ℕ × List A)
graph_of nodes bytes = made (λ p. (p.0.0, p.1)) (both ends (λ p. nodes p.1)) bytes

-- the bytes of the entry, of the number of nodes, and of the nodes
abbrev pub text_of_graph : {A : Type 0} → (A → List ℕ) → ℕ × List A → List ℕ
text_of_graph text g = to_be_bytes w16 g.0 ++ counted_text (to_be_bytes w16) text g.1
