-- What code adds, put together from what its parts add.
use Rattle.std.proofs.Common.{◌≡◌, ℕ, ◌+◌, ◌<◌, Bool, true, false, List, [], ◌∷◌, ◌++◌, length, refl, ap, ◌∙◌, append_assoc, length-append, arith}
use Rattle.ints.specs.declared.conditions.Cond.TheVariants.{Nz}
use Rattle.rtl_acts.specs.declared.arguments.Arguments.TheVariants.{One}
use Rattle.rtl_language.specs.declared.instruction.Instruction.{Instruction}
use Rattle.rtl_language.specs.declared.instruction.Instruction.TheVariants.{Branch}
use Rattle.rtl_language.specs.Function.{node_limit}
use Rattle.rtlgen_definition.specs.Pieces.{Made, Piece, nothing, one, both, either}
use Rattle.rtlgen_code.specs.declared.graph.Graph.{Graph}
use Rattle.rtlgen_code.specs.Adding.{Adds}

-- a graph is not both full and not
not_both : {A : Type 0} (b : Bool) → b ≡ true → b ≡ false → A
not_both b full space = absurd cc

nil_behind : {A : Type 0} (xs : List A) → xs ≡ xs ++ []
nil_behind [] = refl
nil_behind (x ∷ xs) = ap (λ l. x ∷ l) (nil_behind xs)

pub add_nothing : {next : ℕ} {g : Graph} → Adds nothing next g g next
add_nothing {next} {g} = record {
  had_space = λ space. space;
  nodes = λ space. nil_behind g.nodes.items;
  entry = λ space. refl;
  too_many = λ full space. not_both g.is_full full space;
  within = λ few. few;
}

-- a node that is known stands for one that may name where it goes on
pub add_one : {node : ℕ → Instruction} {next : ℕ} {g h : Graph} {begins : ℕ} → Adds (one (λ n. node next)) 0 g h begins → Adds (one node) next g h begins
add_one a = record { had_space = a.had_space; nodes = a.nodes; entry = a.entry; too_many = a.too_many; within = a.within }

-- where code adds a piece, the nodes are so many more
pub more : {piece : Piece} {next : ℕ} {g h : Graph} {begins : ℕ} → Adds piece next g h begins → h.is_full ≡ false → length h.nodes.items ≡ length g.nodes.items + length (piece next (length g.nodes.items)).nodes
more {piece} {next} {g} a space = ap length (a.nodes space) ∙ length-append g.nodes.items (piece next (length g.nodes.items)).nodes

-- what a piece adds to a graph
abbrev made : Piece → ℕ → Graph → Made
made piece next g = piece next (length g.nodes.items)

-- what it adds behind nodes that were made
abbrev behind : Piece → ℕ → Graph → Made → Made
behind piece next g m = piece next (length g.nodes.items + length m.nodes)

abbrev branch : ℕ → ℕ → ℕ → Instruction
branch r taken other = Branch (record { condition = Nz; arguments = One r }) taken other

-- one piece after the other: the second is added first
pub add_both : {first second : Piece} {next : ℕ} {g h k : Graph} {middle begins : ℕ} → Adds second next g h middle → Adds first middle h k begins → Adds (both first second) next g k begins
add_both {first} {second} {next} {g} {h} {k} {middle} {begins} s f = record {
  had_space = λ space. s.had_space (f.had_space space);
  nodes = λ space. f.nodes space ∙ (λ i. s.nodes (f.had_space space) i ++ (same (f.had_space space) i).nodes) ∙ append_assoc g.nodes.items (made second next g).nodes (behind first (made second next g).entry g (made second next g)).nodes;
  entry = λ space. f.entry space ∙ ap (λ m. m.entry) (same (f.had_space space));
  too_many = λ full space. over full space h.is_full refl;
  within = λ few. f.within (s.within few);
}
  where
    same : h.is_full ≡ false → first middle (length h.nodes.items) ≡ (behind first (made second next g).entry g (made second next g))
    same space = λ i. first (s.entry space i) (more s space i)

    over : k.is_full ≡ true → g.is_full ≡ false → (b : Bool) → h.is_full ≡ b → node_limit < length g.nodes.items + length ((made second next g).nodes ++ (behind first (made second next g).entry g (made second next g)).nodes)
    over full space true e = omega (arith, s.too_many e space, length-append (made second next g).nodes (behind first (made second next g).entry g (made second next g)).nodes)
    over full space false e = omega (arith, f.too_many full e, more s e, ap (λ m. length m.nodes) (same e), length-append (made second next g).nodes (behind first (made second next g).entry g (made second next g)).nodes)

-- the nodes of two pieces, and one that names where they begin
either_nodes : (node : ℕ → ℕ → Instruction) (taken : Piece) (next : ℕ) (gs hs ks ls : List Instruction) (o : Made) (there away : ℕ) →
    hs ≡ gs ++ o.nodes → away ≡ o.entry → ks ≡ hs ++ (taken next (length hs)).nodes → there ≡ (taken next (length hs)).entry → ls ≡ ks ++ node there away ∷ [] →
    ls ≡ gs ++ (o.nodes ++ ((taken next (length gs + length o.nodes)).nodes ++ node (taken next (length gs + length o.nodes)).entry o.entry ∷ []))
either_nodes node taken next gs hs ks ls o there away h a k t l =
    let n = length gs + length o.nodes in
    let e : length hs ≡ n = ap length h ∙ length-append gs o.nodes in
    let made : taken next (length hs) ≡ taken next n = ap (taken next) e in
    let begins : there ≡ (taken next n).entry = t ∙ ap (λ m. m.entry) made in
    let middle : ks ≡ (gs ++ o.nodes) ++ (taken next n).nodes = k ∙ (λ i. h i ++ (made i).nodes) in
    l ∙ (λ i. middle i ++ node (begins i) (a i) ∷ []) ∙ append_assoc (gs ++ o.nodes) (taken next n).nodes (node (taken next n).entry o.entry ∷ [])
    ∙ append_assoc gs o.nodes ((taken next n).nodes ++ node (taken next n).entry o.entry ∷ [])

-- a branch to either of two pieces: the second is added first, and the branch last
pub add_either : {taken other : Piece} {r next : ℕ} {g h k l : Graph} {away there begins : ℕ} → Adds other next g h away → Adds taken next h k there →
    Adds (one (λ n. Branch (record { condition = Nz; arguments = One r }) there away)) 0 k l begins → Adds (either r taken other) next g l begins
add_either {taken} {other} {r} {next} {g} {h} {k} {l} {away} {there} {begins} o t b = record {
  had_space = λ space. o.had_space (t.had_space (b.had_space space));
  nodes = λ space.
      either_nodes (branch r) taken next g.nodes.items h.nodes.items k.nodes.items l.nodes.items (made other next g) there away
      (o.nodes (t.had_space (b.had_space space))) (o.entry (t.had_space (b.had_space space))) (t.nodes (b.had_space space)) (t.entry (b.had_space space)) (b.nodes space);
  entry = λ space.
      b.entry space ∙ more t (b.had_space space)
      ∙ (λ i. more o (t.had_space (b.had_space space)) i + length (taken next (more o (t.had_space (b.had_space space)) i)).nodes);
  too_many = λ full space. over full space k.is_full refl h.is_full refl;
  within = λ few. b.within (t.within (o.within few));
}
  where
    same : h.is_full ≡ false → taken next (length h.nodes.items) ≡ (behind taken next g (made other next g))
    same space = ap (taken next) (more o space)

    all : length ((made other next g).nodes ++ ((behind taken next g (made other next g)).nodes ++ branch r (behind taken next g (made other next g)).entry (made other next g).entry ∷ [])) ≡ length (made other next g).nodes + (length (behind taken next g (made other next g)).nodes + 1)
    all = length-append (made other next g).nodes ((behind taken next g (made other next g)).nodes ++ branch r (behind taken next g (made other next g)).entry (made other next g).entry ∷ []) ∙ ap (λ n. length (made other next g).nodes + n) (length-append (behind taken next g (made other next g)).nodes (branch r (behind taken next g (made other next g)).entry (made other next g).entry ∷ []))

    over : l.is_full ≡ true → g.is_full ≡ false → (b : Bool) → k.is_full ≡ b → (c : Bool) → h.is_full ≡ c →
        node_limit < length g.nodes.items + length ((made other next g).nodes ++ ((behind taken next g (made other next g)).nodes ++ branch r (behind taken next g (made other next g)).entry (made other next g).entry ∷ []))
    over full space x e true f = omega (arith, o.too_many f space, all)
    over full space true e false f = omega (arith, t.too_many e f, more o f, ap (λ m. length m.nodes) (same f), all)
    over full space false e false f = omega (arith, b.too_many full e, more t e, more o f, ap (λ m. length m.nodes) (same f), all)
