-- A block is read back from its words, so its line tells it.
use Rattle.std.proofs.Common.{◌≡◌, ℕ, ◌<◌, ◌≤◌, ◌^◌, List, [], ◌∷◌, ◌++◌, map, codes, decimal, Option, Some, None, refl, sym, ap, ◌∙◌, arith}
use Rattle.std.specs.List.{AllByRecursion, flat_map}
use Rattle.std.specs.Option.{option_map}
use Rattle.std.proofs.lemmas.List.{append_assoc}
use Rattle.ints.specs.declared.conditions.Cond.{Cond}
use Rattle.lang_helpers.specs.Limits.{node_limit}
use Rattle.locations.specs.declared.location.Location.{Location}
use Rattle.locations.specs.declared.location.Location.TheVariants.{InRegister, InSlot}
use Rattle.locations.specs.declared.location.Move.{Move}
use Rattle.machine.specs.declared.arguments.Arguments.{Arguments}
use Rattle.machine.specs.declared.arguments.Arguments.TheVariants.{One, Two}
use Rattle.machine.specs.declared.act.Act.{Act}
use Rattle.machine.specs.declared.act.Act.TheVariants as act
use Rattle.ltl.specs.Function.{BlockFits, BodyFits, MaybeActFits, after_of as last_moves}
use Rattle.ltl.specs.declared.block.Block.{Block}
use Rattle.ltl.specs.declared.block.Body.{Body}
use Rattle.ltl.specs.declared.block.Body.TheVariants.{Go, Call, Branch, Return}
use Rattle.text_keys.specs.declared.key.Key.{Key}
use Rattle.text_keys.specs.declared.key.Key.TheVariants as key
use Rattle.text_keys.specs.declared.word.Word.{Word}
use Rattle.text_keys.specs.declared.word.Word.TheVariants.{Lettered, Number, Named}
use Rattle.text_keys.specs.Lines.{spaced, line_end}
use Rattle.text_keys.specs.Words.{WordFits, target_words}
use Rattle.text_keys.proofs.Clear.{Clear}
use Rattle.text_keys.proofs.Lines.{line_clear, all-append, spaced-append}
use Rattle.text_keys.proofs.Reading.{number_of, condition_of, condition_again, condition_at, first, others, at, target_of, done, target_number}
use Rattle.text_common.specs.Acts.{location_word}
use Rattle.text_common.proofs.Read.{location_of, arguments_of, locations_fit, place_fits, value_fits, test_fits, act_left_fits, act_right_fits}
use Rattle.text_ltl.specs.Shown.{move_words, maybe_left, maybe_right, body_left, body_right, call_words, behind, shown_moves, shown_body, shown_block}
use Rattle.text_ltl.proofs.Moved.{moves_words, moves_text, moves_of, behind_moves, Plain, moves_again, behind_moves_again, moves_fit}

-- the words before what is done, and those behind it
abbrev left : Block → List Word
left b = moves_words b.before ++ body_left b.body

abbrev onward : Body → List Word
onward b = moves_words (last_moves b) ++ behind b

-- the locations that the words begin with, and the words behind them
abbrev places_in : List Word → List Location
places_in (Lettered l n ∷ ws) = location_of (Lettered l n) ∷ places_in ws
places_in ws = []

abbrev behind_places : List Word → List Word
behind_places (Lettered l n ∷ ws) = behind_places ws
behind_places ws = ws

-- the node where it goes on: behind locations, moves and an arrow
abbrev after_of : List Word → List Move
after_of ws = moves_of (behind_places ws)

abbrev successor_of : List Word → ℕ
successor_of ws = at (others (behind_moves (behind_places ws)))

abbrev value_of : List Word → Option ℕ
value_of (Lettered l n ∷ ws) = Some n
value_of ws = None

abbrev does : Option Act → List Word → Body
does a ws = Go a (after_of ws) (successor_of ws)

-- what is meant by a key, a target and the words behind the key
abbrev meant : Option Word → Key → List Word → Body
meant t key.Nothing ws = does None ws
meant t (key.Operator o) ws = does (Some (act.Operate o (target_number t) (arguments_of ws))) ws
meant t key.Constant ws = does (Some (act.Constant (target_number t) (at ws))) (others ws)
meant t key.Load ws = does (Some (act.Load (target_number t) (at ws) (at (others ws)))) ws
meant t key.Store ws = does (Some (act.Store (at ws) (at (others ws)) (at (others (others ws))))) ws
meant t key.Put ws = does (Some (act.Put (at ws) (option_map number_of t))) ws
meant t key.Call ws = Call (at ws) (places_in (others ws)) (option_map location_of t) (after_of (others ws)) (successor_of (others ws))
meant t key.If ws = Branch (record { condition = condition_of (condition_at (first ws)); arguments = arguments_of (others ws) }) (successor_of (others ws)) (at (others (others (behind_places (others ws)))))
meant t key.Return ws = Return (value_of ws)
meant t _ ws = Return None

abbrev read_done : Option Word → List Word → Body
read_done t (Named k ∷ ws) = meant t k ws
read_done t _ = Return None

abbrev read_body : List Word → Body
read_body ws = read_done (target_of ws) (done ws)

abbrev read : List Word → Block
read ws = record { before = moves_of ws; body = read_body (behind_moves ws) }

-- ---- a body behind the first moves

-- what is done, before a key
acts : (a : Option Act) (k : Key) (ws : List Word) → read_body (maybe_left a ++ (maybe_right a ++ Named k ∷ ws)) ≡ does a (Named k ∷ ws)
acts None k ws = refl
acts (Some (act.Constant target word)) k ws = refl
acts (Some (act.Operate o target (One a))) k ws = refl
acts (Some (act.Operate o target (Two a b))) k ws = refl
acts (Some (act.Load target global index)) k ws = refl
acts (Some (act.Store global index source)) k ws = refl
acts (Some (act.Put source None)) k ws = refl
acts (Some (act.Put source (Some r))) k ws = refl

places_again : (ls : List Location) (k : Key) (ws : List Word) → places_in (map location_word ls ++ Named k ∷ ws) ≡ ls
places_again [] k ws = refl
places_again (InRegister r ∷ ls) k ws = ap (λ l. InRegister r ∷ l) (places_again ls k ws)
places_again (InSlot s ∷ ls) k ws = ap (λ l. InSlot s ∷ l) (places_again ls k ws)

behind_places_again : (ls : List Location) (k : Key) (ws : List Word) → behind_places (map location_word ls ++ Named k ∷ ws) ≡ Named k ∷ ws
behind_places_again [] k ws = refl
behind_places_again (InRegister r ∷ ls) k ws = behind_places_again ls k ws
behind_places_again (InSlot s ∷ ls) k ws = behind_places_again ls k ws

call_body : ℕ → List Location → Option Location → List Word → Body
call_body f ls t ws = Call f ls t (moves_of ws) (at (others (behind_moves ws)))

calls : (f : ℕ) (ls : List Location) (t : Option Location) (k : Key) (ws : List Word) → read_body (target_words location_word t ++ (call_words f ls ++ Named k ∷ ws)) ≡ call_body f ls t (Named k ∷ ws)
unfolding call_body
calls f ls None k ws = λ i. Call f (places_again ls k ws i) None (moves_of (behind_places_again ls k ws i)) (at (others (behind_moves (behind_places_again ls k ws i))))
calls f ls (Some (InRegister r)) k ws = λ i. Call f (places_again ls k ws i) (Some (InRegister r)) (moves_of (behind_places_again ls k ws i)) (at (others (behind_moves (behind_places_again ls k ws i))))
calls f ls (Some (InSlot s)) k ws = λ i. Call f (places_again ls k ws i) (Some (InSlot s)) (moves_of (behind_places_again ls k ws i)) (at (others (behind_moves (behind_places_again ls k ws i))))

-- an arrow and a node stand behind the last moves
abbrev arrow : ℕ → List Word
arrow s = Named key.Then ∷ Number s ∷ []

arrow_plain : (s : ℕ) → Plain (arrow s)
arrow_plain s = record { none = refl; same = refl }

-- what stands behind the bracket that opens the last moves
abbrev inside : Move → List Move → ℕ → List Word
inside m ms s = (flat_map move_words (m ∷ ms) ++ Named key.Closes ∷ []) ++ arrow s

goes : (a : Option Act) (after : List Move) (s : ℕ) → read_body (maybe_left a ++ (maybe_right a ++ onward (Go None after s))) ≡ Go a after s
goes a [] s = acts a key.Then (Number s ∷ [])
goes a (m ∷ ms) s = acts a key.Opens (inside m ms s) ∙ (λ i. Go a (moves_again (m ∷ ms) (arrow s) (arrow_plain s) i) (at (others (behind_moves_again (m ∷ ms) (arrow s) (arrow_plain s) i))))

called : (f : ℕ) (ls : List Location) (t : Option Location) (after : List Move) (s : ℕ) → read_body (target_words location_word t ++ (call_words f ls ++ onward (Go None after s))) ≡ Call f ls t after s
unfolding call_body
called f ls t [] s = calls f ls t key.Then (Number s ∷ [])
called f ls t (m ∷ ms) s = calls f ls t key.Opens (inside m ms s) ∙ (λ i. Call f ls t (moves_again (m ∷ ms) (arrow s) (arrow_plain s) i) (at (others (behind_moves_again (m ∷ ms) (arrow s) (arrow_plain s) i))))

branched : (c : Cond) (a : Arguments) (taken other : ℕ) → let b = Branch (record { condition = c; arguments = a }) taken other in read_body (body_left b ++ (body_right b ++ onward b)) ≡ b
branched c (One a) taken other = ap (λ k. Branch (record { condition = k; arguments = One a }) taken other) (condition_again c)
branched c (Two a b) taken other = ap (λ k. Branch (record { condition = k; arguments = Two a b }) taken other) (condition_again c)

abbrev words_of : Body → List Word
words_of b = body_left b ++ (body_right b ++ onward b)

body_again : (b : Body) → read_body (words_of b) ≡ b
body_again (Go a after s) = goes a after s
body_again (Call function arguments target after s) = called function arguments target after s
body_again (Branch test taken other) = branched test.condition test.arguments taken other
body_again (Return None) = refl
body_again (Return (Some r)) = refl

-- no body begins with a bracket
plain : (b : Body) → Plain (words_of b)
plain (Go None after s) = record { none = refl; same = refl }
plain (Go (Some (act.Constant target word)) after s) = record { none = refl; same = refl }
plain (Go (Some (act.Operate o target arguments)) after s) = record { none = refl; same = refl }
plain (Go (Some (act.Load target global index)) after s) = record { none = refl; same = refl }
plain (Go (Some (act.Store global index source)) after s) = record { none = refl; same = refl }
plain (Go (Some (act.Put source None)) after s) = record { none = refl; same = refl }
plain (Go (Some (act.Put source (Some r))) after s) = record { none = refl; same = refl }
plain (Call function arguments None after s) = record { none = refl; same = refl }
plain (Call function arguments (Some (InRegister r)) after s) = record { none = refl; same = refl }
plain (Call function arguments (Some (InSlot n)) after s) = record { none = refl; same = refl }
plain (Branch test taken other) = record { none = refl; same = refl }
plain (Return value) = record { none = refl; same = refl }

again : (b : Block) → read (left b ++ (body_right b.body ++ onward b.body)) ≡ b
again b =
    ap read (append_assoc (moves_words b.before) (body_left b.body) (body_right b.body ++ onward b.body))
    ∙ (λ i. record { before = moves_again b.before (words_of b.body) (plain b.body) i; body = read_body (behind_moves_again b.before (words_of b.body) (plain b.body) i) })
    ∙ (λ i. record { before = b.before; body = body_again b.body i })

-- ---- the words are in range

-- a block that fits in some function
pub record Fits (b : Block) : Type 0 where
  pub slots : ℕ
  pub nodes : ℕ
  pub few : slots ≤ 2 ^ 16
  pub low : nodes ≤ node_limit
  pub is : BlockFits slots nodes b

maybe_left_fits : (a : Option Act) → MaybeActFits a → AllByRecursion WordFits (maybe_left a)
maybe_left_fits None fits = tt
maybe_left_fits (Some a) fits = act_left_fits a fits

maybe_right_fits : (a : Option Act) → MaybeActFits a → AllByRecursion WordFits (maybe_right a)
maybe_right_fits None fits = (tt, tt)
maybe_right_fits (Some a) fits = act_right_fits a fits

body_left_fits : (slots nodes : ℕ) → slots ≤ 2 ^ 16 → (b : Body) → BodyFits slots nodes b → AllByRecursion WordFits (body_left b)
body_left_fits slots nodes few (Go a after s) fits = maybe_left_fits a fits.0
body_left_fits slots nodes few (Call function arguments target after s) fits = place_fits slots few target fits.0.target
body_left_fits slots nodes few (Branch test taken other) fits = tt
body_left_fits slots nodes few (Return value) fits = tt

left_fits : (b : Block) → Fits b → AllByRecursion WordFits (left b)
left_fits b fits = all-append (moves_words b.before) (body_left b.body) (moves_fit fits.slots fits.few b.before fits.is.before) (body_left_fits fits.slots fits.nodes fits.few b.body fits.is.body)

right_fits : (slots nodes : ℕ) → slots ≤ 2 ^ 16 → (b : Body) → BodyFits slots nodes b → AllByRecursion WordFits (body_right b)
right_fits slots nodes few (Go a after s) fits = maybe_right_fits a fits.0
right_fits slots nodes few (Call function arguments target after s) fits = (tt, (omega (arith, fits.0.function), locations_fit slots few arguments fits.0.arguments))
right_fits slots nodes few (Branch test taken other) fits = (tt, test_fits test fits.0)
right_fits slots nodes few (Return value) fits = (tt, value_fits value fits)

low_fits : (s nodes : ℕ) → s < nodes → nodes ≤ node_limit → s < 2 ^ 64
low_fits s nodes h low = omega (arith, h, low)

behind_fits : (slots nodes : ℕ) → slots ≤ 2 ^ 16 → nodes ≤ node_limit → (b : Body) → BodyFits slots nodes b → AllByRecursion WordFits (onward b)
behind_fits slots nodes few low (Go a after s) fits = all-append (moves_words after) (arrow s) (moves_fit slots few after fits.1) (tt, (low_fits s nodes fits.2 low, tt))
behind_fits slots nodes few low (Call function arguments target after s) fits = all-append (moves_words after) (arrow s) (moves_fit slots few after fits.1) (tt, (low_fits s nodes fits.2 low, tt))
behind_fits slots nodes few low (Branch test taken other) fits = (tt, (low_fits taken nodes fits.1 low, (low_fits other nodes fits.2 low, tt)))
behind_fits slots nodes few low (Return value) fits = tt

-- ---- the text is that of the words

told : Block → List ℕ
told b = spaced (left b) ++ (spaced (body_right b.body) ++ (spaced (onward b.body) ++ line_end))

behind_text : (b : Body) → shown_moves (last_moves b) ++ (spaced (behind b) ++ line_end) ≡ spaced (onward b) ++ line_end
behind_text b =
    ap (λ t. t ++ (spaced (behind b) ++ line_end)) (moves_text (last_moves b))
    ∙ sym (append_assoc (spaced (moves_words (last_moves b))) (spaced (behind b)) line_end)
    ∙ ap (λ t. t ++ line_end) (sym (spaced-append (moves_words (last_moves b)) (behind b)))

block_text : (b : Block) → shown_moves b.before ++ shown_body b.body ≡ told b
unfolding told
block_text b =
    let right = spaced (body_right b.body) in
    ap (λ t. shown_moves b.before ++ (spaced (body_left b.body) ++ (right ++ t))) (behind_text b.body)
    ∙ ap (λ t. t ++ (spaced (body_left b.body) ++ (right ++ (spaced (onward b.body) ++ line_end)))) (moves_text b.before)
    ∙ sym (append_assoc (spaced (moves_words b.before)) (spaced (body_left b.body)) (right ++ (spaced (onward b.body) ++ line_end)))
    ∙ ap (λ t. t ++ (right ++ (spaced (onward b.body) ++ line_end))) (sym (spaced-append (moves_words b.before) (body_left b.body)))

words_clear : (front : List ℕ) → Clear (λ b. front ++ told b) Fits (λ _. Unit {0})
unfolding told
words_clear front = line_clear left (λ b. body_right b.body) (λ b. onward b.body) Fits read again left_fits
    (λ b fits. right_fits fits.slots fits.nodes fits.few b.body fits.is.body) (λ b fits. behind_fits fits.slots fits.nodes fits.few fits.low b.body fits.is.body) front

pub block_clear : (n : ℕ) → Clear (shown_block n) Fits (λ _. Unit {0})
block_clear n a b r s fits fits' ends ends' e =
    let front = codes "  " ++ decimal n in
    words_clear front a b r s fits fits' ends ends' (ap (λ t. (front ++ t) ++ r) (sym (block_text a)) ∙ e ∙ ap (λ t. (front ++ t) ++ s) (block_text b))
