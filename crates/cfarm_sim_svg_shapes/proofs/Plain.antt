-- Bytes that begin and end no tag: those of numbers, and of the lines that are printed.
use Rattle.std.proofs.Common.{◌≡◌, ℕ, zero, suc, ◌+◌, ◌<◌, ◌%◌, ◌/◌, ◌==◌, ◌||◌, ◌&&◌, not, Bool, true, false, cond, List, [], ◌∷◌, ◌++◌, Option, Some, None, refl, ap, ap₂, ◌∙◌, inl, inr, arith}
use Rattle.std.specs.Prelude.{codes, nat_lt}
use Rattle.std.specs.Fmt.{decimal, digit_glyph, digits, digits_onto}
use Rattle.std.proofs.lemmas.Bool.Decides.{eqb_tells}
use Rattle.paxos_core_world.specs.declared.msg.Msg.{Msg}
use Rattle.paxos_core_world.specs.declared.msg.Msg.TheVariants.{Prepare, Promise, Propose, Accepted}
use Rattle.paxos_core_world.specs.Quorum.{Sizes}
use Rattle.paxos_core_node_steps.specs.NodeState.{NodeState}
use Rattle.paxos_core.specs.Schedule.{Room}
use Rattle.cfarm_sim.specs.Plays.{closing, value_word, values}
use Rattle.cfarm_sim.specs.Told.{message_text, told_text}
use Rattle.cfarm_sim.specs.declared.told.Told.{Told}
use Rattle.cfarm_sim.specs.declared.told.Told.TheVariants as told
use Rattle.cfarm_sim_svg_shapes.specs.Labels.{opens, outside, turn}

-- it begins and ends no tag
abbrev pub is_plain : ℕ → Bool
is_plain b = not (opens b || (b == 62))

abbrev pub all_plain : List ℕ → Bool
all_plain [] = true
all_plain (b ∷ bs) = is_plain b && all_plain bs

-- whether one stands within a tag behind the bytes
abbrev pub within : Bool → List ℕ → Bool
within w [] = w
within w (b ∷ bs) = within (turn w b) bs

-- ---- what plain bytes leave

pub and_parts : (a b : Bool) → (a && b) ≡ true → (a ≡ true) × (b ≡ true)
and_parts true b e = (refl, e)
and_parts false b e = absurd (cc)

plain_parts : (o e : Bool) → not (o || e) ≡ true → (o ≡ false) × (e ≡ false)
plain_parts false false p = (refl, refl)
plain_parts false true p = absurd (cc)
plain_parts true e p = absurd (cc)

pub record Passes (xs : List ℕ) : Type 0 where
  pub in_tag : outside true xs ≡ []
  pub stays : within true xs ≡ true
  pub text : outside false xs ≡ xs
  pub out : within false xs ≡ false

pub passes : (xs : List ℕ) → all_plain xs ≡ true → Passes xs
passes [] e = record { in_tag = refl; stays = refl; text = refl; out = refl }
passes (b ∷ bs) e =
    let both = and_parts (is_plain b) (all_plain bs) e in
    let none = plain_parts (opens b) (b == 62) both.0 in
    let rest = passes bs both.1 in
    let inside : turn true b ≡ true = ap (λ t. cond t false true) none.1 in
    record {
      in_tag = ap (λ w. outside w bs) inside ∙ rest.in_tag;
      stays = ap (λ w. within w bs) inside ∙ rest.stays;
      text = (λ i. cond (none.0 i) [] (b ∷ []) ++ outside (none.0 i) bs) ∙ ap (λ l. b ∷ l) rest.text;
      out = ap (λ w. within w bs) none.0 ∙ rest.out;
    }

pub join : (xs ys : List ℕ) → all_plain xs ≡ true → all_plain ys ≡ true → all_plain (xs ++ ys) ≡ true
join [] ys p q = q
join (x ∷ xs) ys p q =
    let both = and_parts (is_plain x) (all_plain xs) p in
    ap₂ (λ s t. s && t) both.0 (join xs ys both.1 q)

-- ---- numbers

pub pick : {A : Type 0} (P : A → Type 0) (t : Bool) (x y : A) → P x → P y → P (cond t x y)
pick P true x y p q = p
pick P false x y p q = q

not_same : (a b : ℕ) → (a ≡ b → ⊥) → (a == b) ≡ false
not_same a b other = elim (eqb_tells a b) as (λ _. (a == b) ≡ false) [
  | inl same ↦ absurd (other same.1)
  | inr differ ↦ differ.0
]

apart : (b : ℕ) → (b ≡ 60 → ⊥) → (b ≡ 38 → ⊥) → (b ≡ 62 → ⊥) → is_plain b ≡ true
apart b p q r = λ i. not ((not_same b 60 p i || not_same b 38 q i) || not_same b 62 r i)

glyph_plain : (d : ℕ) → d < 10 → is_plain (digit_glyph false d) ≡ true
glyph_plain d small =
    pick (λ g. is_plain g ≡ true) (nat_lt d 10) (48 + d) (87 + d)
    (apart (48 + d) (λ e. omega arith) (λ e. omega arith) (λ e. omega arith))
    (apart (87 + d) (λ e. omega arith) (λ e. omega arith) (λ e. omega arith))

onto_plain : (k n : ℕ) (acc : List ℕ) → all_plain acc ≡ true → all_plain (digits_onto k 10 false n acc) ≡ true
onto_plain zero n acc p = p
onto_plain (suc k) n acc p =
    let g = digit_glyph false (n % 10) in
    let more : all_plain (g ∷ acc) ≡ true = ap₂ (λ s t. s && t) (glyph_plain (n % 10) (omega arith)) p in
    pick (λ l. all_plain l ≡ true) (n / 10 == 0) (g ∷ acc) (digits_onto k 10 false (n / 10) (g ∷ acc)) more (onto_plain k (n / 10) (g ∷ acc) more)

pub decimal_plain : (n : ℕ) → all_plain (decimal n) ≡ true
unfolding digits
decimal_plain n = onto_plain 64 n [] refl

pub decimal_passes : (n : ℕ) → Passes (decimal n)
decimal_passes n = passes (decimal n) (decimal_plain n)

-- ---- the lines

number : (n : ℕ) (rest : List ℕ) → all_plain rest ≡ true → all_plain (decimal n ++ rest) ≡ true
number n rest p = join (decimal n) rest (decimal_plain n) p

message_plain : (node : ℕ) (m : Msg) → all_plain (message_text node m) ≡ true
message_plain node (Prepare b) = number b _ (number node _ refl)
message_plain node (Promise from b None) = number b _ (number node _ refl)
message_plain node (Promise from b (Some x)) = number b _ (number node _ (number x.ballot _ (number x.value _ refl)))
message_plain node (Propose b v) = number b _ (number v _ (number node _ refl))
message_plain node (Accepted from b v) = number b _ (number v _ (number node _ refl))

pub told_plain : (t : Told) → all_plain (told_text t) ≡ true
told_plain told.Offered = refl
told_plain told.Restarted = refl
told_plain told.Nothing = refl
told_plain told.Refused = refl
told_plain (told.Learned v) = number v (codes "\n") refl
told_plain (told.Sent n node m) = number n (message_text node m) (message_plain node m)

word_plain : (o : Option ℕ) → all_plain (value_word o) ≡ true
word_plain None = refl
word_plain (Some v) = decimal_plain v

values_plain : (n : ℕ) (nodes : ℕ → NodeState) → all_plain (values n nodes) ≡ true
values_plain zero nodes = refl
values_plain (suc n) nodes = join (values n nodes) (value_word (nodes n).learned) (values_plain n nodes) (word_plain (nodes n).learned)

pub closing_plain : (q : Sizes) (room : Room) → all_plain (closing q room) ≡ true
closing_plain q room = join (values q.nodes room.nodes) (codes "\n") (values_plain q.nodes room.nodes) refl
