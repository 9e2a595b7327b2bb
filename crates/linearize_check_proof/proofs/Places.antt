-- Where the stretches stand in the code: a label leads to its node's stretch.
use Rattle.std.proofs.Common.{◌≡◌, ℕ, zero, suc, ◌+◌, ◌<◌, List, [], ◌∷◌, length, get_or, Option, Some, None, Bool, true, false, cond, drop, refl, sym, ap, ◌∙◌, subst, arith, inl, inr, ◌⊎◌}
use Rattle.std.specs.Prelude.{slice_get, Contains, nat_eq}
use Rattle.std.specs.Option.{option_map}
use Rattle.std.proofs.lemmas.List.{drop-drop}
use Rattle.std.proofs.lemmas.Bool.{eq-eqb}
use Rattle.std.proofs.lemmas.Bool.Decides.{eqb_tells}
use Rattle.linear_language.specs.Move.{Move}
use Rattle.linear_language.specs.Act.{Act}
use Rattle.ltl.specs.declared.block.Block.{Block}
use Rattle.ltl.specs.declared.block.Body.{Body}
use Rattle.ltl.specs.declared.block.Body.TheVariants as body
use Rattle.linear_language.specs.declared.instruction.Instruction.{Instruction}
use Rattle.linear_language.specs.declared.instruction.Instruction.TheVariants.{Do, Copy, Call, Branch, Return, Label, Goto}
use Rattle.linear_language.specs.Labels.{label_of, is_label, place_of}
use Rattle.linearize_check_proof.specs.Layout.{copies, act_code, is_next, body_code, stretch, order_code}

-- what stands at a place within
pub slice_get-some : {A : Type 0} (xs : List A) (n : ℕ) → n < length xs → (x : A) × (slice_get xs n ≡ Some x)
slice_get-some [] n below = absurd (omega (arith, below))
slice_get-some (x ∷ xs) zero below = (x, refl)
slice_get-some (x ∷ xs) (suc n) below = slice_get-some xs n (omega (arith, below))

-- the first instruction of what stands at a place
pub slice_get-drop : (code : List Instruction) (place : ℕ) (i : Instruction) (rest : List Instruction) → drop place code ≡ i ∷ rest → slice_get code place ≡ Some i
slice_get-drop [] zero i rest e = cc
slice_get-drop [] (suc place) i rest e = cc
slice_get-drop (j ∷ js) zero i rest e = let same : j ≡ i = cc in ap Some same
slice_get-drop (j ∷ js) (suc place) i rest e = slice_get-drop js place i rest e

-- what stands behind it
pub drop-behind : (code : List Instruction) (place : ℕ) (i : Instruction) (rest : List Instruction) → drop place code ≡ i ∷ rest → drop (place + 1) code ≡ rest
drop-behind code place i rest e = sym (drop-drop 1 place code) ∙ ap (drop 1) e

-- In this code the label leads to a place where the rest stands.
pub record Finds (label : ℕ) (code rest : List Instruction) : Type 0 where
  pub place : ℕ
  pub found : place_of label code ≡ Some place
  pub stands : drop place code ≡ rest

-- an instruction in front that is not the label
finds-behind : (label : ℕ) (i : Instruction) (code rest : List Instruction) → is_label label (label_of i) ≡ false → Finds label code rest → Finds label (i ∷ code) rest
finds-behind label i code rest other h = record {
  place = suc h.place;
  found = ap (λ b. cond b (Some 0) (option_map suc (place_of label code))) other ∙ ap (option_map suc) h.found;
  stands = h.stands;
}

finds-copies : (label : ℕ) (ms : List Move) (code rest : List Instruction) → Finds label code rest → Finds label (copies ms code) rest
finds-copies label [] code rest h = h
finds-copies label (m ∷ ms) code rest h = finds-behind label (Copy m) (copies ms code) rest refl (finds-copies label ms code rest h)

finds-act_code : (label : ℕ) (act : Option Act) (code rest : List Instruction) → Finds label code rest → Finds label (act_code act code) rest
finds-act_code label None code rest h = h
finds-act_code label (Some act) code rest h = finds-behind label (Do act) code rest refl h

finds-jump_when : (label s : ℕ) (b : Bool) (code rest : List Instruction) → Finds label code rest → Finds label (cond b code (Goto s ∷ code)) rest
finds-jump_when label s true code rest h = h
finds-jump_when label s false code rest h = finds-behind label (Goto s) code rest refl h

finds-body_code : (label : ℕ) (body : Body) (behind : List ℕ) (code rest : List Instruction) → Finds label code rest → Finds label (body_code body behind code) rest
finds-body_code label (body.Go act after successor) behind code rest h =
    finds-act_code label act _ rest (finds-copies label after _ rest (finds-jump_when label successor (is_next successor behind) code rest h))
finds-body_code label (body.Call function arguments target after successor) behind code rest h =
    finds-behind label (Call function arguments target) _ rest refl (finds-copies label after _ rest (finds-jump_when label successor (is_next successor behind) code rest h))
finds-body_code label (body.Branch test taken other) behind code rest h =
    finds-behind label (Branch test taken) _ rest refl (finds-jump_when label other (is_next other behind) code rest h)
finds-body_code label (body.Return value) behind code rest h = finds-behind label (Return value) code rest refl h

-- the stretch of another node in front
finds-stretch : (label n : ℕ) (b : Option Block) (behind : List ℕ) (code rest : List Instruction) → nat_eq n label ≡ false → Finds label code rest → Finds label (stretch n b behind code) rest
finds-stretch label n None behind code rest other h = h
finds-stretch label n (Some b) behind code rest other h =
    finds-behind label (Label n) _ rest other (finds-copies label b.before _ rest (finds-body_code label b.body behind code rest h))

-- the stretch of the node itself
finds-own : (label n : ℕ) (b : Block) (behind : List ℕ) (code : List Instruction) → nat_eq n label ≡ true → Finds label (stretch n (Some b) behind code) (stretch n (Some b) behind code)
finds-own label n b behind code same = record {
  place = 0;
  found = ap (λ v. cond v (Some 0) (option_map suc (place_of label (copies b.before (body_code b.body behind code))))) same;
  stands = refl;
}

-- every listed node is one of the function
pub record AreBlocks (blocks : List Block) (order : List ℕ) : Type 0 where
  pub block : (n : ℕ) → Contains order n → (b : Block) × (slice_get blocks n ≡ Some b)

pub Contains-later : (n : ℕ) (ns : List ℕ) (s : ℕ) → Contains ns s → Contains (n ∷ ns) s
Contains-later n ns s h = (suc h.0, omega (arith, h.1), h.2)

Contains-first : (n : ℕ) (ns : List ℕ) → Contains (n ∷ ns) n
Contains-first n ns = (0, omega arith, refl)

Contains-cases : (n : ℕ) (ns : List ℕ) (s k : ℕ) → k < length (n ∷ ns) → get_or (n ∷ ns) k s ≡ s → (n ≡ s) ⊎ Contains ns s
Contains-cases n ns s zero below e = inl e
Contains-cases n ns s (suc k) below e = inr (k, omega (arith, below), e)

finds-first : (blocks : List Block) (ns : List ℕ) (s : ℕ) (o : Option Block) → (b : Block) × (o ≡ Some b) → (code : List Instruction) → Finds s (stretch s o ns code) (stretch s o ns code)
finds-first blocks ns s None known code = cc (known.1)
finds-first blocks ns s (Some b) known code = finds-own s s b ns code (eq-eqb s s refl)

finds-front : (blocks : List Block) (n : ℕ) (ns : List ℕ) (s : ℕ) → n ≡ s → AreBlocks blocks (n ∷ ns) → Finds s (order_code blocks (n ∷ ns)) (order_code blocks (s ∷ ns))
finds-front blocks n ns s e known =
    subst (λ m. Finds s (order_code blocks (m ∷ ns)) (order_code blocks (s ∷ ns))) (sym e) (finds-first blocks ns s (slice_get blocks s) (subst (λ m. (b : Block) × (slice_get blocks m ≡ Some b)) e (known.block n (Contains-first n ns))) (order_code blocks ns))

-- each listed node's label leads to its stretch
pub finds-order : (blocks : List Block) (order : List ℕ) (s : ℕ) → AreBlocks blocks order → Contains order s → (behind : List ℕ) × Finds s (order_code blocks order) (order_code blocks (s ∷ behind))
finds-order blocks [] s known h = absurd (omega (arith, h.1))
finds-order blocks (n ∷ ns) s known h =
    elim (eqb_tells n s) as (λ _. (behind : List ℕ) × Finds s (order_code blocks (n ∷ ns)) (order_code blocks (s ∷ behind))) [
      | inl same ↦ (ns, finds-front blocks n ns s same.1 known)
      | inr other ↦ (
          let listed : Contains ns s = elim (Contains-cases n ns s h.0 h.1 h.2) as (λ _. Contains ns s) [ inl e ↦ absurd (other.1 e) | inr l ↦ l ] in
          let later = finds-order blocks ns s (record { block = λ m l. known.block m (Contains-later n ns m l) }) listed in
          (later.0, finds-stretch s n (slice_get blocks n) ns (order_code blocks ns) (order_code blocks (s ∷ later.0)) other.0 later.1)
          )
    ]
