-- Why `sweep` meets its clause `told`, its loop over `j` keeps the invariant, and it may call `look`.
use Rattle.std.proofs.Common.{◌≡◌, ℕ, ◌+◌, ◌*◌, ◌<◌, ◌≤◌, set, refl, sym, ap, ◌∙◌, subst, arith}
use Rattle.rooms_table.specs.Family.{view_in}
use Rattle.rooms_table.specs.Places.{pair_of}
use Rattle.rooms_steps.specs.View.{View}
use Rattle.rooms_rights.specs.Rights.{Held}
use Rattle.rooms_rights.specs.Sweep.{FoundChanged}
use Rattle.rooms_rights.proofs.Sweeping.{first_words, may_then, next_words, none_yet, one_more, rights_left, stopped, told_of, SoFar}
use Rattle.rooms_rights.proofs.rights.Rights.sweep.Goals as goal

pub invariant_of-self : goal.invariant_of-self
invariant_of-self c =
    let shared = ap (λ t. t.shared.table_id) c.deref.ensures in
    let q = c.from-place.ensures ∙ ap (λ (k : Held). k.at.room) c.self.view_is in
    let r = c.from-stride.ensures ∙ ap (λ (k : Held). k.at.rooms) c.self.view_is in
    let least : 2 ≤ c.args.count = c.requires.least in
    let at0 = first_words c.args.self.now c.from-place.result q in
    let so0 = none_yet _ _ shared _ _ c.self.view_is c.args.count c.self.inside.token.me c.self.invariant refl c.args.seen.now c.told-seen c.requires in
    rights_left _ _ shared _ _ c.self.view_is c.args.count _ _ (may_then _ _ _ _ 0 _ _ _ so0 (omega arith) _ at0 _ refl c.look-found.new.seen _ c.look-found.ensures.kept _ _ c.look-found.ensures.found _ c.look-found.ensures.table)

pub returns-then-found-seen-clause-told : goal.returns-then-found-seen-clause-told
returns-then-found-seen-clause-told c =
    let shared = ap (λ t. t.shared.table_id) c.deref.ensures in
    let q = c.from-place.ensures ∙ ap (λ (k : Held). k.at.room) c.self.view_is in
    let r = c.from-stride.ensures ∙ ap (λ (k : Held). k.at.rooms) c.self.view_is in
    let least : 2 ≤ c.args.count = c.requires.least in
    let at0 = first_words c.args.self.now c.from-place.result q in
    let so0 = none_yet _ _ shared _ _ c.self.view_is c.args.count c.self.inside.token.me c.self.invariant refl c.args.seen.now c.told-seen c.requires in
    told_of _ _ shared _ _ c.self.view_is c.args.count (λ (v : View). FoundChanged 0 c.look-found.result c.args.count c.args.self.now.me.0 c.args.seen.now v (set c.args.seen.now 0 c.look-found.new.seen)) c.look-found.new.token.me (stopped _ _ _ _ 0 _ _ _ so0 (omega arith) _ at0 _ refl c.look-found.new.seen _ c.look-found.ensures.kept _ _ c.look-found.ensures.found _ c.look-found.ensures.table _ c.if-found-seen.true)

pub invariant_of-self-then-found-seen-2 : goal.invariant_of-self-then-found-seen-2
invariant_of-self-then-found-seen-2 c =
    let shared = ap (λ t. t.shared.table_id) c.deref.ensures in
    let q = c.from-place.ensures ∙ ap (λ (k : Held). k.at.room) c.self.view_is in
    let r = c.from-stride.ensures ∙ ap (λ (k : Held). k.at.rooms) c.self.view_is in
    let least : 2 ≤ c.args.count = c.requires.least in
    let at0 = first_words c.args.self.now c.from-place.result q in
    let so0 = none_yet _ _ shared _ _ c.self.view_is c.args.count c.self.inside.token.me c.self.invariant refl c.args.seen.now c.told-seen c.requires in
    let so1 = one_more _ _ _ _ 0 _ _ _ so0 (omega arith) _ at0 _ refl c.look-found.new.seen _ c.look-found.ensures.kept _ _ c.look-found.ensures.found _ c.look-found.ensures.table _ c.if-found-seen.false in
    let at1 = next_words c.args.self.now 0 _ _ at0 r in
    rights_left _ _ shared _ _ c.self.view_is c.args.count _ _ (may_then _ _ _ _ 1 _ _ _ so1 (omega arith) _ at1 _ refl c.look-found-2.new.seen _ c.look-found-2.ensures.kept _ _ c.look-found-2.ensures.found _ c.look-found-2.ensures.table)

pub returns-then-found-seen-2-clause-told : goal.returns-then-found-seen-2-clause-told
returns-then-found-seen-2-clause-told c =
    let shared = ap (λ t. t.shared.table_id) c.deref.ensures in
    let q = c.from-place.ensures ∙ ap (λ (k : Held). k.at.room) c.self.view_is in
    let r = c.from-stride.ensures ∙ ap (λ (k : Held). k.at.rooms) c.self.view_is in
    let least : 2 ≤ c.args.count = c.requires.least in
    let at0 = first_words c.args.self.now c.from-place.result q in
    let so0 = none_yet _ _ shared _ _ c.self.view_is c.args.count c.self.inside.token.me c.self.invariant refl c.args.seen.now c.told-seen c.requires in
    let so1 = one_more _ _ _ _ 0 _ _ _ so0 (omega arith) _ at0 _ refl c.look-found.new.seen _ c.look-found.ensures.kept _ _ c.look-found.ensures.found _ c.look-found.ensures.table _ c.if-found-seen.false in
    let at1 = next_words c.args.self.now 0 _ _ at0 r in
    told_of _ _ shared _ _ c.self.view_is c.args.count (λ (v : View). FoundChanged 1 c.look-found-2.result c.args.count c.args.self.now.me.0 c.args.seen.now v (set (set c.args.seen.now 0 c.look-found.new.seen) 1 c.look-found-2.new.seen)) c.look-found-2.new.token.me (stopped _ _ _ _ 1 _ _ _ so1 (omega arith) _ at1 _ refl c.look-found-2.new.seen _ c.look-found-2.ensures.kept _ _ c.look-found-2.ensures.found _ c.look-found-2.ensures.table _ c.if-found-seen-2.true)

pub look-found-requires-2 : goal.look-found-requires-2
look-found-requires-2 c =
    let shared = ap (λ t. t.shared.table_id) c.deref.ensures in
    let q = c.from-place.ensures ∙ ap (λ (k : Held). k.at.room) c.self.view_is in
    let r = c.from-stride.ensures ∙ ap (λ (k : Held). k.at.rooms) c.self.view_is in
    let least : 2 ≤ c.args.count = c.requires.least in
    let at0 = first_words c.args.self.now c.from-place.result q in
    let so0 = none_yet _ _ shared _ _ c.self.view_is c.args.count c.self.inside.token.me c.self.invariant refl c.args.seen.now c.told-seen c.requires in
    let so1 = one_more _ _ _ _ 0 _ _ _ so0 (omega arith) _ at0 _ refl c.look-found.new.seen _ c.look-found.ensures.kept _ _ c.look-found.ensures.found _ c.look-found.ensures.table _ c.if-found-seen.false in
    let at1 = next_words c.args.self.now 0 _ _ at0 r in
    record { held = c.args.self.now; count = c.args.count; node = 1; may = so1.may; below = omega arith; stands = at1 }

pub loop-j-init : goal.loop-j-init
loop-j-init c =
    let shared = ap (λ t. t.shared.table_id) c.deref.ensures in
    let q = c.from-place.ensures ∙ ap (λ (k : Held). k.at.room) c.self.view_is in
    let r = c.from-stride.ensures ∙ ap (λ (k : Held). k.at.rooms) c.self.view_is in
    let least : 2 ≤ c.args.count = c.requires.least in
    let at0 = first_words c.args.self.now c.from-place.result q in
    let so0 = none_yet _ _ shared _ _ c.self.view_is c.args.count c.self.inside.token.me c.self.invariant refl c.args.seen.now c.told-seen c.requires in
    let so1 = one_more _ _ _ _ 0 _ _ _ so0 (omega arith) _ at0 _ refl c.look-found.new.seen _ c.look-found.ensures.kept _ _ c.look-found.ensures.found _ c.look-found.ensures.table _ c.if-found-seen.false in
    let at1 = next_words c.args.self.now 0 _ _ at0 r in
    let so2 = one_more _ _ _ _ 1 _ _ _ so1 (omega arith) _ at1 _ refl c.look-found-2.new.seen _ c.look-found-2.ensures.kept _ _ c.look-found-2.ensures.found _ c.look-found-2.ensures.table _ c.if-found-seen-2.false in
    let at2 = next_words c.args.self.now 1 _ _ at1 r in
    record { so_far = so2; next = ap (λ (m : ℕ). 2 * c.from-place.result + 2 * c.from-stride.result + 2 * m) (sym r) ∙ at2 }

pub invariant_of-self-then-found-seen-3 : goal.invariant_of-self-then-found-seen-3
invariant_of-self-then-found-seen-3 c =
    let shared = ap (λ t. t.shared.table_id) c.deref.ensures in
    let r = c.from-stride.ensures ∙ ap (λ (k : Held). k.at.rooms) c.self.view_is in
    let inv = c.loop-j.invariant in
    let is : c.from-node.result ≡ c.loop-j.j = c.from-node.ensures in
    let low : c.from-node.result < c.args.count = let lt : c.loop-j.j < c.args.count = c.loop-j-test.true in omega arith in
    let next = ap (λ (m : ℕ). c.loop-j.place + 2 * m) r ∙ inv.next in
    let here = subst (λ (i : ℕ). c.loop-j.place + 2 * c.from-stride.result ≡ 2 * pair_of c.args.self.now.at.rooms c.args.self.now.at.room i) (sym is) next in
    let so = subst (λ (i : ℕ). SoFar c.deref.result.now.shared.table_id c.args.self.now c.args.count c.args.seen.now i c.loop-j.self-inside.1.1.0.table_id c.loop-j.self-inside.1.1.0.me c.loop-j.seen) (sym is) inv.so_far in
    rights_left _ _ shared _ _ c.self.view_is c.args.count _ _ (may_then _ _ _ _ c.from-node.result _ _ _ so low _ here _ refl c.look-found-in-loop-j.new.seen _ c.look-found-in-loop-j.ensures.kept _ _ c.look-found-in-loop-j.ensures.found _ c.look-found-in-loop-j.ensures.table)

pub returns-then-found-seen-3-clause-told : goal.returns-then-found-seen-3-clause-told
returns-then-found-seen-3-clause-told c =
    let shared = ap (λ t. t.shared.table_id) c.deref.ensures in
    let r = c.from-stride.ensures ∙ ap (λ (k : Held). k.at.rooms) c.self.view_is in
    let inv = c.loop-j.invariant in
    let is : c.from-node.result ≡ c.loop-j.j = c.from-node.ensures in
    let low : c.from-node.result < c.args.count = let lt : c.loop-j.j < c.args.count = c.loop-j-test.true in omega arith in
    let next = ap (λ (m : ℕ). c.loop-j.place + 2 * m) r ∙ inv.next in
    let here = subst (λ (i : ℕ). c.loop-j.place + 2 * c.from-stride.result ≡ 2 * pair_of c.args.self.now.at.rooms c.args.self.now.at.room i) (sym is) next in
    let so = subst (λ (i : ℕ). SoFar c.deref.result.now.shared.table_id c.args.self.now c.args.count c.args.seen.now i c.loop-j.self-inside.1.1.0.table_id c.loop-j.self-inside.1.1.0.me c.loop-j.seen) (sym is) inv.so_far in
    told_of _ _ shared _ _ c.self.view_is c.args.count (λ (v : View). FoundChanged c.loop-j.j c.look-found-in-loop-j.result c.args.count c.args.self.now.me.0 c.args.seen.now v (set c.loop-j.seen c.from-node.result c.look-found-in-loop-j.new.seen)) c.look-found-in-loop-j.new.token.me
    (subst (λ (i : ℕ). FoundChanged i c.look-found-in-loop-j.result c.args.count c.args.self.now.me.0 c.args.seen.now (view_in c.look-found-in-loop-j.new.token.me.0 c.args.self.now.at.room) (set c.loop-j.seen c.from-node.result c.look-found-in-loop-j.new.seen)) is (stopped _ _ _ _ c.from-node.result _ _ _ so low _ here _ refl c.look-found-in-loop-j.new.seen _ c.look-found-in-loop-j.ensures.kept _ _ c.look-found-in-loop-j.ensures.found _ c.look-found-in-loop-j.ensures.table _ c.if-found-seen-3.true))

pub loop-j-preserved : goal.loop-j-preserved
loop-j-preserved c =
    let shared = ap (λ t. t.shared.table_id) c.deref.ensures in
    let r = c.from-stride.ensures ∙ ap (λ (k : Held). k.at.rooms) c.self.view_is in
    let inv = c.loop-j.invariant in
    let is : c.from-node.result ≡ c.loop-j.j = c.from-node.ensures in
    let low : c.from-node.result < c.args.count = let lt : c.loop-j.j < c.args.count = c.loop-j-test.true in omega arith in
    let next = ap (λ (m : ℕ). c.loop-j.place + 2 * m) r ∙ inv.next in
    let here = subst (λ (i : ℕ). c.loop-j.place + 2 * c.from-stride.result ≡ 2 * pair_of c.args.self.now.at.rooms c.args.self.now.at.room i) (sym is) next in
    let so = subst (λ (i : ℕ). SoFar c.deref.result.now.shared.table_id c.args.self.now c.args.count c.args.seen.now i c.loop-j.self-inside.1.1.0.table_id c.loop-j.self-inside.1.1.0.me c.loop-j.seen) (sym is) inv.so_far in
    record {
      so_far = subst (λ (i : ℕ). SoFar c.deref.result.now.shared.table_id c.args.self.now c.args.count c.args.seen.now (i + 1) c.look-found-in-loop-j.new.token.table_id c.look-found-in-loop-j.new.token.me (set c.loop-j.seen c.from-node.result c.look-found-in-loop-j.new.seen)) is (one_more _ _ _ _ c.from-node.result _ _ _ so low _ here _ refl c.look-found-in-loop-j.new.seen _ c.look-found-in-loop-j.ensures.kept _ _ c.look-found-in-loop-j.ensures.found _ c.look-found-in-loop-j.ensures.table _ c.if-found-seen-3.false);
      next = ap (λ (m : ℕ). c.loop-j.place + 2 * c.from-stride.result + 2 * m) (sym r) ∙ next_words c.args.self.now c.loop-j.j _ _ next r;
    }
