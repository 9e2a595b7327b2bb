-- Why `compare` may call `compare`.
use Rattle.std.proofs.Common.{◌≡◌, sym, ap, ◌∙◌, subst, ◌<◌, ℕ, List, length, get_or}
use Rattle.rooms_cells.specs.Seen.{SightOf, names_of}
use Rattle.rooms_cells.proofs.Rows.{get_or-map}
use Rattle.rooms_cells.proofs.shelf.Sights.compare.Goals as goal

pub compare-requires : goal.compare-requires
compare-requires g c =
    let a = c.self.invariant in
    let b = c.other.invariant in
    get_or-map (λ s. s.cell) c.self.inside.sights c.args.j c.index-self-j.result 0 (subst (λ (n : ℕ). c.args.j < n) (sym a.size) c.if-j-lt7.true)
    ∙ (ap (λ (ns : List ℕ). get_or ns c.args.j 0) (ap (λ s. names_of s) c.self.view_is ∙ (c.requires ∙ sym (ap (λ s. names_of s) c.other.view_is)))
    ∙ sym (get_or-map (λ s. s.cell) c.other.inside.sights c.args.j c.index-other-j.result 0 (subst (λ (n : ℕ). c.args.j < n) (sym b.size) c.if-j-lt7.true)))
