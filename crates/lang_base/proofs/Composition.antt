-- Keeping a meaning composes.
use Rattle.lang_base.specs.Behaviour.{Behaviour}
use Rattle.lang_base.specs.Keeps.{Keeps, Preserves}
use Rattle.lang_base.proofs.Beginnings.{IsBeginningOf-trans}

preserves_composes : (a b c : Behaviour) → Preserves a b → Preserves b c → Preserves a c
preserves_composes a b c p q = record {
  safe = q.safe;
  no_more = λ n.
      let m = q.no_more n in
      let l = p.no_more m.0 in
      (l.0, IsBeginningOf-trans _ _ _ m.1 l.1);
  ends = λ output result. (
    (λ h. (q.ends output result).0 ((p.ends output result).0 h)),
    (λ h. (p.ends output result).1 ((q.ends output result).1 h)),
  );
  no_less = λ m.
      let n = p.no_less m in
      let l = q.no_less n.0 in
      (l.0, IsBeginningOf-trans _ _ _ n.1 l.1);
}

pub keeps-composes : (a b c : Behaviour) → Keeps a b → Keeps b c → Keeps a c
keeps-composes a b c p q never = let first = p never in preserves_composes a b c first (q first.safe)
