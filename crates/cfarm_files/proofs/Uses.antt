-- What is known of disks grows, one use behind another.
use Rattle.std.proofs.Common.{◌≡◌, List, [], ◌∷◌, ◌++◌, Option, None, Some, sym, ap, subst, ◌∙◌, append_assoc, append-nil}
use Rattle.cfarm_files.specs.Using.{DiskUse, Uses, UsesNone}

module _ {D : Type 0} where
  pub uses_none : (o : Option (List (DiskUse D))) → UsesNone o o
  uses_none None = tt
  uses_none (Some before) = ap (λ l. Some l) (sym (append-nil before))

  pub uses_through : (a b c : Option (List (DiskUse D))) (xs ys : List (DiskUse D)) → Uses a b xs → Uses b c ys → Uses a c (xs ++ ys)
  uses_through None b c xs ys one two = tt
  uses_through (Some before) None c xs ys one two = absurd (cc one)
  uses_through (Some before) (Some mid) c xs ys one two =
      let same : mid ≡ before ++ xs = (let both : Some mid ≡ Some (before ++ xs) = one in cc both) in
      two ∙ ap (λ l. Some l) (ap (λ l. l ++ ys) same ∙ append_assoc before xs ys)

  -- nothing was used before
  pub none_uses : (a b c : Option (List (DiskUse D))) (xs : List (DiskUse D)) → UsesNone a b → Uses b c xs → Uses a c xs
  none_uses a b c xs one two = uses_through a b c [] xs one two

  -- nothing is used behind
  pub uses_none_behind : (a b c : Option (List (DiskUse D))) (xs : List (DiskUse D)) → Uses a b xs → UsesNone b c → Uses a c xs
  uses_none_behind None b c xs one two = tt
  uses_none_behind (Some before) None c xs one two = absurd (cc one)
  uses_none_behind (Some before) (Some mid) c xs one two = two ∙ (ap (λ l. Some l) (append-nil mid) ∙ one)

  -- with the rest of the uses behind these, all of them are behind those
  abbrev pub LeadsTo : (before now : Option (List (DiskUse D))) → (rest all : List (DiskUse D)) → Type 0
  LeadsTo before now rest all = (end : Option (List (DiskUse D))) → Uses now end rest → Uses before end all

  pub leads_first : (a : Option (List (DiskUse D))) (rest all : List (DiskUse D)) → rest ≡ all → LeadsTo a a rest all
  leads_first a rest all same end uses = subst (λ l. Uses a end l) same uses

  pub leads_on : (a b c : Option (List (DiskUse D))) (left rest all : List (DiskUse D)) (one : DiskUse D) → left ≡ one ∷ rest → LeadsTo a b left all
      → Uses b c (one ∷ []) → LeadsTo a c rest all
  leads_on a b c left rest all one is leads first end uses = leads end (subst (λ l. Uses b end l) (sym is) (uses_through b c end (one ∷ []) rest first uses))

  pub leads_all : (a b : Option (List (DiskUse D))) (left all : List (DiskUse D)) → left ≡ [] → LeadsTo a b left all → Uses a b all
  leads_all a b left all none leads = leads b (subst (λ l. Uses b b l) (sym none) (uses_none b))
