-- One disk more is used, behind those in front of it.
use Rattle.std.proofs.Common.{◌≡◌, ℕ, zero, suc, ◌+◌, List, [], ◌∷◌, ◌++◌, length, ap, refl, sym, subst, ◌∙◌, arith}
use Rattle.std.specs.Prelude.{Option}
use Rattle.cfarm_files.specs.Using.{DiskUse, Opened, Opens, Uses, UsesNone}
use Rattle.cfarm_files.proofs.Uses.{uses_none_behind, uses_through}
use Rattle.cfarm_options.specs.Paths.{journal_path, old_journal_path}
use Rattle.cfarm_build_folder.specs.Used.{OpensAndCloses, closings, openings, uses_from}

module _ {D : Type 0} (folder : List ℕ) where
  module _ (act : List ℕ → List ℕ → D → DiskUse D) where
    -- the use of one disk, over the files of this node
    abbrev use_at : ℕ → D → List (DiskUse D)
    use_at node disk = act (journal_path folder node) (old_journal_path folder node) disk ∷ []

    pub uses_more : (node : ℕ) (disks : List D) (disk : D) (last : ℕ) → last ≡ node + length disks
        → uses_from act folder node (disks ++ disk ∷ []) ≡ uses_from act folder node disks ++ use_at last disk
    uses_more node [] disk last is = let same : node ≡ last = omega (arith, is) in ap (λ n. use_at n disk) same
    uses_more node (d ∷ disks) disk last is =
        ap (λ l. act (journal_path folder node) (old_journal_path folder node) d ∷ l) (uses_more (node + 1) disks disk last (omega (arith, is)))

  -- the next pair is opened
  pub opens_more : (a b c : Option (List (DiskUse D))) (disks more : List D) (disk : D) (node : ℕ) → more ≡ disks ++ disk ∷ [] → node ≡ length disks
      → Uses a b (openings folder disks) → Uses b c (Opened (journal_path folder node) (old_journal_path folder node) disk ∷ [])
      → Uses a c (openings folder more)
  opens_more a b c disks more disk node is at so_far one =
      subst (λ l. Uses a c l)
      (sym (ap (λ l. openings folder l) is ∙ uses_more Opened 0 disks disk node (omega (arith, at))))
      (uses_through a b c (openings folder disks) (Opened (journal_path folder node) (old_journal_path folder node) disk ∷ []) so_far one)

  -- the next is refused, and those before it are closed
  pub closes_again : (a b c d : Option (List (DiskUse D))) (disks : List D) → Uses a b (openings folder disks) → UsesNone b c → Uses c d (closings folder disks)
      → OpensAndCloses folder a d disks disks
  closes_again a b c d disks opened unused closed =
      uses_through a c d (openings folder disks) (closings folder disks) (uses_none_behind a b c (openings folder disks) opened unused) closed

-- nothing is used of no disks
pub none_left : {D : Type 0} (act : List ℕ → List ℕ → D → DiskUse D) (folder : List ℕ) (node : ℕ) (disks : List D) → length disks ≡ 0
    → uses_from act folder node disks ≡ []
none_left act folder node [] none = refl
none_left act folder node (d ∷ disks) none = absurd (omega (arith, none))
