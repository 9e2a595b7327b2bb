-- The lines of a folder that is looked at.
use Rattle.std.specs.Prelude.{ℕ, suc, if◌then◌else◌, List, [], ◌∷◌, ◌++◌, Option, Some, None, codes}
use Rattle.std.specs.Fmt.{decimal}
use Rattle.paxos_core_world.specs.declared.vote.Vote.{Vote}
use Rattle.paxos_core_world.specs.KeptPart.{KeptPart}
use Rattle.cfarm_fsck_chosen.specs.Chosen.{chosen_in, is_under}

-- the number of a node behind a blank, where its last vote is under this ballot
abbrev pub voter : ℕ → ℕ → Option Vote → List ℕ
voter b node vote = if is_under b vote then codes " " ++ decimal node else []

-- the numbers of all such nodes, counted from this one
abbrev pub voters_from : ℕ → ℕ → List KeptPart → List ℕ
voters_from b node [] = []
voters_from b node (k ∷ ks) = voter b node k.accepted ++ voters_from b (suc node) ks

abbrev pub told_of : Option Vote → List KeptPart → List ℕ
told_of None nodes = codes " open\n"
told_of (Some x) nodes =
    codes " chosen " ++ (decimal x.value ++ (codes " ballot " ++ (decimal x.ballot ++ (codes " by" ++ (voters_from x.ballot 0 nodes ++ codes "\n")))))

-- what is told of a room behind the name of its function: the pass, and what was chosen, and by which nodes
abbrev pub room_rest : ℕ → ℕ → List KeptPart → List ℕ
room_rest pass accept nodes = codes " pass " ++ (decimal pass ++ told_of (chosen_in accept nodes) nodes)

-- how many records the journal of a node lists, and how many bytes it has
abbrev pub node_line : ℕ → ℕ → ℕ → List ℕ
node_line node records size =
    codes "node " ++ (decimal node ++ (codes " " ++ (decimal records ++ (codes " records " ++ (decimal size ++ codes " bytes\n")))))
