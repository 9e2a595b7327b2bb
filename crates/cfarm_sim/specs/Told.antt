-- What is printed of a call.
use Rattle.std.specs.Prelude.{ℕ, List, ◌++◌, codes, Some, None}
use Rattle.std.specs.Fmt.{decimal}
use Rattle.paxos_core_world.specs.declared.msg.Msg.{Msg}
use Rattle.paxos_core_world.specs.declared.msg.Msg.TheVariants.{Prepare, Promise, Propose, Accepted}
use Rattle.cfarm_sim.specs.declared.told.Told.{Told}
use Rattle.cfarm_sim.specs.declared.told.Told.TheVariants as told

-- what a message says, and which node sends it
abbrev pub message_text : ℕ → Msg → List ℕ
message_text node (Prepare b) = codes " prepare " ++ (decimal b ++ (codes " from " ++ (decimal node ++ codes "\n")))
message_text node (Promise from b None) = codes " promise " ++ (decimal b ++ (codes " from " ++ (decimal node ++ codes " none\n")))
message_text node (Promise from b (Some x)) =
    codes " promise " ++ (decimal b ++ (codes " from " ++ (decimal node ++ (codes " " ++ (decimal x.ballot ++ (codes ":" ++ (decimal x.value ++ codes "\n")))))))
message_text node (Propose b v) =
    codes " propose " ++ (decimal b ++ (codes " " ++ (decimal v ++ (codes " from " ++ (decimal node ++ codes "\n")))))
message_text node (Accepted from b v) =
    codes " accepted " ++ (decimal b ++ (codes " " ++ (decimal v ++ (codes " from " ++ (decimal node ++ codes "\n")))))

abbrev pub told_text : Told → List ℕ
told_text told.Offered = codes "offered\n"
told_text told.Restarted = codes "restarted\n"
told_text told.Nothing = codes "none\n"
told_text told.Refused = codes "refused 501\n"
told_text (told.Learned value) = codes "learned " ++ (decimal value ++ codes "\n")
told_text (told.Sent number node message) = codes "#" ++ (decimal number ++ message_text node message)
