-- What marks the place where a node acts, as the rest of a path (SVG 1.1, section 8.3).
use Rattle.std.specs.Prelude.{ℕ, ◌==◌, if◌then◌else◌, List, codes}
use Rattle.cfarm_sim.specs.declared.told.Told.{Told}
use Rattle.cfarm_sim.specs.declared.told.Told.TheVariants as told
use Rattle.cfarm_sim_lines.specs.declared.command.Command.{Command}
use Rattle.cfarm_sim_lines.specs.declared.command.Command.TheVariants as command
use Rattle.cfarm_sim_svg_shapes.specs.declared.marks.Mark.{Mark}
use Rattle.cfarm_sim_svg_shapes.specs.declared.marks.Mark.TheVariants.{Ring, Disk, Cross, Square, Dot}

-- of a call that sends a message
abbrev pub sending_mark : Command → Mark
sending_mark (command.Offer i) = Dot
sending_mark (command.Start i) = Disk
sending_mark (command.Propose i) = Disk
sending_mark (command.Restart i) = Dot
sending_mark (command.Deliver i k) = Dot

abbrev pub mark_of : Command → Told → Mark
mark_of c told.Offered = Ring
mark_of c told.Restarted = Cross
mark_of c told.Nothing = Dot
mark_of c told.Refused = Dot
mark_of c (told.Learned v) = Square
mark_of c (told.Sent number node message) = sending_mark c

abbrev pub mark_tail : Mark → List ℕ
mark_tail Ring = codes "m-5 0a5 5 0 0 0 10 0a5 5 0 0 0 -10 0\" fill=\"white\"/>"
mark_tail Disk = codes "m-5 0a5 5 0 0 0 10 0a5 5 0 0 0 -10 0\" fill=\"black\"/>"
mark_tail Cross = codes "m-6 -6l12 12m0 -12l-12 12\" stroke=\"crimson\" stroke-width=\"3\"/>"
mark_tail Square = codes "m-6 -6h12v12h-12z\" fill=\"limegreen\"/>"
mark_tail Dot = codes "m-2 0a2 2 0 0 0 4 0a2 2 0 0 0 -4 0\" fill=\"black\"/>"

-- the number of a node
abbrev pub name_tail : ℕ → List ℕ
name_tail n =
    if n == 0 then codes "m-4 0h8v14h-8z\"/>" else (if n == 1 then codes "v14\"/>" else (if n == 2 then codes "m-4 0h8v7h-8v7h8\"/>" else
    (if n == 3 then codes "m-4 0h8v7h-8m8 0v7h-8\"/>" else (if n == 4 then codes "m-4 0v7h8m0 -7v14\"/>" else
    (if n == 5 then codes "m4 0h-8v7h8v7h-8\"/>" else codes "m4 0h-8v14h8v-7h-8\"/>")))))
