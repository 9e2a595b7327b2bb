-- What a user is told of a file that is refused.
use Rattle.std.specs.Prelude.{ℕ, List, ◌++◌, codes}
use Rattle.cfarm_shown_paths.specs.Shown.{shown_path}
use Rattle.cfarm_files.specs.declared.reason.Reason.{Reason}
use Rattle.cfarm_files.specs.declared.reason.Reason.TheVariants.{Unsaid, Missing, Denied, Folder, NoFolder, ReadOnly, NoSpace, TooLarge, TooManyOpen, TooLong, Loop, Held, NotPlain, Other}

-- what stands behind its path: nothing where the reason is not said, else the end of the line, and the reason in one of its own
abbrev pub reason_tail : Reason → List ℕ
reason_tail Unsaid = codes ""
reason_tail Missing = codes "\nno such file or folder"
reason_tail Denied = codes "\npermission denied"
reason_tail Folder = codes "\nit is a folder"
reason_tail NoFolder = codes "\na part of the path is no folder"
reason_tail ReadOnly = codes "\nthe file system is read-only"
reason_tail NoSpace = codes "\nno space is left"
reason_tail TooLarge = codes "\nthe file would be too large"
reason_tail TooManyOpen = codes "\ntoo many files are open"
reason_tail TooLong = codes "\na name is too long"
reason_tail Loop = codes "\ntoo many links"
reason_tail Held = codes "\nanother process holds it"
reason_tail NotPlain = codes "\nsomething else than a plain file is there"
reason_tail Other = codes "\nthe system refuses it"

-- the line for the file of this path, as it is shown
abbrev pub file_line : List ℕ → Reason → List ℕ
file_line path reason = codes "file " ++ (shown_path path ++ reason_tail reason)
