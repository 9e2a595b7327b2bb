-- What the program does with the words of a command line.
use Rattle.std.specs.Prelude.{◌≡◌, ◌⊎◌, ℕ, Bool, List, String, codes, map, string_bytes}
use Rattle.std.specs.declared.io.traits.Write as writing
use Rattle.clap.specs.declared.error.Error.{Error}
use Rattle.cfarm_output.specs.declared.errors.ErrorLines as lines
use Rattle.cfarm_build.specs.declared.farm.Farm as farms
use Rattle.cfarm_command_line_tasks.specs.declared.choices.Bounds.{Bounds}
use Rattle.cfarm_command_line_tasks.specs.declared.choices.Choices.{Choices}
use Rattle.cfarm_command_line_tasks.specs.declared.task.Task.{Task}
use Rattle.cfarm_program.specs.Answered.{IsAnswerShown}
use Rattle.cfarm_program.specs.declared.wording.Wording as wordings
use Rattle.cfarm_program.specs.Performed.{KeepsFiles, RunsTask}
use Rattle.cfarm_program_status.specs.Telling.{Answer, told}
use Rattle.cfarm_program_status.specs.Trace.{Trace}
use Rattle.cfarm_command_line_tasks.specs.Words.{AreChoices, AreRefusedRightly, AreRight, Asks, AsksNothing, IsWrong}

-- the words of the command line are not text
abbrev pub no_text : Answer
no_text = told 2 (codes "error: the words of the command line are not UTF-8")

-- Over this farm, with this output and lines for a user, who sees them or not, and with texts of what `clap` answers.
module _ {F H D L W E T : Type 0} (farm : farms.Ghosts F H D L) (output : writing.Ghosts W) (errors : lines.Ghosts E)
    (texts : wordings.Ghosts T) (is_seen : Bool) (wording : T) where
  module _ (choices : Choices) (words : List (List ℕ)) (t : Trace F W E) where
    -- The words, at which nothing is wrong where bounds of runs are said by numbers or by the word for none, ask for a task on a file, which is
    -- read and done.
    abbrev pub DoesAsked : Type 0
    DoesAsked = (bounds : Bounds) × (task : Task) × (path : List ℕ) × Asks bounds choices words task path × AreRight bounds choices words
        × RunsTask farm output errors is_seen task path t

    -- The words are refused, and no file is put. `clap` answers them with a fault of a kind that is one of theirs, or since memory was
    -- refused, which is all that is told of words that can be taken. The answer is shown.
    pub record Refuses : Type 0 where
      pub keeps : KeepsFiles farm t.files
      pub fault : Error
      pub kind : IsWrong choices words fault
      pub only : AreRefusedRightly choices words fault
      pub answered : IsAnswerShown output.contents errors.contents t.shows (texts.may_show wording) fault

    -- Words at which nothing is wrong and that ask for nothing, of which `clap` leaves none, are answered by 2 alone.
    abbrev pub DoesNothing : Type 0
    DoesNothing = KeepsFiles farm t.files × ((bounds : Bounds) × AsksNothing bounds choices words) × (t.shows.status ≡ 2)
        × (output.contents t.shows.out.exit.now.taker ≡ output.contents t.shows.out.entry.now.taker)
        × (errors.contents t.shows.err.exit.now ≡ errors.contents t.shows.err.entry.now)

  -- What the program does: what its words ask for, or that they are refused, by the choices that it offers.
  abbrev pub Runs : {Z : Type 0} → (words : List (String Z)) → Trace F W E → Type 0
  Runs words t = (choices : Choices) × AreChoices choices
      × (DoesAsked choices (map string_bytes words) t ⊎ Refuses choices (map string_bytes words) t ⊎ DoesNothing choices (map string_bytes words) t)
