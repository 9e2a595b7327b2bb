-- A schedule that is cut off: what was printed is a beginning of what is shown.
use Rattle.std.proofs.Common.{◌≡◌, ◌≢◌, ℕ, List, [], ◌∷◌, ◌++◌, Option, Result, Ok, Err, OnOk, OnErr, IfErr, ◌⊎◌, inl, inr, refl, sym, ap, ◌∙◌, subst, append_assoc}
use Rattle.std.specs.Io.KnownBytes.{Appends, Keeps}
use Rattle.std.proofs.KnownBytes.{Appends-kept, Appends-nil, Appends-trans}
use Rattle.lang_base.specs.Behaviour.{IsBeginningOf}
use Rattle.lang_base.proofs.Beginnings.{IsBeginningOf-refl, IsBeginningOf-trans}
use Rattle.paxos_core_world.specs.Quorum.{Sizes}
use Rattle.paxos_core.specs.Schedule.{Room, NodeCall, played}
use Rattle.cfarm_output.specs.Begun.{IsBegun}
use Rattle.cfarm_output.proofs.Beginnings.{begun_by}
use Rattle.cfarm_sim_lines.specs.Commands.{line_of}
use Rattle.cfarm_sim.specs.Plays.{HasObeyed, IsAsked, IsCutOff, IsLine, IsStopped, StopsAt, closing, printed, shown_of}
use Rattle.cfarm_sim.specs.Rooms.{start, told_by}
use Rattle.cfarm_sim_lines.specs.Texts.{IsLeft}
use Rattle.cfarm_sim.specs.Told.{told_text}
use Rattle.cfarm_sim_lines.specs.declared.command.Command.{Command}
use Rattle.cfarm_sim.specs.declared.error.ScheduleError.{ScheduleError}
use Rattle.cfarm_sim.specs.declared.error.ScheduleError.TheVariants.{NoMemory, Schedule, Write}
use Rattle.cfarm_sim.specs.declared.told.Told.{Told}
use Rattle.cfarm_sim.proofs.Going.{IsGoing, next_left}

-- nothing is a beginning of all
pub none_begun : (text : List ℕ) (known : Option (List ℕ)) → IsBegun text known known
none_begun text known = ([], (text, refl), Appends-nil known)

-- a beginning of more, behind what was printed before
begun_behind : (front text : List ℕ) (before mid after : Option (List ℕ)) → Appends before mid front → IsBegun text mid after → IsBegun (front ++ text) before after
begun_behind front text before mid after first begun =
    let rest = begun.1.0 in
    (front ++ begun.0, (rest, append_assoc front begun.0 rest ∙ ap (λ l. front ++ l) begun.1.1), Appends-trans before mid after front begun.0 first begun.2)

-- the lines of the calls are a beginning of what is shown
is_shown : (q : Sizes) (calls : List NodeCall) (rest : List ℕ) → IsBeginningOf (printed q calls) (shown_of q calls rest)
is_shown q calls [] = (closing q (played (start q) calls), refl)
is_shown q calls (b ∷ rest) = IsBeginningOf-refl (printed q calls)

longer_begun : (xs ys : List ℕ) (before after : Option (List ℕ)) → IsBeginningOf xs ys → IsBegun xs before after → IsBegun ys before after
longer_begun xs ys before after more begun = (begun.0, IsBeginningOf-trans begun.0 xs ys begun.1 more, begun.2)

-- the lines so far are all that is printed
pub cut_going : (text : List ℕ) (q : Sizes) (number : ℕ) (rest : List ℕ) (room : Room) (before now after : Option (List ℕ)) → IsGoing text q number rest room before now
    → Keeps now after → IsCutOff text before after
cut_going text q number rest room before now after so kept = record {
  quorums = q;
  head = so.head;
  commands = so.commands;
  calls = so.calls;
  rest = rest;
  says = so.says;
  lines = so.left;
  done = so.done;
  output = longer_begun (printed q so.calls) (shown_of q so.calls rest) before after (is_shown q so.calls rest)
      (begun_by (printed q so.calls) before after (Appends-kept before now after (printed q so.calls) so.output kept));
}

-- a command was done, and of its line a beginning is printed
pub cut_within : (text : List ℕ) (q : Sizes) (number : ℕ) (rest line behind : List ℕ) (room later : Room) (before now after : Option (List ℕ)) (c : Command) (told : Told)
    → IsGoing text q number rest room before now → rest ≢ [] → IsLine rest line behind → line ≡ line_of c
    → HasObeyed q room c told later → IsBegun (told_text told) now after → IsCutOff text before after
cut_within text q number rest line behind room later before now after c told so more split is did begun =
    let k = did.0 in
    let is_told : told ≡ told_by (played (start q) so.calls) k = did.3 ∙ ap (λ (r : Room). told_by r k) so.stands in
    let lines = begun_behind (printed q so.calls) (told_text (told_by (played (start q) so.calls) k)) before now after so.output
    (subst (λ t. IsBegun (told_text t) now after) is_told begun) in
    record {
      quorums = q;
      head = so.head;
      commands = c ∷ so.commands;
      calls = k ∷ so.calls;
      rest = behind;
      says = so.says;
      lines = next_left text so.head so.commands c rest line behind more is so.left split;
      done = (so.done, subst (λ (r : Room). IsAsked q r c k) so.stands did.1);
      output = longer_begun (printed q (k ∷ so.calls)) (shown_of q (k ∷ so.calls) behind) before after (is_shown q (k ∷ so.calls) behind) lines;
    }

-- the last line was begun
pub cut_last : (text : List ℕ) (q : Sizes) (number : ℕ) (rest : List ℕ) (room : Room) (before now after : Option (List ℕ)) (last : List ℕ) → IsGoing text q number rest room before now
    → rest ≡ [] → last ≡ closing q room → IsBegun last now after → IsCutOff text before after
cut_last text q number rest room before now after last so none is begun = record {
  quorums = q;
  head = so.head;
  commands = so.commands;
  calls = so.calls;
  rest = [];
  says = so.says;
  lines = subst (IsLeft text so.head so.commands) none so.left;
  done = so.done;
  output = begun_behind (printed q so.calls) (closing q (played (start q) so.calls)) before now after so.output
      (subst (λ l. IsBegun l now after) (is ∙ ap (closing q) so.stands) begun);
}

-- ---- what is answered

on_ok : {T : Type 0} (r : Result T ScheduleError) (P Q : Type 0) → (P → Q) → OnOk r P → OnOk r Q
on_ok (Ok x) P Q f h = f h
on_ok (Err e) P Q f h = tt

-- memory or the writer failed
pub cut : (e : ScheduleError) (text : List ℕ) (before after : Option (List ℕ)) → (e ≡ NoMemory) ⊎ (e ≡ Write) → IsCutOff text before after → IsStopped text e before after
cut e text before after (inl p) off = subst (λ (x : ScheduleError). IsStopped text x before after) (sym p) off
cut e text before after (inr p) off = subst (λ (x : ScheduleError). IsStopped text x before after) (sym p) off

pub cut_by : {T : Type 0} (r : Result T ScheduleError) (text : List ℕ) (before after : Option (List ℕ)) (P : Type 0) → IfErr r (λ e. (e ≡ NoMemory) ⊎ (e ≡ Write)) → OnErr r P
    → (P → IsCutOff text before after) → IfErr r (λ e. IsStopped text e before after)
cut_by (Ok x) text before after P kinds begun f = tt
cut_by (Err e) text before after P kinds begun f = cut e text before after kinds (f begun)

pub shown_by : {T : Type 0} (r : Result T ScheduleError) (P Q : Type 0) → OnOk r P → (P → Q) → OnOk r Q
shown_by r P Q h f = on_ok r P Q f h

-- a line is none, and what was printed before it is flushed
pub stopped_at : (e : ScheduleError) (text : List ℕ) (line : ℕ) (before now after : Option (List ℕ)) → (e ≡ Schedule line) ⊎ (e ≡ Write)
    → StopsAt text line before now → IsCutOff text before after → Keeps now after → IsStopped text e before after
stopped_at e text line before now after (inr p) stops off kept = subst (λ (x : ScheduleError). IsStopped text x before after) (sym p) off
stopped_at e text line before now after (inl p) stops off kept = subst (λ (x : ScheduleError). IsStopped text x before after) (sym p) (still stops)
  where
    still : StopsAt text line before now → StopsAt text line before after
    still (inl first) = inl (first.0, first.1, Appends-kept before now after [] first.2 kept)
    still (inr behind) = inr (record {
      quorums = behind.quorums;
      head = behind.head;
      commands = behind.commands;
      calls = behind.calls;
      rest = behind.rest;
      says = behind.says;
      lines = behind.lines;
      more = behind.more;
      number = behind.number;
      done = behind.done;
      none = behind.none;
      output = Appends-kept before now after (printed behind.quorums behind.calls) behind.output kept;
    })
