-- A schedule that is under way: what was read, done and printed so far.
use Rattle.std.proofs.Common.{◌≡◌, ◌≢◌, ℕ, zero, suc, ◌+◌, ◌^◌, ◌<◌, ◌≤◌, List, [], ◌∷◌, ◌++◌, length, Option, Some, None, refl, sym, ap, ◌∙◌, subst, arith, inl, inr, ◌==◌, true, false, reverse, append_assoc, append-nil}
use Rattle.std.specs.Prelude.{slice_get}
use Rattle.std.specs.Option.{option_map}
use Rattle.std.specs.Io.KnownBytes.{Appends}
use Rattle.std.proofs.lemmas.Bool.Decides.{eqb_tells}
use Rattle.std.proofs.KnownBytes.{Appends-nil, Appends-trans}
use Rattle.std.proofs.lemmas.List.{reverse-append, length-reverse}
use Rattle.paxos_core_world.specs.Quorum.{Sizes}
use Rattle.paxos_core_world.specs.Settled.{Settled}
use Rattle.paxos_core_world.specs.World.{Has, no_nodes}
use Rattle.paxos_core_world.specs.declared.msg.Msg.{Msg}
use Rattle.paxos_core.specs.Call.{Call, On}
use Rattle.paxos_core.specs.Schedule.{Room, NodeCall, played, room_after, IsSchedule, SchedulesAreRuns, WasSent}
use Rattle.cfarm_sim_lines.specs.Commands.{line_of, IsHead, IsInWords}
use Rattle.cfarm_sim.specs.Plays.{asked, IsAsked, AreDone, printed, closing, HasObeyed, IsLine, IsNoCommand, IsShown, StopsAt}
use Rattle.cfarm_sim.specs.Rooms.{start, told_by}
use Rattle.cfarm_sim_lines.specs.Texts.{text_of, IsLeft, IsScheduleText, first_line}
use Rattle.cfarm_sim.specs.Told.{told_text}
use Rattle.cfarm_sim_lines.specs.declared.command.Command.{Command}
use Rattle.cfarm_sim_lines.specs.declared.command.Command.TheVariants as command
use Rattle.cfarm_sim.specs.declared.told.Told.{Told}

pub record IsGoing (text : List ℕ) (q : Sizes) (number : ℕ) (rest : List ℕ) (room : Room) (before now : Option (List ℕ)) : Type 0 where
  pub head : List ℕ
  pub commands : List Command
  pub calls : List NodeCall
  pub left : IsLeft text head commands rest
  pub lines : number ≡ length commands + 1
  pub says : IsHead head q
  pub done : AreDone q commands calls
  pub schedule : IsSchedule q.nodes (start q) calls
  pub stands : room ≡ played (start q) calls
  pub output : Appends before now (printed q calls)
  pub fits : number + length rest ≤ length text + 1

-- ---- messages

has_at : (sent : List Msg) (k : ℕ) (m : Msg) → slice_get sent k ≡ Some m → Has m sent
has_at [] k m e = absurd (cc)
has_at (x ∷ xs) zero m e = inl (cc)
has_at (x ∷ xs) (suc k) m e = inr (has_at xs k m e)

has_before : (xs : List Msg) (x m : Msg) → Has m (xs ++ x ∷ []) → Has m (x ∷ xs)
has_before [] x m h = h
has_before (y ∷ ys) x m (inl e) = inr (inl e)
has_before (y ∷ ys) x m (inr h) = elim (has_before ys x m h) as (λ _. Has m (x ∷ (y ∷ ys))) [
  | inl e ↦ inl e
  | inr old ↦ inr (inr old)
]

has_forward : (xs : List Msg) (m : Msg) → Has m (reverse xs) → Has m xs
has_forward [] m h = h
has_forward (x ∷ xs) m h = elim (has_before (reverse xs) x m (subst (Has m) (reverse-append (x ∷ []) xs) h)) as (λ _. Has m (x ∷ xs)) [
  | inl e ↦ inl e
  | inr old ↦ inr (has_forward xs m old)
]

was_sent : (sent : List Msg) (i : ℕ) (o : Option Msg) (k : NodeCall) → ((m : Msg) → o ≡ Some m → Has m sent) → option_map (λ m. record { node = i; call = On m }) o ≡ Some k → WasSent sent k.call
was_sent sent i None k h e = absurd (cc)
was_sent sent i (Some m) k h e = subst (λ (o : Option NodeCall). WasSent sent (call_in o)) e (h m refl)
  where
    call_in : Option NodeCall → Call
    call_in None = On m
    call_in (Some c) = c.call

abbrev pub WasCalled : List Msg → Option NodeCall → Type 0
WasCalled sent None = Unit {0}
WasCalled sent (Some k) = WasSent sent k.call

pub asked_was_sent : (sent : List Msg) (c : Command) (k : NodeCall) → asked sent c ≡ Some k → WasSent sent k.call
asked_was_sent sent (command.Offer i) k e = subst (λ (o : Option NodeCall). WasCalled sent o) e tt
asked_was_sent sent (command.Start i) k e = subst (λ (o : Option NodeCall). WasCalled sent o) e tt
asked_was_sent sent (command.Propose i) k e = subst (λ (o : Option NodeCall). WasCalled sent o) e tt
asked_was_sent sent (command.Restart i) k e = subst (λ (o : Option NodeCall). WasCalled sent o) e tt
asked_was_sent sent (command.Deliver i zero) k e = absurd (cc)
asked_was_sent sent (command.Deliver i (suc n)) k e = was_sent sent i (slice_get (reverse sent) n) k (λ m at. has_forward sent m (has_at (reverse sent) n m at)) e

-- ---- lines

longer : (xs ys : List ℕ) → 1 + length ys ≤ length (xs ++ 10 ∷ ys)
longer [] ys = omega arith
longer (x ∷ xs) ys = let h = longer xs ys in omega arith

some_left : (xs : List ℕ) → xs ≢ [] → 1 ≤ length xs
some_left [] h = absurd (h refl)
some_left (x ∷ xs) h = omega arith

pub first_going : (text : List ℕ) (q : Sizes) (line rest : List ℕ) (room : Room) (before : Option (List ℕ)) → IsHead line q
    → IsLine text line rest → room ≡ start q → IsGoing text q 1 rest room before before
first_going text q line rest room before says split stands = record {
  head = line;
  commands = [];
  calls = [];
  left = left split;
  lines = refl;
  says = says;
  done = tt;
  schedule = tt;
  stands = stands;
  output = Appends-nil before;
  fits = fits split;
}
  where
    left : IsLine text line rest → IsLeft text line [] rest
    left (inl e) = inl (e ∙ sym (append_assoc line (10 ∷ []) rest))
    left (inr p) = inr (p.1, ap (λ l. l ++ 10 ∷ []) p.0)

    fits : IsLine text line rest → 1 + length rest ≤ length text + 1
    fits (inl e) = let h = longer line rest in let same = ap length e in omega arith
    fits (inr p) = let none = ap length p.1 in omega arith

pub next_left : (text head : List ℕ) (commands : List Command) (c : Command) (rest line behind : List ℕ) → rest ≢ [] → line ≡ line_of c → IsLeft text head commands rest → IsLine rest line behind → IsLeft text head (c ∷ commands) behind
next_left text head commands c rest line behind more is (inr none) split = absurd (more none.0)
next_left text head commands c rest line behind more is (inl so) (inl e) =
    inl (so ∙ ap (λ l. text_of head commands ++ l) (e ∙ ap (λ l. l ++ 10 ∷ behind) is ∙ sym (append_assoc (line_of c) (10 ∷ []) behind))
    ∙ sym (append_assoc (text_of head commands) (line_of c ++ 10 ∷ []) behind))
next_left text head commands c rest line behind more is (inl so) (inr p) =
    inr (p.1, ap (λ l. l ++ 10 ∷ []) (so ∙ ap (λ l. text_of head commands ++ l) (p.0 ∙ is)) ∙ append_assoc (text_of head commands) (line_of c) (10 ∷ []))

next_fits : (number : ℕ) (rest line behind text : List ℕ) → rest ≢ [] → IsLine rest line behind → number + length rest ≤ length text + 1 → (number + 1) + length behind ≤ length text + 1
next_fits number rest line behind text more (inl e) h = let l = longer line behind in let same = ap length e in omega arith
next_fits number rest line behind text more (inr p) h = let some = some_left rest more in let none = ap length p.1 in omega arith

pub goes_on : (text : List ℕ) (q : Sizes) (number : ℕ) (rest line behind : List ℕ) (room later : Room) (before now after : Option (List ℕ)) (c : Command) (told : Told)
    → IsGoing text q number rest room before now → rest ≢ [] → IsLine rest line behind → line ≡ line_of c
    → HasObeyed q room c told later
    → Appends now after (told_text told)
    → IsGoing text q (number + 1) behind later before after
goes_on text q number rest line behind room later before now after c told so more split is did more_output =
    let k = did.0 in
    let stood : played (start q) so.calls ≡ room = sym so.stands in
    let is_asked : IsAsked q (played (start q) so.calls) c k = subst (λ (r : Room). IsAsked q r c k) so.stands did.1 in
    record {
      head = so.head;
      commands = c ∷ so.commands;
      calls = k ∷ so.calls;
      left = next_left text so.head so.commands c rest line behind more is so.left split;
      lines = ap (λ n. n + 1) so.lines ∙ omega arith;
      says = so.says;
      done = (so.done, is_asked);
      schedule = (so.schedule, is_asked.0, asked_was_sent (played (start q) so.calls).sent c k is_asked.1);
      stands = did.2 ∙ ap (λ (r : Room). room_after r k) so.stands;
      output = Appends-trans before now after (printed q so.calls) (told_text (told_by (played (start q) so.calls) k)) so.output
          (subst (λ t. Appends now after (told_text t)) (did.3 ∙ ap (λ (r : Room). told_by r k) so.stands) more_output);
      fits = next_fits number rest line behind text more split so.fits;
    }

-- ---- commands that cannot be done

got_within : (sent : List Msg) (k : ℕ) (m : Msg) → slice_get sent k ≡ Some m → k < length sent
got_within [] k m e = absurd (cc)
got_within (x ∷ xs) zero m e = omega arith
got_within (x ∷ xs) (suc k) m e = let h = got_within xs k m e in omega arith

abbrev pub node_in : ℕ → Option NodeCall → ℕ
node_in d None = d
node_in d (Some k) = k.node

pub delivered : (i : ℕ) (o : Option Msg) (k : NodeCall) → option_map (λ m. record { node = i; call = On m }) o ≡ Some k → (i ≡ k.node) × ((m : Msg) × (o ≡ Some m))
delivered i None k e = absurd (cc)
delivered i (Some m) k e = (ap (node_in i) e, (m, refl))

in_words : (q : Sizes) (room : Room) (c : Command) (k : NodeCall) → q.nodes < 256 → length room.sent < 2 ^ 64 → IsAsked q room c k → IsInWords c
in_words q room (command.Offer i) k few short asked = let e = ap (node_in i) asked.1 in let h = asked.0 in omega arith
in_words q room (command.Start i) k few short asked = let e = ap (node_in i) asked.1 in let h = asked.0 in omega arith
in_words q room (command.Propose i) k few short asked = let e = ap (node_in i) asked.1 in let h = asked.0 in omega arith
in_words q room (command.Restart i) k few short asked = let e = ap (node_in i) asked.1 in let h = asked.0 in omega arith
in_words q room (command.Deliver i zero) k few short asked = absurd (let e = asked.1 in cc)
in_words q room (command.Deliver i (suc n)) k few short asked =
    let d = delivered i (slice_get (reverse room.sent) n) k asked.1 in
    let h = asked.0 in
    let same = d.0 in
    let got = got_within (reverse room.sent) n d.1.0 d.1.1 in
    let all = length-reverse room.sent in
    (omega arith, omega arith)

pub no_command : (q : Sizes) (room : Room) (line : List ℕ) (found : Option Command) → q.nodes < 256 → length room.sent < 2 ^ 64
    → ((c : Command) → IsInWords c → line ≡ line_of c → found ≡ Some c)
    → ((c : Command) (k : NodeCall) → found ≡ Some c → IsAsked q room c k → ⊥)
    → IsNoCommand q room line
no_command q room line found few short only none = λ c k asked e. none c k (only c (in_words q room c k few short asked) e) asked

-- ---- the end

pub not_empty : (xs : List ℕ) → (length xs == 0) ≡ false → xs ≢ []
not_empty [] e p = absurd (cc)
not_empty (x ∷ xs) e p = absurd (cc)

pub shorter : (rest line behind : List ℕ) → rest ≢ [] → IsLine rest line behind → suc (length behind) ≤ length rest
shorter rest line behind more split =
    let h : (0 + 1) + length behind ≤ length rest = less split in
    omega arith
  where
    less : IsLine rest line behind → (0 + 1) + length behind ≤ length rest
    less (inl e) = let h = longer line behind in let same = ap length e in omega arith
    less (inr p) = let h = some_left rest more in let none = ap length p.1 in omega arith

pub stops : (text : List ℕ) (q : Sizes) (number : ℕ) (rest line : List ℕ) (room : Room) (before now : Option (List ℕ)) → IsGoing text q number rest room before now
    → rest ≢ [] → line ≡ first_line rest → IsNoCommand q room line → StopsAt text (number + 1) before now
stops text q number rest line room before now so more is none = elim so.left as (λ _. StopsAt text (number + 1) before now) [
  | inr empty ↦ absurd (more empty.0)
  | inl left ↦ inr (record {
    quorums = q;
    head = so.head;
    commands = so.commands;
    calls = so.calls;
    rest = rest;
    says = so.says;
    lines = left;
    more = more;
    number = ap (λ n. n + 1) so.lines ∙ omega arith;
    done = so.done;
    none = subst (λ l. IsNoCommand q (played (start q) so.calls) l) is (subst (λ (r : Room). IsNoCommand q r line) so.stands none);
    output = so.output;
  })
]

pub ends : (text : List ℕ) (q : Sizes) (number : ℕ) (rest : List ℕ) (room : Room) (before now after : Option (List ℕ)) (last : List ℕ) → IsGoing text q number rest room before now
    → rest ≡ [] → SchedulesAreRuns → Settled q no_nodes → last ≡ closing q room → Appends now after last → IsShown text before after
ends text q number rest room before now after last so none runs settled is more = record {
  quorums = q;
  head = so.head;
  commands = so.commands;
  calls = so.calls;
  says = so.says;
  lines = elim so.left as (λ _. IsScheduleText text so.head so.commands) [
    | inl left ↦ inl (left ∙ ap (λ l. text_of so.head so.commands ++ l) none ∙ append-nil (text_of so.head so.commands))
    | inr whole ↦ inr whole.1
  ];
  done = so.done;
  run = runs q no_nodes so.calls so.says.0 settled so.schedule;
  output = Appends-trans before now after (printed q so.calls) (closing q (played (start q) so.calls)) so.output
      (subst (λ l. Appends now after l) (is ∙ ap (closing q) so.stands) more);
}

pub empty : (xs : List ℕ) → (length xs == 0) ≡ true → xs ≡ []
empty [] e = refl
empty (x ∷ xs) e = elim (eqb_tells (suc (length xs)) 0) as (λ _. x ∷ xs ≡ []) [
  | inl same ↦ absurd (let zero_is = same.1 in omega arith)
  | inr other ↦ absurd (let f = other.0 in cc)
]
