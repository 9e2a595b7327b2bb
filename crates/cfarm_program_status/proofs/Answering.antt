-- A line that is told with a status.
use Rattle.std.specs.Prelude.{◌≡◌, ℕ, Bool, true, false, ◌&&◌, List, [], ◌∷◌, ◌++◌, Option, None, Some, IfSome}
use Rattle.std.specs.Fmt.{with_newline}
use Rattle.std.proofs.Common.{ap, subst, refl, inl, inr, append_assoc, true≢false, ◌∙◌}
use Rattle.std.specs.Io.KnownBytes.{Appends}
use Rattle.std.proofs.KnownBytes.{Appends-trans}
use Rattle.cfarm_output.specs.Errors.{ErrorsHeld, HasFailed, Tells}
use Rattle.cfarm_program_status.specs.Telling.{Answer, IsExplained, IsExplainedBy, IsShown, IsToldAs, IsToldAmong, IsToldBy, break_where, told}

-- the same status by another name
pub told_by : (s t : ℕ) (line : List ℕ) (r : ℕ) (before after : ErrorsHeld) → s ≡ t → IsToldAs (told s line) r before after → IsToldAs (told t line) r before after
told_by s t line r before after same is = subst (λ k. IsToldAs (told k line) r before after) same is

-- a line that was written and flushed
pub told_line : (o : Option (List ℕ)) (text : List ℕ) (status : ℕ) (before after : ErrorsHeld) → o ≡ Some text → IfSome (with_newline o) (Tells before after) → IsToldAs (told status text) status before after
told_line o text status before after e h = inl (refl, subst (λ x. IfSome (with_newline x) (Tells before after)) e h)

-- or it was not
pub untold_line : (text : List ℕ) (status : ℕ) (before after : ErrorsHeld) → HasFailed after → IsToldAs (told status text) 4 before after
untold_line text status before after failed = inr (refl, failed)

-- a line that is told alone
plain_by : (is_seen : Bool) (status : ℕ) (line : Option (List ℕ)) (r : ℕ) (before after : ErrorsHeld) → IsToldBy status line r before after →
    IsExplainedBy is_seen status line r before after
plain_by is_seen status None r before after alone = alone
plain_by is_seen status (Some line) r before after alone = ([], [], ((λ unseen. (refl, refl)), (false, refl)), alone)

pub plainly : (is_seen : Bool) (answer : Answer) (r : ℕ) (before after : ErrorsHeld) → IsToldAs answer r before after → IsExplained is_seen answer r before after
plainly is_seen answer r before after alone = plain_by is_seen answer.status answer.line r before after alone

-- a line, and what is shown behind it
pub behind_line : (a b d : ErrorsHeld) (text behind : List ℕ) (status r : ℕ) → Tells a b (text ++ 10 ∷ []) → IsShown behind status r b d → IsToldAmong [] behind status text r a d
behind_line a b d text behind status r line (inl shown) =
    let more = Appends-trans a.bytes b.bytes d.bytes (text ++ 10 ∷ []) behind line.0 shown.1.0 in
    inl (shown.0, (subst (λ l. Appends a.bytes d.bytes l) (append_assoc text (10 ∷ []) behind) more, shown.1.1 ∙ line.1))
behind_line a b d text behind status r line (inr failed) = inr failed

pub told_behind : (o : Option (List ℕ)) (a b d : ErrorsHeld) (text behind : List ℕ) (status r : ℕ) → o ≡ Some text → IfSome (with_newline o) (Tells a b) →
    IsShown behind status r b d → IsToldAmong [] behind status text r a d
told_behind o a b d text behind status r e line shown =
    behind_line a b d text behind status r (subst (λ x. IfSome (with_newline x) (Tells a b)) e line) shown

-- what is told in front of them
pub before_line : (a b d : ErrorsHeld) (front text behind : List ℕ) (status r : ℕ) → Tells a b front → IsToldAmong [] behind status text r b d → IsToldAmong front behind status text r a d
before_line a b d front text behind status r first (inl more) =
    inl (more.0, (Appends-trans a.bytes b.bytes d.bytes front (text ++ 10 ∷ behind) first.0 more.1.0, more.1.1 ∙ first.1))
before_line a b d front text behind status r first (inr failed) = inr failed

-- a line with what a user is shown round it
pub among : (is_seen is_amid : Bool) (behind : List ℕ) (s t : ℕ) (line : List ℕ) (r : ℕ) (before after : ErrorsHeld) → s ≡ t →
    (is_seen ≡ false → is_amid ≡ false) → (is_seen ≡ false → behind ≡ []) → IsToldAmong (break_where is_amid) behind s line r before after →
    IsExplained is_seen (told t line) r before after
among is_seen is_amid behind s t line r before after same amid more told_so =
    (break_where is_amid, behind, ((λ unseen. (ap break_where (amid unseen), more unseen)), (is_amid, refl)), subst (λ k. IsToldAmong (break_where is_amid) behind k line r before after) same told_so)

-- nothing stands amid a line that nobody sees
pub never_amid : (is_seen b : Bool) (amid : Bool) → amid ≡ (is_seen && b) → is_seen ≡ false → amid ≡ false
never_amid true b amid e unseen = absurd (true≢false unseen)
never_amid false b amid e unseen = e
