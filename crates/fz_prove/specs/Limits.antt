-- That a limit of scaffolds and logs is passed, and is told.
use Rattle.std.specs.Prelude.{◌≡◌, ℕ}
use Rattle.dp_lines.specs.declared.refusal.LineRefusal.{LineRefusal}
use Rattle.dp_lines.specs.declared.refusal.LineRefusal.TheVariants.{Form, Number, TooLong, LogTooLong, NotBuilt}
use Rattle.dp_scaffold.specs.declared.answer.ScaffoldAnswer.{ScaffoldAnswer}
use Rattle.dp_scaffold.specs.declared.answer.ScaffoldAnswer.TheVariants as gathered
use Rattle.dp_scaffold.specs.declared.refusal.GatherWhy.TheVariants.{TooMany}
use Rattle.fz_prove.specs.declared.proof.Proof.{Proof}
use Rattle.fz_prove.specs.declared.proof.Proof.TheVariants.{Solved, Unknown, Accepted, ScaffoldUnread, ScaffoldRefused, NotFollowing, LogUnread, LogRefused}

-- the line is refused for a limit: it is too long, or makes the text too long
abbrev pub IsTooLong : LineRefusal → Type 0
IsTooLong (Form line byte) = ⊥
IsTooLong (Number line byte) = ⊥
IsTooLong (TooLong line) = Unit {0}
IsTooLong (LogTooLong line) = Unit {0}
IsTooLong (NotBuilt line) = ⊥

-- the scaffold is refused for a limit: of its lines, or of its nogoods and literals
abbrev pub IsTooMuch : ScaffoldAnswer → Type 0
IsTooMuch (gathered.Given s) = ⊥
IsTooMuch (gathered.Unread refusal) = IsTooLong refusal
IsTooMuch (gathered.Refused refusal text) = refusal.why ≡ TooMany

-- the end tells that a limit is passed, and no disagreement
abbrev pub IsPastLimit : Proof → Type 0
IsPastLimit (Solved text) = ⊥
IsPastLimit (Unknown text) = ⊥
IsPastLimit (Accepted text claim) = ⊥
IsPastLimit (ScaffoldUnread refusal) = IsTooLong refusal
IsPastLimit (ScaffoldRefused refusal text) = refusal.why ≡ TooMany
IsPastLimit (NotFollowing place line id) = ⊥
IsPastLimit (LogUnread refusal) = IsTooLong refusal
IsPastLimit (LogRefused refusal text) = ⊥
