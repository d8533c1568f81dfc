-- The text of a scaffold that is read while it comes in pieces.
use Rattle.std.specs.Prelude.{◌≡◌, ℕ, None, Ok, IsOk, List}
use Rattle.std.proofs.Common.{refl, sym, subst}
use Rattle.dp_lines.specs.Driving.{Coming, HasCome, limits}
use Rattle.dp_lines.specs.Lines.{Lines}
use Rattle.dp_lines.specs.SoFar.{lines_so_far}
use Rattle.dp_lines.specs.declared.line.Line.{Line}
use Rattle.dp_parts.specs.Problems.{posed}
use Rattle.dp_scaffold.specs.Answers.{Standing}
use Rattle.dp_scaffold.specs.Gathering.{gather_all, nothing}
use Rattle.dp_scaffold.specs.Texts.{IsScaffoldAnswer, has_no_refusal, scaffold_text}
use Rattle.dp_scaffold.specs.declared.answer.ScaffoldAnswer.{ScaffoldAnswer}
use Rattle.dp_scaffold.specs.declared.answer.ScaffoldAnswer.TheVariants.{Given, Unread, Refused}

-- a problem, and what the lines so far say
abbrev pub Going : Type 0
Going = Standing

-- these lines were gathered, and none of them is refused
pub record HasGathered (j : Going) (given : List (ℕ × Line)) : Type 0 where
  pub gathered : j.progress ≡ gather_all (posed j.problem) (Ok nothing) given
  pub going : IsOk j.progress

-- these bytes have come, more may follow, and each line whose end has come passes
abbrev pub IsBehind : Coming Going → List ℕ → Type 0
IsBehind j front = HasCome (HasGathered j.taker) front j.reader

-- the answer for this text, whose scaffold is one of the problem
pub record IsDue (j : Going) (text : List ℕ) (answer : ScaffoldAnswer) : Type 0 where
  pub answered : answer ≡ scaffold_text (posed j.problem) text
  pub scaffold : IsScaffoldAnswer j.problem answer

-- none of the text's lines whose end has come is refused
abbrev pub IsUnrefused : Going → List ℕ → Type 0
IsUnrefused j front = has_no_refusal (posed j.problem) front

-- a line of the text is refused, or it ends without a conclusion
abbrev pub Refuses : ScaffoldAnswer → Type 0
Refuses (Given scaffold) = ⊥
Refuses (Unread refusal) = Unit {0}
Refuses (Refused refusal text) = Unit {0}

-- where its lines so far were all gathered so, none is refused
pub quiet : (j : Going) (given : List (ℕ × Line)) (front : List ℕ) → HasGathered j given → lines_so_far limits front ≡ record { given = given; refusal = None } → IsUnrefused j front
quiet j given front h e =
    subst (λ (l : Lines). (l.refusal ≡ None) × IsOk (gather_all (posed j.problem) (Ok nothing) l.given)) (sym e) (refl, subst IsOk h.gathered h.going)
