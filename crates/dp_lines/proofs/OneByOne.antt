-- Lines that are judged one by one, where a refusal stays.
use Rattle.std.specs.Prelude.{◌≡◌, ℕ, Result, Ok, Err, List, [], ◌∷◌, ◌++◌}
use Rattle.std.proofs.Common.{refl, sym, ◌∙◌, ap}
use Rattle.dp_lines.specs.declared.line.Line.{Line}

-- all lines are judged by the step of one
pub record IsOneByOne {K E : Type 0} (step : Result K E → ℕ × Line → Result K E) (all : Result K E → List (ℕ × Line) → Result K E) : Type 0 where
  pub none : (r : Result K E) → all r [] ≡ r
  pub more : (r : Result K E) (e : ℕ × Line) (es : List (ℕ × Line)) → all r (e ∷ es) ≡ all (step r e) es
  pub stays : (x : E) (e : ℕ × Line) → step (Err x) e ≡ Err x

behind : {K E : Type 0} (step : Result K E → ℕ × Line → Result K E) (all : Result K E → List (ℕ × Line) → Result K E) → IsOneByOne step all →
    (r : Result K E) (given rest : List (ℕ × Line)) → all r (given ++ rest) ≡ all (all r given) rest
behind step all o r [] rest = ap (λ q. all q rest) (sym (o.none r))
behind step all o r (e ∷ given) rest = o.more r e (given ++ rest) ∙ behind step all o (step r e) given rest ∙ ap (λ q. all q rest) (sym (o.more r e given))

-- one more line
pub one_more : {K E : Type 0} (step : Result K E → ℕ × Line → Result K E) (all : Result K E → List (ℕ × Line) → Result K E) → IsOneByOne step all →
    (start was now : Result K E) (given : List (ℕ × Line)) (e : ℕ × Line) → was ≡ all start given → now ≡ step was e → now ≡ all start (given ++ e ∷ [])
one_more step all o start was now given e known judged =
    judged ∙ ap (λ r. step r e) known ∙ sym (behind step all o start given (e ∷ []) ∙ o.more (all start given) e [] ∙ o.none (step (all start given) e))

refused_stays : {K E : Type 0} (step : Result K E → ℕ × Line → Result K E) (all : Result K E → List (ℕ × Line) → Result K E) → IsOneByOne step all →
    (x : E) (es : List (ℕ × Line)) → all (Err x) es ≡ Err x
refused_stays step all o x [] = o.none (Err x)
refused_stays step all o x (e ∷ es) = o.more (Err x) e es ∙ ap (λ r. all r es) (o.stays x e) ∙ refused_stays step all o x es

-- the first refusal is that of the line that was refused
pub refused_at : {K E : Type 0} (step : Result K E → ℕ × Line → Result K E) (all : Result K E → List (ℕ × Line) → Result K E) → IsOneByOne step all →
    (start was : Result K E) (x : E) (given rest : List (ℕ × Line)) (e : ℕ × Line) → was ≡ all start given → step was e ≡ Err x → all start ((given ++ e ∷ []) ++ rest) ≡ Err x
refused_at step all o start was x given rest e known refused =
    behind step all o start (given ++ e ∷ []) rest
    ∙ ap (λ r. all r rest) (sym (one_more step all o start was (Err x) given e known (sym refused))) ∙ refused_stays step all o x rest
