-- The problems of the tests are problems.
use Rattle.std.proofs.Common.{◌≡◌, ℕ, zero, suc, ◌<◌, List, [], ◌∷◌, length, codes, Some, None, slice_get, sym, subst, refl, arith}
use Rattle.dp_base.specs.Lists.{Each}
use Rattle.dp_domain.specs.Faces.{Covers}
use Rattle.dp_parts.specs.declared.goal.Goal.TheVariants.{Satisfy}
use Rattle.dp_parts.specs.declared.part.Part.{Part}
use Rattle.dp_parts.specs.Parts.{face_of}
use Rattle.dp_parts.specs.Problems.{Csp, IsProblem}

abbrev names : List (List ℕ × ℕ)
names = (codes "x", 0) ∷ (codes "y", 1) ∷ []

abbrev own : List ℕ
own = 0 ∷ 1 ∷ []

own_of : (x place : ℕ) → slice_get own x ≡ Some place → (name : List ℕ) × (slice_get names place ≡ Some (name, x))
own_of zero place e = let at : 0 ≡ place = cc in (codes "x", subst (λ k. slice_get names k ≡ Some (codes "x", 0)) at refl)
own_of (suc zero) place e = let at : 1 ≡ place = cc in (codes "y", subst (λ k. slice_get names k ≡ Some (codes "y", 1)) at refl)
own_of (suc (suc x)) place e = let none : None ≡ Some place = e in cc

pub two : (p : Csp) (q r s : Part) → Each (λ x. x < 2) (face_of q).scope → Each (λ x. x < 2) (face_of r).scope → Each (λ x. x < 2) (face_of s).scope
    → p.names ≡ names → p.own ≡ own → length p.initial ≡ 2 → p.parts ≡ (q ∷ []) ∷ (r ∷ s ∷ []) ∷ [] → p.goal ≡ Satisfy → IsProblem p
two p q r s hq hr hs isn iso isi isp isg =
    let on : (t : Part) → Each (λ x. x < 2) (face_of t).scope → Covers (face_of t).scope p.initial = λ t h. subst (λ (n : ℕ). Each (λ x. x < n) (face_of t).scope) (sym isi) h in
    subst IsProblem (λ j. record { names = sym isn j; own = sym iso j; initial = p.initial; parts = sym isp j; goal = sym isg j })
    (record {
      names = (omega arith, (omega arith, tt));
      spelled = (refl, (refl, tt));
      owned = sym isi;
      own = own_of;
      parts = ((on q hq, tt), ((on r hr, (on s hs, tt)), tt));
      goal = tt;
      few_names = omega arith;
      few_variables = omega arith;
      few_constraints = omega arith;
      few_parts = (omega arith, (omega arith, tt));
    })
