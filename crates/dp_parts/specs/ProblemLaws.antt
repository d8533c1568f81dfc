-- A problem is soundly posed, and its solutions solve it as it is posed.
use Rattle.std.specs.Prelude.{ℕ, List, [], ◌∷◌, length, map, ℤ}
use Rattle.dp_base.specs.Lists.{Each}
use Rattle.dp_domain.specs.Faces.{Covers}
use Rattle.dp_parts.specs.Parts.{MeetsPart, face_of}
use Rattle.dp_parts.specs.PartLaws.{part_lawful, part_sound}
use Rattle.dp_parts.specs.Posed.{IsSoundPart, IsSoundlyPosed, Passes, Solves}
use Rattle.dp_parts.specs.Problems.{Csp, IsProblem, IsSolution, labelled, posed}

-- a fact of each item of a list of lists gives one of each image
each_image : {A B : Type 0} (P : A → Type 0) (Q : B → Type 0) (f : A → B) → ((x : A) → P x → Q (f x)) → (xs : List A) → Each P xs → Each Q (map f xs)
each_image P Q f h [] e = tt
each_image P Q f h (x ∷ xs) e = (h x e.0, each_image P Q f h xs e.1)

-- the parts of a problem are sound as they are posed
pub soundly_posed : (p : Csp) → IsProblem p → IsSoundlyPosed (posed p)
soundly_posed p kept =
    each_image (Each (λ q. Covers (face_of q).scope p.initial)) (Each (IsSoundPart (length p.initial))) (map labelled)
    (λ ps e. each_image (λ q. Covers (face_of q).scope p.initial) (IsSoundPart (length p.initial)) labelled
    (λ q covers. record { lawful = part_lawful q; covered = covers }) ps e)
    p.parts kept.parts

-- a solution of a problem solves it as it is posed
pub solution_solves : (p : Csp) (s : ℕ → ℤ) → IsSolution s p → Solves s (posed p)
solution_solves p s solution = record {
  within = solution.within;
  passes = each_image (Each (λ q. MeetsPart q s)) (Each (λ part. Passes s part.face)) (map labelled)
      (λ ps e. each_image (λ q. MeetsPart q s) (λ part. Passes s part.face) labelled
      (λ q meets d covers lies. part_sound q d s covers lies meets) ps e)
      p.parts solution.meets;
}
