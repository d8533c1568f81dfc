-- Each nogood of a scaffold that a solver wrote follows, the conclusion's too.
use Rattle.std.proofs.Common.{◌≡◌, ℕ, zero, suc, ◌+◌, ◌<◌, true, List, [], ◌∷◌, ◌++◌, length, take, drop, refl, sym, ◌∙◌, ap, subst, inl, inr, arith, length-append}
use Rattle.std.proofs.lemmas.Bool.{cases_lt}
use Rattle.std.proofs.lemmas.List.{get_or_append_left, take-append-le}
use Rattle.std.proofs.Math.Seq.{get_or-append_seam, take-append_seam}
use Rattle.dp_domain.specs.Atoms.{Atomic}
use Rattle.dp_engine.specs.Runs.{follows}
use Rattle.dp_justify.specs.Pieces.{nogood_at}
use Rattle.dp_learning.specs.Learning.{AreLearned}
use Rattle.dp_parts.specs.Posed.{Posed}
use Rattle.dp_process.specs.Met.{EachMetFollows, Follows}

-- a nogood stands at its place
split_at : (nogoods : List (List Atomic)) (place : ℕ) → place < length nogoods → nogoods ≡ take place nogoods ++ nogood_at nogoods place ∷ drop (suc place) nogoods
split_at [] place h = absurd (omega arith)
split_at (n ∷ ns) zero h = refl
split_at (n ∷ ns) (suc place) h = ap (λ ms. n ∷ ms) (split_at ns place (omega arith))

-- what is the same follows too
follows_by : (p : Posed) (before others : List (List Atomic)) (nogood other : List Atomic) → others ≡ before → other ≡ nogood → follows p before nogood ≡ true → follows p others other ≡ true
follows_by p before others nogood other e f h = ap (λ ms. follows p ms other) e ∙ ap (follows p before) f ∙ h

module _ (p : Posed) (nogoods : List (List Atomic)) (last : List Atomic) (learned : AreLearned p nogoods) (concludes : follows p nogoods last ≡ true) where
  -- a learned nogood follows
  earlier : (place : ℕ) → place < length nogoods → Follows p (nogoods ++ last ∷ []) place
  earlier place h =
      follows_by p (take place nogoods) (take place (nogoods ++ last ∷ [])) (nogood_at nogoods place) (nogood_at (nogoods ++ last ∷ []) place)
      (take-append-le place nogoods (last ∷ []) (omega arith)) (get_or_append_left nogoods (last ∷ []) [] place h)
      (learned (take place nogoods) (drop (suc place) nogoods) (nogood_at nogoods place) (split_at nogoods place h)).follows

  -- so does the conclusion's
  at_end : (place : ℕ) → place ≡ length nogoods → Follows p (nogoods ++ last ∷ []) place
  at_end place e =
      subst (λ i. Follows p (nogoods ++ last ∷ []) i) (sym e)
      (follows_by p nogoods (take (length nogoods) (nogoods ++ last ∷ [])) last (nogood_at (nogoods ++ last ∷ []) (length nogoods))
      (take-append_seam nogoods (last ∷ [])) (get_or-append_seam nogoods last [] []) concludes)

  -- each nogood follows, met or not
  pub each_follows : EachMetFollows p (nogoods ++ last ∷ [])
  each_follows place h met =
      let count : length (nogoods ++ last ∷ []) ≡ length nogoods + 1 = length-append nogoods (last ∷ []) in
      elim (cases_lt place (length nogoods)) [
        | inl k ↦ earlier place k
        | inr k ↦ at_end place (omega (arith, h, count))
      ]
