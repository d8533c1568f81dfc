-- Lists of which each stands once: the test that two are one, and that none is lost.
use Rattle.std.proofs.Common.{◌≡◌, Bool, true, false, not, List, [], ◌∷◌, ℤ, refl, sym, inl, inr}
use Rattle.std.specs.List.{filter}
use Rattle.std.specs.Ordering.{int_eq}
use Rattle.std.proofs.lemmas.Bool.{false≢true, and_parts, and_from, not_from_false}
use Rattle.std.proofs.lemmas.Bool.Decides.{Decides-int_eq}
use Rattle.dp_base.specs.Lists.{Among}
use Rattle.dp_base.proofs.Lists.{Among-filter_all}
use Rattle.dp_learning.specs.Sorts.{different, same_values}

cons_same : (v w : ℤ) (vs ws : List ℤ) → v ≡ w → vs ≡ ws → v ∷ vs ≡ w ∷ ws
cons_same v w vs ws e f = cc

-- lists that pass the test are one
pub same_where : (vs ws : List ℤ) → same_values vs ws ≡ true → vs ≡ ws
same_where [] [] e = refl
same_where [] (w ∷ ws) e = absurd (false≢true e)
same_where (v ∷ vs) [] e = absurd (false≢true e)
same_where (v ∷ vs) (w ∷ ws) e =
    let p = and_parts (int_eq v w) (same_values vs ws) e in
    cons_same v w vs ws ((Decides-int_eq v w).0 p.0) (same_where vs ws p.1)

-- a list passes with itself
pub same_itself : (vs : List ℤ) → same_values vs vs ≡ true
same_itself [] = refl
same_itself (v ∷ vs) = and_from (int_eq v v) (same_values vs vs) ((Decides-int_eq v v).1 refl) (same_itself vs)

kept_once : (vs ws : List ℤ) (lists : List (List ℤ)) (b : Bool) → same_values vs ws ≡ b → Among ws lists → Among ws (vs ∷ filter (λ us. not (same_values vs us)) lists)
kept_once vs ws lists true e h = inl (sym (same_where vs ws e))
kept_once vs ws lists false e h = inr (Among-filter_all (λ us. not (same_values vs us)) lists ws h (not_from_false (same_values vs ws) e))

-- each of the lists is one of the different ones
pub among_different : (lists : List (List ℤ)) (ws : List ℤ) → Among ws lists → Among ws (different lists)
among_different [] ws h = absurd h
among_different (vs ∷ lists) ws (inl e) = inl e
among_different (vs ∷ lists) ws (inr h) = kept_once vs ws (different lists) (same_values vs ws) refl (among_different lists ws h)
