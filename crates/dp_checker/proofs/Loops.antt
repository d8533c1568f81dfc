-- Steps of the checker's loops, and what its calls need.
use Rattle.std.proofs.Common.{◌≡◌, ℕ, ◌+◌, ◌<◌, Bool, true, false, ◌||◌, Option, Some, None, List, [], ◌∷◌, ◌++◌, length, get_or, drop, ℤ, is_some, if◌then◌else◌, refl, sym, ◌∙◌, ap, subst, add-one, eqb}
use Rattle.std.specs.List.{list_all}
use Rattle.std.proofs.Math.Seq.{drop-cons}
use Rattle.std.proofs.lemmas.Bool.{false≢true}
use Rattle.dp_base.specs.Lists.{Among, Each}
use Rattle.dp_domain.specs.Atoms.{Atomic}
use Rattle.dp_domain.specs.States.{Domains, entails, entails_all, is_dead, refuted}
use Rattle.dp_checker.specs.Judged.{with_last}
use Rattle.dp_checker.specs.Kept.{AreBelow}
use Rattle.dp_checker.specs.Known.{cons_some, denials, first_undefined, found, literal_atom}
use Rattle.dp_parts.specs.Rules.{cut_hint, proves}
use Rattle.dp_checker.proofs.Hints.{cut_hint-passed, cut_hint-refuted}

-- the item at a place stands before the rest
pub next_at : {A : Type 0} (xs : List A) (i : ℕ) (x : A) → i < length xs → drop i xs ≡ get_or xs i x ∷ drop (i + 1) xs
next_at xs i x h = drop-cons xs i x h ∙ ap (λ (n : ℕ). get_or xs i x ∷ drop n xs) (sym (add-one i))

-- ---- literals

after_one : (b : Bool) (l : ℤ) (r s t : Option ℤ) → r ≡ (if is_some s then s else t)
    → (if b then r else Some l) ≡ (if is_some (if b then s else Some l) then (if b then s else Some l) else t)
after_one true l r s t h = h
after_one false l r s t h = refl

first_undefined-append : (atoms : List (ℕ × Atomic)) (ls ms : List ℤ)
    → first_undefined atoms (ls ++ ms) ≡ (if is_some (first_undefined atoms ls) then first_undefined atoms ls else first_undefined atoms ms)
first_undefined-append atoms [] ms = refl
first_undefined-append atoms (l ∷ ls) ms =
    after_one (is_some (literal_atom atoms l)) l (first_undefined atoms (ls ++ ms)) (first_undefined atoms ls) (first_undefined atoms ms) (first_undefined-append atoms ls ms)

chosen : (b : Bool) (s t : Option ℤ) → b ≡ true → (if b then s else t) ≡ s
chosen b s t e = ap (λ (c : Bool). if c then s else t) e

left_out : (b : Bool) (s t : Option ℤ) → b ≡ false → (if b then s else t) ≡ t
left_out b s t e = ap (λ (c : Bool). if c then s else t) e

pub undefined_first : (atoms : List (ℕ × Atomic)) (ls : List ℤ) (o : Option ℤ) → is_some (first_undefined atoms ls) ≡ true
    → first_undefined atoms ls ≡ first_undefined atoms (with_last ls o)
undefined_first atoms ls None e = refl
undefined_first atoms ls (Some l) e =
    sym (first_undefined-append atoms ls (l ∷ []) ∙ chosen (is_some (first_undefined atoms ls)) (first_undefined atoms ls) (first_undefined atoms (l ∷ [])) e)

none_where : (o : Option ℤ) → is_some o ≡ false → None ≡ o
none_where None e = refl
none_where (Some x) e = absurd (false≢true (sym e))

pub undefined_after : (atoms : List (ℕ × Atomic)) (ls : List ℤ) (o : Option ℤ) → is_some (first_undefined atoms ls) ≡ false
    → first_undefined atoms (with_last [] o) ≡ first_undefined atoms (with_last ls o)
undefined_after atoms ls None e = none_where (first_undefined atoms ls) e
undefined_after atoms ls (Some l) e =
    sym (first_undefined-append atoms ls (l ∷ []) ∙ left_out (is_some (first_undefined atoms ls)) (first_undefined atoms ls) (first_undefined atoms (l ∷ [])) e)

-- ---- hints

or_passed : (a b c : Bool) → a ≡ false → b ≡ false → (a || b || c) ≡ c
or_passed a b c e f = ap (λ (x : Bool). x || b || c) e ∙ ap (λ (x : Bool). x || c) f

-- a hint with open atoms on one variable cuts the state
pub turn_refuted : (d e : Domains) (denial : List Atomic) (a : Atomic) (x y : ℕ) → is_dead d ≡ false → entails_all d denial ≡ false
    → Among a denial → entails d a ≡ false → a.var < length d → x ≡ a.var → list_all (λ b. eqb b.var x || entails d b) denial ≡ true
    → y ≡ a.var → e ≡ refuted d y denial → (hints : List (List Atomic))
    → (is_dead d || entails_all d denial || proves (cut_hint d denial) hints) ≡ proves e hints
turn_refuted d e denial a x y alive some here lacks within p rests q f hints =
    or_passed (is_dead d) (entails_all d denial) (proves (cut_hint d denial) hints) alive some
    ∙ ap (λ (s : Domains). proves s hints) (cut_hint-refuted d denial a here lacks within (subst (λ (z : ℕ). list_all (λ b. eqb b.var z || entails d b) denial ≡ true) p rests)
    ∙ sym (f ∙ ap (λ (z : ℕ). refuted d z denial) q))

-- one with open atoms on several passes
pub turn_passed : (d : Domains) (denial : List Atomic) (a : Atomic) (x : ℕ) → is_dead d ≡ false → entails_all d denial ≡ false
    → Among a denial → entails d a ≡ false → x ≡ a.var → list_all (λ b. eqb b.var x || entails d b) denial ≡ false → (hints : List (List Atomic))
    → (is_dead d || entails_all d denial || proves (cut_hint d denial) hints) ≡ proves d hints
turn_passed d denial a x alive some here lacks p rests hints =
    or_passed (is_dead d) (entails_all d denial) (proves (cut_hint d denial) hints) alive some
    ∙ ap (λ (s : Domains). proves s hints) (cut_hint-passed d denial a here lacks (subst (λ (z : ℕ). list_all (λ b. eqb b.var z || entails d b) denial ≡ false) p rests))

pub each_below : (m n : ℕ) (steps : List (ℕ × List Atomic)) → m ≡ n → Each (λ step. AreBelow n step.1) steps → Each (λ step. AreBelow m step.1) steps
each_below m n steps e h = subst (λ (k : ℕ). Each (λ step. AreBelow k step.1) steps) (sym e) h

pub prove_step : (steps : List (ℕ × List Atomic)) (hints : List ℕ) (i : ℕ) (now next : Domains) (whole b : Bool) → i < length hints
    → ((later : List (List Atomic)) → proves now (cons_some (found (get_or hints i 0) steps) later) ≡ (b || proves next later)) → b ≡ false
    → proves now (denials steps (drop i hints)) ≡ whole → proves next (denials steps (drop (i + 1) hints)) ≡ whole
prove_step steps hints i now next whole b lt turn e inv =
    let later : List (List Atomic) = denials steps (drop (i + 1) hints) in
    sym (ap (λ (x : Bool). x || proves next later) e) ∙ sym (turn later) ∙ sym (ap (λ (hs : List ℕ). proves now (denials steps hs)) (next_at hints i 0 lt)) ∙ inv
