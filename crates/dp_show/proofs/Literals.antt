-- Which literals are defined.
use Rattle.std.proofs.Common.{◌≡◌, Bool, true, false, Option, Some, None, List, [], ◌∷◌, ◌++◌, ℤ, is_some, if◌then◌else◌, refl, sym, ◌∙◌, ap}
use Rattle.std.proofs.lemmas.Bool.{false≢true}
use Rattle.std.specs.Prelude.{IsSome}
use Rattle.dp_base.specs.Lists.{Each}
use Rattle.dp_lines.specs.declared.line.Line.{Line}
use Rattle.dp_lines.specs.declared.line.Line.TheVariants.{Atom, Inference, Nogood, Delete, Conclude}
use Rattle.dp_checker.specs.Judged.{naming, with_last}
use Rattle.dp_checker.specs.declared.refusal.Why.TheVariants.{UnknownAtom}
use Rattle.dp_show.specs.Named.{Atoms, Named, first_undefined, literal_atom}
use Rattle.dp_show.specs.Showing.{claimed, literals, refusal}

after_one : (b : Bool) (l : ℤ) (r s t : Option ℤ) → r ≡ (if is_some s then s else t)
    → (if b then r else Some l) ≡ (if is_some (if b then s else Some l) then (if b then s else Some l) else t)
after_one true l r s t h = h
after_one false l r s t h = refl

first_undefined-append : (atoms : Atoms) (ls ms : List ℤ)
    → first_undefined atoms (ls ++ ms) ≡ (if is_some (first_undefined atoms ls) then first_undefined atoms ls else first_undefined atoms ms)
first_undefined-append atoms [] ms = refl
first_undefined-append atoms (l ∷ ls) ms =
    after_one (is_some (literal_atom atoms l)) l (first_undefined atoms (ls ++ ms)) (first_undefined atoms ls) (first_undefined atoms ms) (first_undefined-append atoms ls ms)

chosen : (b : Bool) (s t : Option ℤ) → b ≡ true → (if b then s else t) ≡ s
chosen b s t e = ap (λ (c : Bool). if c then s else t) e

left_out : (b : Bool) (s t : Option ℤ) → b ≡ false → (if b then s else t) ≡ t
left_out b s t e = ap (λ (c : Bool). if c then s else t) e

-- a premise, where one is not defined
pub undefined_first : (atoms : Atoms) (ls : List ℤ) (o : Option ℤ) → is_some (first_undefined atoms ls) ≡ true
    → first_undefined atoms ls ≡ first_undefined atoms (with_last ls o)
undefined_first atoms ls None e = refl
undefined_first atoms ls (Some l) e =
    sym (first_undefined-append atoms ls (l ∷ []) ∙ chosen (is_some (first_undefined atoms ls)) (first_undefined atoms ls) (first_undefined atoms (l ∷ [])) e)

none_where : (o : Option ℤ) → is_some o ≡ false → None ≡ o
none_where None e = refl
none_where (Some x) e = absurd (false≢true (sym e))

-- else the consequent
pub undefined_after : (atoms : Atoms) (ls : List ℤ) (o : Option ℤ) → is_some (first_undefined atoms ls) ≡ false
    → first_undefined atoms (with_last [] o) ≡ first_undefined atoms (with_last ls o)
undefined_after atoms ls None e = none_where (first_undefined atoms ls) e
undefined_after atoms ls (Some l) e =
    sym (first_undefined-append atoms ls (l ∷ []) ∙ left_out (is_some (first_undefined atoms ls)) (first_undefined atoms ls) (first_undefined atoms (l ∷ [])) e)

-- ---- the literals of a line that no test refuses

first_named : (b : Bool) (l : ℤ) (o : Option Named) (r : Option ℤ) → is_some o ≡ b → (if b then r else Some l) ≡ None → IsSome o × (r ≡ None)
first_named true l (Some a) r e h = (refl, h)
first_named true l None r e h = absurd (false≢true e)
first_named false l o r e h = absurd cc

no_undefined : (atoms : Atoms) (ls : List ℤ) → first_undefined atoms ls ≡ None → Each (λ (l : ℤ). IsSome (literal_atom atoms l)) ls
no_undefined atoms [] e = tt
no_undefined atoms (l ∷ ls) e =
    let h = first_named (is_some (literal_atom atoms l)) l (literal_atom atoms l) (first_undefined atoms ls) refl e in (h.0, no_undefined atoms ls h.1)

unnamed : (o : Option ℤ) → naming UnknownAtom o ≡ None → o ≡ None
unnamed None e = refl
unnamed (Some l) e = absurd cc

pub all_named : (atoms : Atoms) (line : Line) → refusal atoms line ≡ None → Each (λ (l : ℤ). IsSome (literal_atom atoms l)) (literals line)
all_named atoms (Atom id name op value) e = tt
all_named atoms (Inference id premises consequent constraint label) e = no_undefined atoms (with_last premises consequent) (unnamed _ e)
all_named atoms (Nogood id ls hints) e = no_undefined atoms ls (unnamed _ e)
all_named atoms (Delete id) e = tt
all_named atoms (Conclude claim) e = no_undefined atoms (claimed claim) (unnamed _ e)
