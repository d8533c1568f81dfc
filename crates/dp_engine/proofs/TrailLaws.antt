-- Changes are undone from the last one on.
use Rattle.std.proofs.Common.{◌≡◌, ℕ, zero, suc, ◌+◌, ◌<◌, ◌≤◌, List, [], ◌∷◌, ◌++◌, length, get_or, set, take, refl, sym, ◌∙◌, ap, subst, arith, ℤ}
use Rattle.std.proofs.lemmas.List.{get_or-set_other}
use Rattle.std.specs.List.{filter}
use Rattle.dp_base.specs.Lists.{Each}
use Rattle.dp_domain.specs.Atoms.{Atomic, meets}
use Rattle.dp_domain.specs.States.{Domains, cut, values}
use Rattle.dp_domain.proofs.StateLaws.{length-cut}
use Rattle.dp_engine.specs.declared.change.Change.{Change}
use Rattle.dp_engine.specs.Trails.{past_of, undone, undone_all}
use Rattle.dp_engine.proofs.StateSteps.{Each-front, Each-push}

undone_push : (cs : List Change) (c : Change) (d : Domains) → undone_all (cs ++ c ∷ []) d ≡ undone_all cs (undone c d)
undone_push [] c d = refl
undone_push (b ∷ cs) c d = ap (undone b) (undone_push cs c d)

-- the last change undone
pub past-push : (cs : List Change) (c : Change) (d : Domains) → past_of (cs ++ c ∷ []) d ≡ past_of cs (undone c d) ++ undone c d ∷ []
past-push [] c d = refl
past-push (b ∷ cs) c d =
    ap (λ (e : Domains). undone b e ∷ past_of (cs ++ c ∷ []) d) (undone_push cs c d)
    ∙ ap (λ (ds : List Domains). undone b (undone_all cs (undone c d)) ∷ ds) (past-push cs c d)

-- the same from what was popped
pub past-back : (cs old : List Change) (c : Change) (d e : Domains) → old ≡ cs ++ c ∷ [] → e ≡ undone c d → past_of old d ≡ past_of cs e ++ e ∷ []
past-back cs old c d e h k = ap (λ bs. past_of bs d) h ∙ past-push cs c d ∙ ap (λ (b : Domains). past_of cs b ++ b ∷ []) (sym k)

set_again : {A : Type 0} (xs : List (List A)) (i : ℕ) (y : List A) → set (set xs i y) i (get_or xs i []) ≡ xs
set_again [] i y = refl
set_again (x ∷ xs) zero y = refl
set_again (x ∷ xs) (suc i) y = ap (λ ys. x ∷ ys) (set_again xs i y)

-- a cut, where the change has the set that was cut
pub past-cut : (cs now : List Change) (c : Change) (d e : Domains) (a : Atomic) → now ≡ cs ++ c ∷ [] → c.var ≡ a.var → c.set ≡ values d a.var → e ≡ cut d a → past_of now e ≡ past_of cs d ++ d ∷ []
past-cut cs now c d e a n v s h =
    let back : undone c e ≡ d =
    ap (undone c) h ∙ ap (λ x. set (cut d a) x c.set) v ∙ ap (λ vs. set (cut d a) a.var vs) s ∙ set_again d a.var (filter (meets a) (values d a.var)) in
    ap (λ bs. past_of bs e) n ∙ past-push cs c e ∙ ap (λ (b : Domains). past_of cs b ++ b ∷ []) back

-- the changes are of variables that there are, with one more
pub changes-cut : (cs now : List Change) (c : Change) (d e : Domains) (a : Atomic) → now ≡ cs ++ c ∷ [] → c.var ≡ a.var → e ≡ cut d a → a.var < length d → Each (λ (b : Change). b.var < length d) cs → Each (λ (b : Change). b.var < length e) now
changes-cut cs now c d e a n v h l k =
    let count : length e ≡ length d = ap (λ (b : Domains). length b) h ∙ length-cut d a in
    subst (λ (m : ℕ). Each (λ (b : Change). b.var < m) now) (sym count)
    (subst (Each (λ (b : Change). b.var < length d)) (sym n) (Each-push (λ (b : Change). b.var < length d) cs c k (subst (λ x. x < length d) (sym v) l)))

-- the last change is of a variable that there is, and so are the others
pub changes-front : (cs old : List Change) (c : Change) (n : ℕ) → old ≡ cs ++ c ∷ [] → Each (λ (b : Change). b.var < n) old → Each (λ (b : Change). b.var < n) cs × (c.var < n)
changes-front cs old c n e k = Each-front (λ (b : Change). b.var < n) cs c (subst (Each (λ (b : Change). b.var < n)) e k)

-- there is a state before each change
pub length-past : (cs : List Change) (d : Domains) → length (past_of cs d) ≡ length cs
length-past [] d = refl
length-past (c ∷ cs) d = ap suc (length-past cs d)

-- what is set at one place stays at the others
pub values-set : (d : Domains) (y : ℕ) (vs : List ℤ) (x : ℕ) → (x ≡ y → ⊥) → values (set d y vs) x ≡ values d x
values-set d y vs x h = get_or-set_other d y x vs [] h

take_shorter : {A : Type 0} (n : ℕ) (xs ys : List A) → n ≤ length xs → take n (xs ++ ys) ≡ take n xs
take_shorter zero xs ys h = refl
take_shorter (suc n) [] ys h = absurd (omega arith)
take_shorter (suc n) (x ∷ xs) ys h = ap (λ zs. x ∷ zs) (take_shorter n xs ys (omega arith))

-- one state less
pub take-back : (all past now : List Domains) (d e : Domains) (mark : ℕ) → past ++ d ∷ [] ≡ all → past ≡ now ++ e ∷ [] → mark < length past → take (mark + 1) all ≡ take (mark + 1) (now ++ e ∷ [])
take-back all past now d e mark h k l =
    ap (take (mark + 1)) (sym h) ∙ take_shorter (mark + 1) past (d ∷ []) (omega arith) ∙ ap (take (mark + 1)) k
