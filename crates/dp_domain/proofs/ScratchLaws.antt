-- What was replaced is put back from the last on.
use Rattle.std.proofs.Common.{◌≡◌, ℕ, suc, ◌-◌, ◌<◌, true, slice_get, arith, List, [], ◌∷◌, ◌++◌, length, get_or, set, ℤ, refl, sym, ◌∙◌, ap, subst}
use Rattle.std.proofs.lemmas.Bool.{eqb-true, false≢true}
use Rattle.std.proofs.lemmas.List.{length-set, set-get_or, set-set}
use Rattle.dp_base.specs.Lists.{Each}
use Rattle.dp_base.proofs.Lists.{Each-append, Each-append_parts}
use Rattle.dp_domain.specs.Scratches.{ends_with, is_of, put_back, put_back_all}
use Rattle.dp_domain.specs.States.{Domains, values}
use Rattle.dp_domain.specs.declared.scratch.Replaced.{Replaced}

-- the last one is put back first
pub put_back-last : (rs : List Replaced) (r : Replaced) (d : Domains) → put_back_all (rs ++ r ∷ []) d ≡ put_back_all rs (put_back r d)
put_back-last [] r d = refl
put_back-last (q ∷ rs) r d = ap (put_back q) (put_back-last rs r d)

-- what was popped is put back
pub put_back-popped : (rs old : List Replaced) (r : Replaced) (d e : Domains) → old ≡ rs ++ r ∷ [] → e ≡ put_back r d → put_back_all rs e ≡ put_back_all old d
put_back-popped rs old r d e h k = ap (put_back_all rs) k ∙ sym (put_back-last rs r d) ∙ ap (λ (qs : List Replaced). put_back_all qs d) (sym h)

-- a state with another set, whose old one is kept, goes back to the same
pub put_back-changed : (rs now : List Replaced) (x : ℕ) (set_now set_old : List ℤ) (d e : Domains)
    → now ≡ rs ++ record { var = x; set = set_old } ∷ [] → set_old ≡ values d x → e ≡ set d x set_now → put_back_all now e ≡ put_back_all rs d
put_back-changed rs now x set_now set_old d e n v h =
    let back : put_back (record { var = x; set = set_old }) e ≡ d =
    ap (λ (b : Domains). set b x set_old) h ∙ set-set d x set_now set_old ∙ ap (λ (vs : List ℤ). set d x vs) v ∙ set-get_or d x [] in
    ap (λ (qs : List Replaced). put_back_all qs e) n ∙ put_back-last rs (record { var = x; set = set_old }) e ∙ ap (put_back_all rs) back

-- the kept sets are of variables that there are, with one more
pub variables-changed : (rs now : List Replaced) (x : ℕ) (set_now set_old : List ℤ) (d e : Domains)
    → now ≡ rs ++ record { var = x; set = set_old } ∷ [] → e ≡ set d x set_now → x < length d
    → Each (λ (r : Replaced). r.var < length d) rs → Each (λ (r : Replaced). r.var < length e) now
variables-changed rs now x set_now set_old d e n h l k =
    let count : length e ≡ length d = ap (λ (b : Domains). length b) h ∙ length-set d x set_now in
    subst (λ (m : ℕ). Each (λ (r : Replaced). r.var < m) now) (sym count)
    (subst (Each (λ (r : Replaced). r.var < length d)) (sym n) (Each-append (λ (r : Replaced). r.var < length d) rs (record { var = x; set = set_old } ∷ []) k (l, tt)))

-- the last one is of a variable that there is, and so are the others
pub variables-popped : (rs old : List Replaced) (r : Replaced) (n : ℕ) → old ≡ rs ++ r ∷ []
    → Each (λ (q : Replaced). q.var < n) old → Each (λ (q : Replaced). q.var < n) rs × (r.var < n)
variables-popped rs old r n e k =
    let parts = Each-append_parts (λ (q : Replaced). q.var < n) rs (r ∷ []) (subst (Each (λ (q : Replaced). q.var < n)) e k) in
    (parts.0, parts.1.0)

-- putting back leaves as many variables
pub length-put_back_all : (rs : List Replaced) (d : Domains) → length (put_back_all rs d) ≡ length d
length-put_back_all [] d = refl
length-put_back_all (r ∷ rs) d = length-set (put_back_all rs d) r.var r.set ∙ length-put_back_all rs d

-- what the last set takes the place of is forgotten
pub put_back-again : (rs : List Replaced) (x : ℕ) (ys : List ℤ) (d : Domains) → ends_with x rs ≡ true → put_back_all rs (set d x ys) ≡ put_back_all rs d
put_back-again [] x ys d e = absurd (false≢true e)
put_back-again (r ∷ []) x ys d e =
    ap (λ (y : ℕ). set (set d y ys) r.var r.set) (sym (eqb-true r.var x e)) ∙ set-set d r.var ys r.set
put_back-again (r ∷ q ∷ rs) x ys d e =
    let same : length (r ∷ q ∷ rs) - 1 ≡ suc (length (q ∷ rs) - 1) = omega arith in
    ap (put_back r) (put_back-again (q ∷ rs) x ys d (subst (λ (n : ℕ). is_of x (slice_get (r ∷ q ∷ rs) n) ≡ true) same e))

-- the same of a state with another set, and the kept sets are of variables that there are
pub put_back-over : (rs : List Replaced) (x : ℕ) (ys : List ℤ) (d e : Domains) → ends_with x rs ≡ true → e ≡ set d x ys → put_back_all rs e ≡ put_back_all rs d
put_back-over rs x ys d e h k = ap (put_back_all rs) k ∙ put_back-again rs x ys d h

pub variables-over : (rs : List Replaced) (x : ℕ) (ys : List ℤ) (d e : Domains) → e ≡ set d x ys → Each (λ (r : Replaced). r.var < length d) rs → Each (λ (r : Replaced). r.var < length e) rs
variables-over rs x ys d e h k = subst (λ (m : ℕ). Each (λ (r : Replaced). r.var < m) rs) (sym (ap (λ (b : Domains). length b) h ∙ length-set d x ys)) k
