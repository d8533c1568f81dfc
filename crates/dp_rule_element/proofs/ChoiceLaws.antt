-- The supported values of the index, of the value and of an entry, where they stand apart.
use Rattle.std.proofs.Common.{◌≡◌, ℕ, ◌<◌, Bool, true, false, List, [], length, set, ℤ, refl, sym, ◌∙◌, ap, subst, inl, inr}
use Rattle.std.specs.List.{filter}
use Rattle.std.proofs.lemmas.Bool.{both_ways, cases_eq}
use Rattle.std.proofs.lemmas.List.{get_or-set_other, get_or-set_same, length-set}
use Rattle.dp_base.specs.Lists.{Among}
use Rattle.dp_base.proofs.Lists.{Among-filter_all, Among-filter_only}
use Rattle.dp_domain.specs.Sets.{Collects, IsDomain}
use Rattle.dp_domain.specs.States.{Domains, is_dead, values}
use Rattle.dp_domain.specs.Supports.{IsSupport}
use Rattle.dp_domain.specs.Terms.{term_values}
use Rattle.dp_domain.specs.declared.term.Term.{Term}
use Rattle.dp_domain.specs.declared.term.Term.TheVariants.{Var, Const}
use Rattle.dp_domain.proofs.StateLaws.{alive-from, alive-value}
use Rattle.dp_rule_element.specs.Choices.{IsOffered, IsOther, IsSelectable}
use Rattle.dp_rule_element.specs.SelectionLaws.{element_exact}
use Rattle.dp_rule_element.specs.Selections.{IsEntry, NoneSelectable, Selection, face_element}

-- no entry is the variable
abbrev pub IsNoEntry : ℕ → Selection → Type 0
IsNoEntry x q = (i : ℤ) (entry : Term) → IsEntry q.array i entry → IsOther x entry

-- ---- states with other values of one variable

alive_set : (d : Domains) (x : ℕ) (ys : List ℤ) (v : ℤ) → is_dead d ≡ false → x < length d → Among v ys → is_dead (set d x ys) ≡ false
alive_set d x ys v l h m =
    alive-from (set d x ys) (λ y k. elim (cases_eq y x) [
      | inl e ↦ (v, subst (λ z. Among v (values (set d x ys) z)) (sym e) (subst (λ zs. Among v zs) (sym (get_or-set_same d x ys [] h)) m))
      | inr n ↦ let r = alive-value d y l (subst (λ c. y < c) (length-set d x ys) k) in (r.0, subst (λ zs. Among r.0 zs) (sym (get_or-set_other d x y ys [] n)) r.1)
    ])

values_other : (d : Domains) (x : ℕ) (ys : List ℤ) (t : Term) → IsOther x t → term_values (set d x ys) t ≡ term_values d t
values_other d x ys (Var y) n = get_or-set_other d x y ys [] (λ e. n (ap (λ (z : ℕ). Var z) e))
values_other d x ys (Const v) n = refl

values_own : (d : Domains) (x : ℕ) (ys : List ℤ) (t : Term) → x < length d → t ≡ Var x → term_values (set d x ys) t ≡ ys
values_own d x ys t h e = ap (term_values (set d x ys)) e ∙ get_or-set_same d x ys [] h

-- a number of another term stays one
stays : (d : Domains) (x : ℕ) (ys : List ℤ) (t : Term) (v : ℤ) → IsOther x t → Among v (term_values d t) → Among v (term_values (set d x ys) t)
stays d x ys t v n h = subst (λ vs. Among v vs) (sym (values_other d x ys t n)) h

-- and was one
was : (d : Domains) (x : ℕ) (ys : List ℤ) (t : Term) (v : ℤ) → IsOther x t → Among v (term_values (set d x ys) t) → Among v (term_values d t)
was d x ys t v n h = subst (λ vs. Among v vs) (values_other d x ys t n) h

-- a value that is kept is one of the variable
kept : (d : Domains) (x : ℕ) (p : ℤ → Bool) (t : Term) (v : ℤ) → x < length d → t ≡ Var x → Among v (values d x) → p v ≡ true → Among v (term_values (set d x (filter p (values d x))) t)
kept d x p t v h e m k = subst (λ vs. Among v vs) (sym (values_own d x (filter p (values d x)) t h e)) (Among-filter_all p (values d x) v m k)

-- and was kept
was_kept : (d : Domains) (x : ℕ) (p : ℤ → Bool) (t : Term) (v : ℤ) → x < length d → t ≡ Var x → Among v (term_values (set d x (filter p (values d x))) t) → Among v (values d x) × (p v ≡ true)
was_kept d x p t v h e m = Among-filter_only p (values d x) v (subst (λ vs. Among v vs) (values_own d x (filter p (values d x)) t h e) m)

was_any : (d : Domains) (x : ℕ) (p : ℤ → Bool) (t : Term) (v : ℤ) → x < length d → Among v (term_values (set d x (filter p (values d x))) t) → Among v (term_values d t)
was_any d x p (Var y) v h m = elim (cases_eq y x) [
  | inl e ↦ subst (λ z. Among v (values d z)) (sym e) (was_kept d x p (Var y) v h (ap (λ (z : ℕ). Var z) e) m).0
  | inr n ↦ subst (λ vs. Among v vs) (get_or-set_other d x y (filter p (values d x)) [] n) m
]
was_any d x p (Const c) v h m = m

none_at : (q : Selection) (d : Domains) → is_dead d ≡ false → (face_element q).test d ≡ true → NoneSelectable q d
none_at q d l t = elim ((element_exact q d).0 t) [ inl dead ↦ absurd (both_ways (is_dead d) l dead) | inr none ↦ none ]

clash_at : (q : Selection) (d : Domains) → NoneSelectable q d → (face_element q).test d ≡ true
clash_at q d none = (element_exact q d).1 (inr none)

-- ---- the index

-- the index supports the numbers of the entries that can be selected
pub index-support : (q : Selection) (d : Domains) (x : ℕ) (good : List ℤ) → is_dead d ≡ false → x < length d → q.index ≡ Var x → IsOther x q.value → IsNoEntry x q → IsDomain good → Collects good (IsSelectable q d) → IsSupport (face_element q) d x good
index-support q d x good l h e n none o c = record {
  domain = o;
  within = λ v m. let r = c.only v m in subst (λ t. Among v (term_values d t)) e r.2;
  clash = λ p v m t.
      let alive = alive_set d x (filter p (values d x)) v l h (Among-filter_all p (values d x) v m t) in (
        λ k w a b g.
            let r = c.only w g in
            none_at q (set d x (filter p (values d x))) alive k w r.0 (kept d x p q.index w h e a b) r.3 r.1
            (stays d x (filter p (values d x)) r.0 r.1 (none w r.0 r.3) r.4) (stays d x (filter p (values d x)) q.value r.1 n r.5),
        λ k. clash_at q (set d x (filter p (values d x))) (λ i entry in_index there w first second.
            let s = was_kept d x p q.index i h e in_index in
            k i s.0 s.1 (c.all i (
              entry,
              w,
              subst (λ t. Among i (term_values d t)) (sym e) s.0,
              there,
              was d x (filter p (values d x)) entry w (none i entry there) first,
              was d x (filter p (values d x)) q.value w n second,
            ))),
      );
}

-- ---- the value

-- the value supports the numbers that an entry has which the index may select
pub value-support : (q : Selection) (d : Domains) (x : ℕ) (good : List ℤ) → is_dead d ≡ false → x < length d → q.value ≡ Var x → IsOther x q.index → IsNoEntry x q → IsDomain good → Collects good (λ v. Among v (values d x) × IsOffered d q.index q.array v) → IsSupport (face_element q) d x good
value-support q d x good l h e n none o c = record {
  domain = o;
  within = λ v m. (c.only v m).0;
  clash = λ p v m t.
      let alive = alive_set d x (filter p (values d x)) v l h (Among-filter_all p (values d x) v m t) in (
        λ k w a b g.
            let r = (c.only w g).1 in
            none_at q (set d x (filter p (values d x))) alive k r.0 r.1 (stays d x (filter p (values d x)) q.index r.0 n r.2) r.3 w
            (stays d x (filter p (values d x)) r.1 w (none r.0 r.1 r.3) r.4) (kept d x p q.value w h e a b),
        λ k. clash_at q (set d x (filter p (values d x))) (λ i entry in_index there w first second.
            let s = was_kept d x p q.value w h e second in
            k w s.0 s.1 (c.all w (
              s.0,
              (i, entry, was d x (filter p (values d x)) q.index i n in_index, there, was d x (filter p (values d x)) entry w (none i entry there) first),
            ))),
      );
}

-- ---- an entry

-- where each entry that can be selected is the variable, it supports the numbers of the value
pub entry-support : (q : Selection) (d : Domains) (x : ℕ) (good : List ℤ) (i : ℤ) → is_dead d ≡ false → x < length d → IsOther x q.index → IsOther x q.value → Among i (term_values d q.index) → IsEntry q.array i (Var x)
    → ((j : ℤ) (entry : Term) → Among j (term_values d q.index) → IsEntry q.array j entry → (v : ℤ) → Among v (term_values d entry) → Among v (term_values d q.value) → entry ≡ Var x)
    → IsDomain good → Collects good (λ v. Among v (values d x) × Among v (term_values d q.value)) → IsSupport (face_element q) d x good
entry-support q d x good i l h n m there entry_at only o c = record {
  domain = o;
  within = λ v k. (c.only v k).0;
  clash = λ p v a t.
      let alive = alive_set d x (filter p (values d x)) v l h (Among-filter_all p (values d x) v a t) in (
        λ k w b s g.
            let r = c.only w g in
            none_at q (set d x (filter p (values d x))) alive k i (Var x) (stays d x (filter p (values d x)) q.index i n there) entry_at w
            (kept d x p (Var x) w h refl b s) (stays d x (filter p (values d x)) q.value w m r.1),
        λ k. clash_at q (set d x (filter p (values d x))) (λ j entry in_index found w first second.
            let y = was d x (filter p (values d x)) q.value w m second in
            let e = only j entry (was d x (filter p (values d x)) q.index j n in_index) found w (was_any d x p entry w h first) y in
            let s = was_kept d x p entry w h e first in
            k w s.0 s.1 (c.all w (s.0, y))),
      );
}

-- where another entry can be selected, each of its values is supported
pub free-support : (q : Selection) (d : Domains) (x : ℕ) (i : ℤ) (entry : Term) (u : ℤ) → is_dead d ≡ false → x < length d → IsOther x q.index → IsOther x q.value → IsOther x entry → Among i (term_values d q.index) → IsEntry q.array i entry
    → Among u (term_values d entry) → Among u (term_values d q.value) → IsDomain (values d x) → IsSupport (face_element q) d x (values d x)
free-support q d x i entry u l h n m other in_index there first second o = record {
  domain = o;
  within = λ v k. k;
  clash = λ p v a t.
      let alive = alive_set d x (filter p (values d x)) v l h (Among-filter_all p (values d x) v a t) in (
        λ k w b s g.
            none_at q (set d x (filter p (values d x))) alive k i entry (stays d x (filter p (values d x)) q.index i n in_index) there u
            (stays d x (filter p (values d x)) entry u other first) (stays d x (filter p (values d x)) q.value u m second),
        λ k. absurd (k v a t a),
      );
}
