-- The numbers of entries, one entry on.
use Rattle.std.proofs.Common.{◌≡◌, ℕ, ◌+◌, ◌<◌, ◌≤◌, true, false, List, [], ◌∷◌, ◌++◌, length, get_or, take, ℤ, pos, ◌≤ℤ◌, refl, sym, ◌∙◌, ap, subst, inl, inr, arith}
use Rattle.std.specs.List.{filter}
use Rattle.std.proofs.lemmas.Bool.{and_parts, both_ways}
use Rattle.std.proofs.lemmas.Int.{ints}
use Rattle.std.proofs.lemmas.List.{append-nil}
use Rattle.dp_base.specs.Lists.{Among, Each}
use Rattle.dp_base.proofs.Lists.{Among-append_cases, Among-append_left, Among-append_right, Among-filter_all, Among-filter_only, Each-append, Each-from_among}
use Rattle.dp_domain.specs.Sets.{AreApart, Collects, HasSmallEnds, IsDomain, IsSmall, LiesBetween, LiesInOne, is_among, share}
use Rattle.dp_domain.specs.States.{Domains, values}
use Rattle.dp_domain.specs.Terms.{term_values}
use Rattle.dp_domain.specs.declared.term.Term.{Term}
use Rattle.dp_domain.specs.declared.term.Term.TheVariants.{Var, Const}
use Rattle.dp_domain.proofs.IntervalLaws.{AreApart-among}
use Rattle.dp_domain.proofs.SetLaws.{IsDomain-filter, IsSmall-among}
use Rattle.dp_domain.proofs.ShareLaws.{is_among-at, is_among-some}
use Rattle.dp_domain.proofs.ExpandLaws.{small_in}
use Rattle.dp_rule_element.specs.Choices.{AreNumbers, Gains, HasOne, IsNumberOf, IsOffered, IsSelectable, IsValueOf, selection}
use Rattle.dp_rule_element.specs.Selections.{is_selectable, numbered}
use Rattle.dp_rule_element.proofs.ChoiceSteps.{Shares, all_entries, is_entry, numbered_where, one_more, selectable_where, shares_where}

-- ---- one entry more

gains_step : (P : ℕ × Term → ℤ → Type 0) (es : List (ℕ × Term)) (e : ℕ × Term) (old more : List (ℤ × ℤ)) → AreNumbers old (HasOne P es) → AreNumbers more (P e) → AreNumbers (old ++ more) (HasOne P (es ++ e ∷ []))
gains_step P es e old more h g = record {
  small = Each-append HasSmallEnds old more h.small g.small;
  only = λ v l. elim (Among-append_cases l.0 old more l.1) [
    | inl k ↦ let r = h.only v (l.0, k, l.2) in (r.0, Among-append_left r.0 es (e ∷ []) r.1, r.2)
    | inr k ↦ (e, Among-append_right e es (e ∷ []) (inl refl), g.only v (l.0, k, l.2))
  ];
  all = λ v s r. elim (Among-append_cases r.0 es (e ∷ []) r.1) [
    | inl k ↦ let l = h.all v s (r.0, k, r.2) in (l.0, Among-append_left l.0 old more l.1, l.2)
    | inr (inl same) ↦ let l = g.all v s (subst (λ (f : ℕ × Term). P f v) same r.2) in (l.0, Among-append_right l.0 old more l.1, l.2)
    | inr (inr none) ↦ absurd none
  ];
}

pub gains_next : (P : ℕ × Term → ℤ → Type 0) (xs : List Term) (i : ℕ) (t : Term) (old now : List (ℤ × ℤ)) → i < length xs → t ≡ get_or xs i t → AreNumbers old (HasOne P (take i (numbered xs))) → Gains old now (P (i + 1, t)) → AreNumbers now (HasOne P (take (i + 1) (numbered xs)))
gains_next P xs i t old now h e before gained =
    let f : ℕ × Term = (i + 1, t) in
    subst (λ es. AreNumbers now (HasOne P es)) (sym (one_more xs i t h e))
    (subst (λ (ns : List (ℤ × ℤ)). AreNumbers ns (HasOne P (take i (numbered xs) ++ f ∷ []))) (sym gained.1) (gains_step P (take i (numbered xs)) f old gained.0 before gained.2))

-- none so far
pub gains_none : (P : ℕ × Term → ℤ → Type 0) → AreNumbers [] (HasOne P [])
gains_none P = record { small = tt; only = λ v l. absurd l.1; all = λ v s r. absurd r.1 }

-- all entries
pub gains_all : (P : ℕ × Term → ℤ → Type 0) (xs : List Term) (i : ℕ) (ns : List (ℤ × ℤ)) → length xs ≤ i → AreNumbers ns (HasOne P (take i (numbered xs))) → AreNumbers ns (HasOne P (numbered xs))
gains_all P xs i ns h so = subst (λ es. AreNumbers ns (HasOne P es)) (all_entries xs i h) so

-- ---- the numbers as a set

pub collected : (P Q : ℤ → Type 0) (ns : List (ℤ × ℤ)) (d : List ℤ) → AreNumbers ns P → Collects d (LiesInOne ns) → ((v : ℤ) → IsSmall v → P v → Q v) → ((v : ℤ) → Q v → IsSmall v × P v) → Collects d Q
collected P Q ns d h c f g = record {
  only = λ v m. let l = c.only v m in f v (small_in ns h.small v l) (h.only v l);
  all = λ v r. let s = g v r in c.all v (h.all v s.0 s.1);
}

-- those of the entries that can be selected
pub selectable_collected : (d : Domains) (index value : Term) (xs : List Term) (ns ms : List (ℤ × ℤ)) (s : List ℤ) → ms ≡ ns → IsDomain (term_values d index) → AreNumbers ns (HasOne (IsNumberOf d index value) (numbered xs)) → Collects s (LiesInOne ms) → Collects s (IsSelectable (selection index xs value) d)
selectable_collected d index value xs ns ms s same domain h c =
    collected (HasOne (IsNumberOf d index value) (numbered xs)) (IsSelectable (selection index xs value) d) ns s h (subst (λ ks. Collects s (LiesInOne ks)) same c)
    (λ v small r.
    let t : Shares d index value xs r.0 = shares_where d index value xs r.0 r.1 r.2.0 in
    subst (IsSelectable (selection index xs value) d) (sym r.2.1) (r.0.1, t.shared, t.reached, t.there, t.first, t.second))
    (λ v r.
    let n = numbered_where xs v r.0 r.3 in (
      IsSmall-among (term_values d index) domain v r.2,
      ((n.number, r.0), n.here, (selectable_where d index value xs v r.1 r.0 n r.2 r.4 r.5, n.same)),
    ))

-- those that entries offer
pub offered_collected : (d : Domains) (index : Term) (xs : List Term) (ns ms : List (ℤ × ℤ)) (s : List ℤ) → ms ≡ ns → AreNumbers ns (HasOne (IsValueOf d index) (numbered xs)) → Collects s (LiesInOne ms) → Collects s (λ v. IsSmall v × IsOffered d index xs v)
offered_collected d index xs ns ms s same h c =
    collected (HasOne (IsValueOf d index) (numbered xs)) (λ v. IsSmall v × IsOffered d index xs v) ns s h (subst (λ ks. Collects s (LiesInOne ks)) same c)
    (λ v small r. (small, (pos r.0.0, r.0.1, is_among-some (pos r.0.0) (term_values d index) r.2.0, is_entry xs r.0 r.1, r.2.1)))
    (λ v r.
    let n = numbered_where xs r.1.0 r.1.1 r.1.3 in (
      r.0,
      ((n.number, r.1.1), n.here, (is_among-at (pos n.number) (term_values d index) (subst (λ j. Among j (term_values d index)) n.same r.1.2), r.1.4)),
    ))

-- those of a term
pub term_collected : (d : Domains) (t : Term) (old ns ms : List (ℤ × ℤ)) (s : List ℤ) → old ≡ [] → ms ≡ ns → Gains old ns (λ v. Among v (term_values d t)) → Collects s (LiesInOne ms) → Collects s (λ v. IsSmall v × Among v (term_values d t))
term_collected d t old ns ms s e same h c =
    collected (λ v. Among v (term_values d t)) (λ v. IsSmall v × Among v (term_values d t)) h.0 s h.2 (subst (λ ks. Collects s (LiesInOne ks)) (same ∙ h.1 ∙ ap (λ ks. ks ++ h.0) e) c) (λ v small r. (small, r)) (λ v r. r)

pub small_ends : (P : ℤ → Type 0) (ns ms : List (ℤ × ℤ)) → ms ≡ ns → AreNumbers ns P → Each HasSmallEnds ms
small_ends P ns ms same h = subst (λ ks. Each HasSmallEnds ks) (sym same) h.small

pub term_small : (P : ℤ → Type 0) (old ns ms : List (ℤ × ℤ)) → old ≡ [] → ms ≡ ns → Gains old ns P → Each HasSmallEnds ms
term_small P old ns ms e same h = subst (λ ks. Each HasSmallEnds ks) (sym (same ∙ h.1 ∙ ap (λ ks. ks ++ h.0) e)) h.2.small

-- ---- what one entry adds

in_one : (n v : ℤ) → LiesInOne ((n, n) ∷ []) v → v ≡ n
in_one n v l = elim l.1 [
  | inl e ↦ same n v l.0.0 l.0.1 (ap (λ (i : ℤ × ℤ). i.0) e) (ap (λ (i : ℤ × ℤ). i.1) e) l.2.0 l.2.1
  | inr none ↦ absurd none
]
  where
    same : (n v a b : ℤ) → a ≡ n → b ≡ n → a ≤ℤ v → v ≤ℤ b → v ≡ n
    same n v a b e f h k = omega (arith, ints)

only_one : (v w : ℤ) → Among w (v ∷ []) → w ≡ v
only_one v w (inl e) = e
only_one v w (inr none) = absurd none

itself : (n : ℤ) → n ≤ℤ n
itself n = omega (arith, ints)

one_number : (n : ℤ) (P : ℤ → Type 0) → IsSmall n → P n → ((v : ℤ) → P v → v ≡ n) → AreNumbers ((n, n) ∷ []) P
one_number n P small has only = record {
  small = ((small, small), tt);
  only = λ v l. subst P (sym (in_one n v l)) has;
  all = λ v s r. ((n, n), inl refl, subst (LiesBetween (n, n)) (sym (only v r)) (itself n, itself n));
}

no_numbers : (P : ℤ → Type 0) → ((v : ℤ) → IsSmall v → P v → ⊥) → AreNumbers [] P
no_numbers P none = record { small = tt; only = λ v l. absurd l.1; all = λ v s r. absurd (none v s r) }

pub none_gained : (old now : List (ℤ × ℤ)) (P : ℤ → Type 0) → now ≡ old → ((v : ℤ) → P v → ⊥) → Gains old now P
none_gained old now P e none = ([], e ∙ sym (append-nil old), no_numbers P (λ v s r. none v r))

-- the number of an entry that can be selected
pub number_gained : (d : Domains) (index value : Term) (e : ℕ × Term) (n : ℤ) (old now : List (ℤ × ℤ)) → n ≡ pos e.0 → IsDomain (term_values d index) → is_selectable d index value e ≡ true → now ≡ old ++ (n, n) ∷ [] → Gains old now (IsNumberOf d index value e)
number_gained d index value e n old now is domain t f = (
  (n, n) ∷ [],
  f,
  one_number n (IsNumberOf d index value e)
      (subst IsSmall (sym is) (IsSmall-among (term_values d index) domain (pos e.0) (is_among-some (pos e.0) (term_values d index) (and_parts (is_among (pos e.0) (term_values d index)) (share (term_values d e.1) (term_values d value)) t).0)))
      (t, is) (λ v r. r.1 ∙ sym is),
)

pub no_number : (d : Domains) (index value : Term) (e : ℕ × Term) (old now : List (ℤ × ℤ)) → is_selectable d index value e ≡ false → now ≡ old → Gains old now (IsNumberOf d index value e)
no_number d index value e old now f same = none_gained old now (IsNumberOf d index value e) same (λ v r. both_ways (is_selectable d index value e) f r.0)

-- the numbers of an entry that the index may select
pub offer_gained : (d : Domains) (index : Term) (e : ℕ × Term) (old now : List (ℤ × ℤ)) → is_among (pos e.0) (term_values d index) ≡ true → Gains old now (λ v. Among v (term_values d e.1)) → Gains old now (IsValueOf d index e)
offer_gained d index e old now t g = (
  g.0,
  g.1,
  record { small = g.2.small; only = λ v l. (t, g.2.only v l); all = λ v s r. g.2.all v s r.1 },
)

pub no_offer : (d : Domains) (index : Term) (e : ℕ × Term) (old now : List (ℤ × ℤ)) → is_among (pos e.0) (term_values d index) ≡ false → now ≡ old → Gains old now (IsValueOf d index e)
no_offer d index e old now f same = none_gained old now (IsValueOf d index e) same (λ v r. both_ways (is_among (pos e.0) (term_values d index)) f r.0)

-- the values of a variable
pub values_gained : (vs set : List ℤ) (is ks old now : List (ℤ × ℤ)) → set ≡ vs → IsDomain vs → Collects set (LiesInOne is) → AreApart is → ks ≡ is → now ≡ old ++ ks → Gains old now (λ v. Among v vs)
values_gained vs set is ks old now same domain c apart f g = (
  is,
  g ∙ ap (λ ms. old ++ ms) f,
  record {
    small = Each-from_among HasSmallEnds is (λ ends here.
        let le = AreApart-among is apart ends here in (
          IsSmall-among vs domain ends.0 (subst (λ ws. Among ends.0 ws) same (c.all ends.0 (ends, here, (itself ends.0, le)))),
          IsSmall-among vs domain ends.1 (subst (λ ws. Among ends.1 ws) same (c.all ends.1 (ends, here, (le, itself ends.1)))),
        ));
    only = λ v l. subst (λ ws. Among v ws) same (c.all v l);
    all = λ v s r. c.only v (subst (λ ws. Among v ws) (sym same) r);
  },
)

-- a number, where it is small
pub one_gained : (v : ℤ) (old now : List (ℤ × ℤ)) → IsSmall v → now ≡ old ++ (v, v) ∷ [] → Gains old now (λ w. Among w (v ∷ []))
one_gained v old now small e = ((v, v) ∷ [], e, one_number v (λ w. Among w (v ∷ [])) small (inl refl) (only_one v))

pub large_gained : (v : ℤ) (old now : List (ℤ × ℤ)) → (IsSmall v → ⊥) → now ≡ old → Gains old now (λ w. Among w (v ∷ []))
large_gained v old now large e = ([], e ∙ sym (append-nil old), no_numbers (λ w. Among w (v ∷ [])) (λ w s h. large (subst IsSmall (only_one v w h) s)))

-- the numbers of a term, by what it is
pub variable_gained : (d : Domains) (t : Term) (x : ℕ) (old now : List (ℤ × ℤ)) → t ≡ Var x → Gains old now (λ v. Among v (values d x)) → Gains old now (λ v. Among v (term_values d t))
variable_gained d t x old now e g = subst (λ (u : Term). Gains old now (λ v. Among v (term_values d u))) (sym e) g

pub constant_gained : (d : Domains) (t : Term) (w u : ℤ) (old now : List (ℤ × ℤ)) → t ≡ Const w → u ≡ w → Gains old now (λ v. Among v (u ∷ [])) → Gains old now (λ v. Among v (term_values d t))
constant_gained d t w u old now e f g =
    subst (λ (k : Term). Gains old now (λ v. Among v (term_values d k))) (sym e) (subst (λ z. Gains old now (λ v. Among v (z ∷ []))) f g)

-- ---- values among numbers

-- the values among the small numbers with the property are the values with it
pub common_collected : (vs s : List ℤ) (P : ℤ → Type 0) → IsDomain vs → Collects s (λ v. IsSmall v × P v) → Collects (filter (λ v. is_among v s) vs) (λ v. Among v vs × P v)
common_collected vs s P domain c = record {
  only = λ v m. let r = Among-filter_only (λ v. is_among v s) vs v m in (r.0, (c.only v (is_among-some v s r.1)).1);
  all = λ v r. Among-filter_all (λ v. is_among v s) vs v r.0 (is_among-at v s (c.all v (IsSmall-among vs domain v r.0, r.1)));
}

pub common_domain : (vs s : List ℤ) → IsDomain vs → IsDomain (filter (λ v. is_among v s) vs)
common_domain vs s domain = IsDomain-filter (λ v. is_among v s) vs domain
