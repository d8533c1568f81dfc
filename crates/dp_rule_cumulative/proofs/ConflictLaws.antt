-- Where a demand has no room, it has none at its own end, or at an edge of some part.
use Rattle.std.proofs.Common.{◌≡◌, ℕ, ◌+◌, ◌<◌, ◌≤◌, nat_lt, true, false, ◌⊎◌, Option, Some, None, List, [], ◌∷◌, map, ℤ, ◌≤ℤ◌, ◌<ℤ◌, int_le, int_lt, refl, sym, ◌∙◌, ap, subst, inl, inr, arith}
use Rattle.std.specs.List.{filter}
use Rattle.std.proofs.lemmas.Int.{ints}
use Rattle.std.proofs.lemmas.Bool.{and_from, and_parts, both_ways, cases_Bool, false_from_ne_true}
use Rattle.std.proofs.lemmas.Bool.Decides.{nat_tests}
use Rattle.dp_base.specs.Lists.{Among}
use Rattle.dp_base.proofs.Lists.{Among-filter_all, Among-filter_only}
use Rattle.dp_domain.specs.Sets.{greatest, least}
use Rattle.dp_domain.proofs.AtomLaws.{le-from_test, lt-from_test, test-from_le}
use Rattle.dp_domain.proofs.ExplanationLaws.{Among-map, Among-map_item}
use Rattle.dp_domain.proofs.SetLaws.{greatest-among, greatest-bound, least-among, least-bound}
use Rattle.dp_rule_cumulative.specs.Profiles.{IsEarliest, IsLast, conflicts, edges_of, ends_in, holds_at, is_within, lacks_room, starts_in, used_at}
use Rattle.dp_rule_cumulative.specs.UsageLaws.{sum-le}
use Rattle.dp_rule_cumulative.specs.declared.demand.Demand.{Demand}
use Rattle.dp_rule_cumulative.specs.declared.profile.Edges.{Edges}
use Rattle.dp_rule_cumulative.specs.declared.profile.Part.{Part}

-- ---- tests

within_parts : (a b t : ℤ) → is_within a b t ≡ true → (a ≤ℤ t) × (t ≤ℤ b)
within_parts a b t e = let r = and_parts (int_le a t) (int_le t b) e in (le-from_test a t r.0, le-from_test t b r.1)

within_from : (a b t : ℤ) → a ≤ℤ t → t ≤ℤ b → is_within a b t ≡ true
within_from a b t h k = and_from (int_le a t) (int_le t b) (test-from_le a t h) (test-from_le t b k)

-- the time is of the demand, and there is no room
pub record LacksRoom (w : Demand) (t : ℤ) (used : ℕ) : Type 0 where
  pub first : w.from ≤ℤ t
  pub last : t ≤ℤ w.last
  pub over : w.capacity < used + w.usage

more_than : (m n : ℕ) → nat_lt m n ≡ true → m < n
more_than m n e = grind (arith, nat_tests)

more_test : (m n : ℕ) → m < n → nat_lt m n ≡ true
more_test m n h = grind (arith, nat_tests)

pub lacks_parts : (w : Demand) (t : ℤ) (used : ℕ) → lacks_room w t used ≡ true → LacksRoom w t used
lacks_parts w t used e =
    let r = and_parts (is_within w.from w.last t) (nat_lt w.capacity (used + w.usage)) e in
    let s = within_parts w.from w.last t r.0 in
    record { first = s.0; last = s.1; over = more_than w.capacity (used + w.usage) r.1 }

pub lacks_from : (w : Demand) (t : ℤ) (used : ℕ) → LacksRoom w t used → lacks_room w t used ≡ true
lacks_from w t used l =
    and_from (is_within w.from w.last t) (nat_lt w.capacity (used + w.usage)) (within_from w.from w.last t l.first l.last) (more_test w.capacity (used + w.usage) l.over)

-- ---- edges

enough : (c m n u : ℕ) → c < m + u → m ≤ n → c < n + u
enough c m n u h k = omega arith

-- there is no room either at a time of the demand at which all the parts go on
carried : (w : Demand) (ps : List Part) (t v : ℤ) → conflicts w ps t ≡ true → w.from ≤ℤ v → v ≤ℤ w.last → ((p : Part) → Among p ps → holds_at t p ≡ true → holds_at v p ≡ true) → conflicts w ps v ≡ true
carried w ps t v e h k keeps =
    let l = lacks_parts w t (used_at t ps) e in
    lacks_from w v (used_at v ps) (record { first = h; last = k; over = enough w.capacity (used_at t ps) (used_at v ps) w.usage l.over (sum-le (λ (p : Part). p.usage) (holds_at t) (holds_at v) ps keeps) })

le_trans : (a b c : ℤ) → a ≤ℤ b → b ≤ℤ c → a ≤ℤ c
le_trans a b c h k = omega (arith, ints)

below : (a b : ℤ) → a <ℤ b → a ≤ℤ b
below a b h = omega (arith, ints)

-- what runs at one time and does not end before a later one runs then
goes_on : (t v : ℤ) (p : Part) → t ≤ℤ v → v ≤ℤ p.last → holds_at t p ≡ true → holds_at v p ≡ true
goes_on t v p h k e = let s = within_parts p.from p.last t e in within_from p.from p.last v (le_trans p.from t v s.0 h) k

-- nor begins after an earlier one
went_on : (t v : ℤ) (p : Part) → v ≤ℤ t → p.from ≤ℤ v → holds_at t p ≡ true → holds_at v p ≡ true
went_on t v p h k e = let s = within_parts p.from p.last t e in within_from p.from p.last v k (le_trans v t p.last h s.1)

at_end : (w : Demand) (ps : List Part) (p : Part) → Among p ps → conflicts w ps p.last ≡ true → Among p.last (ends_in w (map (edges_of ps) ps))
at_end w ps p here e =
    Among-map (λ (e : Edges). e.last) (filter (λ (e : Edges). lacks_room w e.last e.at_last) (map (edges_of ps) ps)) (edges_of ps p)
    (Among-filter_all (λ (e : Edges). lacks_room w e.last e.at_last) (map (edges_of ps) ps) (edges_of ps p) (Among-map (edges_of ps) ps p here) e)

at_start : (w : Demand) (ps : List Part) (p : Part) → Among p ps → conflicts w ps p.from ≡ true → Among p.from (starts_in w (map (edges_of ps) ps))
at_start w ps p here e =
    Among-map (λ (e : Edges). e.start) (filter (λ (e : Edges). lacks_room w e.start e.at_start) (map (edges_of ps) ps)) (edges_of ps p)
    (Among-filter_all (λ (e : Edges). lacks_room w e.start e.at_start) (map (edges_of ps) ps) (edges_of ps p) (Among-map (edges_of ps) ps p here) e)

end_conflicts : (w : Demand) (ps : List Part) (v : ℤ) → Among v (ends_in w (map (edges_of ps) ps)) → conflicts w ps v ≡ true
end_conflicts w ps v h =
    let r = Among-map_item (λ (e : Edges). e.last) (filter (λ (e : Edges). lacks_room w e.last e.at_last) (map (edges_of ps) ps)) v h in
    let s = Among-filter_only (λ (e : Edges). lacks_room w e.last e.at_last) (map (edges_of ps) ps) r.0 r.1 in
    let p = Among-map_item (edges_of ps) ps r.0 s.0 in
    subst (λ u. conflicts w ps u ≡ true) (sym (r.2 ∙ ap (λ (e : Edges). e.last) p.2)) (subst (λ (e : Edges). lacks_room w e.last e.at_last ≡ true) p.2 s.1)

start_conflicts : (w : Demand) (ps : List Part) (v : ℤ) → Among v (starts_in w (map (edges_of ps) ps)) → conflicts w ps v ≡ true
start_conflicts w ps v h =
    let r = Among-map_item (λ (e : Edges). e.start) (filter (λ (e : Edges). lacks_room w e.start e.at_start) (map (edges_of ps) ps)) v h in
    let s = Among-filter_only (λ (e : Edges). lacks_room w e.start e.at_start) (map (edges_of ps) ps) r.0 r.1 in
    let p = Among-map_item (edges_of ps) ps r.0 s.0 in
    subst (λ u. conflicts w ps u ≡ true) (sym (r.2 ∙ ap (λ (e : Edges). e.start) p.2)) (subst (λ (e : Edges). lacks_room w e.start e.at_start ≡ true) p.2 s.1)

-- the parts of a time, by their last times and by their first
abbrev lasts : List Part → ℤ → List ℤ
lasts ps t = map (λ (p : Part). p.last) (filter (holds_at t) ps)

abbrev firsts : List Part → ℤ → List ℤ
firsts ps t = map (λ (p : Part). p.from) (filter (holds_at t) ps)

last_among : (ps : List Part) (t : ℤ) (p : Part) → Among p ps → holds_at t p ≡ true → Among p.last (lasts ps t)
last_among ps t p here e = Among-map (λ (p : Part). p.last) (filter (holds_at t) ps) p (Among-filter_all (holds_at t) ps p here e)

first_among : (ps : List Part) (t : ℤ) (p : Part) → Among p ps → holds_at t p ≡ true → Among p.from (firsts ps t)
first_among ps t p here e = Among-map (λ (p : Part). p.from) (filter (holds_at t) ps) p (Among-filter_all (holds_at t) ps p here e)

least_none : (xs : List ℤ) (v : ℤ) → least xs ≡ None → Among v xs → ⊥
least_none [] v e h = h
least_none (x ∷ xs) v e h = cc

greatest_none : (xs : List ℤ) (v : ℤ) → greatest xs ≡ None → Among v xs → ⊥
greatest_none [] v e h = h
greatest_none (x ∷ xs) v e h = cc

-- where there is no room, there is none at the demand's last time, or at the last time of a part that comes no earlier
later_end : (w : Demand) (ps : List Part) (t : ℤ) (o : Option ℤ) → least (lasts ps t) ≡ o → conflicts w ps t ≡ true → (conflicts w ps w.last ≡ true) ⊎ ((v : ℤ) × (t ≤ℤ v) × Among v (ends_in w (map (edges_of ps) ps)))
later_end w ps t None f e =
    let l = lacks_parts w t (used_at t ps) e in
    inl (carried w ps t w.last e (le_trans w.from t w.last l.first l.last) (omega (arith, ints)) (λ p here holds. absurd (least_none (lasts ps t) p.last f (last_among ps t p here holds))))
later_end w ps t (Some m) f e =
    let l = lacks_parts w t (used_at t ps) e in
    let bound = λ (p : Part) (here : Among p ps) (holds : holds_at t p ≡ true). least-bound (lasts ps t) m f p.last (last_among ps t p here holds) in
    elim (cases_Bool (int_le w.last m)) [
      | inl g ↦ let far = le-from_test w.last m g in
          inl (carried w ps t w.last e (le_trans w.from t w.last l.first l.last) (omega (arith, ints)) (λ p here holds. goes_on t w.last p l.last (le_trans w.last m p.last far (bound p here holds)) holds))
      | inr g ↦ let near = below m w.last (lt-from_test w.last m g) in
          let q = Among-map_item (λ (p : Part). p.last) (filter (holds_at t) ps) m (least-among (lasts ps t) m f) in
          let r = Among-filter_only (holds_at t) ps q.0 q.1 in
          let h : t ≤ℤ m = subst (λ u. t ≤ℤ u) (sym q.2) (within_parts q.0.from q.0.last t r.1).1 in
          let c = carried w ps t m e (le_trans w.from t m l.first h) near (λ p here holds. goes_on t m p h (bound p here holds) holds) in
          inr (m, h, subst (λ u. Among u (ends_in w (map (edges_of ps) ps))) (sym q.2) (at_end w ps q.0 r.0 (subst (λ u. conflicts w ps u ≡ true) q.2 c)))
    ]

-- at the demand's first time, or at the first time of a part that comes no later
earlier_start : (w : Demand) (ps : List Part) (t : ℤ) (o : Option ℤ) → greatest (firsts ps t) ≡ o → conflicts w ps t ≡ true → (conflicts w ps w.from ≡ true) ⊎ ((v : ℤ) × (v ≤ℤ t) × Among v (starts_in w (map (edges_of ps) ps)))
earlier_start w ps t None f e =
    let l = lacks_parts w t (used_at t ps) e in
    inl (carried w ps t w.from e (omega (arith, ints)) (le_trans w.from t w.last l.first l.last) (λ p here holds. absurd (greatest_none (firsts ps t) p.from f (first_among ps t p here holds))))
earlier_start w ps t (Some m) f e =
    let l = lacks_parts w t (used_at t ps) e in
    let bound = λ (p : Part) (here : Among p ps) (holds : holds_at t p ≡ true). greatest-bound (firsts ps t) m f p.from (first_among ps t p here holds) in
    elim (cases_Bool (int_le m w.from)) [
      | inl g ↦ let far = le-from_test m w.from g in
          inl (carried w ps t w.from e (omega (arith, ints)) (le_trans w.from t w.last l.first l.last) (λ p here holds. went_on t w.from p l.first (le_trans p.from m w.from (bound p here holds) far) holds))
      | inr g ↦ let near = below w.from m (lt-from_test m w.from g) in
          let q = Among-map_item (λ (p : Part). p.from) (filter (holds_at t) ps) m (greatest-among (firsts ps t) m f) in
          let r = Among-filter_only (holds_at t) ps q.0 q.1 in
          let h : m ≤ℤ t = subst (λ u. u ≤ℤ t) (sym q.2) (within_parts q.0.from q.0.last t r.1).0 in
          let c = carried w ps t m e near (le_trans m t w.last h l.last) (λ p here holds. went_on t m p h (bound p here holds) holds) in
          inr (m, h, subst (λ u. Among u (starts_in w (map (edges_of ps) ps))) (sym q.2) (at_start w ps q.0 r.0 (subst (λ u. conflicts w ps u ≡ true) q.2 c)))
    ]

-- ---- the last time and the first

last_at : (w : Demand) (ps : List Part) (o : Option ℤ) → conflicts w ps w.last ≡ false → greatest (ends_in w (map (edges_of ps) ps)) ≡ o → IsLast (conflicts w ps) o
last_at w ps None n f = λ t. false_from_ne_true (conflicts w ps t) (λ e. elim (later_end w ps t (least (lasts ps t)) refl e) [
  | inl k ↦ both_ways (conflicts w ps w.last) n k
  | inr v ↦ greatest_none (ends_in w (map (edges_of ps) ps)) v.0 f v.2
])
last_at w ps (Some m) n f = (
  end_conflicts w ps m (greatest-among (ends_in w (map (edges_of ps) ps)) m f),
  λ t e. elim (later_end w ps t (least (lasts ps t)) refl e) [
    | inl k ↦ absurd (both_ways (conflicts w ps w.last) n k)
    | inr v ↦ le_trans t v.0 m v.1 (greatest-bound (ends_in w (map (edges_of ps) ps)) m f v.0 v.2)
  ],
)

-- where there is room at the demand's last time, the last without is that of a part
pub last-of_ends : (w : Demand) (ps : List Part) → conflicts w ps w.last ≡ false → IsLast (conflicts w ps) (greatest (ends_in w (map (edges_of ps) ps)))
last-of_ends w ps n = last_at w ps (greatest (ends_in w (map (edges_of ps) ps))) n refl

earliest_at : (w : Demand) (ps : List Part) (o : Option ℤ) → conflicts w ps w.from ≡ false → least (starts_in w (map (edges_of ps) ps)) ≡ o → IsEarliest (conflicts w ps) o
earliest_at w ps None n f = λ t. false_from_ne_true (conflicts w ps t) (λ e. elim (earlier_start w ps t (greatest (firsts ps t)) refl e) [
  | inl k ↦ both_ways (conflicts w ps w.from) n k
  | inr v ↦ least_none (starts_in w (map (edges_of ps) ps)) v.0 f v.2
])
earliest_at w ps (Some m) n f = (
  start_conflicts w ps m (least-among (starts_in w (map (edges_of ps) ps)) m f),
  λ t e. elim (earlier_start w ps t (greatest (firsts ps t)) refl e) [
    | inl k ↦ absurd (both_ways (conflicts w ps w.from) n k)
    | inr v ↦ le_trans m v.0 t (least-bound (starts_in w (map (edges_of ps) ps)) m f v.0 v.2) v.1
  ],
)

-- where there is room at the demand's first time, the first without is that of a part
pub earliest-of_starts : (w : Demand) (ps : List Part) → conflicts w ps w.from ≡ false → IsEarliest (conflicts w ps) (least (starts_in w (map (edges_of ps) ps)))
earliest-of_starts w ps n = earliest_at w ps (least (starts_in w (map (edges_of ps) ps))) n refl

-- a demand of no time has room
pub none-of_empty : (w : Demand) (ps : List Part) → int_lt w.last w.from ≡ true → (t : ℤ) → conflicts w ps t ≡ false
none-of_empty w ps e t = false_from_ne_true (conflicts w ps t) (λ c.
    let l = lacks_parts w t (used_at t ps) c in
    let first : w.from ≤ℤ t = l.first in
    let last : t ≤ℤ w.last = l.last in
    let h : w.last <ℤ w.from = omega (arith, ints) in
    omega (arith, ints))

-- where there is no room at the demand's last time, that is the last
pub last-of_demand : (w : Demand) (ps : List Part) → conflicts w ps w.last ≡ true → IsLast (conflicts w ps) (Some w.last)
last-of_demand w ps e = (e, λ t c. (lacks_parts w t (used_at t ps) c).last)

-- and where there is none at its first, that is the first
pub earliest-of_demand : (w : Demand) (ps : List Part) → conflicts w ps w.from ≡ true → IsEarliest (conflicts w ps) (Some w.from)
earliest-of_demand w ps e = (e, λ t c. (lacks_parts w t (used_at t ps) c).first)
