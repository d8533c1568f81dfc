-- Laws of spans: they tell which sets lie in an interval, and a crowd is found between their ends.
use Rattle.std.specs.Prelude.{◌≡◌, ℕ, suc, ◌≤◌, Bool, true, false, Option, List, [], ◌∷◌, length, filter, map, ℤ, pos, ◌+ℤ◌, ◌-ℤ◌, ◌≤ℤ◌, ◌<ℤ◌, int_le, int_lt}
use Rattle.std.specs.List.{cons_option, filter_map}
use Rattle.std.proofs.Common.{refl, sym, ◌∙◌, ap, subst, inl, inr, arith, cond}
use Rattle.std.proofs.lemmas.Int.{ints}
use Rattle.std.proofs.lemmas.Bool.{false≢true, and_from, and_parts}
use Rattle.dp_base.specs.Lists.{Among, Each}
use Rattle.dp_base.proofs.Lists.{Among-filter_all, Among-filter_only, Each-among, list_all-at, list_all-from, list_any-at, list_any-some}
use Rattle.dp_domain.specs.Faces.{AgreesOn}
use Rattle.dp_domain.specs.Sets.{least_from, greatest_from}
use Rattle.dp_domain.specs.States.{Domains}
use Rattle.dp_domain.specs.Terms.{term_scope, term_values}
use Rattle.dp_domain.specs.declared.term.Term.{Term}
use Rattle.dp_domain.proofs.SetLaws.{least_from-among, least_from-bound, greatest_from-among, greatest_from-bound}
use Rattle.dp_domain.proofs.TermLaws.{term_in_scope, term_values-local}
use Rattle.dp_rule_alldiff.specs.AllDifferent.{Exceeds, is_between, lies_between, positions_between}
use Rattle.dp_rule_alldiff.specs.PigeonLaws.{between_where, is_between_where}
use Rattle.dp_rule_alldiff.specs.CountLaws.{count-within, count_is}
use Rattle.dp_rule_alldiff.specs.OrderLaws.{is_less_where, le_itself, le_through, less_where}
use Rattle.dp_domain.proofs.AtomLaws.{le-from_test, test-from_le}
use Rattle.std.specs.Cmp.{both_ways}
use Rattle.dp_rule_alldiff.specs.Spans.{IsSpan, count_inside, has_crowd, is_crowded, is_crowded_from, is_inside, span_of, spans_of}

-- ---- one set

-- what the test says
pub inside_where : (a b : ℤ) (s : ℤ × ℤ) → is_inside a b s ≡ true → (a ≤ℤ s.0) × (s.1 ≤ℤ b)
inside_where a b s e = let both = and_parts (int_le a s.0) (int_le s.1 b) e in (le-from_test a s.0 both.0, le-from_test s.1 b both.1)

pub is_inside_where : (a b : ℤ) (s : ℤ × ℤ) → a ≤ℤ s.0 → s.1 ≤ℤ b → is_inside a b s ≡ true
is_inside_where a b s h k = and_from (int_le a s.0) (int_le s.1 b) (test-from_le a s.0 h) (test-from_le s.1 b k)

-- a set lies in an interval exactly where its span does
lies_inside : (a b v : ℤ) (vs : List ℤ) → lies_between a b (v ∷ vs) ≡ is_inside a b (least_from v vs, greatest_from v vs)
lies_inside a b v vs = both_ways (lies_between a b (v ∷ vs)) (is_inside a b (least_from v vs, greatest_from v vs))
    (λ e. is_inside_where a b (least_from v vs, greatest_from v vs)
    (between_where a b (least_from v vs) (list_all-at (is_between a b) (v ∷ vs) (least_from v vs) e (least_from-among v vs))).0
    (between_where a b (greatest_from v vs) (list_all-at (is_between a b) (v ∷ vs) (greatest_from v vs) e (greatest_from-among v vs))).1)
    (λ e. list_all-from (is_between a b) (v ∷ vs) (λ w here.
    let inside = inside_where a b (least_from v vs, greatest_from v vs) e in
    is_between_where a b w
    (le_through a (least_from v vs) w inside.0 (least_from-bound v vs w here))
    (le_through w (greatest_from v vs) b (greatest_from-bound v vs w here) inside.1)))

-- the first number of a span is at most the last
span_ordered : (v : ℤ) (vs : List ℤ) → least_from v vs ≤ℤ greatest_from v vs
span_ordered v vs = le_through (least_from v vs) v (greatest_from v vs) (least_from-bound v vs v (inl refl)) (greatest_from-bound v vs v (inl refl))

-- ---- all positions

count_one : (a b : ℤ) (vs : List ℤ) (n : ℕ) (ss : List (ℤ × ℤ)) → n ≡ length (filter (is_inside a b) ss) → cond (lies_between a b vs) (suc n) n ≡ length (filter (is_inside a b) (cons_option (span_of vs) ss))
count_one a b [] n ss e = e
count_one a b (v ∷ vs) n ss e = counted (lies_between a b (v ∷ vs)) (is_inside a b (least_from v vs, greatest_from v vs)) n (least_from v vs, greatest_from v vs) (filter (is_inside a b) ss) (lies_inside a b v vs) e
  where
    counted : (b c : Bool) (n : ℕ) (s : ℤ × ℤ) (ss : List (ℤ × ℤ)) → b ≡ c → n ≡ length ss → cond b (suc n) n ≡ length (cond c (s ∷ ss) ss)
    counted true true n s ss e f = ap suc f
    counted true false n s ss e f = absurd (false≢true (sym e))
    counted false true n s ss e f = absurd (false≢true e)
    counted false false n s ss e f = f

-- the positions with their whole set in an interval are those whose span lies in it
pub positions_inside : (d : Domains) (terms : List Term) (a b : ℤ) → positions_between d terms a b ≡ count_inside (spans_of d terms) a b
positions_inside d [] a b = refl
positions_inside d (t ∷ terms) a b =
    count_is (λ u. lies_between a b (term_values d u)) t terms (lies_between a b (term_values d t)) refl
    ∙ count_one a b (term_values d t) (positions_between d terms a b) (spans_of d terms) (positions_inside d terms a b)

ordered_one : (vs : List ℤ) (ss : List (ℤ × ℤ)) → Each IsSpan ss → Each IsSpan (cons_option (span_of vs) ss)
ordered_one [] ss each = each
ordered_one (v ∷ vs) ss each = (span_ordered v vs, each)

-- each span has its first number before its last, or they are one
pub spans_ordered : (d : Domains) (terms : List Term) → Each IsSpan (spans_of d terms)
spans_ordered d [] = tt
spans_ordered d (t ∷ terms) = ordered_one (term_values d t) (spans_of d terms) (spans_ordered d terms)

filter_map-same : {A B : Type 0} (f g : A → Option B) (xs : List A) → ((x : A) → Among x xs → f x ≡ g x) → filter_map f xs ≡ filter_map g xs
filter_map-same f g [] each = refl
filter_map-same f g (x ∷ xs) each =
    ap (λ o. cons_option o (filter_map f xs)) (each x (inl refl)) ∙ ap (λ ys. cons_option (g x) ys) (filter_map-same f g xs (λ y here. each y (inr here)))

-- the spans depend on the scope's sets alone
pub spans_local : (d e : Domains) (terms : List Term) → AgreesOn (term_scope terms) d e → spans_of d terms ≡ spans_of e terms
spans_local d e terms agrees =
    filter_map-same (λ t. span_of (term_values d t)) (λ t. span_of (term_values e t)) terms (λ t here. ap span_of (term_values-local (term_scope terms) d e t agrees (term_in_scope terms t here)))

-- ---- crowds

-- what the test says
pub crowded_where : (ss : List (ℤ × ℤ)) (a b : ℤ) → is_crowded ss a b ≡ true → Exceeds a b (count_inside ss a b)
crowded_where ss a b e = let both = and_parts (int_le a b) (int_lt ((b -ℤ a) +ℤ pos 1) (pos (count_inside ss a b))) e in record {
  some = le-from_test a b both.0;
  more = less_where ((b -ℤ a) +ℤ pos 1) (pos (count_inside ss a b)) both.1;
}

pub is_crowded_where : (ss : List (ℤ × ℤ)) (a b : ℤ) → Exceeds a b (count_inside ss a b) → is_crowded ss a b ≡ true
is_crowded_where ss a b exceeds = and_from (int_le a b) (int_lt ((b -ℤ a) +ℤ pos 1) (pos (count_inside ss a b))) (test-from_le a b exceeds.some) (is_less_where ((b -ℤ a) +ℤ pos 1) (pos (count_inside ss a b)) exceeds.more)

pub Among-map_only : {A B : Type 0} (f : A → B) (xs : List A) (z : B) → Among z (map f xs) → (x : A) × Among x xs × (z ≡ f x)
Among-map_only f [] z here = absurd here
Among-map_only f (y ∷ ys) z (inl e) = (y, inl refl, e)
Among-map_only f (y ∷ ys) z (inr here) = let r = Among-map_only f ys z here in (r.0, inr r.1, r.2)

Among-map : {A B : Type 0} (f : A → B) (xs : List A) (x : A) → Among x xs → Among (f x) (map f xs)
Among-map f [] x here = absurd here
Among-map f (y ∷ ys) x (inl e) = inl (ap f e)
Among-map f (y ∷ ys) x (inr here) = inr (Among-map f ys x here)

-- some span begins before the others, or with them
first_of : (s : ℤ × ℤ) (ss : List (ℤ × ℤ)) → (first : ℤ × ℤ) × Among first (s ∷ ss) × ((t : ℤ × ℤ) → Among t (s ∷ ss) → first.0 ≤ℤ t.0)
first_of s ss =
    let low = Among-map_only (λ (t : ℤ × ℤ). t.0) (s ∷ ss) (least_from s.0 (map (λ (t : ℤ × ℤ). t.0) ss)) (least_from-among s.0 (map (λ (t : ℤ × ℤ). t.0) ss)) in
    (low.0, low.1, λ t here. subst (λ z. z ≤ℤ t.0) low.2 (least_from-bound s.0 (map (λ (t : ℤ × ℤ). t.0) ss) t.0 (Among-map (λ (t : ℤ × ℤ). t.0) (s ∷ ss) t here)))

-- and some span ends after the others, or with them
last_of : (s : ℤ × ℤ) (ss : List (ℤ × ℤ)) → (last : ℤ × ℤ) × Among last (s ∷ ss) × ((t : ℤ × ℤ) → Among t (s ∷ ss) → t.1 ≤ℤ last.1)
last_of s ss =
    let high = Among-map_only (λ (t : ℤ × ℤ). t.1) (s ∷ ss) (greatest_from s.1 (map (λ (t : ℤ × ℤ). t.1) ss)) (greatest_from-among s.1 (map (λ (t : ℤ × ℤ). t.1) ss)) in
    (high.0, high.1, λ t here. subst (λ z. t.1 ≤ℤ z) high.2 (greatest_from-bound s.1 (map (λ (t : ℤ × ℤ). t.1) ss) t.1 (Among-map (λ (t : ℤ × ℤ). t.1) (s ∷ ss) t here)))

some_first : (ss : List (ℤ × ℤ)) → 1 ≤ length ss → (first : ℤ × ℤ) × Among first ss × ((t : ℤ × ℤ) → Among t ss → first.0 ≤ℤ t.0)
some_first [] h = absurd (omega arith)
some_first (s ∷ ss) h = first_of s ss

pub some_last : (ss : List (ℤ × ℤ)) → 1 ≤ length ss → (last : ℤ × ℤ) × Among last ss × ((t : ℤ × ℤ) → Among t ss → t.1 ≤ℤ last.1)
some_last [] h = absurd (omega arith)
some_last (s ∷ ss) h = last_of s ss

-- what exceeds the numbers of an interval is there
pub one_there : (a b : ℤ) (n : ℕ) → Exceeds a b n → 1 ≤ n
one_there a b n exceeds = at_least_one a b n exceeds.some exceeds.more
  where
    at_least_one : (a b : ℤ) (n : ℕ) → a ≤ℤ b → ((b -ℤ a) +ℤ pos 1) <ℤ pos n → 1 ≤ n
    at_least_one a b n h k = omega (arith, ints)

-- no fewer in an interval within it exceed that too
tighter : (a b c e : ℤ) (n m : ℕ) → a ≤ℤ c → c ≤ℤ e → e ≤ℤ b → n ≤ m → Exceeds a b n → Exceeds c e m
tighter a b c e n m h i j k exceeds = record { some = i; more = fewer a b c e n m h j k exceeds.more }
  where
    fewer : (a b c e : ℤ) (n m : ℕ) → a ≤ℤ c → e ≤ℤ b → n ≤ m → ((b -ℤ a) +ℤ pos 1) <ℤ pos n → ((e -ℤ c) +ℤ pos 1) <ℤ pos m
    fewer a b c e n m h j k l = omega (arith, ints)

-- a crowded interval holds one to the last number of a span
pub crowd_from : (ss : List (ℤ × ℤ)) (a b : ℤ) → Each IsSpan ss → Exceeds a b (count_inside ss a b) → is_crowded_from ss a ≡ true
crowd_from ss a b ordered exceeds =
    let last = some_last (filter (is_inside a b) ss) (one_there a b (count_inside ss a b) exceeds) in
    let there = Among-filter_only (is_inside a b) ss last.0 last.1 in
    let ends = inside_where a b last.0 there.1 in
    let more = count-within (is_inside a b) (is_inside a last.0.1) ss (λ s here inside.
    is_inside_where a last.0.1 s (inside_where a b s inside).0 (last.2 s (Among-filter_all (is_inside a b) ss s here inside))) in
    list_any-at (λ (s : ℤ × ℤ). is_crowded ss a s.1) ss last.0 there.0
    (is_crowded_where ss a last.0.1
    (tighter a b a last.0.1 (count_inside ss a b) (count_inside ss a last.0.1) (le_itself a) (le_through a last.0.0 last.0.1 ends.0 (Each-among IsSpan ss ordered last.0 there.0)) ends.1 more exceeds))

-- where some interval is crowded, the test finds one, from the first number of a span
pub crowd_at : (ss : List (ℤ × ℤ)) (a b : ℤ) → Each IsSpan ss → Exceeds a b (count_inside ss a b) → has_crowd ss ≡ true
crowd_at ss a b ordered exceeds =
    let first = some_first (filter (is_inside a b) ss) (one_there a b (count_inside ss a b) exceeds) in
    let there = Among-filter_only (is_inside a b) ss first.0 first.1 in
    let ends = inside_where a b first.0 there.1 in
    let more = count-within (is_inside a b) (is_inside first.0.0 b) ss (λ s here inside.
    is_inside_where first.0.0 b s (first.2 s (Among-filter_all (is_inside a b) ss s here inside)) (inside_where a b s inside).1) in
    list_any-at (λ (s : ℤ × ℤ). is_crowded_from ss s.0) ss first.0 there.0
    (crowd_from ss first.0.0 b ordered
    (tighter a b first.0.0 b (count_inside ss a b) (count_inside ss first.0.0 b) ends.0 (le_through first.0.0 first.0.1 b (Each-among IsSpan ss ordered first.0 there.0) ends.1) (le_itself b) more exceeds))

-- what the test finds from a number is a crowded interval
pub crowd_from_some : (ss : List (ℤ × ℤ)) (a : ℤ) → is_crowded_from ss a ≡ true → (b : ℤ) × Exceeds a b (count_inside ss a b)
crowd_from_some ss a e =
    let last = list_any-some (λ (s : ℤ × ℤ). is_crowded ss a s.1) ss e in
    (last.0.1, crowded_where ss a last.0.1 last.2)

pub crowd_some : (ss : List (ℤ × ℤ)) → has_crowd ss ≡ true → (a : ℤ) × (b : ℤ) × Exceeds a b (count_inside ss a b)
crowd_some ss e =
    let first = list_any-some (λ (s : ℤ × ℤ). is_crowded_from ss s.0) ss e in
    let last = crowd_from_some ss first.0.0 first.2 in
    (first.0.0, last.0, last.1)
