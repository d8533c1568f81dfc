-- The turn by tight intervals is the turn of the part.
use Rattle.std.proofs.Common.{◌≡◌, ℕ, ◌+◌, ◌<◌, Bool, true, false, List, [], ◌∷◌, length, drop, map, ℤ, Option, Some, None, option_map, is_some, IsPermutation, refl, sym, ◌∙◌, ap, subst, inl, inr, arith}
use Rattle.std.specs.Prelude.{◌||◌, ◌==◌, get_or}
use Rattle.std.proofs.lemmas.Bool.{cond-false, cond-true, or_right}
use Rattle.std.proofs.lemmas.List.{drop_more}
use Rattle.dp_base.specs.Lists.{Among, Each}
use Rattle.dp_base.proofs.Lists.{list_any-at}
use Rattle.dp_base.proofs.ScopeLaws.{among_in_order_out}
use Rattle.dp_domain.specs.Atoms.{Atomic}
use Rattle.dp_domain.specs.declared.found.Found.TheVariants.{Clash, Atom}
use Rattle.dp_domain.specs.Faces.{Covers}
use Rattle.dp_domain.specs.Sets.{least_from, greatest_from}
use Rattle.dp_domain.specs.States.{Domains, is_dead, values}
use Rattle.dp_domain.specs.Terms.{term_scope, term_variables}
use Rattle.dp_domain.specs.declared.term.Term.{Term}
use Rattle.dp_domain.specs.Turns.{at_least, at_most, given, given_on, or_else, other_than, turn_of}
use Rattle.dp_domain.proofs.ScopeLaws.{Covers-at}
use Rattle.dp_domain.proofs.SetLaws.{greatest_from-among, greatest_from-bound, least_from-among, least_from-bound}
use Rattle.dp_domain.proofs.StateLaws.{alive-value}
use Rattle.dp_rule_alldiff.specs.AllDifferent.{face_all_different}
use Rattle.dp_rule_alldiff.specs.Once.{AreOnce}
use Rattle.dp_rule_alldiff.specs.SpanLaws.{spans_ordered}
use Rattle.dp_rule_alldiff.specs.Spans.{IsSpan, has_crowd, spans_of}
use Rattle.dp_rule_alldiff.specs.Tight.{AreLongest, hole_in, lower_in, mirror, tight_given, tight_on, upper_in}
use Rattle.dp_rule_alldiff.proofs.BlockLaws.{HasEnds, on_is}
use Rattle.dp_rule_alldiff.proofs.CutLaws.{IsCalm, stands_once}
use Rattle.dp_rule_alldiff.proofs.SpanSteps.{count_same, has_crowd_same, spans_same}
use Rattle.dp_rule_alldiff.proofs.TightLaws.{longest_same, mirror_same}

same_variable : (x : ℕ) → (x == x) ≡ true
same_variable x = grind arith

-- ---- one variable

ends_of : (v : ℤ) (vs : List ℤ) → HasEnds (v ∷ vs) (least_from v vs) (greatest_from v vs)
ends_of v vs = record {
  first = least_from-among v vs;
  last = greatest_from-among v vs;
  from = least_from-bound v vs;
  upto = greatest_from-bound v vs;
}

on_values : (terms : List Term) (d : Domains) (x : ℕ) (from to : List (ℤ × ℤ)) (vs : List ℤ) → values d x ≡ vs → IsCalm terms d x → ((v : ℤ) → (face_all_different terms).point x v ≡ true) → AreLongest (spans_of d terms) from → AreLongest (map mirror (spans_of d terms)) to
    → tight_on from to vs x ≡ given_on (face_all_different terms) d x
on_values terms d x from to [] e calm point longest mirrored = let m = alive-value d x calm.alive calm.there in absurd (subst (λ ws. Among m.0 ws) e m.1)
on_values terms d x from to (v ∷ vs) e calm point longest mirrored =
    sym (subst (λ ws. given_on (face_all_different terms) d x ≡ or_else (option_map (at_least x) (lower_in to ws (least_from v vs) (greatest_from v vs))) (or_else (option_map (at_most x) (upper_in from ws (least_from v vs) (greatest_from v vs))) (option_map (other_than x) (hole_in from ws (least_from v vs))))) e
    (on_is terms d x (least_from v vs) (greatest_from v vs) from to calm (subst (λ ws. HasEnds ws (least_from v vs) (greatest_from v vs)) (sym e) (ends_of v vs)) point longest mirrored))

-- ---- all variables

given_by : (terms : List Term) (d : Domains) (from to : List (ℤ × ℤ)) (xs : List ℕ) → ((x : ℕ) → Among x xs → tight_on from to (values d x) x ≡ given_on (face_all_different terms) d x) → tight_given from to d xs ≡ given (face_all_different terms) d xs
given_by terms d from to [] each = refl
given_by terms d from to (x ∷ xs) each =
    ap (λ o. or_else o (tight_given from to d xs)) (each x (inl refl)) ∙ ap (or_else (given_on (face_all_different terms) d x)) (given_by terms d from to xs (λ y here. each y (inr here)))

-- what the tight intervals give is what the part gives
given_is : (terms : List Term) (d : Domains) (from to : List (ℤ × ℤ)) → AreOnce (term_variables terms) → Covers (term_scope terms) d → is_dead d ≡ false → has_crowd (spans_of d terms) ≡ false → AreLongest (spans_of d terms) from → AreLongest (map mirror (spans_of d terms)) to
    → tight_given from to d (term_scope terms) ≡ given (face_all_different terms) d (term_scope terms)
given_is terms d from to once covers alive calm longest mirrored = given_by terms d from to (term_scope terms) (λ x here.
    on_values terms d x from to (values d x) refl
    (record { alive = alive; calm = calm; there = Covers-at (term_scope terms) d x covers here; once = stands_once terms x once (among_in_order_out x (term_variables terms) here) })
    (λ v. list_any-at (λ y. x == y) (term_scope terms) x here (same_variable x)) longest mirrored)

-- ---- the turn

turn_clash : (terms : List Term) (d : Domains) → has_crowd (spans_of d terms) ≡ true → Some Clash ≡ turn_of (face_all_different terms) d
turn_clash terms d crowd = sym (cond-true (is_dead d || has_crowd (spans_of d terms)) _ _ (or_right (is_dead d) (has_crowd (spans_of d terms)) crowd))

no_test : (a b : Bool) → a ≡ false → b ≡ false → (a || b) ≡ false
no_test a b e f = cc

turn_given : (terms : List Term) (d : Domains) → is_dead d ≡ false → has_crowd (spans_of d terms) ≡ false → option_map Atom (given (face_all_different terms) d (term_scope terms)) ≡ turn_of (face_all_different terms) d
turn_given terms d alive calm = sym (cond-false (is_dead d || has_crowd (spans_of d terms)) _ _ (no_test (is_dead d) (has_crowd (spans_of d terms)) alive calm))

-- the turn of spans in any order
pub clash_is : (terms : List Term) (d : Domains) (ss ts : List (ℤ × ℤ)) → ss ≡ spans_of d terms → IsPermutation ss ts → has_crowd ts ≡ true → Some Clash ≡ turn_of (face_all_different terms) d
clash_is terms d ss ts e same crowd =
    turn_clash terms d (sym (has_crowd_same (spans_of d terms) ts (subst (λ us. IsPermutation us ts) e same) (spans_ordered d terms)) ∙ crowd)

pub turn_is : (terms : List Term) (d : Domains) (ss ts from to : List (ℤ × ℤ)) (scope : List ℕ) → scope ≡ term_scope terms → AreOnce (term_variables terms) → Covers scope d → is_dead d ≡ false → ss ≡ spans_of d terms → IsPermutation ss ts → has_crowd ts ≡ false → AreLongest ts from → AreLongest (map mirror ts) to
    → option_map Atom (tight_given from to d scope) ≡ turn_of (face_all_different terms) d
turn_is terms d ss ts from to scope e once covers alive f same calm longest mirrored =
    let permuted = subst (λ us. IsPermutation us ts) f same in
    let counts = count_same (spans_of d terms) ts permuted in
    let quiet = sym (has_crowd_same (spans_of d terms) ts permuted (spans_ordered d terms)) ∙ calm in
    ap (λ xs. option_map Atom (tight_given from to d xs)) e
    ∙ ap (option_map Atom) (given_is terms d from to once (subst (λ xs. Covers xs d) e covers) alive quiet (longest_same (spans_of d terms) ts from counts longest) (longest_same (map mirror (spans_of d terms)) (map mirror ts) to (mirror_same (spans_of d terms) ts counts) mirrored))
    ∙ turn_given terms d alive quiet

-- ---- one variable after another

given_from : (from to : List (ℤ × ℤ)) (d : Domains) (scope : List ℕ) (i x : ℕ) → i < length scope → x ≡ get_or scope i x → tight_given from to d (drop i scope) ≡ or_else (tight_on from to (values d x) x) (tight_given from to d (drop (i + 1) scope))
given_from from to d scope i x h e =
    ap (tight_given from to d) (drop_more scope i x h)
    ∙ ap (λ y. or_else (tight_on from to (values d y) y) (tight_given from to d (drop (i + 1) scope))) (sym e)

first_there : (a b : Option Atomic) → is_some a ≡ true → or_else a b ≡ a
first_there None b e = absurd (cases e)
  where
    cases : false ≡ true → ⊥
    cases e = cc
first_there (Some a) b e = refl

first_absent : (a b : Option Atomic) → is_some a ≡ false → or_else a b ≡ b
first_absent None b e = refl
first_absent (Some a) b e = absurd (cases e)
  where
    cases : true ≡ false → ⊥
    cases e = cc

-- a variable that is given something gives the answer of all
pub given_found : (from to : List (ℤ × ℤ)) (d : Domains) (scope : List ℕ) (i x : ℕ) (o : Option Atomic) → tight_given from to d (drop i scope) ≡ tight_given from to d scope → i < length scope → x ≡ get_or scope i x → o ≡ tight_on from to (values d x) x → is_some o ≡ true → o ≡ tight_given from to d scope
given_found from to d scope i x o rest h e f t =
    sym (first_there o (tight_given from to d (drop (i + 1) scope)) t) ∙ ap (λ q. or_else q (tight_given from to d (drop (i + 1) scope))) f ∙ sym (given_from from to d scope i x h e) ∙ rest

-- a variable that is given nothing leaves the answer to the others
pub given_more : (from to : List (ℤ × ℤ)) (d : Domains) (scope : List ℕ) (i x : ℕ) (o : Option Atomic) → tight_given from to d (drop i scope) ≡ tight_given from to d scope → i < length scope → x ≡ get_or scope i x → o ≡ tight_on from to (values d x) x → is_some o ≡ false → tight_given from to d (drop (i + 1) scope) ≡ tight_given from to d scope
given_more from to d scope i x o rest h e f t =
    sym (first_absent o (tight_given from to d (drop (i + 1) scope)) t) ∙ ap (λ q. or_else q (tight_given from to d (drop (i + 1) scope))) f ∙ sym (given_from from to d scope i x h e) ∙ rest

-- ---- the turn in code

pub ordered_spans : (terms : List Term) (d : Domains) (ss ts us : List (ℤ × ℤ)) → ss ≡ spans_of d terms → IsPermutation ss ts → us ≡ ts → Each IsSpan us
ordered_spans terms d ss ts us e same f = subst (λ vs. Each IsSpan vs) (sym f) (spans_same ss ts same (subst (λ vs. Each IsSpan vs) (sym e) (spans_ordered d terms)))

pub clash_found : (terms : List Term) (d : Domains) (ss ts us : List (ℤ × ℤ)) → ss ≡ spans_of d terms → IsPermutation ss ts → us ≡ ts → has_crowd us ≡ true → Some Clash ≡ turn_of (face_all_different terms) d
clash_found terms d ss ts us e same f crowd = clash_is terms d ss ts e same (sym (ap has_crowd f) ∙ crowd)

pub turn_found : (terms : List Term) (d : Domains) (ss ts us ws from to : List (ℤ × ℤ)) (scope : List ℕ) (o : Option Atomic) → scope ≡ term_scope terms → AreOnce (term_variables terms) → Covers scope d → is_dead d ≡ false → ss ≡ spans_of d terms → IsPermutation ss ts → us ≡ ts → ws ≡ ts → has_crowd us ≡ false → AreLongest ws from → AreLongest (map mirror ws) to → o ≡ tight_given from to d scope → option_map Atom o ≡ turn_of (face_all_different terms) d
turn_found terms d ss ts us ws from to scope o e once covers alive f same g h calm longest mirrored k =
    ap (option_map Atom) k
    ∙ turn_is terms d ss ts from to scope e once covers alive f same (sym (ap has_crowd g) ∙ calm) (subst (λ vs. AreLongest vs from) h longest) (subst (λ vs. AreLongest (map mirror vs) to) h mirrored)
