-- What a part gives on several variables, where few of them get anything.
use Rattle.std.proofs.Common.{◌≡◌, ℕ, Bool, true, false, cond, ◌&&◌, List, [], ◌∷◌, ℤ, Option, Some, None, option_map, refl, sym, ◌∙◌, ap, inl, inr}
use Rattle.std.specs.List.{filter}
use Rattle.std.proofs.lemmas.Bool.{both_ways, cases_eq, false_from_ne_true}
use Rattle.dp_base.specs.Lists.{Among}
use Rattle.dp_base.specs.Scopes.{with_variable}
use Rattle.dp_base.proofs.Lists.{Among-filter_only}
use Rattle.dp_base.proofs.ScopeLaws.{order_of, with_variable-after, with_variable-before, with_variable-same}
use Rattle.dp_domain.specs.Atoms.{Atomic, negated}
use Rattle.dp_domain.specs.declared.found.Found.TheVariants.{Clash, Atom}
use Rattle.dp_domain.specs.Sets.{greatest, least}
use Rattle.dp_domain.specs.States.{Domains, cut, entails, values}
use Rattle.dp_domain.specs.Faces.{Face}
use Rattle.dp_domain.specs.Turns.{at_least, at_most, given, given_on, gives, new_hole, new_upper, or_else, other_than, turn_of}
use Rattle.dp_domain.proofs.StateLaws.{is_nil-none, nil-from_test}
use Rattle.dp_domain.proofs.TurnLaws.{gives-parts}

-- ---- one variable

not_given : (f : Face) (d : Domains) (a : Atomic) → (entails d a ≡ false → f.test (cut d (negated a)) ≡ false) → gives f d a ≡ false
not_given f d a h = false_from_ne_true (gives f d a) (λ g. let r = gives-parts f d a g in both_ways (f.test (cut d (negated a))) (h r.0) r.1)

keeps_none : (p : ℤ → Bool) (xs : List ℤ) → ((v : ℤ) → p v ≡ false) → filter p xs ≡ []
keeps_none p xs h = nil-from_test (filter p xs) (is_nil-none (filter p xs) (λ v m. both_ways (p v) (h v) (Among-filter_only p xs v m).1))

and_false : (a b : Bool) → b ≡ false → (a && b) ≡ false
and_false true b e = e
and_false false b e = refl

-- a part that clashes nowhere where the variable lacks some of its values gives nothing on it
pub nothing-on : (f : Face) (d : Domains) (x : ℕ) → ((a : Atomic) → a.var ≡ x → entails d a ≡ false → f.test (cut d (negated a)) ≡ false) → given_on f d x ≡ None
nothing-on f d x h =
    ap (λ ys. or_else (option_map (at_least x) (greatest ys)) (or_else (new_upper f d x) (new_hole f d x)))
    (keeps_none (λ v. gives f d (at_least x v)) (values d x) (λ v. not_given f d (at_least x v) (h (at_least x v) refl)))
    ∙ ap (λ ys. or_else (option_map (at_most x) (least ys)) (new_hole f d x))
    (keeps_none (λ v. gives f d (at_most x v)) (values d x) (λ v. not_given f d (at_most x v) (h (at_most x v) refl)))
    ∙ ap (λ ys. option_map (other_than x) (least ys))
    (keeps_none (λ v. f.point x v && gives f d (other_than x v)) (values d x) (λ v. and_false (f.point x v) (gives f d (other_than x v)) (not_given f d (other_than x v) (h (other_than x v) refl))))

-- ---- several variables

-- variables that each get nothing
pub given-none : (f : Face) (d : Domains) (xs : List ℕ) → ((y : ℕ) → Among y xs → given_on f d y ≡ None) → given f d xs ≡ None
given-none f d [] h = refl
given-none f d (x ∷ xs) h = ap (λ o. or_else o (given f d xs)) (h x (inl refl)) ∙ given-none f d xs (λ y m. h y (inr m))

alone_first : (f : Face) (d : Domains) (x : ℕ) (ys : List ℕ) (o : Option Atomic) → given_on f d x ≡ o → ((y : ℕ) → Among y ys → ¬ (y ≡ x) → given_on f d y ≡ None) → or_else o (given f d ys) ≡ o
alone_first f d x ys (Some a) e h = refl
alone_first f d x ys None e h = given-none f d ys (λ y m. elim (cases_eq y x) [ inl k ↦ ap (given_on f d) k ∙ e | inr n ↦ h y m n ])

among_later : (x y : ℕ) (ys : List ℕ) → ¬ (y ≡ x) → Among x (y ∷ ys) → Among x ys
among_later x y ys n (inl e) = absurd (n (sym e))
among_later x y ys n (inr m) = m

-- where only one variable may get anything, all get what it gets
pub given-alone : (f : Face) (d : Domains) (x : ℕ) (xs : List ℕ) → Among x xs → ((y : ℕ) → Among y xs → ¬ (y ≡ x) → given_on f d y ≡ None) → given f d xs ≡ given_on f d x
given-alone f d x [] m h = absurd m
given-alone f d x (y ∷ ys) m h = elim (cases_eq y x) [
  | inl e ↦ ap (λ z. or_else (given_on f d z) (given f d ys)) e ∙ alone_first f d x ys (given_on f d x) refl (λ z k. h z (inr k))
  | inr n ↦ ap (λ o. or_else o (given f d ys)) (h y (inl refl) n) ∙ given-alone f d x ys (among_later x y ys n m) (λ z k. h z (inr k))
]

-- an added variable that gets nothing changes nothing
pub given-without : (f : Face) (d : Domains) (x : ℕ) (ys : List ℕ) → given_on f d x ≡ None → given f d (with_variable x ys) ≡ given f d ys
given-without f d x [] e = ap (λ o. or_else o None) e
given-without f d x (y ∷ ys) e = elim (order_of x y) [
  | inl before ↦ ap (given f d) (with_variable-before x y ys before) ∙ ap (λ o. or_else o (given f d (y ∷ ys))) e
  | inr (inl after) ↦ ap (given f d) (with_variable-after x y ys after) ∙ ap (or_else (given_on f d y)) (given-without f d x ys e)
  | inr (inr one) ↦ ap (given f d) (with_variable-same x y ys one)
]

-- ---- turns

-- the turn of a part that clashes
pub turn-clash : (f : Face) (d : Domains) → f.test d ≡ true → turn_of f d ≡ Some Clash
turn-clash f d e = ap (λ b. cond b (Some Clash) (option_map Atom (given f d f.scope))) e

-- the turn of one that does not
pub turn-given : (f : Face) (d : Domains) (o : Option Atomic) → f.test d ≡ false → given f d f.scope ≡ o → turn_of f d ≡ option_map Atom o
turn-given f d o e g = ap (λ b. cond b (Some Clash) (option_map Atom (given f d f.scope))) e ∙ ap (option_map Atom) g
