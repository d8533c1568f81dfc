-- Parts that clash exactly where no variable of the scope has a good value left: what they give.
use Rattle.std.proofs.Common.{◌≡◌, ℕ, ◌<◌, Bool, true, false, cond, ◌&&◌, List, [], ◌∷◌, length, set, ℤ, Option, Some, None, option_map, Result, Ok, Err, IfOk, refl, sym, ◌∙◌, ap, subst, inl, inr}
use Rattle.std.specs.List.{filter}
use Rattle.std.proofs.lemmas.Bool.{and_right, both_ways, cases_eq, false_from_ne_true}
use Rattle.std.proofs.lemmas.List.{get_or-set_other, get_or-set_same, length-set}
use Rattle.dp_base.specs.Lists.{Among}
use Rattle.dp_base.proofs.Lists.{Among-filter_all, Among-filter_only}
use Rattle.dp_domain.specs.Atoms.{Atomic, negated}
use Rattle.dp_domain.specs.declared.found.Found.TheVariants.{Atom, Clash}
use Rattle.dp_domain.specs.Faces.{Face}
use Rattle.dp_domain.specs.Sets.{IsDomain, greatest, least}
use Rattle.dp_domain.specs.States.{Domains, cut, entails, is_dead, values}
use Rattle.dp_domain.specs.Supports.{IsSupport, bound_by, lower_by, upper_by}
use Rattle.dp_domain.specs.Turns.{at_least, at_most, given, given_on, gives, new_hole, new_lower, new_upper, or_else, other_than, turn_of}
use Rattle.dp_domain.proofs.AtomLaws.{negated-negated}
use Rattle.dp_domain.proofs.StateLaws.{alive-from, alive-value, entails-from_dead_cut, values-cut_other}
use Rattle.dp_domain.proofs.TurnLaws.{gives-parts}

-- no value of the variable is good
abbrev pub HasNone : (ℕ → ℤ → Bool) → Domains → ℕ → Type 0
HasNone good d x = (v : ℤ) → Among v (values d x) → good x v ≡ false

-- some value of the variable is good
abbrev pub HasOne : (ℕ → ℤ → Bool) → Domains → ℕ → Type 0
HasOne good d x = (v : ℤ) × Among v (values d x) × (good x v ≡ true)

-- the part clashes exactly where no variable of the scope has a good value left
pub record IsClause (f : Face) (good : ℕ → ℤ → Bool) : Type 0 where
  pub clash : (d : Domains) → is_dead d ≡ false → ((x : ℕ) → Among x f.scope → HasNone good d x) → f.test d ≡ true
  pub safe : (d : Domains) → is_dead d ≡ false → (x : ℕ) → Among x f.scope → HasOne good d x → f.test d ≡ false

-- ---- cuts

-- a state of which one variable is given other values, of which there is one
pub alive-set : (d : Domains) (x : ℕ) (ys : List ℤ) (v : ℤ) → is_dead d ≡ false → x < length d → Among v ys → is_dead (set d x ys) ≡ false
alive-set d x ys v l h m =
    alive-from (set d x ys) (λ y k. elim (cases_eq y x) [
      | inl e ↦ (v, subst (λ z. Among v (values (set d x ys) z)) (sym e) (subst (λ zs. Among v zs) (sym (get_or-set_same d x ys [] h)) m))
      | inr n ↦ let r = alive-value d y l (subst (λ c. y < c) (length-set d x ys) k) in (r.0, subst (λ zs. Among r.0 zs) (sym (get_or-set_other d x y ys [] n)) r.1)
    ])

-- where an atom fails that is not entailed, each variable keeps a value
pub alive-cut : (d : Domains) (a : Atomic) → is_dead d ≡ false → entails d a ≡ false → is_dead (cut d (negated a)) ≡ false
alive-cut d a l o =
    false_from_ne_true (is_dead (cut d (negated a))) (λ t.
    both_ways (entails d a) o (subst (λ b. entails d b ≡ true) (negated-negated a) (entails-from_dead_cut d (negated a) l t)))

-- ---- what is given on other variables

-- while a good value is left of one variable, no atom on another follows
gives_nothing : (f : Face) (good : ℕ → ℤ → Bool) (d : Domains) (x : ℕ) (a : Atomic) → IsClause f good → is_dead d ≡ false → Among x f.scope → HasOne good d x → (x ≡ a.var → ⊥) → gives f d a ≡ false
gives_nothing f good d x a c l s g n =
    false_from_ne_true (gives f d a) (λ t.
    let r = gives-parts f d a t in
    both_ways (f.test (cut d (negated a)))
    (c.safe (cut d (negated a)) (alive-cut d a l r.0) x s (g.0, subst (λ ys. Among g.0 ys) (sym (values-cut_other d (negated a) x n)) g.1, g.2))
    r.1)

filter_none : (p : ℤ → Bool) (xs : List ℤ) → ((v : ℤ) → p v ≡ false) → filter p xs ≡ []
filter_none p [] h = refl
filter_none p (x ∷ xs) h = ap (λ b. cond b (x ∷ filter p xs) (filter p xs)) (h x) ∙ filter_none p xs h

given_on_none : (f : Face) (d : Domains) (x : ℕ) → ((a : Atomic) → a.var ≡ x → gives f d a ≡ false) → given_on f d x ≡ None
given_on_none f d x h =
    ap (λ vs. or_else (option_map (at_least x) (greatest vs)) (or_else (new_upper f d x) (new_hole f d x))) (filter_none (λ v. gives f d (at_least x v)) (values d x) (λ v. h (at_least x v) refl))
    ∙ ap (λ vs. or_else (option_map (at_most x) (least vs)) (new_hole f d x)) (filter_none (λ v. gives f d (at_most x v)) (values d x) (λ v. h (at_most x v) refl))
    ∙ ap (λ vs. option_map (other_than x) (least vs)) (filter_none (λ v. f.point x v && gives f d (other_than x v)) (values d x) (λ v. and_right (f.point x v) (gives f d (other_than x v)) (h (other_than x v) refl)))

-- while a good value is left of one variable, nothing is given on another
others_none : (f : Face) (good : ℕ → ℤ → Bool) (d : Domains) (x y : ℕ) → IsClause f good → is_dead d ≡ false → Among x f.scope → HasOne good d x → (x ≡ y → ⊥) → given_on f d y ≡ None
others_none f good d x y c l s g n = given_on_none f d y (λ a e. gives_nothing f good d x a c l s g (λ k. n (k ∙ e)))

given_nothing : (f : Face) (d : Domains) (xs : List ℕ) → ((x : ℕ) → Among x xs → given_on f d x ≡ None) → given f d xs ≡ None
given_nothing f d [] h = refl
given_nothing f d (x ∷ xs) h = ap (λ o. or_else o (given f d xs)) (h x (inl refl)) ∙ given_nothing f d xs (λ y k. h y (inr k))

given_here : (f : Face) (d : Domains) (x y : ℕ) (ys : List ℕ) (o : Option Atomic) → given_on f d x ≡ o → y ≡ x → ((z : ℕ) → Among z ys → (z ≡ x → ⊥) → given_on f d z ≡ None) → or_else (given_on f d y) (given f d ys) ≡ o
given_here f d x y ys (Some a) e k h = ap (λ q. or_else q (given f d ys)) (ap (given_on f d) k ∙ e)
given_here f d x y ys None e k h =
    ap (λ q. or_else q (given f d ys)) (ap (given_on f d) k ∙ e)
    ∙ given_nothing f d ys (λ z m. elim (cases_eq z x) [ inl q ↦ ap (given_on f d) q ∙ e | inr n ↦ h z m n ])

-- where only one variable is given something, it is what all give
given_one : (f : Face) (d : Domains) (x : ℕ) (xs : List ℕ) → Among x xs → ((y : ℕ) → Among y xs → (y ≡ x → ⊥) → given_on f d y ≡ None) → given f d xs ≡ given_on f d x
given_one f d x [] m h = absurd m
given_one f d x (y ∷ ys) m h = elim (cases_eq y x) [
  | inl e ↦ given_here f d x y ys (given_on f d x) refl e (λ z k. h z (inr k))
  | inr n ↦
      ap (λ o. or_else o (given f d ys)) (h y (inl refl) n)
      ∙ given_one f d x ys (elim m [ inl e ↦ absurd (n (sym e)) | inr k ↦ k ]) (λ z k. h z (inr k))
]

-- ---- turns

turn_by : (f : Face) (d : Domains) (o : Option Atomic) → f.test d ≡ false → given f d f.scope ≡ o → turn_of f d ≡ option_map Atom o
turn_by f d o n g = ap (λ b. cond b (Some Clash) (option_map Atom (given f d f.scope))) n ∙ ap (option_map Atom) g

-- where no variable has a good value, it clashes
pub clause-clash : (f : Face) (good : ℕ → ℤ → Bool) (d : Domains) → IsClause f good → is_dead d ≡ false → ((x : ℕ) → Among x f.scope → HasNone good d x) → turn_of f d ≡ Some Clash
clause-clash f good d c l h = ap (λ b. cond b (Some Clash) (option_map Atom (given f d f.scope))) (c.clash d l h)

-- where one variable has a good value and no other has, its turn is what is given on that variable
pub clause-one : (f : Face) (good : ℕ → ℤ → Bool) (d : Domains) (x : ℕ) → IsClause f good → is_dead d ≡ false → Among x f.scope → HasOne good d x → turn_of f d ≡ option_map Atom (given_on f d x)
clause-one f good d x c l s g =
    turn_by f d (given_on f d x) (c.safe d l x s g)
    (given_one f d x f.scope s (λ y k n. others_none f good d x y c l s g (λ e. n (sym e))))

-- where two variables have good values, it has no turn
pub clause-several : (f : Face) (good : ℕ → ℤ → Bool) (d : Domains) (x y : ℕ) → IsClause f good → is_dead d ≡ false → Among x f.scope → HasOne good d x → Among y f.scope → HasOne good d y → (x ≡ y → ⊥) → turn_of f d ≡ None
clause-several f good d x y c l s g t h n =
    turn_by f d None (c.safe d l x s g)
    (given_nothing f d f.scope (λ z k. elim (cases_eq x z) [
      | inl e ↦ others_none f good d y z c l t h (λ q. n (e ∙ sym q))
      | inr m ↦ others_none f good d x z c l s g m
    ]))

-- ---- supported values

set_clashes : (f : Face) (good : ℕ → ℤ → Bool) (d : Domains) (x : ℕ) (p : ℤ → Bool) → IsClause f good → is_dead (set d x (filter p (values d x))) ≡ false → x < length d → ((y : ℕ) → Among y f.scope → (y ≡ x → ⊥) → HasNone good d y)
    → ((w : ℤ) → Among w (values d x) → p w ≡ true → ¬ (Among w (filter (good x) (values d x)))) → f.test (set d x (filter p (values d x))) ≡ true
set_clashes f good d x p c l i none k =
    c.clash (set d x (filter p (values d x))) l (λ y r w m. elim (cases_eq y x) [
      | inl q ↦
          let n = Among-filter_only p (values d x) w (subst (λ zs. Among w zs) (get_or-set_same d x (filter p (values d x)) [] i) (subst (λ z. Among w (values (set d x (filter p (values d x))) z)) q m)) in
          ap (λ z. good z w) q ∙ false_from_ne_true (good x w) (λ t. k w n.0 n.1 (Among-filter_all (good x) (values d x) w n.0 t))
      | inr n ↦ none y r n w (subst (λ zs. Among w zs) (get_or-set_other d x y (filter p (values d x)) [] n) m)
    ])

set_safe : (f : Face) (good : ℕ → ℤ → Bool) (d : Domains) (x : ℕ) (p : ℤ → Bool) → IsClause f good → is_dead (set d x (filter p (values d x))) ≡ false → x < length d → Among x f.scope
    → f.test (set d x (filter p (values d x))) ≡ true → (w : ℤ) → Among w (values d x) → p w ≡ true → ¬ (Among w (filter (good x) (values d x)))
set_safe f good d x p c l i s k w m q g =
    both_ways (f.test (set d x (filter p (values d x))))
    (c.safe (set d x (filter p (values d x))) l x s (
      w,
      subst (λ zs. Among w zs) (sym (get_or-set_same d x (filter p (values d x)) [] i)) (Among-filter_all p (values d x) w m q),
      (Among-filter_only (good x) (values d x) w g).1,
    ))
    k

-- where no other variable has a good value, the good values are the supported ones
pub clause-support : (f : Face) (good : ℕ → ℤ → Bool) (d : Domains) (x : ℕ) → IsClause f good → is_dead d ≡ false → x < length d → Among x f.scope → IsDomain (filter (good x) (values d x)) → ((y : ℕ) → Among y f.scope → (y ≡ x → ⊥) → HasNone good d y) → IsSupport f d x (filter (good x) (values d x))
clause-support f good d x c l i s o none = record {
  domain = o;
  within = λ v h. (Among-filter_only (good x) (values d x) v h).0;
  clash = λ p v h t.
      let alive = alive-set d x (filter p (values d x)) v l i (Among-filter_all p (values d x) v h t) in
      (set_safe f good d x p c alive i s, set_clashes f good d x p c alive i none);
}

either_else : {A : Type 0} (a b c : Option A) → or_else a (or_else b c) ≡ or_else (or_else a b) c
either_else None b c = refl
either_else (Some v) b c = refl

-- what is given on a variable, from its parts
pub given_on-parts : (f : Face) (d : Domains) (x : ℕ) (good : List ℤ) (hole : Option Atomic) → new_lower f d x ≡ lower_by (values d x) good x → new_upper f d x ≡ upper_by (values d x) good x → new_hole f d x ≡ hole → given_on f d x ≡ or_else (bound_by (values d x) good x) hole
given_on-parts f d x good hole e g h =
    ap (λ o. or_else o (or_else (new_upper f d x) (new_hole f d x))) e
    ∙ ap (λ o. or_else (lower_by (values d x) good x) (or_else o (new_hole f d x))) g
    ∙ ap (λ o. or_else (lower_by (values d x) good x) (or_else (upper_by (values d x) good x) o)) h
    ∙ either_else (lower_by (values d x) good x) (upper_by (values d x) good x) hole

-- ---- answers of the code

-- what two facts of an answer give together
pub ok_both : {X E : Type 0} (r : Result X E) (P Q R : X → Type 0) → ((x : X) → P x → Q x → R x) → IfOk r P → IfOk r Q → IfOk r R
ok_both (Ok x) P Q R h p q = h x p q
ok_both (Err e) P Q R h p q = tt
