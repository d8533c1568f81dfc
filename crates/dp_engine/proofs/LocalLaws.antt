-- A part's turn depends on the sets of its scope alone.
use Rattle.std.proofs.Common.{◌≡◌, ℕ, ◌<◌, Bool, true, false, not, cond, ◌&&◌, ◌⊎◌, List, [], ◌∷◌, length, Option, Some, None, option_map, refl, sym, ◌∙◌, ap, subst, inl, inr, arith, ℤ}
use Rattle.std.specs.List.{filter, list_all}
use Rattle.std.proofs.lemmas.Bool.{both_ways, cases_Bool, cases_eq}
use Rattle.dp_base.specs.Lists.{Among, Each}
use Rattle.dp_base.proofs.Lists.{Each-among}
use Rattle.dp_domain.specs.Atoms.{Atomic, meets, negated}
use Rattle.dp_domain.specs.declared.found.Found.{Found}
use Rattle.dp_domain.specs.declared.found.Found.TheVariants.{Clash, Atom}
use Rattle.dp_domain.specs.Faces.{AgreesOn, Covers, Face, IsLawful}
use Rattle.dp_domain.specs.Sets.{greatest, least}
use Rattle.dp_domain.specs.States.{Domains, cut, entails, is_dead, values}
use Rattle.dp_domain.specs.Turns.{at_least, at_most, given, given_on, gives, new_hole, new_lower, new_upper, or_else, other_than, turn_of}
use Rattle.dp_domain.proofs.StateLaws.{dead-cut, entails-from_dead_cut, length-cut, values-cut_other, values-cut_same}
use Rattle.dp_domain.proofs.TurnLaws.{filter-same}

number_cases : (x y : ℕ) → (x ≡ y) ⊎ (x ≡ y → ⊥)
number_cases x y = cases_eq x y

-- two states with the same variables, that both have values left and agree on the scope
pub record Alike (f : Face) (d e : Domains) : Type 0 where
  pub count : length e ≡ length d
  pub covers : Covers f.scope d
  pub alive : is_dead d ≡ false
  pub alive_too : is_dead e ≡ false
  pub agree : AgreesOn f.scope d e

entails_alike : (f : Face) (d e : Domains) (a : Atomic) → Alike f d e → Among a.var f.scope → entails d a ≡ entails e a
entails_alike f d e a s h = ap (list_all (meets a)) (s.agree a.var h)

there : (f : Face) (d e : Domains) (x : ℕ) → Alike f d e → Among x f.scope → x < length d
there f d e x s h = Each-among (λ y. y < length d) f.scope s.covers x h

there_too : (f : Face) (d e : Domains) (x : ℕ) → Alike f d e → Among x f.scope → x < length e
there_too f d e x s h = let l = there f d e x s h in let c = s.count in omega arith

dead_alike : (f : Face) (d e : Domains) (a : Atomic) → Alike f d e → Among a.var f.scope → is_dead (cut d a) ≡ true → is_dead (cut e a) ≡ true
dead_alike f d e a s h t =
    dead-cut e a (there_too f d e a.var s h) (sym (entails_alike f d e (negated a) s h) ∙ entails-from_dead_cut d a s.alive t)

turned : (f : Face) (d e : Domains) → Alike f d e → Alike f e d
turned f d e s = record {
  count = sym s.count;
  covers = subst (λ (n : ℕ). Each (λ x. x < n) f.scope) (sym s.count) s.covers;
  alive = s.alive_too;
  alive_too = s.alive;
  agree = λ x h. sym (s.agree x h);
}

cut_agree : (f : Face) (d e : Domains) (a : Atomic) → Alike f d e → Among a.var f.scope → AgreesOn f.scope (cut d a) (cut e a)
cut_agree f d e a s h = λ x k. elim (number_cases x a.var) [
  | inl same ↦ subst (λ y. values (cut d a) y ≡ values (cut e a) y) (sym same)
      (values-cut_same d a (there f d e a.var s h) ∙ ap (filter (meets a)) (s.agree a.var h) ∙ sym (values-cut_same e a (there_too f d e a.var s h)))
  | inr other ↦ values-cut_other d a x other ∙ s.agree x k ∙ sym (values-cut_other e a x other)
]

test_cut : (f : Face) (d e : Domains) (a : Atomic) → IsLawful f → Alike f d e → Among a.var f.scope → f.test (cut d a) ≡ f.test (cut e a)
test_cut f d e a lawful s h = elim (cases_Bool (is_dead (cut d a))) [
  | inl t ↦ lawful.dead (cut d a) t ∙ sym (lawful.dead (cut e a) (dead_alike f d e a s h t))
  | inr n ↦ elim (cases_Bool (is_dead (cut e a))) [
    | inl t ↦ absurd (both_ways (is_dead (cut d a)) n (dead_alike f e d a (turned f d e s) h t))
    | inr m ↦ lawful.local (cut d a) (cut e a) n m (cut_agree f d e a s h)
  ]
]

gives_alike : (f : Face) (d e : Domains) (a : Atomic) → IsLawful f → Alike f d e → Among a.var f.scope → gives f d a ≡ gives f e a
gives_alike f d e a lawful s h =
    ap (λ b. not b && f.test (cut d (negated a))) (entails_alike f d e a s h)
    ∙ ap (λ b. not (entails e a) && b) (test_cut f d e (negated a) lawful s h)

kept_alike : (d e : Domains) (x : ℕ) (p q : ℤ → Bool) → values d x ≡ values e x → ((v : ℤ) → p v ≡ q v) → filter p (values d x) ≡ filter q (values e x)
kept_alike d e x p q h k = filter-same p q (values d x) (λ v m. k v) ∙ ap (filter q) h

given_on_alike : (f : Face) (d e : Domains) (x : ℕ) → IsLawful f → Alike f d e → Among x f.scope → given_on f d x ≡ given_on f e x
given_on_alike f d e x lawful s h =
    let lower = ap (λ vs. option_map (at_least x) (greatest vs)) (kept_alike d e x (λ v. gives f d (at_least x v)) (λ v. gives f e (at_least x v)) (s.agree x h) (λ v. gives_alike f d e (at_least x v) lawful s h)) in
    let upper = ap (λ vs. option_map (at_most x) (least vs)) (kept_alike d e x (λ v. gives f d (at_most x v)) (λ v. gives f e (at_most x v)) (s.agree x h) (λ v. gives_alike f d e (at_most x v) lawful s h)) in
    let hole = ap (λ vs. option_map (other_than x) (least vs)) (kept_alike d e x (λ v. f.point x v && gives f d (other_than x v)) (λ v. f.point x v && gives f e (other_than x v)) (s.agree x h) (λ v. ap (λ b. f.point x v && b) (gives_alike f d e (other_than x v) lawful s h))) in
    ap (λ o. or_else o (or_else (new_upper f d x) (new_hole f d x))) lower
    ∙ ap (λ o. or_else (new_lower f e x) (or_else o (new_hole f d x))) upper
    ∙ ap (λ o. or_else (new_lower f e x) (or_else (new_upper f e x) o)) hole

given_alike : (f : Face) (d e : Domains) (xs : List ℕ) → IsLawful f → Alike f d e → ((x : ℕ) → Among x xs → Among x f.scope) → given f d xs ≡ given f e xs
given_alike f d e [] lawful s h = refl
given_alike f d e (x ∷ xs) lawful s h =
    ap (λ o. or_else o (given f d xs)) (given_on_alike f d e x lawful s (h x (inl refl)))
    ∙ ap (λ o. or_else (given_on f e x) o) (given_alike f d e xs lawful s (λ y k. h y (inr k)))

-- at two such states it has the same turn
pub turn-local : (f : Face) (d e : Domains) → IsLawful f → Alike f d e → turn_of f d ≡ turn_of f e
turn-local f d e lawful s =
    ap (λ b. cond b (Some Clash) (option_map Atom (given f d f.scope))) (lawful.local d e s.alive s.alive_too s.agree)
    ∙ ap (λ o. cond (f.test e) (Some Clash) (option_map Atom o)) (given_alike f d e f.scope lawful s (λ x h. h))
