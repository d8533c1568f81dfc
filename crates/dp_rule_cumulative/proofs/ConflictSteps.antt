-- Steps of the search for the greatest and the least of some times.
use Rattle.std.proofs.Common.{◌≡◌, true, Option, Some, List, [], ◌∷◌, ◌++◌, map, ℤ, ◌≤ℤ◌, refl, sym, ◌∙◌, ap, subst, inl, inr, arith}
use Rattle.std.specs.Prelude.{cond}
use Rattle.std.specs.Int.{int_max, int_min}
use Rattle.std.specs.Option.{option_map_or}
use Rattle.std.proofs.lemmas.Int.{ints}
use Rattle.dp_base.specs.Lists.{Among}
use Rattle.dp_base.proofs.Lists.{Among-append_cases, Among-append_left, Among-append_right}
use Rattle.dp_domain.specs.Sets.{greatest, greatest_from, least, least_from}
use Rattle.dp_domain.proofs.IntervalSteps.{greater, lesser}
use Rattle.dp_domain.proofs.SetLaws.{greatest-is, greatest_from-among, greatest_from-bound, least-is, least_from-among, least_from-bound}
use Rattle.dp_rule_cumulative.specs.Profiles.{ends_in, lacks_room, starts_in}
use Rattle.dp_rule_cumulative.specs.declared.demand.Demand.{Demand}
use Rattle.dp_rule_cumulative.specs.declared.profile.Edges.{Edges}

le_trans : (a b c : ℤ) → a ≤ℤ b → b ≤ℤ c → a ≤ℤ c
le_trans a b c h k = omega (arith, ints)

equal_le : (a b : ℤ) → a ≡ b → a ≤ℤ b
equal_le a b h = omega (arith, ints)

-- the greatest of times and one more
greatest_push : (xs : List ℤ) (t : ℤ) → Some (option_map_or (λ s. int_max s t) (greatest xs) t) ≡ greatest (xs ++ t ∷ [])
greatest_push [] t = refl
greatest_push (x ∷ xs) t =
    let m = greatest_from x xs in
    let g = greater m t in
    sym (greatest-is (x ∷ xs ++ t ∷ []) (int_max m t)
    (elim g.2 [
      | inl e ↦ subst (λ v. Among v (x ∷ xs ++ t ∷ [])) (sym e) (Among-append_left m (x ∷ xs) (t ∷ []) (greatest_from-among x xs))
      | inr e ↦ subst (λ v. Among v (x ∷ xs ++ t ∷ [])) (sym e) (Among-append_right t (x ∷ xs) (t ∷ []) (inl refl))
    ])
    (λ v here. elim (Among-append_cases v (x ∷ xs) (t ∷ []) here) [
      | inl h ↦ le_trans v m (int_max m t) (greatest_from-bound x xs v h) g.0
      | inr h ↦ elim h [ inl e ↦ le_trans v t (int_max m t) (equal_le v t e) g.1 | inr none ↦ absurd none ]
    ]))

-- the least
least_push : (xs : List ℤ) (t : ℤ) → Some (option_map_or (λ s. int_min s t) (least xs) t) ≡ least (xs ++ t ∷ [])
least_push [] t = refl
least_push (x ∷ xs) t =
    let m = least_from x xs in
    let g = lesser m t in
    sym (least-is (x ∷ xs ++ t ∷ []) (int_min m t)
    (elim g.2 [
      | inl e ↦ subst (λ v. Among v (x ∷ xs ++ t ∷ [])) (sym e) (Among-append_left m (x ∷ xs) (t ∷ []) (least_from-among x xs))
      | inr e ↦ subst (λ v. Among v (x ∷ xs ++ t ∷ [])) (sym e) (Among-append_right t (x ∷ xs) (t ∷ []) (inl refl))
    ])
    (λ v here. elim (Among-append_cases v (x ∷ xs) (t ∷ []) here) [
      | inl h ↦ le_trans (int_min m t) m v g.0 (least_from-bound x xs v h)
      | inr h ↦ elim h [ inl e ↦ le_trans (int_min m t) t v g.1 (equal_le t v (sym e)) | inr none ↦ absurd none ]
    ]))

-- an edge without room adds its last time
pub later_found : (w : Demand) (e : Edges) (times : List ℤ) (o : Option ℤ) (r : ℤ) → lacks_room w e.last e.at_last ≡ true → r ≡ option_map_or (λ s. int_max s e.last) o e.last → o ≡ greatest times → Some r ≡ greatest (times ++ ends_in w (e ∷ []))
later_found w e times o r t f g =
    ap Some f ∙ ap (λ (p : Option ℤ). Some (option_map_or (λ s. int_max s e.last) p e.last)) g ∙ greatest_push times e.last
    ∙ sym (ap (λ b. greatest (times ++ map (λ (e : Edges). e.last) (cond b (e ∷ []) []))) t)

-- and its first
pub earlier_found : (w : Demand) (e : Edges) (times : List ℤ) (o : Option ℤ) (r : ℤ) → lacks_room w e.start e.at_start ≡ true → r ≡ option_map_or (λ s. int_min s e.start) o e.start → o ≡ least times → Some r ≡ least (times ++ starts_in w (e ∷ []))
earlier_found w e times o r t f g =
    ap Some f ∙ ap (λ (p : Option ℤ). Some (option_map_or (λ s. int_min s e.start) p e.start)) g ∙ least_push times e.start
    ∙ sym (ap (λ b. least (times ++ map (λ (e : Edges). e.start) (cond b (e ∷ []) []))) t)
