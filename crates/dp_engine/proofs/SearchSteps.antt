-- Steps from place to place.
use Rattle.std.proofs.Common.{◌≡◌, ℕ, zero, suc, ◌+◌, List, [], ◌∷◌, ◌++◌, length, drop, Option, Some, slice_get, sym, ◌∙◌, ap, subst, arith, add-zero, zero-add}
use Rattle.std.proofs.lemmas.List.{drop_more}
use Rattle.std.proofs.lemmas.Option.{slice_get_within, get_or_from_slice_get}
use Rattle.dp_base.specs.Lists.{Each}
use Rattle.dp_domain.specs.Atoms.{Atomic}
use Rattle.dp_parts.specs.Posed.{Posed}
use Rattle.dp_rule_clause.specs.Nogoods.{face_nogood}
use Rattle.dp_engine.specs.declared.part_id.PartId.TheVariants.{Nogood}
use Rattle.dp_engine.specs.Placed.{of_constraints, of_nogoods, turn_order}

one_more : (j n : ℕ) → (j + 1) + n ≡ j + suc n
one_more j n = omega arith

same_item : {A : Type 0} (x y : A) → ◌≡◌ {A = Option A} (Some x) (Some y) → x ≡ y
same_item x y e = cc

-- the items from a place on, where the item there is known
pub drop-at : {A : Type 0} (xs : List A) (i : ℕ) (x : A) → slice_get xs i ≡ Some x → drop i xs ≡ x ∷ drop (i + 1) xs
drop-at xs i x e = drop_more xs i x (slice_get_within xs i x e) ∙ ap (λ y. y ∷ drop (i + 1) xs) (get_or_from_slice_get xs i x x e)

of_nogoods-append : (j : ℕ) (ns ms : List (List Atomic)) → of_nogoods j (ns ++ ms) ≡ of_nogoods j ns ++ of_nogoods (j + length ns) ms
of_nogoods-append j [] ms = ap (λ k. of_nogoods k ms) (sym (add-zero j))
of_nogoods-append j (n ∷ ns) ms =
    ap (λ qs. record { id = Nogood j; face = face_nogood n } ∷ qs) (of_nogoods-append (j + 1) ns ms ∙ ap (λ k. of_nogoods (j + 1) ns ++ of_nogoods k ms) (one_more j (length ns)))

-- the parts in three lists: of the model, and the nogoods in two
pub order-parts : (p : Posed) (ns ms : List (List Atomic)) → turn_order p (ns ++ ms) ≡ of_constraints 0 p.constraints ++ (of_nogoods 0 ns ++ of_nogoods (length ns) ms)
order-parts p ns ms =
    ap (λ qs. of_constraints 0 p.constraints ++ qs) (of_nogoods-append 0 ns ms ∙ ap (λ k. of_nogoods 0 ns ++ of_nogoods k ms) (zero-add (length ns)))

-- a fact of each item holds of the one at a place
pub Each-at : {A : Type 0} (P : A → Type 0) (xs : List A) (i : ℕ) (x : A) → Each P xs → slice_get xs i ≡ Some x → P x
Each-at P [] i x e h = (cc)
Each-at P (y ∷ ys) zero x e h = subst P (same_item y x h) e.0
Each-at P (y ∷ ys) (suc i) x e h = Each-at P ys i x e.1 h
