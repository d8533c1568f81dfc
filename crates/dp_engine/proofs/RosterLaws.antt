-- The parts of a roster by their places.
use Rattle.std.proofs.Common.{◌≡◌, ℕ, zero, suc, ◌+◌, ◌<◌, List, [], ◌∷◌, ◌++◌, length, map, drop, Option, Some, None, option_map, slice_get, refl, sym, ◌∙◌, ap, subst, arith, zero-add, add-zero, append_assoc, length-append}
use Rattle.dp_base.specs.Lists.{Each}
use Rattle.dp_domain.specs.Atoms.{Atomic}
use Rattle.dp_domain.specs.States.{Domains}
use Rattle.dp_domain.specs.Turns.{turn_of}
use Rattle.dp_domain.specs.declared.found.Found.{Found}
use Rattle.dp_parts.specs.Problems.{labelled}
use Rattle.dp_parts.specs.declared.part.Part.{Part}
use Rattle.dp_rule_clause.specs.Nogoods.{face_nogood}
use Rattle.dp_engine.specs.declared.part_id.PartId.{PartId}
use Rattle.dp_engine.specs.declared.part_id.PartId.TheVariants.{Nogood}
use Rattle.dp_engine.specs.declared.turn.Turn.{Turn}
use Rattle.dp_engine.specs.Placed.{Placed, of_constraint, of_constraints, of_nogoods}
use Rattle.dp_engine.specs.Rosters.{placed_at}
use Rattle.dp_engine.specs.Turns.{told}
use Rattle.dp_engine.proofs.SearchSteps.{drop-at}

the_item : {A : Type 0} (x y : A) → ◌≡◌ {A = Option A} (Some x) (Some y) → x ≡ y
the_item x y e = cc

-- the nogood that stands at a place
abbrev nogood_placed : ℕ → List Atomic → Placed
nogood_placed j n = record { id = Nogood j; face = face_nogood n }

get_left : {A : Type 0} (xs ys : List A) (i : ℕ) (x : A) → slice_get xs i ≡ Some x → slice_get (xs ++ ys) i ≡ Some x
get_left [] ys i x e = cc
get_left (z ∷ xs) ys zero x e = e
get_left (z ∷ xs) ys (suc i) x e = get_left xs ys i x e

get_right : {A : Type 0} (xs ys : List A) (i : ℕ) → slice_get (xs ++ ys) (length xs + i) ≡ slice_get ys i
get_right [] ys i = ap (slice_get ys) (zero-add i)
get_right (x ∷ xs) ys i =
    let e : suc (length xs) + i ≡ suc (length xs + i) = omega arith in
    ap (slice_get (x ∷ (xs ++ ys))) e ∙ get_right xs ys i

get_map : {A B : Type 0} (f : A → B) (xs : List A) (i : ℕ) (x : A) → slice_get xs i ≡ Some x → slice_get (map f xs) i ≡ Some (f x)
get_map f [] i x e = cc
get_map f (z ∷ xs) zero x e = ap (λ y. Some (f y)) (the_item z x e)
get_map f (z ∷ xs) (suc i) x e = get_map f xs i x e

get_nogood : (j : ℕ) (ns : List (List Atomic)) (i : ℕ) (n : List Atomic) → slice_get ns i ≡ Some n → slice_get (of_nogoods j ns) i ≡ Some (nogood_placed (j + i) n)
get_nogood j [] i n e = cc
get_nogood j (m ∷ ns) zero n e = ap (λ k. Some (nogood_placed j k)) (the_item m n e) ∙ ap (λ k. Some (nogood_placed k n)) (sym (add-zero j))
get_nogood j (m ∷ ns) (suc i) n e =
    let next : (j + 1) + i ≡ j + suc i = omega arith in
    get_nogood (j + 1) ns i n e ∙ ap (λ k. Some (nogood_placed k n)) next

-- a part of the model stands where it is listed
pub model-at : {E : Type 0} (es : List E) (g : E → PartId × Part) (ns : List (List Atomic)) (i : ℕ) (e : E) → slice_get es i ≡ Some e
    → slice_get (map placed_at (map g es) ++ of_nogoods 0 ns) i ≡ Some (placed_at (g e))
model-at es g ns i e h = get_left (map placed_at (map g es)) (of_nogoods 0 ns) i (placed_at (g e)) (get_map placed_at (map g es) i (g e) (get_map g es i e h))

length_model : {E : Type 0} (g : E → PartId × Part) (es : List E) → length (map placed_at (map g es)) ≡ length es
length_model g [] = refl
length_model g (e ∷ es) = ap suc (length_model g es)

length_nogoods : (j : ℕ) (ns : List (List Atomic)) → length (of_nogoods j ns) ≡ length ns
length_nogoods j [] = refl
length_nogoods j (n ∷ ns) = ap suc (length_nogoods (j + 1) ns)

-- a nogood stands behind them
pub nogood-at : {E : Type 0} (es : List E) (g : E → PartId × Part) (ns : List (List Atomic)) (place i : ℕ) (n : List Atomic) → place ≡ length es + i → slice_get ns i ≡ Some n
    → slice_get (map placed_at (map g es) ++ of_nogoods 0 ns) place ≡ Some (record { id = Nogood i; face = face_nogood n })
nogood-at es g ns place i n e h =
    let model : List Placed = map placed_at (map g es) in
    let at : place ≡ length model + i = e ∙ ap (λ k. k + i) (sym (length_model g es)) in
    ap (slice_get (model ++ of_nogoods 0 ns)) at ∙ get_right model (of_nogoods 0 ns) i ∙ get_nogood 0 ns i n h ∙ ap (λ k. Some (nogood_placed k n)) (zero-add i)

-- there are as many as parts of the model and nogoods
pub length-placed : {E : Type 0} (es : List E) (g : E → PartId × Part) (ns : List (List Atomic)) → length (map placed_at (map g es) ++ of_nogoods 0 ns) ≡ length es + length ns
length-placed es g ns =
    length-append (map placed_at (map g es)) (of_nogoods 0 ns)
    ∙ ap (λ k. k + length (of_nogoods 0 ns)) (length_model g es)
    ∙ ap (λ k. length es + k) (length_nogoods 0 ns)

nogoods_push : (j : ℕ) (ns : List (List Atomic)) (n : List Atomic) → of_nogoods j (ns ++ n ∷ []) ≡ of_nogoods j ns ++ nogood_placed (j + length ns) n ∷ []
nogoods_push j [] n = ap (λ k. nogood_placed k n ∷ []) (sym (add-zero j))
nogoods_push j (m ∷ ns) n =
    let next : (j + 1) + length ns ≡ j + suc (length ns) = omega arith in
    ap (λ qs. nogood_placed j m ∷ qs) (nogoods_push (j + 1) ns n ∙ ap (λ k. of_nogoods (j + 1) ns ++ nogood_placed k n ∷ []) next)

-- with one nogood more there is one part more behind the others
pub placed-push : (ps : List Placed) (ns : List (List Atomic)) (n : List Atomic) → ps ++ of_nogoods 0 (ns ++ n ∷ []) ≡ (ps ++ of_nogoods 0 ns) ++ record { id = Nogood (length ns); face = face_nogood n } ∷ []
placed-push ps ns n =
    ap (λ qs. ps ++ qs) (nogoods_push 0 ns n ∙ ap (λ k. of_nogoods 0 ns ++ nogood_placed k n ∷ []) (zero-add (length ns)))
    ∙ sym (append_assoc ps (of_nogoods 0 ns) (nogood_placed (length ns) n ∷ []))

-- one part stands at a place
pub one-part : (parts : List Placed) (i : ℕ) (p q : Placed) → slice_get parts i ≡ Some p → slice_get parts i ≡ Some q → p ≡ q
one-part parts i p q hp hq = the_item p q (sym hp ∙ hq)

-- what the part at a place gives, by whichever name it is known
pub turn-at_place : (parts : List Placed) (i : ℕ) (p q : Placed) (d : Domains) (t : Option Turn) (f : Option Found) → slice_get parts i ≡ Some p → slice_get parts i ≡ Some q
    → t ≡ option_map (told p.id) f → f ≡ turn_of p.face d → t ≡ option_map (told q.id) (turn_of q.face d)
turn-at_place parts i p q d t f hp hq e h =
    let same : p ≡ q = the_item p q (sym hp ∙ hq) in
    e ∙ ap (option_map (told p.id)) h ∙ ap (λ (r : Placed). option_map (told r.id) (turn_of r.face d)) same

-- the parts of one constraint more
pub roster-step : (ps : List (List Part)) (k : ℕ) (qs : List Part) (all old now : List Placed)
    → old ++ of_constraints k (map (map labelled) (drop k ps)) ≡ all → slice_get ps k ≡ Some qs → now ≡ old ++ of_constraint k 0 (map labelled qs)
    → now ++ of_constraints (k + 1) (map (map labelled) (drop (k + 1) ps)) ≡ all
roster-step ps k qs all old now h e n =
    let rest : List Placed = of_constraints (k + 1) (map (map labelled) (drop (k + 1) ps)) in
    ap (λ xs. xs ++ rest) n ∙ append_assoc old (of_constraint k 0 (map labelled qs)) rest
    ∙ sym (ap (λ cs. old ++ of_constraints k (map (map labelled) cs)) (drop-at ps k qs e)) ∙ h
