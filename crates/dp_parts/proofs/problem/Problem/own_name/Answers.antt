use Rattle.std.proofs.Common.{◌≡◌, ℕ, ◌<◌, length, Option, Some, List, slice_get, sym, ◌∙◌, ap, subst}
use Rattle.std.specs.Option.{option_map}
use Rattle.std.specs.Map.Iter.{deref_pair}
use Rattle.std.proofs.lemmas.Option.{slice_get_read, some_pair_parts}
use Rattle.dp_parts.specs.Problems.{Csp}
use Rattle.dp_parts.proofs.problem.Problem.own_name.Goals as goal

-- an entry whose variable is known
with_variable : (o : Option (List ℕ × ℕ)) (a name : List ℕ) (b x : ℕ) → o ≡ Some (a, b) → o ≡ Some (name, x) → o ≡ Some (a, x)
with_variable o a name b x p q = p ∙ ap (λ y. Some (a, y)) (some_pair_parts a name b x (sym p ∙ q)).1

pub returns : goal.returns
returns c =
    let place : ℕ = c.index-place.result.now in
    let own : List ℕ = c.self.inside.own.items in
    let x : ℕ = c.var.inside.0 in
    let within : x < length c.self.inside.initial =
    subst (λ (q : Csp). x < length q.initial) (sym c.self.view_is) (subst (λ (y : ℕ). y < length c.args.self.now.initial) (sym c.var.view_is) c.requires) in
    let here : slice_get own x ≡ Some place = slice_get_read own (length c.self.inside.initial) x place (sym c.self.invariant.owned) within c.index-place.ensures in
    let known = c.self.invariant.own x place here in
    let there : slice_get c.self.inside.names.entries place ≡ Some (c.unwrap.result.0.now, x) =
    with_variable (slice_get c.self.inside.names.entries place) c.unwrap.result.0.now known.0 c.unwrap.result.1.now x
    (sym c.get_index.ensures.entry ∙ ap (option_map deref_pair) c.unwrap.ensures) known.1 in
    subst (λ (q : Csp). (n : ℕ) × (slice_get q.own c.args.var ≡ Some n) × (slice_get q.names n ≡ Some (c.unwrap.result.0.now, c.args.var))) c.self.view_is
    (subst (λ (y : ℕ). (n : ℕ) × (slice_get own y ≡ Some n) × (slice_get c.self.inside.names.entries n ≡ Some (c.unwrap.result.0.now, y))) c.var.view_is
    (place, here, there))
