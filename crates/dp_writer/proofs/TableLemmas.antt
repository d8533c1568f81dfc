-- One atom more in a table.
use Rattle.std.proofs.Common.{◌≡◌, ℕ, suc, ◌+◌, ◌≤◌, ◌^◌, Bool, true, false, not, ◌||◌, cond, List, [], ◌∷◌, ◌++◌, length, sym, ap, ◌∙◌, subst, refl, true≢false, arith}
use Rattle.std.proofs.lemmas.List.{append-nil, length-append}
use Rattle.std.specs.List.{flat_map, list_any, position_or_len}
use Rattle.dp_base.specs.Lists.{Each}
use Rattle.dp_domain.specs.Atoms.{Atomic}
use Rattle.dp_lines.specs.Allowed.{IsAllowed}
use Rattle.dp_lines.specs.Spelling.{line_text}
use Rattle.dp_writer.specs.Atoms.{Named, same, number_in}
use Rattle.dp_writer.specs.Steps.{definition}
use Rattle.dp_writer.specs.Numbering.{line_if_new, with_atom}

pub absent_step : (b r : Bool) (n m : ℕ) → (r ≡ false → n ≡ m) → (b || r) ≡ false → cond (not b) (1 + n) 0 ≡ suc m
absent_step true r n m rest none = absurd (true≢false none)
absent_step false r n m rest none =
    let e : n ≡ m = rest none in
    omega arith

-- where no item passes, the place of the first is behind the last item
pub absent_place : {X : Type 0} (p : X → Bool) (xs : List X) → list_any p xs ≡ false → position_or_len p xs ≡ length xs
absent_place p [] none = refl
absent_place p (x ∷ xs) none = absent_step (p x) (list_any p xs) (position_or_len p xs) (length xs) (absent_place p xs) none

module _ (table : List Atomic) (a : Named) (absent : list_any (same a.atom) table ≡ false) where
  -- a new atom's number is that of its line
  pub new_number : number_in table a.atom ≡ length table + 1
  new_number = ap (λ n. n + 1) (absent_place (same a.atom) table absent)

  -- a new atom has its line
  pub new_line : (n : ℕ) → n ≡ number_in table a.atom → line_if_new table a ≡ definition n a ∷ []
  new_line n is =
      ap (λ b. cond b [] (definition (length table + 1) a ∷ [])) absent ∙ ap (λ k. definition k a ∷ []) (sym new_number ∙ sym is)

  -- a new atom goes last
  pub new_place : with_atom table a.atom ≡ table ++ a.atom ∷ []
  new_place = ap (λ b. cond b table (table ++ a.atom ∷ [])) absent

  -- so the table's length is its number
  pub new_few : (new : List Atomic) (n : ℕ) → new ≡ with_atom table a.atom → n ≡ number_in table a.atom → n ≤ 10 ^ 18 → length new ≤ 10 ^ 18
  new_few new n is number few =
      let e : length new ≡ length table + 1 = ap length (is ∙ new_place) ∙ length-append table (a.atom ∷ []) in
      let k : n ≡ length table + 1 = number ∙ new_number in
      omega arith

  -- the text of its line
  pub new_text : (n : ℕ) → n ≡ number_in table a.atom → (before after : List ℕ) → after ≡ before ++ line_text (definition n a)
      → after ≡ before ++ flat_map line_text (line_if_new table a)
  new_text n is before after e =
      e ∙ ap (λ l. before ++ l) (sym (append-nil (line_text (definition n a)))) ∙ ap (λ ls. before ++ flat_map line_text ls) (sym (new_line n is))

  -- which is one that a log may have
  pub new_allowed : (n : ℕ) → n ≡ number_in table a.atom → IsAllowed (definition n a) → Each IsAllowed (line_if_new table a)
  new_allowed n is allowed = subst (Each IsAllowed) (sym (new_line n is)) (allowed, tt)
