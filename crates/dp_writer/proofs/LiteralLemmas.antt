-- Literals, by the table of their turn and by the whole table.
use Rattle.std.proofs.Common.{◌≡◌, ℕ, zero, suc, ◌+◌, ◌≤◌, ◌<◌, ◌^◌, Bool, true, false, not, ◌||◌, List, [], ◌∷◌, ◌++◌, cond, length, sym, ap, ◌∙◌, subst, refl, append_assoc, true≢false, arith}
use Rattle.std.proofs.lemmas.Bool.{or_right}
use Rattle.std.proofs.lemmas.List.{append-nil, length-append}
use Rattle.std.specs.Prelude.{unsigned_abs}
use Rattle.std.specs.List.{list_any, position_or_len}
use Rattle.dp_base.specs.Lists.{Each}
use Rattle.dp_domain.specs.Atoms.{Atomic}
use Rattle.dp_lines.specs.Allowed.{IsLiteral, IsNumber}
use Rattle.dp_writer.specs.Atoms.{Named, defined, is_defined, same, signed_by, number_in, literal_in}
use Rattle.dp_writer.specs.AtomLaws.{same_equiv}
use Rattle.dp_writer.specs.Steps.{literals_in}
use Rattle.dp_writer.specs.Numbering.{literals_by, with_atom, with_atoms}
use Rattle.dp_writer.proofs.TableLemmas.{absent_place, absent_step}

-- ---- places

found_step : (b r : Bool) (n m : ℕ) → (r ≡ true → n < m) → (b || r) ≡ true → cond (not b) (1 + n) 0 < suc m
found_step true r n m rest found = omega arith
found_step false r n m rest found = let h : n < m = rest found in omega arith

-- where some item passes, the place of the first is one of the items'
pub found_place : {X : Type 0} (p : X → Bool) (xs : List X) → list_any p xs ≡ true → position_or_len p xs < length xs
found_place p [] found = absurd (true≢false (sym found))
found_place p (x ∷ xs) found = found_step (p x) (list_any p xs) (position_or_len p xs) (length xs) (found_place p xs) found

kept_step : (b r : Bool) (n m : ℕ) → (r ≡ true → n ≡ m) → (b || r) ≡ true → cond (not b) (1 + n) 0 ≡ cond (not b) (1 + m) 0
kept_step true r n m rest found = refl
kept_step false r n m rest found = ap (λ k. 1 + k) (rest found)

-- and it stays with more items behind
pub kept_place : {X : Type 0} (p : X → Bool) (xs more : List X) → list_any p xs ≡ true → position_or_len p (xs ++ more) ≡ position_or_len p xs
kept_place p [] more found = absurd (true≢false (sym found))
kept_place p (x ∷ xs) more found = kept_step (p x) (list_any p xs) (position_or_len p (xs ++ more)) (position_or_len p xs) (kept_place p xs more) found

any_last : {X : Type 0} (p : X → Bool) (xs : List X) (x : X) → p x ≡ true → list_any p (xs ++ x ∷ []) ≡ true
any_last p [] x h = ap (λ b. b || false) h
any_last p (y ∷ xs) x h = or_right (p y) (list_any p (xs ++ x ∷ [])) (any_last p xs x h)

first_last : (b : Bool) → b ≡ true → cond (not b) (1 + 0) 0 ≡ 0
first_last true h = refl
first_last false h = absurd (true≢false (sym h))

-- an item that is the first to pass stands behind the others
pub last_place : {X : Type 0} (p : X → Bool) (xs : List X) (x : X) → p x ≡ true → list_any p xs ≡ false → position_or_len p (xs ++ x ∷ []) ≡ length xs
last_place p [] x h none = first_last (p x) h
last_place p (y ∷ xs) x h none =
    absent_step (p y) (list_any p xs) (position_or_len p (xs ++ x ∷ [])) (length xs) (last_place p xs x h) none

-- ---- one atom

module _ (table : List Atomic) (d : Atomic) where
  -- an atom is in the table with it
  pub in_table : list_any (same d) (with_atom table d) ≡ true
  in_table = by (list_any (same d) table) refl
    where
      by : (b : Bool) → list_any (same d) table ≡ b → list_any (same d) (with_atom table d) ≡ true
      by true e = ap (λ b. list_any (same d) (cond b table (table ++ d ∷ []))) e ∙ e
      by false e = ap (λ b. list_any (same d) (cond b table (table ++ d ∷ []))) e ∙ any_last (same d) table d (same_equiv.refl d)

  -- with the same number as before
  pub same_number : number_in (with_atom table d) d ≡ number_in table d
  same_number = by (list_any (same d) table) refl
    where
      by : (b : Bool) → list_any (same d) table ≡ b → number_in (with_atom table d) d ≡ number_in table d
      by true e = ap (λ b. number_in (cond b table (table ++ d ∷ [])) d) e
      by false e =
          ap (λ b. number_in (cond b table (table ++ d ∷ [])) d) e
          ∙ ap (λ n. n + 1) (last_place (same d) table d (same_equiv.refl d) e ∙ sym (absent_place (same d) table e))

  -- and the table only grows
  pub with_atom_front : (more : List Atomic) × (with_atom table d ≡ table ++ more)
  with_atom_front = by (list_any (same d) table) refl
    where
      by : (b : Bool) → list_any (same d) table ≡ b → (more : List Atomic) × (with_atom table d ≡ table ++ more)
      by true e = ([], ap (λ b. cond b table (table ++ d ∷ [])) e ∙ sym (append-nil table))
      by false e = (d ∷ [], ap (λ b. cond b table (table ++ d ∷ [])) e)

-- ---- several

pub with_atoms_front : (table : List Atomic) (atoms : List Named) → (more : List Atomic) × (with_atoms table atoms ≡ table ++ more)
with_atoms_front table [] = ([], sym (append-nil table))
with_atoms_front table (a ∷ atoms) =
    let one = with_atom_front table (defined a.atom) in
    let rest = with_atoms_front (with_atom table (defined a.atom)) atoms in
    (one.0 ++ rest.0, rest.1 ∙ ap (λ t. t ++ rest.0) one.1 ∙ append_assoc table one.0 rest.0)

-- the literal of an atom stays, whatever more is in the table
pub kept_literal : (table : List Atomic) (a : Atomic) (more : List Atomic) → literal_in table a ≡ literal_in (with_atom table (defined a) ++ more) a
kept_literal table a more =
    ap (signed_by (is_defined a.op))
    (sym (same_number table (defined a)) ∙ ap (λ n. n + 1) (sym (kept_place (same (defined a)) (with_atom table (defined a)) more (in_table table (defined a)))))

-- so the literals of atoms are those by a table that has more
pub kept_literals : (table : List Atomic) (atoms : List Named) (more : List Atomic) → literals_by table atoms ≡ literals_in (with_atoms table atoms ++ more) atoms
kept_literals table [] more = refl
kept_literals table (a ∷ atoms) more =
    let next : List Atomic = with_atom table (defined a.atom) in
    let rest = with_atoms_front next atoms in
    let whole : next ++ (rest.0 ++ more) ≡ with_atoms next atoms ++ more =
    sym (append_assoc next rest.0 more) ∙ ap (λ t. t ++ more) (sym rest.1) in
    (λ j. (kept_literal table a.atom (rest.0 ++ more) ∙ ap (λ t. literal_in t a.atom) whole) j ∷ kept_literals next atoms more j)

-- ---- literals that a log may have

abs_of : (b : Bool) (n : ℕ) → unsigned_abs (signed_by b n) ≡ n
abs_of true n = refl
abs_of false zero = refl
abs_of false (suc n) = refl

pub literal_allowed : (table : List Atomic) (a : Atomic) → length (with_atom table (defined a)) ≤ 10 ^ 18 → IsLiteral (literal_in table a)
literal_allowed table a few =
    let d : Atomic = defined a in
    let place : position_or_len (same d) (with_atom table d) < length (with_atom table d) = found_place (same d) (with_atom table d) (in_table table d) in
    let is : position_or_len (same d) (with_atom table d) + 1 ≡ number_in table d = same_number table d in
    let fits : IsNumber (number_in table d) = (omega arith, omega arith) in
    subst IsNumber (sym (abs_of (is_defined a.op) (number_in table d))) fits

pub literals_allowed : (table : List Atomic) (atoms : List Named) → length (with_atoms table atoms) ≤ 10 ^ 18 → Each IsLiteral (literals_by table atoms)
literals_allowed table [] few = tt
literals_allowed table (a ∷ atoms) few =
    let next : List Atomic = with_atom table (defined a.atom) in
    let rest = with_atoms_front next atoms in
    let n : length (with_atoms next atoms) ≡ length next + length rest.0 = ap length rest.1 ∙ length-append next rest.0 in
    (literal_allowed table a.atom (omega arith), literals_allowed next atoms few)
