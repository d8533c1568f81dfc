-- What was taken of an input, piece by piece, and what is due behind it.
use Rattle.std.specs.Prelude.{◌≡◌, ℕ, ◌+◌, ◌-◌, ◌≤◌, ◌<◌, min, List, length, take, drop, ◌++◌, Option, Some, IfSome}
use Rattle.std.proofs.Common.{sym, ◌∙◌, ap, subst, inl, arith}
use Rattle.std.proofs.lemmas.List.{append_assoc, length-append, length-take, take-append-drop}
use Rattle.std.proofs.Math.Nat.{min-le_left, min-le_right}
use Rattle.dp_desk.specs.Channel.{Channel, Shut, Hidden, Shown, Takes}
use Rattle.dp_desk.specs.Sight.{Sight, input, with_input}
use Rattle.dp_desk.specs.declared.desk.In.{In}
use Rattle.dp_desk.specs.declared.desk.In.TheVariants.{Model, Log}
use Rattle.dp_command.specs.Pieces.{Judges, StaysDue}

-- two pieces that are taken one after the other are one
pub takes-both : (a b c : Channel) (xs ys : List ℕ) → Takes a b xs → Takes b c ys → Takes a c (xs ++ ys)
takes-both Hidden Hidden Hidden xs ys h k = tt
takes-both (Shown left) (Shown rest) (Shown last) xs ys h k = h ∙ ap (λ t. xs ++ t) k ∙ sym (append_assoc xs ys last)
takes-both Shut b c xs ys h k = absurd h
takes-both Hidden Shut c xs ys h k = absurd h
takes-both Hidden (Shown rest) c xs ys h k = absurd h
takes-both (Shown left) Shut c xs ys h k = absurd h
takes-both (Shown left) Hidden c xs ys h k = absurd h
takes-both Hidden Hidden Shut xs ys h k = absurd k
takes-both Hidden Hidden (Shown last) xs ys h k = absurd k
takes-both (Shown left) (Shown rest) Shut xs ys h k = absurd k
takes-both (Shown left) (Shown rest) Hidden xs ys h k = absurd k

-- what holds of the item that there is
pub some-of : {A : Type 0} (P : A → Type 0) (o : Option A) (x : A) → o ≡ Some x → IfSome o P → P x
some-of P o x e h = subst (λ p. IfSome p P) e h

within : (m n left bound : ℕ) → m + left ≡ bound → n ≤ left → m + n ≤ bound
within m n left bound e h = omega (arith, e, h)

less : (m n left bound : ℕ) → m + left ≡ bound → n ≤ left → (m + n) + (left - n) ≡ bound
less m n left bound e h = omega (arith, e, h)

-- a refused line of a further piece is due whatever follows
pub refused-judges : {A : Type 0} (now was : List ℕ → A → Type 0) (refuses : A → Type 0) (bound left : ℕ) (a b c : Channel) (front ys : List ℕ) (answer : A) →
    Takes a b front → Takes b c ys → length front + left ≡ bound → length ys ≤ left → StaysDue now was →
    refuses answer → ((more : List ℕ) → now (front ++ ys ++ more) answer) → Judges was refuses bound a c answer
refused-judges now was refuses bound left a b c front ys answer first next count few stays refused due = record {
  bytes = front ++ ys;
  took = takes-both a b c front ys first next;
  few = subst (λ n. n ≤ bound) (sym (length-append front ys)) (within (length front) (length ys) left bound count few);
  judged = inl (refused, λ more. stays ((front ++ ys) ++ more) answer (due more));
}

-- one more piece was taken, and so many bytes fewer are left to be read
pub count-less : (front ys : List ℕ) (count left bound : ℕ) → length front + left ≡ bound → length ys ≡ count → count ≤ left → length (front ++ ys) + (left - count) ≡ bound
count-less front ys count left bound e l h =
    subst (λ n. n + (left - count) ≡ bound) (sym (length-append front ys)) (subst (λ n. (length front + n) + (left - count) ≡ bound) (sym l) (less (length front) count left bound e h))

at_most : (n m left : ℕ) → n ≤ min m left → n ≤ left
at_most n m left h = let k = min-le_right m left in omega (arith, h, k)

-- so many of a piece are no more than what is left to be read
pub few-left : (count most m left : ℕ) (xs : List ℕ) → count ≤ length (take most xs) → most ≡ min m left → count ≤ left
few-left count most m left xs h e =
    at_most count m left (subst (λ n. count ≤ n) e (at_most_first count most (length xs) (subst (λ n. count ≤ n) (length-take most xs) h)))
  where
    at_most_first : (n a b : ℕ) → n ≤ min a b → n ≤ a
    at_most_first n a b h = let k = min-le_left a b in omega (arith, h, k)

-- a buffer of which some is overwritten is no shorter
pub some-room : (xs ys zs : List ℕ) (n m left : ℕ) → 0 < length zs → n ≡ min m left → length xs ≡ length (take n zs) → ys ≡ drop n zs → 0 < length (xs ++ ys)
some-room xs ys zs n m left room e l d =
    subst (λ k. 0 < k) (sym (length-append xs ys ∙ ap (λ k. k + length ys) l ∙ ap (λ (t : List ℕ). length (take n zs) + length t) d ∙ sym (length-append (take n zs) (drop n zs)) ∙ ap (λ (t : List ℕ). length t) (take-append-drop n zs))) room

-- one input changed, and then it changed again
pub changes-both : (which : In) (a b c : Sight) → b ≡ with_input which (input which b) a → c ≡ with_input which (input which c) b → c ≡ with_input which (input which c) a
changes-both Model a b c h k = k ∙ ap (λ (s : Sight). with_input Model c.model s) h
changes-both Log a b c h k = k ∙ ap (λ (s : Sight). with_input Log c.log s) h
