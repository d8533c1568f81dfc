-- Many things, one after the other, as a loop reads them.
use Rattle.std.proofs.Common.{◌≡◌, ℕ, ◌<◌, Bool, true, false, List, [], ◌∷◌, ◌++◌, length, Result, Ok, Err, refl, sym, ap, ◌∙◌, append_assoc, arith}
use Rattle.std.proofs.lemmas.List.{append-nil}
use Rattle.dp_lines.specs.Fields.{Reading, many, one, with_first, with_rest, behind}
use Rattle.dp_lines.specs.Parts.{Fails, stops_here}
use Rattle.dp_lines.specs.Words.{Word}
use Rattle.dp_lines.specs.declared.refusal.Fault.{Fault}
use Rattle.dp_lines.specs.declared.refusal.Fault.TheVariants.{Flawed, Memory}
use Rattle.dp_lines.specs.declared.refusal.Flaw.{Flaw}

-- what was read before, and what is still read
abbrev pub with_front : {X : Type 0} → List X → Reading (List X) → Reading (List X)
with_front front (Ok p) = Ok (front ++ p.0, p.1)
with_front front (Err flaw) = Err flaw

pub with_none : {X : Type 0} (r : Reading (List X)) → with_front [] r ≡ r
with_none (Ok p) = refl
with_none (Err flaw) = refl

regroup : {X : Type 0} (front : List X) (x : X) (r : Reading (List X)) → with_front front (behind r (with_first x)) ≡ with_front (front ++ x ∷ []) r
regroup front x (Err flaw) = refl
regroup {X = X} front x (Ok p) = ap (λ (xs : List X). let r : Reading (List X) = Ok (xs, p.1) in r) (sym (append_assoc front (x ∷ []) p.0))

-- what an answer gives, or else this
abbrev value_in : {X : Type 0} → X → Reading X → X
value_in x (Ok p) = p.0
value_in x (Err flaw) = x

abbrev rest_in : {X : Type 0} → Reading X → List Word
rest_in (Ok p) = p.1
rest_in (Err flaw) = []

many_stepped : {X : Type 0} (stops : List ℕ → Bool) (read : ℕ → List ℕ → Result X Flaw) (w : Word) (ws : List Word) → stops w.text ≡ false →
    many stops read (w ∷ ws) ≡ behind (with_rest ws (read w.at w.text)) (λ x rest. behind (many stops read ws) (with_first x))
many_stepped {X = X} stops read w ws h = rw h refl

-- one thing more
one_more : {X : Type 0} (stops : List ℕ → Bool) (read : ℕ → List ℕ → Result X Flaw) (w : Word) (ws rest : List Word) (front : List X) (x : X) (r : Result X Flaw) →
    stops w.text ≡ false → read w.at w.text ≡ r → with_rest ws r ≡ Ok (x, rest) →
    with_front front (many stops read (w ∷ ws)) ≡ with_front (front ++ x ∷ []) (many stops read rest)
one_more stops read w ws rest front x (Err flaw) h e q = absurd cc
one_more {X = X} stops read w ws rest front x (Ok y) h e q =
    let same : y ≡ x = ap (value_in x) q in
    let left : ws ≡ rest = ap rest_in q in
    ap (λ (z : Reading (List X)). with_front front z) (many_stepped stops read w ws h)
    ∙ rw e (regroup front y (many stops read ws) ∙ rw (same, left) refl)

pub goes_on : {X : Type 0} (stops : List ℕ → Bool) (read : ℕ → List ℕ → Result X Flaw) (end : ℕ) (ws rest : List Word) (front : List X) (x : X) (total : Reading (List X)) →
    stops_here stops ws ≡ false → one read end ws ≡ Ok (x, rest) →
    with_front front (many stops read ws) ≡ total → with_front (front ++ x ∷ []) (many stops read rest) ≡ total
goes_on stops read end [] rest front x total h q so_far = absurd cc
goes_on stops read end (w ∷ ws) rest front x total h q so_far = sym (one_more stops read w ws rest front x (read w.at w.text) h refl q) ∙ so_far

left_is : {X : Type 0} (r : Result X Flaw) (ws rest : List Word) (x : X) → with_rest ws r ≡ Ok (x, rest) → ws ≡ rest
left_is (Ok y) ws rest x q = ap rest_in q
left_is (Err flaw) ws rest x q = absurd cc

-- fewer words are left
pub fewer : {X : Type 0} (stops : List ℕ → Bool) (read : ℕ → List ℕ → Result X Flaw) (end : ℕ) (ws rest : List Word) (x : X) →
    stops_here stops ws ≡ false → one read end ws ≡ Ok (x, rest) → length rest < length ws
fewer stops read end [] rest x h q = absurd cc
fewer {X = X} stops read end (w ∷ ws) rest x h q = let same = left_is (read w.at w.text) ws rest x q in omega (arith, ap (λ (t : List Word). length t) same)

flawed : {X : Type 0} (r : Result X Flaw) (ws : List Word) (flaw : Flaw) (next : X → List Word → Reading (List X)) → with_rest ws r ≡ Err flaw → behind (with_rest ws r) next ≡ Err flaw
flawed (Ok y) ws flaw next q = absurd cc
flawed (Err other) ws flaw next q = ap (λ (f : Flaw). Err f) cc

-- or the next has a flaw
pub ends : {X : Type 0} (stops : List ℕ → Bool) (read : ℕ → List ℕ → Result X Flaw) (end : ℕ) (ws : List Word) (front : List X) (fault : Fault) (total : Reading (List X)) →
    stops_here stops ws ≡ false → Fails fault (one read end ws) →
    with_front front (many stops read ws) ≡ total → Fails fault total
ends stops read end ws front Memory total h q so_far = tt
ends stops read end [] front (Flawed flaw) total h q so_far = absurd cc
ends {X = X} stops read end (w ∷ ws) front (Flawed flaw) total h q so_far =
    sym so_far
    ∙ ap (λ (z : Reading (List X)). with_front front z) (many_stepped stops read w ws h ∙ flawed (read w.at w.text) ws flaw (λ x rest. behind (many stops read ws) (with_first x)) q)

-- at the end all is read
pub is_done : {X : Type 0} (stops : List ℕ → Bool) (read : ℕ → List ℕ → Result X Flaw) (ws : List Word) (front : List X) (total : Reading (List X)) →
    stops_here stops ws ≡ true → with_front front (many stops read ws) ≡ total → total ≡ Ok (front, ws)
is_done {X = X} stops read [] front total h so_far = sym so_far ∙ ap (λ (xs : List X). let r : Reading (List X) = Ok (xs, []) in r) (append-nil front)
is_done {X = X} stops read (w ∷ ws) front total h so_far =
    sym so_far ∙ rw h (ap (λ (xs : List X). let r : Reading (List X) = Ok (xs, w ∷ ws) in r) (append-nil front))
