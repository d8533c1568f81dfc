-- Runs of bytes that pass a test.
use Rattle.std.proofs.Common.{◌≡◌, ℕ, zero, suc, ◌+◌, ◌<◌, ◌≤◌, Bool, true, false, List, [], ◌∷◌, ◌++◌, length, take, drop, get_or, refl, sym, ap, subst, arith, inl, inr}
use Rattle.std.specs.List.{prefix_len, AllPass}
use Rattle.std.proofs.lemmas.List.{length-take-le, get_or-take, take_at, length-append}
use Rattle.std.proofs.lemmas.List.Sums.{prefix_len_passes, prefix_len_stops, prefix_len-le-length}
use Rattle.std.proofs.lemmas.Bool.{both_ways, cases_lt}

-- a list in two parts
pub take_add : {X : Type 0} (m n : ℕ) (s : List X) → take (m + n) s ≡ take m s ++ take n (drop m s)
take_add zero n s = let e : zero + n ≡ n = omega arith in rw e refl
take_add (suc m) zero [] = let e : suc m + zero ≡ suc m = omega arith in rw e refl
take_add (suc m) (suc n) [] = let e : suc m + suc n ≡ suc (m + suc n) = omega arith in rw e refl
take_add (suc m) n (x ∷ s) = let e : suc m + n ≡ suc (m + n) = omega arith in rw e (ap (λ l. x ∷ l) (take_add m n s))

-- the run at the front passes
pub run_passes : {X : Type 0} (p : X → Bool) (s : List X) → AllPass p (take (prefix_len p s) s)
run_passes p s k d h =
    let len : length (take (prefix_len p s) s) ≡ prefix_len p s = length-take-le (prefix_len p s) s (prefix_len-le-length p s) in
    let lt : k < prefix_len p s = omega (arith, len) in
    subst (λ x. p x ≡ true) (sym (get_or-take (prefix_len p s) s k d lt)) (prefix_len_passes p s k d lt)

-- a front that passes is no longer than the run
pub passing_front : (p : ℕ → Bool) (s : List ℕ) (n : ℕ) → n ≤ length s → AllPass p (take n s) → n ≤ prefix_len p s
passing_front p s n h all =
    elim (cases_lt (prefix_len p s) n) [
      | inl longer ↦
          let len : length (take n s) ≡ n = length-take-le n s h in
          let within : prefix_len p s < length s = omega arith in
          let here : prefix_len p s < length (take n s) = omega arith in
          absurd (both_ways _ (prefix_len_stops p s 0 within) (subst (λ x. p x ≡ true) (get_or-take n s (prefix_len p s) 0 longer) (all (prefix_len p s) 0 here)))
      | inr shorter ↦ shorter
    ]

-- elements that pass, in front of others
pub passing_part : (p : ℕ → Bool) (ds rest : List ℕ) → AllPass p ds → length ds ≤ prefix_len p (ds ++ rest)
passing_part p ds rest all =
    passing_front p (ds ++ rest) (length ds) (omega (arith, length-append ds rest)) (subst (AllPass p) (sym (take_at ds rest (length ds) refl)) all)

-- the run is these elements, where the next one does not pass
pub run_before : (p : ℕ → Bool) (ds rest : List ℕ) → AllPass p ds → p (get_or rest 0 0) ≡ false → prefix_len p (ds ++ rest) ≡ length ds
run_before p [] [] all stops = refl
run_before p [] (b ∷ rest) all stops = rw stops refl
run_before p (x ∷ ds) rest all stops =
    let first : p x ≡ true = all 0 x (omega arith) in
    let more : AllPass p ds = λ k d h. all (suc k) d (omega arith) in
    rw first (search (arith, run_before p ds rest more stops, ap suc (run_before p ds rest more stops)))
