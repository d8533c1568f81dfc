-- What holds of each run holds of all items.
use Rattle.std.proofs.Common.{◌≡◌, ℕ, ◌+◌, ◌<◌, List, [], ◌∷◌, ◌++◌, length, get_or, take, refl, sym, ◌∙◌, ap, subst}
use Rattle.std.specs.List.{AllZip}
use Rattle.std.proofs.lemmas.List.{take_more}
use Rattle.std.proofs.lemmas.Slice.Zip.{all_zipped_more}
use Rattle.std.proofs.lemmas.Fn.{says_at}
use Rattle.std.specs.Fn.{Shared}
use Rattle.std.specs.Prelude.{Result, Ok, Err, IfOk}
use Rattle.dp_pool.specs.Calls.{Gives}
use Rattle.dp_base.specs.declared.memory.Memory.{Memory}
use denote.Ref.{Bor}

-- ---- two runs

zip_both : {A B : Type 0} (R : A → B → Type 0) (xs ys : List A) (us vs : List B) → AllZip R xs us → AllZip R ys vs → AllZip R (xs ++ ys) (us ++ vs)
zip_both R [] ys [] vs h k = k
zip_both R [] ys (u ∷ us) vs h k = absurd h
zip_both R (x ∷ xs) ys [] vs h k = absurd h
zip_both R (x ∷ xs) ys (u ∷ us) vs h k = (h.0, zip_both R xs ys us vs h.1 k)

-- the results of both runs are those of all items
pub both-runs : {A B : Type 0} (R : A → B → Type 0) (all xs ys : List A) (us vs ws : List B) → all ≡ xs ++ ys → ws ≡ us ++ vs → AllZip R xs us → AllZip R ys vs → AllZip R all ws
both-runs R all xs ys us vs ws e d h k = subst (λ l. AllZip R l ws) (sym e) (subst (λ l. AllZip R (xs ++ ys) l) (sym d) (zip_both R xs ys us vs h k))

-- ---- one call more

pub run-next : {A B : Type 0} (R : A → B → Type 0) (xs : List A) (us now : List B) (i : ℕ) (x : A) (u : B) → i < length xs → AllZip R (take i xs) us → R x u → x ≡ get_or xs i x → now ≡ us ++ u ∷ []
    → AllZip R (take (i + 1) xs) now
run-next R xs us now i x u l h r at pushed =
    subst (λ vs. AllZip R (take (i + 1) xs) vs) (sym pushed)
    (subst (λ ts. AllZip R ts (us ++ u ∷ [])) (ap (λ z. take i xs ++ z ∷ []) at ∙ sym (take_more xs i x l)) (all_zipped_more R (take i xs) us x u h r))

-- ---- what a call gave, where it gave Ok

pub call-gives : {F T R : Type 0} (g : Shared F (Bor T × Unit {0}) (Result R Memory)) (f : F) (p : Bor T) (r : Result R Memory) → g.post f (p, tt) r → IfOk r (Gives g f p.now)
call-gives g f p (Ok r) h = says_at g h refl
call-gives g f p (Err e) h = tt
