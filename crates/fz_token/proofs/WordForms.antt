-- The word in front of some bytes is the longest form there.
use Rattle.std.proofs.Common.{◌≡◌, ℕ, ◌<◌, ◌≤◌, Bool, true, false, cond, List, [], ◌∷◌, length, take, get_or, Option, Some, None, Ok, refl, sym, ◌∙◌, ap, subst, arith}
use Rattle.std.specs.Prelude.{find, bytes_eq}
use Rattle.std.specs.List.{AllPass, list_all}
use Rattle.std.proofs.lemmas.List.{get_or-take}
use Rattle.std.proofs.lemmas.List.Sums.{prefix_len-le-length, AllPass-from_list_all}
use Rattle.std.proofs.lemmas.Slice.Eq.{bytes_eq-Decides}
use Rattle.fz_token.specs.Forms.{Spells, IsWord, Says, KeepsLimit}
use Rattle.fz_token.specs.Word.{begins_word, is_word_byte, spelling, keyword_of, all_keywords, word_len, word_kind, word_at}
use Rattle.fz_token.specs.declared.Keyword.{Keyword}
use Rattle.fz_token.specs.declared.Keyword.TheVariants as word
use Rattle.fz_token.specs.declared.TokenKind.{TokenKind}
use Rattle.fz_token.specs.declared.TokenKind.TheVariants as kind
use Rattle.fz_token.proofs.Classes.{Words, Numbers, Quotes, Marks, class_of, class_of_letter, front_class, lacks_class}
use Rattle.fz_token.proofs.Runs.{run_passes, passing_front}

pub keyword_found : (k : Keyword) → keyword_of (spelling k) ≡ Some k
unfolding keyword_of
keyword_found word.Array = refl
keyword_found word.Bool = refl
keyword_found word.Constraint = refl
keyword_found word.False = refl
keyword_found word.Float = refl
keyword_found word.Int = refl
keyword_found word.Maximize = refl
keyword_found word.Minimize = refl
keyword_found word.Of = refl
keyword_found word.Predicate = refl
keyword_found word.Satisfy = refl
keyword_found word.Set = refl
keyword_found word.Solve = refl
keyword_found word.True = refl
keyword_found word.Var = refl

find_here : (p : Keyword → Bool) (y : Keyword) (ys : List Keyword) (x : Keyword) → (b : Bool) → p y ≡ b → cond b (Some y) (find p ys) ≡ Some x → (find p ys ≡ Some x → p x ≡ true) → p x ≡ true
find_here p y ys x true e h later = let same : y ≡ x = cc in subst (λ z. p z ≡ true) same e
find_here p y ys x false e h later = later h

find_passes : (p : Keyword → Bool) (xs : List Keyword) (x : Keyword) → find p xs ≡ Some x → p x ≡ true
find_passes p [] x h = cc
find_passes p (y ∷ ys) x h = find_here p y ys x (p y) refl h (find_passes p ys x)

keyword_is : (w : List ℕ) (k : Keyword) → keyword_of w ≡ Some k → w ≡ spelling k
unfolding keyword_of
keyword_is w k h = sym ((bytes_eq-Decides (spelling k) w).0 (find_passes (λ keyword. bytes_eq (spelling keyword) w) all_keywords k h))

keyword_test : (k : Keyword) → list_all is_word_byte (spelling k) ≡ true
keyword_test word.Array = refl
keyword_test word.Bool = refl
keyword_test word.Constraint = refl
keyword_test word.False = refl
keyword_test word.Float = refl
keyword_test word.Int = refl
keyword_test word.Maximize = refl
keyword_test word.Minimize = refl
keyword_test word.Of = refl
keyword_test word.Predicate = refl
keyword_test word.Satisfy = refl
keyword_test word.Set = refl
keyword_test word.Solve = refl
keyword_test word.True = refl
keyword_test word.Var = refl

keyword_bytes : (k : Keyword) → AllPass is_word_byte (spelling k)
keyword_bytes k = AllPass-from_list_all is_word_byte (spelling k) (keyword_test k)

word_spells : (w : List ℕ) (o : Option Keyword) → IsWord w → keyword_of w ≡ o → Spells (word_kind o) w
word_spells w None h e = (h, λ k same. let found : keyword_of w ≡ Some k = ap keyword_of same ∙ keyword_found k in cc)
word_spells w (Some k) h e = keyword_is w k e

word_keeps : (o : Option Keyword) → KeepsLimit (word_kind o)
word_keeps None = tt
word_keeps (Some k) = tt

letter_passes : (b : ℕ) → begins_word b ≡ true → is_word_byte b ≡ true
letter_passes b h = grind arith

some_word : (s : List ℕ) → begins_word (get_or s 0 0) ≡ true → 0 < word_len s
some_word [] h = cc
some_word (b ∷ s) h = let passes = letter_passes b h in rw passes (omega arith)

longest_word : (s : List ℕ) (n : ℕ) (k : TokenKind) → class_of (get_or s 0 0) ≡ Words → n ≤ length s → Spells k (take n s) → n ≤ word_len s
longest_word s n kind.Name c within h = passing_front is_word_byte s n within h.0.goes_on
longest_word s n (kind.Keyword keyword) c within h = passing_front is_word_byte s n within (subst (AllPass is_word_byte) (sym h) (keyword_bytes keyword))
longest_word s n (kind.Integer value) c within h = let other : class_of (get_or s 0 0) ≡ Numbers = front_class s n (kind.Integer value) h in cc
longest_word s n kind.Float c within h = let other : class_of (get_or s 0 0) ≡ Numbers = front_class s n kind.Float h in cc
longest_word s n kind.Quoted c within h = let other : class_of (get_or s 0 0) ≡ Quotes = front_class s n kind.Quoted h in cc
longest_word s n (kind.Mark m) c within h = let other : class_of (get_or s 0 0) ≡ Marks = front_class s n (kind.Mark m) h in cc

-- where a letter or `_` stands in front, the word there is the answer
pub word_says : (at : ℕ) (s : List ℕ) → begins_word (get_or s 0 0) ≡ true → Says at s (Ok (word_at at s))
word_says at s h =
    let len = word_len s in
    let w = take len s in
    let c : class_of (get_or s 0 0) ≡ Words = class_of_letter (get_or s 0 0) h in
    let first : get_or w 0 0 ≡ get_or s 0 0 = get_or-take len s 0 0 (some_word s h) in
    let is_word : IsWord w = record { begins = ap begins_word first ∙ h; goes_on = run_passes is_word_byte s } in
    record {
      len = len;
      starts = refl;
      ends = refl;
      stands = record {
        within = prefix_len-le-length is_word_byte s;
        spelled = word_spells w (keyword_of w) is_word refl;
        longest = λ n other within spelled. longest_word s n other c within spelled;
      };
      keeps_limit = word_keeps (keyword_of w);
      has_digits = λ lacks. let other : class_of (get_or s 0 0) ≡ Numbers = lacks_class s lacks in cc;
    }
