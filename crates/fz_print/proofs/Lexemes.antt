-- Single tokens in front of a text: marks, words and numbers.
use Rattle.std.proofs.Common.{◌≡◌, ℕ, ◌+◌, ◌<◌, Bool, true, false, not, ◌==◌, List, [], ◌∷◌, ◌++◌, length, take, map, get_or, Some, None, Ok, find, bytes_eq, codes, refl, sym, ◌∙◌, ap, subst, arith}
use Rattle.std.specs.List.{AllPass, list_all, list_any}
use Rattle.std.proofs.lemmas.Bool.{and_parts, not-true, or_parts}
use Rattle.std.proofs.lemmas.Bool.Decides.{nat_tests}
use Rattle.std.proofs.lemmas.List.Sums.{AllPass-from_list_all}
use Rattle.std.proofs.lemmas.Slice.Eq.{bytes_eq-Decides}
use Rattle.std.proofs.Math.Seq.{take-append_seam}
use Rattle.dp_base.specs.Names.{is_first, is_later, is_name, is_word, keywords}
use Rattle.dp_grammar.specs.Brackets.{Plain, Opens, Closes}
use Rattle.fz_token.specs.Gap.{gap_end}
use Rattle.fz_token.specs.Token.{token_at}
use Rattle.fz_token.specs.Word.{all_keywords, begins_word, is_word_byte, keyword_of, spelling, word_at, word_kind, word_len}
use Rattle.fz_token.specs.declared.Keyword.{Keyword}
use Rattle.fz_token.specs.declared.Keyword.TheVariants as key
use Rattle.fz_token.specs.declared.Mark.TheVariants as mark
use Rattle.fz_token.specs.declared.TokenKind.TheVariants as kind
use Rattle.fz_token.proofs.Runs.{run_before}
use Rattle.fz_token.proofs.WordForms.{keyword_found}
use Rattle.fz_model.specs.Words.{Round, Square, Curly, Comma, Semicolon, Colon, DoubleColon, DoubleDot, Equals, Key, Named, Stop, Word, kind_word}
use Rattle.fz_print.proofs.Lexes.{Lexes, is_dotted, lexes_gap, lexes_token}

-- ---- blanks and marks

pub lexes_space : (s : List ℕ) (ws : List Word) → Lexes s ws → Lexes (32 ∷ s) ws
lexes_space s ws h = lexes_gap 32 s ws (λ at. refl) h

pub lexes_line : (s : List ℕ) (ws : List Word) → Lexes s ws → Lexes (10 ∷ s) ws
lexes_line s ws h = lexes_gap 10 s ws (λ at. refl) h

some_one : (b : ℕ) → 0 < length (b ∷ [])
some_one b = omega arith

pub lexes_open_round : (s : List ℕ) (ws : List Word) → Lexes s ws → Lexes (40 ∷ s) (Opens Round ∷ ws)
unfolding token_at
lexes_open_round s ws h = lexes_token (40 ∷ []) s ws (kind.Mark mark.OpenRound) (some_one 40) (λ at. refl) (λ at. refl) h

pub lexes_close_round : (s : List ℕ) (ws : List Word) → Lexes s ws → Lexes (41 ∷ s) (Closes Round ∷ ws)
unfolding token_at
lexes_close_round s ws h = lexes_token (41 ∷ []) s ws (kind.Mark mark.CloseRound) (some_one 41) (λ at. refl) (λ at. refl) h

pub lexes_open_square : (s : List ℕ) (ws : List Word) → Lexes s ws → Lexes (91 ∷ s) (Opens Square ∷ ws)
unfolding token_at
lexes_open_square s ws h = lexes_token (91 ∷ []) s ws (kind.Mark mark.OpenSquare) (some_one 91) (λ at. refl) (λ at. refl) h

pub lexes_close_square : (s : List ℕ) (ws : List Word) → Lexes s ws → Lexes (93 ∷ s) (Closes Square ∷ ws)
unfolding token_at
lexes_close_square s ws h = lexes_token (93 ∷ []) s ws (kind.Mark mark.CloseSquare) (some_one 93) (λ at. refl) (λ at. refl) h

pub lexes_open_curly : (s : List ℕ) (ws : List Word) → Lexes s ws → Lexes (123 ∷ s) (Opens Curly ∷ ws)
unfolding token_at
lexes_open_curly s ws h = lexes_token (123 ∷ []) s ws (kind.Mark mark.OpenCurly) (some_one 123) (λ at. refl) (λ at. refl) h

pub lexes_close_curly : (s : List ℕ) (ws : List Word) → Lexes s ws → Lexes (125 ∷ s) (Closes Curly ∷ ws)
unfolding token_at
lexes_close_curly s ws h = lexes_token (125 ∷ []) s ws (kind.Mark mark.CloseCurly) (some_one 125) (λ at. refl) (λ at. refl) h

pub lexes_comma : (s : List ℕ) (ws : List Word) → Lexes s ws → Lexes (44 ∷ s) (Plain (Stop Comma) ∷ ws)
unfolding token_at
lexes_comma s ws h = lexes_token (44 ∷ []) s ws (kind.Mark mark.Comma) (some_one 44) (λ at. refl) (λ at. refl) h

pub lexes_semicolon : (s : List ℕ) (ws : List Word) → Lexes s ws → Lexes (59 ∷ s) (Plain (Stop Semicolon) ∷ ws)
unfolding token_at
lexes_semicolon s ws h = lexes_token (59 ∷ []) s ws (kind.Mark mark.Semicolon) (some_one 59) (λ at. refl) (λ at. refl) h

pub lexes_equals : (s : List ℕ) (ws : List Word) → Lexes s ws → Lexes (61 ∷ s) (Plain (Stop Equals) ∷ ws)
unfolding token_at
lexes_equals s ws h = lexes_token (61 ∷ []) s ws (kind.Mark mark.Equals) (some_one 61) (λ at. refl) (λ at. refl) h

-- a colon, and a blank
pub lexes_colon : (s : List ℕ) (ws : List Word) → Lexes s ws → Lexes (58 ∷ 32 ∷ s) (Plain (Stop Colon) ∷ ws)
unfolding token_at
lexes_colon s ws h = lexes_token (58 ∷ []) (32 ∷ s) ws (kind.Mark mark.Colon) (some_one 58) (λ at. refl) (λ at. refl) (lexes_space s ws h)

pub lexes_double_colon : (s : List ℕ) (ws : List Word) → Lexes s ws → Lexes (58 ∷ 58 ∷ s) (Plain (Stop DoubleColon) ∷ ws)
unfolding token_at
lexes_double_colon s ws h = lexes_token (58 ∷ 58 ∷ []) s ws (kind.Mark mark.DoubleColon) (omega arith) (λ at. refl) (λ at. refl) h

pub lexes_double_dot : (s : List ℕ) (ws : List Word) → Lexes s ws → Lexes (46 ∷ 46 ∷ s) (Plain (Stop DoubleDot) ∷ ws)
unfolding token_at
lexes_double_dot s ws h = lexes_token (46 ∷ 46 ∷ []) s ws (kind.Mark mark.DoubleDot) (omega arith) (λ at. refl) (λ at. refl) h

-- ---- words

-- what follows ends a word
abbrev pub EndsWord : List ℕ → Type 0
EndsWord s = is_word_byte (get_or s 0 0) ≡ false

no_gap : (b : ℕ) (s : List ℕ) → begins_word b ≡ true → (at : ℕ) → gap_end at false (b ∷ s) ≡ at
no_gap b s h at =
    let line : (b == 10) ≡ false = grind (arith, nat_tests) in
    let percent : (b == 37) ≡ false = grind (arith, nat_tests) in
    let space : (b == 32) ≡ false = grind (arith, nat_tests) in
    let tab : (b == 9) ≡ false = grind (arith, nat_tests) in
    let back : (b == 13) ≡ false = grind (arith, nat_tests) in
    rw (line, percent, space, tab, back) refl

word_found : (b : ℕ) (t s : List ℕ) → begins_word b ≡ true → AllPass is_word_byte (b ∷ t) → EndsWord s → (at : ℕ)
    → token_at at ((b ∷ t) ++ s) ≡ Ok (record { kind = word_kind (keyword_of (b ∷ t)); start = at; end = at + length (b ∷ t) })
unfolding token_at
word_found b t s h all ends at =
    let len : word_len ((b ∷ t) ++ s) ≡ length (b ∷ t) = run_before is_word_byte (b ∷ t) s all ends in
    let front : take (word_len ((b ∷ t) ++ s)) ((b ∷ t) ++ s) ≡ b ∷ t = ap (λ n. take n ((b ∷ t) ++ s)) len ∙ take-append_seam (b ∷ t) s in
    let word : token_at at ((b ∷ t) ++ s) ≡ Ok (word_at at ((b ∷ t) ++ s)) = rw h refl in
    word ∙ ap (λ u. Ok (record { kind = word_kind (keyword_of u); start = at; end = at + word_len ((b ∷ t) ++ s) })) front
    ∙ ap (λ n. Ok (record { kind = word_kind (keyword_of (b ∷ t)); start = at; end = at + n })) len

lexes_word : (b : ℕ) (t s : List ℕ) (ws : List Word) → begins_word b ≡ true → AllPass is_word_byte (b ∷ t) → EndsWord s → Lexes s ws
    → Lexes ((b ∷ t) ++ s) (kind_word (b ∷ t) (is_dotted ws) (word_kind (keyword_of (b ∷ t))) ∷ ws)
lexes_word b t s ws h all ends behind =
    lexes_token (b ∷ t) s ws (word_kind (keyword_of (b ∷ t))) (omega arith) (no_gap b (t ++ s) h) (word_found b t s h all ends) behind

-- bytes that are seen to be a word
pub lexes_plain : (b : ℕ) (t s : List ℕ) (ws : List Word) → begins_word b ≡ true → list_all is_word_byte (b ∷ t) ≡ true → EndsWord s → Lexes s ws
    → Lexes ((b ∷ t) ++ s) (kind_word (b ∷ t) (is_dotted ws) (word_kind (keyword_of (b ∷ t))) ∷ ws)
lexes_plain b t s ws h all ends behind = lexes_word b t s ws h (AllPass-from_list_all is_word_byte (b ∷ t) all) ends behind

-- a keyword
abbrev IsKey : Keyword → Type 0
IsKey k = (s : List ℕ) (ws : List Word) → EndsWord s → Lexes s ws → Lexes (spelling k ++ s) (Plain (Key k) ∷ ws)

as_key : (k : Keyword) (b : ℕ) (t s : List ℕ) (ws : List Word) → spelling k ≡ b ∷ t → Lexes ((b ∷ t) ++ s) (kind_word (b ∷ t) (is_dotted ws) (word_kind (keyword_of (b ∷ t))) ∷ ws)
    → Lexes (spelling k ++ s) (Plain (Key k) ∷ ws)
as_key k b t s ws e h =
    let is : keyword_of (b ∷ t) ≡ Some k = ap keyword_of (sym e) ∙ keyword_found k in
    subst (λ u. Lexes (u ++ s) (Plain (Key k) ∷ ws)) (sym e)
    (subst (λ o. Lexes ((b ∷ t) ++ s) (kind_word (b ∷ t) (is_dotted ws) (word_kind o) ∷ ws)) is h)

key_of : (k : Keyword) (b : ℕ) (t : List ℕ) → spelling k ≡ b ∷ t → begins_word b ≡ true → list_all is_word_byte (b ∷ t) ≡ true → IsKey k
key_of k b t e first all s ws ends h = as_key k b t s ws e (lexes_plain b t s ws first all ends h)

pub lexes_key : (k : Keyword) → IsKey k
lexes_key key.Array = key_of key.Array 97 (codes "rray") refl refl refl
lexes_key key.Bool = key_of key.Bool 98 (codes "ool") refl refl refl
lexes_key key.Constraint = key_of key.Constraint 99 (codes "onstraint") refl refl refl
lexes_key key.False = key_of key.False 102 (codes "alse") refl refl refl
lexes_key key.Float = key_of key.Float 102 (codes "loat") refl refl refl
lexes_key key.Int = key_of key.Int 105 (codes "nt") refl refl refl
lexes_key key.Maximize = key_of key.Maximize 109 (codes "aximize") refl refl refl
lexes_key key.Minimize = key_of key.Minimize 109 (codes "inimize") refl refl refl
lexes_key key.Of = key_of key.Of 111 (codes "f") refl refl refl
lexes_key key.Predicate = key_of key.Predicate 112 (codes "redicate") refl refl refl
lexes_key key.Satisfy = key_of key.Satisfy 115 (codes "atisfy") refl refl refl
lexes_key key.Set = key_of key.Set 115 (codes "et") refl refl refl
lexes_key key.Solve = key_of key.Solve 115 (codes "olve") refl refl refl
lexes_key key.True = key_of key.True 116 (codes "rue") refl refl refl
lexes_key key.Var = key_of key.Var 118 (codes "ar") refl refl refl

-- ---- names

other_way : (a b : List ℕ) → bytes_eq a b ≡ true → bytes_eq b a ≡ true
other_way a b h = (bytes_eq-Decides b a).1 (sym ((bytes_eq-Decides a b).0 h))

not_here : (n : List ℕ) (k : Keyword) (x : Bool) → bytes_eq (spelling k) n ≡ x → bytes_eq n (spelling k) ≡ false → bytes_eq (spelling k) n ≡ false
not_here n k false e h = e
not_here n k true e h = let is : bytes_eq n (spelling k) ≡ true = other_way (spelling k) n e in cc

none_found : (n : List ℕ) (ks : List Keyword) → list_any (bytes_eq n) (map spelling ks) ≡ false → find (λ k. bytes_eq (spelling k) n) ks ≡ None
none_found n [] h = refl
none_found n (k ∷ ks) h =
    let p = or_parts (bytes_eq n (spelling k)) (list_any (bytes_eq n) (map spelling ks)) h in
    rw (not_here n k (bytes_eq (spelling k) n) refl p.0) (none_found n ks p.1)

no_keyword : (n : List ℕ) → list_any (bytes_eq n) keywords ≡ false → keyword_of n ≡ None
unfolding keyword_of
no_keyword n h = none_found n all_keywords h

first_is : (b : ℕ) → is_first b ≡ true → begins_word b ≡ true
first_is b h = grind (arith, nat_tests)

later_is : (b : ℕ) → is_later b ≡ true → is_word_byte b ≡ true
later_is b h = grind (arith, nat_tests)

later_are : (t : List ℕ) → list_all is_later t ≡ true → list_all is_word_byte t ≡ true
later_are [] h = refl
later_are (b ∷ t) h =
    let p = and_parts (is_later b) (list_all is_later t) h in
    rw (later_is b p.0, later_are t p.1) refl

letter_is : (b : ℕ) → is_first b ≡ true → is_word_byte b ≡ true
letter_is b h = grind (arith, nat_tests)

pub lexes_name : (n s : List ℕ) (ws : List Word) → is_name n ≡ true → EndsWord s → Lexes s ws → Lexes (n ++ s) (Plain (Named n) ∷ ws)
lexes_name [] s ws h ends behind = absurd cc
lexes_name (b ∷ t) s ws h ends behind =
    let p = and_parts (is_word (b ∷ t)) (not (list_any (bytes_eq (b ∷ t)) keywords)) h in
    let q = and_parts (is_first b) (list_all is_later t) p.0 in
    let none : keyword_of (b ∷ t) ≡ None = no_keyword (b ∷ t) (not-true _ p.1) in
    let all : list_all is_word_byte (b ∷ t) ≡ true = rw (letter_is b q.0, later_are t q.1) refl in
    subst (λ o. Lexes ((b ∷ t) ++ s) (kind_word (b ∷ t) (is_dotted ws) (word_kind o) ∷ ws)) none
    (lexes_plain b t s ws (first_is b q.0) all ends behind)
