-- Where a text is refused, and what stands before that place.
use Rattle.std.proofs.Common.{◌≡◌, ℕ, ◌-◌, Bool, true, false, if◌then◌else◌, ◌||◌, ◌&&◌, List, [], ◌∷◌, ◌++◌, length, take, drop, Option, Some, None, Result, Ok, Err, refl, sym, ap, subst, ◌∙◌, arith, append_assoc, length-append}
use Rattle.std.specs.Prelude.{option_map, slice_get, suc}
use Rattle.std.specs.Option.{option_map_or}
use Rattle.std.proofs.Math.Seq.{drop-append_seam, take-append_seam}
use Rattle.fz_token.specs.Stream.{Stream, before, stream}
use Rattle.fz_token.specs.declared.Keyword.{Keyword}
use Rattle.fz_token.specs.declared.Keyword.TheVariants as key
use Rattle.fz_token.specs.declared.Token.{Token}
use Rattle.fz_token.specs.declared.TokenKind.{TokenKind}
use Rattle.fz_token.specs.declared.TokenKind.TheVariants as kind
use Rattle.fz_token.specs.declared.TokenRefusal.{TokenRefusal}
use Rattle.dp_grammar.specs.Grammar.{Cause, Syntax, Test}
use Rattle.fz_model.specs.declared.fault.Fault.{Fault}
use Rattle.fz_model.specs.declared.fault.Fault.TheVariants.{Unsupported}
use Rattle.dp_grammar.specs.Brackets.{Plain, Opens, Closes}
use Rattle.fz_model.specs.Marks.{is_key}
use Rattle.fz_model.specs.ModelText.{named_cause, is_float, is_square_close, is_unsupported, is_word, word_before}
use Rattle.fz_model.specs.Words.{Word, begins_dotted, kind_word, words}
use Rattle.fz_items.specs.Answers.{place_of_first, refusal_of, token_refusal, word_refusal}
use Rattle.fz_items.specs.Refusals.{bare, here, unsupported_at, unsupported_kind}
use Rattle.fz_items.specs.Standing.{IsBehind, IsEnding, IsLeft}

-- ---- the place

length_words : (text : List ℕ) (tokens : List Token) → length (words text tokens) ≡ length tokens
length_words text [] = refl
length_words text (token ∷ tokens) = ap (λ (n : ℕ). suc n) (length_words text tokens)

-- the tokens that are left are the last
last_tokens : (text : List ℕ) (left : Stream) → IsLeft text left → drop (length (stream text).tokens - length (words text left.tokens)) (stream text).tokens ≡ left.tokens
last_tokens text left h =
    let size : length (stream text).tokens - length (words text left.tokens) ≡ length h.front =
    omega (arith, ap length h.parts, length-append h.front left.tokens, length_words text left.tokens) in
    ap (λ (n : ℕ). drop n (stream text).tokens) size ∙ ap (λ (ts : List Token). drop (length h.front) ts) h.parts ∙ drop-append_seam h.front left.tokens

pub place_at : (text : List ℕ) (left : Stream) (token : Token) (rest : List Token) → IsLeft text left → left.tokens ≡ token ∷ rest
    → here (length text) (stream text) (words text left.tokens) ≡ Ok token.start
place_at text left token rest h e =
    let last : drop (length (stream text).tokens - length (words text (token ∷ rest))) (stream text).tokens ≡ token ∷ rest =
    subst (λ (ts : List Token). drop (length (stream text).tokens - length (words text ts)) (stream text).tokens ≡ ts) e (last_tokens text left h) in
    ap (λ (ts : List Token). here (length text) (stream text) (words text ts)) e
    ∙ ap (λ (ts : List Token). let r : Result ℕ TokenRefusal = Ok (place_of_first (length text) ts) in r) last

pub first_token : (present : Result (Option Token) TokenRefusal) (next : Option Token) (token : Token) (rest : Stream) → present ≡ Ok next → next ≡ Some token → (before present rest).tokens ≡ token ∷ rest.tokens
first_token present next token rest p n =
    ap (λ (r : Result (Option Token) TokenRefusal). (before r rest).tokens) p ∙ ap (λ (o : Option Token). (before (Ok o) rest).tokens) n

-- ---- the refusal there

abbrev found_at : ℕ → Result ℕ TokenRefusal
found_at at = Ok at

end_at : (o : Option TokenRefusal) (cause : Cause Fault) (size at : ℕ) → option_map_or (λ refusal. let r : Result ℕ TokenRefusal = Err refusal in r) o (found_at size) ≡ Ok at → option_map_or token_refusal o (word_refusal cause size) ≡ word_refusal cause at
end_at None cause size at e = let same : size ≡ at = cc in ap (word_refusal cause) same
end_at (Some refusal) cause size at e = absurd cc

end_refused : (o : Option TokenRefusal) (cause : Cause Fault) (size : ℕ) (refusal : TokenRefusal) → option_map_or (λ refusal. let r : Result ℕ TokenRefusal = Err refusal in r) o (found_at size) ≡ Err refusal → option_map_or token_refusal o (word_refusal cause size) ≡ token_refusal refusal
end_refused None cause size refusal e = absurd cc
end_refused (Some other) cause size refusal e = let same : other ≡ refusal = cc in ap token_refusal same

pub refusal_at : (size : ℕ) (s : Stream) (cause : Cause Fault) (left : List Word) (at : ℕ) → here size s left ≡ Ok at → refusal_of size s cause left ≡ word_refusal cause at
refusal_at size s cause [] at e = end_at s.refusal cause size at e
refusal_at size s cause (word ∷ rest) at e =
    let same : place_of_first size (drop (length s.tokens - length (word ∷ rest)) s.tokens) ≡ at = cc in ap (word_refusal cause) same

pub refusal_refused : (size : ℕ) (s : Stream) (cause : Cause Fault) (left : List Word) (refusal : TokenRefusal) → here size s left ≡ Err refusal → refusal_of size s cause left ≡ token_refusal refusal
refusal_refused size s cause [] refusal e = end_refused s.refusal cause size refusal e
refusal_refused size s cause (word ∷ rest) refusal e = absurd cc

-- a word that no production allows
pub named_is : (all left : List Word) (b : Bool) → unsupported_at all left ≡ b → named_cause all Syntax left ≡ (if b then Test Unsupported else Syntax)
named_is all [] true e = absurd cc
named_is all [] false e = refl
named_is all (word ∷ rest) b e = ap (λ (b : Bool). let c : Cause Fault = if b then Test Unsupported else Syntax in c) e

-- ---- the words before

words_front : List ℕ → List Token → List Token → List Word
words_front text [] behind = []
words_front text (token ∷ front) behind =
    kind_word (take (token.end - token.start) (drop token.start text)) (begins_dotted (front ++ behind)) token.kind ∷ words_front text front behind

words_split : (text : List ℕ) (front behind : List Token) → words text (front ++ behind) ≡ words_front text front behind ++ words text behind
unfolding words_front
words_split text [] behind = refl
words_split text (token ∷ front) behind =
    ap (λ (ws : List Word). kind_word (take (token.end - token.start) (drop token.start text)) (begins_dotted (front ++ behind)) token.kind ∷ ws) (words_split text front behind)

front_split : (text : List ℕ) (more : List Token) (other token : Token) (behind : List Token)
    → words_front text (more ++ other ∷ token ∷ []) behind
    ≡ words_front text more (other ∷ token ∷ behind)
    ++ kind_word (take (other.end - other.start) (drop other.start text)) (begins_dotted (token ∷ behind)) other.kind
    ∷ kind_word (take (token.end - token.start) (drop token.start text)) (begins_dotted behind) token.kind ∷ []
unfolding words_front
front_split text [] other token behind = refl
front_split text (t ∷ more) other token behind =
    ap (λ (ts : List Token). kind_word (take (t.end - t.start) (drop t.start text)) (begins_dotted ts) t.kind ∷ words_front text (more ++ other ∷ token ∷ []) behind) (append_assoc more (other ∷ token ∷ []) behind)
    ∙ ap (λ (ws : List Word). kind_word (take (t.end - t.start) (drop t.start text)) (begins_dotted (more ++ other ∷ token ∷ behind)) t.kind ∷ ws) (front_split text more other token behind)

before_left : (all front left : List Word) → all ≡ front ++ left → take (length all - length left) all ≡ front
before_left all front left e =
    let size : length all - length left ≡ length front = omega (arith, ap length e, length-append front left) in
    ap (λ (n : ℕ). take n all) size ∙ ap (λ (ws : List Word). take (length front) ws) e ∙ take-append_seam front left

last_word : (front : List Word) (v w : Word) → word_before 1 (front ++ v ∷ w ∷ []) ≡ Some w
last_word front v w =
    let apart : front ++ v ∷ w ∷ [] ≡ (front ++ v ∷ []) ++ w ∷ [] = sym (append_assoc front (v ∷ []) (w ∷ [])) in
    let size : length ((front ++ v ∷ []) ++ w ∷ []) - 1 ≡ length (front ++ v ∷ []) = omega (arith, length-append (front ++ v ∷ []) (w ∷ [])) in
    ap (word_before 1) apart
    ∙ ap (λ (n : ℕ). slice_get (drop n ((front ++ v ∷ []) ++ w ∷ [])) 0) size
    ∙ ap (λ (ws : List Word). slice_get ws 0) (drop-append_seam (front ++ v ∷ []) (w ∷ []))

earlier_word : (front : List Word) (v w : Word) → word_before 2 (front ++ v ∷ w ∷ []) ≡ Some v
earlier_word front v w =
    let size : length (front ++ v ∷ w ∷ []) - 2 ≡ length front = omega (arith, length-append front (v ∷ w ∷ [])) in
    ap (λ (n : ℕ). slice_get (drop n (front ++ v ∷ w ∷ [])) 0) size ∙ ap (λ (ws : List Word). slice_get ws 0) (drop-append_seam front (v ∷ w ∷ []))

-- ---- by kinds

float_bare : (bytes : List ℕ) (dotted : Bool) (k : TokenKind) → is_float (kind_word bytes dotted k) ≡ is_float (bare k)
float_bare bytes dotted kind.Name = refl
float_bare bytes dotted (kind.Keyword k) = refl
float_bare bytes dotted (kind.Integer value) = refl
float_bare bytes dotted kind.Float = refl
float_bare bytes dotted kind.Quoted = refl
float_bare bytes dotted (kind.Mark m) = refl

key_bare : (bytes : List ℕ) (dotted : Bool) (keyword : Keyword) (k : TokenKind) → is_key keyword (kind_word bytes dotted k) ≡ is_key keyword (bare k)
key_bare bytes dotted keyword kind.Name = refl
key_bare bytes dotted keyword (kind.Keyword k) = refl
key_bare bytes dotted keyword (kind.Integer value) = refl
key_bare bytes dotted keyword kind.Float = refl
key_bare bytes dotted keyword kind.Quoted = refl
key_bare bytes dotted keyword (kind.Mark m) = refl

close_bare : (bytes : List ℕ) (dotted : Bool) (k : TokenKind) → is_square_close (kind_word bytes dotted k) ≡ is_square_close (bare k)
close_bare bytes dotted kind.Name = refl
close_bare bytes dotted (kind.Keyword k) = refl
close_bare bytes dotted (kind.Integer value) = refl
close_bare bytes dotted kind.Float = refl
close_bare bytes dotted kind.Quoted = refl
close_bare bytes dotted (kind.Mark m) = refl

-- no word is `of` and `]`
of_no_close : (w : Word) → (is_key key.Of w && is_square_close w) ≡ (is_key key.Of w && false)
of_no_close (Plain p) = refl
of_no_close (Opens b) = refl
of_no_close (Closes b) = refl

by_kind : (front : List Word) (bytes : List ℕ) (dotted : Bool) (k : TokenKind) (last earlier : Option TokenKind)
    → is_word (is_key key.Var) (word_before 1 front) ≡ is_word (is_key key.Var) (option_map bare last)
    → (is_word (is_key key.Of) (word_before 1 front) && is_word is_square_close (word_before 2 front)) ≡ (is_word (is_key key.Of) (option_map bare last) && is_word is_square_close (option_map bare earlier))
    → is_unsupported front (kind_word bytes dotted k) ≡ unsupported_kind k last earlier
by_kind front bytes dotted k last earlier v o =
    let w = kind_word bytes dotted k in
    ap (λ (b : Bool). b || (is_key key.Set w && (is_word (is_key key.Var) (word_before 1 front) || (is_word (is_key key.Of) (word_before 1 front) && is_word is_square_close (word_before 2 front))))) (float_bare bytes dotted k)
    ∙ ap (λ (b : Bool). is_float (bare k) || (b && (is_word (is_key key.Var) (word_before 1 front) || (is_word (is_key key.Of) (word_before 1 front) && is_word is_square_close (word_before 2 front))))) (key_bare bytes dotted key.Set k)
    ∙ ap (λ (b : Bool). is_float (bare k) || (is_key key.Set (bare k) && (b || (is_word (is_key key.Of) (word_before 1 front) && is_word is_square_close (word_before 2 front))))) v
    ∙ ap (λ (b : Bool). is_float (bare k) || (is_key key.Set (bare k) && (is_word (is_key key.Var) (option_map bare last) || b))) o

abbrev seen_word : List ℕ → Token → Bool → Word
seen_word text token dotted = kind_word (take (token.end - token.start) (drop token.start text)) dotted token.kind

-- the words before, by how their tokens end
by_ending : (text : List ℕ) (front behind : List Token) (last earlier : Option TokenKind) (bytes : List ℕ) (dotted : Bool) (k : TokenKind)
    → IsEnding front last earlier → is_unsupported (words_front text front behind) (kind_word bytes dotted k) ≡ unsupported_kind k last earlier
unfolding words_front
by_ending text front behind None None bytes dotted k h =
    ap (λ (ts : List Token). is_unsupported (words_front text ts behind) (kind_word bytes dotted k)) h ∙ by_kind [] bytes dotted k None None refl refl
by_ending text front behind (Some last) None bytes dotted k (token, e, is) =
    let w = seen_word text token (begins_dotted behind) in
    let b = take (token.end - token.start) (drop token.start text) in
    let key_is : (keyword : Keyword) → is_key keyword w ≡ is_key keyword (bare last) =
    λ keyword. key_bare b (begins_dotted behind) keyword token.kind ∙ ap (λ (j : TokenKind). is_key keyword (bare j)) is in
    ap (λ (ts : List Token). is_unsupported (words_front text ts behind) (kind_word bytes dotted k)) e
    ∙ by_kind (w ∷ []) bytes dotted k (Some last) None (key_is key.Var) (of_no_close w ∙ ap (λ (x : Bool). x && false) (key_is key.Of))
by_ending text front behind (Some last) (Some earlier) bytes dotted k (more, other, token, e, is_other, is) =
    let w = seen_word text token (begins_dotted behind) in
    let v = seen_word text other (begins_dotted (token ∷ behind)) in
    let front_is : words_front text (more ++ other ∷ token ∷ []) behind ≡ words_front text more (other ∷ token ∷ behind) ++ v ∷ w ∷ [] = front_split text more other token behind in
    let before = words_front text more (other ∷ token ∷ behind) in
    let key_is : (keyword : Keyword) → is_word (is_key keyword) (word_before 1 (before ++ v ∷ w ∷ [])) ≡ is_key keyword (bare last) =
    λ keyword. ap (is_word (is_key keyword)) (last_word before v w)
    ∙ key_bare (take (token.end - token.start) (drop token.start text)) (begins_dotted behind) keyword token.kind ∙ ap (λ (j : TokenKind). is_key keyword (bare j)) is in
    let close_is : is_word is_square_close (word_before 2 (before ++ v ∷ w ∷ [])) ≡ is_square_close (bare earlier) =
    ap (is_word is_square_close) (earlier_word before v w)
    ∙ close_bare (take (other.end - other.start) (drop other.start text)) (begins_dotted (token ∷ behind)) other.kind ∙ ap (λ (j : TokenKind). is_square_close (bare j)) is_other in
    ap (λ (ts : List Token). is_unsupported (words_front text ts behind) (kind_word bytes dotted k)) e
    ∙ ap (λ (ws : List Word). is_unsupported ws (kind_word bytes dotted k)) front_is
    ∙ by_kind (before ++ v ∷ w ∷ []) bytes dotted k (Some last) (Some earlier) (key_is key.Var)
    (ap (λ (x : Bool). x && is_word is_square_close (word_before 2 (before ++ v ∷ w ∷ []))) (key_is key.Of) ∙ ap (λ (x : Bool). is_key key.Of (bare last) && x) close_is)
by_ending text front behind None (Some earlier) bytes dotted k h = absurd h

pub unsupported_is : (text : List ℕ) (left : Stream) (last earlier : Option TokenKind) (bytes : List ℕ) (dotted : Bool) (k : TokenKind) (rest : List Word)
    → IsBehind text left last earlier → words text left.tokens ≡ kind_word bytes dotted k ∷ rest
    → unsupported_at (words text (stream text).tokens) (words text left.tokens) ≡ unsupported_kind k last earlier
unsupported_is text left last earlier bytes dotted k rest h e =
    let all = words text (stream text).tokens in
    let split : all ≡ words_front text h.front left.tokens ++ words text left.tokens = ap (words text) h.parts ∙ words_split text h.front left.tokens in
    let front : take (length all - length (words text left.tokens)) all ≡ words_front text h.front left.tokens = before_left all (words_front text h.front left.tokens) (words text left.tokens) split in
    let at_word : take (length all - length (kind_word bytes dotted k ∷ rest)) all ≡ words_front text h.front left.tokens =
    subst (λ (ws : List Word). take (length all - length ws) all ≡ words_front text h.front left.tokens) e front in
    ap (unsupported_at all) e
    ∙ ap (λ (ws : List Word). is_unsupported ws (kind_word bytes dotted k)) at_word
    ∙ by_ending text h.front left.tokens last earlier bytes dotted k h.ending
