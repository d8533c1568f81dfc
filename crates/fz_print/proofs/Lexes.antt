-- The words of a text, piece by piece from its end: what they are behind any front.
use Rattle.std.proofs.Common.{◌≡◌, ℕ, ◌+◌, ◌-◌, ◌<◌, ◌≤◌, Bool, false, List, [], ◌∷◌, ◌++◌, length, take, drop, None, Ok, refl, sym, ◌∙◌, ap, subst, arith, append_assoc}
use Rattle.std.proofs.lemmas.List.{length-append}
use Rattle.std.proofs.Math.Seq.{take-append_seam, drop-append_seam}
use Rattle.fz_token.specs.Gap.{gap_end}
use Rattle.fz_token.specs.Stream.{Stream, nothing, stream_from, with_token}
use Rattle.fz_token.specs.Token.{token_at}
use Rattle.fz_token.specs.declared.Mark.TheVariants as mark
use Rattle.fz_token.specs.declared.Token.{Token}
use Rattle.fz_token.specs.declared.TokenKind.{TokenKind}
use Rattle.fz_token.specs.declared.TokenKind.TheVariants as kind
use Rattle.fz_token.proofs.Streams.{stream_ends, stream_token}
use Rattle.fz_model.specs.Marks.{is_stop}
use Rattle.fz_model.specs.Words.{DoubleDot, Word, begins_dotted, is_double_dot, kind_word, words}

-- the stream of the bytes behind a front
abbrev pub stream_behind : List ℕ → List ℕ → Stream
stream_behind front s = stream_from (front ++ s) 0 (gap_end (length front) false s)

-- the bytes have these words, and none is refused, whatever stands in front
abbrev pub Lexes : List ℕ → List Word → Type 0
Lexes s ws = (front : List ℕ) → ((stream_behind front s).refusal ≡ None) × (words (front ++ s) (stream_behind front s).tokens ≡ ws)

-- ---- the end, and blanks

pub lexes_nothing : Lexes [] []
lexes_nothing front =
    let within : length (front ++ []) ≤ gap_end (length front) false [] = omega (arith, length-append front []) in
    let e : stream_behind front [] ≡ nothing = stream_ends (front ++ []) (gap_end (length front) false []) within in
    (ap (λ (s : Stream). s.refusal) e, ap (λ (s : Stream). words (front ++ []) s.tokens) e)

-- what the bytes behind one more are
same_front : (front t s : List ℕ) → front ++ (t ++ s) ≡ (front ++ t) ++ s
same_front front t s = sym (append_assoc front t s)

pub lexes_gap : (b : ℕ) (s : List ℕ) (ws : List Word) → ((at : ℕ) → gap_end at false (b ∷ s) ≡ gap_end (at + 1) false s) → Lexes s ws → Lexes (b ∷ s) ws
lexes_gap b s ws step h front =
    let more = front ++ b ∷ [] in
    let len : length front + 1 ≡ length more = sym (length-append front (b ∷ [])) in
    let start : gap_end (length front) false (b ∷ s) ≡ gap_end (length more) false s = step (length front) ∙ ap (λ n. gap_end n false s) len in
    subst (λ (text : List ℕ). ((stream_from text 0 (gap_end (length front) false (b ∷ s))).refusal ≡ None) × (words text (stream_from text 0 (gap_end (length front) false (b ∷ s))).tokens ≡ ws)) (sym (same_front front (b ∷ []) s))
    (subst (λ n. ((stream_from (more ++ s) 0 n).refusal ≡ None) × (words (more ++ s) (stream_from (more ++ s) 0 n).tokens ≡ ws)) (sym start) (h more))

-- ---- a token

-- `..` comes first
abbrev pub is_dotted : List Word → Bool
is_dotted [] = false
is_dotted (w ∷ ws) = is_stop DoubleDot w

mark_dotted : (bytes : List ℕ) (d : Bool) (k : TokenKind) → is_double_dot k ≡ is_stop DoubleDot (kind_word bytes d k)
mark_dotted bytes d kind.Name = refl
mark_dotted bytes d (kind.Keyword keyword) = refl
mark_dotted bytes d (kind.Integer value) = refl
mark_dotted bytes d kind.Float = refl
mark_dotted bytes d kind.Quoted = refl
mark_dotted bytes d (kind.Mark mark.OpenRound) = refl
mark_dotted bytes d (kind.Mark mark.CloseRound) = refl
mark_dotted bytes d (kind.Mark mark.OpenSquare) = refl
mark_dotted bytes d (kind.Mark mark.CloseSquare) = refl
mark_dotted bytes d (kind.Mark mark.OpenCurly) = refl
mark_dotted bytes d (kind.Mark mark.CloseCurly) = refl
mark_dotted bytes d (kind.Mark mark.Comma) = refl
mark_dotted bytes d (kind.Mark mark.Semicolon) = refl
mark_dotted bytes d (kind.Mark mark.Colon) = refl
mark_dotted bytes d (kind.Mark mark.DoubleColon) = refl
mark_dotted bytes d (kind.Mark mark.Equals) = refl
mark_dotted bytes d (kind.Mark mark.DoubleDot) = refl

dotted_is : (text : List ℕ) (tokens : List Token) → begins_dotted tokens ≡ is_dotted (words text tokens)
dotted_is text [] = refl
dotted_is text (token ∷ tokens) = mark_dotted (take (token.end - token.start) (drop token.start text)) (begins_dotted tokens) token.kind

-- the bytes t are a token of this kind
abbrev IsLed : List ℕ → TokenKind → List ℕ → Type 0
IsLed t k s = (at : ℕ) → token_at at (t ++ s) ≡ Ok (record { kind = k; start = at; end = at + length t })

token_of : TokenKind → ℕ → List ℕ → Token
token_of k at t = record { kind = k; start = at; end = at + length t }

token_stream : (t s front : List ℕ) (k : TokenKind) → 0 < length t → ((at : ℕ) → gap_end at false (t ++ s) ≡ at) → IsLed t k s
    → stream_behind front (t ++ s) ≡ with_token (record { kind = k; start = length front; end = length front + length t }) (stream_from ((front ++ t) ++ s) 0 (gap_end (length (front ++ t)) false s))
token_stream t s front k some begins led =
    let text = front ++ (t ++ s) in
    let p = length front in
    let token : Token = record { kind = k; start = p; end = p + length t } in
    let within : p < length text = omega (arith, length-append front (t ++ s), length-append t s) in
    let later : p < p + length t = omega arith in
    let found : token_at p (drop p text) ≡ Ok (record { kind = k; start = p; end = p + length t }) = ap (λ u. token_at p u) (drop-append_seam front (t ++ s)) ∙ led p in
    let size : p + length t ≡ length (front ++ t) = sym (length-append front t) in
    let behind : drop (p + length t) text ≡ s = ap (λ n. drop n text) size ∙ ap (λ u. drop (length (front ++ t)) u) (same_front front t s) ∙ drop-append_seam (front ++ t) s in
    ap (λ n. stream_from text 0 n) (begins p)
    ∙ stream_token text p (record { kind = k; start = p; end = p + length t }) within later found
    ∙ ap (λ u. with_token (record { kind = k; start = p; end = p + length t }) (stream_from text 0 (gap_end (p + length t) false u))) behind
    ∙ ap (λ n. with_token (record { kind = k; start = p; end = p + length t }) (stream_from text 0 (gap_end n false s))) size
    ∙ ap (λ u. with_token (record { kind = k; start = p; end = p + length t }) (stream_from u 0 (gap_end (length (front ++ t)) false s))) (same_front front t s)

token_bytes : (t s front : List ℕ) → take ((length front + length t) - length front) (drop (length front) (front ++ (t ++ s))) ≡ t
token_bytes t s front =
    let n : (length front + length t) - length front ≡ length t = omega arith in
    ap (λ u. take ((length front + length t) - length front) u) (drop-append_seam front (t ++ s)) ∙ ap (λ m. take m (t ++ s)) n ∙ take-append_seam t s

pub lexes_token : (t s : List ℕ) (ws : List Word) (k : TokenKind) → 0 < length t → ((at : ℕ) → gap_end at false (t ++ s) ≡ at) → IsLed t k s → Lexes s ws
    → Lexes (t ++ s) (kind_word t (is_dotted ws) k ∷ ws)
lexes_token t s ws k some begins led h front =
    let e = token_stream t s front k some begins led in
    let rest = stream_from ((front ++ t) ++ s) 0 (gap_end (length (front ++ t)) false s) in
    let g = h (front ++ t) in
    let text = front ++ (t ++ s) in
    let same : words text rest.tokens ≡ ws = ap (λ u. words u rest.tokens) (same_front front t s) ∙ g.1 in (
      ap (λ (s : Stream). s.refusal) e ∙ g.0,
      ap (λ (s : Stream). words text s.tokens) e
          ∙ ap (λ u. kind_word u (begins_dotted rest.tokens) k ∷ words text rest.tokens) (token_bytes t s front)
          ∙ ap (λ d. kind_word t d k ∷ words text rest.tokens) (dotted_is text rest.tokens)
          ∙ ap (λ us. kind_word t (is_dotted us) k ∷ us) same,
    )
