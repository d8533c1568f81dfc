-- What is left of the tokens of a text, as they are taken.
use Rattle.std.proofs.Common.{◌≡◌, ℕ, ◌<◌, List, [], ◌∷◌, ◌++◌, length, Option, Some, None, Result, Ok, refl, sym, ◌∙◌, ap, append_assoc, subst, arith}
use Rattle.fz_token.specs.Stream.{Stream, stream, before, with_token, IsInOrder}
use Rattle.fz_token.specs.declared.Token.{Token}
use Rattle.fz_token.specs.declared.TokenKind.{TokenKind}
use Rattle.fz_token.specs.declared.TokenRefusal.{TokenRefusal}
use Rattle.fz_items.specs.Standing.{Lie, IsBehind, IsEnding, IsLeft}

pub in_order_lies : (from size : ℕ) (tokens : List Token) → IsInOrder from size tokens → Lie size tokens
in_order_lies from size [] h = tt
in_order_lies from size (token ∷ tokens) h =
    let order : token.start < token.end = h.1 in
    (omega arith, h.2, in_order_lies token.end size tokens h.3)

-- all tokens are left at first
pub all_left : (text : List ℕ) (left : Stream) → stream text ≡ left → IsInOrder 0 (length text) (stream text).tokens → IsLeft text left
all_left text left e h = record {
  front = [];
  parts = ap (λ (s : Stream). s.tokens) e;
  refusal = ap (λ (s : Stream). s.refusal) e;
  lie = subst (λ (s : Stream). Lie (length text) s.tokens) e (in_order_lies 0 (length text) (stream text).tokens h);
}

-- behind the first token
pub passed : (text : List ℕ) (token : Token) (rest : Stream) → IsLeft text (with_token token rest) → IsLeft text rest
passed text token rest h = record {
  front = h.front ++ token ∷ [];
  parts = h.parts ∙ sym (append_assoc h.front (token ∷ []) rest.tokens);
  refusal = h.refusal;
  lie = h.lie.2;
}

pub passed_as : (text : List ℕ) (present : Result (Option Token) TokenRefusal) (next : Option Token) (token : Token) (rest after : Stream) → present ≡ Ok next → next ≡ Some token → rest ≡ after → IsLeft text (before present rest) → IsLeft text after
passed_as text present next token rest after p n e h =
    let at_token : IsLeft text (with_token token rest) = subst (λ (r : Result (Option Token) TokenRefusal). IsLeft text (before r rest)) (p ∙ ap (λ (o : Option Token). let r : Result (Option Token) TokenRefusal = Ok o in r) n) h in
    subst (IsLeft text) e (passed text token rest at_token)

-- ---- what stands before

-- nothing stands before the first token
pub none_behind : (text : List ℕ) (left : Stream) → stream text ≡ left → IsBehind text left None None
none_behind text left e = record { front = []; parts = ap (λ (s : Stream). s.tokens) e; ending = refl }

ends_with : (front : List Token) (token : Token) (last earlier : Option TokenKind) → IsEnding front last earlier → IsEnding (front ++ token ∷ []) (Some token.kind) last
ends_with front token None None h = (token, ap (λ (ts : List Token). ts ++ token ∷ []) h, refl)
ends_with front token (Some last) None h = ([], h.0, token, ap (λ (ts : List Token). ts ++ token ∷ []) h.1, h.2, refl)
ends_with front token (Some last) (Some earlier) h =
    (h.0 ++ h.1 ∷ [], h.2, token, ap (λ (ts : List Token). ts ++ token ∷ []) h.3 ∙ append_assoc h.0 (h.1 ∷ h.2 ∷ []) (token ∷ []) ∙ sym (append_assoc h.0 (h.1 ∷ []) (h.2 ∷ token ∷ [])), h.5, refl)
ends_with front token None (Some earlier) h = absurd h

pub behind_as : (text : List ℕ) (present : Result (Option Token) TokenRefusal) (next : Option Token) (token : Token) (rest after : Stream) (last earlier : Option TokenKind)
    → present ≡ Ok next → next ≡ Some token → rest ≡ after → IsBehind text (before present rest) last earlier → IsBehind text after (Some token.kind) last
behind_as text present next token rest after last earlier p n e h =
    let at_token : IsBehind text (with_token token rest) last earlier =
    subst (λ (r : Result (Option Token) TokenRefusal). IsBehind text (before r rest) last earlier) (p ∙ ap (λ (o : Option Token). let r : Result (Option Token) TokenRefusal = Ok o in r) n) h in
    record {
      front = at_token.front ++ token ∷ [];
      parts = at_token.parts ∙ sym (append_assoc at_token.front (token ∷ []) rest.tokens) ∙ ap (λ (s : Stream). (at_token.front ++ token ∷ []) ++ s.tokens) e;
      ending = ends_with at_token.front token last earlier at_token.ending;
    }
