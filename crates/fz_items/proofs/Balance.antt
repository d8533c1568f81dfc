-- One word behind open brackets.
use Rattle.std.proofs.Common.{◌≡◌, ℕ, Bool, true, false, if◌then◌else◌, List, [], ◌∷◌, ◌++◌, map, refl, ap, subst, sym, ◌∙◌, ◌==◌, eq-eqb, Option, Some, None, MatchOption}
use Rattle.std.proofs.lemmas.List.{reverse-append}
use Rattle.dp_grammar.specs.Brackets.{read_inside, Inside, Token, Open, Close, Closes as closing}
use Rattle.dp_grammar.specs.Chain.{mapped}
use Rattle.dp_grammar.specs.Grammar.{Reading, Takes, Stops, Syntax}
use Rattle.fz_token.specs.declared.Mark.TheVariants as mark
use Rattle.fz_token.specs.declared.TokenKind.{TokenKind}
use Rattle.fz_token.specs.declared.TokenKind.TheVariants as kind
use Rattle.fz_model.specs.declared.fault.Fault.{Fault}
use Rattle.fz_model.specs.Words.{Bracket, Round, Square, Curly, Word, PlainWord, Named, Key, Number, Float, Quoted, Stop, Comma, Semicolon, Colon, DoubleColon, Equals, DoubleDot, kind_word, bracketing, bracket_code}
use Rattle.fz_items.specs.Notes.{bracket_of, brackets_of, class_of, closing_all, nothing_of, stepped, opened}
use Rattle.fz_items.specs.declared.brackets.Class.TheVariants.{Closes}
use Rattle.fz_items.specs.declared.brackets.Shape.{Shape}
use Rattle.fz_items.specs.declared.brackets.Shape.TheVariants as shape

pub forgotten : {X Y : Type 0} (make : X → Y) (r : Reading Word Fault X) → nothing_of (mapped make r) ≡ nothing_of r
forgotten make (Takes x rest) = refl
forgotten make (Stops cause rest) = refl

closes_or_not : (b : Bool) (j : Bracket) (opened : List Bracket) (r : Reading Word Fault (Inside PlainWord Bracket opened)) (left : List Word)
    → nothing_of {X = Inside PlainWord Bracket (j ∷ opened)} (if b then mapped (Close j) r else Stops Syntax left) ≡ (if b then nothing_of r else Stops Syntax left)
closes_or_not true j opened r left = forgotten (Close j) r
closes_or_not false j opened r left = refl

pub stepped_is : (bytes : List ℕ) (dotted : Bool) (token : TokenKind) (top : Shape) (opened : List Bracket) (rest : List Word)
    → closing_all (bracket_of top ∷ opened) (kind_word bytes dotted token ∷ rest) ≡ stepped (class_of token) top opened (kind_word bytes dotted token ∷ rest) rest
unfolding closing_all
stepped_is bytes dotted kind.Name top opened rest = forgotten (Token (Named bytes)) (read_inside bracketing (bracket_of top ∷ opened) rest)
stepped_is bytes dotted (kind.Keyword keyword) top opened rest = forgotten (Token (Key keyword)) (read_inside bracketing (bracket_of top ∷ opened) rest)
stepped_is bytes dotted (kind.Integer value) top opened rest = forgotten (Token (Number value dotted)) (read_inside bracketing (bracket_of top ∷ opened) rest)
stepped_is bytes dotted kind.Float top opened rest = forgotten (Token (Float)) (read_inside bracketing (bracket_of top ∷ opened) rest)
stepped_is bytes dotted kind.Quoted top opened rest = forgotten (Token (Quoted)) (read_inside bracketing (bracket_of top ∷ opened) rest)
stepped_is bytes dotted (kind.Mark mark.Comma) top opened rest = forgotten (Token (Stop Comma)) (read_inside bracketing (bracket_of top ∷ opened) rest)
stepped_is bytes dotted (kind.Mark mark.Semicolon) top opened rest = forgotten (Token (Stop Semicolon)) (read_inside bracketing (bracket_of top ∷ opened) rest)
stepped_is bytes dotted (kind.Mark mark.Colon) top opened rest = forgotten (Token (Stop Colon)) (read_inside bracketing (bracket_of top ∷ opened) rest)
stepped_is bytes dotted (kind.Mark mark.DoubleColon) top opened rest = forgotten (Token (Stop DoubleColon)) (read_inside bracketing (bracket_of top ∷ opened) rest)
stepped_is bytes dotted (kind.Mark mark.Equals) top opened rest = forgotten (Token (Stop Equals)) (read_inside bracketing (bracket_of top ∷ opened) rest)
stepped_is bytes dotted (kind.Mark mark.DoubleDot) top opened rest = forgotten (Token (Stop DoubleDot)) (read_inside bracketing (bracket_of top ∷ opened) rest)
stepped_is bytes dotted (kind.Mark mark.OpenRound) top opened rest = forgotten (Open Round) (read_inside bracketing (Round ∷ bracket_of top ∷ opened) rest)
stepped_is bytes dotted (kind.Mark mark.CloseRound) top opened rest =
    closes_or_not (bracket_code (bracket_of top) == bracket_code Round) (bracket_of top) opened (read_inside bracketing opened rest) (closing Round ∷ rest)
stepped_is bytes dotted (kind.Mark mark.OpenSquare) top opened rest = forgotten (Open Square) (read_inside bracketing (Square ∷ bracket_of top ∷ opened) rest)
stepped_is bytes dotted (kind.Mark mark.CloseSquare) top opened rest =
    closes_or_not (bracket_code (bracket_of top) == bracket_code Square) (bracket_of top) opened (read_inside bracketing opened rest) (closing Square ∷ rest)
stepped_is bytes dotted (kind.Mark mark.OpenCurly) top opened rest = forgotten (Open Curly) (read_inside bracketing (Curly ∷ bracket_of top ∷ opened) rest)
stepped_is bytes dotted (kind.Mark mark.CloseCurly) top opened rest =
    closes_or_not (bracket_code (bracket_of top) == bracket_code Curly) (bracket_of top) opened (read_inside bracketing opened rest) (closing Curly ∷ rest)

pub stepped_at : (bytes : List ℕ) (dotted : Bool) (token : TokenKind) (top : Shape) (opened : List Bracket) (left rest : List Word) → left ≡ kind_word bytes dotted token ∷ rest
    → closing_all (bracket_of top ∷ opened) left ≡ stepped (class_of token) top opened left rest
stepped_at bytes dotted token top opened left rest e =
    subst (λ (ws : List Word). closing_all (bracket_of top ∷ opened) ws ≡ stepped (class_of token) top opened ws rest) (sym e) (stepped_is bytes dotted token top opened rest)

-- ---- shapes

same_shape : (s : Shape) → (bracket_code (bracket_of s) == bracket_code (bracket_of s)) ≡ true
same_shape s = eq-eqb (bracket_code (bracket_of s)) (bracket_code (bracket_of s)) refl

other_shape : (top s : Shape) → (s ≡ top → ⊥) → (bracket_code (bracket_of top) == bracket_code (bracket_of s)) ≡ false
other_shape shape.Round shape.Round h = absurd (h refl)
other_shape shape.Round shape.Square h = refl
other_shape shape.Round shape.Curly h = refl
other_shape shape.Square shape.Round h = refl
other_shape shape.Square shape.Square h = absurd (h refl)
other_shape shape.Square shape.Curly h = refl
other_shape shape.Curly shape.Round h = refl
other_shape shape.Curly shape.Square h = refl
other_shape shape.Curly shape.Curly h = absurd (h refl)

pub brackets_pushed : (shapes : List Shape) (s : Shape) → brackets_of (shapes ++ s ∷ []) ≡ bracket_of s ∷ brackets_of shapes
brackets_pushed shapes s = ap (map bracket_of) (reverse-append shapes (s ∷ []))

-- a bracket closes the innermost
pub closed : (top s : Shape) (opened : List Bracket) (left rest : List Word) → s ≡ top → stepped (Closes s) top opened left rest ≡ closing_all opened rest
closed top s opened left rest e = ap (λ (b : Bool). if b then closing_all opened rest else Stops Syntax left) (ap (λ (t : Shape). bracket_code (bracket_of top) == bracket_code (bracket_of t)) e ∙ same_shape top)

pub not_closed : (top s : Shape) (opened : List Bracket) (left rest : List Word) → (s ≡ top → ⊥) → stepped (Closes s) top opened left rest ≡ Stops Syntax left
not_closed top s opened left rest h = ap (λ (b : Bool). if b then closing_all opened rest else Stops Syntax left) (other_shape top s h)

-- the innermost of those below comes next
pub closed_to : (old new : List Shape) (next : Option Shape) (rest : List Word) → MatchOption next (old ≡ []) (λ s. old ≡ new ++ s ∷ []) → closing_all (brackets_of old) rest ≡ closing_all (opened next new) rest
closed_to old new None rest h = ap (λ (shapes : List Shape). closing_all (brackets_of shapes) rest) h
closed_to old new (Some s) rest h = ap (λ (bs : List Bracket). closing_all bs rest) (ap brackets_of h ∙ brackets_pushed new s)

-- ---- at the ends

pub all_closed : (left : List Word) → closing_all [] left ≡ Takes tt left
unfolding closing_all
all_closed left = refl

pub never_closed : (j : Bracket) (opened : List Bracket) (left : List Word) → left ≡ [] → closing_all (j ∷ opened) left ≡ Stops Syntax left
unfolding closing_all
never_closed j opened left e = subst (λ (ws : List Word). closing_all (j ∷ opened) ws ≡ Stops Syntax ws) (sym e) refl
