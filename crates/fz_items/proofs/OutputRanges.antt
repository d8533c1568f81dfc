-- The ranges of `output_array`: what is read of them, and what stands in the brackets around them.
use Rattle.std.proofs.Common.{◌≡◌, ◌==◌, Bool, true, false, if◌then◌else◌, List, [], ◌∷◌, ◌++◌, Option, Some, None, Result, Ok, Err, refl, ap, subst, sym, ◌∙◌}
use Rattle.std.proofs.lemmas.List.{append-nil, append_cancel_right}
use Rattle.dp_grammar.specs.Brackets.{Plain, Opens, Closes, Token, Open, Close, read_inside, spell_inside}
use Rattle.dp_grammar.specs.Choice.{begins}
use Rattle.dp_grammar.specs.Chain.{followed, mapped, chain, behind_mark}
use Rattle.dp_grammar.specs.Grammar.{Cause, Syntax, Reading, Takes, Stops, Tells, IsLawful, verdict}
use Rattle.dp_grammar.specs.Leaf.{mark, valued, only}
use Rattle.dp_grammar.specs.Listed.{listed}
use Rattle.dp_grammar.specs.Whole.{finished}
use Rattle.dp_grammar.proofs.Chains.{behind_mark_lawful, before_mark_lawful}
use Rattle.dp_grammar.proofs.Lists.{listed_lawful}
use Rattle.dp_grammar.proofs.Wholes.{alone}
use Rattle.fz_model.specs.Annotations.{Balanced, balanced}
use Rattle.fz_model.specs.Arrays.{output_ranges}
use Rattle.fz_model.specs.declared.fault.Fault.{Fault}
use Rattle.fz_model.specs.Items.{IntText}
use Rattle.fz_model.specs.Limits.{no_test}
use Rattle.fz_model.specs.Literals.{integer, range}
use Rattle.fz_model.specs.Marks.{Production, is_stop, is_open, is_close, point_code, stop, opens, closes}
use Rattle.fz_model.specs.Words.{Bracket, Round, Square, Curly, Word, PlainWord, Named, Key, Number, Float, Quoted, Stop, Point, Comma, DoubleDot, bracketing}
use Rattle.fz_model.proofs.AnnotationLaws.{balanced_lawful}
use Rattle.fz_model.proofs.MarkLaws.{opens_lawful, closes_lawful}
use Rattle.fz_items.specs.Gives.{given}
use Rattle.fz_items.specs.Literals.{range_of}
use Rattle.fz_items.specs.Standing.{behind}
use Rattle.fz_items.specs.declared.stop.Cause as code
use Rattle.fz_items.specs.declared.text.Number.{Number as NumberText}
use Rattle.fz_items.specs.Notes.{closing_all, nothing_of, range_listing, ranges_in, seen_args}
use Rattle.fz_items.proofs.Balance.{forgotten}
use Rattle.fz_items.proofs.Listings.{range_listing_is}

-- the words that are left
abbrev pub rest_of : {X : Type 0} → Reading Word Fault X → List Word
rest_of (Takes x rest) = rest
rest_of (Stops cause rest) = rest

-- ---- plain words stand between any brackets

pub plain_passed : (j : Bracket) (opened : List Bracket) (p : PlainWord) (rest : List Word) → closing_all (j ∷ opened) (Plain p ∷ rest) ≡ closing_all (j ∷ opened) rest
unfolding closing_all
plain_passed j opened p rest = forgotten (Token p) (read_inside bracketing (j ∷ opened) rest)

-- what is read passes over plain words alone
abbrev pub Passes : {X : Type 0} → Production X → Type 0
Passes g = (j : Bracket) (opened : List Bracket) (text : List Word) → closing_all (j ∷ opened) text ≡ closing_all (j ∷ opened) (rest_of (g.read text))

integer_passes : Passes (integer no_test)
integer_passes j opened [] = refl
integer_passes j opened (Plain (Number value dotted) ∷ rest) = plain_passed j opened (Number value dotted) rest
integer_passes j opened (Plain (Named bytes) ∷ rest) = refl
integer_passes j opened (Plain (Key k) ∷ rest) = refl
integer_passes j opened (Plain Float ∷ rest) = refl
integer_passes j opened (Plain Quoted ∷ rest) = refl
integer_passes j opened (Plain (Stop p) ∷ rest) = refl
integer_passes j opened (Opens k ∷ rest) = refl
integer_passes j opened (Closes k ∷ rest) = refl

stop_or_not : (b : Bool) (p q : Point) (j : Bracket) (opened : List Bracket) (rest : List Word)
    → closing_all (j ∷ opened) (Plain (Stop q) ∷ rest) ≡ closing_all (j ∷ opened) (rest_of (valued (only (is_stop p) (Plain (Stop p)) None) (if b then Some tt else None) (Plain (Stop q)) rest))
stop_or_not true p q j opened rest = plain_passed j opened (Stop q) rest
stop_or_not false p q j opened rest = refl

stop_passes : (p : Point) → Passes (stop p)
stop_passes p j opened [] = refl
stop_passes p j opened (Plain (Stop q) ∷ rest) = stop_or_not (point_code q == point_code p) p q j opened rest
stop_passes p j opened (Plain (Number value dotted) ∷ rest) = refl
stop_passes p j opened (Plain (Named bytes) ∷ rest) = refl
stop_passes p j opened (Plain (Key k) ∷ rest) = refl
stop_passes p j opened (Plain Float ∷ rest) = refl
stop_passes p j opened (Plain Quoted ∷ rest) = refl
stop_passes p j opened (Opens k ∷ rest) = refl
stop_passes p j opened (Closes k ∷ rest) = refl

mapped_rest : {X Y : Type 0} (make : X → Y) (r : Reading Word Fault X) → rest_of r ≡ rest_of (mapped make r)
mapped_rest make (Takes x rest) = refl
mapped_rest make (Stops cause rest) = refl

chained : {X Y : Type 0} (next : X → Production Y) → ((x : X) → Passes (next x)) → (j : Bracket) (opened : List Bracket) (r : Reading Word Fault X)
    → closing_all (j ∷ opened) (rest_of r) ≡ closing_all (j ∷ opened) (rest_of (followed r (λ x rest. mapped (λ y. let p : X × Y = (x, y) in p) ((next x).read rest))))
chained {X} {Y} next passes j opened (Takes x rest) =
    passes x j opened rest ∙ ap (closing_all (j ∷ opened)) (mapped_rest (λ y. let p : X × Y = (x, y) in p) ((next x).read rest))
chained next passes j opened (Stops cause rest) = refl

chain_passes : {X Y : Type 0} (g : Production X) (next : X → Production Y) → Passes g → ((x : X) → Passes (next x)) → Passes (chain g next)
chain_passes g next first second j opened text = first j opened text ∙ chained next second j opened (g.read text)

behind_passes : {X : Type 0} (m : Production (Unit {0})) (g : Production X) → Passes m → Passes g → Passes (behind_mark m g)
behind_passes {X} m g first second j opened text =
    chain_passes m (λ _. g) first (λ _. second) j opened text
    ∙ ap (closing_all (j ∷ opened)) (mapped_rest (λ (p : Unit {0} × X). p.1) ((chain m (λ _. g)).read text))

pub range_passes : Passes (range no_test)
range_passes = chain_passes (integer no_test) (λ low. behind_mark (stop DoubleDot) (integer no_test)) integer_passes
    (λ low. behind_passes (stop DoubleDot) (integer no_test) (stop_passes DoubleDot) integer_passes)

-- ---- the ranges as arguments

ranges_lawful : IsLawful output_ranges
ranges_lawful =
    before_mark_lawful (behind_mark (opens Square) (listed range_listing)) (closes Round)
    (behind_mark_lawful (opens Square) (listed range_listing) (opens_lawful Square) (listed_lawful range_listing range_listing_is)) (closes_lawful Round)

no_ranges : (text args rest : List Word) (cause : Cause Fault) (left : List Word) → output_ranges.read text ≡ Stops cause left → text ≡ args ++ rest
    → (r : Reading Word Fault (List (IntText × IntText))) → output_ranges.read args ≡ r → ranges_in (finished r) ≡ None
no_ranges text args rest cause left stops parts (Stops other at) e = refl
no_ranges text args rest cause left stops parts (Takes ranges (t ∷ more)) e = refl
no_ranges text args rest cause left stops parts (Takes ranges []) e =
    let tell = subst (Tells output_ranges args) e (ranges_lawful.tells args) in
    let whole_args : args ≡ output_ranges.spell ranges = tell.0 ∙ append-nil (output_ranges.spell ranges) in
    let takes : output_ranges.read text ≡ Takes ranges rest =
    ap output_ranges.read (parts ∙ ap (λ (ws : List Word). ws ++ rest) whole_args) ∙ ranges_lawful.again ranges rest ∙ ap (λ (o : Option (Fault × List Word)). verdict o ranges rest) tell.1 in
    absurd (let both : Takes ranges rest ≡ Stops cause left = sym takes ∙ stops in cc)

-- where they are none, nothing is kept of the arguments
none_seen : (text : List Word) (cause : Cause Fault) (left : List Word) → output_ranges.read text ≡ Stops cause left → (r : Reading Word Fault Balanced) → balanced.read text ≡ r → seen_args r ≡ mapped (λ u. None) (nothing_of r)
none_seen text cause left stops (Stops other rest) e = refl
none_seen text cause left stops (Takes args rest) e =
    let tell = subst (Tells balanced text) e (balanced_lawful.tells text) in
    ap (λ (o : Option (List (IntText × IntText))). Takes o rest) (no_ranges text (spell_inside bracketing (Round ∷ []) args) rest cause left stops tell.0 (output_ranges.read (spell_inside bracketing (Round ∷ []) args)) refl)

pub no_ranges_seen : (text : List Word) (cause : Cause Fault) (left : List Word) → output_ranges.read text ≡ Stops cause left → seen_args (balanced.read text) ≡ mapped (λ u. None) (closing_all (Round ∷ []) text)
unfolding closing_all
no_ranges_seen text cause left stops = none_seen text cause left stops (balanced.read text) refl

ranges_taken : (text : List Word) (ranges : List (IntText × IntText)) (rest : List Word) → output_ranges.read text ≡ Takes ranges rest → (r : Reading Word Fault Balanced) → balanced.read text ≡ r → nothing_of r ≡ Takes tt rest → seen_args r ≡ Takes (Some ranges) rest
ranges_taken text ranges rest takes (Stops cause left) e closes = absurd cc
ranges_taken text ranges rest takes (Takes args left) e closes =
    let same : left ≡ rest = cc in
    let inside = subst (Tells balanced text) e (balanced_lawful.tells text) in
    let tell = subst (Tells output_ranges text) takes (ranges_lawful.tells text) in
    let args_are : output_ranges.spell ranges ≡ spell_inside bracketing (Round ∷ []) args =
    append_cancel_right (output_ranges.spell ranges) (spell_inside bracketing (Round ∷ []) args) rest (sym tell.0 ∙ inside.0 ∙ ap (λ (ws : List Word). spell_inside bracketing (Round ∷ []) args ++ ws) same) in
    ap (λ (r : Reading Word Fault (List (IntText × IntText))). Takes (ranges_in (finished r)) left)
    (alone output_ranges ranges_lawful ranges (spell_inside bracketing (Round ∷ []) args) args_are ∙ ap (λ (o : Option (Fault × List Word)). verdict o ranges []) tell.1)
    ∙ ap (λ (ws : List Word). Takes (Some ranges) ws) same

pub ranges_seen : (text : List Word) (ranges : List (IntText × IntText)) (rest : List Word) → output_ranges.read text ≡ Takes ranges rest → closing_all (Round ∷ []) text ≡ Takes tt rest → seen_args (balanced.read text) ≡ Takes (Some ranges) rest
unfolding closing_all
ranges_seen text ranges rest takes closes = ranges_taken text ranges rest takes (balanced.read text) refl closes

-- ---- the marks of a list in brackets

given_rest : {X Y : Type 0} (view : Y → X) (r : Reading Word Fault X) (result : Result Y code.Cause) (rest : List Word) → r ≡ given view result rest → rest_of r ≡ rest
given_rest view r (Ok y) rest e = ap rest_of e
given_rest view r (Err cause) rest e = ap rest_of e

pub range_kept : (j : Bracket) (opened : List Bracket) (text rest : List Word) (result : Result (NumberText × NumberText) code.Cause) → (range no_test).read text ≡ given range_of result rest → closing_all (j ∷ opened) text ≡ closing_all (j ∷ opened) rest
range_kept j opened text rest result e = range_passes j opened text ∙ ap (closing_all (j ∷ opened)) (given_rest range_of ((range no_test).read text) result rest e)

pub comma_kept : (j : Bracket) (opened : List Bracket) (text : List Word) → begins (is_stop Comma) text ≡ true → closing_all (j ∷ opened) text ≡ closing_all (j ∷ opened) (behind text)
comma_kept j opened [] b = absurd cc
comma_kept j opened (Plain p ∷ rest) b = plain_passed j opened p rest
comma_kept j opened (Opens k ∷ rest) b = absurd cc
comma_kept j opened (Closes k ∷ rest) b = absurd cc

pub square_closed : (opened : List Bracket) (text rest : List Word) (u : Unit {0}) → (closes Square).read text ≡ Takes u rest → closing_all (Square ∷ opened) text ≡ closing_all opened rest
unfolding closing_all
square_closed opened [] rest u e = absurd cc
square_closed opened (Plain p ∷ after) rest u e = absurd cc
square_closed opened (Opens k ∷ after) rest u e = absurd cc
square_closed opened (Closes Round ∷ after) rest u e = absurd cc
square_closed opened (Closes Curly ∷ after) rest u e = absurd cc
square_closed opened (Closes Square ∷ after) rest u e =
    let same : after ≡ rest = cc in
    forgotten (Close Square) (read_inside bracketing opened after) ∙ ap (λ (ws : List Word). nothing_of (read_inside bracketing opened ws)) same

refused_at : (b : Bool) (is : Word → Bool) (t w : Word) (after rest : List Word) (cause : Cause Fault) → valued (only {T = Word} {F = Fault} is t None) (if b then Some tt else None) w after ≡ Stops cause rest → w ∷ after ≡ rest
refused_at true is t w after rest cause e = absurd cc
refused_at false is t w after rest cause e = cc

bracket_refused : (is : Word → Bool) (t : Word) (text rest : List Word) (cause : Cause Fault) → (mark is t).read text ≡ Stops cause rest → text ≡ rest
bracket_refused is t [] rest cause e = cc
bracket_refused is t (w ∷ after) rest cause e = refused_at (is w) is t w after rest cause e

pub square_open : (j : Bracket) (opened : List Bracket) (text rest : List Word) (cause : Cause Fault) → (closes Square).read text ≡ Stops cause rest → closing_all (j ∷ opened) text ≡ closing_all (j ∷ opened) rest
square_open j opened text rest cause e = ap (closing_all (j ∷ opened)) (bracket_refused (is_close Square) (Closes Square) text rest cause e)

pub square_opened : (text rest : List Word) (u : Unit {0}) → (opens Square).read text ≡ Takes u rest → closing_all (Round ∷ []) text ≡ closing_all (Square ∷ Round ∷ []) rest
unfolding closing_all
square_opened [] rest u e = absurd cc
square_opened (Plain p ∷ after) rest u e = absurd cc
square_opened (Closes k ∷ after) rest u e = absurd cc
square_opened (Opens Round ∷ after) rest u e = absurd cc
square_opened (Opens Curly ∷ after) rest u e = absurd cc
square_opened (Opens Square ∷ after) rest u e =
    let same : after ≡ rest = cc in
    forgotten (Open Square) (read_inside bracketing (Square ∷ Round ∷ []) after) ∙ ap (λ (ws : List Word). nothing_of (read_inside bracketing (Square ∷ Round ∷ []) ws)) same

pub round_closed : (text rest : List Word) (u : Unit {0}) → (closes Round).read text ≡ Takes u rest → closing_all (Round ∷ []) text ≡ Takes tt rest
unfolding closing_all
round_closed [] rest u e = absurd cc
round_closed (Plain p ∷ after) rest u e = absurd cc
round_closed (Opens k ∷ after) rest u e = absurd cc
round_closed (Closes Square ∷ after) rest u e = absurd cc
round_closed (Closes Curly ∷ after) rest u e = absurd cc
round_closed (Closes Round ∷ after) rest u e = let same : after ≡ rest = cc in ap (λ (ws : List Word). Takes tt ws) same

-- ---- how reading the ranges goes

unmapped : {X : Type 0} (r : Reading Word Fault X) → mapped (λ p. p.1) (mapped (λ y. let p : Unit {0} × X = (tt, y) in p) r) ≡ r
unmapped (Takes x rest) = refl
unmapped (Stops cause rest) = refl

abbrev then_round : Reading Word Fault (List (IntText × IntText)) → Reading Word Fault (List (IntText × IntText))
then_round r = mapped (λ p. p.0) (followed r (λ x rest. mapped (λ y. let p : List (IntText × IntText) × Unit {0} = (x, y) in p) ((closes Round).read rest)))

begun : (text rest : List Word) (u : Unit {0}) → (opens Square).read text ≡ Takes u rest → output_ranges.read text ≡ then_round ((listed range_listing).read rest)
begun text rest u e =
    ap (λ (r : Reading Word Fault (Unit {0})). then_round (mapped (λ p. p.1) (followed r (λ x rest. mapped (λ y. let p : Unit {0} × List (IntText × IntText) = (x, y) in p) ((listed range_listing).read rest))))) e
    ∙ ap then_round (unmapped ((listed range_listing).read rest))

not_begun : (is : Word → Bool) (t : Word) (text : List Word) → begins is text ≡ false → (mark {F = Fault} is t).read text ≡ Stops Syntax text
not_begun is t [] b = refl
not_begun is t (w ∷ rest) b = ap (λ (b : Bool). valued (only {T = Word} {F = Fault} is t None) (if b then Some tt else None) w rest) b

-- no list of ranges begins there
pub no_list : (text : List Word) → begins (is_open Square) text ≡ false → seen_args (balanced.read text) ≡ mapped (λ u. None) (closing_all (Round ∷ []) text)
no_list text b = no_ranges_seen text Syntax text
    (ap (λ (r : Reading Word Fault (Unit {0})). then_round (mapped (λ p. p.1) (followed r (λ x rest. mapped (λ y. let p : Unit {0} × List (IntText × IntText) = (x, y) in p) ((listed range_listing).read rest))))) (not_begun (is_open Square) (Opens Square) text b))

-- a list of ranges is not closed as it has to be
pub not_ended : (text inner rest : List Word) (ranges : List (IntText × IntText)) (u : Unit {0}) → (opens Square).read text ≡ Takes u inner → (listed range_listing).read inner ≡ Takes ranges rest → begins (is_close Round) rest ≡ false
    → closing_all (Square ∷ Round ∷ []) inner ≡ closing_all (Round ∷ []) rest → seen_args (balanced.read text) ≡ mapped (λ u. None) (closing_all (Round ∷ []) rest)
not_ended text inner rest ranges u opens_at takes b closed =
    no_ranges_seen text Syntax rest (begun text inner u opens_at ∙ ap then_round takes ∙ ap (λ (r : Reading Word Fault (Unit {0})). mapped (λ p. p.0) (mapped (λ y. let p : List (IntText × IntText) × Unit {0} = (ranges, y) in p) r)) (not_begun (is_close Round) (Closes Round) rest b))
    ∙ ap (mapped (λ u. None)) (square_opened text inner u opens_at ∙ closed)

-- within the list there is no range
pub no_range : (text inner rest : List Word) (cause : Cause Fault) (u : Unit {0}) → (opens Square).read text ≡ Takes u inner → (listed range_listing).read inner ≡ Stops cause rest
    → closing_all (Square ∷ Round ∷ []) inner ≡ closing_all (Square ∷ Round ∷ []) rest → seen_args (balanced.read text) ≡ mapped (λ u. None) (closing_all (Square ∷ Round ∷ []) rest)
no_range text inner rest cause u opens_at stops plain =
    no_ranges_seen text cause rest (begun text inner u opens_at ∙ ap then_round stops) ∙ ap (mapped (λ u. None)) (square_opened text inner u opens_at ∙ plain)

-- a list of ranges
pub a_list : (text inner rest after : List Word) (ranges : List (IntText × IntText)) (u v : Unit {0}) → (opens Square).read text ≡ Takes u inner → (listed range_listing).read inner ≡ Takes ranges rest → (closes Round).read rest ≡ Takes v after
    → closing_all (Square ∷ Round ∷ []) inner ≡ closing_all (Round ∷ []) rest → seen_args (balanced.read text) ≡ Takes (Some ranges) after
a_list text inner rest after ranges u v opens_at takes ends closed =
    ranges_seen text ranges after (begun text inner u opens_at ∙ ap then_round takes ∙ ap (λ (r : Reading Word Fault (Unit {0})). mapped (λ p. p.0) (mapped (λ y. let p : List (IntText × IntText) × Unit {0} = (ranges, y) in p) r)) ends)
    (square_opened text inner u opens_at ∙ closed ∙ round_closed rest after v ends)
