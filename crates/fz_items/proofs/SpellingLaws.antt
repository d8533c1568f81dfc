-- A text is read as the model that it spells, or refused by what refuses it first.
use Rattle.std.specs.Prelude.{◌↔◌, nat_le, if◌then◌else◌}
use Rattle.std.proofs.Common.{◌≡◌, ℕ, ◌≤◌, ◌<◌, Bool, true, false, inl, inr, length, List, Option, Some, None, Result, Ok, Err, refl, sym, ap, subst, ◌∙◌, arith}
use Rattle.std.proofs.lemmas.Bool.Decides.{nat_tests}
use Rattle.dp_grammar.specs.Grammar.{Cause}
use Rattle.dp_grammar.specs.Whole.{Says, whole}
use Rattle.dp_grammar.proofs.Only.{only_says}
use Rattle.dp_grammar.proofs.Wholes.{whole_says}
use Rattle.fz_token.specs.Stream.{stream}
use Rattle.fz_token.specs.declared.TokenRefusal.{TokenRefusal}
use Rattle.fz_model.specs.Models.{Plan, model_of}
use Rattle.fz_model.specs.ModelText.{ModelWords, model, named_refusal}
use Rattle.fz_model.specs.Words.{Word}
use Rattle.fz_model.specs.declared.fault.Fault.{Fault}
use Rattle.fz_model.proofs.ModelLaws.{model_lawful}
use Rattle.fz_items.specs.Answers.{answered, max_bytes, model_text, modelled, place_of, refused_late, token_refusal, within_limit}
use Rattle.fz_items.specs.Spelling.{IsTextOf, IsTooLong, Refuses, RefusesFirst, Spells, words_of}
use Rattle.fz_items.specs.declared.refusal.ModelRefusal.{ModelRefusal}
use Rattle.fz_items.specs.declared.refusal.ModelRefusal.TheVariants.{Limit}

-- ---- a text of any length

-- what is answered, where the grammar says this of its words
abbrev answer_by : List ℕ → Result ModelWords (Cause Fault × List Word) → Result Plan ModelRefusal
answer_by text says = answered (length text) (stream text) (named_refusal (words_of text) says)

-- what is answered for a text of any length
abbrev answer_of : List ℕ → Result Plan ModelRefusal
answer_of text = answer_by text (whole model (words_of text))

model_read : (r : Option TokenRefusal) (w : ModelWords) (m : Plan) → modelled r w ≡ Ok m → (r ≡ None) × (model_of w ≡ m)
model_read None w m e = (refl, cc)
model_read (Some token) w m e = absurd cc

token_read : (r : Option TokenRefusal) (w : ModelWords) (refusal : ModelRefusal) → modelled r w ≡ Err refusal → (token : TokenRefusal) × ((r ≡ Some token) × (refusal ≡ token_refusal token))
token_read None w refusal e = absurd cc
token_read (Some token) w refusal e = (token, (refl, cc))

spelled_so : (text : List ℕ) (m : Plan) (answer : Result ModelWords (Cause Fault × List Word)) → Says model (words_of text) answer → answer_by text answer ≡ Ok m → Spells text m
spelled_so text m (Ok w) says e =
    let read = model_read (stream text).refusal w m e in
    record { value = w; tokens = read.0; spelled = says.0; passes = says.1; means = read.1 }
spelled_so text m (Err p) says e = absurd cc

refused_so : (text : List ℕ) (refusal : ModelRefusal) (answer : Result ModelWords (Cause Fault × List Word)) → Says model (words_of text) answer → answer_by text answer ≡ Err refusal → Refuses text refusal
refused_so text refusal (Ok w) says e =
    let read = token_read (stream text).refusal w refusal e in
    inl (record { value = w; token = read.0; tokens = read.1.0; spelled = says.0; passes = says.1; told = read.1.1 })
refused_so text refusal (Err p) says e = inr (record { cause = p.0; left = p.1; first = says; told = cc })

spells : (text : List ℕ) (m : Plan) → answer_of text ≡ Ok m → Spells text m
spells text m e = spelled_so text m (whole model (words_of text)) (whole_says model model_lawful (words_of text)) e

refuses : (text : List ℕ) (refusal : ModelRefusal) → answer_of text ≡ Err refusal → Refuses text refusal
refuses text refusal e = refused_so text refusal (whole model (words_of text)) (whole_says model model_lawful (words_of text)) e

-- the grammar says one thing of the words
answer_is : (text : List ℕ) (answer : Result ModelWords (Cause Fault × List Word)) → Says model (words_of text) answer → answer_of text ≡ answer_by text answer
answer_is text answer says = ap (answer_by text) (sym (only_says model model_lawful (words_of text) answer says))

is_read : (text : List ℕ) (m : Plan) → Spells text m → answer_of text ≡ Ok m
is_read text m s =
    answer_is text (Ok s.value) (s.spelled, s.passes)
    ∙ ap (λ (r : Option TokenRefusal). modelled r s.value) s.tokens
    ∙ ap (λ (n : Plan). let r : Result Plan ModelRefusal = Ok n in r) s.means

is_refused : (text : List ℕ) (refusal : ModelRefusal) → Refuses text refusal → answer_of text ≡ Err refusal
is_refused text refusal (inl s) =
    answer_is text (Ok s.value) (s.spelled, s.passes)
    ∙ ap (λ (r : Option TokenRefusal). modelled r s.value) s.tokens
    ∙ ap (λ (r : ModelRefusal). let e : Result Plan ModelRefusal = Err r in e) (sym s.told)
is_refused text refusal (inr s) =
    answer_is text (Err (s.cause, s.left)) s.first
    ∙ ap (λ (r : ModelRefusal). let e : Result Plan ModelRefusal = Err r in e) (sym s.told)

-- ---- the limit of bytes

never_late : (answer : Result Plan ModelRefusal) (m : Plan) → refused_late answer ≡ Ok m → ⊥
never_late (Ok n) m e = absurd cc
never_late (Err r) m e = elim (nat_le (place_of r) max_bytes) as (λ b. (let k : Result Plan ModelRefusal = if b then Err r else Err (Limit max_bytes) in k) ≡ Ok m → ⊥) [ true ↦ λ k. absurd cc | false ↦ λ k. absurd cc ] e

read_within : (size : ℕ) (b : Bool) (answer : Result Plan ModelRefusal) (m : Plan) → nat_le size max_bytes ≡ b → (if b then answer else refused_late answer) ≡ Ok m → (answer ≡ Ok m) × (size ≤ max_bytes)
read_within size true answer m k e = (e, grind (arith, nat_tests, k))
read_within size false answer m k e = absurd (never_late answer m e)

short_is : (size : ℕ) (answer : Result Plan ModelRefusal) → size ≤ max_bytes → within_limit size answer ≡ answer
short_is size answer h = let k : nat_le size max_bytes ≡ true = grind (arith, nat_tests, h) in rw k refl

long_is : (size : ℕ) (answer : Result Plan ModelRefusal) → max_bytes < size → within_limit size answer ≡ refused_late answer
long_is size answer h = let k : nat_le size max_bytes ≡ false = grind (arith, nat_tests, h) in rw k refl

early_is : (r : ModelRefusal) → place_of r ≤ max_bytes → refused_late (Err r) ≡ Err r
early_is r h = let k : nat_le (place_of r) max_bytes ≡ true = grind (arith, nat_tests, h) in rw k refl

late_is : (r : ModelRefusal) → max_bytes < place_of r → refused_late (Err r) ≡ Err (Limit max_bytes)
late_is r h = let k : nat_le (place_of r) max_bytes ≡ false = grind (arith, nat_tests, h) in rw k refl

-- ---- reading

pub text_read : (text : List ℕ) (m : Plan) → (model_text text ≡ Ok m) ↔ IsTextOf text m
text_read text m = (
  λ e. let read = read_within (length text) (nat_le (length text) max_bytes) (answer_of text) m refl e in (spells text m read.0, read.1),
  λ h. short_is (length text) (answer_of text) h.1 ∙ is_read text m h.0,
)

-- ---- refusing

same_refusal : (r q : ModelRefusal) → (let e : Result Plan ModelRefusal = Err r in e) ≡ Err q → r ≡ q
same_refusal r q e = cc

not_both : (m : Plan) (r : ModelRefusal) → (let e : Result Plan ModelRefusal = Ok m in e) ≡ Err r → ⊥
not_both m r e = absurd cc

-- a longer text, which is refused here by itself
by_early : (text : List ℕ) (refusal r : ModelRefusal) → answer_of text ≡ Err r → max_bytes < length text → (b : Bool) → nat_le (place_of r) max_bytes ≡ b
    → (let e : Result Plan ModelRefusal = if b then Err r else Err (Limit max_bytes) in e) ≡ Err refusal → RefusesFirst text refusal
by_early text refusal r is long true k e =
    let early : place_of r ≤ max_bytes = grind (arith, nat_tests, k) in
    inl (refuses text refusal (is ∙ e), inr (subst (λ q. place_of q ≤ max_bytes) (same_refusal r refusal e) early))
by_early text refusal r is long false k e =
    let late : max_bytes < place_of r = grind (arith, nat_tests, k) in
    inr (record { long = long; before = λ q h. subst (λ p. max_bytes < place_of p) (same_refusal r q (sym is ∙ is_refused text q h)) late }, sym (same_refusal (Limit max_bytes) refusal e))

beyond : (text : List ℕ) (refusal : ModelRefusal) (answer : Result Plan ModelRefusal) → answer_of text ≡ answer → max_bytes < length text → refused_late answer ≡ Err refusal → RefusesFirst text refusal
beyond text refusal (Ok m) is long e =
    inr (record { long = long; before = λ q h. absurd (not_both m q (sym is ∙ is_refused text q h)) }, sym (same_refusal (Limit max_bytes) refusal e))
beyond text refusal (Err r) is long e = by_early text refusal r is long (nat_le (place_of r) max_bytes) refl e

refused_within : (text : List ℕ) (refusal : ModelRefusal) (b : Bool) → nat_le (length text) max_bytes ≡ b → (if b then answer_of text else refused_late (answer_of text)) ≡ Err refusal → RefusesFirst text refusal
refused_within text refusal true k e = inl (refuses text refusal e, inl (grind (arith, nat_tests, k)))
refused_within text refusal false k e = beyond text refusal (answer_of text) refl (grind (arith, nat_tests, k)) e

within_early : (b : Bool) (refusal : ModelRefusal) → place_of refusal ≤ max_bytes → (let e : Result Plan ModelRefusal = if b then Err refusal else refused_late (Err refusal) in e) ≡ Err refusal
within_early true refusal early = refl
within_early false refusal early = early_is refusal early

too_late : (text : List ℕ) (answer : Result Plan ModelRefusal) → answer_of text ≡ answer → IsTooLong text → refused_late answer ≡ Err (Limit max_bytes)
too_late text (Ok m) is t = refl
too_late text (Err r) is t = late_is r (t.before r (refuses text r is))

first_is : (text : List ℕ) (refusal : ModelRefusal) → RefusesFirst text refusal → model_text text ≡ Err refusal
first_is text refusal (inl (h, inl short)) = short_is (length text) (answer_of text) short ∙ is_refused text refusal h
first_is text refusal (inl (h, inr early)) =
    ap (within_limit (length text)) (is_refused text refusal h) ∙ within_early (nat_le (length text) max_bytes) refusal early
first_is text refusal (inr (t, e)) =
    long_is (length text) (answer_of text) t.long ∙ too_late text (answer_of text) refl t
    ∙ ap (λ (r : ModelRefusal). let k : Result Plan ModelRefusal = Err r in k) (sym e)

pub text_refused : (text : List ℕ) (refusal : ModelRefusal) → (model_text text ≡ Err refusal) ↔ RefusesFirst text refusal
text_refused text refusal = (λ e. refused_within text refusal (nat_le (length text) max_bytes) refl e, λ h. first_is text refusal h)
