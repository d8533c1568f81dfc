-- A constraint is read as its parts are.
use Rattle.std.proofs.Common.{◌≡◌, ℕ, List, length, refl, sym, ap, ◌∙◌}
use Rattle.fz_token.specs.declared.Keyword.TheVariants as key
use Rattle.dp_grammar.specs.Brackets.{Plain}
use Rattle.dp_grammar.specs.Chain.{followed, mapped}
use Rattle.dp_grammar.specs.Grammar.{Cause, Reading, Takes, Stops}
use Rattle.dp_grammar.specs.Leaf.{tested_mark}
use Rattle.fz_model.specs.Annotations.{Annotated}
use Rattle.fz_model.specs.Constraints.{ArgWords, ConstraintWords, arguments, constraint_item, behind_constraints, kind_named}
use Rattle.fz_model.specs.Context.{Context}
use Rattle.fz_model.specs.Literals.{name}
use Rattle.fz_model.specs.Marks.{is_key}
use Rattle.fz_model.specs.Words.{Word, Key}
use Rattle.fz_model.specs.declared.fault.Fault.{Fault}
use Rattle.fz_model.specs.declared.kinds.ConstraintKind.{ConstraintKind}
use Rattle.fz_items.specs.ConstraintItems.{constraint_behind, item_end, named_args, no_constraint, too_many}

abbrev pub named : List ℕ → List ArgWords → List ℕ × List ArgWords
named bytes args = (bytes, args)

-- what stands behind the name
abbrev Behind : Type 0
Behind = List ArgWords × Annotated (Unit {0})

regrouped : (bytes : List ℕ) (r : Reading Word Fault Behind)
    → mapped named_args (mapped (λ p. p.1) (mapped (λ y. let p : Unit {0} × ConstraintWords = (tt, y) in p) (mapped (λ y. let c : ConstraintWords = (bytes, y) in c) r))) ≡ mapped (λ p. named bytes p.0) r
regrouped bytes (Takes p rest) = refl
regrouped bytes (Stops cause rest) = refl

-- behind the keyword and a name
abbrev args_and_end : Context → ConstraintKind → List Word → Reading Word Fault Behind
args_and_end context kind left = followed ((arguments context kind).read left) (λ args rest. mapped (λ notes. (args, notes)) (item_end.read rest))

named_reads : (context : Context) (count : ℕ) (left after_key after_name : List Word) (bytes : List ℕ) (kind : ConstraintKind)
    → (tested_mark (is_key key.Constraint) (Plain (Key key.Constraint)) (too_many count)).read left ≡ Takes tt after_key
    → (name no_constraint).read after_key ≡ Takes bytes after_name → kind ≡ kind_named bytes
    → mapped named_args ((constraint_behind context count).read left) ≡ mapped (λ p. named bytes p.0) (args_and_end context kind after_name)
named_reads context count left after_key after_name bytes kind k n e =
    let named_words : List Word → Reading Word Fault ConstraintWords =
    λ text. followed ((name no_constraint).read text) (λ b rest. mapped (λ y. (b, y)) (args_and_end context (kind_named b) rest)) in
    ap (λ (r : Reading Word Fault (Unit {0})). mapped named_args (mapped (λ p. p.1) (followed r (λ x rest. mapped (λ y. let p : Unit {0} × ConstraintWords = (x, y) in p) (named_words rest))))) k
    ∙ ap (λ (r : Reading Word Fault (List ℕ)). mapped named_args (mapped (λ p. p.1) (mapped (λ y. let p : Unit {0} × ConstraintWords = (tt, y) in p) (followed r (λ b rest. mapped (λ y. let c : ConstraintWords = (b, y) in c) (args_and_end context (kind_named b) rest)))))) n
    ∙ regrouped bytes (args_and_end context (kind_named bytes) after_name)
    ∙ ap (λ (j : ConstraintKind). mapped (λ p. named bytes p.0) (args_and_end context j after_name)) (sym e)

pub words_stop : (context : Context) (count : ℕ) (left after_key after_name : List Word) (bytes : List ℕ) (kind : ConstraintKind) (cause : Cause Fault) (rest : List Word)
    → (tested_mark (is_key key.Constraint) (Plain (Key key.Constraint)) (too_many count)).read left ≡ Takes tt after_key
    → (name no_constraint).read after_key ≡ Takes bytes after_name → kind ≡ kind_named bytes
    → (arguments context kind).read after_name ≡ Stops cause rest
    → mapped named_args ((constraint_behind context count).read left) ≡ Stops cause rest
words_stop context count left after_key after_name bytes kind cause rest k n e a =
    named_reads context count left after_key after_name bytes kind k n e
    ∙ ap (λ (r : Reading Word Fault (List ArgWords)). mapped (λ p. named bytes p.0) (followed r (λ args rest. mapped (λ notes. let p : Behind = (args, notes) in p) (item_end.read rest)))) a

ended : (bytes : List ℕ) (args : List ArgWords) (r : Reading Word Fault (Annotated (Unit {0})))
    → mapped (λ p. named bytes p.0) (mapped (λ notes. let p : Behind = (args, notes) in p) r) ≡ mapped (λ u. named bytes args) (mapped (λ notes. tt {0}) r)
ended bytes args (Takes notes rest) = refl
ended bytes args (Stops cause rest) = refl

-- behind the arguments
pub words_end : (context : Context) (count : ℕ) (left after_key after_name after_args : List Word) (bytes : List ℕ) (kind : ConstraintKind) (args : List ArgWords)
    → (tested_mark (is_key key.Constraint) (Plain (Key key.Constraint)) (too_many count)).read left ≡ Takes tt after_key
    → (name no_constraint).read after_key ≡ Takes bytes after_name → kind ≡ kind_named bytes
    → (arguments context kind).read after_name ≡ Takes args after_args
    → (r : Reading Word Fault (Unit {0})) → mapped (λ notes. tt) (item_end.read after_args) ≡ r
    → mapped named_args ((constraint_behind context count).read left) ≡ mapped (λ u. named bytes args) r
words_end context count left after_key after_name after_args bytes kind args k n e a r f =
    named_reads context count left after_key after_name bytes kind k n e
    ∙ ap (λ (r : Reading Word Fault (List ArgWords)). mapped (λ p. named bytes p.0) (followed r (λ args rest. mapped (λ notes. let p : Behind = (args, notes) in p) (item_end.read rest)))) a
    ∙ ended bytes args (item_end.read after_args)
    ∙ ap (λ (r : Reading Word Fault (Unit {0})). mapped (λ u. named bytes args) r) f

-- behind the constraints before it, which are so many and list so many elements
pub item_is : (context : Context) (kept : List ConstraintWords) → constraint_item context kept ≡ constraint_behind (behind_constraints context kept) (length kept)
item_is context kept = refl
