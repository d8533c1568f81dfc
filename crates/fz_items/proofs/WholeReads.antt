-- A model is read as its items, and the rest behind them.
use Rattle.std.proofs.Common.{◌≡◌, ℕ, ◌<◌, true, false, length, inl, inr, List, [], ◌∷◌, ◌++◌, map, Option, Some, None, Result, Ok, Err, refl, sym, ap, subst, ◌∙◌}
use Rattle.std.specs.Option.{option_map_or}
use Rattle.std.proofs.lemmas.List.{append-nil, map-append}
use Rattle.dp_base.specs.Lists.{Each}
use Rattle.dp_grammar.specs.Chain.{mapped}
use Rattle.dp_grammar.specs.Choice.{begins}
use Rattle.dp_grammar.specs.Grammar.{Cause, Reading, Takes, Stops, Syntax, Tells}
use Rattle.dp_grammar.specs.Whole.{finished}
use Rattle.dp_grammar.proofs.Loops.{with_front, no_front, behind_items, item_taken, item_refused, item_shortens, close_taken, close_refused}
use Rattle.fz_token.specs.Stream.{Stream, stream}
use Rattle.fz_token.specs.declared.TokenRefusal.{TokenRefusal}
use Rattle.fz_model.specs.Constraints.{ArgWords, ConstraintWords, arg_basic}
use Rattle.fz_model.specs.Context.{BasicText, Context, Truth, Whole, Name}
use Rattle.fz_model.specs.Models.{IsModel, Plan, basic_of_text, constraint_of_words, expr_of, goal_of, item_of, items_behind, items_of, model_of, name_of_item}
use Rattle.fz_model.specs.ModelText.{GoalWords, ItemWords, ModelWords, Rest, after_item, after_items, begins_item, closing, context_of, declares, item, model, model_words, named_cause, named_refusal, nothing, rest_of}
use Rattle.fz_model.specs.Words.{IsSpelled, Word, words}
use Rattle.fz_model.specs.declared.fault.Fault.{Fault}
use Rattle.fz_model.specs.declared.meant.Meant.{Meant}
use Rattle.fz_model.specs.declared.model.Basic.{Basic}
use Rattle.fz_model.specs.declared.model.Constraint.{Constraint}
use Rattle.fz_model.specs.declared.model.Expr.{Expr}
use Rattle.fz_model.specs.declared.model.Expr.TheVariants as expr
use Rattle.fz_model.specs.declared.model.Item.{Item}
use Rattle.fz_model.specs.declared.model.ModelGoal.{ModelGoal}
use Rattle.fz_model.proofs.ModelLaws.{model_lawful}
use Rattle.fz_items.specs.Answers.{answered, modelled, refusal_of, token_refusal}
use Rattle.fz_items.specs.Goals.{goal_in}
use Rattle.fz_items.specs.Places.{basic_in, constraint_in, expr_in, names_in}
use Rattle.fz_items.specs.Refusals.{here}
use Rattle.fz_items.specs.Rests.{rest_in}
use Rattle.fz_items.specs.Wholes.{HasItems, ItemsRead, model_parts}
use Rattle.fz_items.specs.Gives.{Gives, cause_of}
use Rattle.fz_items.specs.declared.stop.Stop.{Stop}
use Rattle.fz_items.specs.declared.stop.Stop.TheVariants.{Refused, Memory}
use Rattle.std.specs.Result.{IsErrAnd}
use Rattle.std.proofs.lemmas.Result.{err_from_is_err_and}
use Rattle.fz_items.specs.declared.refusal.ModelRefusal.{ModelRefusal}
use Rattle.fz_items.specs.States.{State, effect}
use Rattle.fz_items.proofs.GoalLaws.{parts_are}
use Rattle.fz_items.proofs.RestReads.{taken_from, stops_from}
use Rattle.fz_items.proofs.Spellings.{words_spelled}

-- ---- the names of a context are those of its items

named_more : (context : Context) (items : List Item) (meant : Meant) (i : Item) → names_in context ≡ map name_of_item items → names_in (declares context (name_of_item i) meant) ≡ map name_of_item (items ++ i ∷ [])
named_more context items meant i e =
    map-append (λ (e : List ℕ × Meant). e.0) context.entries ((name_of_item i, meant) ∷ [])
    ∙ ap (λ (ns : List (List ℕ)). ns ++ name_of_item i ∷ []) e
    ∙ sym (map-append name_of_item items (i ∷ []))

one_named : (context : Context) (items : List Item) (w : ItemWords) → names_in context ≡ map name_of_item items → names_in (after_item context w) ≡ map name_of_item (items ++ item_of items w)
one_named context items (inl predicate) e = e ∙ ap (map name_of_item) (sym (append-nil items))
one_named context items (inr (inl i)) e = named_more context items _ _ e
one_named context items (inr (inr (inl b))) e = named_more context items _ _ e
one_named context items (inr (inr (inr (inl s)))) e = named_more context items _ _ e
one_named context items (inr (inr (inr (inr (inl (size, inl a)))))) e = named_more context items _ _ e
one_named context items (inr (inr (inr (inr (inl (size, inr (inl bool, a))))))) e = named_more context items _ _ e
one_named context items (inr (inr (inr (inr (inl (size, inr (inr int, a))))))) e = named_more context items _ _ e
one_named context items (inr (inr (inr (inr (inr v))))) e = named_more context items _ _ e

all_named : (ws : List ItemWords) (context : Context) (items : List Item) → names_in context ≡ map name_of_item items → names_in (after_items context ws) ≡ map name_of_item (items_behind items ws)
all_named [] context items e = e
all_named (w ∷ ws) context items e = all_named ws (after_item context w) (items ++ item_of items w) (one_named context items w e)

pub names_are : (ws : List ItemWords) → names_in (context_of ws) ≡ map name_of_item (items_of ws)
names_are ws = all_named ws nothing [] refl

-- ---- places by names are places of items

basic_is : (items : List Item) (t : BasicText) → basic_in (map name_of_item items) t ≡ basic_of_text items t
basic_is items (Truth value) = refl
basic_is items (Whole value dotted) = refl
basic_is items (Name bytes) = refl

basics_are : (items : List Item) (ts : List BasicText) → map (basic_in (map name_of_item items)) ts ≡ map (basic_of_text items) ts
basics_are items [] = refl
basics_are items (t ∷ ts) = ap (λ (b : Basic). b ∷ map (basic_in (map name_of_item items)) ts) (basic_is items t) ∙ ap (λ (bs : List Basic). basic_of_text items t ∷ bs) (basics_are items ts)

expr_is : (items : List Item) (a : ArgWords) → expr_in (map name_of_item items) a ≡ expr_of items a
expr_is items (inl numbers) = refl
expr_is items (inr (inl elements)) = ap (λ (bs : List Basic). expr.Array bs) (basics_are items elements)
expr_is items (inr (inr (inl bounds))) = refl
expr_is items (inr (inr (inr text))) = ap (λ (b : Basic). expr.Basic b) (basic_is items (arg_basic text))

exprs_are : (items : List Item) (args : List ArgWords) → map (expr_in (map name_of_item items)) args ≡ map (expr_of items) args
exprs_are items [] = refl
exprs_are items (a ∷ args) = ap (λ (x : Expr). x ∷ map (expr_in (map name_of_item items)) args) (expr_is items a) ∙ ap (λ (xs : List Expr). expr_of items a ∷ xs) (exprs_are items args)

constraint_is : (items : List Item) (c : ConstraintWords) → constraint_in (map name_of_item items) c ≡ constraint_of_words items c
constraint_is items c = ap (λ (xs : List Expr). let k : Constraint = record { name = c.0; args = xs } in k) (exprs_are items c.1.0)

constraints_are : (items : List Item) (cs : List ConstraintWords) → map (constraint_in (map name_of_item items)) cs ≡ map (constraint_of_words items) cs
constraints_are items [] = refl
constraints_are items (c ∷ cs) = ap (λ (k : Constraint). k ∷ map (constraint_in (map name_of_item items)) cs) (constraint_is items c) ∙ ap (λ (ks : List Constraint). constraint_of_words items c ∷ ks) (constraints_are items cs)

goal_is : (items : List Item) (g : GoalWords) → goal_in (map name_of_item items) g ≡ goal_of items g
goal_is items (inl satisfy) = refl
goal_is items (inr (inl minimize, name)) = refl
goal_is items (inr (inr maximize, name)) = refl

-- ---- the items so far

context_more : (ws : List ItemWords) (context : Context) (w : ItemWords) → after_items context (ws ++ w ∷ []) ≡ after_item (after_items context ws) w
context_more [] context w = refl
context_more (v ∷ ws) context w = context_more ws (after_item context v) w

items_more : (ws : List ItemWords) (items : List Item) (w : ItemWords) → items_behind items (ws ++ w ∷ []) ≡ items_behind items ws ++ item_of (items_behind items ws) w
items_more [] items w = refl
items_more (v ∷ ws) items w = items_more ws (items ++ item_of items v) w

pub none_read : (text left : List Word) (context : Context) (items : List Item) → text ≡ left → context ≡ nothing → items ≡ [] → HasItems text context items left
none_read text left context items t c i = record {
  kept = [];
  so_far = subst (λ (w : List Word). with_front [] (behind_items model_parts [] w) ≡ model.read text) t (no_front (model.read text));
  context_is = c;
  items_are = i;
}

pub one_read : (text left rest : List Word) (s after : State) → begins begins_item left ≡ true → mapped (effect s) ((item s.context).read left) ≡ Takes after rest
    → HasItems text s.context s.items left → HasItems text after.context after.items rest
one_read text left rest s after b e h =
    let from = taken_from (effect s) ((item s.context).read left) after rest e in
    let reads : (item (context_of h.kept)).read left ≡ Takes from.value rest = ap (λ (c : Context). (item c).read left) (sym h.context_is) ∙ from.reads in
    record {
      kept = h.kept ++ from.value ∷ [];
      so_far = item_taken model_parts parts_are h.kept left (model.read text) from.value rest b reads h.so_far;
      context_is = sym (ap (λ (s : State). s.context) from.seen) ∙ ap (λ (c : Context). after_item c from.value) h.context_is ∙ sym (context_more h.kept nothing from.value);
      items_are = sym (ap (λ (s : State). s.items) from.seen) ∙ ap (λ (is : List Item). is ++ item_of is from.value) h.items_are ∙ sym (items_more h.kept [] from.value);
    }

pub one_shortens : (text left rest : List Word) (s after : State) → mapped (effect s) ((item s.context).read left) ≡ Takes after rest → HasItems text s.context s.items left → length rest < length left
one_shortens text left rest s after e h =
    let from = taken_from (effect s) ((item s.context).read left) after rest e in
    item_shortens model_parts parts_are h.kept left from.value rest (ap (λ (c : Context). (item c).read left) (sym h.context_is) ∙ from.reads)

pub one_refused : (text left rest : List Word) (s : State) (cause : Cause Fault) → begins begins_item left ≡ true → mapped (effect s) ((item s.context).read left) ≡ Stops cause rest
    → HasItems text s.context s.items left → model.read text ≡ Stops cause rest
one_refused text left rest s cause b e h =
    item_refused model_parts parts_are h.kept left (model.read text) cause rest b
    (ap (λ (c : Context). (item c).read left) (sym h.context_is) ∙ stops_from (effect s) ((item s.context).read left) cause rest e) h.so_far

stop_read : (text left rest : List Word) (s : State) (stop : Stop) → begins begins_item left ≡ true → HasItems text s.context s.items left
    → Gives {X = State} {Y = State} (λ d. d) (mapped (effect s) ((item s.context).read left)) (Err stop) rest → ItemsRead text (Err stop) rest
stop_read text left rest s (Refused cause) b h e = one_refused text left rest s (cause_of cause) b e h
stop_read text left rest s Memory b h e = tt

pub stopped_read : (text left rest : List Word) (s : State) (result : Result State Stop) (stop : Stop) → IsErrAnd result (λ x. x ≡ stop) → begins begins_item left ≡ true → HasItems text s.context s.items left
    → Gives {X = State} {Y = State} (λ d. d) (mapped (effect s) ((item s.context).read left)) (Err stop) rest → ItemsRead text result rest
stopped_read text left rest s result stop is b h e =
    let p = err_from_is_err_and result is in
    rw (p.1, p.2) (stop_read text left rest s stop b h e)

-- ---- the items and the rest

abbrev pub plan_at : List Item → List Constraint × ModelGoal → Plan
plan_at items p = record { items = items; constraints = p.0; goal = p.1 }

rest_is : (ws : List ItemWords) (w : Rest) → plan_at (items_of ws) (rest_in (names_in (context_of ws)) w) ≡ model_of (ws, w)
rest_is ws w =
    let items = items_of ws in
    ap (λ (ns : List (List ℕ)). plan_at items (rest_in ns w)) (names_are ws)
    ∙ ap (λ (cs : List Constraint). let m : Plan = record { items = items; constraints = cs; goal = goal_in (map name_of_item items) (closing w.1) } in m) (constraints_are items w.0)
    ∙ ap (λ (g : ModelGoal). let m : Plan = record { items = items; constraints = map (constraint_of_words items) w.0; goal = g } in m) (goal_is items (closing w.1))

pub whole_taken : (text : List Word) (context : Context) (items : List Item) (left rest : List Word) (p : List Constraint × ModelGoal)
    → HasItems text context items left → begins begins_item left ≡ false → mapped (rest_in (names_in context)) ((rest_of context).read left) ≡ Takes p rest
    → mapped model_of (model.read text) ≡ Takes (plan_at items p) rest
whole_taken text context items left rest p h b e =
    let from = taken_from (rest_in (names_in context)) ((rest_of context).read left) p rest e in
    let close : (rest_of (context_of h.kept)).read left ≡ Takes from.value rest = ap (λ (c : Context). (rest_of c).read left) (sym h.context_is) ∙ from.reads in
    let total : model.read text ≡ Takes (h.kept, from.value) rest = close_taken model_parts parts_are h.kept left (model.read text) from.value rest b close h.so_far in
    let seen : rest_in (names_in (context_of h.kept)) from.value ≡ p = ap (λ (c : Context). rest_in (names_in c) from.value) (sym h.context_is) ∙ from.seen in
    let plan : model_of (h.kept, from.value) ≡ plan_at items p =
    sym (rest_is h.kept from.value) ∙ ap (plan_at (items_of h.kept)) seen ∙ ap (λ (is : List Item). plan_at is p) (sym h.items_are) in
    ap (mapped model_of) total ∙ ap (λ (m : Plan). let r : Reading Word Fault Plan = Takes m rest in r) plan

pub whole_refused : (text : List Word) (context : Context) (items : List Item) (left rest : List Word) (cause : Cause Fault)
    → HasItems text context items left → begins begins_item left ≡ false → mapped (rest_in (names_in context)) ((rest_of context).read left) ≡ Stops cause rest
    → mapped model_of (model.read text) ≡ Stops cause rest
whole_refused text context items left rest cause h b e =
    ap (mapped model_of) (close_refused model_parts parts_are h.kept left (model.read text) cause rest b
    (ap (λ (c : Context). (rest_of c).read left) (sym h.context_is) ∙ stops_from (rest_in (names_in context)) ((rest_of context).read left) cause rest e) h.so_far)

-- ---- what is answered

-- words that are read to their end spell a model
pub is_model : (text : List ℕ) (m : Plan) → mapped model_of (model.read (words text (stream text).tokens)) ≡ Takes m [] → IsModel m
is_model text m e =
    let all = words text (stream text).tokens in
    let from = taken_from model_of (model.read all) m [] e in
    let tells : Tells model all (Takes from.value []) = subst (Tells model all) from.reads (model_lawful.tells all) in
    let spells : all ≡ model.spell from.value = tells.0 ∙ append-nil (model.spell from.value) in
    record { words = from.value; spelled = subst (Each IsSpelled) spells (words_spelled text); passes = tells.1; means = from.seen }

-- where the tokens end
ends : (o : Option TokenRefusal) (w : ModelWords) (size at : ℕ) → option_map_or (λ refusal. let r : Result ℕ TokenRefusal = Err refusal in r) o (Ok size) ≡ Ok at → modelled o w ≡ Ok (model_of w)
ends None w size at e = refl
ends (Some refusal) w size at e = absurd cc

ends_refused : (o : Option TokenRefusal) (w : ModelWords) (size : ℕ) (refusal : TokenRefusal) → option_map_or (λ refusal. let r : Result ℕ TokenRefusal = Err refusal in r) o (Ok size) ≡ Err refusal → modelled o w ≡ Err (token_refusal refusal)
ends_refused None w size refusal e = absurd cc
ends_refused (Some other) w size refusal e = let same : other ≡ refusal = cc in ap (λ (r : TokenRefusal). let a : Result Plan ModelRefusal = Err (token_refusal r) in a) same

words_taken : (all : List Word) (w : ModelWords) → model.read all ≡ Takes w [] → model_words all ≡ Ok w
words_taken all w e = ap (λ (r : Reading Word Fault ModelWords). named_refusal all (finished r)) e

pub answer_model : (size : ℕ) (s : Stream) (all : List Word) (m : Plan) (at : ℕ) → mapped model_of (model.read all) ≡ Takes m [] → here size s [] ≡ Ok at → answered size s (model_words all) ≡ Ok m
answer_model size s all m at e h =
    let from = taken_from model_of (model.read all) m [] e in
    ap (answered size s) (words_taken all from.value from.reads) ∙ ends s.refusal from.value size at h ∙ ap (λ (p : Plan). let a : Result Plan ModelRefusal = Ok p in a) from.seen

pub answer_ends : (size : ℕ) (s : Stream) (all : List Word) (m : Plan) (refusal : TokenRefusal) → mapped model_of (model.read all) ≡ Takes m [] → here size s [] ≡ Err refusal → answered size s (model_words all) ≡ Err (token_refusal refusal)
answer_ends size s all m refusal e h =
    let from = taken_from model_of (model.read all) m [] e in
    ap (answered size s) (words_taken all from.value from.reads) ∙ ends_refused s.refusal from.value size refusal h

pub answer_goes_on : (size : ℕ) (s : Stream) (all : List Word) (m : Plan) (word : Word) (rest : List Word) → mapped model_of (model.read all) ≡ Takes m (word ∷ rest)
    → answered size s (model_words all) ≡ Err (refusal_of size s (named_cause all Syntax (word ∷ rest)) (word ∷ rest))
answer_goes_on size s all m word rest e =
    let from = taken_from model_of (model.read all) m (word ∷ rest) e in
    ap (λ (r : Reading Word Fault ModelWords). answered size s (named_refusal all (finished r))) from.reads

pub answer_refused : (size : ℕ) (s : Stream) (all : List Word) (cause : Cause Fault) (rest : List Word) → mapped model_of (model.read all) ≡ Stops cause rest
    → answered size s (model_words all) ≡ Err (refusal_of size s (named_cause all cause rest) rest)
answer_refused size s all cause rest e =
    ap (λ (r : Reading Word Fault ModelWords). answered size s (named_refusal all (finished r))) (stops_from model_of (model.read all) cause rest e)
