-- Constraints and the goal in their canonical spelling.
use Rattle.std.proofs.Common.{◌≡◌, ℕ, ◌+◌, ◌&&◌, true, false, not, ◌⊎◌, inl, inr, List, [], ◌∷◌, map, length, Option, Some, None, nat_le, nat_lt, refl, sym, ◌∙◌, ap, subst, append-nil}
use Rattle.std.specs.Prelude.{ℤ, is_none, slice_get, sum}
use Rattle.std.specs.List.{cons_option, filter_map, list_any}
use Rattle.std.proofs.lemmas.List.{length-map}
use Rattle.dp_base.specs.Lists.{Each}
use Rattle.dp_grammar.specs.Brackets.{Plain, Opens, Closes}
use Rattle.dp_grammar.specs.Chain.{behind_mark, chain}
use Rattle.dp_grammar.specs.Choice.{either}
use Rattle.dp_grammar.specs.Leaf.{leaf, tested_mark}
use Rattle.dp_grammar.specs.Listed.{Listing, listed}
use Rattle.fz_token.specs.declared.Keyword.TheVariants as key
use Rattle.fz_model.specs.Annotations.{Annotated, annotated}
use Rattle.fz_model.specs.Constraints.{ArgName, ArgTruth, ArgWhole, ArgWords, ConstraintWords, all_equal, argument, argument_test, arguments, array_length, behind, behind_constraints, close_test, constraint_item, dotted_of, element_test, elements_in, kind_named, pairs_arrays, wants_array, wants_set}
use Rattle.fz_model.specs.Context.{BasicText, Context, goal_test, known, meant_by, one_more}
use Rattle.fz_model.specs.Limits.{max_constraints, no_test, or_else, refuse_if}
use Rattle.fz_model.specs.Literals.{integer, name}
use Rattle.fz_model.specs.Marks.{Production, is_close, is_key, is_open, is_stop, keyword, stop}
use Rattle.fz_model.specs.ModelText.{GoalWords, closing, goal, solve_item}
use Rattle.fz_model.specs.Models.{basic_of_text, constraint_of_words, expr_of, goal_of, place_of}
use Rattle.fz_model.specs.Table.{args_of, constraint_of, least_args}
use Rattle.fz_model.specs.Words.{Round, Square, Curly, Comma, DoubleDot, Key, Named, Number, Semicolon, Stop, Word}
use Rattle.fz_model.specs.declared.fault.Fault.{Fault}
use Rattle.fz_model.specs.declared.fault.Fault.TheVariants.{Kind, Limit, Unsupported}
use Rattle.fz_model.specs.declared.kinds.ArgKind.{ArgKind}
use Rattle.fz_model.specs.declared.kinds.ConstraintKind.{ConstraintKind}
use Rattle.fz_model.specs.declared.model.Expr.TheVariants as expr
use Rattle.fz_model.specs.declared.model.Item.{Item}
use Rattle.fz_model.specs.declared.model.SetText.TheVariants as set
use Rattle.fz_facts.proofs.Faults.{before_parts, chain_parts, listed_parts, test_passes}
use Rattle.fz_facts.proofs.Passes.{is_known}
use Rattle.fz_print.specs.Canonical.{arg_words, basic_words, constraint_words, goal_words, plain}
use Rattle.fz_print.specs.Printed.{name_text}
use Rattle.fz_print.proofs.Cleaned.{IsKnown, element_none, element_of, elements_known, elements_listing, numbers_listing, numbers_none, plain_number, plain_text, same_elements, same_numbers, same_values}
use Rattle.fz_print.proofs.CleanItems.{annotated_notes}
use Rattle.fz_print.proofs.Naming.{AreNamed, elements_again, named_text}
use Rattle.fz_print.proofs.Unrefused.{EachBehind-each, chain_none, listed_map}

-- ---- arguments

abbrev pub clean_arg : ArgWords → ArgWords
clean_arg (inl ns) = inl (map plain_number ns)
clean_arg (inr (inl ts)) = inr (inl (map plain_text ts))
clean_arg (inr (inr (inl bounds))) = inr (inr (inl (bounds.0, (bounds.1.0, false))))
clean_arg (inr (inr (inr t))) = inr (inr (inr t))

same_in : (a : ArgWords) → elements_in (clean_arg a) ≡ elements_in a
same_in (inl ns) = length-map ns plain_number
same_in (inr (inl ts)) = length-map ts plain_text
same_in (inr (inr (inl bounds))) = refl
same_in (inr (inr (inr t))) = refl

same_ins : (xs : List ArgWords) → map elements_in (map clean_arg xs) ≡ map elements_in xs
same_ins [] = refl
same_ins (x ∷ xs) = ap (λ n. n ∷ map elements_in (map clean_arg xs)) (same_in x) ∙ ap (λ l. elements_in x ∷ l) (same_ins xs)

same_sum : (xs : List ArgWords) → sum (map elements_in (map clean_arg xs)) ≡ sum (map elements_in xs)
same_sum xs = ap sum (same_ins xs)

abbrev with_more : Context → ℕ → Context
with_more c n = record c { elements = c.elements + n }

same_behind : (c : Context) (xs : List ArgWords) → behind c (map clean_arg xs) ≡ behind c xs
same_behind c xs = ap (with_more c) (same_sum xs)

abbrev opening : Option ArgKind → Production (Unit {0})
opening wanted = tested_mark (is_open Curly) (Opens Curly) (refuse_if (not (wants_set wanted)) Kind)

abbrev opening_array : Option ArgKind → Production (Unit {0})
opening_array wanted = tested_mark (is_open Square) (Opens Square) (refuse_if (not (wants_array wanted)) Kind)

abbrev low_of : Option ArgKind → Production ℤ
low_of wanted = leaf (record { value = dotted_of; token = λ value. Plain (Number value true); test = λ value. refuse_if (not (wants_set wanted)) Kind })

argument_none : (c : Context) (wanted : Option ArgKind) (a : ArgWords) → (argument c wanted).fault a ≡ None → (argument c wanted).fault (clean_arg a) ≡ None
argument_none c wanted (inl ns) e =
    let p = chain_parts (opening wanted) (λ _. listed (numbers_listing (λ k v. one_more c k))) (tt, ns) e in
    chain_none (opening wanted) (λ _. listed (numbers_listing (λ k v. one_more c k))) (tt, map plain_number ns) p.0 (numbers_none (λ k v. one_more c k) ns p.1)
argument_none c wanted (inr (inl ts)) e =
    let p = chain_parts (opening_array wanted) (λ _. listed (elements_listing (element_of c c (element_test wanted)) (λ kept. None))) (tt, ts) e in
    chain_none (opening_array wanted) (λ _. listed (elements_listing (element_of c c (element_test wanted)) (λ kept. None))) (tt, map plain_text ts) p.0
    (listed_map (elements_listing (element_of c c (element_test wanted)) (λ kept. None)) (elements_listing (element_of c c (element_test wanted)) (λ kept. None)) plain_text
    (element_none c c (element_test wanted) (element_test wanted) (λ m h. h)) (λ xs h. refl) ts p.1)
argument_none c wanted (inr (inr (inl bounds))) e =
    let p = chain_parts (low_of wanted) (λ low. behind_mark (stop DoubleDot) (integer no_test)) bounds e in
    chain_none (low_of wanted) (λ low. behind_mark (stop DoubleDot) (integer no_test)) (bounds.0, (bounds.1.0, false)) p.0 refl
argument_none c wanted (inr (inr (inr t))) e = e

abbrev pub args_listing : Context → ConstraintKind → Listing Word Fault ArgWords
args_listing context kind = record {
  is_separator = is_stop Comma;
  separator = Plain (Stop Comma);
  is_close = is_close Round;
  item = λ kept. argument (behind context kept) (slice_get (args_of kind) (length kept));
  close = λ kept. tested_mark (is_close Round) (Closes Round) (close_test context kind kept);
}

same_length : (c : Context) (a : ArgWords) → array_length c (clean_arg a) ≡ array_length c a
same_length c (inl ns) = refl
same_length c (inr (inl ts)) = ap (λ n. Some n) (length-map ts plain_text)
same_length c (inr (inr (inl bounds))) = refl
same_length c (inr (inr (inr t))) = refl

same_lengths : (c : Context) (xs : List ArgWords) → filter_map (array_length c) (map clean_arg xs) ≡ filter_map (array_length c) xs
same_lengths c [] = refl
same_lengths c (x ∷ xs) = ap (λ o. cons_option o (filter_map (array_length c) (map clean_arg xs))) (same_length c x) ∙ ap (λ l. cons_option (array_length c x) l) (same_lengths c xs)

abbrev closes_with : ConstraintKind → ℕ → List ℕ → Production (Unit {0})
closes_with kind n lengths =
    tested_mark (is_close Round) (Closes Round) (or_else (refuse_if (nat_lt n (least_args kind)) Kind) (refuse_if (list_any pairs_arrays (args_of kind) && not (all_equal lengths)) Kind))

arguments_none : (c : Context) (kind : ConstraintKind) (xs : List ArgWords) → (listed (args_listing c kind)).fault xs ≡ None → (listed (args_listing c kind)).fault (map clean_arg xs) ≡ None
arguments_none c kind xs e =
    listed_map (args_listing c kind) (args_listing c kind) clean_arg
    (λ kept x h. subst (λ d. (argument d (slice_get (args_of kind) (length (map clean_arg kept)))).fault (clean_arg x) ≡ None) (sym (same_behind c kept))
    (subst (λ n. (argument (behind c kept) (slice_get (args_of kind) n)).fault (clean_arg x) ≡ None) (sym (length-map kept clean_arg))
    (argument_none (behind c kept) (slice_get (args_of kind) (length kept)) x h)))
    (λ ys h. subst (λ l. (closes_with kind (length (map clean_arg ys)) l).fault tt ≡ None) (sym (same_lengths c ys))
    (subst (λ n. (closes_with kind n (filter_map (array_length c) ys)).fault tt ≡ None) (sym (length-map ys clean_arg)) h))
    xs e

-- ---- constraints

abbrev pub clean_constraint : ConstraintWords → ConstraintWords
clean_constraint q = (q.0, (map clean_arg q.1.0, plain tt))

each_sum : (qs : List ConstraintWords) → map (λ q. sum (map elements_in q.1.0)) (map clean_constraint qs) ≡ map (λ q. sum (map elements_in q.1.0)) qs
each_sum [] = refl
each_sum (q ∷ qs) = ap (λ n. n ∷ map (λ q. sum (map elements_in q.1.0)) (map clean_constraint qs)) (same_sum q.1.0) ∙ ap (λ l. sum (map elements_in q.1.0) ∷ l) (each_sum qs)

same_sums : (qs : List ConstraintWords) → sum (map (λ q. sum (map elements_in q.1.0)) (map clean_constraint qs)) ≡ sum (map (λ q. sum (map elements_in q.1.0)) qs)
same_sums qs = ap sum (each_sum qs)

abbrev limited : ℕ → Production (Unit {0})
limited n = tested_mark (is_key key.Constraint) (Plain (Key key.Constraint)) (refuse_if (nat_le max_constraints n) Limit)

abbrev supported : Production (List ℕ)
supported = name (λ bytes. refuse_if (is_none (constraint_of bytes)) Unsupported)

abbrev behind_name : Context → List ℕ → Production (List ArgWords × Annotated (Unit {0}))
behind_name c bytes = chain (arguments c (kind_named bytes)) (λ args. annotated (λ notes. stop Semicolon))

abbrev behind_key : Context → Production ConstraintWords
behind_key c = chain supported (behind_name c)

pub record ConstraintParts (c : Context) (kept : List ConstraintWords) (q : ConstraintWords) : Type 0 where
  pub limited : (limited (length kept)).fault tt ≡ None
  pub supported : supported.fault q.0 ≡ None
  pub args : (listed (args_listing (behind_constraints c kept) (kind_named q.0))).fault q.1.0 ≡ None

pub constraint_parts : (c : Context) (kept : List ConstraintWords) (q : ConstraintWords) → (constraint_item c kept).fault q ≡ None → ConstraintParts c kept q
constraint_parts c kept q e =
    let p = chain_parts (limited (length kept)) (λ _. behind_key (behind_constraints c kept)) (tt, q) e in
    let r = chain_parts supported (behind_name (behind_constraints c kept)) q p.1 in
    let u = chain_parts (arguments (behind_constraints c kept) (kind_named q.0)) (λ args. annotated (λ notes. stop Semicolon)) q.1 r.1 in
    record { limited = p.0; supported = r.0; args = u.0 }

pub constraint_none : (c : Context) (kept : List ConstraintWords) (q : ConstraintWords) → (constraint_item c kept).fault q ≡ None → (constraint_item c (map clean_constraint kept)).fault (clean_constraint q) ≡ None
constraint_none c kept q e =
    let p = constraint_parts c kept q e in
    let same : behind_constraints c kept ≡ behind_constraints c (map clean_constraint kept) = ap (with_more c) (sym (same_sums kept)) in
    let args : (listed (args_listing (behind_constraints c (map clean_constraint kept)) (kind_named q.0))).fault (map clean_arg q.1.0) ≡ None =
    subst (λ d. (listed (args_listing d (kind_named q.0))).fault (map clean_arg q.1.0) ≡ None) same (arguments_none (behind_constraints c kept) (kind_named q.0) q.1.0 p.args) in
    chain_none (limited (length (map clean_constraint kept))) (λ _. behind_key (behind_constraints c (map clean_constraint kept))) (tt, clean_constraint q)
    (subst (λ n. (limited n).fault tt ≡ None) (sym (length-map kept clean_constraint)) p.limited)
    (chain_none supported (behind_name (behind_constraints c (map clean_constraint kept))) (clean_constraint q) p.supported
    (chain_none (arguments (behind_constraints c (map clean_constraint kept)) (kind_named q.0)) (λ args. annotated (λ notes. stop Semicolon)) (map clean_arg q.1.0, plain tt) args refl))

-- ---- the words of constraints

here : (c : Context) (items : List Item) → AreNamed c items → (ts : List BasicText) → Each (IsKnown c) ts → map (basic_words items) (map (basic_of_text items) ts) ≡ map plain_text ts
here c items named ts k = subst (λ l. map (basic_words l) (map (basic_of_text items) ts) ≡ map plain_text ts) (append-nil items) (elements_again c items [] named ts k)

arg_again : (c : Context) (items : List Item) → AreNamed c items → (wanted : Option ArgKind) (a : ArgWords) → (argument c wanted).fault a ≡ None → arg_words items (expr_of items a) ≡ clean_arg a
arg_again c items named wanted (inl ns) e = ap (λ l. inl l) (same_numbers ns)
arg_again c items named wanted (inr (inl ts)) e =
    let p = chain_parts (opening_array wanted) (λ _. listed (elements_listing (element_of c c (element_test wanted)) (λ kept. None))) (tt, ts) e in
    ap (λ l. inr (inl l)) (here c items named ts (elements_known c c (element_test wanted) (λ kept. None) ts p.1))
arg_again c items named wanted (inr (inr (inl bounds))) e = refl
arg_again c items named wanted (inr (inr (inr (ArgTruth v)))) e = refl
arg_again c items named wanted (inr (inr (inr (ArgWhole v)))) e = refl
arg_again c items named wanted (inr (inr (inr (ArgName bytes)))) e =
    let k = is_known (meant_by c.entries bytes) (argument_test wanted) (test_passes (known (meant_by c.entries bytes) (argument_test wanted)) (Plain (Named bytes) ∷ []) e) in
    ap (λ b. inr (inr (inr (ArgName b)))) (ap (λ l. name_text l (place_of items bytes)) (sym (append-nil items)) ∙ named_text c items [] named bytes k.0 k.1)

pub map_again : {A B C : Type 0} (f : B → C) (g : A → B) (h : A → C) (xs : List A) → Each (λ x. f (g x) ≡ h x) xs → map f (map g xs) ≡ map h xs
map_again f g h [] e = refl
map_again f g h (x ∷ xs) e = ap (λ y. y ∷ map f (map g xs)) e.0 ∙ ap (λ l. h x ∷ l) (map_again f g h xs e.1)

pub constraint_again : (c : Context) (items : List Item) → AreNamed c items → (kept : List ConstraintWords) (q : ConstraintWords) → (constraint_item c kept).fault q ≡ None
    → constraint_words items (constraint_of_words items q) ≡ clean_constraint q
constraint_again c items named kept q e =
    let p = listed_parts (args_listing (behind_constraints c kept) (kind_named q.0)) q.1.0 (constraint_parts c kept q e).args in
    let each = EachBehind-each (λ before x. ((args_listing (behind_constraints c kept) (kind_named q.0)).item before).fault x ≡ None) (λ a. arg_words items (expr_of items a) ≡ clean_arg a)
    (λ before x h. arg_again (behind (behind_constraints c kept) before) items named (slice_get (args_of (kind_named q.0)) (length before)) x h) [] q.1.0 p.0 in
    ap (λ l. (q.0, (l, plain tt))) (map_again (arg_words items) (expr_of items) clean_arg q.1.0 each)

same_expr : (items : List Item) (a : ArgWords) → expr_of items (clean_arg a) ≡ expr_of items a
same_expr items (inl ns) = ap (λ l. expr.Set (set.List l)) (ap (map (λ n. n.0)) (sym (same_numbers ns)) ∙ same_values (map (λ n. n.0) ns))
same_expr items (inr (inl ts)) = ap (λ l. expr.Array l) (same_elements items ts)
same_expr items (inr (inr (inl bounds))) = refl
same_expr items (inr (inr (inr t))) = refl

same_exprs : (items : List Item) (xs : List ArgWords) → map (expr_of items) (map clean_arg xs) ≡ map (expr_of items) xs
same_exprs items [] = refl
same_exprs items (x ∷ xs) = ap (λ y. y ∷ map (expr_of items) (map clean_arg xs)) (same_expr items x) ∙ ap (λ l. expr_of items x ∷ l) (same_exprs items xs)

pub same_constraints : (items : List Item) (qs : List ConstraintWords) → map (constraint_of_words items) (map clean_constraint qs) ≡ map (constraint_of_words items) qs
same_constraints items [] = refl
same_constraints items (q ∷ qs) =
    ap (λ l. record { name = q.0; args = l } ∷ map (constraint_of_words items) (map clean_constraint qs)) (same_exprs items q.1.0)
    ∙ ap (λ l. constraint_of_words items q ∷ l) (same_constraints items qs)

-- ---- the goal

pub goal_none : (c : Context) (a : Annotated GoalWords) → (solve_item c).fault a ≡ None → (goal c).fault (closing a) ≡ None
goal_none c a e = annotated_notes (λ notes. goal c) a e

abbrev sense : Production (Unit {0} ⊎ Unit {0})
sense = either (is_key key.Minimize) (keyword key.Minimize) (keyword key.Maximize)

abbrev sought : Context → Production (List ℕ)
sought c = name (λ bytes. known (meant_by c.entries bytes) goal_test)

abbrev asked : Context → Production GoalWords
asked c = either (is_key key.Satisfy) (keyword key.Satisfy) (chain sense (λ which. sought c))

goal_named : (c : Context) (items : List Item) → AreNamed c items → (which : Unit {0} ⊎ Unit {0}) (bytes : List ℕ) → (goal c).fault (inr (which, bytes)) ≡ None → name_text items (place_of items bytes) ≡ bytes
goal_named c items named which bytes e =
    let p = chain_parts sense (λ which. sought c) (which, bytes) (before_parts (asked c) (stop Semicolon) (inr (which, bytes)) e).0 in
    let k = is_known (meant_by c.entries bytes) goal_test (test_passes (known (meant_by c.entries bytes) goal_test) (Plain (Named bytes) ∷ []) p.1) in
    ap (λ l. name_text l (place_of items bytes)) (sym (append-nil items)) ∙ named_text c items [] named bytes k.0 k.1

pub goal_again : (c : Context) (items : List Item) → AreNamed c items → (g : GoalWords) → (goal c).fault g ≡ None → goal_words items (goal_of items g) ≡ g
goal_again c items named (inl satisfy) e = refl
goal_again c items named (inr (inl minimize, bytes)) e = ap (λ b. inr (inl tt, b)) (goal_named c items named (inl tt) bytes e)
goal_again c items named (inr (inr maximize, bytes)) e = ap (λ b. inr (inr tt, b)) (goal_named c items named (inr tt) bytes e)
