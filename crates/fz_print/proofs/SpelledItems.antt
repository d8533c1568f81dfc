-- The words of the canonical spelling of a model are words that tokens stand for.
use Rattle.std.proofs.Common.{◌≡◌, ℕ, ◌≤◌, ◌^◌, Bool, true, false, ◌⊎◌, inl, inr, List, [], ◌∷◌, ◌++◌, map, length, Option, Some, None, ℤ, pos, negsuc, nat_abs, codes, refl, sym, ◌∙◌, ap, subst, append-nil, append_assoc, arith}
use Rattle.std.specs.List.{flat_map}
use Rattle.dp_base.specs.Lists.{Each}
use Rattle.dp_base.proofs.Lists.{Each-append, Each-append_parts}
use Rattle.dp_grammar.specs.Brackets.{Plain, spell_inside}
use Rattle.dp_grammar.specs.Choice.{either}
use Rattle.dp_grammar.specs.Listed.{listed}
use Rattle.dp_grammar.specs.Many.{Link, spell_behind}
use Rattle.fz_token.specs.declared.Keyword.TheVariants as key
use Rattle.fz_model.specs.Annotations.{Annotated, Close, annotated}
use Rattle.fz_model.specs.Arrays.{array_item, constant_element, count_of, elements_end, size_test, type_test}
use Rattle.fz_model.specs.Constraints.{ConstraintWords, behind_constraints, constraint_item, kind_named}
use Rattle.fz_model.specs.Context.{BasicText, Context, one_more, with_elements}
use Rattle.fz_model.specs.Items.{IntText, TypeWords, array_literal, defined, domain_test, truth, type_elements, variable_end}
use Rattle.fz_model.specs.Limits.{beyond_small, no_test, or_else}
use Rattle.fz_model.specs.Literals.{integer, set_literal, var_type}
use Rattle.fz_model.specs.Marks.{Production, is_key, stop}
use Rattle.fz_model.specs.ModelText.{ArrayWords, ItemWords, ModelWords, after_item, after_items, begins_item, closing, context_of, goal, item as item_production, model, nothing, rest_of, solve_item}
use Rattle.fz_model.specs.Models.{IsModel, Plan, is_noted, notes_of, output_of, set_of, type_of}
use Rattle.fz_model.specs.Words.{Round, Square, Colon, IsSpelled, Named, Semicolon, Stop, Word, bracketing}
use Rattle.fz_model.specs.declared.fault.Fault.{Fault}
use Rattle.fz_facts.proofs.Faults.{EachBehind, many_parts}
use Rattle.fz_print.specs.Canonical.{canonical, marked, plain, ranges_inside, set_words, sized, type_words}
use Rattle.fz_print.proofs.AgainItems.{IsFree, after_one, context_again, few}
use Rattle.fz_print.proofs.Cleaned.{element_of, plain_text, so_many}
use Rattle.fz_print.proofs.CleanConstraints.{args_listing, clean_arg, clean_constraint}
use Rattle.fz_print.proofs.CleanItems.{array_parts, clean_definition, clean_item, constant_wanted, constants_parts, variables_parts}
use Rattle.fz_print.proofs.CleanTwins.{item_after}
use Rattle.fz_print.proofs.Outputs.{sized_notes}
use Rattle.fz_print.proofs.Passing.{canonical_is, clean, items_repeat}
use Rattle.fz_print.proofs.Spelled.{Printable, annotated_spelled, args_spelled, basic_spelled, elements_spelled, output_printable, set_spelled, spelled_behind, type_spelled}
use Rattle.fz_print.proofs.Unrefused.{EachBehind-map}

-- ---- items

small_count : (v : ℤ) (n : ℕ) → nat_abs v ≤ 10 ^ 18 → n ≡ count_of v → n ≤ 10 ^ 18
small_count (pos k) n h e = omega (arith, h, e)
small_count (negsuc k) n h e = omega (arith, e)

marked_spelled : {C : Type 0} (g : Production C) (o : Bool) (c : C) → Each IsSpelled (g.spell c) → Each IsSpelled ((annotated (λ notes. g)).spell (marked o c))
marked_spelled g true c h = (tt, (refl, h))
marked_spelled g false c h = h

sized_spelled : {C : Type 0} (close : Close C) (o : Option (List (ℤ × ℤ))) (c : C) → Printable o → Each IsSpelled ((close (sized_notes o)).spell c) → Each IsSpelled ((annotated close).spell (sized o c))
sized_spelled close None c p h = h
sized_spelled close (Some rs) c p h = (tt, (refl, (tt, (tt, Each-append IsSpelled (spell_inside bracketing (Square ∷ Round ∷ []) (ranges_inside rs)) ((close (sized_notes (Some rs))).spell c) p h))))

end_spelled : (c : Context) (t u : TypeWords) (d : BasicText ⊎ Unit {0}) → Each IsSpelled ((variable_end c t).spell d) → Each IsSpelled ((variable_end c u).spell (clean_definition d))
end_spelled c t u (inl text) h = (tt, (basic_spelled text h.1.0, (tt, tt)))
end_spelled c t u (inr none) h = h

-- elements, and the end
ended_spelled : (element other : List BasicText → BasicText → Option Fault) (close last : List BasicText → Option Fault) (ts : List BasicText)
    → Each IsSpelled ((array_literal element close).spell ts ++ Plain (Stop Semicolon) ∷ []) → Each IsSpelled ((array_literal other last).spell (map plain_text ts) ++ Plain (Stop Semicolon) ∷ [])
ended_spelled element other close last ts h =
    let p = Each-append_parts IsSpelled ((array_literal element close).spell ts) (Plain (Stop Semicolon) ∷ []) h in
    Each-append IsSpelled ((array_literal other last).spell (map plain_text ts)) (Plain (Stop Semicolon) ∷ []) (elements_spelled element other close last ts p.0) (tt, tt)

abbrev AllSpelled : Context → ItemWords → Type 0
AllSpelled c y = Each IsSpelled ((item_production c).spell y)

consts_spelled : (c : Context) (bools : Bool) (size : IntText) (a : Annotated (List BasicText)) → Each IsSpelled ((annotated (λ notes. defined (array_literal (constant_element c bools) (size_test size)))).spell a)
    → Each IsSpelled ((defined (array_literal (constant_element c bools) (size_test (pos (length (closing a)), false)))).spell (map plain_text (closing a)))
consts_spelled c bools size a h =
    let p = annotated_spelled (λ notes. defined (array_literal (constant_element c bools) (size_test size))) a h in
    (tt, ended_spelled (constant_element c bools) (constant_element c bools) (size_test size) (size_test (pos (length (closing a)), false)) (closing a) p.1.1)

array_spelled : (c : Context) (a : ArrayWords) → (array_item c).fault a ≡ None → AllSpelled c (inr (inr (inr (inr (inl a))))) → Each (AllSpelled c) (clean_item (inr (inr (inr (inr (inl a))))))
array_spelled c (size, inr (inl bool, a)) e h =
    let p = constants_parts c size.1 (inl bool) a.0 a.1 (array_parts c (size, inr (inl bool, a)) e) in
    let n = small_count size.1.0 (length (closing a.1)) h.1.1.1.1.0 (so_many (element_of c c (constant_wanted true)) (count_of size.1.0) (closing a.1) p.1) in
    ((tt, (tt, (h.1.1.0, (tt, (n, (tt, (tt, (tt, (tt, (h.1.1.1.1.1.1.1.1.1.0, consts_spelled c true size.1 a.1 h.1.1.1.1.1.1.1.1.1.1)))))))))), tt)
array_spelled c (size, inr (inr int, a)) e h =
    let p = constants_parts c size.1 (inr int) a.0 a.1 (array_parts c (size, inr (inr int, a)) e) in
    let n = small_count size.1.0 (length (closing a.1)) h.1.1.1.1.0 (so_many (element_of c c (constant_wanted false)) (count_of size.1.0) (closing a.1) p.1) in
    ((tt, (tt, (h.1.1.0, (tt, (n, (tt, (tt, (tt, (tt, (h.1.1.1.1.1.1.1.1.1.0, consts_spelled c false size.1 a.1 h.1.1.1.1.1.1.1.1.1.1)))))))))), tt)
array_spelled c (size, inl a) e h =
    let p = variables_parts c size.1 a.0 a.1.0 a.1.1 (array_parts c (size, inl a) e) in
    let n = small_count size.1.0 (length (closing a.1.1)) h.1.1.1.1.0
    (so_many (element_of (with_elements c (type_elements a.0)) (with_elements c (type_elements a.0)) (type_test a.0)) (count_of size.1.0) (closing a.1.1) p.elements) in
    let q = Each-append_parts IsSpelled ((var_type (domain_test c) beyond_small).spell a.0)
    (Plain (Stop Colon) ∷ Plain (Named a.1.0) ∷ (annotated (elements_end (with_elements c (type_elements a.0)) size.1 a.0)).spell a.1.1) h.1.1.1.1.1.1.1.1 in
    let r = annotated_spelled (elements_end (with_elements c (type_elements a.0)) size.1 a.0) a.1.1 q.1.1.1 in
    let t = type_words (type_of a.0) in
    let close = elements_end (with_elements c (type_elements (type_words (type_of a.0)))) (pos (length (closing a.1.1)), false) (type_words (type_of a.0)) in
    let o = output_of (notes_of a.1.1) in
    let u : Each IsSpelled ((annotated close).spell (sized o (map plain_text (closing a.1.1)))) =
    sized_spelled close o (map plain_text (closing a.1.1)) (output_printable (notes_of a.1.1) r.0)
    (tt, ended_spelled (λ kept x. None) (λ kept x. None) (λ kept. None) (λ kept. None) (closing a.1.1) r.1.1) in (
      (
        tt,
        (
          tt,
          (
            h.1.1.0,
            (
              tt,
              (
                n,
                (
                  tt,
                  (
                    tt,
                    (
                      tt,
                      Each-append IsSpelled ((var_type (domain_test c) beyond_small).spell t) (Plain (Stop Colon) ∷ Plain (Named a.1.0) ∷ (annotated close).spell (sized o (map plain_text (closing a.1.1))))
                          (type_spelled (λ k x. or_else (beyond_small x) (one_more c k)) beyond_small a.0 q.0) (tt, (q.1.1.0, u)),
                    ),
                  ),
                ),
              ),
            ),
          ),
        ),
      ),
      tt,
    )

item_spelled : (c : Context) (x : ItemWords) → (item_production c).fault x ≡ None → AllSpelled c x → Each (AllSpelled c) (clean_item x)
item_spelled c (inl p) e h = tt
item_spelled c (inr (inl i)) e h = ((tt, (tt, (h.1.1.0, (annotated_spelled (λ notes. defined (integer no_test)) i.1 h.1.1.1).1))), tt)
item_spelled c (inr (inr (inl b))) e h = ((tt, (tt, (h.1.1.0, (annotated_spelled (λ notes. defined truth) b.1 h.1.1.1).1))), tt)
item_spelled c (inr (inr (inr (inl s)))) e h =
    let p = annotated_spelled (λ notes. defined (set_literal (λ kept value. one_more c (length kept)) no_test)) s.1 h.1.1.1.1.1 in
    let q = Each-append_parts IsSpelled ((set_literal (λ kept value. one_more c (length kept)) no_test).spell (closing s.1)) (Plain (Stop Semicolon) ∷ []) p.1.1 in (
      (
        tt,
        (
          tt,
          (
            tt,
            (
              tt,
              (
                h.1.1.1.1.0,
                (
                  tt,
                  Each-append IsSpelled ((set_literal (λ kept value. one_more c (length kept)) no_test).spell (set_words (set_of (closing s.1)))) (Plain (Stop Semicolon) ∷ [])
                      (set_spelled (λ k v. one_more c k) no_test (closing s.1) q.0) (tt, tt),
                ),
              ),
            ),
          ),
        ),
      ),
      tt,
    )
item_spelled c (inr (inr (inr (inr (inl a))))) e h = array_spelled c a e h
item_spelled c (inr (inr (inr (inr (inr v))))) e h =
    let q = Each-append_parts IsSpelled ((var_type (domain_test c) beyond_small).spell v.0) (Plain (Stop Colon) ∷ Plain (Named v.1.0) ∷ (annotated (λ notes. variable_end c v.0)).spell v.1.1) h.1 in
    let r = annotated_spelled (λ notes. variable_end c v.0) v.1.1 q.1.1.1 in
    let t = type_words (type_of v.0) in
    let o = is_noted (codes "output_var") (notes_of v.1.1) in (
      (
        tt,
        Each-append IsSpelled ((var_type (domain_test c) beyond_small).spell t) (Plain (Stop Colon) ∷ Plain (Named v.1.0) ∷ (annotated (λ notes. variable_end c t)).spell (marked o (clean_definition (closing v.1.1))))
            (type_spelled (λ k x. or_else (beyond_small x) (one_more c k)) beyond_small v.0 q.0)
            (tt, (q.1.1.0, marked_spelled (variable_end c t) o (clean_definition (closing v.1.1)) (end_spelled c v.0 t (closing v.1.1) r.1))),
      ),
      tt,
    )

-- ---- the whole

spelled_make : {X C : Type 0} (link : Link Word Fault X C) (kept xs : List X) (c : C) → EachBehind (λ before x. Each IsSpelled ((link before).spell (inl x))) kept xs → Each IsSpelled ((link (kept ++ xs)).spell (inr c))
    → Each IsSpelled (spell_behind link kept xs c)
spelled_make link kept [] c h e = subst (λ k. Each IsSpelled ((link k).spell (inr c))) (append-nil kept) e
spelled_make link kept (x ∷ xs) c h e =
    Each-append IsSpelled ((link kept).spell (inl x)) (spell_behind link (kept ++ x ∷ []) xs c) h.0
    (spelled_make link (kept ++ x ∷ []) xs c h.1 (subst (λ k. Each IsSpelled ((link k).spell (inr c))) (sym (append_assoc kept (x ∷ []) xs)) e))

abbrev IsSaid : List ItemWords → ItemWords → Type 0
IsSaid kept x = AllSpelled (context_of kept) x

said_front : (c : Context) (kept ys zs : List ItemWords) → context_of kept ≡ c → Each (AllSpelled c) ys → (ys ≡ []) ⊎ ((y : ItemWords) × (ys ≡ y ∷ [])) → EachBehind IsSaid (kept ++ ys) zs → EachBehind IsSaid kept (ys ++ zs)
said_front c kept ys zs e h (inl none) more =
    subst (λ l. EachBehind IsSaid (kept ++ l) zs → EachBehind IsSaid kept (l ++ zs)) (sym none) (λ m. subst (λ k. EachBehind IsSaid k zs) (append-nil kept) m) more
said_front c kept ys zs e h (inr one) more =
    let first : AllSpelled c one.0 = (subst (Each (AllSpelled c)) one.1 h).0 in
    subst (λ l. EachBehind IsSaid (kept ++ l) zs → EachBehind IsSaid kept (l ++ zs)) (sym one.1) (λ m. (subst (λ d. AllSpelled d one.0) (sym e) first, m)) more

after_more : (c : Context) (kept more : List ItemWords) → after_items c (kept ++ more) ≡ after_items (after_items c kept) more
after_more c [] more = refl
after_more c (k ∷ kept) more = after_more (after_item c k) kept more

said_again : (c : Context) (kept cleaned xs : List ItemWords) → context_of kept ≡ c → context_of cleaned ≡ c → EachBehind IsFree kept xs → EachBehind IsSaid kept xs → EachBehind IsSaid cleaned (flat_map clean_item xs)
said_again c kept cleaned [] e f h s = tt
said_again c kept cleaned (x ∷ xs) e f h s =
    let free : (item_production c).fault x ≡ None = subst (λ d. (item_production d).fault x ≡ None) e h.0 in
    let said : AllSpelled c x = subst (λ d. AllSpelled d x) e s.0 in
    said_front c cleaned (clean_item x) (flat_map clean_item xs) f (item_spelled c x free said) (few x)
    (said_again (after_item c x) (kept ++ x ∷ []) (cleaned ++ clean_item x) xs
    (after_one nothing kept x ∙ ap (λ d. after_item d x) e)
    (after_more nothing cleaned (clean_item x) ∙ ap (λ d. after_items d (clean_item x)) f ∙ item_after c x) h.1 s.1)

constraint_spelled : (c : Context) (kept : List ConstraintWords) (q : ConstraintWords) → Each IsSpelled ((constraint_item c kept).spell q) → Each IsSpelled ((constraint_item c (map clean_constraint kept)).spell (clean_constraint q))
constraint_spelled c kept q h =
    let old = (listed (args_listing (behind_constraints c kept) (kind_named q.0))).spell q.1.0 in
    let p = Each-append_parts IsSpelled old ((annotated (λ notes. stop Semicolon)).spell q.1.1) h.1.1.1 in (
      tt,
      (
        h.1.0,
        (
          tt,
          Each-append IsSpelled ((listed (args_listing (behind_constraints c (map clean_constraint kept)) (kind_named q.0))).spell (map clean_arg q.1.0)) (Plain (Stop Semicolon) ∷ [])
              (args_spelled (behind_constraints c kept) (behind_constraints c (map clean_constraint kept)) (kind_named q.0) q.1.0 p.0) (tt, tt),
        ),
      ),
    )

clean_spelled : (w : ModelWords) → model.fault w ≡ None → Each IsSpelled (model.spell w) → Each IsSpelled (model.spell (clean w))
clean_spelled w e h =
    let p = spelled_behind (λ kept. either begins_item (item_production (context_of kept)) (rest_of (context_of kept))) [] w.0 w.1 h in
    let q = spelled_behind (λ kept. either (is_key key.Constraint) (constraint_item (context_of w.0) kept) (solve_item (context_of w.0))) [] w.1.0 w.1.1 p.1 in
    let rest : Each IsSpelled ((rest_of (context_of w.0)).spell (map clean_constraint w.1.0, plain (closing w.1.1))) =
    spelled_make (λ kept. either (is_key key.Constraint) (constraint_item (context_of w.0) kept) (solve_item (context_of w.0))) [] (map clean_constraint w.1.0) (plain (closing w.1.1))
    (EachBehind-map (λ before x. Each IsSpelled ((constraint_item (context_of w.0) before).spell x)) (λ before x. Each IsSpelled ((constraint_item (context_of w.0) before).spell x)) clean_constraint
    (λ kept x k. constraint_spelled (context_of w.0) kept x k) [] w.1.0 q.0)
    (tt, (annotated_spelled (λ notes. goal (context_of w.0)) w.1.1 q.1.1).1) in
    spelled_make (λ kept. either begins_item (item_production (context_of kept)) (rest_of (context_of kept))) [] (flat_map clean_item w.0) (map clean_constraint w.1.0, plain (closing w.1.1))
    (said_again nothing [] [] w.0 refl refl (many_parts items_repeat w e).0 p.0)
    (subst (λ d. Each IsSpelled ((rest_of d).spell (map clean_constraint w.1.0, plain (closing w.1.1)))) (sym (context_again nothing w.0)) rest)

-- the words of the canonical spelling of a model are words of tokens
pub canonical_spelled : (m : Plan) → IsModel m → Each IsSpelled (model.spell (canonical m))
canonical_spelled m is =
    subst (λ p. Each IsSpelled (model.spell (canonical p))) is.means
    (subst (λ v. Each IsSpelled (model.spell v)) (sym (canonical_is is.words is.passes)) (clean_spelled is.words is.passes is.spelled))
