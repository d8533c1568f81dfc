-- What can be selected, one entry on.
use Rattle.std.proofs.Common.{◌≡◌, ℕ, ◌+◌, ◌<◌, ◌≤◌, Bool, true, false, cond, List, [], ◌∷◌, ◌++◌, length, get_or, take, ℤ, pos, refl, sym, ◌∙◌, ap, subst, inl, inr, arith}
use Rattle.std.specs.Prelude.{if◌then◌else◌}
use Rattle.std.specs.List.{list_any}
use Rattle.std.proofs.lemmas.Bool.{and_from, and_parts, both_ways, cases_eq}
use Rattle.std.proofs.lemmas.List.{take_all, take_more}
use Rattle.std.proofs.lemmas.List.FromFn.{length-enumerate_from}
use Rattle.dp_base.specs.Lists.{Among, Each}
use Rattle.dp_base.proofs.Lists.{Among-append_left, Among-append_right, Each-among, Each-append, Each-weaker, list_any-at, list_any-not, list_any-some}
use Rattle.dp_domain.specs.Sets.{is_among, share}
use Rattle.dp_domain.specs.States.{Domains}
use Rattle.dp_domain.specs.Terms.{term_values}
use Rattle.dp_domain.specs.declared.term.Term.{Term}
use Rattle.dp_domain.specs.declared.term.Term.TheVariants.{Var, Const}
use Rattle.dp_domain.proofs.ShareLaws.{is_among-at, is_among-some, share-at, share-some}
use Rattle.dp_rule_element.specs.declared.choice.Choice.{Choice}
use Rattle.dp_rule_element.specs.declared.choice.Choice.TheVariants.{Nothing, Only, Free}
use Rattle.dp_rule_element.specs.Choices.{IsChoiceOf, choice_of, is_free, is_nothing, joined}
use Rattle.dp_rule_element.specs.SelectionLaws.{among_numbered, numbered_at, variable_exact}
use Rattle.dp_rule_element.specs.Selections.{IsEntry, is_selectable, is_variable, numbered}
use Rattle.dp_rule_element.proofs.EntrySteps.{entry_at}

-- ---- entries that can be selected

-- a numbered entry that can be selected: a number that it shares with the value
pub record Shares (d : Domains) (index value : Term) (xs : List Term) (e : ℕ × Term) : Type 0 where
  pub shared : ℤ
  pub reached : Among (pos e.0) (term_values d index)
  pub there : IsEntry xs (pos e.0) e.1
  pub first : Among shared (term_values d e.1)
  pub second : Among shared (term_values d value)

next : (n : ℕ) → 1 + n ≡ n + 1
next n = omega arith

-- a numbered entry is one of the array
pub is_entry : (xs : List Term) (e : ℕ × Term) → Among e (numbered xs) → IsEntry xs (pos e.0) e.1
is_entry xs e here = let r = numbered_at 1 xs e here in (r.0, ap (λ (n : ℕ). pos n) (r.1 ∙ next r.0), r.2)

pub shares_where : (d : Domains) (index value : Term) (xs : List Term) (e : ℕ × Term) → Among e (numbered xs) → is_selectable d index value e ≡ true → Shares d index value xs e
shares_where d index value xs e here t =
    let both = and_parts (is_among (pos e.0) (term_values d index)) (share (term_values d e.1) (term_values d value)) t in
    let v = share-some (term_values d e.1) (term_values d value) both.1 in record {
      shared = v.0;
      reached = is_among-some (pos e.0) (term_values d index) both.0;
      there = is_entry xs e here;
      first = v.1;
      second = v.2;
    }

-- an entry of the array is a numbered one
pub record IsNumbered (xs : List Term) (i : ℤ) (entry : Term) : Type 0 where
  pub number : ℕ
  pub here : Among (number, entry) (numbered xs)
  pub same : i ≡ pos number

pub numbered_where : (xs : List Term) (i : ℤ) (entry : Term) → IsEntry xs i entry → IsNumbered xs i entry
numbered_where xs i entry there = record {
  number = 1 + there.0;
  here = among_numbered 1 xs there.0 entry there.2;
  same = there.1 ∙ ap (λ (n : ℕ). pos n) (sym (next there.0));
}

pub selectable_where : (d : Domains) (index value : Term) (xs : List Term) (i v : ℤ) (entry : Term) (n : IsNumbered xs i entry) → Among i (term_values d index) → Among v (term_values d entry) → Among v (term_values d value) → is_selectable d index value (n.number, entry) ≡ true
selectable_where d index value xs i v entry n in_index first second =
    and_from (is_among (pos n.number) (term_values d index)) (share (term_values d entry) (term_values d value))
    (is_among-at (pos n.number) (term_values d index) (subst (λ j. Among j (term_values d index)) n.same in_index))
    (share-at (term_values d entry) (term_values d value) v first second)

-- ---- one entry more

some_kept : (p : ℕ × Term → Bool) (es : List (ℕ × Term)) (e : ℕ × Term) → list_any p es ≡ true → list_any p (es ++ e ∷ []) ≡ true
some_kept p es e t = let r = list_any-some p es t in list_any-at p (es ++ e ∷ []) r.0 (Among-append_left r.0 es (e ∷ []) r.1) r.2

some_new : (p : ℕ × Term → Bool) (es : List (ℕ × Term)) (e : ℕ × Term) → p e ≡ true → list_any p (es ++ e ∷ []) ≡ true
some_new p es e t = list_any-at p (es ++ e ∷ []) e (Among-append_right e es (e ∷ []) (inl refl)) t

-- one that can't be selected changes nothing
choice_kept : (p : ℕ × Term → Bool) (es : List (ℕ × Term)) (e : ℕ × Term) (c : Choice) → p e ≡ false → IsChoiceOf p es c → IsChoiceOf p (es ++ e ∷ []) c
choice_kept p es e Nothing f h = Each-append (λ (g : ℕ × Term). p g ≡ false) es (e ∷ []) h (f, tt)
choice_kept p es e (Only x) f h = (some_kept p es e h.0, Each-append (λ (g : ℕ × Term). p g ≡ true → g.1 ≡ Var x) es (e ∷ []) h.1 (λ t. absurd (both_ways (p e) f t), tt))
choice_kept p es e Free f h = λ x. let r = h x in (r.0, Among-append_left r.0 es (e ∷ []) r.1, r.2, r.3)

var_const : (x : ℕ) (v : ℤ) → Const v ≡ Var x → ⊥
var_const x v e = cc

-- the first that can be selected
choice_first : (p : ℕ × Term → Bool) (es : List (ℕ × Term)) (e : ℕ × Term) (t : Term) → e.1 ≡ t → p e ≡ true → Each (λ (g : ℕ × Term). p g ≡ false) es → IsChoiceOf p (es ++ e ∷ []) (choice_of t)
choice_first p es e (Var x) k f h = (
  some_new p es e f,
  Each-append (λ (g : ℕ × Term). p g ≡ true → g.1 ≡ Var x) es (e ∷ [])
      (Each-weaker (λ (g : ℕ × Term). p g ≡ false) (λ (g : ℕ × Term). p g ≡ true → g.1 ≡ Var x) (λ g fails passes. absurd (both_ways (p g) fails passes)) es h) (λ _. k, tt),
)
choice_first p es e (Const v) k f h = λ x. (e, Among-append_right e es (e ∷ []) (inl refl), f, λ s. var_const x v (sym k ∙ s))

same_var : (x y : ℕ) → Var x ≡ Var y → x ≡ y
same_var x y e = cc

-- one more beside one variable
choice_more : (p : ℕ × Term → Bool) (es : List (ℕ × Term)) (e : ℕ × Term) (x : ℕ) (b : Bool) → is_variable e.1 x ≡ b → p e ≡ true → IsChoiceOf p es (Only x) → IsChoiceOf p (es ++ e ∷ []) (cond b (Only x) Free)
choice_more p es e x true k f h = (some_new p es e f, Each-append (λ (g : ℕ × Term). p g ≡ true → g.1 ≡ Var x) es (e ∷ []) h.1 (λ _. (variable_exact e.1 x).0 k, tt))
choice_more p es e x false k f h = λ y. elim (cases_eq y x) [
  | inl same ↦ (e, Among-append_right e es (e ∷ []) (inl refl), f, λ s. both_ways (is_variable e.1 x) k ((variable_exact e.1 x).1 (s ∙ ap (λ (z : ℕ). Var z) same)))
  | inr apart ↦
      let r = list_any-some p es h.0 in (
        r.0,
        Among-append_left r.0 es (e ∷ []) r.1,
        r.2,
        λ s. apart (same_var y x (sym s ∙ Each-among (λ (g : ℕ × Term). p g ≡ true → g.1 ≡ Var x) es h.1 r.0 r.1 r.2)),
      )
]

choice_joined : (p : ℕ × Term → Bool) (es : List (ℕ × Term)) (e : ℕ × Term) (c : Choice) → p e ≡ true → IsChoiceOf p es c → IsChoiceOf p (es ++ e ∷ []) (joined c e.1)
choice_joined p es e Nothing f h = choice_first p es e e.1 refl f h
choice_joined p es e (Only x) f h = choice_more p es e x (is_variable e.1 x) refl f h
choice_joined p es e Free f h = λ x. let r = h x in (r.0, Among-append_left r.0 es (e ∷ []) r.1, r.2, r.3)

choice_by : (p : ℕ × Term → Bool) (es : List (ℕ × Term)) (e : ℕ × Term) (c : Choice) (b : Bool) → p e ≡ b → IsChoiceOf p es c → IsChoiceOf p (es ++ e ∷ []) (cond b (joined c e.1) c)
choice_by p es e c true f h = choice_joined p es e c f h
choice_by p es e c false f h = choice_kept p es e c f h

-- ---- the loop

-- the entries so far and one more
pub one_more : (xs : List Term) (i : ℕ) (t : Term) → i < length xs → t ≡ get_or xs i t → take (i + 1) (numbered xs) ≡ take i (numbered xs) ++ (let e : ℕ × Term = (i + 1, t) in e) ∷ []
one_more xs i t h e =
    take_more (numbered xs) i (0, t) (subst (λ n. i < n) (sym (length-enumerate_from 1 xs)) h)
    ∙ ap (λ (f : ℕ × Term). take i (numbered xs) ++ f ∷ []) (entry_at xs i t h e)

-- all entries
pub all_entries : (xs : List Term) (i : ℕ) → length xs ≤ i → take i (numbered xs) ≡ numbered xs
all_entries xs i h = take_all i (numbered xs) (subst (λ n. n ≤ i) (sym (length-enumerate_from 1 xs)) h)

pub choice_next : (p : ℕ × Term → Bool) (xs : List Term) (i : ℕ) (t : Term) (c k : Choice) → i < length xs → t ≡ get_or xs i t → IsChoiceOf p (take i (numbered xs)) c → k ≡ (if p (i + 1, t) then joined c t else c) → IsChoiceOf p (take (i + 1) (numbered xs)) k
choice_next p xs i t c k h e before now =
    let f : ℕ × Term = (i + 1, t) in
    subst (λ es. IsChoiceOf p es k) (sym (one_more xs i t h e)) (subst (λ (m : Choice). IsChoiceOf p (take i (numbered xs) ++ f ∷ []) m) (sym now) (choice_by p (take i (numbered xs)) f c (p f) refl before))

pub choice_all : (p : ℕ × Term → Bool) (xs : List Term) (i : ℕ) (c : Choice) → length xs ≤ i → IsChoiceOf p (take i (numbered xs)) c → IsChoiceOf p (numbered xs) c
choice_all p xs i c h so = subst (λ es. IsChoiceOf p es c) (all_entries xs i h) so

-- ---- the step

-- a choice that is free stays so
pub free_stays : (b : Bool) (c : Choice) (t : Term) → is_free c ≡ true → Free ≡ (if b then joined c t else c)
free_stays b Nothing t e = absurd (both_ways false refl e)
free_stays b (Only x) t e = absurd (both_ways false refl e)
free_stays true Free t e = refl
free_stays false Free t e = refl

-- ---- whether it clashes

pub none_selectable : (p : ℕ × Term → Bool) (es : List (ℕ × Term)) (c : Choice) → IsChoiceOf p es c → is_nothing c ≡ true → list_any p es ≡ false
none_selectable p es Nothing h e = list_any-not p es (λ g here. Each-among (λ (f : ℕ × Term). p f ≡ false) es h g here)
none_selectable p es (Only x) h e = absurd (both_ways false refl e)
none_selectable p es Free h e = absurd (both_ways false refl e)

pub some_selectable : (p : ℕ × Term → Bool) (es : List (ℕ × Term)) (c : Choice) → IsChoiceOf p es c → is_nothing c ≡ false → list_any p es ≡ true
some_selectable p es Nothing h e = absurd (both_ways true e refl)
some_selectable p es (Only x) h e = h.0
some_selectable p es Free h e = let r = h 0 in list_any-at p es r.0 r.1 r.2
