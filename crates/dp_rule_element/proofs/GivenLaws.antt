-- What the entries that can be selected give is what the part gives.
use Rattle.std.proofs.Common.{◌≡◌, ℕ, ◌+◌, ◌<◌, true, false, not, List, [], ◌∷◌, length, get_or, drop, ℤ, pos, Option, Some, None, option_map, is_some, refl, sym, ◌∙◌, ap, subst, inl}
use Rattle.std.specs.Prelude.{◌&&◌, ◌||◌}
use Rattle.std.specs.List.{list_any}
use Rattle.std.proofs.lemmas.Bool.{and_parts, both_ways, cond-false, cond-true, not-true, not_from_false, not_from_true, or_from, or_right}
use Rattle.std.proofs.lemmas.List.{drop_more}
use Rattle.dp_base.specs.Lists.{Among}
use Rattle.dp_base.proofs.Lists.{Each-among, list_any-none, list_any-some}
use Rattle.dp_domain.specs.Atoms.{Atomic}
use Rattle.dp_domain.specs.declared.found.Found.TheVariants.{Clash, Atom}
use Rattle.dp_domain.specs.Faces.{Face}
use Rattle.dp_domain.specs.Sets.{IsDomain}
use Rattle.dp_domain.specs.States.{Domains, is_dead, values}
use Rattle.dp_domain.specs.Supports.{bound_by}
use Rattle.dp_domain.specs.Terms.{term_values}
use Rattle.dp_domain.specs.Turns.{given, given_on, or_else, turn_of}
use Rattle.dp_domain.specs.declared.term.Term.{Term}
use Rattle.dp_domain.specs.declared.term.Term.TheVariants.{Var}
use Rattle.dp_domain.proofs.SupportLaws.{support-all, support-bound, support-none}
use Rattle.dp_rule_element.specs.declared.choice.Choice.{Choice}
use Rattle.dp_rule_element.specs.declared.choice.Choice.TheVariants.{Nothing, Only, Free}
use Rattle.dp_rule_element.specs.Choices.{IsChoiceOf, IsGivenBy, IsOffered, IsOther, IsSelectable, atom_by, is_apart, is_nothing, is_only, stand_apart}
use Rattle.dp_rule_element.specs.SelectionLaws.{among_at, variable_exact}
use Rattle.dp_rule_element.specs.Selections.{IsEntry, Selection, any_selectable, face_element, is_selectable, is_variable, numbered, scope_of}
use Rattle.dp_rule_element.proofs.ChoiceLaws.{IsNoEntry, entry-support, free-support, index-support, value-support}
use Rattle.dp_rule_element.proofs.ChoiceSteps.{Shares, none_selectable, numbered_where, selectable_where, shares_where}

-- ---- what stands apart

apart_other : (x : ℕ) (t : Term) (others : List Term) → is_apart t others ≡ true → t ≡ Var x → (u : Term) → Among u others → IsOther x u
apart_other x t others a e u here =
    let none : not (list_any (λ v. is_variable v x) others) ≡ true = subst (λ v. is_apart v others ≡ true) e a in
    λ k. both_ways (is_variable u x) (list_any-none (λ v. is_variable v x) others u (not-true (list_any (λ v. is_variable v x) others) none) here) ((variable_exact u x).1 k)

no_entry : (x : ℕ) (q : Selection) (t : Term) → is_apart t q.array ≡ true → t ≡ Var x → IsNoEntry x q
no_entry x q t a e = λ i entry there. apart_other x t q.array a e entry (among_at q.array there.0 entry there.2)

other_where : (t : Term) (x : ℕ) → is_variable t x ≡ false → IsOther x t
other_where t x f = λ k. both_ways (is_variable t x) f ((variable_exact t x).1 k)

record Apart (q : Selection) : Type 0 where
  one : is_apart q.index (q.value ∷ []) ≡ true
  two : is_apart q.index q.array ≡ true
  three : is_apart q.value q.array ≡ true

apart_parts : (q : Selection) → stand_apart q ≡ true → Apart q
apart_parts q s =
    let a = and_parts (is_apart q.index (q.value ∷ []) && is_apart q.index q.array) (is_apart q.value q.array) s in
    let b = and_parts (is_apart q.index (q.value ∷ [])) (is_apart q.index q.array) a.0 in
    record { one = b.0; two = b.1; three = a.1 }

-- the values of the index are those of its variable
pub index_domain : (d : Domains) (t : Term) (x : ℕ) → is_variable t x ≡ true → IsDomain (values d x) → IsDomain (term_values d t)
index_domain d t x e h = subst (λ u. IsDomain (term_values d u)) (sym ((variable_exact t x).0 e)) h

-- where an entry can be selected, it does not clash
calm : (q : Selection) (d : Domains) → is_dead d ≡ false → any_selectable q d ≡ true → (face_element q).test d ≡ false
calm q d l s = or_from (is_dead d) (not (any_selectable q d)) l (not_from_true (any_selectable q d) s)

-- ---- one variable

-- what is given on the index
pub index_given : (q : Selection) (d : Domains) (x : ℕ) (vs : List ℤ) (o : Option Atomic) → vs ≡ values d x → x < length d → is_dead d ≡ false → any_selectable q d ≡ true → stand_apart q ≡ true → is_variable q.index x ≡ true
    → IsGivenBy (λ good. atom_by vs good x) (IsSelectable q d) o → o ≡ given_on (face_element q) d x
index_given q d x vs o same h l s a t k =
    let g : IsGivenBy (λ good. atom_by (values d x) good x) (IsSelectable q d) o = subst (λ ws. IsGivenBy (λ good. atom_by ws good x) (IsSelectable q d) o) same k in
    let e = (variable_exact q.index x).0 t in
    let p = apart_parts q a in
    g.3
    ∙ sym (support-all (face_element q) d x g.0 h l (calm q d l s)
    (index-support q d x g.0 l h e (apart_other x q.index (q.value ∷ []) p.one e q.value (inl refl)) (no_entry x q q.index p.two e) g.1 g.2) (λ v m. t))

-- what is given on the value
pub value_given : (q : Selection) (d : Domains) (x : ℕ) (vs : List ℤ) (o : Option Atomic) → vs ≡ values d x → x < length d → is_dead d ≡ false → any_selectable q d ≡ true → stand_apart q ≡ true → is_variable q.index x ≡ false → is_variable q.value x ≡ true
    → IsGivenBy (λ good. bound_by vs good x) (λ v. Among v vs × IsOffered d q.index q.array v) o → o ≡ given_on (face_element q) d x
value_given q d x vs o same h l s a f t k =
    let g : IsGivenBy (λ good. bound_by (values d x) good x) (λ v. Among v (values d x) × IsOffered d q.index q.array v) o =
    subst (λ ws. IsGivenBy (λ good. bound_by ws good x) (λ v. Among v ws × IsOffered d q.index q.array v) o) same k
    in
    let e = (variable_exact q.value x).0 t in
    let p = apart_parts q a in
    g.3
    ∙ sym (support-bound (face_element q) d x g.0 h l (calm q d l s)
    (value-support q d x g.0 l h e (other_where q.index x f) (no_entry x q q.value p.three e) g.1 g.2) (λ v. f))

-- what is given on the one variable that can be selected
pub entry_given : (q : Selection) (d : Domains) (x : ℕ) (vs : List ℤ) (o : Option Atomic) (c : Choice) → vs ≡ values d x → x < length d → is_dead d ≡ false → any_selectable q d ≡ true → is_variable q.index x ≡ false → is_variable q.value x ≡ false
    → IsChoiceOf (is_selectable d q.index q.value) (numbered q.array) c → is_only c x ≡ true → IsGivenBy (λ good. bound_by vs good x) (λ v. Among v vs × Among v (term_values d q.value)) o → o ≡ given_on (face_element q) d x
entry_given q d x vs o Nothing same h l s f m c t k = absurd (both_ways false refl t)
entry_given q d x vs o Free same h l s f m c t k = absurd (both_ways false refl t)
entry_given q d x vs o (Only y) same h l s f m c t k =
    let g : IsGivenBy (λ good. bound_by (values d x) good x) (λ v. Among v (values d x) × Among v (term_values d q.value)) o =
    subst (λ ws. IsGivenBy (λ good. bound_by ws good x) (λ v. Among v ws × Among v (term_values d q.value)) o) same k
    in
    let e : Var y ≡ Var x = (variable_exact (Var y) x).0 t in
    let only = Each-among (λ (i : ℕ × Term). is_selectable d q.index q.value i ≡ true → i.1 ≡ Var y) (numbered q.array) c.1 in
    let r = list_any-some (is_selectable d q.index q.value) (numbered q.array) c.0 in
    let w : Shares d q.index q.value q.array r.0 = shares_where d q.index q.value q.array r.0 r.1 r.2 in
    let is_x : r.0.1 ≡ Var x = only r.0 r.1 r.2 ∙ e in
    g.3
    ∙ sym (support-bound (face_element q) d x g.0 h l (calm q d l s)
    (entry-support q d x g.0 (pos r.0.0) l h (other_where q.index x f) (other_where q.value x m) w.reached (subst (IsEntry q.array (pos r.0.0)) is_x w.there)
    (λ j entry in_index there v first second.
    let n = numbered_where q.array j entry there in
    only (n.number, entry) n.here (selectable_where d q.index q.value q.array j v entry n in_index first second) ∙ e)
    g.1 g.2) (λ v. f))

-- nothing is given on a variable beside which another entry can be selected
beside_given : (q : Selection) (d : Domains) (x : ℕ) (i : ℕ × Term) → IsDomain (values d x) → x < length d → is_dead d ≡ false → any_selectable q d ≡ true → is_variable q.index x ≡ false → is_variable q.value x ≡ false
    → Among i (numbered q.array) → is_selectable d q.index q.value i ≡ true → IsOther x i.1 → None ≡ given_on (face_element q) d x
beside_given q d x i domain h l s f m here t other =
    let w : Shares d q.index q.value q.array i = shares_where d q.index q.value q.array i here t in
    sym (support-none (face_element q) d x (values d x) h l (calm q d l s)
    (free-support q d x (pos i.0) i.1 w.shared l h (other_where q.index x f) (other_where q.value x m) other w.reached w.there w.first w.second domain) refl)

pub free_given : (q : Selection) (d : Domains) (x : ℕ) (c : Choice) → IsDomain (values d x) → x < length d → is_dead d ≡ false → any_selectable q d ≡ true → is_variable q.index x ≡ false → is_variable q.value x ≡ false
    → IsChoiceOf (is_selectable d q.index q.value) (numbered q.array) c → is_only c x ≡ false → None ≡ given_on (face_element q) d x
free_given q d x Nothing domain h l s f m c t =
    absurd (both_ways (any_selectable q d) (none_selectable (is_selectable d q.index q.value) (numbered q.array) Nothing c refl) s)
free_given q d x (Only y) domain h l s f m c t =
    let r = list_any-some (is_selectable d q.index q.value) (numbered q.array) c.0 in
    let e : r.0.1 ≡ Var y = Each-among (λ (i : ℕ × Term). is_selectable d q.index q.value i ≡ true → i.1 ≡ Var y) (numbered q.array) c.1 r.0 r.1 r.2 in
    beside_given q d x r.0 domain h l s f m r.1 r.2 (λ k. both_ways (is_variable (Var y) x) t ((variable_exact (Var y) x).1 (sym e ∙ k)))
free_given q d x Free domain h l s f m c t = let r = c x in beside_given q d x r.0 domain h l s f m r.1 r.2 r.3

-- ---- one variable after another

given_from : (f : Face) (d : Domains) (scope : List ℕ) (i x : ℕ) → i < length scope → x ≡ get_or scope i x → given f d (drop i scope) ≡ or_else (given_on f d x) (given f d (drop (i + 1) scope))
given_from f d scope i x h e =
    ap (given f d) (drop_more scope i x h)
    ∙ ap (λ y. or_else (given_on f d y) (given f d (drop (i + 1) scope))) (sym e)

first_there : (a b : Option Atomic) → is_some a ≡ true → or_else a b ≡ a
first_there None b e = absurd (both_ways false refl e)
first_there (Some a) b e = refl

first_absent : (a b : Option Atomic) → is_some a ≡ false → or_else a b ≡ b
first_absent None b e = refl
first_absent (Some a) b e = absurd (both_ways true e refl)

-- a variable that is given something gives the answer of all
pub given_found : (f : Face) (d : Domains) (scope : List ℕ) (i x : ℕ) (o : Option Atomic) → given f d (drop i scope) ≡ given f d scope → i < length scope → x ≡ get_or scope i x → o ≡ given_on f d x → is_some o ≡ true → o ≡ given f d scope
given_found f d scope i x o rest h e k t =
    sym (first_there o (given f d (drop (i + 1) scope)) t) ∙ ap (λ p. or_else p (given f d (drop (i + 1) scope))) k ∙ sym (given_from f d scope i x h e) ∙ rest

-- a variable that is given nothing leaves the answer to the others
pub given_more : (f : Face) (d : Domains) (scope : List ℕ) (i x : ℕ) (o : Option Atomic) → given f d (drop i scope) ≡ given f d scope → i < length scope → x ≡ get_or scope i x → o ≡ given_on f d x → is_some o ≡ false → given f d (drop (i + 1) scope) ≡ given f d scope
given_more f d scope i x o rest h e k t =
    sym (first_absent o (given f d (drop (i + 1) scope)) t) ∙ ap (λ p. or_else p (given f d (drop (i + 1) scope))) k ∙ sym (given_from f d scope i x h e) ∙ rest

-- ---- the turn

pub clash_found : (q : Selection) (d : Domains) (c : Choice) → IsChoiceOf (is_selectable d q.index q.value) (numbered q.array) c → is_nothing c ≡ true → Some Clash ≡ turn_of (face_element q) d
clash_found q d c h e =
    sym (cond-true (is_dead d || not (any_selectable q d)) _ _
    (or_right (is_dead d) (not (any_selectable q d)) (not_from_false (any_selectable q d) (none_selectable (is_selectable d q.index q.value) (numbered q.array) c h e))))

pub turn_found : (q : Selection) (d : Domains) (scope : List ℕ) (o : Option Atomic) → scope ≡ scope_of q → is_dead d ≡ false → any_selectable q d ≡ true → o ≡ given (face_element q) d scope → option_map Atom o ≡ turn_of (face_element q) d
turn_found q d scope o e l s k =
    ap (option_map Atom) k ∙ ap (λ xs. option_map Atom (given (face_element q) d xs)) e
    ∙ sym (cond-false (is_dead d || not (any_selectable q d)) _ _ (calm q d l s))
