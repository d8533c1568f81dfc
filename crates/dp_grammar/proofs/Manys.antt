-- Lawful links are lawful together, and so are items with a close.
use Rattle.std.proofs.Common.{◌≡◌, ℕ, zero, suc, ◌-◌, ◌<◌, Bool, true, ◌⊎◌, inl, inr, List, [], ◌∷◌, ◌++◌, length, Option, Some, None, refl, sym, ap, subst, ◌∙◌, append_assoc, length-append, arith}
use Rattle.std.proofs.lemmas.List.{append-nil}
use Rattle.dp_grammar.specs.Grammar.{Syntax, Reading, Takes, Stops, verdict, Tells, IsLawful}
use Rattle.dp_grammar.specs.Chain.{followed, mapped}
use Rattle.dp_grammar.specs.Choice.{IsLed, either}
use Rattle.dp_grammar.specs.Many.{Link, spell_behind, fault_behind, with_item, linked, read_behind, links_behind, links, IsLink, step, Repeat, many, IsRepeat}
use Rattle.dp_grammar.proofs.Carry.{mapped_verdict, no_first_fault, chained, behind, within}
use Rattle.dp_grammar.proofs.Choices.{either_lawful}

-- what is read behind an item
abbrev after : {T F X C : Type 0} → Link T F X C → List X → X → List T → Reading T F (List X × C)
after link kept x rest = read_behind link (kept ++ x ∷ []) rest 0

-- ---- the tokens of the last item are passed over

passed : {T F X C : Type 0} (link : Link T F X C) (kept : List X) (s rest : List T) → read_behind link kept (s ++ rest) (length s) ≡ read_behind link kept rest 0
unfolding read_behind
passed link kept [] [] = refl
passed link kept [] (t ∷ rest) = refl
passed link kept (t ∷ s) rest = passed link kept s rest

passed_item : {T F X C : Type 0} (link : Link T F X C) (kept : List X) (t : T) (text s rest : List T) → IsLed (λ _. true) true s → t ∷ text ≡ s ++ rest
    → read_behind link kept text (length text - length rest) ≡ read_behind link kept rest 0
passed_item link kept t text [] rest led e = absurd led
passed_item {T} link kept t text (u ∷ s) rest led e =
    let is : text ≡ s ++ rest = cc in
    let len : length (s ++ rest) - length rest ≡ length s = omega (arith, length-append s rest) in
    ap (λ (q : List T). read_behind link kept q (length q - length rest)) is
    ∙ ap (λ (n : ℕ). read_behind link kept (s ++ rest) n) len
    ∙ passed link kept s rest

same_after : {T F X C : Type 0} (link : Link T F X C) → IsLink link → (kept : List X) (t : T) (text : List T) (read : Reading T F (X ⊎ C)) → Tells (link kept) (t ∷ text) read
    → followed read (linked (λ x rest. read_behind link (kept ++ x ∷ []) text (length text - length rest))) ≡ followed read (linked (after link kept))
same_after {T} {F} {X} {C} link is kept t text (Takes (inl x) rest) tell =
    ap (mapped (with_item x)) (passed_item link (kept ++ x ∷ []) t text ((link kept).spell (inl x)) rest (is.takes kept x) tell.0)
same_after link is kept t text (Takes (inr c) rest) tell = refl
same_after link is kept t text (Stops cause rest) tell = refl

not_empty : {T : Type 0} (s rest : List T) → IsLed (λ _. true) true s → [] ≡ s ++ rest → ⊥
not_empty [] rest led e = led
not_empty (t ∷ s) rest led e = absurd cc

same_at_end : {T F X C : Type 0} (link : Link T F X C) → IsLink link → (kept : List X) (read : Reading T F (X ⊎ C)) → Tells (link kept) [] read
    → followed read (linked (λ x rest. Stops Syntax rest)) ≡ followed read (linked (after link kept))
same_at_end link is kept (Takes (inl x) rest) tell = absurd (not_empty ((link kept).spell (inl x)) rest (is.takes kept x) tell.0)
same_at_end link is kept (Takes (inr c) rest) tell = refl
same_at_end link is kept (Stops cause rest) tell = refl

-- Reading is a link and, behind an item, what follows.
pub unrolled : {T F X C : Type 0} (link : Link T F X C) → IsLink link → (kept : List X) (text : List T) → read_behind link kept text 0 ≡ step link kept text
unfolding read_behind
unrolled link is kept [] = same_at_end link is kept ((link kept).read []) ((is.lawful kept).tells [])
unrolled link is kept (t ∷ text) = same_after link is kept t text ((link kept).read (t ∷ text)) ((is.lawful kept).tells (t ∷ text))

-- ---- the laws

end_verdict : {T F X C : Type 0} (next : X → List T → Reading T F (List X × C)) (o : Option (F × List T)) (c : C) (rest : List T)
    → followed (verdict o (inr c) rest) (linked next) ≡ verdict o ([], c) rest
end_verdict next None c rest = refl
end_verdict next (Some fault) c rest = refl

again_behind : {T F X C : Type 0} (link : Link T F X C) → IsLink link → (xs kept : List X) (c : C) (rest : List T)
    → read_behind link kept (spell_behind link kept xs c ++ rest) 0 ≡ verdict (fault_behind link kept xs c) (xs, c) rest
again_behind {T} {F} {X} {C} link is [] kept c rest =
    unrolled link is kept ((link kept).spell (inr c) ++ rest)
    ∙ ap (λ (q : Reading T F (X ⊎ C)). followed q (linked (after link kept))) ((is.lawful kept).again (inr c) rest)
    ∙ end_verdict (after link kept) ((link kept).fault (inr c)) c rest
again_behind {T} {F} {X} {C} link is (x ∷ xs) kept c rest =
    let s = (link kept).spell (inl x) in
    let tail = spell_behind link (kept ++ x ∷ []) xs c in
    ap (λ (q : List T). read_behind link kept q 0) (append_assoc s tail rest)
    ∙ unrolled link is kept (s ++ (tail ++ rest))
    ∙ ap (λ (q : Reading T F (X ⊎ C)). followed q (linked (after link kept))) ((is.lawful kept).again (inl x) (tail ++ rest))
    ∙ chained ((link kept).fault (inl x)) (inl x) tail rest (linked (after link kept)) (fault_behind link (kept ++ x ∷ []) xs c) (x ∷ xs, c)
    (ap (mapped (with_item x)) (again_behind link is xs (kept ++ x ∷ []) c rest) ∙ mapped_verdict (with_item x) (fault_behind link (kept ++ x ∷ []) xs c) (xs, c) rest)

pub shorter : {T : Type 0} (text s rest : List T) (n : ℕ) → IsLed (λ _. true) true s → text ≡ s ++ rest → length text < suc n → length rest < n
shorter text [] rest n led e lt = absurd led
shorter {T} text (u ∷ s) rest n led e lt =
    let len : length text ≡ suc (length (s ++ rest)) = ap (λ (q : List T). length q) e in
    omega (arith, len, length-append s rest, lt)

-- behind any items, of each shorter text
abbrev TellsShorter : {T F X C : Type 0} → Link T F X C → ℕ → Type 0
TellsShorter {T} {F} {X} {C} link n = (kept : List X) (text : List T) → length text < n → Tells (links_behind link kept) text (read_behind link kept text 0)

-- the shortest way on behind a link
ended : {T F X C : Type 0} (link : Link T F X C) → IsLink link → List X → X ⊎ C → List X × C
ended link is kept (inl x) = (x ∷ [], is.end (kept ++ x ∷ []))
ended link is kept (inr c) = ([], c)

end_spelling : {T F X C : Type 0} (link : Link T F X C) → IsLink link → List X → X ⊎ C → List T
end_spelling link is kept (inl x) = (link (kept ++ x ∷ [])).spell (inr (is.end (kept ++ x ∷ [])))
end_spelling link is kept (inr c) = []

ended_spelling : {T F X C : Type 0} (link : Link T F X C) (is : IsLink link) (kept : List X) (z : X ⊎ C)
    → (links_behind link kept).spell (ended link is kept z) ≡ (link kept).spell z ++ end_spelling link is kept z
unfolding ended end_spelling
ended_spelling link is kept (inl x) = refl
ended_spelling link is kept (inr c) = sym (append-nil ((link kept).spell (inr c)))

step_tells : {T F X C : Type 0} (link : Link T F X C) → IsLink link → (n : ℕ) → TellsShorter link n → (kept : List X) (text : List T) → length text < suc n
    → (read : Reading T F (X ⊎ C)) → Tells (link kept) text read → Tells (links_behind link kept) text (followed read (linked (after link kept)))
step_tells {T} {F} {X} {C} link is n tells_shorter kept text lt (Takes (inl x) mid) t =
    let next = kept ++ x ∷ [] in
    behind (links_behind link next) (links_behind link kept) (with_item x) ((link kept).spell (inl x)) text mid t.0
    (λ p. refl)
    (λ p none. no_first_fault ((link kept).fault (inl x)) (spell_behind link next p.0 p.1) (fault_behind link next p.0 p.1) t.1 none)
    (λ other _.
    unrolled link is kept ((link kept).spell (inl x) ++ other)
    ∙ ap (λ (q : Reading T F (X ⊎ C)). followed q (linked (after link kept))) ((is.lawful kept).again (inl x) other ∙ ap (λ (o : Option (F × List T)). verdict o (inl x) other) t.1))
    (read_behind link next mid 0)
    (tells_shorter next mid (shorter text ((link kept).spell (inl x)) mid n (is.takes kept x) t.0 lt))
step_tells link is n tells_shorter kept text lt (Takes (inr c) rest) t = t
step_tells {T} {F} {X} {C} link is n tells_shorter kept text lt (Stops cause rest) t =
    within (link kept) (links_behind link kept) (ended link is kept) (end_spelling link is kept) text cause rest
    (ended_spelling link is kept)
    (λ other left _ stops.
    unrolled link is kept other
    ∙ ap (λ (q : Reading T F (X ⊎ C)). followed q (linked (after link kept))) stops)
    t

tells_below : {T F X C : Type 0} (link : Link T F X C) → IsLink link → (n : ℕ) → TellsShorter link n
tells_below link is zero kept text lt = absurd (omega (arith, lt))
tells_below link is (suc n) kept text lt =
    subst (Tells (links_behind link kept) text) (sym (unrolled link is kept text))
    (step_tells link is n (tells_below link is n) kept text lt ((link kept).read text) ((is.lawful kept).tells text))

pub links_lawful : {T F X C : Type 0} (link : Link T F X C) → IsLink link → IsLawful (links link)
links_lawful link is =
    record {
      some = ([], is.end []);
      again = λ p rest. again_behind link is p.0 [] p.1 rest;
      tells = λ text. tells_below link is (suc (length text)) [] text (omega arith);
    }

-- ---- items up to what closes them

pub led_at_all : {T : Type 0} (test : T → Bool) (says : Bool) (s : List T) → IsLed test says s → IsLed (λ _. true) true s
led_at_all test says [] led = led
led_at_all test says (t ∷ s) led = refl

-- the links of items up to a close
pub many_links : {T F X C : Type 0} (r : Repeat T F X C) → IsRepeat r → IsLink (λ kept. either r.goes_on (r.item kept) (r.close kept))
many_links r is = record {
  lawful = λ kept. either_lawful r.goes_on (r.item kept) (r.close kept) (record { first = is.begins kept; second = is.ends kept }) (is.item kept) (is.close kept);
  takes = λ kept x. led_at_all r.goes_on true ((r.item kept).spell x) (is.begins kept x);
  end = λ kept. (is.close kept).some;
}

pub many_lawful : {T F X C : Type 0} (r : Repeat T F X C) → IsRepeat r → IsLawful (many r)
many_lawful r is = links_lawful (λ kept. either r.goes_on (r.item kept) (r.close kept)) (many_links r is)
