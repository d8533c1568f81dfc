-- The flaw that is found is the first.
use Rattle.std.proofs.Common.{◌≡◌, ℕ, ◌+◌, Bool, true, false, cond, not, eqb, List, [], ◌∷◌, ◌++◌, drop, Option, Some, None, Result, Ok, Err, append_assoc, refl, sym, ap, subst, ◌∙◌, ◌⊎◌, inl, inr}
use Rattle.std.specs.Prelude.{ℤ, pos, codes}
use Rattle.std.specs.Str.{bytes_eq}
use Rattle.std.specs.Str.Parse.{digits_value}
use Rattle.std.proofs.lemmas.Bool.{cases_Bool}
use Rattle.std.proofs.lemmas.Slice.Eq.{bytes_eq-Decides}
use Rattle.dp_base.specs.Names.{is_name}
use Rattle.dp_domain.specs.declared.atom.Op.{Op}
use Rattle.dp_domain.specs.declared.atom.Op.TheVariants.{Ge, Le, Eq, Ne}
use Rattle.dp_lines.specs.Allowed.{is_label}
use Rattle.dp_lines.specs.Fields.{◌>>=◌, Reading, atom_line, behind, bound_of, claim_at, conclusion_line, constraint, ended, ends_fields, given, hints, inference_line, late_constraint, line_by, line_of, literals, many, nogood_line, numbers, one, optional, reason, with_first, with_rest}
use Rattle.dp_lines.specs.Figures.{are_digits, constraint_at, is_constraint, is_label_field, is_nameable, is_nought, is_number, kind_at, label_at, literal_at, mark_at, name_at, nameable_at, number_at, op_at, signed_by, value_at}
use Rattle.dp_lines.specs.FirstFlaw.{IsAt, IsFirstRefusal, next_of}
use Rattle.dp_lines.specs.Lines.{judged_by, judged_content, judged_words, refusal_of}
use Rattle.dp_lines.specs.Words.{Word, end_of, front_word, words}
use Rattle.dp_lines.specs.declared.judge.Judged.TheVariants.{Refused}
use Rattle.dp_lines.specs.declared.refusal.LineRefusal.{LineRefusal}
use Rattle.dp_lines.specs.declared.fields.Kind.{Kind}
use Rattle.dp_lines.specs.declared.fields.Kind.TheVariants.{Atom as AtomLine, Inference as InferenceLine, Nogood as NogoodLine, Conclusion as ConclusionLine}
use Rattle.dp_lines.specs.declared.line.Line.{Line}
use Rattle.dp_lines.specs.declared.line.Line.TheVariants.{Atom, Inference, Nogood, Conclude}
use Rattle.dp_lines.specs.declared.line.Claim.TheVariants.{Unsat}
use Rattle.dp_lines.specs.declared.refusal.Flaw.{Flaw}
use Rattle.dp_lines.specs.declared.refusal.Flaw.TheVariants.{Form, Number, NotBuilt}

-- ---- what may follow

-- anything, or nothing, or the field `0`
abbrev Any : List Word → Type 0
Any ws = Unit {0}

abbrev End : List Word → Type 0
End ws = ws ≡ []

abbrev Nought : List Word → Type 0
Nought [] = ⊥
Nought (w ∷ ws) = w.text ≡ codes "0"

-- ---- parts of a line

-- A part is read of a front. It is where the same word follows the front, and where what may follow does; and where the front is
-- empty, that may follow the part before, too.
record Passed {X : Type 0} (p : List Word → Reading X) (F G : List Word → Type 0) (ws : List Word) (x : X) (rest : List Word) : Type 0 where
  front : List Word
  parts : ws ≡ front ++ rest
  firm : (other : List Word) → next_of other ≡ next_of rest → p (front ++ other) ≡ Ok (x, other)
  goes : (other : List Word) → F other → p (front ++ other) ≡ Ok (x, other)
  moves : front ≡ [] → (other : List Word) → F other → G other

-- Or it has a flaw behind a front, whatever stands behind the flawed word; and some words complete the front.
record Stuck {X : Type 0} (end : ℕ) (p : List Word → Reading X) (F G : List Word → Type 0) (ws : List Word) (flaw : Flaw) : Type 0 where
  front : List Word
  rest : List Word
  parts : ws ≡ front ++ rest
  place : IsAt flaw (front_word end rest)
  firm : (other : List Word) → next_of other ≡ next_of rest → p (front ++ other) ≡ Err flaw
  more : List Word
  x : X
  begins : (tail : List Word) → F tail → p (front ++ (more ++ tail)) ≡ Ok (x, tail)
  starts : front ≡ [] → (tail : List Word) → F tail → G (more ++ tail)

abbrev PartTells : {X : Type 0} → ℕ → (List Word → Reading X) → (List Word → Type 0) → (List Word → Type 0) → List Word → Reading X → Type 0
PartTells end p F G ws (Ok q) = Passed p F G ws q.0 q.1
PartTells end p F G ws (Err flaw) = Stuck end p F G ws flaw

record IsPart {X : Type 0} (end : ℕ) (p : List Word → Reading X) (F G : List Word → Type 0) : Type 0 where
  tells : (ws : List Word) → PartTells end p F G ws (p ws)
  more : List Word
  x : X
  begins : (tail : List Word) → F tail → p (more ++ tail) ≡ Ok (x, tail)
  starts : (tail : List Word) → F tail → G (more ++ tail)

-- ---- all that is left of a line

record RestStuck {X : Type 0} (end : ℕ) (q : List Word → Reading X) (G : List Word → Type 0) (ws : List Word) (flaw : Flaw) : Type 0 where
  front : List Word
  rest : List Word
  parts : ws ≡ front ++ rest
  place : IsAt flaw (front_word end rest)
  firm : (other : List Word) → next_of other ≡ next_of rest → q (front ++ other) ≡ Err flaw
  more : List Word
  x : X
  begins : q (front ++ more) ≡ Ok (x, [])
  starts : front ≡ [] → G more

abbrev RestTells : {X : Type 0} → ℕ → (List Word → Reading X) → (List Word → Type 0) → List Word → Reading X → Type 0
RestTells end q G ws (Ok p) = Unit {0}
RestTells end q G ws (Err flaw) = RestStuck end q G ws flaw

record IsRest {X : Type 0} (end : ℕ) (q : List Word → Reading X) (G : List Word → Type 0) : Type 0 where
  tells : (ws : List Word) → RestTells end q G ws (q ws)
  more : List Word
  x : X
  begins : q more ≡ Ok (x, [])
  starts : G more

next_front : (front other rest : List Word) → next_of other ≡ next_of rest → next_of (front ++ other) ≡ next_of (front ++ rest)
next_front [] other rest h = h
next_front (w ∷ front) other rest h = refl

-- behind a part that was read, the front of what is left is empty or leads
goes_on : {X : Type 0} (p : List Word → Reading X) (F G : List Word → Type 0) (ws : List Word) (x : X) (rest front2 rest2 more : List Word) (c : Passed p F G ws x rest) →
    rest ≡ front2 ++ rest2 → (front2 ≡ [] → F more) → p (c.front ++ (front2 ++ more)) ≡ Ok (x, front2 ++ more)
goes_on p F G ws x rest [] rest2 more c e may = c.goes more (may refl)
goes_on p F G ws x rest (w ∷ front2) rest2 more c e may = c.firm (w ∷ (front2 ++ more)) (sym (ap next_of e))

append_front : (front other more : List Word) → (front ++ other) ++ more ≡ front ++ (other ++ more)
append_front front other more = append_assoc front other more

no_front : (front other : List Word) → front ++ other ≡ [] → (front ≡ []) × (other ≡ [])
no_front [] other e = (refl, e)
no_front (w ∷ front) other e = absurd cc

after_stuck : {X Y : Type 0} (end : ℕ) (p : List Word → Reading X) (q : X → List Word → Reading Y) (F G : List Word → Type 0) (ws : List Word) (flaw : Flaw) →
    ((x : X) → IsRest end (q x) F) → Stuck end p F G ws flaw → RestStuck end (p >>= q) G ws flaw
after_stuck {Y = Y} end p q F G ws flaw good s =
    let r = good s.x in
    let found : p (s.front ++ (s.more ++ r.more)) ≡ Ok (s.x, r.more) = s.begins r.more r.starts in
    record {
      front = s.front;
      rest = s.rest;
      parts = s.parts;
      place = s.place;
      firm = λ other h. rw (s.firm other h) refl;
      more = s.more ++ r.more;
      x = r.x;
      begins = rw found r.begins;
      starts = λ h. s.starts h r.more r.starts;
    }

after_passed : {X Y : Type 0} (end : ℕ) (p : List Word → Reading X) (q : X → List Word → Reading Y) (F G : List Word → Type 0) (ws : List Word) (x : X) (rest : List Word) (flaw : Flaw) →
    Passed p F G ws x rest → RestStuck end (q x) F rest flaw → RestStuck end (p >>= q) G ws flaw
after_passed {X = X} {Y = Y} end p q F G ws x rest flaw c s =
    record {
      front = c.front ++ s.front;
      rest = s.rest;
      parts = c.parts ∙ ap (λ (t : List Word). c.front ++ t) s.parts ∙ sym (append_assoc c.front s.front s.rest);
      place = s.place;
      firm = λ other h.
          (let found : p (c.front ++ (s.front ++ other)) ≡ Ok (x, s.front ++ other) = c.firm (s.front ++ other) (next_front s.front other s.rest h ∙ sym (ap next_of s.parts)) in
          ap (p >>= q) (append_assoc c.front s.front other) ∙ rw found (s.firm other h));
      more = s.more;
      x = s.x;
      begins =
          (let found : p (c.front ++ (s.front ++ s.more)) ≡ Ok (x, s.front ++ s.more) = goes_on p F G ws x rest s.front s.rest s.more c s.parts s.starts in
          ap (p >>= q) (append_assoc c.front s.front s.more) ∙ rw found s.begins);
      starts = λ h. (let both = no_front c.front s.front h in c.moves both.0 s.more (s.starts both.1));
    }

rest_tells : {X Y : Type 0} (end : ℕ) (p : List Word → Reading X) (q : X → List Word → Reading Y) (F G : List Word → Type 0) (ws : List Word) (x : X) (rest : List Word) (r : Reading Y) →
    Passed p F G ws x rest → RestTells end (q x) F rest r → RestTells end (p >>= q) G ws r
rest_tells end p q F G ws x rest (Ok t) c h = tt
rest_tells end p q F G ws x rest (Err flaw) c h = after_passed end p q F G ws x rest flaw c h

then_tells : {X Y : Type 0} (end : ℕ) (p : List Word → Reading X) (q : X → List Word → Reading Y) (F G : List Word → Type 0) (ws : List Word) (r : Reading X) →
    ((x : X) → IsRest end (q x) F) → PartTells end p F G ws r → RestTells end (p >>= q) G ws (behind r q)
then_tells end p q F G ws (Err flaw) good h = after_stuck end p q F G ws flaw good h
then_tells end p q F G ws (Ok t) good h = rest_tells end p q F G ws t.0 t.1 (q t.0 t.1) h ((good t.0).tells t.1)

-- a part, and then a rest for each of its values
then_rest : {X Y : Type 0} (end : ℕ) (p : List Word → Reading X) (q : X → List Word → Reading Y) (F G : List Word → Type 0) → IsPart end p F G → ((x : X) → IsRest end (q x) F) → IsRest end (p >>= q) G
then_rest end p q F G part good =
    let r = good part.x in
    let found : p (part.more ++ r.more) ≡ Ok (part.x, r.more) = part.begins r.more r.starts in
    record {
      tells = λ ws. then_tells end p q F G ws (p ws) good (part.tells ws);
      more = part.more ++ r.more;
      x = r.x;
      begins = rw found r.begins;
      starts = part.starts r.more r.starts;
    }

-- ---- parts that are made of parts

part_stuck : {X Y : Type 0} (end : ℕ) (p : List Word → Reading X) (q : X → List Word → Reading Y) (F M G : List Word → Type 0) (ws : List Word) (flaw : Flaw) →
    ((x : X) → IsPart end (q x) F M) → Stuck end p M G ws flaw → Stuck end (p >>= q) F G ws flaw
part_stuck {Y = Y} end p q F M G ws flaw good s =
    let r = good s.x in
    record {
      front = s.front;
      rest = s.rest;
      parts = s.parts;
      place = s.place;
      firm = λ other h. rw (s.firm other h) refl;
      more = s.more ++ r.more;
      x = r.x;
      begins = λ tail h.
          (let found : p (s.front ++ (s.more ++ (r.more ++ tail))) ≡ Ok (s.x, r.more ++ tail) = s.begins (r.more ++ tail) (r.starts tail h) in
          ap (λ (t : List Word). (p >>= q) (s.front ++ t)) (append_assoc s.more r.more tail) ∙ rw found (r.begins tail h));
      starts = λ none tail h. subst G (sym (append_assoc s.more r.more tail)) (s.starts none (r.more ++ tail) (r.starts tail h));
    }

part_later_stuck : {X Y : Type 0} (end : ℕ) (p : List Word → Reading X) (q : X → List Word → Reading Y) (F M G : List Word → Type 0) (ws : List Word) (x : X) (rest : List Word) (flaw : Flaw) →
    Passed p M G ws x rest → Stuck end (q x) F M rest flaw → Stuck end (p >>= q) F G ws flaw
part_later_stuck {X = X} {Y = Y} end p q F M G ws x rest flaw c s =
    record {
      front = c.front ++ s.front;
      rest = s.rest;
      parts = c.parts ∙ ap (λ (t : List Word). c.front ++ t) s.parts ∙ sym (append_assoc c.front s.front s.rest);
      place = s.place;
      firm = λ other h.
          (let found : p (c.front ++ (s.front ++ other)) ≡ Ok (x, s.front ++ other) = c.firm (s.front ++ other) (next_front s.front other s.rest h ∙ sym (ap next_of s.parts)) in
          ap (p >>= q) (append_assoc c.front s.front other) ∙ rw found (s.firm other h));
      more = s.more;
      x = s.x;
      begins = λ tail h.
          (let found : p (c.front ++ (s.front ++ (s.more ++ tail))) ≡ Ok (x, s.front ++ (s.more ++ tail)) =
          goes_on p M G ws x rest s.front s.rest (s.more ++ tail) c s.parts (λ none. s.starts none tail h) in
          ap (p >>= q) (append_assoc c.front s.front (s.more ++ tail)) ∙ rw found (s.begins tail h));
      starts = λ none tail h. (let both = no_front c.front s.front none in c.moves both.0 (s.more ++ tail) (s.starts both.1 tail h));
    }

part_passed : {X Y : Type 0} (p : List Word → Reading X) (q : X → List Word → Reading Y) (F M G : List Word → Type 0) (ws : List Word) (x : X) (y : Y) (rest last : List Word) →
    Passed p M G ws x rest → Passed (q x) F M rest y last → Passed (p >>= q) F G ws y last
part_passed {X = X} {Y = Y} p q F M G ws x y rest last c d =
    record {
      front = c.front ++ d.front;
      parts = c.parts ∙ ap (λ (t : List Word). c.front ++ t) d.parts ∙ sym (append_assoc c.front d.front last);
      firm = λ other h.
          (let found : p (c.front ++ (d.front ++ other)) ≡ Ok (x, d.front ++ other) = c.firm (d.front ++ other) (next_front d.front other last h ∙ sym (ap next_of d.parts)) in
          ap (p >>= q) (append_assoc c.front d.front other) ∙ rw found (d.firm other h));
      goes = λ other h.
          (let found : p (c.front ++ (d.front ++ other)) ≡ Ok (x, d.front ++ other) = goes_on p M G ws x rest d.front last other c d.parts (λ none. d.moves none other h) in
          ap (p >>= q) (append_assoc c.front d.front other) ∙ rw found (d.goes other h));
      moves = λ none other h. (let both = no_front c.front d.front none in c.moves both.0 other (d.moves both.1 other h));
    }

part_later : {X Y : Type 0} (end : ℕ) (p : List Word → Reading X) (q : X → List Word → Reading Y) (F M G : List Word → Type 0) (ws : List Word) (x : X) (rest : List Word) (r : Reading Y) →
    Passed p M G ws x rest → PartTells end (q x) F M rest r → PartTells end (p >>= q) F G ws r
part_later end p q F M G ws x rest (Ok t) c h = part_passed p q F M G ws x t.0 rest t.1 c h
part_later end p q F M G ws x rest (Err flaw) c h = part_later_stuck end p q F M G ws x rest flaw c h

part_tells : {X Y : Type 0} (end : ℕ) (p : List Word → Reading X) (q : X → List Word → Reading Y) (F M G : List Word → Type 0) (ws : List Word) (r : Reading X) →
    ((x : X) → IsPart end (q x) F M) → PartTells end p M G ws r → PartTells end (p >>= q) F G ws (behind r q)
part_tells end p q F M G ws (Err flaw) good h = part_stuck end p q F M G ws flaw good h
part_tells end p q F M G ws (Ok t) good h = part_later end p q F M G ws t.0 t.1 (q t.0 t.1) h ((good t.0).tells t.1)

then_part : {X Y : Type 0} (end : ℕ) (p : List Word → Reading X) (q : X → List Word → Reading Y) (F M G : List Word → Type 0) → IsPart end p M G → ((x : X) → IsPart end (q x) F M) → IsPart end (p >>= q) F G
then_part end p q F M G part good =
    let r = good part.x in
    record {
      tells = λ ws. part_tells end p q F M G ws (p ws) good (part.tells ws);
      more = part.more ++ r.more;
      x = r.x;
      begins = λ tail h.
          (let found : p (part.more ++ (r.more ++ tail)) ≡ Ok (part.x, r.more ++ tail) = part.begins (r.more ++ tail) (r.starts tail h) in
          ap (p >>= q) (append_assoc part.more r.more tail) ∙ rw found (r.begins tail h));
      starts = λ tail h. subst G (sym (append_assoc part.more r.more tail)) (part.starts (r.more ++ tail) (r.starts tail h));
    }

given_part : {X : Type 0} (end : ℕ) (x : X) (F : List Word → Type 0) → IsPart end (given x) F F
given_part end x F = record {
  tells = λ ws. record { front = []; parts = refl; firm = λ other h. refl; goes = λ other h. refl; moves = λ none other h. h };
  more = [];
  x = x;
  begins = λ tail h. refl;
  starts = λ tail h. h;
}

-- ---- single words

nothing_next : (other : List Word) → next_of other ≡ None → other ≡ []
nothing_next [] h = refl
nothing_next (w ∷ other) h = absurd cc

same_next : (other : List Word) (w : Word) → next_of other ≡ Some w → other ≡ w ∷ drop 1 other
same_next [] w h = absurd cc
same_next (v ∷ other) w h = let same : v ≡ w = cc in ap (λ (u : Word). u ∷ other) same

-- what a word must be for its flaw
abbrev Flaws : {X : Type 0} → (ℕ → List ℕ → Result X Flaw) → Type 0
Flaws {X} read = (at : ℕ) (t : List ℕ) (flaw : Flaw) → read at t ≡ Err flaw → IsAt flaw (record { at = at; text = t })

one_firm : {X : Type 0} (end : ℕ) (read : ℕ → List ℕ → Result X Flaw) (ws other : List Word) (flaw : Flaw) → read (front_word end ws).at (front_word end ws).text ≡ Err flaw → next_of other ≡ next_of ws →
    one read end other ≡ Err flaw
one_firm end read [] [] flaw e h = rw e refl
one_firm end read [] (v ∷ other) flaw e h = absurd cc
one_firm end read (w ∷ ws) [] flaw e h = absurd cc
one_firm end read (w ∷ ws) (v ∷ other) flaw e h =
    let same : v ≡ w = cc in
    let found : read v.at v.text ≡ Err flaw = subst (λ (u : Word). read u.at u.text ≡ Err flaw) (sym same) e in
    rw found refl

one_stuck : {X : Type 0} (end : ℕ) (read : ℕ → List ℕ → Result X Flaw) (G : List Word → Type 0) (ws : List Word) (flaw : Flaw) (x : X) (t : List ℕ) →
    Flaws read → ((at : ℕ) → read at t ≡ Ok x) → ((tail : List Word) → G (record { at = 0; text = t } ∷ tail)) →
    read (front_word end ws).at (front_word end ws).text ≡ Err flaw → Stuck end (one read end) Any G ws flaw
one_stuck {X = X} end read G ws flaw x t flaws found goes e = record {
  front = [];
  rest = ws;
  parts = refl;
  place = flaws (front_word end ws).at (front_word end ws).text flaw e;
  firm = λ other h. one_firm end read ws other flaw e h;
  more = record { at = 0; text = t } ∷ [];
  x = x;
  begins = λ tail h. rw (found 0) refl;
  starts = λ none tail h. goes tail;
}

one_tells : {X : Type 0} (end : ℕ) (read : ℕ → List ℕ → Result X Flaw) (G : List Word → Type 0) (ws : List Word) (r : Result X Flaw) (x : X) (t : List ℕ) →
    Flaws read → ((at : ℕ) → read at t ≡ Ok x) → ((tail : List Word) → G (record { at = 0; text = t } ∷ tail)) → ((x : X) → read end [] ≡ Ok x → ⊥) →
    read (front_word end ws).at (front_word end ws).text ≡ r → PartTells end (one read end) Any G ws (with_rest (drop 1 ws) r)
one_tells end read G ws (Err flaw) x t flaws found goes none e = one_stuck end read G ws flaw x t flaws found goes e
one_tells end read G [] (Ok y) x t flaws found goes none e = absurd (none y e)
one_tells end read G (w ∷ ws) (Ok y) x t flaws found goes none e = record {
  front = w ∷ [];
  parts = refl;
  firm = λ other h. rw e refl;
  goes = λ other h. rw e refl;
  moves = λ empty other h. absurd cc;
}

one_part : {X : Type 0} (end : ℕ) (read : ℕ → List ℕ → Result X Flaw) (G : List Word → Type 0) (x : X) (t : List ℕ) →
    Flaws read → ((at : ℕ) → read at t ≡ Ok x) → ((tail : List Word) → G (record { at = 0; text = t } ∷ tail)) → ((x : X) → read end [] ≡ Ok x → ⊥) → IsPart end (one read end) Any G
one_part end read G x t flaws found goes none = record {
  tells = λ ws. one_tells end read G ws (read (front_word end ws).at (front_word end ws).text) x t flaws found goes none refl;
  more = record { at = 0; text = t } ∷ [];
  x = x;
  begins = λ tail h. rw (found 0) refl;
  starts = λ tail h. goes tail;
}

-- ---- the places of flaws

abbrev IsPlace : Flaw → ℕ → Type 0
IsPlace (Form a) at = a ≡ at
IsPlace (Number a) at = (a ≡ at) ⊎ (a ≡ at + 2)
IsPlace NotBuilt at = ⊥

abbrev Placed : {X : Type 0} → ℕ → Result X Flaw → Type 0
Placed at (Ok x) = Unit {0}
Placed at (Err flaw) = IsPlace flaw at

place_is : (flaw : Flaw) (at : ℕ) (t : List ℕ) → IsPlace flaw at → IsAt flaw (record { at = at; text = t })
place_is (Form a) at t h = h
place_is (Number a) at t h = h
place_is NotBuilt at t h = absurd h

flaws_of : {X : Type 0} (read : ℕ → List ℕ → Result X Flaw) → ((at : ℕ) (t : List ℕ) → Placed at (read at t)) → Flaws read
flaws_of {X} read h at t flaw e = place_is flaw at t (subst (λ (r : Result X Flaw). Placed at r) e (h at t))

figure_placed : (digits : Bool) (n : ℕ) (fits : Bool) (unfit beyond : Flaw) (at : ℕ) → IsPlace unfit at → IsPlace beyond at → Placed at (let r : Result ℕ Flaw = cond digits (cond fits (Ok n) (Err beyond)) (Err unfit) in r)
figure_placed false n fits unfit beyond at hu hb = hu
figure_placed true n false unfit beyond at hu hb = hb
figure_placed true n true unfit beyond at hu hb = tt

number_placed : (at place : ℕ) (t : List ℕ) → at ≡ place → Placed place (number_at at t)
number_placed at place t e = figure_placed (are_digits t) (digits_value 10 t) (is_number (digits_value 10 t)) (Form at) (Number at) place e (inl e)

constraint_placed : (at : ℕ) (t : List ℕ) → Placed at (constraint_at at t)
constraint_placed at t = figure_placed (are_digits (drop 2 t)) (digits_value 10 (drop 2 t)) (is_number (digits_value 10 (drop 2 t))) (Form at) (Number (at + 2)) at refl (inr refl)

signed_placed : (negative : Bool) (at : ℕ) (r : Result ℕ Flaw) → Placed at r → Placed at (signed_by negative r)
signed_placed negative at (Ok n) h = tt
signed_placed negative at (Err flaw) h = h

literal_by : (minus : Bool) (at b : ℕ) (ds : List ℕ) → Placed at (cond minus (signed_by true (number_at at ds)) (signed_by false (number_at at (b ∷ ds))))
literal_by true at b ds = signed_placed true at (number_at at ds) (number_placed at at ds refl)
literal_by false at b ds = signed_placed false at (number_at at (b ∷ ds)) (number_placed at at (b ∷ ds) refl)

literal_placed : (at : ℕ) (t : List ℕ) → Placed at (literal_at at t)
literal_placed at [] = refl
literal_placed at (b ∷ ds) = literal_by (eqb b 45) at b ds

nameable_by : (fits : Bool) (at : ℕ) (v : ℤ) → Placed at (let r : Result ℤ Flaw = cond fits (Ok v) (Err (Number at)) in r)
nameable_by true at v = tt
nameable_by false at v = inl refl

value_by : (zero_alone : Bool) (op : Op) (at : ℕ) (r : Result ℤ Flaw) → Placed at r → Placed at (cond zero_alone (Ok (pos 0)) (nameable_at at op r))
value_by true op at r h = tt
value_by false op at (Err flaw) h = h
value_by false op at (Ok v) h = nameable_by (is_nameable op v) at v

value_placed : (op : Op) (at : ℕ) (t : List ℕ) → Placed at (value_at op at t)
value_placed op at t = value_by (bytes_eq t (codes "0")) op at (literal_at at t) (literal_placed at t)

if_placed : {X : Type 0} (b : Bool) (at : ℕ) (x : X) → Placed at (let r : Result X Flaw = cond b (Ok x) (Err (Form at)) in r)
if_placed true at x = tt
if_placed false at x = refl

name_placed : (at : ℕ) (t : List ℕ) → Placed at (name_at at t)
name_placed at t = if_placed (is_name t) at t

mark_placed : (mark : List ℕ) (at : ℕ) (t : List ℕ) → Placed at (mark_at mark at t)
mark_placed mark at t = if_placed (bytes_eq t mark) at tt

label_placed : (at : ℕ) (t : List ℕ) → Placed at (label_at at t)
label_placed at t = if_placed (is_label (drop 2 t)) at (drop 2 t)

op_by : (a b c d : Bool) (at : ℕ) → Placed at (let r : Result Op Flaw = cond a (Ok Ge) (cond b (Ok Le) (cond c (Ok Eq) (cond d (Ok Ne) (Err (Form at))))) in r)
op_by true b c d at = tt
op_by false true c d at = tt
op_by false false true d at = tt
op_by false false false true at = tt
op_by false false false false at = refl

op_placed : (at : ℕ) (t : List ℕ) → Placed at (op_at at t)
op_placed at t = op_by (bytes_eq t (codes ">=")) (bytes_eq t (codes "<=")) (bytes_eq t (codes "==")) (bytes_eq t (codes "!=")) at

bound_placed : (at : ℕ) (r : Result ℤ Flaw) → Placed at r → Placed at (bound_of r)
bound_placed at (Ok l) h = tt
bound_placed at (Err flaw) h = h

claim_by : (unsat : Bool) (at : ℕ) (r : Result ℤ Flaw) → Placed at r → Placed at (cond unsat (Ok Unsat) (bound_of r))
claim_by true at r h = tt
claim_by false at r h = bound_placed at r h

claim_placed : (at : ℕ) (t : List ℕ) → Placed at (claim_at at t)
claim_placed at t = claim_by (bytes_eq t (codes "UNSAT")) at (literal_at at t) (literal_placed at t)

abbrev KindFlaw : ℕ → List ℕ → Result Kind Flaw → Type 0
KindFlaw at t (Ok k) = Unit {0}
KindFlaw at t (Err flaw) = IsAt flaw (record { at = at; text = t })

kind_by : (a i n c d : Bool) (at : ℕ) (t : List ℕ) → bytes_eq t (codes "d") ≡ d →
    KindFlaw at t (cond a (Ok AtomLine) (cond i (Ok InferenceLine) (cond n (Ok NogoodLine) (cond c (Ok ConclusionLine) (cond d (Err NotBuilt) (Err (Form at)))))))
kind_by true i n c d at t e = tt
kind_by false true n c d at t e = tt
kind_by false false true c d at t e = tt
kind_by false false false true d at t e = tt
kind_by false false false false true at t e = (bytes_eq-Decides t (codes "d")).0 e
kind_by false false false false false at t e = refl

kind_flaws : Flaws kind_at
kind_flaws at t flaw e =
    subst (λ (r : Result Kind Flaw). KindFlaw at t r) e
    (kind_by (bytes_eq t (codes "a")) (bytes_eq t (codes "i")) (bytes_eq t (codes "n")) (bytes_eq t (codes "c")) (bytes_eq t (codes "d")) at t refl)

-- ---- many things, and things that may be there

tells_at : {X : Type 0} (end : ℕ) (p : List Word → Reading X) (F G : List Word → Type 0) (ws : List Word) (r : Reading X) → p ws ≡ r → PartTells end p F G ws r → PartTells end p F G ws (p ws)
tells_at {X = X} end p F G ws r e h = subst (λ (z : Reading X). PartTells end p F G ws z) (sym e) h

many_flaw : {X : Type 0} (stops : List ℕ → Bool) (read : ℕ → List ℕ → Result X Flaw) (w : Word) (ws other : List Word) (flaw : Flaw) → stops w.text ≡ false → read w.at w.text ≡ Err flaw → next_of other ≡ Some w →
    many stops read other ≡ Err flaw
many_flaw stops read w ws [] flaw on e h = absurd cc
many_flaw stops read w ws (v ∷ other) flaw on e h =
    let same : v ≡ w = cc in
    let on_v : stops v.text ≡ false = subst (λ (u : Word). stops u.text ≡ false) (sym same) on in
    let found : read v.at v.text ≡ Err flaw = subst (λ (u : Word). read u.at u.text ≡ Err flaw) (sym same) e in
    rw (on_v, found) refl

many_stop : {X : Type 0} (stops : List ℕ → Bool) (read : ℕ → List ℕ → Result X Flaw) (w : Word) (other : List Word) → stops w.text ≡ true → next_of other ≡ Some w → many stops read other ≡ Ok ([], other)
many_stop stops read w [] stop h = absurd cc
many_stop stops read w (v ∷ other) stop h =
    let same : v ≡ w = cc in
    let stop_v : stops v.text ≡ true = subst (λ (u : Word). stops u.text ≡ true) (sym same) stop in
    rw stop_v refl

many_none : {X : Type 0} (stops : List ℕ → Bool) (read : ℕ → List ℕ → Result X Flaw) (other : List Word) → next_of other ≡ None → many stops read other ≡ Ok ([], other)
many_none stops read [] h = refl
many_none stops read (v ∷ other) h = absurd cc

many_more : {X : Type 0} (end : ℕ) (stops : List ℕ → Bool) (read : ℕ → List ℕ → Result X Flaw) (F G : List Word → Type 0) (w : Word) (ws : List Word) (x : X) (r : Reading (List X)) → stops w.text ≡ false → read w.at w.text ≡ Ok x →
    PartTells end (many stops read) F G ws r → PartTells end (many stops read) F G (w ∷ ws) (behind r (with_first x))
many_more end stops read F G w ws x (Ok t) on e c = record {
  front = w ∷ c.front;
  parts = ap (λ (us : List Word). w ∷ us) c.parts;
  firm = λ other h. rw (on, e, c.firm other h) refl;
  goes = λ other h. rw (on, e, c.goes other h) refl;
  moves = λ none other h. absurd cc;
}
many_more end stops read F G w ws x (Err flaw) on e s = record {
  front = w ∷ s.front;
  rest = s.rest;
  parts = ap (λ (us : List Word). w ∷ us) s.parts;
  place = s.place;
  firm = λ other h. rw (on, e, s.firm other h) refl;
  more = s.more;
  x = x ∷ s.x;
  begins = λ tail h. rw (on, e, s.begins tail h) refl;
  starts = λ none tail h. absurd cc;
}

many_on : {X : Type 0} (end : ℕ) (stops : List ℕ → Bool) (read : ℕ → List ℕ → Result X Flaw) (F G : List Word → Type 0) (w : Word) (ws : List Word) (r : Result X Flaw) →
    Flaws read → ((tail : List Word) → F tail → many stops read tail ≡ Ok ([], tail)) → ((tail : List Word) → F tail → G tail) → stops w.text ≡ false → read w.at w.text ≡ r →
    PartTells end (many stops read) F G ws (many stops read ws) → PartTells end (many stops read) F G (w ∷ ws) (behind (with_rest ws r) (λ x rest. behind (many stops read ws) (with_first x)))
many_on end stops read F G w ws (Ok x) flaws ends goes on e later = many_more end stops read F G w ws x (many stops read ws) on e later
many_on end stops read F G w ws (Err flaw) flaws ends goes on e later = record {
  front = [];
  rest = w ∷ ws;
  parts = refl;
  place = flaws w.at w.text flaw e;
  firm = λ other h. many_flaw stops read w ws other flaw on e h;
  more = [];
  x = [];
  begins = λ tail h. ends tail h;
  starts = λ none tail h. goes tail h;
}

many_tells : {X : Type 0} (end : ℕ) (stops : List ℕ → Bool) (read : ℕ → List ℕ → Result X Flaw) (F G : List Word → Type 0) →
    Flaws read → ((tail : List Word) → F tail → many stops read tail ≡ Ok ([], tail)) → ((tail : List Word) → F tail → G tail) → (ws : List Word) → PartTells end (many stops read) F G ws (many stops read ws)
many_tells end stops read F G flaws ends goes [] = record {
  front = [];
  parts = refl;
  firm = λ other h. many_none stops read other h;
  goes = λ other h. ends other h;
  moves = λ none other h. goes other h;
}
many_tells {X = X} end stops read F G flaws ends goes (w ∷ ws) =
    elim (cases_Bool (stops w.text)) [
      | inl stop ↦
          tells_at end (many stops read) F G (w ∷ ws) (Ok ([], w ∷ ws)) (rw stop refl)
          (record { front = []; parts = refl; firm = λ other h. many_stop stops read w other stop h; goes = λ other h. ends other h; moves = λ none other h. goes other h })
      | inr on ↦
          tells_at end (many stops read) F G (w ∷ ws) (behind (with_rest ws (read w.at w.text)) (λ x rest. behind (many stops read ws) (with_first x))) (rw on refl)
          (many_on end stops read F G w ws (read w.at w.text) flaws ends goes on refl (many_tells end stops read F G flaws ends goes ws))
    ]

many_part : {X : Type 0} (end : ℕ) (stops : List ℕ → Bool) (read : ℕ → List ℕ → Result X Flaw) (F G : List Word → Type 0) →
    Flaws read → ((tail : List Word) → F tail → many stops read tail ≡ Ok ([], tail)) → ((tail : List Word) → F tail → G tail) → IsPart end (many stops read) F G
many_part end stops read F G flaws ends goes = record {
  tells = many_tells end stops read F G flaws ends goes;
  more = [];
  x = [];
  begins = λ tail h. ends tail h;
  starts = λ tail h. goes tail h;
}

-- what a thing that may be there must be for its flaw
abbrev FlawsWhere : {X : Type 0} → (List ℕ → Bool) → (ℕ → List ℕ → Result X Flaw) → Type 0
FlawsWhere {X} is read = (at : ℕ) (t : List ℕ) (flaw : Flaw) → is t ≡ true → read at t ≡ Err flaw → IsAt flaw (record { at = at; text = t })

abbrev some_of : {X : Type 0} → X → List Word → Reading (Option X)
some_of x rest = Ok (Some x, rest)

maybe_off : {X : Type 0} (is : List ℕ → Bool) (read : ℕ → List ℕ → Result X Flaw) (end : ℕ) (w : Word) (other : List Word) → is w.text ≡ false → next_of other ≡ Some w → optional is read end other ≡ Ok (None, other)
maybe_off is read end w [] off h = absurd cc
maybe_off is read end w (v ∷ other) off h =
    let same : v ≡ w = cc in
    let off_v : is v.text ≡ false = subst (λ (u : Word). is u.text ≡ false) (sym same) off in
    rw off_v refl

maybe_none : {X : Type 0} (is : List ℕ → Bool) (read : ℕ → List ℕ → Result X Flaw) (end : ℕ) (other : List Word) → is [] ≡ false → next_of other ≡ None → optional is read end other ≡ Ok (None, other)
maybe_none is read end [] off h = rw off refl
maybe_none is read end (v ∷ other) off h = absurd cc

maybe_flaw : {X : Type 0} (is : List ℕ → Bool) (read : ℕ → List ℕ → Result X Flaw) (end : ℕ) (w : Word) (other : List Word) (flaw : Flaw) → is w.text ≡ true → read w.at w.text ≡ Err flaw → next_of other ≡ Some w →
    optional is read end other ≡ Err flaw
maybe_flaw is read end w [] flaw on e h = absurd cc
maybe_flaw is read end w (v ∷ other) flaw on e h =
    let same : v ≡ w = cc in
    let on_v : is v.text ≡ true = subst (λ (u : Word). is u.text ≡ true) (sym same) on in
    let found : read v.at v.text ≡ Err flaw = subst (λ (u : Word). read u.at u.text ≡ Err flaw) (sym same) e in
    rw (on_v, found) refl

maybe_end : {X : Type 0} (is : List ℕ → Bool) (read : ℕ → List ℕ → Result X Flaw) (end : ℕ) (other : List Word) → is [] ≡ false → other ≡ [] → optional is read end other ≡ Ok (None, other)
maybe_end is read end other off h = maybe_none is read end other off (ap next_of h)

maybe_on : {X : Type 0} (end : ℕ) (is : List ℕ → Bool) (read : ℕ → List ℕ → Result X Flaw) (G : List Word → Type 0) (w : Word) (ws : List Word) (r : Result X Flaw) → FlawsWhere is read → is [] ≡ false → G [] →
    is w.text ≡ true → read w.at w.text ≡ r → PartTells end (optional is read end) End G (w ∷ ws) (behind (with_rest ws r) some_of)
maybe_on end is read G w ws (Ok x) flaws off goes on e = record {
  front = w ∷ [];
  parts = refl;
  firm = λ other h. rw (on, e) refl;
  goes = λ other h. rw (on, e) refl;
  moves = λ none other h. absurd cc;
}
maybe_on end is read G w ws (Err flaw) flaws off goes on e = record {
  front = [];
  rest = w ∷ ws;
  parts = refl;
  place = flaws w.at w.text flaw on e;
  firm = λ other h. maybe_flaw is read end w other flaw on e h;
  more = [];
  x = None;
  begins = λ tail h. maybe_end is read end tail off h;
  starts = λ none tail h. subst G (sym h) goes;
}

maybe_tells : {X : Type 0} (end : ℕ) (is : List ℕ → Bool) (read : ℕ → List ℕ → Result X Flaw) (G : List Word → Type 0) → FlawsWhere is read → is [] ≡ false → G [] →
    (ws : List Word) → PartTells end (optional is read end) End G ws (optional is read end ws)
maybe_tells end is read G flaws off goes [] =
    tells_at end (optional is read end) End G [] (Ok (None, [])) (rw off refl)
    (record { front = []; parts = refl; firm = λ other h. maybe_none is read end other off h; goes = λ other h. maybe_end is read end other off h; moves = λ none other h. subst G (sym h) goes })
maybe_tells {X = X} end is read G flaws off goes (w ∷ ws) =
    elim (cases_Bool (is w.text)) [
      | inl on ↦
          tells_at end (optional is read end) End G (w ∷ ws) (behind (with_rest ws (read w.at w.text)) some_of) (rw on refl)
          (maybe_on end is read G w ws (read w.at w.text) flaws off goes on refl)
      | inr none ↦
          tells_at end (optional is read end) End G (w ∷ ws) (Ok (None, w ∷ ws)) (rw none refl)
          (record { front = []; parts = refl; firm = λ other h. maybe_off is read end w other none h; goes = λ other h. maybe_end is read end other off h; moves = λ empty other h. subst G (sym h) goes })
    ]

maybe_part : {X : Type 0} (end : ℕ) (is : List ℕ → Bool) (read : ℕ → List ℕ → Result X Flaw) (G : List Word → Type 0) → FlawsWhere is read → is [] ≡ false → G [] → IsPart end (optional is read end) End G
maybe_part end is read G flaws off goes = record {
  tells = maybe_tells end is read G flaws off goes;
  more = [];
  x = None;
  begins = λ tail h. maybe_end is read end tail off h;
  starts = λ tail h. subst G (sym h) goes;
}

-- ---- the line's end

abbrev ended_with : {Y : Type 0} → ℕ → Y → List Word → Reading Y
ended_with end y = ended end >>= (λ u. given y)

end_firm : {Y : Type 0} (end : ℕ) (y : Y) (w : Word) (other : List Word) → bytes_eq w.text [] ≡ false → next_of other ≡ Some w → ended_with end y other ≡ Err (Form w.at)
end_firm end y w [] e h = absurd cc
end_firm {Y = Y} end y w (v ∷ other) e h =
    let same : v ≡ w = cc in
    let found : bytes_eq v.text [] ≡ false = subst (λ (u : Word). bytes_eq u.text [] ≡ false) (sym same) e in
    let place : v.at ≡ w.at = ap (λ (u : Word). u.at) same in
    rw (found, place) refl

end_tells_by : {Y : Type 0} (end : ℕ) (y : Y) (G : List Word → Type 0) (w : Word) (ws : List Word) (empty : Bool) → G [] → bytes_eq w.text [] ≡ empty →
    RestTells end (ended_with end y) G (w ∷ ws) (behind (with_rest ws (let r : Result (Unit {0}) Flaw = cond empty (Ok tt) (Err (Form w.at)) in r)) (λ u. given y))
end_tells_by end y G w ws true goes e = tt
end_tells_by end y G w ws false goes e = record {
  front = [];
  rest = w ∷ ws;
  parts = refl;
  place = refl;
  firm = λ other h. end_firm end y w other e h;
  more = [];
  x = y;
  begins = refl;
  starts = λ none. goes;
}

end_tells : {Y : Type 0} (end : ℕ) (y : Y) (G : List Word → Type 0) → G [] → (ws : List Word) → RestTells end (ended_with end y) G ws (ended_with end y ws)
end_tells end y G goes [] = tt
end_tells end y G goes (w ∷ ws) = end_tells_by end y G w ws (bytes_eq w.text []) goes refl

end_rest : {Y : Type 0} (end : ℕ) (y : Y) (G : List Word → Type 0) → G [] → IsRest end (ended_with end y) G
end_rest end y G goes = record { tells = end_tells end y G goes; more = []; x = y; begins = refl; starts = goes }

-- ---- the lines

number_part : (end : ℕ) → IsPart end (one number_at end) Any Any
number_part end = one_part end number_at Any 1 (codes "1") (flaws_of number_at (λ at t. number_placed at at t refl)) (λ at. refl) (λ tail. tt) (λ x e. absurd cc)

mark_flaws : (mark : List ℕ) → Flaws (mark_at mark)
mark_flaws mark = flaws_of (mark_at mark) (mark_placed mark)

atom_rest : (end : ℕ) → IsRest end (atom_line end) Any
atom_rest end =
    then_rest end _ _ Any Any (number_part end) (λ id.
    then_rest end _ _ Any Any (one_part end (mark_at (codes "[")) Any tt (codes "[") (mark_flaws (codes "[")) (λ at. refl) (λ tail. tt) (λ x e. absurd cc)) (λ u.
    then_rest end _ _ Any Any (one_part end name_at Any (codes "x") (codes "x") (flaws_of name_at name_placed) (λ at. refl) (λ tail. tt) (λ x e. absurd cc)) (λ name.
    then_rest end _ _ Any Any (one_part end op_at Any Ge (codes ">=") (flaws_of op_at op_placed) (λ at. refl) (λ tail. tt) (λ x e. absurd cc)) (λ op.
    then_rest end _ _ Any Any (one_part end (value_at op) Any (pos 0) (codes "0") (flaws_of (value_at op) (value_placed op)) (λ at. refl) (λ tail. tt) (λ x e. absurd cc)) (λ value.
    then_rest end _ _ Any Any (one_part end (mark_at (codes "]")) Any tt (codes "]") (mark_flaws (codes "]")) (λ at. refl) (λ tail. tt) (λ x e. absurd cc)) (λ u.
    end_rest end (Atom id name op value) Any tt))))))

many_ends : {X : Type 0} (stops : List ℕ → Bool) (read : ℕ → List ℕ → Result X Flaw) (tail : List Word) → End tail → many stops read tail ≡ Ok ([], tail)
many_ends stops read tail h = many_none stops read tail (ap next_of h)

nought_ends : (tail : List Word) → Nought tail → literals tail ≡ Ok ([], tail)
nought_ends [] h = absurd h
nought_ends (w ∷ tail) h = let stop : is_nought w.text ≡ true = ap is_nought h in many_stop is_nought literal_at w (w ∷ tail) stop refl

literal_flaws : Flaws literal_at
literal_flaws = flaws_of literal_at literal_placed

nought_part : (end : ℕ) (G : List Word → Type 0) → ((tail : List Word) → G (record { at = 0; text = codes "0" } ∷ tail)) → IsPart end (one (mark_at (codes "0")) end) Any G
nought_part end G goes = one_part end (mark_at (codes "0")) G tt (codes "0") (mark_flaws (codes "0")) (λ at. refl) goes (λ x e. absurd cc)

constraint_part : (end : ℕ) → IsPart end (constraint end) End End
constraint_part end = maybe_part end is_constraint constraint_at End (λ at t flaw is e. flaws_of constraint_at constraint_placed at t flaw e) refl refl

late_part : (early : Option ℕ) (end : ℕ) → IsPart end (late_constraint early end) End End
late_part None end = constraint_part end
late_part (Some j) end = given_part end (Some j) End

abbrev Why : Type 0
Why = Option ℕ × Option (List ℕ)

abbrev with_label : Option (List ℕ) → Option ℕ → List Word → Reading Why
with_label l k ws = Ok ((k, l), ws)

with_label_part : (end : ℕ) (l : Option (List ℕ)) (k : Option ℕ) → IsPart end (with_label l k) End End
with_label_part end l k = given_part {X = Why} end (k, l) End

reason_part : (end : ℕ) → IsPart end (reason end) End End
reason_part end =
    then_part end _ _ End End End (constraint_part end) (λ early.
    then_part end _ _ End End End (maybe_part end is_label_field label_at End (λ at t flaw is e. flaws_of label_at label_placed at t flaw e) refl refl) (λ l.
    then_part end (late_constraint early end) (λ k. with_label l k) End End End (late_part early end) (λ k. with_label_part end l k)))

inference_rest : (end : ℕ) → IsRest end (inference_line end) Any
inference_rest end =
    then_rest end _ _ Any Any (number_part end) (λ id.
    then_rest end _ _ Nought Any (many_part end is_nought literal_at Nought Any literal_flaws nought_ends (λ tail h. tt)) (λ premises.
    then_rest end _ _ Any Nought (nought_part end Nought (λ tail. refl)) (λ u.
    then_rest end _ _ End Any (maybe_part end (λ text. not (ends_fields text)) literal_at Any (λ at t flaw is e. literal_flaws at t flaw e) refl tt) (λ implied.
    then_rest end _ _ End End (reason_part end) (λ why.
    end_rest end (Inference id premises implied why.0 why.1) End refl)))))

-- hints, where a word is left
abbrev hints_behind : ℕ → List Word → Reading (List ℕ)
hints_behind end = one (mark_at (codes "0")) end >>= (λ u. numbers)

behind_part : (end : ℕ) → IsPart end (hints_behind end) End Any
behind_part end =
    then_part end (one (mark_at (codes "0")) end) (λ u. numbers) End Any Any (nought_part end Any (λ tail. tt)) (λ u.
    many_part end (λ text. false) number_at End Any (flaws_of number_at (λ at t. number_placed at at t refl)) (many_ends (λ text. false) number_at) (λ tail h. tt))

same_hints : (end : ℕ) (us : List Word) (w : Word) → next_of us ≡ Some w → hints end us ≡ hints_behind end us
same_hints end [] w h = absurd cc
same_hints end (v ∷ us) w h = refl

no_hints : (end : ℕ) (tail : List Word) → tail ≡ [] → hints end tail ≡ Ok ([], tail)
no_hints end [] h = refl
no_hints end (w ∷ tail) h = absurd cc

hints_stuck : (end : ℕ) (w : Word) (ws front rest : List Word) (flaw : Flaw) (more : List Word) (x : List ℕ) → w ∷ ws ≡ front ++ rest → IsAt flaw (front_word end rest) →
    ((other : List Word) → next_of other ≡ next_of rest → hints_behind end (front ++ other) ≡ Err flaw) → ((tail : List Word) → End tail → hints_behind end (front ++ (more ++ tail)) ≡ Ok (x, tail)) →
    Stuck end (hints end) End End (w ∷ ws) flaw
hints_stuck end w ws [] rest flaw more x parts place firm begins = record {
  front = [];
  rest = rest;
  parts = parts;
  place = place;
  firm = λ other h. same_hints end other w (h ∙ sym (ap next_of parts)) ∙ firm other h;
  more = [];
  x = [];
  begins = λ tail h. no_hints end tail h;
  starts = λ none tail h. h;
}
hints_stuck end w ws (v ∷ front) rest flaw more x parts place firm begins = record {
  front = v ∷ front;
  rest = rest;
  parts = parts;
  place = place;
  firm = firm;
  more = more;
  x = x;
  begins = begins;
  starts = λ none tail h. absurd cc;
}

hints_passed : (end : ℕ) (w : Word) (ws front rest : List Word) (x : List ℕ) → w ∷ ws ≡ front ++ rest →
    ((other : List Word) → next_of other ≡ next_of rest → hints_behind end (front ++ other) ≡ Ok (x, other)) → ((other : List Word) → End other → hints_behind end (front ++ other) ≡ Ok (x, other)) →
    Passed (hints end) End End (w ∷ ws) x rest
hints_passed end w ws [] rest x parts firm goes = let wrong = goes [] refl in absurd cc
hints_passed end w ws (v ∷ front) rest x parts firm goes = record { front = v ∷ front; parts = parts; firm = firm; goes = goes; moves = λ none other h. h }

hints_by : (end : ℕ) (w : Word) (ws : List Word) (r : Reading (List ℕ)) → PartTells end (hints_behind end) End Any (w ∷ ws) r → PartTells end (hints end) End End (w ∷ ws) r
hints_by end w ws (Ok t) c = hints_passed end w ws c.front t.1 t.0 c.parts c.firm c.goes
hints_by end w ws (Err flaw) s = hints_stuck end w ws s.front s.rest flaw s.more s.x s.parts s.place s.firm s.begins

hints_tells : (end : ℕ) (ws : List Word) → PartTells end (hints end) End End ws (hints end ws)
hints_tells end [] = record { front = []; parts = refl; firm = λ other h. no_hints end other (nothing_next other h); goes = λ other h. no_hints end other h; moves = λ none other h. h }
hints_tells end (w ∷ ws) = hints_by end w ws (hints_behind end (w ∷ ws)) ((behind_part end).tells (w ∷ ws))

hints_part : (end : ℕ) → IsPart end (hints end) End End
hints_part end = record { tells = hints_tells end; more = []; x = []; begins = λ tail h. no_hints end tail h; starts = λ tail h. h }

nogood_rest : (end : ℕ) → IsRest end (nogood_line end) Any
nogood_rest end =
    then_rest end _ _ Any Any (number_part end) (λ id.
    then_rest end _ _ End Any (many_part end is_nought literal_at End Any literal_flaws (many_ends is_nought literal_at) (λ tail h. tt)) (λ atoms.
    then_rest end _ _ End End (hints_part end) (λ by.
    end_rest end (Nogood id atoms by) End refl)))

conclusion_rest : (end : ℕ) → IsRest end (conclusion_line end) Any
conclusion_rest end =
    then_rest end _ _ Any Any (one_part end claim_at Any Unsat (codes "UNSAT") (flaws_of claim_at claim_placed) (λ at. refl) (λ tail. tt) (λ x e. absurd cc)) (λ claim.
    end_rest end (Conclude claim) Any tt)

kind_rest : (kind : Kind) (end : ℕ) → IsRest end (line_by kind end) Any
kind_rest AtomLine end = atom_rest end
kind_rest InferenceLine end = inference_rest end
kind_rest NogoodLine end = nogood_rest end
kind_rest ConclusionLine end = conclusion_rest end

line_rest : (end : ℕ) → IsRest end (line_of end) Any
line_rest end =
    then_rest end _ _ Any Any (one_part end kind_at Any ConclusionLine (codes "c") kind_flaws (λ at. refl) (λ tail. tt) (λ x e. absurd cc)) (λ kind. kind_rest kind end)

-- ---- a line of bytes

same_refusal : (a b : LineRefusal) → Refused a ≡ Refused b → a ≡ b
same_refusal a b e = cc

told_refusal : (number end : ℕ) (ws : List Word) (r : Reading Line) (refusal : LineRefusal) → RestTells end (line_of end) Any ws r → judged_by number r ≡ Refused refusal → IsFirstRefusal number end ws refusal
told_refusal number end ws (Ok t) refusal s e = absurd cc
told_refusal number end ws (Err flaw) refusal s e = record {
  flaw = flaw;
  named = same_refusal refusal (refusal_of number flaw) (sym e);
  first = record { front = s.front; rest = s.rest; parts = s.parts; place = s.place; firm = s.firm; more = s.more; line = s.x; begins = s.begins };
}

words_refusal : (number end : ℕ) (ws : List Word) (refusal : LineRefusal) → judged_words number end ws ≡ Refused refusal → IsFirstRefusal number end ws refusal
words_refusal number end [] refusal e = absurd cc
words_refusal number end (w ∷ ws) refusal e = told_refusal number end (w ∷ ws) (line_of end (w ∷ ws)) refusal ((line_rest end).tells (w ∷ ws)) e

pub refused_first : (number : ℕ) (bytes : List ℕ) (refusal : LineRefusal) → judged_content number bytes ≡ Refused refusal → IsFirstRefusal number (end_of bytes) (words bytes) refusal
refused_first number bytes refusal e = words_refusal number (end_of bytes) (words bytes) refusal e
