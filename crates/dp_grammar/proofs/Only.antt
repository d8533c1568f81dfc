-- The grammar says one thing of a text.
use Rattle.std.proofs.Common.{◌≡◌, suc, ◌<◌, ◌≤◌, inl, inr, List, [], ◌∷◌, ◌++◌, length, Option, Result, Ok, Err, refl, sym, ap, subst, ◌∙◌, append_assoc, length-append, arith}
use Rattle.std.proofs.lemmas.List.{append-nil, append_cancel_right}
use Rattle.std.proofs.lemmas.Bool.{cases_lt}
use Rattle.dp_grammar.specs.Grammar.{Cause, Syntax, Test, Grammar, head, verdict, IsLawful}
use Rattle.dp_grammar.specs.Whole.{CanBegin, IsStuck, IsSyntax, IsTested, Says, finished, whole}
use Rattle.dp_grammar.proofs.Wholes.{alone, earlier, refused_value, whole_says}

-- two cuts of a text with rests of one length are one
same_cut : {T : Type 0} (front rest other left : List T) → front ++ rest ≡ other ++ left → length rest ≡ length left → (front ≡ other) × (rest ≡ left)
same_cut [] rest [] left e len = (refl, e)
same_cut {T} (u ∷ front) rest [] left e len =
    let long : suc (length (front ++ rest)) ≡ length left = ap (λ (q : List T). length q) e in
    absurd (omega (arith, long, length-append front rest, len))
same_cut {T} [] rest (v ∷ other) left e len =
    let long : length rest ≡ suc (length (other ++ left)) = ap (λ (q : List T). length q) e in
    absurd (omega (arith, long, length-append other left, len))
same_cut {T} (u ∷ front) rest (v ∷ other) left e len =
    let first : u ≡ v = cc in
    let others : front ++ rest ≡ other ++ left = cc in
    let both = same_cut front rest other left others len in
    (ap (λ (q : List T). u ∷ q) both.0 ∙ ap (λ (w : T). w ∷ other) first, both.1)

-- where it is stuck, no spelling goes on with the text
no_further : {T F X : Type 0} (g : Grammar T F X) (front rest : List T) (u : T) (m left : List T) → IsStuck g front rest → rest ≡ u ∷ left → CanBegin g (front ++ u ∷ m) → ⊥
no_further g front [] u m left stuck e c = absurd cc
no_further {T} g front (t ∷ rest) u m left stuck e c =
    let is_u : t ≡ u = cc in
    subst (λ (v : T). CanBegin g (front ++ v ∷ []) → ⊥) is_u stuck
    (c.0, m ++ c.1, c.2 ∙ append_assoc front (u ∷ m) c.1 ∙ sym (append_assoc front (u ∷ []) (m ++ c.1)))

not_spelled : {T F X : Type 0} (g : Grammar T F X) (text rest : List T) → IsSyntax g text rest → (x : X) → text ≡ g.spell x → ⊥
not_spelled g text [] q x e = q.stuck x (sym e ∙ q.parts ∙ append-nil q.front)
not_spelled g text (t ∷ rest) q x e = q.stuck (x, rest, sym e ∙ q.parts ∙ sym (append_assoc q.front (t ∷ []) rest))

-- no refusal by syntax before another
not_earlier : {T F X : Type 0} (g : Grammar T F X) (text rest left : List T) → IsSyntax g text rest → IsSyntax g text left → length rest < length left → ⊥
not_earlier {T} g text rest left q p lt =
    let cut = earlier q.front rest p.front left (sym q.parts ∙ p.parts) lt in
    no_further g p.front left cut.0 cut.1 (cut.1 ++ rest) p.stuck cut.3 (subst (CanBegin g) cut.2 q.begins)

one_place : {T F X : Type 0} (g : Grammar T F X) (text rest left : List T) → IsSyntax g text rest → IsSyntax g text left → rest ≡ left
one_place g text rest left q p =
    elim (cases_lt (length rest) (length left)) [
      | inl lt ↦ absurd (not_earlier g text rest left q p lt)
      | inr le ↦ elim (cases_lt (length left) (length rest)) [
        | inl lt ↦ absurd (not_earlier g text left rest p q lt)
        | inr ge ↦ (same_cut q.front rest p.front left (sym q.parts ∙ p.parts) (omega (arith, le, ge))).1
      ]
    ]

-- a test before a refusal by syntax
not_tested_before : {T F X : Type 0} (g : Grammar T F X) (text rest left : List T) (f : F) → IsSyntax g text rest → IsTested g f text left → length rest < length left → ⊥
not_tested_before {T} g text rest left f q p lt =
    let cut = earlier q.front rest p.front left (sym q.parts ∙ p.parts) lt in
    let y = q.begins.0 in
    let more = q.begins.1 in
    let token_is : cut.0 ≡ p.token = let both : cut.0 ∷ (cut.1 ++ rest) ≡ p.token ∷ p.after = sym cut.3 ∙ p.at in cc in
    let spelled : g.spell y ≡ p.front ++ p.token ∷ (cut.1 ++ more) =
    q.begins.2 ∙ ap (λ (s : List T). s ++ more) cut.2 ∙ append_assoc p.front (cut.0 ∷ cut.1) more ∙ ap (λ (t : T). p.front ++ t ∷ (cut.1 ++ more)) token_is in
    let short = q.passes y more f (p.token ∷ (cut.1 ++ more)) q.begins.2 (p.each y (cut.1 ++ more) spelled) in
    absurd (omega (arith, short, length-append cut.1 more))

-- a test at a refusal by syntax or behind it
not_tested_from : {T F X : Type 0} (g : Grammar T F X) (text rest left : List T) (f : F) → IsSyntax g text rest → IsTested g f text left → length left ≤ length rest → ⊥
not_tested_from {T} g text rest left f q p le =
    elim (cases_lt (length left) (length rest)) [
      | inl lt ↦
          let cut = earlier p.front left q.front rest (sym p.parts ∙ q.parts) lt in
          let front_is : p.front ++ p.token ∷ [] ≡ q.front ++ cut.0 ∷ (cut.1 ++ p.token ∷ []) =
          ap (λ (s : List T). s ++ p.token ∷ []) cut.2 ∙ append_assoc q.front (cut.0 ∷ cut.1) (p.token ∷ []) in
          no_further g q.front rest cut.0 (cut.1 ++ p.token ∷ []) (cut.1 ++ left) q.stuck cut.3 (subst (CanBegin g) front_is p.begins)
      | inr ge ↦
          let both = same_cut q.front rest p.front left (sym q.parts ∙ p.parts) (omega (arith, le, ge)) in
          no_further g q.front rest p.token [] p.after q.stuck (both.1 ∙ p.at)
          (subst (λ (s : List T). CanBegin g (s ++ p.token ∷ [])) (sym both.0) p.begins)
    ]

syntax_only : {T F X : Type 0} (g : Grammar T F X) (text rest : List T) → IsSyntax g text rest → (answer : Result X (Cause F × List T)) → Says g text answer → Err (Syntax, rest) ≡ answer
syntax_only g text rest q (Ok x) says = absurd (not_spelled g text rest q x says.0)
syntax_only {T} {F} {X} g text rest q (Err (Syntax, left)) says =
    ap (λ (s : List T). let e : Result X (Cause F × List T) = Err (Syntax, s) in e) (one_place g text rest left q says)
syntax_only g text rest q (Err (Test f, left)) says =
    absurd (elim (cases_lt (length rest) (length left)) [
      | inl lt ↦ not_tested_before g text rest left f q says lt
      | inr le ↦ not_tested_from g text rest left f q says le
    ])

tested_only : {T F X : Type 0} (g : Grammar T F X) → IsLawful g → (text rest : List T) (f : F) → IsTested g f text rest → Err (Test f, rest) ≡ whole g text
tested_only {T} g l text rest f q =
    let y = q.begins.0 in
    let more = q.begins.1 in
    let spelled : g.spell y ≡ q.front ++ q.token ∷ more = q.begins.2 ∙ append_assoc q.front (q.token ∷ []) more in
    let r = refused_value g l y f (q.token ∷ more) (q.each y more spelled) in
    let front_is : r.front ≡ q.front = append_cancel_right r.front q.front (q.token ∷ more) (sym r.parts ∙ spelled) in
    let text_is : text ≡ r.front ++ rest = q.parts ∙ ap (λ (s : List T). s ++ rest) (sym front_is) in
    sym (ap finished (ap g.read text_is ∙ r.firm rest (ap (λ (s : List T). head s) q.at)))

pub only_says : {T F X : Type 0} (g : Grammar T F X) → IsLawful g → (text : List T) (answer : Result X (Cause F × List T)) → Says g text answer → answer ≡ whole g text
only_says {T} {F} g l text (Ok x) says =
    sym (ap finished (alone g l x text (sym says.0) ∙ ap (λ (o : Option (F × List T)). verdict o x []) says.1))
only_says g l text (Err (Syntax, rest)) says = syntax_only g text rest says (whole g text) (whole_says g l text)
only_says g l text (Err (Test f, rest)) says = tested_only g l text rest f says
