-- The string in front of some bytes is the one form there.
use Rattle.std.proofs.Common.{◌≡◌, ◌≢◌, ℕ, suc, ◌+◌, ◌≤◌, Bool, true, false, not, ◌&&◌, cond, eqb, List, [], ◌∷◌, ◌++◌, length, take, drop, get_or, Option, Some, None, refl, sym, ◌∙◌, ap, subst, arith, ◌==◌}
use Rattle.std.proofs.lemmas.List.{length-append, length-take-le, append_assoc, take-append-drop}
use Rattle.std.proofs.lemmas.Bool.{both_ways, eqb-true, eqb-false, eq-eqb, ne_eqb, and_parts, and_left, and_right, and_from, not-true}
use Rattle.fz_token.specs.Forms.{Spells, IsBody, IsString, Says}
use Rattle.fz_token.specs.Quoted.{closed_len, quoted_token, quoted_at}
use Rattle.fz_token.specs.declared.TokenKind.{TokenKind}
use Rattle.fz_token.specs.declared.TokenKind.TheVariants as kind
use Rattle.fz_token.proofs.Classes.{Words, Numbers, Quotes, Marks, class_of, front_class, lacks_class, quote_class}

stays_open : (b : ℕ) (taken : Bool) → (taken ≡ false → b ≢ 34) → (eqb b 34 && not taken) ≡ false
stays_open b true h = and_right (eqb b 34) false refl
stays_open b false h = and_left (eqb b 34) true (ne_eqb b 34 (h refl))

not_quote : (b : ℕ) (taken : Bool) → (eqb b 34 && not taken) ≡ false → taken ≡ false → b ≢ 34
not_quote b true q free same = cc
not_quote b false q free same = let is : eqb b 34 ≡ true = eq-eqb b 34 same in both_ways (eqb b 34 && true) q (and_from (eqb b 34) true is refl)

-- a body and a quote after it are closed there
body_closed : (at : ℕ) (taken : Bool) (body rest : List ℕ) → IsBody taken body → closed_len at taken (body ++ (34 ∷ rest)) ≡ Some (at + length body + 1)
body_closed at taken [] rest h = rw h (let e : at + 0 + 1 ≡ at + 1 = omega arith in ap Some (sym e))
body_closed at taken (b ∷ body) rest h =
    let not_feed : eqb b 10 ≡ false = ne_eqb b 10 h.0 in
    let goes_on_there : (eqb b 34 && not taken) ≡ false = stays_open b taken h.1 in
    let e : at + 1 + length body + 1 ≡ at + suc (length body) + 1 = omega arith in
    rw (not_feed, goes_on_there) (body_closed (at + 1) ((b == 92) && not taken) body rest h.2 ∙ ap Some e)

-- the bytes up to a closing quote
record Closed (at : ℕ) (taken : Bool) (s : List ℕ) (end : ℕ) : Type 0 where
  body : List ℕ
  len : ℕ
  reaches : end ≡ at + len
  within : len ≤ length s
  front : take len s ≡ body ++ (34 ∷ [])
  is_body : IsBody taken body

closes : (at : ℕ) (taken : Bool) (b : ℕ) (rest : List ℕ) (end : ℕ) → (eqb b 34 && not taken) ≡ true → at + 1 ≡ end → Closed at taken (b ∷ rest) end
closes at taken b rest end q e =
    let parts = and_parts (eqb b 34) (not taken) q in
    record {
      body = [];
      len = 1;
      reaches = sym e;
      within = omega arith;
      front = ap (λ x. x ∷ []) (eqb-true b 34 parts.0);
      is_body = not-true taken parts.1;
    }

goes_on : (at : ℕ) (taken : Bool) (b : ℕ) (rest : List ℕ) (end : ℕ) → eqb b 10 ≡ false → (eqb b 34 && not taken) ≡ false →
    Closed (at + 1) ((b == 92) && not taken) rest end → Closed at taken (b ∷ rest) end
goes_on at taken b rest end f q more = record {
  body = b ∷ more.body;
  len = suc more.len;
  reaches = (let r : end ≡ at + 1 + more.len = more.reaches in omega arith);
  within = (let r : more.len ≤ length rest = more.within in omega arith);
  front = ap (λ l. b ∷ l) more.front;
  is_body = (eqb-false b 10 f, λ free. not_quote b taken q free, more.is_body);
}

closed_step : (at : ℕ) (taken : Bool) (b : ℕ) (rest : List ℕ) (end : ℕ) (f q : Bool) → eqb b 10 ≡ f → (eqb b 34 && not taken) ≡ q →
    cond f None (cond q (Some (at + 1)) (closed_len (at + 1) ((b == 92) && not taken) rest)) ≡ Some end →
    (closed_len (at + 1) ((b == 92) && not taken) rest ≡ Some end → Closed (at + 1) ((b == 92) && not taken) rest end) →
    Closed at taken (b ∷ rest) end
closed_step at taken b rest end true q ef eq h later = cc
closed_step at taken b rest end false true ef eq h later = let e : at + 1 ≡ end = cc in closes at taken b rest end eq e
closed_step at taken b rest end false false ef eq h later = goes_on at taken b rest end ef eq (later h)

closed_body : (at : ℕ) (taken : Bool) (s : List ℕ) (end : ℕ) → closed_len at taken s ≡ Some end → Closed at taken s end
closed_body at taken [] end h = cc
closed_body at taken (b ∷ rest) end h =
    closed_step at taken b rest end (eqb b 10) (eqb b 34 && not taken) refl refl h
    (closed_body (at + 1) ((b == 92) && not taken) rest end)

-- a string in front is closed where it ends
string_closed : (b : ℕ) (rest : List ℕ) (n : ℕ) → n ≤ length (b ∷ rest) → IsString (take n (b ∷ rest)) →
    (len : ℕ) × (closed_len 0 false rest ≡ Some len) × (n ≡ suc len)
string_closed b rest n within h =
    let whole : (34 ∷ (h.body ++ (34 ∷ []))) ++ drop n (b ∷ rest) ≡ b ∷ rest = ap (λ w. w ++ drop n (b ∷ rest)) (sym h.spelled) ∙ take-append-drop n (b ∷ rest) in
    let tail : (h.body ++ (34 ∷ [])) ++ drop n (b ∷ rest) ≡ rest = cc in
    let split : h.body ++ (34 ∷ drop n (b ∷ rest)) ≡ rest = sym (append_assoc h.body (34 ∷ []) (drop n (b ∷ rest))) ∙ tail in
    let size : length (take n (b ∷ rest)) ≡ n = length-take-le n (b ∷ rest) within in (
      0 + length h.body + 1,
      subst (λ l. closed_len 0 false l ≡ Some (0 + length h.body + 1)) split (body_closed 0 false h.body (drop n (b ∷ rest)) h.is_body),
      omega (arith, size, ap length h.spelled, length-append h.body (34 ∷ [])),
    )

-- only a string begins with a quote
only_string : (s : List ℕ) (n : ℕ) (k : TokenKind) → class_of (get_or s 0 0) ≡ Quotes → Spells k (take n s) → IsString (take n s)
only_string s n kind.Quoted c h = h
only_string s n kind.Name c h = let other : class_of (get_or s 0 0) ≡ Words = front_class s n kind.Name h in cc
only_string s n (kind.Keyword keyword) c h = let other : class_of (get_or s 0 0) ≡ Words = front_class s n (kind.Keyword keyword) h in cc
only_string s n (kind.Integer value) c h = let other : class_of (get_or s 0 0) ≡ Numbers = front_class s n (kind.Integer value) h in cc
only_string s n kind.Float c h = let other : class_of (get_or s 0 0) ≡ Numbers = front_class s n kind.Float h in cc
only_string s n (kind.Mark m) c h = let other : class_of (get_or s 0 0) ≡ Marks = front_class s n (kind.Mark m) h in cc

answer_says : (at b : ℕ) (rest : List ℕ) (o : Option ℕ) → b ≡ 34 → closed_len 0 false rest ≡ o → Says at (b ∷ rest) (quoted_token at o)
answer_says at b rest None q e =
    let c : class_of b ≡ Quotes = ap class_of q ∙ quote_class in (
      refl,
      q,
      λ n k within h. let found = string_closed b rest n within (only_string (b ∷ rest) n k c h) in
          let some : closed_len 0 false rest ≡ Some found.0 = found.1 in cc,
    )
answer_says at b rest (Some len) q e =
    let c : class_of b ≡ Quotes = ap class_of q ∙ quote_class in
    let closed = closed_body 0 false rest len e in
    let same : len ≡ 0 + closed.len = closed.reaches in
    let equal : closed.len ≡ len = omega arith in
    let bound : closed.len ≤ length rest = closed.within in
    record {
      len = suc len;
      starts = refl;
      ends = omega arith;
      stands = record {
        within = omega arith;
        spelled = record {
          body = closed.body;
          spelled = subst (λ x. x ∷ take len rest ≡ 34 ∷ (closed.body ++ (34 ∷ []))) (sym q)
              (subst (λ l. 34 ∷ take l rest ≡ 34 ∷ (closed.body ++ (34 ∷ []))) equal (ap (λ l. 34 ∷ l) closed.front));
          is_body = closed.is_body;
        };
        longest = λ n other within h. let found = string_closed b rest n within (only_string (b ∷ rest) n other c h) in
            let some : closed_len 0 false rest ≡ Some found.0 = found.1 in
            let same_len : found.0 ≡ len = cc in
            let size : n ≡ suc found.0 = found.2 in
            omega arith;
      };
      keeps_limit = tt;
      has_digits = λ lacks. let other : class_of b ≡ Numbers = lacks_class (b ∷ rest) lacks in cc;
    }

-- where a quote stands in front, the string there is the answer, or that it is not closed
pub string_says : (at : ℕ) (s : List ℕ) → get_or s 0 0 ≡ 34 → Says at s (quoted_at at s)
string_says at [] q = cc
string_says at (b ∷ rest) q = answer_says at b rest (closed_len 0 false rest) q refl
