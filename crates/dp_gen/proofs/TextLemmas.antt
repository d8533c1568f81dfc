-- Texts of lines, one block after another.
use Rattle.std.proofs.Common.{◌≡◌, ℕ, suc, ◌+◌, ◌-◌, ◌<◌, List, [], ◌∷◌, ◌++◌, map, append_assoc, append-nil, sym, ◌∙◌, ap, arith}
use Rattle.std.specs.Prelude.{codes}
use Rattle.std.specs.List.{flat_map, range_with_len}
use Rattle.std.specs.Fmt.{decimal}
use Rattle.std.proofs.lemmas.Fmt.{decimal_digit}
use Rattle.std.proofs.lemmas.Grind.{flat_map-append}
use Rattle.dp_gen.specs.Family.{blocks, brought, clauses, constrains, declares, joins, links, model_text, names, or_not, q, r, scaffold_text, steps, text_of, variables}

-- ---- lines

abbrev pub ended : List ℕ → List ℕ
ended line = line ++ 10 ∷ []

-- the text of lines and further lines
text_of-append : (xs ys : List (List ℕ)) → text_of (xs ++ ys) ≡ text_of xs ++ text_of ys
text_of-append xs ys = flat_map-append ended xs ys

-- two lines and a rest
two_lines : (a b rest : List ℕ) → a ++ (b ++ rest) ≡ (a ++ (b ++ [])) ++ rest
two_lines a b rest = sym (append_assoc a (b ++ []) rest ∙ ap (λ (t : List ℕ). a ++ t) (append_assoc b [] rest))

-- ---- the lines of a block as they are pushed

two_declared : (a b d e f : List ℕ)
    → (((a ++ d) ++ b) ++ e) ++ ((((f ++ d) ++ b) ++ e) ++ [])
    ≡ a ++ (d ++ (b ++ (e ++ (f ++ (d ++ (b ++ (e ++ [])))))))
two_declared a b d e f = simp append_assoc

two_wanted : (a b c d e f g j m : List ℕ) → (((((a ++ (d ++ (m ++ d))) ++ b) ++ c) ++ (f ++ (j ++ b))) ++ g) ++ e ≡ a ++ (d ++ (m ++ (d ++ (b ++ (c ++ (f ++ (j ++ (b ++ (g ++ e)))))))))
two_wanted a b c d e f g j m = simp append_assoc

two_denied : (a b c d e f g j m : List ℕ) → ((((a ++ (d ++ b)) ++ c) ++ (f ++ ((j ++ (m ++ d)) ++ b))) ++ g) ++ e ≡ a ++ (d ++ (b ++ (c ++ (f ++ (j ++ (m ++ (d ++ (b ++ (g ++ e)))))))))
two_denied a b c d e f g j m = simp append_assoc

one_constrained : (a b d e g : List ℕ) → (((a ++ (d ++ b)) ++ g) ++ e) ++ [] ≡ a ++ (d ++ (b ++ (g ++ (e ++ []))))
one_constrained a b d e g = simp append_assoc

pub brought_text : (k : ℕ) → codes "var bool: q" ++ (decimal k ++ (codes ";\nvar bool: r" ++ (decimal k ++ codes ";\n"))) ≡ text_of (map declares (brought k))
brought_text k = sym (two_declared (codes "var bool: q") (codes ";") (decimal k) (codes "\n") (codes "var bool: r"))

pub q_fails_text : (k : ℕ)
    → codes "constraint bool_clause([r" ++ (decimal k ++ (codes ",q" ++ (decimal k ++ (codes "],[r" ++ (decimal (k - 1) ++ codes "]);\n")))))
    ≡ ended (constrains (or_not (r k ∷ q k ∷ []) (r (k - 1) ∷ [])))
q_fails_text k =
    sym (two_wanted (codes "constraint bool_clause([r") (codes "]") (codes ",") (decimal k) (codes "\n") (codes "[r") (codes ");") (decimal (k - 1)) (codes ",q"))

pub q_holds_text : (k : ℕ)
    → codes "constraint bool_clause([r" ++ (decimal k ++ (codes "],[r" ++ (decimal (k - 1) ++ (codes ",q" ++ (decimal k ++ codes "]);\n")))))
    ≡ ended (constrains (or_not (r k ∷ []) (r (k - 1) ∷ q k ∷ [])))
q_holds_text k =
    sym (two_denied (codes "constraint bool_clause([r") (codes "]") (codes ",") (decimal k) (codes "\n") (codes "[r") (codes ");") (decimal (k - 1)) (codes ",q"))

-- two texts, pushed one after the other
pub two_pushed : (before middle after a b x y : List ℕ) → middle ≡ before ++ a → after ≡ middle ++ b → a ≡ x → b ≡ y → after ≡ before ++ (x ++ (y ++ []))
two_pushed before middle after a b x y first second is_first is_second =
    second ∙ ap (λ (t : List ℕ). t ++ b) first ∙ append_assoc before a b
    ∙ ap (λ (t : List ℕ). before ++ (t ++ b)) is_first ∙ ap (λ (t : List ℕ). before ++ (x ++ t)) (is_second ∙ sym (append-nil y))

pub last_text : (n : ℕ) → codes "constraint bool_clause([],[r" ++ (decimal n ++ codes "]);\n") ≡ text_of (constrains (or_not [] (r n ∷ [])) ∷ [])
last_text n = sym (one_constrained (codes "constraint bool_clause([],[r") (codes "]") (decimal n) (codes "\n") (codes ");"))

-- ---- what the blocks from k to n, and what stands behind them, still give

abbrev pub declared : List ℕ → List ℕ
declared ks = text_of (map declares (flat_map brought ks))

abbrev pub constrained : ℕ → List ℕ → List ℕ
constrained n ks = text_of (map constrains (flat_map links ks ++ or_not [] (r n ∷ []) ∷ []))

abbrev pub stepped : List ℕ → List ℕ
stepped ks = text_of (flat_map steps ks)

pub declared-cons : (k : ℕ) (ks : List ℕ) → declared (k ∷ ks) ≡ text_of (map declares (brought k)) ++ declared ks
declared-cons k ks = two_lines (ended (declares (q k))) (ended (declares (r k))) (declared ks)

pub constrained-cons : (n k : ℕ) (ks : List ℕ) → constrained n (k ∷ ks) ≡ text_of (map constrains (links k)) ++ constrained n ks
constrained-cons n k ks =
    two_lines (ended (constrains (or_not (r k ∷ q k ∷ []) (r (k - 1) ∷ [])))) (ended (constrains (or_not (r k ∷ []) (r (k - 1) ∷ q k ∷ [])))) (constrained n ks)

pub stepped-cons : (k : ℕ) (ks : List ℕ) → stepped (k ∷ ks) ≡ text_of (steps k) ++ stepped ks
stepped-cons k ks = two_lines (ended (names (k + 2) (r k))) (ended (joins (k + 1))) (stepped ks)

range_step : (k n : ℕ) → k < n + 1 → range_with_len k (n + 1 - k) ≡ k ∷ range_with_len (k + 1) (n + 1 - (k + 1))
range_step k n within =
    let e : n + 1 - k ≡ suc (n + 1 - (k + 1)) = omega arith in
    ap (λ (m : ℕ). range_with_len k m) e

-- where a block's text is pushed, what is still to come is what those behind it give
pub push_step : (whole : List ℕ → List ℕ) (block : ℕ → List ℕ) → ((k : ℕ) (ks : List ℕ) → whole (k ∷ ks) ≡ block k ++ whole ks)
    → (k n : ℕ) → k < n + 1 → (before after all : List ℕ) → after ≡ before ++ block k → before ++ whole (range_with_len k (n + 1 - k)) ≡ all
    → after ++ whole (range_with_len (k + 1) (n + 1 - (k + 1))) ≡ all
push_step whole block cons k n within before after all pushed held =
    let rest = range_with_len (k + 1) (n + 1 - (k + 1)) in
    ap (λ (t : List ℕ). t ++ whole rest) pushed ∙ append_assoc before (block k) (whole rest)
    ∙ ap (λ (t : List ℕ). before ++ t) (sym (cons k rest)) ∙ ap (λ (ks : List ℕ). before ++ whole ks) (sym (range_step k n within)) ∙ held

-- at first all blocks are to come
pub push_start : (whole : List ℕ → List ℕ) (n : ℕ) (front before after all : List ℕ) → after ≡ before ++ front → front ++ whole (blocks n) ≡ all
    → after ++ whole (range_with_len 1 (n + 1 - 1)) ≡ before ++ all
push_start whole n front before after all pushed is =
    let e : n + 1 - 1 ≡ n = omega arith in
    ap (λ (t : List ℕ). t ++ whole (range_with_len 1 (n + 1 - 1))) pushed ∙ ap (λ (m : ℕ). (before ++ front) ++ whole (range_with_len 1 m)) e
    ∙ append_assoc before front (whole (blocks n)) ∙ ap (λ (t : List ℕ). before ++ t) is

-- ---- the texts in parts

pub variables_text : (n : ℕ) → codes "var bool: z;\nvar bool: r0;\n" ++ declared (blocks n) ≡ text_of (map declares (variables n))
variables_text n =
    sym (ap (λ (d : List ℕ). ended (declares (codes "z")) ++ (ended (declares (codes "r" ++ d)) ++ declared (blocks n))) (decimal_digit 0 (omega arith)))

pub clauses_text : (n : ℕ) → codes "constraint bool_clause([r0],[]);\n" ++ constrained n (blocks n) ≡ text_of (map constrains (clauses n))
clauses_text n =
    sym (ap (λ (d : List ℕ). ended (constrains (or_not ((codes "r" ++ d) ∷ []) [])) ++ constrained n (blocks n)) (decimal_digit 0 (omega arith)))

pub model_parts : (n : ℕ) → (text_of (map declares (variables n)) ++ text_of (map constrains (clauses n))) ++ codes "solve satisfy;\n" ≡ model_text n
model_parts n =
    let declarations = map declares (variables n) in
    let constraints = map constrains (clauses n) in
    sym (text_of-append (declarations ++ constraints) (codes "solve satisfy;" ∷ [])
    ∙ ap (λ (t : List ℕ). t ++ codes "solve satisfy;\n") (text_of-append declarations constraints))

pub scaffold_parts : (n : ℕ) → (codes "a 1 [z >= 1]\nn 1 1\na 2 [r0 >= 1]\n" ++ text_of (flat_map steps (blocks n))) ++ codes "c UNSAT\n" ≡ scaffold_text n
scaffold_parts n =
    let atom : List ℕ → List ℕ → List ℕ = λ d name. codes "a " ++ d ++ codes " [" ++ name ++ codes " >= 1]" in
    let front : List ℕ → List ℕ → List ℕ → List ℕ = λ one none two.
    ended (atom one (codes "z")) ++ (ended (codes "n 1 1") ++ (ended (atom two (codes "r" ++ none)) ++ text_of (flat_map steps (blocks n) ++ codes "c UNSAT" ∷ []))) in
    sym (ap (λ (d : List ℕ). front d (decimal 0) (decimal 2)) (decimal_digit 1 (omega arith))
    ∙ ap (λ (d : List ℕ). front (codes "1") d (decimal 2)) (decimal_digit 0 (omega arith))
    ∙ ap (λ (d : List ℕ). front (codes "1") (codes "0") d) (decimal_digit 2 (omega arith))
    ∙ ap (λ (t : List ℕ). codes "a 1 [z >= 1]\nn 1 1\na 2 [r0 >= 1]\n" ++ t) (text_of-append (flat_map steps (blocks n)) (codes "c UNSAT" ∷ []))
    ∙ sym (append_assoc (codes "a 1 [z >= 1]\nn 1 1\na 2 [r0 >= 1]\n") (text_of (flat_map steps (blocks n))) (codes "c UNSAT\n")))

-- ---- the whole texts as they are pushed

pub model_pushed : (n : ℕ) (start first second all : List ℕ) → start ≡ [] → first ≡ start ++ text_of (map declares (variables n))
    → second ≡ first ++ text_of (map constrains (clauses n)) → all ≡ second ++ codes "solve satisfy;\n" → all ≡ model_text n
model_pushed n start first second all none declarations constraints goal =
    goal
    ∙ ap (λ (t : List ℕ). t ++ codes "solve satisfy;\n")
    (constraints ∙ ap (λ (t : List ℕ). t ++ text_of (map constrains (clauses n))) (declarations ∙ ap (λ (t : List ℕ). t ++ text_of (map declares (variables n))) none))
    ∙ model_parts n

pub scaffold_pushed : (n : ℕ) (start first second all : List ℕ) → start ≡ [] → first ≡ start ++ codes "a 1 [z >= 1]\nn 1 1\na 2 [r0 >= 1]\n"
    → second ≡ first ++ text_of (flat_map steps (blocks n)) → all ≡ second ++ codes "c UNSAT\n" → all ≡ scaffold_text n
scaffold_pushed n start first second all none front further conclusion =
    conclusion
    ∙ ap (λ (t : List ℕ). t ++ codes "c UNSAT\n")
    (further ∙ ap (λ (t : List ℕ). t ++ text_of (flat_map steps (blocks n))) (front ∙ ap (λ (t : List ℕ). t ++ codes "a 1 [z >= 1]\nn 1 1\na 2 [r0 >= 1]\n") none))
    ∙ scaffold_parts n
