-- What the bytes that a reader holds stand for.
use Rattle.std.proofs.Common.{◌≡◌, ℕ, zero, suc, ◌+◌, ◌-◌, ◌<◌, ◌≤◌, true, List, ◌++◌, length, length-append, length-take-le, take, drop, replicate, append_assoc, refl, sym, ap, ◌∙◌, arith, inl, inr}
use Rattle.std.proofs.lemmas.Bool.{cases_lt}
use Rattle.std.proofs.lemmas.List.{drop_all, drop-append-le, length-replicate, take-append-drop, take-append-le, take_all}
use Rattle.std.proofs.lemmas.List.Folds.{list_all-append}
use Rattle.dp_lines.specs.Kept.{IsKept, has_no_feed, is_no_feed}
use Rattle.dp_lines.proofs.RawLaws.{both}
use Rattle.dp_lines.specs.Readers.{IsFull, IsStanding, State, counted, fed, held_back, standing, stands_for}

-- nothing was counted
pub stands_whole : (limit : ℕ) (held : List ℕ) → stands_for limit 0 held ≡ held
stands_whole limit held = take-append-drop limit held

-- the front of what these bytes stand for: those that are held of an overlong line, and those that were counted
abbrev pub front_of : ℕ → ℕ → List ℕ → List ℕ
front_of limit beyond held = take limit held ++ replicate beyond 32

pub by_front : (limit beyond : ℕ) (held : List ℕ) → stands_for limit beyond held ≡ front_of limit beyond held ++ drop limit held
by_front limit beyond held = sym (append_assoc (take limit held) (replicate beyond 32) (drop limit held))

pub length_front : (limit beyond : ℕ) (held : List ℕ) → limit ≤ length held → length (front_of limit beyond held) ≡ limit + beyond
length_front limit beyond held le =
    let blanks : List ℕ = replicate beyond 32 in
    let many : length blanks ≡ beyond = length-replicate {A = ℕ} beyond 32 in
    length-append (take limit held) blanks ∙ ap (λ n. n + length blanks) (length-take-le limit held le) ∙ ap (λ n. limit + n) many

pub length_standing : (limit beyond : ℕ) (held : List ℕ) → length (stands_for limit beyond held) ≡ length held + beyond
length_standing limit beyond held =
    let blanks : List ℕ = replicate beyond 32 in
    let whole = length-append (take limit held) (blanks ++ drop limit held) in
    let back = length-append blanks (drop limit held) in
    let many : length blanks ≡ beyond = length-replicate {A = ℕ} beyond 32 in
    let parts = length-append (take limit held) (drop limit held) in
    let again = ap (λ (t : List ℕ). length t) (take-append-drop limit held) in
    omega (arith, whole, back, many, parts, again)

-- as many bytes as a line may have are the same
pub take_standing : (limit beyond : ℕ) (held : List ℕ) → limit ≤ length held → take limit (stands_for limit beyond held) ≡ take limit held
take_standing limit beyond held le =
    let k = length-take-le limit held le in
    let short : limit ≤ length (take limit held) = omega (arith, k) in
    let all : length (take limit held) ≤ limit = omega (arith, k) in
    take-append-le limit (take limit held) (replicate beyond 32 ++ drop limit held) short ∙ take_all limit (take limit held) all

-- ---- no line feed

blanks_unfed : (n : ℕ) → has_no_feed (replicate n 32) ≡ true
blanks_unfed zero = refl
blanks_unfed (suc n) = blanks_unfed n

pub unfed_append : (t u : List ℕ) → has_no_feed t ≡ true → has_no_feed u ≡ true → has_no_feed (t ++ u) ≡ true
unfed_append t u e f = list_all-append is_no_feed t u ∙ rw (e, f) refl

pub unfed_parts : (t u : List ℕ) → has_no_feed (t ++ u) ≡ true → (has_no_feed t ≡ true) × (has_no_feed u ≡ true)
unfed_parts t u e = both (has_no_feed t) (has_no_feed u) (sym (list_all-append is_no_feed t u) ∙ e)

pub front_unfed : (limit beyond : ℕ) (held : List ℕ) → has_no_feed (take limit held) ≡ true → has_no_feed (front_of limit beyond held) ≡ true
front_unfed limit beyond held e = unfed_append (take limit held) (replicate beyond 32) e (blanks_unfed beyond)

pub standing_unfed : (limit beyond : ℕ) (held : List ℕ) → has_no_feed held ≡ true → has_no_feed (stands_for limit beyond held) ≡ true
standing_unfed limit beyond held e =
    let parts = unfed_parts (take limit held) (drop limit held) (ap has_no_feed (take-append-drop limit held) ∙ e) in
    unfed_append (take limit held) (replicate beyond 32 ++ drop limit held) parts.0 (unfed_append (replicate beyond 32) (drop limit held) (blanks_unfed beyond) parts.1)

-- ---- a piece behind them

pub piece_behind : (limit beyond : ℕ) (held piece : List ℕ) → (0 < beyond → limit ≤ length held) → stands_for limit beyond (held ++ piece) ≡ stands_for limit beyond held ++ piece
piece_behind limit zero held piece h = stands_whole limit (held ++ piece) ∙ ap (λ (t : List ℕ). t ++ piece) (sym (stands_whole limit held))
piece_behind limit (suc k) held piece h =
    let le : limit ≤ length held = h (omega arith) in
    let blanks : List ℕ = replicate (suc k) 32 in
    ap (λ (t : List ℕ). t ++ (blanks ++ drop limit (held ++ piece))) (take-append-le limit held piece le)
    ∙ ap (λ (t : List ℕ). take limit held ++ (blanks ++ t)) (drop-append-le limit held piece le)
    ∙ ap (λ (t : List ℕ). take limit held ++ t) (sym (append_assoc blanks (drop limit held) piece))
    ∙ sym (append_assoc (take limit held) (blanks ++ drop limit held) piece)

-- what is fed stands behind what the reader stood for
pub standing_fed : (s : State) (piece : List ℕ) → IsStanding s → standing (fed s piece) ≡ standing s ++ piece
standing_fed s piece h = piece_behind s.limits.line s.beyond s.held piece (λ some. (h some).full)

full_fed : (limit : ℕ) (held piece : List ℕ) → IsFull limit held → IsFull limit (held ++ piece)
full_fed limit held piece h =
    let le = h.full in
    let z = length-append held piece in
    record { full = omega (arith, z, le); unfed = ap has_no_feed (take-append-le limit held piece le) ∙ h.unfed }

pub fed_stands : (s : State) (piece : List ℕ) → IsStanding s → IsStanding (fed s piece)
fed_stands s piece h = λ some. full_fed s.limits.line s.held piece (h some)

-- ---- a line that is held back

-- the text that stands for this one, of which no more bytes are held than a line may have
abbrev pub stood_for : ℕ → List ℕ → List ℕ
stood_for limit text = stands_for limit (counted limit text) (held_back limit text)

pub unfed_front : (limit : ℕ) (text : List ℕ) → has_no_feed text ≡ true → has_no_feed (take limit text) ≡ true
unfed_front limit text e = (unfed_parts (take limit text) (drop limit text) (ap has_no_feed (take-append-drop limit text) ∙ e)).0

pub full_back : (limit : ℕ) (text : List ℕ) → has_no_feed text ≡ true → 0 < counted limit text → IsFull limit (held_back limit text)
full_back limit text e some =
    let le : limit ≤ length text = omega (arith, some) in
    let k = length-take-le limit text le in
    let all : length (take limit text) ≤ limit = omega (arith, k) in
    record { full = omega (arith, k); unfed = ap has_no_feed (take_all limit (take limit text) all) ∙ unfed_front limit text e }

-- where the line is no longer than a line may be, it is held
pub back_short : (limit : ℕ) (text more : List ℕ) → length text ≤ limit → stands_for limit (counted limit text) (held_back limit text ++ more) ≡ text ++ more
back_short limit text more le =
    let none : length text - limit ≡ 0 = omega (arith, le) in
    ap (λ (n : ℕ). stands_for limit n (take limit text ++ more)) none
    ∙ stands_whole limit (take limit text ++ more)
    ∙ ap (λ (t : List ℕ). t ++ more) (take_all limit text le)

-- else as many bytes as it has stand in its place
pub back_long : (limit : ℕ) (text more : List ℕ) → limit ≤ length text → stands_for limit (counted limit text) (held_back limit text ++ more) ≡ front_of limit (counted limit text) text ++ more
back_long limit text more le =
    let k = length-take-le limit text le in
    let b : ℕ = counted limit text in
    let t : List ℕ = take limit text in
    let short : limit ≤ length t = omega (arith, k) in
    let all : length t ≤ limit = omega (arith, k) in
    ap (λ (u : List ℕ). u ++ (replicate b 32 ++ drop limit (t ++ more))) (take-append-le limit t more short ∙ take_all limit t all)
    ∙ ap (λ (u : List ℕ). t ++ (replicate b 32 ++ u)) (drop-append-le limit t more short ∙ ap (λ (u : List ℕ). u ++ more) (drop_all limit t all))
    ∙ sym (append_assoc t (replicate b 32) more)

-- ---- what the fields keep true

length_cut : (limit : ℕ) (text : List ℕ) → length (take limit text) + (length text - limit) ≡ length text
length_cut limit text =
    elim (cases_lt limit (length text)) [
      | inl lt ↦ let k = length-take-le limit text (omega arith) in omega (arith, k)
      | inr le ↦ let k = ap (λ (t : List ℕ). length t) (take_all limit text le) in omega (arith, k)
    ]

full_cut : (limit : ℕ) (text : List ℕ) → limit ≤ length text → length (take limit text) ≡ limit
full_cut limit text le = length-take-le limit text le

long_text : (clear beyond limit more n : ℕ) → (0 < beyond → clear ≡ limit) → clear ≤ n → more ≡ n - limit → 0 < beyond + more → limit ≤ n
long_text clear beyond limit more n full le e some =
    elim (cases_lt 0 beyond) [
      | inl lt ↦ let k = full lt in omega (arith, k, le)
      | inr none ↦ omega (arith, none, e, some)
    ]

pub kept_back : (bytes : List ℕ) (start clear count passed beyond limit : ℕ) (now : List ℕ) (len more : ℕ) → IsKept bytes start clear count passed beyond limit →
    has_no_feed (drop start bytes) ≡ true → now ≡ take limit (drop start bytes) → len ≡ length now → more ≡ length (drop start bytes) - limit →
    IsKept now 0 len count passed (beyond + more) limit
kept_back bytes start clear count passed beyond limit now len more h unfed e l m =
    let text : List ℕ = drop start bytes in
    let n : length now ≡ length (take limit text) = ap (λ (t : List ℕ). length t) e in
    let z = length_cut limit text in
    let s = h.small in
    let c = h.cleared in
    let all : length now ≤ len = omega (arith, l) in
    let long : 0 < beyond + more → limit ≤ length text = λ some. long_text clear beyond limit more (length text) h.full c m some in
    record {
      taken = omega arith;
      cleared = omega (arith, l);
      no_feed = ap has_no_feed (take_all len now all ∙ e) ∙ unfed_front limit text unfed;
      lines = h.lines;
      small = omega (arith, n, z, s, m);
      full = λ some. (let k = full_cut limit text (long some) in omega (arith, k, n, l));
    }
