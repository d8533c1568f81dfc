-- What a read of a desk in memory takes.
use Rattle.std.proofs.Common.{◌≡◌, ℕ, ◌≤◌, List, [], ◌++◌, length, take, drop, min, sym, ◌∙◌, ap, subst, arith}
use Rattle.std.proofs.lemmas.List.{take-append-drop, length-take-le}
use Rattle.std.proofs.Math.Seq.{take-append_seam}
use Rattle.std.specs.Prelude.{Option, Some, None, unwrap_or, option_map}
use Rattle.dp_desk.specs.Channel.{Files, IsOpen, Takes}
use Rattle.dp_desk.specs.Sight.{input}
use Rattle.dp_desk.specs.Stored.{Stored, opened_input, sight_of, bytes_left, taken}
use Rattle.dp_desk.specs.declared.desk.In.{In}
use Rattle.dp_desk.specs.declared.desk.In.TheVariants.{Model, Log}

takes_left : (count : ℕ) (left : Option (List ℕ)) → IsOpen (opened_input left) →
    Takes (opened_input left) (opened_input (option_map (λ l. drop count l) left)) (take count (unwrap_or left []))
takes_left count None opened = absurd opened
takes_left count (Some left) opened = sym (take-append-drop count left)

-- taking bytes of an input takes the first that are left
takes_first : (which : In) (names : List (List ℕ × List ℕ) → Files) (count : ℕ) (s : Stored) → IsOpen (input which (sight_of names s)) →
    Takes (input which (sight_of names s)) (input which (sight_of names (taken count which s))) (take count (bytes_left which s))
takes_first Model names count s opened = takes_left count s.model opened
takes_first Log names count s opened = takes_left count s.log opened

-- the front of a buffer after a read is the front of what was left
front_read : (count piece fits : ℕ) (left rest buffer : List ℕ) → count ≡ min piece (min fits (length left)) →
    buffer ≡ take count left ++ rest → take count buffer ≡ take count left
front_read count piece fits left rest buffer moved is =
    let within : count ≤ length left = omega arith in
    let whole : length (take count left) ≡ count = length-take-le count left within in
    ap (take count) is ∙ ap (λ n. take n (take count left ++ rest)) (sym whole) ∙ take-append_seam (take count left) rest

-- a read takes what came into the buffer
pub read_takes : (which : In) (names : List (List ℕ × List ℕ) → Files) (count piece fits : ℕ) (s now : Stored) (rest buffer : List ℕ) →
    IsOpen (input which (sight_of names s)) → count ≡ min piece (min fits (length (bytes_left which s))) →
    buffer ≡ take count (bytes_left which s) ++ rest → now ≡ taken count which s →
    Takes (input which (sight_of names s)) (input which (sight_of names now)) (take count buffer)
read_takes which names count piece fits s now rest buffer opened moved bytes after =
    subst (λ t. Takes (input which (sight_of names s)) (input which (sight_of names t)) (take count buffer)) (sym after)
    (subst (λ b. Takes (input which (sight_of names s)) (input which (sight_of names (taken count which s))) b)
    (sym (front_read count piece fits (bytes_left which s) rest buffer moved bytes))
    (takes_first which names count s opened))
