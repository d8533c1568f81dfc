-- How what calls do to a channel adds up.
use Rattle.std.proofs.Common.{◌≡◌, ◌⊎◌, ◌≤◌, inl, inr, ℕ, List, [], ◌++◌, length, take, refl, sym, ◌∙◌, ap, subst, append_assoc, Option, Some, None}
use Rattle.std.proofs.lemmas.List.{append-nil, take-append-le}
use Rattle.std.proofs.Math.Seq.{take-append_seam}
use Rattle.dp_desk.specs.Channel.{Channel, Shut, Hidden, Shown, Files, IsOpen, Opens, Shows, Starts, Takes, IsAtEnd, Grows, GrowsByPart}

-- a write of nothing
pub grows_by_none : (c : Channel) → IsOpen c → Grows c c []
grows_by_none Shut opened = opened
grows_by_none Hidden opened = tt
grows_by_none (Shown bytes) opened = sym (append-nil bytes)

-- two writes are one of both
pub grows_twice : (a b c : Channel) (x y : List ℕ) → Grows a b x → Grows b c y → Grows a c (x ++ y)
grows_twice Shut b c x y one two = absurd one
grows_twice Hidden Shut c x y one two = absurd one
grows_twice Hidden Hidden Shut x y one two = absurd two
grows_twice Hidden Hidden Hidden x y one two = tt
grows_twice Hidden Hidden (Shown now) x y one two = absurd two
grows_twice Hidden (Shown now) c x y one two = absurd one
grows_twice (Shown was) Shut c x y one two = absurd one
grows_twice (Shown was) Hidden Shut x y one two = absurd two
grows_twice (Shown was) Hidden Hidden x y one two = tt
grows_twice (Shown was) Hidden (Shown now) x y one two = absurd two
grows_twice (Shown was) (Shown mid) Shut x y one two = absurd two
grows_twice (Shown was) (Shown mid) Hidden x y one two = tt
grows_twice (Shown was) (Shown mid) (Shown now) x y one two =
    two ∙ ap (λ m. m ++ y) one ∙ append_assoc was x y

-- what was written to is opened
pub grows_open : (a b : Channel) (x : List ℕ) → Grows a b x → IsOpen b
grows_open Shut b x grows = absurd grows
grows_open Hidden Shut x grows = absurd grows
grows_open Hidden Hidden x grows = tt
grows_open Hidden (Shown now) x grows = absurd grows
grows_open (Shown was) Shut x grows = absurd grows
grows_open (Shown was) Hidden x grows = tt
grows_open (Shown was) (Shown now) x grows = tt

-- it was opened
pub grows_from_open : (a b : Channel) (x : List ℕ) → Grows a b x → IsOpen a
grows_from_open Shut b x grows = absurd grows
grows_from_open Hidden b x grows = tt
grows_from_open (Shown was) b x grows = tt

-- a read of nothing
pub takes_none : (c : Channel) → IsOpen c → Takes c c []
takes_none Shut opened = opened
takes_none Hidden opened = tt
takes_none (Shown left) opened = refl

-- two reads are one of both
pub takes_twice : (a b c : Channel) (x y : List ℕ) → Takes a b x → Takes b c y → Takes a c (x ++ y)
takes_twice Shut b c x y one two = absurd one
takes_twice Hidden Shut c x y one two = absurd one
takes_twice Hidden Hidden Shut x y one two = absurd two
takes_twice Hidden Hidden Hidden x y one two = tt
takes_twice Hidden Hidden (Shown rest) x y one two = absurd two
takes_twice Hidden (Shown rest) c x y one two = absurd one
takes_twice (Shown left) Shut c x y one two = absurd one
takes_twice (Shown left) Hidden c x y one two = absurd one
takes_twice (Shown left) (Shown mid) Shut x y one two = absurd two
takes_twice (Shown left) (Shown mid) Hidden x y one two = absurd two
takes_twice (Shown left) (Shown mid) (Shown rest) x y one two =
    one ∙ ap (λ m. x ++ m) two ∙ sym (append_assoc x y rest)

-- what was read from is opened
pub takes_open : (a b : Channel) (x : List ℕ) → Takes a b x → IsOpen b
takes_open Shut b x takes = absurd takes
takes_open Hidden Shut x takes = absurd takes
takes_open Hidden Hidden x takes = tt
takes_open Hidden (Shown rest) x takes = absurd takes
takes_open (Shown left) Shut x takes = absurd takes
takes_open (Shown left) Hidden x takes = absurd takes
takes_open (Shown left) (Shown rest) x takes = tt

takes_from : (b : Channel) (left x : List ℕ) → Takes (Shown left) b x →
    (rest : List ℕ) × (b ≡ Shown rest) × (left ≡ x ++ rest)
takes_from Shut left x takes = absurd takes
takes_from Hidden left x takes = absurd takes
takes_from (Shown rest) left x takes = (rest, refl, takes)

-- what is left of an input that is told is told after a read
pub takes_shown : (a b : Channel) (left x : List ℕ) → a ≡ Shown left → Takes a b x →
    (rest : List ℕ) × (b ≡ Shown rest) × (left ≡ x ++ rest)
takes_shown a b left x is takes = takes_from b left x (subst (λ c. Takes c b x) is takes)

-- an input that is told is at its end where nothing is left
pub at_end_shown : (a : Channel) (left : List ℕ) → a ≡ Shown left → IsAtEnd a → left ≡ []
at_end_shown a left is end = let P : Channel → Type 0 = IsAtEnd in subst P is end

grows_to : (a : Channel) (now x : List ℕ) → Grows a (Shown now) x →
    (was : List ℕ) × (a ≡ Shown was) × (now ≡ was ++ x)
grows_to Shut now x grows = absurd grows
grows_to Hidden now x grows = absurd grows
grows_to (Shown was) now x grows = (was, refl, grows)

-- what is told of an output after a write was told before it, and is what was there and the bytes
pub grows_shown : (a b : Channel) (now x : List ℕ) → b ≡ Shown now → Grows a b x →
    (was : List ℕ) × (a ≡ Shown was) × (now ≡ was ++ x)
grows_shown a b now x is grows = grows_to a now x (subst (λ c. Grows a c x) is grows)

-- an output that was just opened is opened, and holds nothing where it is told
pub starts_open : (a : Channel) → Starts a → IsOpen a
starts_open Shut starts = starts
starts_open Hidden starts = tt
starts_open (Shown bytes) starts = tt

pub starts_shown : (a : Channel) (bytes : List ℕ) → a ≡ Shown bytes → Starts a → bytes ≡ []
starts_shown a bytes is starts = let P : Channel → Type 0 = Starts in subst P is starts

shows_open : (o : Option (List ℕ)) (now : Channel) → Shows o now → IsOpen now
shows_open None now shows = absurd shows
shows_open (Some bytes) now shows = subst IsOpen (sym shows) tt

shows : (o : Option (List ℕ)) (now : Channel) → Shows o now → (bytes : List ℕ) × (o ≡ Some bytes) × (now ≡ Shown bytes)
shows None now is = absurd is
shows (Some bytes) now is = (bytes, refl, is)

-- an input that was opened is open
pub opens_open : (names : Option Files) (name : List ℕ) (now : Channel) → Opens names name now → IsOpen now
opens_open None name now opens = opens
opens_open (Some files) name now opens = shows_open (files name) now opens

-- where names are told, what an opened input shows is what its name holds
pub opens_shown : (names : Option Files) (files : Files) (name : List ℕ) (now : Channel) → names ≡ Some files →
    Opens names name now → (bytes : List ℕ) × (files name ≡ Some bytes) × (now ≡ Shown bytes)
opens_shown names files name now is opens = shows (files name) now (subst (λ n. Opens n name now) is opens)

-- where names are told, a name that holds nothing is not opened
pub opens_no_absent : (names : Option Files) (files : Files) (name : List ℕ) (now : Channel) → names ≡ Some files →
    files name ≡ None → Opens names name now → ⊥
opens_no_absent names files name now is absent opens =
    subst (λ o. Shows o now) absent (subst (λ n. Opens n name now) is opens)

-- bytes that were read are the first of those that were left
pub takes_front : (a b : Channel) (left x : List ℕ) → a ≡ Shown left → Takes a b x → take (length x) left ≡ x
takes_front a b left x is takes =
    let t = takes_shown a b left x is takes in ap (take (length x)) t.2 ∙ take-append_seam x t.0

-- an input that was read to its end gave all that was left
pub takes_all : (a b : Channel) (left x : List ℕ) → a ≡ Shown left → Takes a b x → IsAtEnd b → left ≡ x
takes_all a b left x is takes end =
    let t = takes_shown a b left x is takes in
    t.2 ∙ ap (λ r. x ++ r) (at_end_shown b t.0 t.1 end) ∙ append-nil x

-- an input that was read to its end, or to a bound, gave all that is left of it up to that bound
pub takes_up_to : (a b : Channel) (left x : List ℕ) (bound : ℕ) → a ≡ Shown left → Takes a b x → IsAtEnd b ⊎ bound ≤ length x →
    take bound left ≡ take bound x
takes_up_to a b left x bound is takes (inl end) = ap (take bound) (takes_all a b left x is takes end)
takes_up_to a b left x bound is takes (inr enough) =
    let t = takes_shown a b left x is takes in ap (take bound) t.2 ∙ take-append-le bound x t.0 enough

-- all of the bytes is a part of them
pub grows_by_all : (a b : Channel) (x : List ℕ) → Grows a b x → GrowsByPart a b x
grows_by_all a b x grows = record { front = x; rest = []; whole = sym (append-nil x); grows = grows }

-- a part of a front is a part of the whole
pub grows_by_front : (a b : Channel) (x y : List ℕ) → GrowsByPart a b x → GrowsByPart a b (x ++ y)
grows_by_front a b x y part = record {
  front = part.front;
  rest = part.rest ++ y;
  whole = ap (λ w. w ++ y) part.whole ∙ append_assoc part.front part.rest y;
  grows = part.grows;
}

-- a write, and then a part of another
pub grows_then_part : (a b c : Channel) (x y : List ℕ) → Grows a b x → GrowsByPart b c y → GrowsByPart a c (x ++ y)
grows_then_part a b c x y grows part = record {
  front = x ++ part.front;
  rest = part.rest;
  whole = ap (λ w. x ++ w) part.whole ∙ sym (append_assoc x part.front part.rest);
  grows = grows_twice a b c x part.front grows part.grows;
}

-- after a part of the bytes what was written to is open
pub part_open : (a b : Channel) (x : List ℕ) → GrowsByPart a b x → IsOpen b
part_open a b x part = grows_open a b part.front part.grows

-- what is told after a part of the bytes was told before it, and is what was there and a front of them
pub part_shown : (a b : Channel) (now x : List ℕ) → b ≡ Shown now → GrowsByPart a b x →
    (was : List ℕ) × (front : List ℕ) × (rest : List ℕ) × (a ≡ Shown was) × (now ≡ was ++ front) × (x ≡ front ++ rest)
part_shown a b now x is part =
    let g = grows_shown a b now part.front is part.grows in (g.0, part.front, part.rest, g.1, g.2, part.whole)
