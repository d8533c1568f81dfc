-- How many bytes have come behind a piece.
use Rattle.std.proofs.Common.{ℕ, ◌+◌, ◌≤◌, ◌^◌, List, ◌++◌, length, arith}
use Rattle.std.proofs.lemmas.List.{length-append}

pub few_more : (front piece : List ℕ) (came : ℕ) → length front ≤ came → length (front ++ piece) ≤ came + length piece
few_more front piece came h = let e = length-append front piece in omega (arith, e, h)

pub small_more : (front piece : List ℕ) (came all : ℕ) → length front ≤ came → came + length piece ≤ all → all ≤ 1000 → length (front ++ piece) ≤ 2 ^ 62
small_more front piece came all h within few = let e = length-append front piece in omega (arith, e, h, within, few)
