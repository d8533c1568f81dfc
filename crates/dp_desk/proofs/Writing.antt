-- What stands while a text is written piece by piece.
use Rattle.std.proofs.Common.{◌≡◌, ℕ, List, [], ◌++◌, take, drop, refl, sym, ◌∙◌, ap, subst, append_assoc}
use Rattle.std.proofs.lemmas.List.{append-nil, take-append-drop}
use Rattle.dp_desk.specs.Channel.{Channel, IsOpen, Grows, GrowsByPart}
use Rattle.dp_desk.proofs.Channels.{grows_by_none, grows_twice, grows_open}

-- all but these last bytes were appended
pub record Written (was now : Channel) (bytes rest : List ℕ) : Type 0 where
  pub front : List ℕ
  pub whole : bytes ≡ front ++ rest
  pub grows : Grows was now front

pub nothing_written : (c : Channel) (bytes : List ℕ) → IsOpen c → Written c c bytes bytes
nothing_written c bytes opened = record { front = []; whole = refl; grows = grows_by_none c opened }

pub written_more : (was mid now : Channel) (bytes rest : List ℕ) (count : ℕ) → Written was mid bytes rest →
    Grows mid now (take count rest) → Written was now bytes (drop count rest)
written_more was mid now bytes rest count w grows = record {
  front = w.front ++ take count rest;
  whole = w.whole ∙ ap (λ r. w.front ++ r) (sym (take-append-drop count rest)) ∙ sym (append_assoc w.front (take count rest) (drop count rest));
  grows = grows_twice was mid now w.front (take count rest) w.grows grows;
}

pub written_open : (was now : Channel) (bytes rest : List ℕ) → Written was now bytes rest → IsOpen now
written_open was now bytes rest w = grows_open was now w.front w.grows

pub all_written : (was now : Channel) (bytes rest : List ℕ) → Written was now bytes rest → rest ≡ [] → Grows was now bytes
all_written was now bytes rest w none =
    subst (λ b. Grows was now b) (sym (w.whole ∙ ap (λ r. w.front ++ r) none ∙ append-nil w.front)) w.grows

pub part_written : (was now : Channel) (bytes rest : List ℕ) → Written was now bytes rest → GrowsByPart was now bytes
part_written was now bytes rest w = record { front = w.front; rest = rest; whole = w.whole; grows = w.grows }
