-- A chain of lawful productions is lawful, and so is a lawful production in another shape.
use Rattle.std.proofs.Common.{List, [], ◌++◌, Option, refl, ap, ◌∙◌, append_assoc}
use Rattle.dp_grammar.specs.Grammar.{Reading, Takes, Stops, Grammar, verdict, Tells, IsLawful}
use Rattle.dp_grammar.specs.Chain.{followed, mapped, chain, shaped, behind_mark, before_mark, IsShape}
use Rattle.dp_grammar.proofs.Carry.{mapped_verdict, no_first_fault, chained, behind, within}

chain_tells : {T F X Y : Type 0} (g : Grammar T F X) (next : X → Grammar T F Y) → IsLawful g → ((x : X) → IsLawful (next x))
    → (text : List T) (r : Reading T F X) → Tells g text r → Tells (chain g next) text (followed r (λ x rest. mapped (λ y. (x, y)) ((next x).read rest)))
chain_tells {T} {F} {X} {Y} g next gl nl text (Takes x mid) t =
    behind (next x) (chain g next) (λ y. (x, y)) (g.spell x) text mid t.0
    (λ y. refl)
    (λ y e. no_first_fault (g.fault x) ((next x).spell y) ((next x).fault y) t.1 e)
    (λ other _. ap (λ (r : Reading T F X). followed r (λ x rest. mapped (λ y. (x, y)) ((next x).read rest))) (gl.again x other ∙ ap (λ (o : Option (F × List T)). verdict o x other) t.1))
    ((next x).read mid) ((nl x).tells mid)
chain_tells {T} {F} {X} {Y} g next gl nl text (Stops cause rest) t =
    within g (chain g next) (λ x. (x, (nl x).some)) (λ x. (next x).spell (nl x).some) text cause rest
    (λ x. refl)
    (λ other left _ e. ap (λ (r : Reading T F X). followed r (λ x rest. mapped (λ y. (x, y)) ((next x).read rest))) e)
    t

pub chain_lawful : {T F X Y : Type 0} (g : Grammar T F X) (next : X → Grammar T F Y) → IsLawful g → ((x : X) → IsLawful (next x)) → IsLawful (chain g next)
chain_lawful {T} {F} {X} {Y} g next gl nl =
    record {
      some = (gl.some, (nl gl.some).some);
      again = λ p rest.
          ap (λ (s : List T). (chain g next).read s) (append_assoc (g.spell p.0) ((next p.0).spell p.1) rest)
          ∙ ap (λ (r : Reading T F X). followed r (λ x rest. mapped (λ y. (x, y)) ((next x).read rest))) (gl.again p.0 ((next p.0).spell p.1 ++ rest))
          ∙ chained (g.fault p.0) p.0 ((next p.0).spell p.1) rest (λ x rest. mapped (λ y. (x, y)) ((next x).read rest)) ((next p.0).fault p.1) p
          (ap (mapped (λ y. (p.0, y))) ((nl p.0).again p.1 rest) ∙ mapped_verdict (λ y. (p.0, y)) ((next p.0).fault p.1) p.1 rest);
      tells = λ text. chain_tells g next gl nl text (g.read text) (gl.tells text);
    }

pub shaped_lawful : {T F X Y : Type 0} (make : X → Y) (unmake : Y → X) (g : Grammar T F X) → IsShape make unmake → IsLawful g → IsLawful (shaped make unmake g)
shaped_lawful {T} {F} {X} {Y} make unmake g shape gl =
    record {
      some = make gl.some;
      again = λ y rest.
          ap (mapped make) (gl.again (unmake y) rest)
          ∙ mapped_verdict make (g.fault (unmake y)) (unmake y) rest
          ∙ ap (λ (z : Y). verdict (g.fault (unmake y)) z rest) (shape.makes y);
      tells = λ text. behind g (shaped make unmake g) make [] text text refl
          (λ x. ap g.spell (shape.opens x))
          (λ x e. ap g.fault (shape.opens x) ∙ e)
          (λ other _. refl)
          (g.read text) (gl.tells text);
    }

pub behind_mark_lawful : {T F X : Type 0} (m : Grammar T F (Unit {0})) (g : Grammar T F X) → IsLawful m → IsLawful g → IsLawful (behind_mark m g)
behind_mark_lawful {T} {F} {X} m g ml gl =
    shaped_lawful (λ (p : Unit {0} × X). p.1) (λ (x : X). (tt, x)) (chain m (λ _. g))
    (record { opens = λ p. refl; makes = λ x. refl })
    (chain_lawful m (λ _. g) ml (λ _. gl))

pub before_mark_lawful : {T F X : Type 0} (g : Grammar T F X) (m : Grammar T F (Unit {0})) → IsLawful g → IsLawful m → IsLawful (before_mark g m)
before_mark_lawful {T} {F} {X} g m gl ml =
    shaped_lawful (λ (p : X × Unit {0}). p.0) (λ (x : X). (x, tt)) (chain g (λ _. m))
    (record { opens = λ p. refl; makes = λ x. refl })
    (chain_lawful g (λ _. m) gl (λ _. ml))
