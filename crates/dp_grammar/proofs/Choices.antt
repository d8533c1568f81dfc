-- A choice between lawful productions that stand apart is lawful.
use Rattle.std.proofs.Common.{◌≡◌, Bool, true, false, ◌⊎◌, inl, inr, List, [], ◌∷◌, ◌++◌, refl, ap, ◌∙◌}
use Rattle.dp_grammar.specs.Grammar.{Grammar, verdict, Tells, IsLawful}
use Rattle.dp_grammar.specs.Chain.{mapped}
use Rattle.dp_grammar.specs.Choice.{passes, begins, IsLed, read_either, either, AreApart}
use Rattle.dp_grammar.proofs.Carry.{mapped_verdict, behind}

pub led_begins : {T : Type 0} (test : T → Bool) (says : Bool) (s rest : List T) → IsLed test says s → begins test (s ++ rest) ≡ says
led_begins test says [] rest led = absurd led
led_begins test says (t ∷ s) rest led = led

either_again : {T F X Y : Type 0} (test : T → Bool) (g : Grammar T F X) (h : Grammar T F Y) → AreApart test g h → IsLawful g → IsLawful h
    → (z : X ⊎ Y) (rest : List T) → (either test g h).read ((either test g h).spell z ++ rest) ≡ verdict ((either test g h).fault z) z rest
either_again test g h apart gl hl (inl x) rest =
    ap (λ (b : Bool). read_either b g h (g.spell x ++ rest)) (led_begins test true (g.spell x) rest (apart.first x))
    ∙ ap (mapped inl) (gl.again x rest)
    ∙ mapped_verdict inl (g.fault x) x rest
either_again test g h apart gl hl (inr y) rest =
    ap (λ (b : Bool). read_either b g h (h.spell y ++ rest)) (led_begins test false (h.spell y) rest (apart.second y))
    ∙ ap (mapped inr) (hl.again y rest)
    ∙ mapped_verdict inr (h.fault y) y rest

either_tells : {T F X Y : Type 0} (test : T → Bool) (g : Grammar T F X) (h : Grammar T F Y) → IsLawful g → IsLawful h
    → (text : List T) (b : Bool) → begins test text ≡ b → Tells (either test g h) text (read_either b g h text)
either_tells {T} test g h gl hl text true e =
    behind g (either test g h) inl [] text text refl (λ x. refl) (λ x e. e)
    (λ other same. ap (λ (b : Bool). read_either b g h other) (ap (passes test) same ∙ e))
    (g.read text) (gl.tells text)
either_tells {T} test g h gl hl text false e =
    behind h (either test g h) inr [] text text refl (λ y. refl) (λ y e. e)
    (λ other same. ap (λ (b : Bool). read_either b g h other) (ap (passes test) same ∙ e))
    (h.read text) (hl.tells text)

pub either_lawful : {T F X Y : Type 0} (test : T → Bool) (g : Grammar T F X) (h : Grammar T F Y) → AreApart test g h → IsLawful g → IsLawful h → IsLawful (either test g h)
either_lawful test g h apart gl hl =
    record {
      some = inl gl.some;
      again = either_again test g h apart gl hl;
      tells = λ text. either_tells test g h gl hl text (begins test text) refl;
    }
