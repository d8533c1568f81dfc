-- One output is written, and then another.
use Rattle.std.specs.Prelude.{◌≡◌, ◌⊎◌, ℕ, Option, Some, None, List}
use Rattle.std.proofs.Common.{sym, ◌∙◌, ap, subst, inl, inr}
use Rattle.dp_desk.specs.Channel.{Channel}
use Rattle.dp_desk.specs.Sight.{Sight, output, with_output}
use Rattle.dp_desk.specs.declared.desk.Out.{Out}
use Rattle.dp_desk.specs.declared.desk.Out.TheVariants.{Answer, First, Second}
use Rattle.dp_command.specs.Due.{AreCut, AreFiled, IsCut, IsFiled}
use Rattle.dp_command.specs.Texts.{Filed}

-- one output changed, and then it changed again
pub writes-both : (which : Out) (a b c : Sight) → b ≡ with_output which (output which b) a → c ≡ with_output which (output which c) b → c ≡ with_output which (output which c) a
writes-both Answer a b c h k = k ∙ ap (λ (s : Sight). with_output Answer c.answer s) h
writes-both First a b c h k = k ∙ ap (λ (s : Sight). with_output First c.first s) h
writes-both Second a b c h k = k ∙ ap (λ (s : Sight). with_output Second c.second s) h

-- the first file changed, and then the second
pub files-both : (a b c : Sight) → b ≡ with_output First b.first a → c ≡ with_output Second c.second b → c ≡ with_output Second c.second (with_output First c.first a)
files-both a b c h k =
    k ∙ ap (λ (s : Sight). with_output Second c.second s) h
    ∙ ap (λ (f : Channel). with_output Second c.second (with_output First f a)) (sym (ap (λ (t : Sight). t.first) k))

-- both were written
pub filed-both : (files : Filed) (first second : Option (List ℕ)) (was middle now : Sight) → first ≡ files.0 → second ≡ files.1 → middle ≡ with_output First middle.first was →
    now ≡ with_output Second now.second middle → IsFiled first was.first middle.first → IsFiled second middle.second now.second → AreFiled files was now
filed-both files first second was middle now e f h k one two = (
  subst (λ (c : Channel). IsFiled files.0 was.first c) (sym (ap (λ (t : Sight). t.first) k)) (subst (λ (t : Option (List ℕ)). IsFiled t was.first middle.first) e one),
  subst (λ (c : Channel). IsFiled files.1 c now.second) (ap (λ (t : Sight). t.second) h) (subst (λ (t : Option (List ℕ)). IsFiled t middle.second now.second) f two),
)

-- the first was cut
pub cut-first : (files : Filed) (first : Option (List ℕ)) (was now : Sight) → first ≡ files.0 → now ≡ with_output First now.first was → IsCut first was.first now.first → AreCut files was now
cut-first files first was now e h one = inl (subst (λ (t : Option (List ℕ)). IsCut t was.first now.first) e one, ap (λ (t : Sight). t.second) h)

-- the second was cut behind the first
pub cut-second : (files : Filed) (first second : Option (List ℕ)) (was middle now : Sight) → first ≡ files.0 → second ≡ files.1 → middle ≡ with_output First middle.first was →
    now ≡ with_output Second now.second middle → IsFiled first was.first middle.first → IsCut second middle.second now.second → AreCut files was now
cut-second files first second was middle now e f h k one two =
    inr (
      subst (λ (c : Channel). IsFiled files.0 was.first c) (sym (ap (λ (t : Sight). t.first) k)) (subst (λ (t : Option (List ℕ)). IsFiled t was.first middle.first) e one),
      subst (λ (c : Channel). IsCut files.1 c now.second) (ap (λ (t : Sight). t.second) h) (subst (λ (t : Option (List ℕ)). IsCut t middle.second now.second) f two),
    )
