-- The reply for a model and a scaffold that are generated.
use Rattle.std.specs.Prelude.{◌≡◌, ℕ, ◌+◌, ◌*◌, Option, List}
use Rattle.std.proofs.Common.{sym, ◌∙◌, ap, subst}
use Rattle.dp_desk.specs.Channel.{Channel, Files, Grows}
use Rattle.dp_desk.specs.Sight.{Sight}
use Rattle.fz_solve.specs.Solved.{Holds}
use Rattle.dp_command.proofs.Requests.{gen_checks_not, gen_processes_not, gen_proves_not, gen_shows_not}
use Rattle.dp_command.specs.Due.{Said, Writes}
use Rattle.dp_command.specs.Families.{FilesFamily, IsFamily}
use Rattle.dp_command.specs.Replies.{Replies, RepliesTo}
use Rattle.dp_command.specs.Texts.{files_of, generated_line, status_of, text_of}
use Rattle.dp_command.specs.Words.{Gen, IsGen}
use Rattle.dp_command.specs.declared.generate.Family.{Family}
use Rattle.dp_command.specs.declared.reply.Reply.{Reply}
use Rattle.dp_command.specs.declared.reply.Reply.TheVariants.{NoCommand, ModelRefused, Accepted, Unread, Refused, Shown as ShownLog, Processed, Proved, Generated}

-- what is generated belongs to the words that ask for it
pub generated_at : (names : Option Files) (n : ℕ) (model scaffold : List ℕ) (family : Family) → IsFamily n model scaffold family →
    RepliesTo names (Gen n model scaffold) (Generated family)
generated_at names n model scaffold family h = λ words asked.
    record { n = n; model = model; scaffold = scaffold; asked = asked; made = h }

same_line : (a b c d e f : ℕ) → a ≡ d → b ≡ e → c ≡ f → generated_line a b c ≡ generated_line d e f
same_line a b c d e f x y z =
    ap (λ (n : ℕ). generated_line n b c) x ∙ ap (λ (n : ℕ). generated_line d n c) y ∙ ap (λ (n : ℕ). generated_line d e n) z

files_by : (names : Option Files) (words : List (List ℕ)) (reply : Reply) (was now : Sight) → Replies names words reply → IsGen words → status_of reply ≡ 0 →
    Writes (files_of reply) (text_of reply) was now → FilesFamily words was now
files_by names words NoCommand was now due gen e w = absurd cc
files_by names words (ModelRefused refusal) was now due gen e w = absurd cc
files_by names words (Accepted claim) was now due gen e w = absurd (gen_checks_not words gen (due.model, due.log, due.asked))
files_by names words (Unread refusal) was now due gen e w = absurd cc
files_by names words (Refused refusal told) was now due gen e w = absurd cc
files_by names words (ShownLog shown) was now due gen e w = absurd (gen_shows_not words gen (due.log, due.asked))
files_by names words (Processed o) was now due gen e w = absurd (gen_processes_not words gen (due.model, due.scaffold, due.out, due.workers, due.asked))
files_by names words (Proved proving) was now due gen e w = absurd (gen_proves_not words gen (due.model, due.workers, due.most, due.asked))
files_by names words (Generated family) was now due gen e w = record {
  n = due.n;
  model = due.model;
  scaffold = due.scaffold;
  asked = due.asked;
  first = subst (λ (t : List ℕ). Holds now.first t) due.made.model_text w.filed.0;
  second = subst (λ (t : List ℕ). Holds now.second t) due.made.scaffold_text w.filed.1;
  told =
      subst (λ (t : List ℕ). Grows was.answer now.answer t)
      (same_line family.variables family.constraints family.nogoods (2 * due.n + 2) (2 * due.n + 2) (due.n + 1) due.made.variables due.made.constraints due.made.nogoods) w.told;
}

-- at status 0 the model and its scaffold stand in the files
pub family_said : (names : Option Files) (words : List (List ℕ)) (r : ℕ) (was now : Sight) → Said names words r was now → IsGen words → r ≡ 0 → FilesFamily words was now
family_said names words r was now said gen e = files_by names words said.reply was now said.due gen (sym said.stands ∙ e) said.written
