-- A task that is a reply, and one that is a search.
use Rattle.std.specs.Prelude.{◌≡◌, ℕ, Option, Result, Err, IsErrOf, List}
use Rattle.std.proofs.Common.{ap, subst}
use Rattle.dp_desk.specs.Causes.{Rose}
use Rattle.dp_desk.specs.Channel.{Files}
use Rattle.dp_desk.specs.Sight.{Sight}
use Rattle.dp_command.specs.Due.{LeavesUnread}
use Rattle.dp_command.specs.Inputs.{HasReadCause}
use Rattle.dp_command.specs.Replies.{Replies}
use Rattle.dp_command.specs.Tasks.{IfGood, IsTask, LeavesUnreadBy, Searches}
use Rattle.dp_command.specs.Texts.{status_of}
use Rattle.dp_command.specs.declared.reply.Reply.{Reply}
use Rattle.dp_command.specs.declared.task.Search.{Search}
use Rattle.dp_command.specs.declared.task.Task.{Task}
use Rattle.dp_command.specs.declared.task.Task.TheVariants.{Say, Solve}
use Rattle.dp_command.specs.declared.trouble.Trouble.{Trouble}
use Rattle.dp_command.specs.declared.trouble.Trouble.TheVariants.{ReadFault}

pub reply_due : (names : Option Files) (words : List (List ℕ)) (task : Task) (reply : Reply) → task ≡ Say reply → IsTask names words task → Replies names words reply
reply_due names words task reply is h = subst (λ (t : Task). IsTask names words t) is h

pub reply_good : (X : Type 0) (task : Task) (reply : Reply) → task ≡ Say reply → IfGood task X → status_of reply ≡ 0 → X
reply_good X task reply is h = subst (λ (t : Task). IfGood t X) is h

pub reply_unread : (was now : Sight) (task : Task) (reply : Reply) → task ≡ Say reply → LeavesUnreadBy task was now → LeavesUnread reply was now
reply_unread was now task reply is h = subst (λ (t : Task). LeavesUnreadBy t was now) is h

pub search_due : (names : Option Files) (words : List (List ℕ)) (task : Task) (search : Search) → task ≡ Solve search → IsTask names words task → Searches names words search
search_due names words task search is h = subst (λ (t : Task). IsTask names words t) is h

pub search_good : (X : Type 0) (task : Task) (search : Search) → task ≡ Solve search → IfGood task X → X
search_good X task search is h = subst (λ (t : Task). IfGood t X) is h

pub fault_is : (e : Trouble) → e ≡ ReadFault → IsErrOf {T = Task} (Err e) ReadFault
fault_is e is = ap (λ (t : Trouble). let r : Result Task Trouble = Err t in r) is

-- a read fault is counted
pub fault_rose : (before now : ℕ) (e : Trouble) → HasReadCause {T = Task} before now (Err e) → e ≡ ReadFault → Rose before now
fault_rose before now e h is = h.failed (ap (λ (t : Trouble). let r : Result Task Trouble = Err t in r) is)
