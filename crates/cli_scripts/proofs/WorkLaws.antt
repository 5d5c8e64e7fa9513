-- What is written of the answers that are handed out.
use Rattle.std.proofs.Common.{◌≡◌, ℕ, true, List, [], ◌++◌, Option, None, Some, sym, ap, ◌∙◌, append_assoc}
use Rattle.std.specs.Io.KnownBytes.{Appends}
use Rattle.std.proofs.lemmas.List.{append-nil}
use Rattle.cli_commands.proofs.Prefixes.{appends_more}
use Rattle.cli_scripts.specs.declared.came.Wants.{Wants}
use Rattle.cli_scripts.specs.declared.came.Wants.TheVariants.{Line, Need}
use Rattle.cli_scripts.specs.declared.came.Wants.TheVariants as wanted
use Rattle.cli_scripts.specs.Desks.{Worked}
use Rattle.cli_scripts.specs.Machines.{Scripted, AnswersSo}
use Rattle.cli_scripts.specs.Worlds.{Exchanged, Tells, TellsAll, Took, is_need}

-- all of them is a front of them; nothing was handed out since
pub told_front : (old mid new : Scripted) (written now : Option (List ℕ)) → TellsAll old mid written now → new.telling.gone ≡ mid.telling.gone
    → Tells old new written now
told_front old mid new written now (text, is, all) same = (text, same ∙ is, (text, [], sym (append-nil text), all))

-- all of them, and then what was written of more
pub told_more : (old before mid new : Scripted) (written now end : Option (List ℕ)) → TellsAll old before written now
    → mid.telling.gone ≡ before.telling.gone → Tells mid new now end → Tells old new written end
told_more old before mid new written now end (text, is, all) same (more, so, (front, rest, cut, some)) = (
  text ++ more,
  so ∙ ap (λ z. z ++ more) (same ∙ is) ∙ append_assoc old.telling.gone text more,
  (text ++ front, rest, ap (λ z. text ++ z) cut ∙ sym (append_assoc text front rest), appends_more written now end text front all some),
)

-- all of them, and then all of more
pub told_all : (old before mid new : Scripted) (written now end : Option (List ℕ)) → TellsAll old before written now
    → mid.telling.gone ≡ before.telling.gone → TellsAll mid new now end → TellsAll old new written end
told_all old before mid new written now end (text, is, all) same (more, so, some) = (
  text ++ more,
  so ∙ ap (λ z. z ++ more) (same ∙ is) ∙ append_assoc old.telling.gone text more,
  appends_more written now end text more all some,
)

-- what was exchanged, and then what a turn heard and what was sent after it
pub exchanged_more : (old before mid handed new end : Worked)
    (sent sent_mid sent_now sent_end received received_mid received_now received_end given : List ℕ)
    → Exchanged old before sent sent_mid received received_mid → Took before mid sent_mid sent_now received_mid received_now
    → handed.gone ≡ mid.gone → handed.heard ≡ mid.heard → new.gone ≡ handed.gone ++ given → sent_end ≡ sent_now ++ given
    → new.heard ≡ handed.heard → received_end ≡ received_now → end ≡ new → Exchanged old end sent sent_end received received_end
exchanged_more old before mid handed new end sent sent_mid sent_now sent_end received received_mid received_now received_end given
    i t same_gone same_heard grows sends hears comes is =
    record {
      given = i.given ++ given;
      heard = i.heard ++ t.heard;
      gone = ap (λ (w : Worked). w.gone) is ∙ grows ∙ ap (λ z. z ++ given) (same_gone ∙ t.gone ∙ i.gone) ∙ append_assoc old.gone i.given given;
      went = sends ∙ ap (λ z. z ++ given) (t.went ∙ i.went) ∙ append_assoc sent i.given given;
      took = ap (λ (w : Worked). w.heard) is ∙ hears ∙ same_heard ∙ t.took ∙ ap (λ z. z ++ t.heard) i.took ∙ append_assoc old.heard i.heard t.heard;
      came = comes ∙ t.came ∙ ap (λ z. z ++ t.heard) i.came ∙ append_assoc received i.heard t.heard;
    }

-- what was exchanged, and then what a turn heard alone
pub exchanged_then : (old before mid : Worked) (sent sent_mid sent_now received received_mid received_now : List ℕ)
    → Exchanged old before sent sent_mid received received_mid → Took before mid sent_mid sent_now received_mid received_now
    → Exchanged old mid sent sent_now received received_now
exchanged_then old before mid sent sent_mid sent_now received received_mid received_now i t =
    record {
      given = i.given;
      heard = i.heard ++ t.heard;
      gone = t.gone ∙ i.gone;
      went = t.went ∙ i.went;
      took = t.took ∙ ap (λ z. z ++ t.heard) i.took ∙ append_assoc old.heard i.heard t.heard;
      came = t.came ∙ ap (λ z. z ++ t.heard) i.came ∙ append_assoc received i.heard t.heard;
    }

-- a line is under way where something is needed for it
pub busy_after : (wants : Wants) (old new : Scripted) → AnswersSo true old wants new → new.is_busy ≡ is_need wants
busy_after Line old new answers = answers.1
busy_after wanted.Nothing old new answers = answers.1
busy_after (Need need) old new answers = answers.1

-- nothing was exchanged yet
pub exchanged_none : (old : Worked) (sent received : List ℕ) → Exchanged old old sent sent received received
exchanged_none old sent received =
    record {
      given = [];
      heard = [];
      gone = sym (append-nil old.gone);
      went = sym (append-nil sent);
      took = sym (append-nil old.heard);
      came = sym (append-nil received);
    }

pub written_none : (written : Option (List ℕ)) → Appends written written []
written_none None = tt
written_none (Some bytes) = sym (append-nil bytes)

-- and nothing told
pub told_none : (old : Scripted) (written : Option (List ℕ)) → TellsAll old old written written
told_none old written = ([], sym (append-nil old.telling.gone), written_none written)
