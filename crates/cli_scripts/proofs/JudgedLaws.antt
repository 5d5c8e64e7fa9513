-- What a judge says of screens, and then of more.
use Rattle.std.proofs.Common.{◌≡◌, ℕ, Bool, true, List, [], ◌∷◌, ◌++◌, Option, refl, sym, ap, ◌∙◌, append_assoc, subst}
use Rattle.std.specs.Bool.{OnTrue}
use Rattle.std.specs.Io.KnownBytes.{Appends}
use Rattle.std.proofs.lemmas.Bool.{OnTrue_at, OnTrue_from}
use Rattle.std.proofs.lemmas.List.{append-nil}
use Rattle.cli_commands.proofs.Prefixes.{appends_more}
use Rattle.script_checks.specs.Report.{Judging, judging_after, report_due}
use Rattle.cli_scripts.specs.Desks.{Worked}
use Rattle.cli_scripts.specs.Judged.{Judges, judged_all, reports_of}
use Rattle.cli_scripts.specs.SentOn.{SentOn}
use Rattle.cli_scripts.proofs.WorkLaws.{written_none}

pub judged_more : (judging : Judging) (early late : List SentOn) → judged_all judging (early ++ late) ≡ judged_all (judged_all judging early) late
judged_more judging [] late = refl
judged_more judging (screen ∷ early) late = judged_more (judging_after judging screen.picture screen.turns) early late

pub reported_more : (judging : Judging) (early late : List SentOn)
    → reports_of judging (early ++ late) ≡ reports_of judging early ++ reports_of (judged_all judging early) late
reported_more judging [] late = refl
reported_more judging (screen ∷ early) late =
    ap (λ z. report_due judging screen.picture screen.turns ++ z) (reported_more (judging_after judging screen.picture screen.turns) early late)
    ∙ sym (append_assoc (report_due judging screen.picture screen.turns) (reports_of (judging_after judging screen.picture screen.turns) early)
    (reports_of (judged_all (judging_after judging screen.picture screen.turns) early) late))

-- screens that were judged, and then those that are handed out next
pub judges_more : (old before mid new : Worked) (judging now later : Judging) (was told : Bool) (written mid_written end : Option (List ℕ))
    → Judges old before judging now was written mid_written → mid.judged ≡ before.judged → mid.collects ≡ before.collects
    → new.judged ≡ mid.judged ++ mid.unjudged → new.collects ≡ mid.collects → later ≡ judged_all now mid.unjudged
    → (told ≡ true → was ≡ true) → OnTrue told (Appends mid_written end (reports_of now mid.unjudged))
    → Judges old new judging later told written end
judges_more old before mid new judging now later was told written mid_written end so kept same grown stays after only more =
    record {
      screens = so.screens ++ mid.unjudged;
      handed = grown ∙ ap (λ z. z ++ mid.unjudged) (kept ∙ so.handed) ∙ append_assoc old.judged so.screens mid.unjudged;
      collects = stays ∙ same ∙ so.collects;
      after = after ∙ ap (λ z. judged_all z mid.unjudged) so.after ∙ sym (judged_more judging so.screens mid.unjudged);
      reported = OnTrue_from told (Appends written end (reports_of judging (so.screens ++ mid.unjudged))) (λ yes.
          subst (Appends written end) (sym (reported_more judging so.screens mid.unjudged))
          (appends_more written mid_written end (reports_of judging so.screens) (reports_of (judged_all judging so.screens) mid.unjudged)
          (OnTrue_at (only yes) so.reported)
          (subst (λ (z : Judging). Appends mid_written end (reports_of z mid.unjudged)) so.after (OnTrue_at yes more))));
    }

-- none were judged yet
pub judges_none : (old : Worked) (judging : Judging) (written : Option (List ℕ)) → Judges old old judging judging true written written
judges_none old judging written =
    record {
      screens = [];
      handed = sym (append-nil old.judged);
      collects = refl;
      after = refl;
      reported = OnTrue_from true (Appends written written []) (λ _. written_none written);
    }
