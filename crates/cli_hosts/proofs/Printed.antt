-- Lines of terminals that were printed one after the other.
use Rattle.std.proofs.Common.{◌≡◌, ◌∙◌, ◌+◌, ℕ, true, false, List, [], ◌∷◌, ◌++◌, Option, Some, None, Result, Ok, Err, refl, sym, ap, subst, inl, inr, append_assoc, append-nil}
use Rattle.std.specs.Io.KnownBytes.{Appends}
use Rattle.scr_layout.specs.Entry.{Declared}
use Rattle.cli_commands.proofs.Prefixes.{appends_more}
use Rattle.cli_sessions.proofs.Serving.{appends_none}
use Rattle.cli_sessions.specs.Printing.{Printing, IsPrinted}
use Rattle.cli_commands.specs.declared.status.Status.{Status}
use Rattle.cli_commands.specs.declared.status.Status.TheVariants.{Done, Findings, BadInput, Failed as HasFailed, NoMemory}
use Rattle.session_hub.specs.declared.hub.Ended.{Ended}
use Rattle.cli_hosts.specs.declared.settling.Settled.{Settled}
use Rattle.cli_hosts.specs.Hosting.{Hosting}
use Rattle.cli_hosts.specs.Words.{Word, word_lines, word_ended, PrintsEnded, Settles}
use Rattle.cli_hosts.specs.Printed.{told_text, PrintsTerminals, PrintsPart, PrintsFront, PrintsMore}

told_more : (entries : List Declared) (first others : List (ℕ × Word)) → told_text entries (first ++ others) ≡ told_text entries first ++ told_text entries others
told_more entries [] others = refl
told_more entries (one ∷ first) others = ap (λ t. word_lines entries one.0 one.1 ++ t) (told_more entries first others) ∙ sym (append_assoc (word_lines entries one.0 one.1) (told_text entries first) (told_text entries others))

pub prints_none : (entries : List Declared) (old : Printing) → PrintsTerminals entries old old
prints_none entries old = record { told = []; written = (appends_none old.written, refl) }

pub prints_then : (entries : List Declared) (old mid new : Printing) → PrintsTerminals entries old mid → PrintsTerminals entries mid new → PrintsTerminals entries old new
prints_then entries old mid new a b = record {
  told = a.told ++ b.told;
  written = (subst (Appends old.written new.written) (sym (told_more entries a.told b.told)) (appends_more old.written mid.written new.written (told_text entries a.told) (told_text entries b.told) a.written.0 b.written.0), b.written.1 ∙ a.written.1);
}

pub prints_front_then : (entries : List Declared) (old mid new : Printing) → PrintsTerminals entries old mid → PrintsFront entries mid new → PrintsFront entries old new
prints_front_then entries old mid new a b = record { middle = b.middle; whole = prints_then entries old mid b.middle a b.whole; last = b.last }

pub prints_whole : (entries : List Declared) (old new : Printing) → PrintsTerminals entries old new → PrintsFront entries old new
prints_whole entries old new a = record { middle = new; whole = a; last = inl refl }

pub prints_one : (entries : List Declared) (old new : Printing) (number : ℕ) (word : Word) → IsPrinted old new (word_lines entries number word) true → PrintsTerminals entries old new
prints_one entries old new number word printed = record {
  told = (number, word) ∷ [];
  written = (subst (Appends old.written new.written) (sym (append-nil (word_lines entries number word))) printed.0, printed.1);
}

pub prints_ended : (entries : List Declared) (ended : Ended Hosting) (old new : Printing) (result : Result Settled Status) → PrintsEnded entries ended old new result → PrintsMore entries old new result
prints_ended entries ended old new (Ok settled) printed = prints_one entries old new ended.number (word_ended ended) printed.0
prints_ended entries ended old new (Err NoMemory) same = record { middle = old; whole = prints_none entries old; last = inl same }
prints_ended entries ended old new (Err HasFailed) part = record { middle = old; whole = prints_none entries old; last = inr (ended.number, word_ended ended, part) }
prints_ended entries ended old new (Err Done) printed = absurd printed
prints_ended entries ended old new (Err Findings) printed = absurd printed
prints_ended entries ended old new (Err BadInput) printed = absurd printed

pub prints_settled : (entries : List Declared) (ended : Option (Ended Hosting)) (old new : Printing) (result : Result (Option Settled) Status) → Settles entries ended old new result → PrintsMore entries old new result
prints_settled entries None old new result (is, same) = subst (PrintsMore entries old new) (sym is) (subst (PrintsTerminals entries old) (sym same) (prints_none entries old))
prints_settled entries (Some ended) old new (Ok (Some settled)) printed = prints_ended entries ended old new (Ok settled) printed
prints_settled entries (Some ended) old new (Ok None) printed = absurd printed
prints_settled entries (Some ended) old new (Err status) printed = prints_ended entries ended old new (Err status) printed
