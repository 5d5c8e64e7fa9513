-- Bound turns one after the other.
use Rattle.std.proofs.Common.{◌≡◌, ℕ, ◌+◌, List, ◌∷◌, ◌++◌, ◌∙◌, ap}
use Rattle.std.specs.Prelude.{Ok, Err}
use Rattle.scr_layout.specs.Layout.{Declaration}
use Rattle.cli_binds.specs.declared.fields.Form.{Form}
use Rattle.cli_commands.specs.declared.fault.Fault.{Fault}
use Rattle.cli_commands.specs.declared.status.Status.{Status}
use Rattle.cli_commands.specs.Printed.{Printed}
use Rattle.cli_turns.specs.Binds.{bound_from, bound_of, turn_before, turn_line}
use Rattle.cli_turns.specs.Drafts.{after_text, worse}
use Rattle.cli_turns.proofs.DraftLaws.{after_after}

pub bound : (form : Form) (text : List ℕ) (turn : ℕ) (layout : Declaration) (layouts : List Declaration) (done : List ℕ) (status : Status) (one : Printed)
    → bound_of form layout turn text ≡ Ok one
    → after_text done status (bound_from form text turn (layout ∷ layouts))
    ≡ after_text (done ++ (turn_line turn ++ one.text)) (worse status one.status) (bound_from form text (turn + 1) layouts)
bound form text turn layout layouts done status one is =
    ap (λ z. after_text done status (turn_before turn z (bound_from form text (turn + 1) layouts))) is
    ∙ after_after done (turn_line turn ++ one.text) status one.status (bound_from form text (turn + 1) layouts)

pub not_bound : (form : Form) (text : List ℕ) (turn : ℕ) (layout : Declaration) (layouts : List Declaration) (done : List ℕ) (status : Status) (fault : Fault)
    → bound_of form layout turn text ≡ Err fault
    → after_text done status (bound_from form text turn (layout ∷ layouts)) ≡ Err fault
not_bound form text turn layout layouts done status fault is = ap (λ z. after_text done status (turn_before turn z (bound_from form text (turn + 1) layouts))) is
