use Rattle.std.proofs.Common.{◌++◌, ◌∙◌, ap, append_assoc, codes}
use Rattle.script_checks.specs.Forms.{quoted, json_name}
use Rattle.script_checks.proofs.form.push_json_name.Goals as goal

pub returns : goal.returns
unfolding json_name
returns c =
    c.in_ok-push_quoted.ensures
    ∙ ap (λ text. text ++ quoted c.args.name.now) c.in_ok-extend_from_slice.ensures.items
    ∙ append_assoc c.args.out.now.items (codes "],\"screen\":") (quoted c.args.name.now)
