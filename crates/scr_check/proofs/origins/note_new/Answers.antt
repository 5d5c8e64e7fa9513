use Rattle.std.proofs.Common.{rules, ◌≡◌, ℕ, List, map, replicate, Option, None, ◌∙◌, ap}
use Rattle.scr_check.specs.declared.origins.Origin.{Origin}
use Rattle.scr_check.specs.Origins.{notes_from, later_or, last_at, kept_at}
use Rattle.scr_check.proofs.OriginLaws.{nothing_kept, or_nothing}
use Rattle.scr_check.proofs.origins.note_new.Goals as goal

pub returns : goal.returns
returns c = λ v is p.
    let records : List (List ℕ) = map (λ bytes. bytes.now) c.args.records.now in
    let nothing : ◌≡◌ {A = List (Option Origin)} c.in_ok-slots.slots.items (replicate c.args.most None) = search rules in
    c.in_ok-note_all.ensures v is p
    ∙ ap (later_or (last_at p (notes_from 0 v records))) (ap (λ (l : List (Option Origin)). kept_at l p) nothing ∙ nothing_kept c.args.most p)
    ∙ or_nothing (last_at p (notes_from 0 v records))
