use Rattle.std.proofs.Common.{◌∙◌, ap, arith}
use Rattle.scr_layout.specs.Entry.{Declared}
use Rattle.scr_layout.proofs.LocatedLaws.{located_push, named_push}
use Rattle.scr_layout.proofs.listed.Listed.with.Goals as goal

pub invariant_of-result : goal.invariant_of-result
invariant_of-result c =
    rw c.in_ok-push.ensures.items (
      named_push c.self.inside.entries.items c.self.inside.names c.insert.new.self c.in_ok-from_str.field-0 c.args.entry c.self.invariant.0 (c.in_ok-from_str.ensures.ok ∙ c.deref.ensures ∙ ap (λ (e : Declared). e.name) c.entry.view_is) c.in_ok-insert.ensures.updates,
      located_push c.self.inside.entries.items c.self.inside.table.items c.add.new.entries.items c.args.entry (record { place = c.entry.inside.place; index = c.len.result }) c.self.invariant.1 (ap (λ (e : Declared). e.place) c.entry.view_is) (omega (arith, c.len.ensures)) c.add.ensures.rising c.in_ok-add.ensures.added,
    )
