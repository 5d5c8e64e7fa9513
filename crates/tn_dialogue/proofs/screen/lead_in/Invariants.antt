use Rattle.std.proofs.Common.{◌≡◌, drop}
use Rattle.tn_dialogue.specs.Screens.{lead_in}
use Rattle.tn_dialogue.proofs.screen.lead_in.Given as goal

abbrev pub invariant-loop-lead : goal.invariant-loop-lead
invariant-loop-lead l = lead_in (drop l.lead-index l.leads) l.key ≡ lead_in l.leads l.key
